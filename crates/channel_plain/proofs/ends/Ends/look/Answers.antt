use Rattle.std.proofs.Common.{◌≡◌, true, sym, subst}
use Rattle.pcc_steps.specs.declared.ask.AskStage.TheVariants.{AskRest}
use Rattle.pcc_steps.specs.Asking.{Ask}
use Rattle.channel_plain.specs.Weaving.{Clocked}
use Rattle.channel_plain.specs.Picks.{PlainState}
use Rattle.channel_plain.specs.Standing.{Holds, channel_of}
use Rattle.channel_plain.proofs.Keeps.{look_holds}
use Rattle.channel_plain.proofs.ends.Ends.look.Goals as goal

pub invariant_of-self : goal.invariant_of-self
invariant_of-self g c = let x = c.self.inside in let s : PlainState = channel_of x.words.items x.ask x.answer (g.E.Executor.state x.device) (g.E.Executor.state x.first.value) x.calls.calls x.executed.commands in let exec = g.E.Executor.exec_of in let is_state = g.E.Executor.is_state in let room_of = g.E.Executor.room_of in
    subst (λ (a : Ask). Holds exec is_state room_of (record s { ask = a }) x.executed.ready x.executed.room) (sym c.ask_look.ensures)
    (look_holds exec is_state room_of c.asking_laws.ensures.look s x.executed.ready x.executed.room (subst (λ (z : Clocked _). z.channel.ask.stage ≡ AskRest) (sym c.self.view_is) c.requires.rests) (subst (λ (z : Clocked _). z.channel.ask.in_flight ≡ true) (sym c.self.view_is) c.requires.flies) (subst (λ (z : Clocked _). z.channel.calls.begun ≡ true) (sym c.self.view_is) c.requires.begun) c.self.invariant)
