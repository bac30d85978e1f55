use Rattle.std.proofs.Common.{◌≡◌, true, refl, sym, subst}
use Rattle.pcc_steps.specs.declared.ask.AskStage.TheVariants.{AskRest}
use Rattle.pcc_steps.specs.Asking.{Ask}
use Rattle.channel_plain.specs.Weaving.{Clocked}
use Rattle.channel_plain.specs.Picks.{CallsState, PlainState, call_begun}
use Rattle.channel_plain.specs.Standing.{Holds, channel_of}
use Rattle.channel_plain.proofs.Keeps.{rest_holds}
use Rattle.channel_plain.proofs.ends.Ends.begin.Goals as goal

pub invariant_of-self : goal.invariant_of-self
invariant_of-self g c = let x = c.self.inside in let s : PlainState = channel_of x.words.items x.ask x.answer (g.E.Executor.state x.device) (g.E.Executor.state x.first.value) x.calls.calls x.executed.commands in let exec = g.E.Executor.exec_of in let is_state = g.E.Executor.is_state in let room_of = g.E.Executor.room_of in
    subst (λ (z : Ask × CallsState). Holds exec is_state room_of (record s { ask = z.0; calls = z.1 }) x.executed.ready x.executed.room) (λ i. (sym c.ask_budget.ensures i, (sym c.begin.ensures i).calls))
    (rest_holds exec is_state room_of c.asking_laws.ensures.budget s x.executed.ready x.executed.room true c.args.call.now.polls (call_begun s.calls) (subst (λ (z : Clocked _). z.channel.ask.stage ≡ AskRest) (sym c.self.view_is) c.requires.rests) refl refl (λ e. (refl, c.requires.polls)) c.self.invariant)
