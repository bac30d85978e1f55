use Rattle.std.proofs.Common.{rules, ℕ, sym, subst}
use Rattle.channel_plain.specs.Picks.{PlainState, Picked}
use Rattle.channel_plain.specs.Holding.{Takes}
use Rattle.channel_plain.specs.Steps.{IsPick}
use Rattle.channel_plain.proofs.AskPicks.{running}
use Rattle.channel_plain.proofs.ends.Ends.ask_pick.Goals as goal

pub returns-then-not-rests-clause-ok : goal.returns-then-not-rests-clause-ok
returns-then-not-rests-clause-ok g c = let s : PlainState = c.args.self.now.channel in let r : ℕ = c.step.ensures.0 in
    let p = subst (λ (p : Picked). Takes g.K.Clock.taken g.K.Clock.tells c.args.self.now.clock c.step.new.self.clock p.reads r × IsPick p c.step.new.self.channel c.step.result) (sym (running s.ask.stage (search rules) c.args.calls.now r s)) (c.step.ensures.1, c.step.ensures.2) in
    (r, p.0, p.1)
