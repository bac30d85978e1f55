use Rattle.std.proofs.Common.{sym, subst}
use Rattle.channel_plain.specs.Picks.{PlainState}
use Rattle.channel_plain.specs.Standing.{IsServing}
use Rattle.channel_plain.proofs.JournalIsGood.{is_good}
use Rattle.channel_plain.proofs.ServeKeeps.{picked_serving}
use Rattle.channel_plain.proofs.plain.Plain.pick.Goals as goal

pub returns-clause-serving : goal.returns-clause-serving
returns-clause-serving g c = let p = c.in_ok-pick.ensures.ok in
    subst (λ (z : PlainState). IsServing c.args.calls.now z) (sym p.2.0) (picked_serving g.E.Executor.exec_of g.E.Executor.is_state g.E.Executor.room_of c.args.calls.now c.args.side p.0 c.args.self.now.channel c.stand.ensures.stands c.requires.serving)

pub returns-clause-good : goal.returns-clause-good
returns-clause-good g c = is_good c.history_laws.ensures g.E.Executor.exec_of g.E.Executor.is_state g.E.Executor.room_of c.side_pick-picked.new.self.channel c.stand-2.ensures.stands c.stand-2.ensures.limits

pub returns-in_err-pick-clause-good : goal.returns-in_err-pick-clause-good
returns-in_err-pick-clause-good g c = is_good c.history_laws.ensures g.E.Executor.exec_of g.E.Executor.is_state g.E.Executor.room_of c.side_pick-picked.new.self.channel c.stand-2.ensures.stands c.stand-2.ensures.limits
