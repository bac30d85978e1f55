use Rattle.channel_plain.proofs.PickLoop.{Loops}
use Rattle.channel_plain.proofs.weaving.pick_all.Given as goal

abbrev pub invariant-loop-place : goal.invariant-loop-place
invariant-loop-place g l = Loops g.K.Clock.taken g.K.Clock.tells g.E.Executor.exec_of l.calls g.E.Executor.is_state g.E.Executor.room_of g.O.LineSink.took l.initial.plain l.picks l.place l.initial.out l.out l.plain
