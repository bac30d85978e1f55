use Rattle.std.proofs.Common.{◌≡◌}
use Rattle.channel_turns.proofs.AnswerRuns.{AnswerWent}
use Rattle.channel_turns.proofs.runs.finish_answer.Given as goal

abbrev pub invariant-loop : goal.invariant-loop
invariant-loop g l = AnswerWent g.E.Executor.exec_of g.E.Executor.is_state g.E.Executor.room_of l.initial.words l.initial.answer (g.E.Executor.state l.initial.device) l.most l.counter l.words l.answer (g.E.Executor.state l.device)
    × (g.E.Executor.room_of (g.E.Executor.state l.device) ≡ l.answer.wiring.room)
