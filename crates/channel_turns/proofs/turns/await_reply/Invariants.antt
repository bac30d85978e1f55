use Rattle.channel_turns.specs.Counts.{Spent}
use Rattle.channel_turns.proofs.Polls.{Going}
use Rattle.channel_turns.proofs.turns.await_reply.Given as goal

abbrev pub invariant-loop : goal.invariant-loop
invariant-loop g l = Going g.E.Executor.exec_of l.initial.ends.state l.counter l.ends.state × Spent l.counter l.counter l.counter l.initial.ends.counts l.ends.counts
