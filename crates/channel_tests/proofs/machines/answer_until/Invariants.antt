use Rattle.std.proofs.Common.{◌≡◌}
use Rattle.channel_tests.proofs.machines.answer_until.Given as goal

abbrev pub invariant-loop : goal.invariant-loop
invariant-loop l = l.answer.wiring ≡ l.initial.answer.wiring
