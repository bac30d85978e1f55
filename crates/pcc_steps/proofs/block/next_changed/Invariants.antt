use Rattle.std.proofs.Common.{◌≡◌}
use Rattle.pcc_steps.specs.Changes.{next_changed}
use Rattle.pcc_steps.proofs.block.next_changed.Given as goal

abbrev pub invariant-loop-at : goal.invariant-loop-at
invariant-loop-at l = next_changed l.at l.block l.old ≡ next_changed l.from l.block l.old
