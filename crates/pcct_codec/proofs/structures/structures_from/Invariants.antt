use Rattle.std.proofs.Common.{◌-◌, length}
use Rattle.pcct_codec.proofs.Walking.{Walking}
use Rattle.pcct_codec.proofs.structures.structures_from.Given as goal

abbrev pub invariant-loop-at : goal.invariant-loop-at
invariant-loop-at l = Walking l.bytes l.at l.subspaces

abbrev pub decreases-loop-at : goal.decreases-loop-at
decreases-loop-at l = length l.bytes - l.at
