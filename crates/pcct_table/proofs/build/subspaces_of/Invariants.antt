use Rattle.std.proofs.Common.{length}
use Rattle.pcct_table.proofs.Building.{Reading}
use Rattle.pcct_table.proofs.build.subspaces_of.Given as goal

abbrev pub invariant-loop-line : goal.invariant-loop-line
invariant-loop-line l = Reading l.text l.subspaces l.rest

abbrev pub decreases-loop-line : goal.decreases-loop-line
decreases-loop-line l = length l.rest
