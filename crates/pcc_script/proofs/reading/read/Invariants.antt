use Rattle.std.proofs.Common.{length}
use Rattle.pcc_script.proofs.Going.{Going}
use Rattle.pcc_script.proofs.reading.read.Given as goal

abbrev pub invariant-loop-fields : goal.invariant-loop-fields
invariant-loop-fields l = Going l.text l.rest l.line l.seen l.partial

abbrev pub decreases-loop-fields : goal.decreases-loop-fields
decreases-loop-fields l = length l.rest
