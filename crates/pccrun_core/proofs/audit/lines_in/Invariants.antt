use Rattle.std.proofs.Common.{length}
use Rattle.pccrun_core.proofs.Counting.{Counted}
use Rattle.pccrun_core.proofs.audit.lines_in.Given as goal

abbrev pub invariant-loop-next : goal.invariant-loop-next
invariant-loop-next l = Counted l.text l.rest l.count

abbrev pub decreases-loop-next : goal.decreases-loop-next
decreases-loop-next l = length l.rest
