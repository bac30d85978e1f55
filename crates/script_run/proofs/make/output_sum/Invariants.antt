use Rattle.script_run.proofs.Counting.{Summed}
use Rattle.script_run.proofs.make.output_sum.Given as goal

abbrev pub invariant-loop-i : goal.invariant-loop-i
invariant-loop-i l = Summed l.records l.i l.total
