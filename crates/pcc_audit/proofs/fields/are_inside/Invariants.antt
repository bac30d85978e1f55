use Rattle.pcc_audit.proofs.Bits.{Inside}
use Rattle.pcc_audit.proofs.fields.are_inside.Given as goal

abbrev pub invariant-loop-cpu : goal.invariant-loop-cpu
invariant-loop-cpu l = Inside l.cpus l.space l.cpu-index
