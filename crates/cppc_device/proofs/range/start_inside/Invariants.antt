use Rattle.cppc_device.proofs.Chains.{Inside}
use Rattle.cppc_device.proofs.range.start_inside.Given as goal

abbrev pub invariant-loop-n : goal.invariant-loop-n
invariant-loop-n l = Inside l.cpus l.space l.n
