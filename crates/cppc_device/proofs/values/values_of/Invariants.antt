use Rattle.cppc_device.proofs.Numbers.{Numbered}
use Rattle.cppc_device.proofs.values.values_of.Given as goal

abbrev pub invariant-loop-n : goal.invariant-loop-n
invariant-loop-n l = Numbered l.binding.sources l.space l.n l.entries
