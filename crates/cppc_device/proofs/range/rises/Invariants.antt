use Rattle.cppc_device.proofs.Chains.{Rest}
use Rattle.cppc_device.proofs.range.rises.Given as goal

abbrev pub invariant-loop-number : goal.invariant-loop-number
invariant-loop-number l = Rest l.numbers l.last l.number-index
