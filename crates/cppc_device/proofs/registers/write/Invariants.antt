use Rattle.std.proofs.Common.{◌≡◌}
use Rattle.cppc_device.specs.Devices.{written_entries}
use Rattle.cppc_device.proofs.Sampling.{Taken}
use Rattle.cppc_device.proofs.registers.write.Given as goal

abbrev pub invariant-loop-n : goal.invariant-loop-n
invariant-loop-n l = (l.n-items ≡ written_entries) × Taken l.cpu l.space l.initial.registers l.n-index l.registers
