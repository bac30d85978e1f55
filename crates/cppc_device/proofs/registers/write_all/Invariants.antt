use Rattle.cppc_device.specs.Devices.{written_of}
use Rattle.cppc_device.proofs.Sampling.{Changed}
use Rattle.cppc_device.proofs.registers.write_all.Given as goal

abbrev pub invariant-loop-cpu : goal.invariant-loop-cpu
invariant-loop-cpu l = Changed (written_of l.space) l.cpus l.initial.registers l.cpu-index l.registers
