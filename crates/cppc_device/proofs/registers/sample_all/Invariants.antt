use Rattle.cppc_device.specs.Devices.{sampled_of}
use Rattle.cppc_device.proofs.Sampling.{Changed}
use Rattle.cppc_device.proofs.registers.sample_all.Given as goal

abbrev pub invariant-loop-cpu : goal.invariant-loop-cpu
invariant-loop-cpu l = Changed (sampled_of l.cap l.initial.registers) l.cpus l.initial.registers l.cpu-index l.registers
