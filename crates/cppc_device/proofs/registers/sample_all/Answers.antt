use Rattle.std.proofs.Common.{length, refl}
use Rattle.cppc_device.specs.Devices.{sampled_of}
use Rattle.cppc_device.proofs.Sampling.{changed_start, sampled_more}
use Rattle.cppc_device.proofs.registers.sample_all.Goals as goal

pub loop-cpu-init : goal.loop-cpu-init
loop-cpu-init c = changed_start (sampled_of c.args.cap c.args.registers.now) c.args.cpus.now c.args.registers.now (record { fits = λ k. (c.type_inv.registers k).fits })

pub loop-cpu-preserved : goal.loop-cpu-preserved
loop-cpu-preserved c =
    sampled_more c.args.cap (length c.args.registers.now) c.args.cpus.now c.args.registers.now c.loop-cpu.registers c.sample.new.registers _ _
    c.loop-cpu.cpu-index c.requires c.loop-cpu-test.true refl c.sample.ensures c.loop-cpu.invariant
