use Rattle.std.proofs.Common.{length, refl}
use Rattle.cppc_device.specs.Devices.{written_of}
use Rattle.cppc_device.proofs.Sampling.{changed_start, written_more}
use Rattle.cppc_device.proofs.registers.write_all.Goals as goal

pub loop-cpu-init : goal.loop-cpu-init
loop-cpu-init c = changed_start (written_of c.args.space.now) c.args.cpus.now c.args.registers.now (record { fits = λ k. (c.type_inv.registers k).fits })

pub loop-cpu-preserved : goal.loop-cpu-preserved
loop-cpu-preserved c =
    written_more c.args.space.now (length c.args.registers.now) c.args.cpus.now c.args.registers.now c.loop-cpu.registers c.write.new.registers _ _
    c.loop-cpu.cpu-index c.requires.cpus c.loop-cpu-test.true refl c.write.ensures c.loop-cpu.invariant
