use Rattle.std.proofs.Common.{refl}
use Rattle.cppc_device.proofs.Sampling.{taken_start}
use Rattle.cppc_device.proofs.registers.write.Goals as goal

pub loop-n-init : goal.loop-n-init
loop-n-init c =
    (refl, taken_start c.args.cpu.now c.args.space.now c.args.registers.now (record { fits = λ k. (c.type_inv.registers k).fits }))
