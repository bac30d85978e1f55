use Rattle.cppc_device.proofs.Sampling.{take_none}
use Rattle.cppc_device.proofs.registers.take.Goals as goal

pub returns-in_default : goal.returns-in_default
returns-in_default c =
    take_none c.args.source c.args.space.now c.args.registers.now (record { fits = λ k. (c.type_inv.registers k).fits }) c.in_default.not-At
