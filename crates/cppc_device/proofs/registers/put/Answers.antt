use Rattle.cppc_device.proofs.Sampling.{put_none}
use Rattle.cppc_device.proofs.registers.put.Goals as goal

pub returns-in_default : goal.returns-in_default
returns-in_default c =
    put_none c.args.source c.args.number c.args.registers.now (record { fits = λ k. (c.type_inv.registers k).fits }) c.in_default.not-At
