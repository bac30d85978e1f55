use Rattle.std.proofs.Common.{◌∙◌, ap, length, arith, rules}
use Rattle.std.proofs.lemmas.List.{with_items_is}
use Rattle.pcc_gas.proofs.Changes.{changes-length}
use Rattle.cppc_device.proofs.Commands.{after_write, device}
use Rattle.cppc_device.proofs.device.CppcDevice.write_registers.Goals as goal

pub returns-clause-device : goal.returns-clause-device
returns-clause-device c =
    ap (device c.self.inside.cpus.items c.self.inside.caps.items c.saturating_add-self-inside.result)
    (with_items_is c.self.inside.registers c.write_all.new.registers
    (ap length c.write_all.ensures ∙ changes-length _ c.deref_mut.result.now ∙ c.deref_mut.ensures.len))
    ∙ after_write c.args.self.now c.self.inside.cpus.items c.self.inside.caps.items c.self.inside.count c.saturating_add-self-inside.result
    c.self.inside.registers.items c.write_all.new.registers c.args.space.now c.self.view_is (search rules)
    (omega (arith, c.saturating_add-self-inside.ensures))
