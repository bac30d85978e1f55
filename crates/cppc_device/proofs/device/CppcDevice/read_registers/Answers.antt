use Rattle.std.proofs.Common.{◌∙◌, ap, length, arith, rules}
use Rattle.std.proofs.lemmas.List.{with_items_is}
use Rattle.pcc_gas.proofs.Changes.{changes-length}
use Rattle.cppc_device.proofs.Commands.{after_read, device}
use Rattle.cppc_device.proofs.device.CppcDevice.read_registers.Goals as goal

pub returns-clause-device : goal.returns-clause-device
returns-clause-device c =
    ap (device c.self.inside.cpus.items c.self.inside.caps.items c.saturating_add-self-inside.result)
    (with_items_is c.self.inside.registers c.sample_all.new.registers
    (ap length c.sample_all.ensures ∙ changes-length _ c.deref_mut.result.now ∙ c.deref_mut.ensures.len))
    ∙ after_read c.args.self.now c.self.inside.cpus.items c.self.inside.caps.items c.self.inside.count c.saturating_add-self-inside.result
    c.self.inside.registers.items c.sample_all.new.registers c.in_force-cap.result c.self.view_is (search rules) (search rules)
    (omega (arith, c.saturating_add-self-inside.ensures))
