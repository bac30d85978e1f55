use Rattle.std.proofs.Common.{refl}
use Rattle.cppc_device.proofs.Sampling.{sampled_by}
use Rattle.cppc_device.proofs.registers.sample.Goals as goal

pub returns : goal.returns
returns c =
    sampled_by c.args.cap c.args.cpu.now c.args.registers.now c.put.new.registers c.put-2.new.registers c.put-3.new.registers _ _ _ c.requires.right
    c.put.ensures c.put-2.ensures c.put-3.ensures
    (rw (c.from.ensures, c.from-2.ensures, c.entry_number.ensures, c.reference_of.ensures) refl)
    (rw (c.from-3.ensures, c.from-4.ensures, c.entry_number-3.ensures, c.capped-effective.ensures, c.entry_number-2.ensures) refl)
    (rw (c.from-5.ensures, c.entry_number-4.ensures, c.excursions.ensures, c.number_in-desired.ensures, c.field_in-minimum.ensures) refl)
