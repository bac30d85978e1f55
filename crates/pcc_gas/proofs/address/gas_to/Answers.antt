use Rattle.std.proofs.Common.{◌∙◌, length, sym, ap, arith, rules}
use Rattle.pcc_gas.proofs.Addresses.{address_spelled, length-address_bytes, one_address_spelling, written}
use Rattle.pcc_gas.proofs.address.gas_to.Goals as goal

pub returns-clause-spelled : goal.returns-clause-spelled
returns-clause-spelled c =
    let gas = c.args.gas.now in
    let e = written gas c.write_u64.new.buf (search rules) in
    address_spelled gas _ (omega arith) e (ap length e ∙ length-address_bytes gas)

pub returns-clause-only : goal.returns-clause-only
returns-clause-only c =
    λ bytes all spelled. one_address_spelling c.args.gas.now bytes all spelled ∙ sym (written c.args.gas.now c.write_u64.new.buf (search rules))
