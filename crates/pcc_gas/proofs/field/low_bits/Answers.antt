use Rattle.std.proofs.Common.{◌∙◌, ap}
use Rattle.std.proofs.lemmas.Nat.{and_mask}
use Rattle.std.specs.Int.Bits.{bit_and}
use Rattle.pcc_gas.proofs.field.low_bits.Goals as goal

pub returns : goal.returns
returns c = ap (bit_and c.args.bits) c.ones.ensures ∙ and_mask c.args.bits c.args.width
