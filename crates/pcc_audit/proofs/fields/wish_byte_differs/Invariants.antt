use Rattle.std.specs.Prelude.{◌*◌}
use Rattle.pcc_audit.specs.WishBits.{WishBitsDiffer}
use Rattle.pcc_audit.proofs.fields.wish_byte_differs.Given as goal

abbrev pub invariant-loop-bit : goal.invariant-loop-bit
invariant-loop-bit l = WishBitsDiffer l.cpu l.before l.input (8 * l.place) l.bit
