use Rattle.std.specs.Prelude.{◌*◌}
use Rattle.pcc_audit.specs.WishBits.{WishBitsDiffer}
use Rattle.pcc_audit.proofs.fields.wish_bits_differ.Given as goal

abbrev pub invariant-loop-place : goal.invariant-loop-place
invariant-loop-place l = WishBitsDiffer l.cpu l.before l.input 0 (8 * l.place)
