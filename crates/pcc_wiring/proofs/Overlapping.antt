-- Memories meet exactly where the later of both bases lies in both.
use Rattle.std.proofs.Common.{◌↔◌, ◌<◌, ℕ, max, arith}
use Rattle.pcc_wiring.specs.Overlaps.{Meet, base_of, end_of}

pub meet_is : (a b : ℕ × ℕ × ℕ) → ((max (base_of a) (base_of b) < end_of a) × (max (base_of a) (base_of b) < end_of b)) ↔ Meet a b
meet_is a b = ((λ h. record { byte = max (base_of a) (base_of b); in_a = (omega arith, h.0); in_b = (omega arith, h.1) }), λ m. let (a1, a2) = m.in_a in let (b1, b2) = m.in_b in (omega (arith, a1, a2, b1, b2), omega (arith, a1, a2, b1, b2)))
