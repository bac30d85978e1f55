-- The bytes that words hold.
use Rattle.std.proofs.Common.{◌≡◌, ◌↔◌, ◌<◌, ◌≤◌, ℕ, zero, suc, ◌+◌, ◌-◌, ◌*◌, ◌/◌, ◌==◌, nat_le, nat_lt, Bool, true, false, IsSome, refl, inl, inr, arith}
use Rattle.std.proofs.lemmas.Bool.{cases_lt}
use Rattle.std.proofs.lemmas.Bool.Decides.{nat_tests}
use Rattle.pcc_steps.specs.declared.wiring.Wiring.{Wiring}
use Rattle.pcc_steps.specs.Kinds.{is_headed}
use Rattle.pcc_steps.specs.Wires.{IsRight, block_of, style_by, heads_of}
use Rattle.pcc_wiring.specs.Places.{place_at, place_in}
use Rattle.pcc_wiring.specs.Wirings.{header_len}

-- so many words are in memory
abbrev in_memory : Bool → ℕ → ℕ
in_memory true block = suc block
in_memory false block = block

not_zero : (n : ℕ) → (suc n == 0) ≡ false
not_zero n = grind (arith, nat_tests)

held_in : (headed : Bool) (block number : ℕ) → IsSome (place_in headed block number) ↔ (number < in_memory headed block)
held_in true block zero = ((λ h. omega arith), (λ h. refl))
held_in true block (suc n) = elim (cases_lt block (suc n)) [
  | inl lt ↦ let z : nat_le (suc n) block ≡ false = grind (arith, nat_tests) in rw (not_zero n, z) ((λ h. absurd cc), (λ h. absurd (omega arith)))
  | inr ge ↦ let z : nat_le (suc n) block ≡ true = grind (arith, nat_tests) in rw (not_zero n, z) ((λ h. omega arith), (λ h. refl))
]
held_in false block number = elim (cases_lt number block) [
  | inl lt ↦ let z : nat_lt number block ≡ true = grind (arith, nat_tests) in rw z ((λ h. lt), (λ h. refl))
  | inr ge ↦ let z : nat_lt number block ≡ false = grind (arith, nat_tests) in rw z ((λ h. absurd cc), (λ h. absurd (omega arith)))
]

-- the words of memory are those of the header and of the room
words_of : (kind room : ℕ) (joined : Bool) → kind ≤ 5 → in_memory (is_headed kind) (heads_of (style_by kind joined) + room / 8) * 8 ≡ header_len kind + room / 8 * 8
words_of zero room joined le = omega arith
words_of (suc zero) room joined le = omega arith
words_of (suc (suc zero)) room joined le = omega arith
words_of (suc (suc (suc zero))) room true le = omega arith
words_of (suc (suc (suc zero))) room false le = omega arith
words_of (suc (suc (suc (suc zero)))) room true le = omega arith
words_of (suc (suc (suc (suc zero)))) room false le = omega arith
words_of (suc (suc (suc (suc (suc zero))))) room joined le = omega arith
words_of (suc (suc (suc (suc (suc (suc kind)))))) room joined le = absurd (omega arith)

-- the words of so many bytes hold the bytes of these words
within : (base address words bytes : ℕ) → words * 8 ≡ bytes → base ≤ address → ((address - base) / 8 < words) ↔ (address < base + bytes)
within base address words bytes e le = ((λ h. omega arith), (λ h. omega arith))

both : {A B C D : Type 0} → (A ↔ B) → (B ↔ C) → (D → C) → (C → D) → (A ↔ D)
both ab bc dc cd = ((λ a. cd (bc.0 (ab.0 a))), (λ d. ab.1 (bc.1 (dc d))))

pub held : (w : Wiring) → IsRight w → (base address : ℕ) → IsSome (place_at w base address) ↔ ((base ≤ address) × (address < base + (header_len w.kind + w.room)))
held w right base address = elim (cases_lt address base) [
  | inl lt ↦ let z : nat_le base address ≡ false = grind (arith, nat_tests) in rw z ((λ h. absurd cc), (λ h. absurd (omega (arith, h.0))))
  | inr ge ↦
      let z : nat_le base address ≡ true = grind (arith, nat_tests) in
      let e : in_memory (is_headed w.kind) (block_of w) * 8 ≡ header_len w.kind + w.room / 8 * 8 = words_of w.kind w.room w.joined right.kind in
      let whole : w.room / 8 * 8 ≡ w.room = let r = right.whole in omega (arith, r) in
      rw z (both (held_in (is_headed w.kind) (block_of w) ((address - base) / 8)) (within base address _ (header_len w.kind + w.room) (omega (arith, e, whole)) ge) (λ d. d.1) (λ c. (ge, c)))
]
