-- Laws of fields.
use Rattle.std.proofs.Common.{◌≡◌, ℕ, zero, suc, ◌+◌, ◌-◌, ◌*◌, ◌/◌, ◌%◌, ◌^◌, ◌<◌, ◌≤◌, List, length, slice_index, inl, inr, refl, sym, ap, ◌∙◌, one-add, arith}
use Rattle.std.proofs.lemmas.Bool.{cases_lt}
use Rattle.std.proofs.lemmas.List.{ext_get_or}
use Rattle.std.proofs.lemmas.Nat.{mod-pow-add}
use Rattle.std.proofs.lemmas.Nat.Bits.{bit_at-lt, bit_at_cat_high, bit_at_cat_low, bit_at_lowest, same_from_bits_below}
use Rattle.std.proofs.Math.Nat.{add_comm, mod-eq_of_lt, mul-le-mul_right, pow-suc}
use Rattle.std.specs.Int.{bit_at}
use Rattle.pcc_bytes.specs.Bytes.{IsBytes}
use Rattle.pcc_gas.specs.declared.field.Field.{Field}
use Rattle.pcc_gas.specs.Fields.{AreApart, FieldPut, InField, bit_of, bits_from, field_value}

-- ---- the number of some bits

-- bits that are those of a number are the number, as far as they go
pub bits_from-number : (space : List ℕ) (at n number : ℕ) → ((k : ℕ) → k < n → bit_of space (at + k) ≡ bit_at number k) → bits_from space at n ≡ number % 2 ^ n
bits_from-number space at zero number same = omega arith
bits_from-number space at (suc n) number same =
    let low : bits_from space at n ≡ number % 2 ^ n = bits_from-number space at n number (λ k h. same k (omega arith)) in
    let high : bit_of space (at + n) ≡ number / 2 ^ n % 2 = same n (omega arith) in
    let split : number % 2 ^ (1 + n) ≡ (number / 2 ^ n % 2 ^ 1) * 2 ^ n + number % 2 ^ n = mod-pow-add number 1 n in
    let e : number % 2 ^ suc n ≡ (number / 2 ^ n % 2) * 2 ^ n + number % 2 ^ n = rw (← one-add n) split in
    rw (low, high, e) (omega arith)

-- the same bits are the same number
pub bits_from-same : (a b : List ℕ) (at n : ℕ) → ((k : ℕ) → k < n → bit_of a (at + k) ≡ bit_of b (at + k)) → bits_from a at n ≡ bits_from b at n
bits_from-same a b at zero same = refl
bits_from-same a b at (suc n) same = rw (bits_from-same a b at n (λ k h. same k (omega arith)), same n (omega arith)) refl

pub one_more : (low bit p : ℕ) → low < p → bit < 2 → low + bit * p < p * 2
one_more low bit p h small =
    let top : bit * p ≤ 1 * p = mul-le-mul_right p (omega arith) in
    omega arith

bits_from-lt : (space : List ℕ) (at n : ℕ) → bits_from space at n < 2 ^ n
bits_from-lt space at zero = omega arith
bits_from-lt space at (suc n) = rw (pow-suc 2 n)
    (one_more (bits_from space at n) (bit_of space (at + n)) (2 ^ n) (bits_from-lt space at n) (bit_at-lt (slice_index space ((at + n) / 8)) ((at + n) % 8)))

-- a bit of the number is that of the space
bit_at-bits_from : (space : List ℕ) (at n k : ℕ) → k < n → bit_at (bits_from space at n) k ≡ bit_of space (at + k)
bit_at-bits_from space at zero k h = absurd (omega arith)
bit_at-bits_from space at (suc n) k h =
    let low : ℕ = bits_from space at n in
    let bit : ℕ = bit_of space (at + n) in
    let small : bit < 2 = bit_at-lt (slice_index space ((at + n) / 8)) ((at + n) % 8) in
    ap (λ (m : ℕ). bit_at m k) (add_comm low (bit * 2 ^ n)) ∙ elim (cases_lt k n) [
      | inl inside ↦ bit_at_cat_low bit n low k inside ∙ bit_at-bits_from space at n k inside
      | inr last ↦
          let here : k - n ≡ 0 = omega arith in
          let same : n ≡ k = omega arith in
          bit_at_cat_high bit n low k (bits_from-lt space at n) last
          ∙ ap (bit_at bit) here ∙ bit_at_lowest bit ∙ mod-eq_of_lt small ∙ ap (λ (m : ℕ). bit_of space (at + m)) same
    ]

pub field_value-lt : (space : List ℕ) (field : Field) → field_value space field < 2 ^ field.width
unfolding field_value
field_value-lt space field = bits_from-lt space field.at_bit field.width

pub bit_at-field_value : (space : List ℕ) (field : Field) (k : ℕ) → k < field.width → bit_at (field_value space field) k ≡ bit_of space (field.at_bit + k)
unfolding field_value
bit_at-field_value space field k h = bit_at-bits_from space field.at_bit field.width k h

-- ---- a number put into a field

-- a field that is apart keeps its number
pub field_value-apart : (space : List ℕ) (field other : Field) (value : ℕ) (after : List ℕ) → FieldPut space field value after → AreApart field other → field_value after other ≡ field_value space other
unfolding field_value
field_value-apart space field other value after put apart =
    bits_from-same after space other.at_bit other.width
    (λ k h. put.others (other.at_bit + k) (λ here. apart (other.at_bit + k) here (record { from = omega arith; below = omega arith })))

-- every bit is told
same_bits : (space : List ℕ) (field : Field) (value : ℕ) (a b : List ℕ) → FieldPut space field value a → FieldPut space field value b → (bit : ℕ) → bit_of a bit ≡ bit_of b bit
unfolding field_value
same_bits space field value a b p q bit =
    let outside : (InField field bit → ⊥) → bit_of a bit ≡ bit_of b bit = λ out. p.others bit out ∙ sym (q.others bit out) in
    elim (cases_lt bit field.at_bit) [
      | inl before ↦ outside (λ here. let from : field.at_bit ≤ bit = here.from in omega arith)
      | inr from ↦ elim (cases_lt bit (field.at_bit + field.width)) [
        | inl below ↦
            let k : ℕ = bit - field.at_bit in
            let e : bit ≡ field.at_bit + k = omega arith in
            let number : bits_from a field.at_bit field.width ≡ bits_from b field.at_bit field.width = p.put ∙ sym q.put in
            ap (bit_of a) e
            ∙ sym (bit_at-bits_from a field.at_bit field.width k (omega arith))
            ∙ ap (λ (n : ℕ). bit_at n k) number
            ∙ bit_at-bits_from b field.at_bit field.width k (omega arith)
            ∙ ap (bit_of b) (sym e)
        | inr behind ↦ outside (λ here. let below : bit < field.at_bit + field.width = here.below in omega arith)
      ]
    ]

-- a bit of a byte is one of the space
bit_of-byte : (space : List ℕ) (place i : ℕ) → i < 8 → bit_of space (8 * place + i) ≡ bit_at (slice_index space place) i
bit_of-byte space place i h =
    let byte : (8 * place + i) / 8 ≡ place = omega arith in
    let bit : (8 * place + i) % 8 ≡ i = omega arith in
    rw (byte, bit) refl

-- bytes with the same bits are the same
pub same_bytes : (a b : List ℕ) → IsBytes a → IsBytes b → length a ≡ length b → ((bit : ℕ) → bit_of a bit ≡ bit_of b bit) → a ≡ b
same_bytes a b all_a all_b len same =
    ext_get_or 0 a b len (λ place h.
    same_from_bits_below 8 (slice_index a place) (slice_index b place) (all_a.fits place) (all_b.fits place) (λ i low.
    sym (bit_of-byte a place i low) ∙ same (8 * place + i) ∙ bit_of-byte b place i low))

-- one space of bytes is another with a number put into a field
pub one_space : (space : List ℕ) (field : Field) (value : ℕ) (a b : List ℕ) → IsBytes a → IsBytes b → FieldPut space field value a → FieldPut space field value b → a ≡ b
one_space space field value a b all_a all_b p q = same_bytes a b all_a all_b (p.len ∙ sym q.len) (same_bits space field value a b p q)
