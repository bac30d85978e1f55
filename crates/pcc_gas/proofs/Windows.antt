-- A field in the number that the bytes around it spell.
use Rattle.std.proofs.Common.{◌≡◌, ℕ, zero, suc, ◌+◌, ◌-◌, ◌*◌, ◌/◌, ◌%◌, ◌^◌, ◌<◌, ◌≤◌, List, ◌++◌, length, take, drop, slice_index, inl, inr, refl, sym, subst, ap, ◌∙◌, arith}
use Rattle.std.proofs.lemmas.Bool.{cases_lt}
use Rattle.std.proofs.lemmas.List.{drop_at, get_or-take, get_or_append_left, length-append, length-drop, length-take-le}
use Rattle.std.proofs.lemmas.Nat.{pow-add}
use Rattle.std.proofs.Math.Nat.{mod-eq_of_lt, pow-suc}
use Rattle.std.specs.Int.{bit_at}
use Rattle.byteorder.specs.Endian.{little_bytes, little_number}
use Rattle.byteorder.specs.Numbers.{length-bytes_low_first, little_number-reads_back}
use Rattle.pcc_bytes.specs.Bytes.{IsBytes}
use Rattle.pcc_bytes.proofs.Bytes.{IsBytes-drop}
use Rattle.pcc_gas.specs.declared.field.Field.{Field}
use Rattle.pcc_gas.specs.Fields.{FieldPut, InField, Overwritten, bit_of, field_value}
use Rattle.pcc_gas.proofs.Bits.{bit_at-little_number, bit_at-shr, bit_of-drop}
use Rattle.pcc_gas.proofs.Fields.{bits_from-number}

pub pow-bytes : (n : ℕ) → 256 ^ n ≡ 2 ^ (8 * n)
pow-bytes zero = refl
pow-bytes (suc n) =
    let e : 8 * suc n ≡ 8 * n + 8 = omega arith in
    pow-suc 256 n ∙ ap (λ (p : ℕ). p * 256) (pow-bytes n) ∙ sym (pow-add 2 (8 * n) 8) ∙ ap (λ (k : ℕ). 2 ^ k) (sym e)

-- the bytes around a field: the first, how many, and the field's first bit in them
pub record Around (field : Field) (first count shift : ℕ) : Type 0 where
  pub start : 8 * first + shift ≡ field.at_bit
  pub covers : shift + field.width ≤ 8 * count

-- a bit of the bytes is one of the space
pub bit_at-around : (space : List ℕ) (first count i : ℕ) → IsBytes space → first + count ≤ length space → i < 8 * count → bit_at (little_number count (drop first space)) i ≡ bit_of space (8 * first + i)
bit_at-around space first count i all within h =
    bit_at-little_number count (drop first space) i (omega (arith, length-drop first space)) (IsBytes-drop first space all) h
    ∙ bit_of-drop first space i

pub field_value-around : (space : List ℕ) (field : Field) (first count shift number : ℕ) → Around field first count shift
    → ((i : ℕ) → i < 8 * count → bit_at number i ≡ bit_of space (8 * first + i)) → number / 2 ^ shift % 2 ^ field.width ≡ field_value space field
unfolding field_value
field_value-around space field first count shift number around bits =
    sym (bits_from-number space field.at_bit field.width (number / 2 ^ shift) (λ k h.
    let covers : shift + field.width ≤ 8 * count = around.covers in
    let start : 8 * first + shift ≡ field.at_bit = around.start in
    let place : 8 * first + (shift + k) ≡ field.at_bit + k = omega arith in
    ap (bit_of space) (sym place)
    ∙ sym (bits (shift + k) (omega arith))
    ∙ sym (bit_at-shr number shift k)))

-- ---- a number written over bytes

rest_len : (first count old front back over : ℕ) → first + count ≤ old → front ≡ first → back ≡ old - first → over ≡ count + (back - count) → front + over ≡ old
rest_len first count old front back over within p q r = omega arith

pub overwritten : (old front back over : List ℕ) (first count number : ℕ) → first + count ≤ length old → front ≡ take first old → back ≡ drop first old
    → over ≡ little_bytes count number ++ drop count back → number < 256 ^ count → IsBytes (front ++ over) → Overwritten old (front ++ over) first count number
overwritten old front back over first count number within e_front e_back e_over fits all =
    let new : List ℕ = front ++ over in
    let bytes : List ℕ = little_bytes count number in
    let front_len : length front ≡ first = ap length e_front ∙ length-take-le first old (omega arith) in
    let back_len : length back ≡ length old - first = ap length e_back ∙ length-drop first old in
    let bytes_len : length bytes ≡ count = length-bytes_low_first 0 count number in
    let over_len : length over ≡ count + (length back - count) =
    ap length e_over ∙ length-append bytes (drop count back) ∙ ap (λ (n : ℕ). n + length (drop count back)) bytes_len
    ∙ ap (λ (n : ℕ). count + n) (length-drop count back) in
    let len : length new ≡ length old = length-append front over ∙ rest_len first count (length old) (length front) (length back) (length over) within front_len back_len over_len in
    let dropped : drop first new ≡ over = drop_at front over first front_len in
    let read : little_number count (drop first new) ≡ number =
    ap (little_number count) (dropped ∙ e_over) ∙ little_number-reads_back count number (drop count back) fits in
    let rest : drop count (drop first new) ≡ drop count (drop first old) =
    ap (drop count) (dropped ∙ e_over) ∙ drop_at bytes (drop count back) count bytes_len ∙ ap (drop count) e_back in
    record {
      len = len;
      before = λ bit h. ap (λ (byte : ℕ). bit_at byte (bit % 8))
          (get_or_append_left front over 0 (bit / 8) (omega arith)
          ∙ ap (λ (bytes : List ℕ). slice_index bytes (bit / 8)) e_front ∙ get_or-take first old (bit / 8) 0 (omega arith));
      inside = λ i h.
          sym (bit_at-around new first count i all (omega arith) h) ∙ ap (λ (n : ℕ). bit_at n i) read;
      behind = λ i h.
          let j : ℕ = i - 8 * count in
          let e : i ≡ 8 * count + j = omega arith in
          sym (bit_of-drop first new i) ∙ ap (bit_of (drop first new)) e ∙ sym (bit_of-drop count (drop first new) j)
          ∙ ap (λ (bytes : List ℕ). bit_of bytes j) rest
          ∙ bit_of-drop count (drop first old) j ∙ ap (bit_of (drop first old)) (sym e) ∙ bit_of-drop first old i;
    }

-- the bits of the bytes around a field, with those of the field replaced
pub record Replaces (bits number value shift width : ℕ) : Type 0 where
  pub put : (i : ℕ) → i < width → bit_at number (shift + i) ≡ bit_at value i
  pub below : (i : ℕ) → i < shift → bit_at number i ≡ bit_at bits i
  pub above : (i : ℕ) → shift + width ≤ i → bit_at number i ≡ bit_at bits i

pub field_put-around : (old new : List ℕ) (field : Field) (first count shift bits number value : ℕ) → Around field first count shift
    → ((i : ℕ) → i < 8 * count → bit_at bits i ≡ bit_of old (8 * first + i)) → Overwritten old new first count number → Replaces bits number value shift field.width
    → value < 2 ^ field.width → FieldPut old field value new
unfolding field_value
field_put-around old new field first count shift bits number value around held over replaces fits =
    let covers : shift + field.width ≤ 8 * count = around.covers in
    let start : 8 * first + shift ≡ field.at_bit = around.start in
    let kept : (i : ℕ) → i < 8 * count → bit_at number i ≡ bit_at bits i → bit_of new (8 * first + i) ≡ bit_of old (8 * first + i) =
    λ i h same. over.inside i h ∙ same ∙ held i h in
    let outside : (i : ℕ) → (InField field (8 * first + i) → ⊥) → bit_of new (8 * first + i) ≡ bit_of old (8 * first + i) =
    λ i out. elim (cases_lt i shift) [
      | inl low ↦ kept i (omega arith) (replaces.below i low)
      | inr from ↦ elim (cases_lt i (shift + field.width)) [
        | inl below ↦ absurd (out (record { from = omega arith; below = omega arith }))
        | inr above ↦ elim (cases_lt i (8 * count)) [
          | inl inside ↦ kept i inside (replaces.above i above)
          | inr behind ↦ over.behind i behind
        ]
      ]
    ] in
    record {
      len = over.len;
      put = bits_from-number new field.at_bit field.width value (λ k h.
          let place : 8 * first + (shift + k) ≡ field.at_bit + k = omega arith in
          ap (bit_of new) (sym place) ∙ over.inside (shift + k) (omega arith) ∙ replaces.put k h)
          ∙ mod-eq_of_lt fits;
      others = λ bit out. elim (cases_lt bit (8 * first)) [
        | inl before ↦ over.before bit before
        | inr from ↦
            let e : bit ≡ 8 * first + (bit - 8 * first) = omega arith in
            let P : ℕ → Type 0 = λ b. (InField field b → ⊥) → bit_of new b ≡ bit_of old b in
            subst P (sym e) (outside (bit - 8 * first)) out
      ];
    }
