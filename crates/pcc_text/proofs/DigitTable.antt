-- The digits by arithmetic are those of the table, and are read back.
use Rattle.std.proofs.Common.{◌≡◌, ℕ, zero, suc, ◌+◌, ◌*◌, ◌/◌, ◌%◌, ◌<◌, ◌≤◌, ◌==◌, Bool, true, ◌&&◌, inl, inr, List, [], ◌∷◌, ◌++◌, length, take, slice_index, slice_set, refl, sym, ap, ◌∙◌, subst, arith}
use Rattle.std.specs.Prelude.{nat_lt}
use Rattle.std.proofs.lemmas.Bool.{and_from, and_parts, cases_lt, eq-eqb, eqb-true, ltb-true}
use Rattle.std.proofs.lemmas.List.{append_assoc, take_all, take_more, take_more_set}
use Rattle.std.specs.Prelude.{bit_and}
use Rattle.hex.specs.Hex.{encode_lower, encode_with, lower_digits}
use Rattle.hex.proofs.HexLemmas.{length-encode_with}
use Rattle.pcc_bytes.specs.Bytes.{IsBytes}
use Rattle.pcc_text.specs.Digits.{pair_of}

-- a test of all numbers below one
abbrev all_below : (ℕ → Bool) → ℕ → Bool
all_below test zero = true
all_below test (suc n) = test n && all_below test n

all_below-at : (test : ℕ → Bool) (n k : ℕ) → all_below test n ≡ true → k < n → test k ≡ true
all_below-at test zero k h lt = absurd (omega arith)
all_below-at test (suc n) k h lt =
    let parts = and_parts (test n) (all_below test n) h in
    elim (cases_lt k n) [
      | inl below ↦ all_below-at test n k parts.1 below
      | inr top ↦
          let e : k ≡ n = omega arith in
          rw e parts.0
    ]

-- the digits of a byte with these halves, as the code finds them
abbrev paired : ℕ → ℕ → ℕ
paired high low =
    ((high + 256 * low + 12336) % 65536 + bit_and ((high + 256 * low + 1542) % 65536 / 16) 257 * 39 % 65536) % 65536

pub pair_is : (byte high low : ℕ) → byte < 256 → high ≡ byte / 16 → low ≡ byte % 16 → paired high low ≡ pair_of byte
pair_is byte high low small h l =
    rw (h, l) (eqb-true _ _ (all_below-at (λ b. paired (b / 16) (b % 16) == pair_of b) 256 byte refl small))

abbrev pub unpaired : ℕ → ℕ
unpaired pair =
    (bit_and pair 3855 + bit_and (pair / 64) 257 * 9 % 65536) % 65536 * 16 % 65536 % 256 + (bit_and pair 3855 + bit_and (pair / 64) 257 * 9 % 65536) % 65536 / 256 % 16

pub byte_is : (pair byte : ℕ) → byte < 256 → pair ≡ pair_of byte → unpaired pair ≡ byte
byte_is pair byte small e =
    ap unpaired e ∙ eqb-true _ _ (all_below-at (λ b. unpaired (pair_of b) == b) 256 byte refl small)

small_digit : (value : ℕ) → value < 16 → slice_index lower_digits value < 256
small_digit value h = ltb-true (slice_index lower_digits value) 256 (all_below-at (λ v. nat_lt (slice_index lower_digits v) 256) 16 value refl h)

pub first_of : (byte : ℕ) → byte < 256 → pair_of byte % 256 ≡ slice_index lower_digits (byte / 16)
first_of byte h = let a = small_digit (byte / 16) (omega arith) in omega (arith, a)

pub second_of : (byte : ℕ) → byte < 256 → pair_of byte / 256 ≡ slice_index lower_digits (byte % 16)
second_of byte h = let a = small_digit (byte / 16) (omega arith) in omega (arith, a)

-- the digits of the byte at a place of an encoding
high_at : (t bytes : List ℕ) (i : ℕ) → i < length bytes → slice_index (encode_with t bytes) (2 * i) ≡ slice_index t (slice_index bytes i / 16)
unfolding encode_with
high_at t [] i h = absurd (omega arith)
high_at t (b ∷ bs) zero h = refl
high_at t (b ∷ bs) (suc i) h =
    let e : 2 * (suc i) ≡ suc (suc (2 * i)) = omega arith in
    rw e (high_at t bs i (omega arith))

low_at : (t bytes : List ℕ) (i : ℕ) → i < length bytes → slice_index (encode_with t bytes) (2 * i + 1) ≡ slice_index t (slice_index bytes i % 16)
unfolding encode_with
low_at t [] i h = absurd (omega arith)
low_at t (b ∷ bs) zero h = refl
low_at t (b ∷ bs) (suc i) h =
    let e : 2 * (suc i) + 1 ≡ suc (suc (2 * i + 1)) = omega arith in
    rw e (low_at t bs i (omega arith))

-- the pair of digits of the byte at a place of an encoding
pair_at : (bytes : List ℕ) (i : ℕ) → i < length bytes
    → slice_index (encode_lower bytes) (2 * i) + 256 * slice_index (encode_lower bytes) (2 * i + 1) ≡ pair_of (slice_index bytes i)
pair_at bytes i h = rw (high_at lower_digits bytes i h, low_at lower_digits bytes i h) refl

-- ---- a text that is read

-- so many bytes are read, and whether the text so far is theirs
pub record Checked (text out : List ℕ) (i : ℕ) (same : Bool) : Type 0 where
  pub front : same ≡ true → take (2 * i) text ≡ encode_lower (take i out)
  pub all : (bytes : List ℕ) → IsBytes bytes → text ≡ encode_lower bytes → same ≡ true

pub check_start : (text out : List ℕ) → Checked text out 0 true
unfolding encode_with
check_start text out = record { front = λ e. refl; all = λ bytes small is. refl }

encode_append : (t xs ys : List ℕ) → encode_with t (xs ++ ys) ≡ encode_with t xs ++ encode_with t ys
unfolding encode_with
encode_append t [] ys = refl
encode_append t (x ∷ xs) ys = ap (λ (v : List ℕ). slice_index t (x / 16) ∷ slice_index t (x % 16) ∷ v) (encode_append t xs ys)

encode_one : (t : List ℕ) (v : ℕ) → encode_with t (v ∷ []) ≡ slice_index t (v / 16) ∷ slice_index t (v % 16) ∷ []
unfolding encode_with
encode_one t v = refl

-- two bytes more of a text
take_two : (text : List ℕ) (i : ℕ) → 2 * i + 1 < length text
    → take (2 * (i + 1)) text ≡ take (2 * i) text ++ slice_index text (2 * i) ∷ slice_index text (2 * i + 1) ∷ []
take_two text i h =
    let n : 2 * (i + 1) ≡ (2 * i + 1) + 1 = omega arith in
    let T : ℕ → Type 0 = λ k. take k text ≡ take (2 * i) text ++ slice_index text (2 * i) ∷ slice_index text (2 * i + 1) ∷ [] in
    subst T (sym n) (
    take_more text (2 * i + 1) 0 h
    ∙ ap (λ (v : List ℕ). v ++ slice_index text (2 * i + 1) ∷ []) (take_more text (2 * i) 0 (omega arith))
    ∙ append_assoc (take (2 * i) text) (slice_index text (2 * i) ∷ []) (slice_index text (2 * i + 1) ∷ [])
    )

-- the halves of equal pairs
halves : (a b c d : ℕ) → a < 256 → c < 256 → a + 256 * b ≡ c + 256 * d → (a ≡ c) × (b ≡ d)
halves a b c d h k e = (omega arith, omega arith)

pub check_more : (text out : List ℕ) (i v : ℕ) (same next : Bool) → i < length out → length text ≡ 2 * length out → slice_index text (2 * i) < 256
    → v < 256
    → ((byte : ℕ) → byte < 256 → slice_index text (2 * i) + 256 * slice_index text (2 * i + 1) ≡ pair_of byte → v ≡ byte)
    → next ≡ (same && pair_of v == slice_index text (2 * i) + 256 * slice_index text (2 * i + 1))
    → Checked text out i same → Checked text (slice_set out i v) (i + 1) next
check_more text out i v same next h len low small e n c = record {
  front = λ is.
      let p = and_parts same _ (sym n ∙ is) in
      let q : pair_of v ≡ slice_index text (2 * i) + 256 * slice_index text (2 * i + 1) = eqb-true _ _ p.1 in
      let two = halves (slice_index lower_digits (v / 16)) (slice_index lower_digits (v % 16)) (slice_index text (2 * i)) (slice_index text (2 * i + 1)) (small_digit (v / 16) (omega arith)) low q in
      let first : slice_index lower_digits (v / 16) ≡ slice_index text (2 * i) = two.0 in
      let second : slice_index lower_digits (v % 16) ≡ slice_index text (2 * i + 1) = two.1 in
      let digits : slice_index lower_digits (v / 16) ∷ slice_index lower_digits (v % 16) ∷ [] ≡ slice_index text (2 * i) ∷ slice_index text (2 * i + 1) ∷ [] = cc in
      let more : encode_lower (take (i + 1) (slice_set out i v)) ≡ encode_lower (take i out) ++ slice_index text (2 * i) ∷ slice_index text (2 * i + 1) ∷ [] =
      ap encode_lower (take_more_set out i v h)
      ∙ encode_append lower_digits (take i out) (v ∷ [])
      ∙ ap (λ (w : List ℕ). encode_lower (take i out) ++ w) (encode_one lower_digits v ∙ digits) in
      take_two text i (omega arith) ∙ ap (λ (w : List ℕ). w ++ slice_index text (2 * i) ∷ slice_index text (2 * i + 1) ∷ []) (c.front p.0) ∙ sym more;
  all = λ bytes fits is.
      let k = length-encode_with lower_digits bytes in
      let m : length (encode_lower bytes) ≡ 2 * length out = rw is at len in
      let below : i < length bytes = omega (arith, k, m) in
      let pair : slice_index text (2 * i) + 256 * slice_index text (2 * i + 1) ≡ pair_of (slice_index bytes i) =
      ap (λ (t : List ℕ). slice_index t (2 * i) + 256 * slice_index t (2 * i + 1)) is ∙ pair_at bytes i below in
      let byte : v ≡ slice_index bytes i = e (slice_index bytes i) (fits.fits i) pair in
      n ∙ and_from same _ (c.all bytes fits is) (eq-eqb _ _ (ap pair_of byte ∙ sym pair));
}

pub check_front : (text out : List ℕ) (i : ℕ) (same : Bool) → length out ≤ i → length text ≡ 2 * length out → Checked text out i same → same ≡ true
    → text ≡ encode_lower out
check_front text out i same h len c e =
    sym (take_all (2 * i) text (omega arith)) ∙ c.front e ∙ ap encode_lower (take_all i out h)

pub check_all : (text out : List ℕ) (i : ℕ) (same : Bool) → Checked text out i same → (bytes : List ℕ) → IsBytes bytes → text ≡ encode_lower bytes → same ≡ true
check_all text out i same c = c.all
