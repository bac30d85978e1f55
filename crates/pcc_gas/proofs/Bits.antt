-- Bits of a number with other bits at a place, and of the bytes of numbers.
use Rattle.std.proofs.Common.{◌≡◌, ℕ, zero, suc, ◌+◌, ◌-◌, ◌*◌, ◌/◌, ◌%◌, ◌^◌, ◌<◌, ◌≤◌, min, max, List, [], ◌∷◌, length, drop, inl, inr, refl, sym, ap, ◌∙◌, add-zero, arith}
use Rattle.std.proofs.lemmas.Bool.{cases_lt}
use Rattle.std.proofs.lemmas.List.{get_or-drop}
use Rattle.std.proofs.lemmas.Nat.{and_le_l, mod_below, or_lt, pow_pos, shl_below, shl_whole, shr-shr}
use Rattle.std.proofs.lemmas.Nat.Bits.{bit_at-lt, bit_at-zero, bit_at_above, bit_at_and, bit_at_cat_high, bit_at_cat_low, bit_at_not, bit_at_ones, bit_at_ones_above, bit_at_or}
use Rattle.std.proofs.Math.Nat.{lt_of_le_of_lt, lt_of_lt_of_le}
use Rattle.std.proofs.Math.Pow.{pow_mono}
use Rattle.std.specs.Int.{bit_at, w128}
use Rattle.std.specs.Int.Bits.{bit_and, bit_or}
use Rattle.byteorder.specs.Endian.{little_number}
use Rattle.byteorder.specs.Numbers.{little_from-cons}
use Rattle.pcc_bytes.specs.Bytes.{IsBytes}
use Rattle.pcc_bytes.proofs.Bytes.{IsBytes-tail}
use Rattle.pcc_gas.specs.Fields.{bit_of}

-- ---- a number moved up by some bits

moved-below : (a s i : ℕ) → i < s → bit_at (a * 2 ^ s) i ≡ 0
moved-below a s i h = ap (λ (n : ℕ). bit_at n i) (sym (add-zero (a * 2 ^ s))) ∙ bit_at_cat_low a s 0 i h ∙ bit_at-zero i

moved-above : (a s i : ℕ) → s ≤ i → bit_at (a * 2 ^ s) i ≡ bit_at a (i - s)
moved-above a s i h = ap (λ (n : ℕ). bit_at n i) (sym (add-zero (a * 2 ^ s))) ∙ bit_at_cat_high a s 0 i (pow_pos s) h

pub bit_at-shr : (n s k : ℕ) → bit_at (n / 2 ^ s) k ≡ bit_at n (s + k)
bit_at-shr n s k = ap (λ (m : ℕ). m % 2) (shr-shr n s k)

-- ---- other bits at a place, as they are computed at 128 bits

abbrev pub replaced : ℕ → ℕ → ℕ → ℕ → ℕ
replaced bits ones s value = bit_or (bit_and bits (2 ^ 128 - 1 - ones * 2 ^ s % 2 ^ 128)) (value * 2 ^ s % 2 ^ 128)

-- how many bits are replaced, from which on, and by what
pub record Place (w s value : ℕ) : Type 0 where
  pub low : s < 8
  pub most : w ≤ 64
  pub fits : value < 2 ^ w

kept : (a w s : ℕ) → s < 8 → w ≤ 64 → a < 2 ^ w → a * 2 ^ s % 2 ^ 128 ≡ a * 2 ^ s
kept a w s low most fits = shl_whole a w s 128 fits (omega arith)

ones_fit : (w : ℕ) → 2 ^ w - 1 < 2 ^ w
ones_fit w = let above = pow_pos w in omega arith

-- a bit by those that it comes from
replaced-bit : (bits w s value i : ℕ) → Place w s value → i < 128
    → bit_at (replaced bits (2 ^ w - 1) s value) i ≡ max (min (bit_at bits i) (1 - bit_at ((2 ^ w - 1) * 2 ^ s) i)) (bit_at (value * 2 ^ s) i)
replaced-bit bits w s value i place inside =
    let mask : ℕ = (2 ^ w - 1) * 2 ^ s % 2 ^ 128 in
    let moved : ℕ = value * 2 ^ s % 2 ^ 128 in
    let e : mask ≡ (2 ^ w - 1) * 2 ^ s = kept (2 ^ w - 1) w s place.low place.most (ones_fit w) in
    let f : moved ≡ value * 2 ^ s = kept value w s place.low place.most place.fits in
    bit_at_or (bit_and bits (2 ^ 128 - 1 - mask)) moved i
    ∙ ap (λ (b : ℕ). max b (bit_at moved i)) (bit_at_and bits (2 ^ 128 - 1 - mask) i
    ∙ ap (λ (b : ℕ). min (bit_at bits i) b) (bit_at_not w128 mask i (mod_below ((2 ^ w - 1) * 2 ^ s) (2 ^ 128) (pow_pos 128)) inside
    ∙ ap (λ (n : ℕ). 1 - bit_at n i) e))
    ∙ ap (λ (n : ℕ). max (min (bit_at bits i) (1 - bit_at ((2 ^ w - 1) * 2 ^ s) i)) (bit_at n i)) f

choose-kept : (a m v : ℕ) → m ≡ 0 → v ≡ 0 → a < 2 → max (min a (1 - m)) v ≡ a
choose-kept a m v p q h = omega arith

choose-put : (a m v : ℕ) → m ≡ 1 → max (min a (1 - m)) v ≡ v
choose-put a m v p = omega arith

sub_add : (s i : ℕ) → s + i - s ≡ i
sub_add s i = omega arith

pub replaced-inside : (bits w s value i : ℕ) → Place w s value → i < w → bit_at (replaced bits (2 ^ w - 1) s value) (s + i) ≡ bit_at value i
replaced-inside bits w s value i place h =
    let low : s < 8 = place.low in
    let most : w ≤ 64 = place.most in
    let back : s + i - s ≡ i = sub_add s i in
    let mask : bit_at ((2 ^ w - 1) * 2 ^ s) (s + i) ≡ 1 =
    moved-above (2 ^ w - 1) s (s + i) (omega arith) ∙ ap (bit_at (2 ^ w - 1)) back ∙ bit_at_ones w i h in
    replaced-bit bits w s value (s + i) place (omega arith)
    ∙ choose-put (bit_at bits (s + i)) _ (bit_at (value * 2 ^ s) (s + i)) mask
    ∙ moved-above value s (s + i) (omega arith) ∙ ap (bit_at value) back

pub replaced-below : (bits w s value i : ℕ) → Place w s value → i < s → bit_at (replaced bits (2 ^ w - 1) s value) i ≡ bit_at bits i
replaced-below bits w s value i place h =
    let low : s < 8 = place.low in
    replaced-bit bits w s value i place (omega arith)
    ∙ choose-kept (bit_at bits i) _ _ (moved-below (2 ^ w - 1) s i h) (moved-below value s i h) (bit_at-lt bits i)

pub replaced-lt : (bits w s value k : ℕ) → Place w s value → bits < 2 ^ k → s + w ≤ k → replaced bits (2 ^ w - 1) s value < 2 ^ k
replaced-lt bits w s value k place h within =
    let kept_lt = and_le_l bits (2 ^ 128 - 1 - (2 ^ w - 1) * 2 ^ s % 2 ^ 128) in
    let moved : value * 2 ^ s % 2 ^ 128 ≡ value * 2 ^ s = kept value w s place.low place.most place.fits in
    let moved_lt : value * 2 ^ s < 2 ^ (w + s) = shl_below value w s place.fits in
    let most : 2 ^ (w + s) ≤ 2 ^ k = pow_mono (omega arith) in
    or_lt k (bit_and bits (2 ^ 128 - 1 - (2 ^ w - 1) * 2 ^ s % 2 ^ 128)) (value * 2 ^ s % 2 ^ 128) (lt_of_le_of_lt kept_lt h) (rw moved (lt_of_lt_of_le moved_lt most))

pub replaced-above : (bits w s value i : ℕ) → Place w s value → bits < 2 ^ 128 → s + w ≤ i → bit_at (replaced bits (2 ^ w - 1) s value) i ≡ bit_at bits i
replaced-above bits w s value i place h above =
    let low : s < 8 = place.low in
    let most : w ≤ 64 = place.most in
    elim (cases_lt i 128) [
      | inl inside ↦
          replaced-bit bits w s value i place inside
          ∙ choose-kept (bit_at bits i) _ _
          (moved-above (2 ^ w - 1) s i (omega arith) ∙ bit_at_ones_above w (i - s) (omega arith))
          (moved-above value s i (omega arith) ∙ bit_at_above value w (i - s) place.fits (omega arith))
          (bit_at-lt bits i)
      | inr outside ↦
          bit_at_above (replaced bits (2 ^ w - 1) s value) 128 i (replaced-lt bits w s value 128 place h (omega arith)) outside
          ∙ sym (bit_at_above bits 128 i h outside)
    ]

-- ---- bits of bytes

pub bit_of-cons : (byte : ℕ) (bytes : List ℕ) (i : ℕ) → bit_of (byte ∷ bytes) (8 + i) ≡ bit_of bytes i
bit_of-cons byte bytes i =
    let place : (8 + i) / 8 ≡ suc (i / 8) = omega arith in
    let bit : (8 + i) % 8 ≡ i % 8 = omega arith in
    rw (place, bit) refl

pub bit_of-drop : (n : ℕ) (space : List ℕ) (i : ℕ) → bit_of (drop n space) i ≡ bit_of space (8 * n + i)
bit_of-drop n space i =
    let place : (8 * n + i) / 8 ≡ n + i / 8 = omega arith in
    let bit : (8 * n + i) % 8 ≡ i % 8 = omega arith in
    rw (place, bit, get_or-drop n space (i / 8) 0) refl

turned : (byte above : ℕ) → byte + 256 * above ≡ above * 2 ^ 8 + byte
turned byte above = omega arith

-- a bit of the number that bytes spell
pub bit_at-little_number : (n : ℕ) (bytes : List ℕ) (i : ℕ) → n ≤ length bytes → IsBytes bytes → i < 8 * n → bit_at (little_number n bytes) i ≡ bit_of bytes i
bit_at-little_number zero bytes i within all h = absurd (omega arith)
bit_at-little_number (suc n) [] i within all h = absurd (omega arith)
bit_at-little_number (suc n) (byte ∷ bytes) i within all h =
    let above : ℕ = little_number n bytes in
    let small : byte < 2 ^ 8 = all.fits 0 in
    let e : little_number (suc n) (byte ∷ bytes) ≡ above * 2 ^ 8 + byte =
    ap (λ (v : ℕ). byte + 256 * v) (little_from-cons 0 n byte bytes) ∙ turned byte above in
    ap (λ (v : ℕ). bit_at v i) e ∙ elim (cases_lt i 8) [
      | inl low ↦
          let place : i / 8 ≡ 0 = omega arith in
          let bit : i % 8 ≡ i = omega arith in
          bit_at_cat_low above 8 byte i low ∙ rw (place, bit) refl
      | inr high ↦
          let moved : i ≡ 8 + (i - 8) = omega arith in
          bit_at_cat_high above 8 byte i small high
          ∙ bit_at-little_number n bytes (i - 8) (omega arith) (IsBytes-tail byte bytes all) (omega arith)
          ∙ sym (bit_of-cons byte bytes (i - 8)) ∙ ap (bit_of (byte ∷ bytes)) (sym moved)
    ]
