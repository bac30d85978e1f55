-- Bits that a wish may change.
use Rattle.std.proofs.Common.{◌≡◌, ◌≢◌, inl, inr, ℕ, zero, suc, ◌+◌, ◌*◌, ◌/◌, ◌%◌, ◌<◌, ◌≤◌, List, [], ◌∷◌, length, get_or, slice_index, slice_index_or, refl, sym, ap, subst, arith}
use Rattle.std.specs.Prelude.{All}
use Rattle.std.specs.Int.{bit_at}
use Rattle.std.proofs.lemmas.Bool.{cases_lt}
use Rattle.std.proofs.lemmas.List.{get_or_default}
use Rattle.pcc_bytes.specs.Bytes.{IsBytes}
use Rattle.pcc_gas.specs.Fields.{InField, bit_of}
use Rattle.pcc_gas.specs.declared.field.Field.{Field}
use Rattle.cpc_package.specs.Bindings.{source_at}
use Rattle.cpc_package.specs.declared.binding.Binding.{Binding}
use Rattle.cpc_package.specs.declared.binding.Source1.{Source1}
use Rattle.cpc_package.specs.declared.binding.Source1.TheVariants.{Missing, Number, At}
use Rattle.cppc_device.specs.Ranges.{InRange, IsStartOutside}
use Rattle.cppc_device.specs.declared.range.StartOutside.{StartOutside}
use Rattle.cppc_headline.specs.Journals.{AreInRange, DifferInWish, IsWishBit}
use Rattle.pcc_audit.specs.WishBits.{IsBitOf, WishBitsDiffer}

field_bit : (s : Source1) (bit : ℕ) → IsBitOf s bit → (f : Field) × (s ≡ At f) × InField f bit
field_bit Missing bit h = absurd h
field_bit (Number v) bit h = absurd h
field_bit (At f) bit h = (f, refl, h)

wish_at : (cpu : Binding) (n bit : ℕ) → 7 ≤ n → n < 10 → IsBitOf (source_at cpu n) bit → IsWishBit cpu bit
wish_at cpu n bit from below h =
    let x = field_bit (source_at cpu n) bit h in
    record { n = n; from = from; below = below; field = x.0; at = x.1; inside = x.2 }

pub desired_bit : (cpu : Binding) (bit : ℕ) → IsBitOf (source_at cpu 7) bit → IsWishBit cpu bit
desired_bit cpu bit h = wish_at cpu 7 bit (omega arith) (omega arith) h

pub minimum_bit : (cpu : Binding) (bit : ℕ) → IsBitOf (source_at cpu 8) bit → IsWishBit cpu bit
minimum_bit cpu bit h = wish_at cpu 8 bit (omega arith) (omega arith) h

pub maximum_bit : (cpu : Binding) (bit : ℕ) → IsBitOf (source_at cpu 9) bit → IsWishBit cpu bit
maximum_bit cpu bit h = wish_at cpu 9 bit (omega arith) (omega arith) h

bit_of_entry : (cpu : Binding) (bit n : ℕ) (f : Field) → source_at cpu n ≡ At f → InField f bit → IsBitOf (source_at cpu n) bit
bit_of_entry cpu bit n f e inside = subst (λ (s : Source1). IsBitOf s bit) (sym e) inside

pub no_wish_bit : (cpu : Binding) (bit : ℕ) → (IsBitOf (source_at cpu 7) bit → ⊥) → (IsBitOf (source_at cpu 8) bit → ⊥)
    → (IsBitOf (source_at cpu 9) bit → ⊥) → IsWishBit cpu bit → ⊥
no_wish_bit cpu bit a b c w =
    let h : IsBitOf (source_at cpu w.n) bit = bit_of_entry cpu bit w.n w.field w.at w.inside in
    let from : 7 ≤ w.n = w.from in
    let below : w.n < 10 = w.below in
    let P : ℕ → Type 0 = λ n. IsBitOf (source_at cpu n) bit in
    elim (cases_lt w.n 8) [
      | inl x ↦ let e : w.n ≡ 7 = omega arith in a (subst P e h)
      | inr x ↦ elim (cases_lt w.n 9) [
        | inl y ↦ let e : w.n ≡ 8 = omega arith in b (subst P e h)
        | inr y ↦ let e : w.n ≡ 9 = omega arith in c (subst P e h)
      ]
    ]

pub ruleset wish_bits = (desired_bit, minimum_bit, maximum_bit, no_wish_bit)

-- ---- one processor, bit by bit

pub bits_start : (cpu : Binding) (before input : List ℕ) (n : ℕ) → WishBitsDiffer cpu before input n n
bits_start cpu before input n = record { same = λ bit from lt. absurd (omega arith) }

bits_next : (cpu : Binding) (before input : List ℕ) (first n : ℕ) → ((IsWishBit cpu n → ⊥) → bit_of input n ≡ bit_of before n)
    → WishBitsDiffer cpu before input first n → WishBitsDiffer cpu before input first (n + 1)
bits_next cpu before input first n here w = record {
  same = λ bit from lt. elim (cases_lt bit n) [
    | inl h ↦ w.same bit from h
    | inr h ↦
        let e : n ≡ bit = omega arith in
        subst (λ (i : ℕ). (IsWishBit cpu i → ⊥) → bit_of input i ≡ bit_of before i) e here
  ];
}

pub bits_same : (cpu : Binding) (before input : List ℕ) (first n : ℕ) → bit_of input n ≡ bit_of before n
    → WishBitsDiffer cpu before input first n → WishBitsDiffer cpu before input first (n + 1)
bits_same cpu before input first n e w = bits_next cpu before input first n (λ no. e) w

pub bits_wish : (cpu : Binding) (before input : List ℕ) (first n : ℕ) → IsWishBit cpu n
    → WishBitsDiffer cpu before input first n → WishBitsDiffer cpu before input first (n + 1)
bits_wish cpu before input first n is w = bits_next cpu before input first n (λ out. absurd (out is)) w

pub bits_out : (cpu : Binding) (before input : List ℕ) (first n all : ℕ) → first ≤ n → n < all → bit_of input n ≢ bit_of before n
    → (IsWishBit cpu n → ⊥) → WishBitsDiffer cpu before input first all → ⊥
bits_out cpu before input first n all from lt ne out w = ne (w.same n from lt out)

pub bits_end : (cpu : Binding) (before input : List ℕ) (first n m : ℕ) → m ≤ n → WishBitsDiffer cpu before input first n
    → WishBitsDiffer cpu before input first m
bits_end cpu before input first n m le w = record { same = λ bit from lt. w.same bit from (omega arith) }

pub ruleset of_bits = (bits_start, bits_same, bits_wish, bits_out, bits_end)

-- ---- one processor, byte by byte

pub bytes_start : (cpu : Binding) (before input : List ℕ) → WishBitsDiffer cpu before input 0 (8 * 0)
bytes_start cpu before input = bits_start cpu before input 0

pub bytes_more : (cpu : Binding) (before input : List ℕ) (n : ℕ) → WishBitsDiffer cpu before input (8 * n) (8 * (n + 1))
    → WishBitsDiffer cpu before input 0 (8 * n) → WishBitsDiffer cpu before input 0 (8 * (n + 1))
bytes_more cpu before input n here w = record {
  same = λ bit from lt. elim (cases_lt bit (8 * n)) [
    | inl h ↦ w.same bit from h
    | inr h ↦ here.same bit h lt
  ];
}

byte_of : (bit n : ℕ) → 8 * n ≤ bit → bit < 8 * (n + 1) → bit / 8 ≡ n
byte_of bit n from lt = omega arith

pub bytes_same : (cpu : Binding) (before input : List ℕ) (n : ℕ) → slice_index input n ≡ slice_index before n
    → WishBitsDiffer cpu before input 0 (8 * n) → WishBitsDiffer cpu before input 0 (8 * (n + 1))
bytes_same cpu before input n e w = bytes_more cpu before input n (record {
  same = λ bit from lt out.
      let here : n ≡ bit / 8 = sym (byte_of bit n from lt) in
      ap (λ (byte : ℕ). bit_at byte (bit % 8)) (subst (λ (i : ℕ). slice_index input i ≡ slice_index before i) here e);
}) w

pub bytes_out : (cpu : Binding) (before input : List ℕ) (n all : ℕ) → n < all
    → (WishBitsDiffer cpu before input (8 * n) (8 * (n + 1)) → ⊥) → WishBitsDiffer cpu before input 0 (8 * all) → ⊥
bytes_out cpu before input n all lt out w = out (record { same = λ bit from below. w.same bit (omega arith) (omega arith) })

pub ruleset of_bytes = (bytes_start, bytes_more, bytes_same, bytes_out, bits_end)

-- ---- all processors

past : (xs : List ℕ) (i : ℕ) → length xs ≤ i → slice_index xs i ≡ 0
past [] i le = refl
past (x ∷ xs) zero le = absurd (omega arith)
past (x ∷ xs) (suc i) le = past xs i (omega arith)

place_past : (len bit : ℕ) → 8 * len ≤ bit → len ≤ bit / 8
place_past len bit le = omega arith

bit_past : (before input : List ℕ) (bit : ℕ) → length before ≡ length input → 8 * length input ≤ bit → bit_of input bit ≡ bit_of before bit
bit_past before input bit e le =
    let p : length input ≤ bit / 8 = place_past (length input) bit le in
    let q : length before ≤ bit / 8 = omega arith in
    rw (past input (bit / 8) p, past before (bit / 8) q) refl

pub one_differs : (cpus : List Binding) (before input : List ℕ) (n : ℕ) (d : Binding) → n < length cpus → length before ≡ length input → IsBytes input
    → WishBitsDiffer (get_or cpus n d) before input 0 (8 * length input) → DifferInWish cpus before input
one_differs cpus before input n d lt len bytes w = record {
  cpu = get_or cpus n d;
  one = (n, lt, get_or_default cpus n _ d lt);
  len = sym len;
  bytes = bytes;
  others = λ bit out. elim (cases_lt bit (8 * length input)) [
    | inl h ↦ w.same bit (omega arith) h out
    | inr h ↦ bit_past before input bit len h
  ];
}

-- none of the first n processors has all differences in its wish
pub record NoneDiffers (cpus : List Binding) (before input : List ℕ) (n : ℕ) : Type 0 where
  pub none : (k : ℕ) (d : Binding) → k < n → WishBitsDiffer (get_or cpus k d) before input 0 (8 * length input) → ⊥

pub none_start : (cpus : List Binding) (before input : List ℕ) → NoneDiffers cpus before input 0
none_start cpus before input = record { none = λ k d lt. absurd (omega arith) }

pub none_more : (cpus : List Binding) (before input : List ℕ) (n : ℕ) (d : Binding) → n < length cpus
    → (WishBitsDiffer (get_or cpus n d) before input 0 (8 * length input) → ⊥) → NoneDiffers cpus before input n → NoneDiffers cpus before input (n + 1)
none_more cpus before input n d lt here w = record {
  none = λ k e below. elim (cases_lt k n) [
    | inl h ↦ w.none k e h
    | inr h ↦
        let same : n ≡ k = omega arith in
        subst (λ (j : ℕ). WishBitsDiffer (get_or cpus j e) before input 0 (8 * length input) → ⊥) same
        (subst (λ (cpu : Binding). WishBitsDiffer cpu before input 0 (8 * length input) → ⊥) (get_or_default cpus n d e lt) here)
  ];
}

pub none_end : (cpus : List Binding) (before input : List ℕ) (n : ℕ) → length cpus ≤ n → NoneDiffers cpus before input n
    → DifferInWish cpus before input → ⊥
none_end cpus before input n le w x =
    let k = x.one.0 in
    let lt : k < length cpus = x.one.1 in
    w.none k x.cpu (omega arith)
    (subst (λ (cpu : Binding). WishBitsDiffer cpu before input 0 (8 * length input)) (sym x.one.2)
    (record { same = λ bit from below out. x.others bit out }))

pub ruleset of_processors = (one_differs, none_start, none_more, none_end)

-- ---- ranges

pub one_inside : (cpu : Binding) (space : List ℕ) → All (λ c. InRange c space) (cpu ∷ []) → InRange cpu space
one_inside cpu space h = h 0 cpu (omega arith)

pub one_outside : (cpu : Binding) (space : List ℕ) (o : StartOutside) → IsStartOutside (cpu ∷ []) space o → InRange cpu space → ⊥
one_outside cpu space o h r =
    let lt : o.cpu < 1 = h.within in
    let e : 0 ≡ o.cpu = omega arith in
    h.out cpu (subst (λ (k : ℕ). InRange (slice_index_or (cpu ∷ []) k cpu) space) e r)

pub ruleset of_range = (one_inside, one_outside)

-- the first n processors are in their range
pub record Inside (cpus : List Binding) (space : List ℕ) (n : ℕ) : Type 0 where
  pub front : (k : ℕ) (d : Binding) → k < n → InRange (get_or cpus k d) space

pub inside_start : (cpus : List Binding) (space : List ℕ) → Inside cpus space 0
inside_start cpus space = record { front = λ k d lt. absurd (omega arith) }

pub inside_more : (cpus : List Binding) (space : List ℕ) (n : ℕ) (d : Binding) → n < length cpus → InRange (get_or cpus n d) space
    → Inside cpus space n → Inside cpus space (n + 1)
inside_more cpus space n d lt here before = record {
  front = λ k e below. elim (cases_lt k n) [
    | inl h ↦ before.front k e h
    | inr h ↦
        let same : n ≡ k = omega arith in
        subst (λ (j : ℕ). InRange (get_or cpus j e) space) same
        (subst (λ (cpu : Binding). InRange cpu space) (get_or_default cpus n d e lt) here)
  ];
}

pub inside_end : (cpus : List Binding) (space : List ℕ) (n : ℕ) → length cpus ≤ n → Inside cpus space n → AreInRange cpus space
inside_end cpus space n le h = λ k d lt. h.front k d (omega arith)

pub inside_out : (cpus : List Binding) (space : List ℕ) (n : ℕ) (d : Binding) → n < length cpus → (InRange (get_or cpus n d) space → ⊥)
    → AreInRange cpus space → ⊥
inside_out cpus space n d lt out h = out (h n d lt)

pub ruleset of_ranges = (inside_start, inside_more, inside_end, inside_out)
