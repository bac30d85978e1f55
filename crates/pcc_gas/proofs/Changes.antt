-- Laws of changes at once.
use Rattle.std.proofs.Common.{◌≡◌, ◌⊎◌, ℕ, zero, suc, ◌+◌, ◌-◌, ◌*◌, ◌/◌, ◌%◌, ◌^◌, ◌<◌, ◌≤◌, Bool, true, false, cond, leb, ltb, List, [], ◌∷◌, ◌++◌, length, slice_index, inl, inr, refl, sym, ap, ◌∙◌, add-zero, arith}
use Rattle.std.proofs.lemmas.Bool.{and_parts, cases_lt, le-leb, leb-true, lt-ltb, ltb-true}
use Rattle.std.proofs.lemmas.List.{get_or_past}
use Rattle.std.proofs.lemmas.Nat.Bits.{bit_at-lt, bit_at-zero, bit_at_cat_high, bit_at_cat_low, bit_at_lowest}
use Rattle.std.proofs.Math.Nat.{add_comm, mod-eq_of_lt, pow-suc}
use Rattle.std.specs.Int.{bit_at}
use Rattle.pcc_bytes.specs.Bytes.{IsBytes}
use Rattle.pcc_gas.specs.declared.change.Change.{Change}
use Rattle.pcc_gas.specs.declared.field.Field.{Field}
use Rattle.pcc_gas.specs.Fields.{FieldPut, InField, bit_of, field_value}
use Rattle.pcc_gas.specs.Changes.{AreApartFrom, FitIn, IsApartFrom, IsOutside, TakeFrom, bytes_by, change, changed_bit, is_in, number_by, with_changes}
use Rattle.pcc_gas.proofs.Fields.{bit_at-field_value, bits_from-number, bits_from-same, one_more, same_bytes}

-- ---- numbers and bytes by their bits

number_by-lt : (bit : ℕ → ℕ) (n : ℕ) → ((k : ℕ) → bit k < 2) → number_by bit n < 2 ^ n
number_by-lt bit zero low = omega arith
number_by-lt bit (suc n) low = rw (pow-suc 2 n) (one_more (number_by bit n) (bit n) (2 ^ n) (number_by-lt bit n low) (low n))

bit_at-number_by : (bit : ℕ → ℕ) (n k : ℕ) → ((k : ℕ) → bit k < 2) → k < n → bit_at (number_by bit n) k ≡ bit k
bit_at-number_by bit zero k low h = absurd (omega arith)
bit_at-number_by bit (suc n) k low h =
    ap (λ (m : ℕ). bit_at m k) (add_comm (number_by bit n) (bit n * 2 ^ n)) ∙ elim (cases_lt k n) [
      | inl inside ↦ bit_at_cat_low (bit n) n (number_by bit n) k inside ∙ bit_at-number_by bit n k low inside
      | inr last ↦
          let here : k - n ≡ 0 = omega arith in
          let same : n ≡ k = omega arith in
          bit_at_cat_high (bit n) n (number_by bit n) k (number_by-lt bit n low) last
          ∙ ap (bit_at (bit n)) here ∙ bit_at_lowest (bit n) ∙ mod-eq_of_lt (low n) ∙ ap bit same
    ]

length-bytes_by : (bit : ℕ → ℕ) (first n : ℕ) → length (bytes_by bit first n) ≡ n
length-bytes_by bit first zero = refl
length-bytes_by bit first (suc n) = ap suc (length-bytes_by bit (first + 1) n)

byte-bytes_by : (bit : ℕ → ℕ) (first n i : ℕ) → i < n → slice_index (bytes_by bit first n) i ≡ number_by (λ k. bit (8 * (first + i) + k)) 8
byte-bytes_by bit first zero i h = absurd (omega arith)
byte-bytes_by bit first (suc n) zero h = ap (λ (place : ℕ). number_by (λ k. bit (8 * place + k)) 8) (sym (add-zero first))
byte-bytes_by bit first (suc n) (suc i) h =
    let e : first + 1 + i ≡ first + suc i = omega arith in
    byte-bytes_by bit (first + 1) n i (omega arith) ∙ ap (λ (place : ℕ). number_by (λ k. bit (8 * place + k)) 8) e

bytes_by-bytes : (bit : ℕ → ℕ) (n : ℕ) → ((k : ℕ) → bit k < 2) → IsBytes (bytes_by bit 0 n)
bytes_by-bytes bit n low = record {
  fits = λ place. elim (cases_lt place n) [
    | inl inside ↦
        let small : number_by (λ k. bit (8 * (0 + place) + k)) 8 < 2 ^ 8 = number_by-lt _ 8 (λ k. low (8 * (0 + place) + k)) in
        rw (byte-bytes_by bit 0 n place inside) small
    | inr past ↦ rw (get_or_past (bytes_by bit 0 n) place 0 (omega (arith, length-bytes_by bit 0 n))) (omega arith)
  ];
}

bit_of-bytes_by : (bit : ℕ → ℕ) (n i : ℕ) → ((k : ℕ) → bit k < 2) → i < 8 * n → bit_of (bytes_by bit 0 n) i ≡ bit i
bit_of-bytes_by bit n i low h =
    let place : i / 8 < n = omega arith in
    let e : 8 * (0 + i / 8) + i % 8 ≡ i = omega arith in
    ap (λ (byte : ℕ). bit_at byte (i % 8)) (byte-bytes_by bit 0 n (i / 8) place)
    ∙ bit_at-number_by (λ k. bit (8 * (0 + i / 8) + k)) 8 (i % 8) (λ k. low (8 * (0 + i / 8) + k)) (omega arith)
    ∙ ap bit e

bit_of-past : (space : List ℕ) (bit : ℕ) → 8 * length space ≤ bit → bit_of space bit ≡ 0
bit_of-past space bit past =
    ap (λ (byte : ℕ). bit_at byte (bit % 8)) (get_or_past space (bit / 8) 0 (omega arith)) ∙ bit_at-zero (bit % 8)

-- ---- whether a bit belongs to a field

split : (b : Bool) → (b ≡ true) ⊎ (b ≡ false)
split true = inl refl
split false = inr refl

true_false : (b : Bool) → b ≡ true → b ≡ false → ⊥
true_false b h k = cc

in_field : (field : Field) (bit : ℕ) → is_in field bit ≡ true → InField field bit
in_field field bit h =
    let parts = and_parts (leb field.at_bit bit) (ltb bit (field.at_bit + field.width)) h in
    record { from = leb-true field.at_bit bit parts.0; below = ltb-true bit (field.at_bit + field.width) parts.1 }

is_in-true : (field : Field) (bit : ℕ) → InField field bit → is_in field bit ≡ true
is_in-true field bit here = rw (le-leb field.at_bit bit here.from, lt-ltb bit (field.at_bit + field.width) here.below) refl

is_in-false : (field : Field) (bit : ℕ) → (InField field bit → ⊥) → is_in field bit ≡ false
is_in-false field bit out = elim (split (is_in field bit)) [
  | inl is ↦ absurd (out (in_field field bit is))
  | inr none ↦ none
]

-- ---- a bit after changes

choice : (b : Bool) (x y : ℕ) → x < 2 → y < 2 → cond b x y < 2
choice true x y p q = p
choice false x y p q = q

changed_bit-lt : (changes : List Change) (space : List ℕ) (bit : ℕ) → changed_bit changes space bit < 2
changed_bit-lt [] space bit = bit_at-lt (slice_index space (bit / 8)) (bit % 8)
changed_bit-lt (c ∷ cs) space bit =
    choice (is_in c.field bit) (bit_at c.value (bit - c.field.at_bit)) (changed_bit cs space bit) (bit_at-lt c.value (bit - c.field.at_bit)) (changed_bit-lt cs space bit)

-- in the first field, and outside of it
first_bit : (c : Change) (cs : List Change) (space : List ℕ) (bit : ℕ) → InField c.field bit → changed_bit (c ∷ cs) space bit ≡ bit_at c.value (bit - c.field.at_bit)
first_bit c cs space bit here = rw (is_in-true c.field bit here) refl

later_bit : (c : Change) (cs : List Change) (space : List ℕ) (bit : ℕ) → (InField c.field bit → ⊥) → changed_bit (c ∷ cs) space bit ≡ changed_bit cs space bit
later_bit c cs space bit out = rw (is_in-false c.field bit out) refl

outside_bit : (changes : List Change) (space : List ℕ) (bit : ℕ) → IsOutside bit changes → changed_bit changes space bit ≡ bit_of space bit
outside_bit [] space bit out = refl
outside_bit (c ∷ cs) space bit out = later_bit c cs space bit out.0 ∙ outside_bit cs space bit out.1

-- the last of the changes, at a bit that is in none of the others
last_bit : (changes : List Change) (c : Change) (space : List ℕ) (bit : ℕ) → IsOutside bit changes → InField c.field bit
    → changed_bit (changes ++ c ∷ []) space bit ≡ bit_at c.value (bit - c.field.at_bit)
last_bit [] c space bit out here = first_bit c [] space bit here
last_bit (d ∷ ds) c space bit out here = later_bit d (ds ++ c ∷ []) space bit out.0 ∙ last_bit ds c space bit out.1 here

same_choice : (b : Bool) (x y z : ℕ) → y ≡ z → cond b x y ≡ cond b x z
same_choice b x y z e = ap (cond b x) e

not_last : (changes : List Change) (c : Change) (space : List ℕ) (bit : ℕ) → (InField c.field bit → ⊥) → changed_bit (changes ++ c ∷ []) space bit ≡ changed_bit changes space bit
not_last [] c space bit out = later_bit c [] space bit out
not_last (d ∷ ds) c space bit out = same_choice (is_in d.field bit) (bit_at d.value (bit - d.field.at_bit)) _ _ (not_last ds c space bit out)

-- ---- a space after changes

pub changes-length : (changes : List Change) (space : List ℕ) → length (with_changes changes space) ≡ length space
unfolding with_changes
changes-length changes space = length-bytes_by (changed_bit changes space) 0 (length space)

pub changes-bytes : (changes : List Change) (space : List ℕ) → IsBytes (with_changes changes space)
unfolding with_changes
changes-bytes changes space = bytes_by-bytes (changed_bit changes space) (length space) (changed_bit-lt changes space)

pub changes-bit : (changes : List Change) (space : List ℕ) (bit : ℕ) → bit < 8 * length space → bit_of (with_changes changes space) bit ≡ changed_bit changes space bit
unfolding with_changes
changes-bit changes space bit inside = bit_of-bytes_by (changed_bit changes space) (length space) bit (changed_bit-lt changes space) inside

past_bit : (changes : List Change) (space : List ℕ) (bit : ℕ) → 8 * length space ≤ bit → bit_of (with_changes changes space) bit ≡ bit_of space bit
past_bit changes space bit past =
    bit_of-past (with_changes changes space) bit (omega (arith, changes-length changes space)) ∙ sym (bit_of-past space bit past)

pub changes-outside : (changes : List Change) (space : List ℕ) (bit : ℕ) → IsOutside bit changes → bit_of (with_changes changes space) bit ≡ bit_of space bit
changes-outside changes space bit out = elim (cases_lt bit (8 * length space)) [
  | inl inside ↦ changes-bit changes space bit inside ∙ outside_bit changes space bit out
  | inr past ↦ past_bit changes space bit past
]

out_of : (field : Field) (changes : List Change) (bit : ℕ) → IsApartFrom field changes → InField field bit → IsOutside bit changes
out_of field [] bit apart here = tt
out_of field (c ∷ cs) bit apart here = (λ there. apart.0 bit here there, out_of field cs bit apart.1 here)

pub same_field : (a b : List ℕ) (field : Field) → ((k : ℕ) → k < field.width → bit_of a (field.at_bit + k) ≡ bit_of b (field.at_bit + k)) → field_value a field ≡ field_value b field
unfolding field_value
same_field a b field same = bits_from-same a b field.at_bit field.width same

pub changes-apart : (changes : List Change) (space : List ℕ) (field : Field) → IsApartFrom field changes → field_value (with_changes changes space) field ≡ field_value space field
changes-apart changes space field apart =
    same_field (with_changes changes space) space field
    (λ k h. changes-outside changes space (field.at_bit + k) (out_of field changes (field.at_bit + k) apart (record { from = omega arith; below = omega arith })))

-- ---- single changes

pub changes-none : (space : List ℕ) → IsBytes space → with_changes [] space ≡ space
changes-none space all = same_bytes (with_changes [] space) space (changes-bytes [] space) all (changes-length [] space) (λ bit. changes-outside [] space bit tt)

-- the number of a field by its bits
value_by : (space : List ℕ) (field : Field) (value : ℕ) → value < 2 ^ field.width → ((k : ℕ) → k < field.width → bit_of space (field.at_bit + k) ≡ bit_at value k)
    → field_value space field ≡ value
unfolding field_value
value_by space field value fits same = bits_from-number space field.at_bit field.width value same ∙ mod-eq_of_lt fits

back : (a k : ℕ) → a + k - a ≡ k
back a k = omega arith

pub changes-one : (space : List ℕ) (field : Field) (value : ℕ) → FitIn (length space) (change field value) → FieldPut space field value (with_changes (change field value ∷ []) space)
changes-one space field value fit =
    let inside : field.at_bit + field.width ≤ 8 * length space = fit.inside in
    record {
      len = changes-length (change field value ∷ []) space;
      put = value_by (with_changes (change field value ∷ []) space) field value fit.fits (λ k h.
          changes-bit (change field value ∷ []) space (field.at_bit + k) (omega arith)
          ∙ first_bit (change field value) [] space (field.at_bit + k) (record { from = omega arith; below = omega arith })
          ∙ ap (bit_at value) (back field.at_bit k));
      others = λ bit out. changes-outside (change field value ∷ []) space bit (out, tt);
    }

-- ---- one change more

-- a bit of a field into which a number was put
put_bit : (space : List ℕ) (field : Field) (value : ℕ) (after : List ℕ) (bit : ℕ) → FieldPut space field value after → InField field bit → bit_of after bit ≡ bit_at value (bit - field.at_bit)
put_bit space field value after bit put here =
    let from : field.at_bit ≤ bit = here.from in
    let below : bit < field.at_bit + field.width = here.below in
    let e : bit ≡ field.at_bit + (bit - field.at_bit) = omega arith in
    ap (bit_of after) e ∙ sym (bit_at-field_value after field (bit - field.at_bit) (omega arith)) ∙ ap (λ (n : ℕ). bit_at n (bit - field.at_bit)) put.put

pub changes-next : (changes : List Change) (space after : List ℕ) (field : Field) (value : ℕ) → IsBytes after → value < 2 ^ field.width
    → IsApartFrom field changes → FieldPut (with_changes changes space) field value after → after ≡ with_changes (changes ++ change field value ∷ []) space
changes-next changes space after field value all fits apart put =
    let more : List Change = changes ++ change field value ∷ [] in
    let len : length after ≡ length space = put.len ∙ changes-length changes space in
    let inside : (bit : ℕ) → bit < 8 * length space → bit_of after bit ≡ changed_bit more space bit = λ bit h.
    elim (split (is_in field bit)) [
      | inl is ↦
          let here : InField field bit = in_field field bit is in
          put_bit (with_changes changes space) field value after bit put here ∙ sym (last_bit changes (change field value) space bit (out_of field changes bit apart here) here)
      | inr none ↦
          let out : InField field bit → ⊥ = λ here. absurd (true_false (is_in field bit) (is_in-true field bit here) none) in
          put.others bit out ∙ changes-bit changes space bit h ∙ sym (not_last changes (change field value) space bit out)
    ] in
    same_bytes after (with_changes more space) all (changes-bytes more space) (len ∙ sym (changes-length more space)) (λ bit.
    elim (cases_lt bit (8 * length space)) [
      | inl h ↦ inside bit h ∙ sym (changes-bit more space bit h)
      | inr past ↦ bit_of-past after bit (omega (arith, len)) ∙ sym (bit_of-past space bit past) ∙ sym (past_bit more space bit past)
    ])

-- ---- changes after changes

-- a bit outside of the first changes, and one outside of the later ones
skip_bit : (first later : List Change) (space : List ℕ) (bit : ℕ) → IsOutside bit first → changed_bit (first ++ later) space bit ≡ changed_bit later space bit
skip_bit [] later space bit out = refl
skip_bit (c ∷ cs) later space bit out = later_bit c (cs ++ later) space bit out.0 ∙ skip_bit cs later space bit out.1

front_bit : (first later : List Change) (space : List ℕ) (bit : ℕ) → IsOutside bit later → changed_bit (first ++ later) space bit ≡ changed_bit first space bit
front_bit [] later space bit out = outside_bit later space bit out
front_bit (c ∷ cs) later space bit out = same_choice (is_in c.field bit) (bit_at c.value (bit - c.field.at_bit)) _ _ (front_bit cs later space bit out)

-- a bit that later changes give: none of the first ones has it, and the space doesn't matter
pub record Given (first later : List Change) (bit : ℕ) : Type 0 where
  pub out : IsOutside bit first
  pub same : (a b : List ℕ) → changed_bit later a bit ≡ changed_bit later b bit

given_or_not : (first later : List Change) (bit : ℕ) → AreApartFrom first later → IsOutside bit later ⊎ Given first later bit
given_or_not first [] bit apart = inl tt
given_or_not first (d ∷ ds) bit apart = elim (split (is_in d.field bit)) [
  | inl is ↦
      let here : InField d.field bit = in_field d.field bit is in
      inr (record { out = out_of d.field first bit apart.0 here; same = λ a b. first_bit d ds a bit here ∙ sym (first_bit d ds b bit here) })
  | inr none ↦
      let out : InField d.field bit → ⊥ = λ here. absurd (true_false (is_in d.field bit) (is_in-true d.field bit here) none) in
      elim (given_or_not first ds bit apart.1) [
        | inl others ↦ inl (out, others)
        | inr given ↦ inr (record { out = given.out; same = λ a b. later_bit d ds a bit out ∙ given.same a b ∙ sym (later_bit d ds b bit out) })
      ]
]

more_bit : (first later : List Change) (space : List ℕ) (bit : ℕ) → AreApartFrom first later → bit < 8 * length space
    → changed_bit later (with_changes first space) bit ≡ changed_bit (first ++ later) space bit
more_bit first later space bit apart inside = elim (given_or_not first later bit apart) [
  | inl out ↦
      outside_bit later (with_changes first space) bit out ∙ changes-bit first space bit inside ∙ sym (front_bit first later space bit out)
  | inr given ↦ given.same (with_changes first space) space ∙ sym (skip_bit first later space bit given.out)
]

pub changes-more : (first later : List Change) (space : List ℕ) → AreApartFrom first later
    → with_changes later (with_changes first space) ≡ with_changes (first ++ later) space
changes-more first later space apart =
    let between : List ℕ = with_changes first space in
    let len : length between ≡ length space = changes-length first space in
    same_bytes (with_changes later between) (with_changes (first ++ later) space) (changes-bytes later between) (changes-bytes (first ++ later) space)
    (changes-length later between ∙ len ∙ sym (changes-length (first ++ later) space)) (λ bit.
    elim (cases_lt bit (8 * length space)) [
      | inl h ↦
          changes-bit later between bit (omega (arith, len)) ∙ more_bit first later space bit apart h
          ∙ sym (changes-bit (first ++ later) space bit h)
      | inr past ↦
          past_bit later between bit (omega (arith, len)) ∙ past_bit first space bit past ∙ sym (past_bit (first ++ later) space bit past)
    ])

-- ---- numbers that are taken from another space

taken_bit : (changes : List Change) (space other : List ℕ) (bit : ℕ) → TakeFrom other changes → (IsOutside bit changes → bit_of space bit ≡ bit_of other bit)
    → changed_bit changes space bit ≡ bit_of other bit
taken_bit [] space other bit takes same = same tt
taken_bit (c ∷ cs) space other bit takes same = elim (split (is_in c.field bit)) [
  | inl is ↦
      let here : InField c.field bit = in_field c.field bit is in
      let from : c.field.at_bit ≤ bit = here.from in
      let below : bit < c.field.at_bit + c.field.width = here.below in
      let e : c.field.at_bit + (bit - c.field.at_bit) ≡ bit = omega arith in
      first_bit c cs space bit here ∙ ap (λ (n : ℕ). bit_at n (bit - c.field.at_bit)) takes.0
      ∙ bit_at-field_value other c.field (bit - c.field.at_bit) (omega arith) ∙ ap (bit_of other) e
  | inr none ↦
      let out : InField c.field bit → ⊥ = λ here. absurd (true_false (is_in c.field bit) (is_in-true c.field bit here) none) in
      later_bit c cs space bit out ∙ taken_bit cs space other bit takes.1 (λ outside. same (out, outside))
]

pub changes-taken : (changes : List Change) (space other : List ℕ) → IsBytes other → length space ≡ length other → TakeFrom other changes
    → ((bit : ℕ) → IsOutside bit changes → bit_of space bit ≡ bit_of other bit) → with_changes changes space ≡ other
changes-taken changes space other all len takes same =
    same_bytes (with_changes changes space) other (changes-bytes changes space) all (changes-length changes space ∙ len) (λ bit.
    elim (cases_lt bit (8 * length space)) [
      | inl h ↦ changes-bit changes space bit h ∙ taken_bit changes space other bit takes (same bit)
      | inr past ↦ past_bit changes space bit past ∙ bit_of-past space bit past ∙ sym (bit_of-past other bit (omega (arith, len)))
    ])

pub changes-own : (space : List ℕ) (field : Field) → IsBytes space → with_changes (change field (field_value space field) ∷ []) space ≡ space
changes-own space field all = changes-taken (change field (field_value space field) ∷ []) space space all refl (refl, tt) (λ bit out. refl)
