-- What the two commands of a controller and a wish make of its registers.
use Rattle.std.proofs.Common.{◌≡◌, ◌<◌, ◌≤◌, ℕ, zero, suc, ◌+◌, List, [], ◌∷◌, ◌++◌, length, get_or, Option, Some, None, inl, inr, refl, sym, ap, ◌∙◌, subst, arith}
use Rattle.std.specs.Prelude.{Contains, bit_or, flat_map}
use Rattle.std.specs.List.{AllByRecursion, slice_get}
use Rattle.std.proofs.lemmas.Bool.{cases_lt}
use Rattle.std.proofs.lemmas.Option.{get_or_from_slice_get, same_Some, slice_get-get_or, slice_get_read}
use Rattle.pcc_bytes.specs.Bytes.{IsBytes}
use Rattle.pcc_gas.specs.Changes.{IsApartFrom, IsOutside, TakeFrom, with_changes}
use Rattle.pcc_gas.specs.Fields.{AreApart, InField, bit_of, field_value}
use Rattle.pcc_gas.specs.declared.change.Change.{Change}
use Rattle.pcc_gas.specs.declared.field.Field.{Field}
use Rattle.pcc_gas.proofs.Changes.{changes-bytes, changes-length, changes-outside, changes-taken}
use Rattle.cpc_package.specs.Bindings.{AreProcessors, IsRight, LiesIn, ShareBit, source_at}
use Rattle.cpc_package.specs.declared.binding.Binding.{Binding}
use Rattle.cpc_package.specs.declared.binding.Source1.{Source1}
use Rattle.cpc_package.specs.declared.binding.Source1.TheVariants.{Missing, Number, At}
use Rattle.cppc_device.specs.Devices.{Cppc, IsDevice, capped, entry_number, excursions, field_in, in_force, put_into, reference_of, sampled, sampled_of, taken_from, written, written_entries, written_of}
use Rattle.cpc_package.specs.Bindings.{number_in}
use Rattle.cppc_device.specs.Ranges.{InRange, Rises, performances}
use Rattle.cppc_device.proofs.Apart.{AllOf, Of, all_of-append, all_of-wider, put_by}
use Rattle.cppc_device.proofs.Sampling.{same_in, same_number}
use Rattle.cppc_calls.specs.Wishes.{wish_changes, wish_fault, wished, with_wish}
use Rattle.cppc_calls.specs.declared.wish.Wish.{Wish}
use Rattle.cppc_calls.proofs.Put.{wished_of}
use Rattle.cppc_calls.proofs.Refusals.{can_put}
use Rattle.cppc_headline.specs.Journals.{AreInRange, DifferInWish}

-- ---- lists

in_list : {X : Type 0} (xs : List X) (i : ℕ) (x : X) → slice_get xs i ≡ Some x → i < length xs
in_list [] i x e = absurd cc
in_list (y ∷ xs) zero x e = omega arith
in_list (y ∷ xs) (suc i) x e = let lt : i < length xs = in_list xs i x e in omega (arith, lt)

all_append : {X : Type 0} (P : X → Type 0) (xs ys : List X) → AllByRecursion P xs → AllByRecursion P ys → AllByRecursion P (xs ++ ys)
all_append P [] ys h k = k
all_append P (x ∷ xs) ys h k = (h.0, all_append P xs ys h.1 k)

all_front : {X : Type 0} (P : X → Type 0) (xs ys : List X) → AllByRecursion P (xs ++ ys) → AllByRecursion P xs
all_front P [] ys h = tt
all_front P (x ∷ xs) ys h = (h.0, all_front P xs ys h.1)

all_rest : {X : Type 0} (P : X → Type 0) (xs ys : List X) → AllByRecursion P (xs ++ ys) → AllByRecursion P ys
all_rest P [] ys h = h
all_rest P (x ∷ xs) ys h = all_rest P xs ys h.1

all_by : {X : Type 0} (P Q : X → Type 0) (xs : List X) → ((x : X) → P x → Q x) → AllByRecursion P xs → AllByRecursion Q xs
all_by P Q [] each h = tt
all_by P Q (x ∷ xs) each h = (each x h.0, all_by P Q xs each h.1)

-- what holds of each part holds of all, and the other way round
all_flat : {A X : Type 0} (P : X → Type 0) (f : A → List X) (xs : List A) → ((x : A) (k : ℕ) → slice_get xs k ≡ Some x → AllByRecursion P (f x))
    → AllByRecursion P (flat_map f xs)
all_flat P f [] each = tt
all_flat P f (x ∷ xs) each = all_append P (f x) (flat_map f xs) (each x 0 refl) (all_flat P f xs (λ y k e. each y (suc k) e))

part_of : {A X : Type 0} (P : X → Type 0) (f : A → List X) (xs : List A) (k : ℕ) (x : A) → slice_get xs k ≡ Some x → AllByRecursion P (flat_map f xs)
    → AllByRecursion P (f x)
part_of P f [] k x e h = absurd cc
part_of {X = X} P f (y ∷ xs) zero x e h = subst (λ v. AllByRecursion P (f v)) (same_Some y x e) (all_front P (f y) (flat_map f xs) h)
part_of P f (y ∷ xs) (suc k) x e h = part_of P f xs k x e (all_rest P (f y) (flat_map f xs) h)

-- ---- fields that are apart

-- of two processors
between : (len : ℕ) (cpus : List Binding) (a b : Binding) (i j m n : ℕ) (f g : Field) → AreProcessors len cpus → slice_get cpus i ≡ Some a → slice_get cpus j ≡ Some b
    → i < j → source_at a m ≡ At f → source_at b n ≡ At g → AreApart f g
between len cpus a b i j m n f g processors at_i at_j lt at_f at_g bit in_f in_g =
    let bound : j < length cpus = in_list cpus j b at_j in
    let is_a : get_or cpus i a ≡ a = get_or_from_slice_get cpus i a a at_i in
    let is_b : get_or cpus j a ≡ b = get_or_from_slice_get cpus j b a at_j in
    let subspace : (get_or cpus i a).subspace ≡ (get_or cpus j a).subspace = processors.subspace i j a lt bound in
    let same : a.subspace ≡ b.subspace = sym (ap (λ (x : Binding). x.subspace) is_a) ∙ subspace ∙ ap (λ (x : Binding). x.subspace) is_b in
    let both : ShareBit (get_or cpus i a) (get_or cpus j a) → ⊥ = processors.apart i j a lt bound in
    let first : ShareBit a (get_or cpus j a) → ⊥ = subst (λ (x : Binding). ShareBit x (get_or cpus j a) → ⊥) is_a both in
    let none : ShareBit a b → ⊥ = subst (λ (x : Binding). ShareBit a x → ⊥) is_b first in
    none (record { subspace = same; m = m; n = n; f = f; g = g; first = at_f; second = at_g; bit = bit; in_first = in_f; in_second = in_g })

right_at : (len : ℕ) (cpus : List Binding) (a : Binding) (i : ℕ) → AreProcessors len cpus → slice_get cpus i ≡ Some a → IsRight a
right_at len cpus a i processors at = subst IsRight (get_or_from_slice_get cpus i a a at) (processors.right i a (in_list cpus i a at))

inside_at : (len : ℕ) (cpus : List Binding) (a : Binding) (i : ℕ) → AreProcessors len cpus → slice_get cpus i ≡ Some a → LiesIn len a
inside_at len cpus a i processors at = subst (LiesIn len) (get_or_from_slice_get cpus i a a at) (processors.inside i a (in_list cpus i a at))

-- of two entries of one processor
within : (a : Binding) (m n : ℕ) (f g : Field) → IsRight a → (m ≡ n → ⊥) → source_at a m ≡ At f → source_at a n ≡ At g → AreApart f g
within a m n f g right other at_f at_g = elim (cases_lt m n) [
  | inl lt ↦ right.apart m n f g lt at_f at_g
  | inr le ↦ elim (cases_lt n m) [
    | inl gt ↦ (λ bit in_f in_g. right.apart n m g f gt at_g at_f bit in_g in_f)
    | inr ge ↦ absurd (other (omega arith))
  ]
]

apart_of : (len : ℕ) (cpus : List Binding) (a b : Binding) (i j m n : ℕ) (f g : Field) → AreProcessors len cpus → slice_get cpus i ≡ Some a → slice_get cpus j ≡ Some b
    → (i ≡ j → m ≡ n → ⊥) → source_at a m ≡ At f → source_at b n ≡ At g → AreApart f g
apart_of len cpus a b i j m n f g processors at_i at_j other at_f at_g = elim (cases_lt i j) [
  | inl lt ↦ between len cpus a b i j m n f g processors at_i at_j lt at_f at_g
  | inr le ↦ elim (cases_lt j i) [
    | inl gt ↦ (λ bit in_f in_g. between len cpus b a j i n m g f processors at_j at_i gt at_g at_f bit in_g in_f)
    | inr ge ↦
        let same : i ≡ j = omega arith in
        let is : a ≡ b = same_Some a b (sym at_i ∙ ap (slice_get cpus) same ∙ at_j) in
        within a m n f g (right_at len cpus a i processors at_i) (other same) at_f (ap (λ (x : Binding). source_at x n) is ∙ at_g)
  ]
]

-- a field of a processor is apart from changes of entries of another one, or of other entries
apart_from : (len : ℕ) (cpus : List Binding) (a b : Binding) (i j n low high : ℕ) (field : Field) (changes : List Change) → AreProcessors len cpus → slice_get cpus i ≡ Some a
    → slice_get cpus j ≡ Some b → (i ≡ j → n < low) → source_at a n ≡ At field → AllOf b low high changes → IsApartFrom field changes
apart_from len cpus a b i j n low high field changes processors at_i at_j below at of =
    all_by (Of b low high) (λ c. AreApart field c.field) changes (λ c o.
    let from : low ≤ o.n = o.from in
    apart_of len cpus a b i j n o.n field c.field processors at_i at_j (λ same e. let lt : n < low = below same in omega (arith, lt, from, e)) at o.at) of

-- ---- ranges

performances_same : (cpu : Binding) (changes : List Change) (space : List ℕ) → ((n : ℕ) (field : Field) → n < 10 → source_at cpu n ≡ At field → IsApartFrom field changes)
    → performances cpu (with_changes changes space) ≡ performances cpu space
performances_same cpu changes space apart =
    rw (
      same_number changes space (source_at cpu 5) (λ field at. apart 5 field (omega arith) at),
      same_in changes space (source_at cpu 8) (λ field at. apart 8 field (omega arith) at),
      same_in changes space (source_at cpu 7) (λ field at. apart 7 field (omega arith) at),
      same_in changes space (source_at cpu 9) (λ field at. apart 9 field (omega arith) at),
      same_number changes space (source_at cpu 2) (λ field at. apart 2 field (omega arith) at),
    ) refl

in_range_same : (cpu : Binding) (changes : List Change) (space : List ℕ) → ((n : ℕ) (field : Field) → n < 10 → source_at cpu n ≡ At field → IsApartFrom field changes)
    → InRange cpu space → InRange cpu (with_changes changes space)
in_range_same cpu changes space apart h = subst (Rises 0) (sym (performances_same cpu changes space apart)) h

-- ---- a command that reads

sampled_entries : (cap : Option ℕ) (registers : List ℕ) (cpu : Binding) → AllOf cpu 13 16 (sampled_of cap registers cpu)
sampled_entries cap registers cpu =
    let a : ℕ = entry_number cpu 13 registers + reference_of cpu registers in
    let b : ℕ = entry_number cpu 14 registers + capped cap (entry_number cpu 7 registers) in
    let c : ℕ = bit_or (entry_number cpu 15 registers) (excursions cap (number_in (source_at cpu 7) registers) (field_in (source_at cpu 8) registers)) in
    let one : List Change = put_into (source_at cpu 13) a in
    let two : List Change = put_into (source_at cpu 14) b in
    let three : List Change = put_into (source_at cpu 15) c in
    all_of-append cpu 13 16 one (two ++ three) (all_of-wider cpu 13 14 13 16 one (omega arith) (omega arith) (put_by cpu 13 a (source_at cpu 13) refl))
    (all_of-append cpu 13 16 two three (all_of-wider cpu 14 15 13 16 two (omega arith) (omega arith) (put_by cpu 14 b (source_at cpu 14) refl))
    (all_of-wider cpu 15 16 13 16 three (omega arith) (omega arith) (put_by cpu 15 c (source_at cpu 15) refl)))

-- the counters and the note of a limit are apart from what makes a range
sampled_apart : (d : Cppc) → IsDevice d → (cpu : Binding) (i : ℕ) → slice_get d.cpus i ≡ Some cpu → (n : ℕ) (field : Field) → n < 10 → source_at cpu n ≡ At field
    → IsApartFrom field (sampled d)
unfolding sampled
sampled_apart d right cpu i at n field lt at_field =
    let cap : Option ℕ = in_force d.caps d.count in
    all_flat (λ (c : Change). AreApart field c.field) (sampled_of cap d.registers) d.cpus (λ b j at_b.
    apart_from (length d.registers) d.cpus cpu b i j n 13 16 field (sampled_of cap d.registers b) right.cpus at at_b (λ _. omega (arith, lt)) at_field (sampled_entries cap d.registers b))

pub in_range_read : (d : Cppc) → IsDevice d → AreInRange d.cpus d.registers → AreInRange d.cpus (with_changes (sampled d) d.registers)
in_range_read d right h k x lt =
    let cpu : Binding = get_or d.cpus k x in
    in_range_same cpu (sampled d) d.registers (sampled_apart d right cpu k (slice_get-get_or d.cpus k x lt)) (h k x lt)

-- ---- a wish

wish_entries : (cpu : Binding) (wish : Wish) → AllOf cpu 7 10 (wish_changes cpu wish)
wish_entries cpu wish =
    let one : List Change = wished (Some wish.desired) (source_at cpu 7) in
    let two : List Change = wished wish.min (source_at cpu 8) in
    let three : List Change = wished wish.max (source_at cpu 9) in
    all_of-append cpu 7 10 one (two ++ three) (all_of-wider cpu 7 8 7 10 one (omega arith) (omega arith) (wished_of cpu 7 (Some wish.desired)))
    (all_of-append cpu 7 10 two three (all_of-wider cpu 8 9 7 10 two (omega arith) (omega arith) (wished_of cpu 8 wish.min))
    (all_of-wider cpu 9 10 7 10 three (omega arith) (omega arith) (wished_of cpu 9 wish.max)))

-- another processor stays in its range
in_range_other : (len : ℕ) (cpus : List Binding) (cpu b : Binding) (i j : ℕ) (wish : Wish) (space : List ℕ) → AreProcessors len cpus → slice_get cpus i ≡ Some cpu
    → slice_get cpus j ≡ Some b → (i ≡ j → ⊥) → InRange cpu space → InRange cpu (with_wish b wish space)
unfolding with_wish
in_range_other len cpus cpu b i j wish space processors at_i at_j other h =
    in_range_same cpu (wish_changes b wish) space (λ n field lt at.
    apart_from len cpus cpu b i j n 7 10 field (wish_changes b wish) processors at_i at_j (λ same. absurd (other same)) at (wish_entries b wish)) h

in_range_wish : (cpus : List Binding) (b : Binding) (j : ℕ) (wish : Wish) (space : List ℕ) → AreProcessors (length space) cpus → slice_get cpus j ≡ Some b
    → wish_fault b space wish ≡ None → AreInRange cpus space → AreInRange cpus (with_wish b wish space)
in_range_wish cpus b j wish space processors at_j fault h k x lt =
    let cpu : Binding = get_or cpus k x in
    let at : slice_get cpus k ≡ Some cpu = slice_get-get_or cpus k x lt in
    let own : InRange b (with_wish b wish space) =
    (can_put b space wish (right_at (length space) cpus b j processors at_j) (inside_at (length space) cpus b j processors at_j) fault).in_range in
    let Q : Binding → Type 0 = λ v. InRange v (with_wish b wish space) in
    elim (cases_lt k j) [
      | inl below ↦ in_range_other (length space) cpus cpu b k j wish space processors at at_j (λ e. omega arith) (h k x lt)
      | inr le ↦ elim (cases_lt j k) [
        | inl above ↦ in_range_other (length space) cpus cpu b k j wish space processors at at_j (λ e. omega arith) (h k x lt)
        | inr ge ↦
            let same : j ≡ k = omega arith in
            subst Q (same_Some b cpu (sym at_j ∙ ap (slice_get cpus) same ∙ at)) own
      ]
    ]

pub at_place : (cpus : List Binding) (b : Binding) → (one : Contains cpus b) → slice_get cpus one.0 ≡ Some b
at_place cpus b one = slice_get_read cpus (length cpus) one.0 b refl one.1 (sym one.2)

pub in_range_put : (cpus : List Binding) (b : Binding) (wish : Wish) (space : List ℕ) → AreProcessors (length space) cpus → Contains cpus b
    → wish_fault b space wish ≡ None → AreInRange cpus space → AreInRange cpus (with_wish b wish space)
in_range_put cpus b wish space processors one fault h = in_range_wish cpus b one.0 wish space processors (at_place cpus b one) fault h

pub wish-length : (b : Binding) (wish : Wish) (space : List ℕ) → length (with_wish b wish space) ≡ length space
unfolding with_wish
wish-length b wish space = changes-length (wish_changes b wish) space

pub wish-bytes : (b : Binding) (wish : Wish) (space : List ℕ) → IsBytes (with_wish b wish space)
unfolding with_wish
wish-bytes b wish space = changes-bytes (wish_changes b wish) space

wish_outside : (b : Binding) (wish : Wish) (space : List ℕ) (bit : ℕ) → IsOutside bit (wish_changes b wish) → bit_of (with_wish b wish space) bit ≡ bit_of space bit
unfolding with_wish
wish_outside b wish space bit out = changes-outside (wish_changes b wish) space bit out

-- a wish differs from the space before in its own fields alone
pub wish_differs : (cpus : List Binding) (b : Binding) (wish : Wish) (space : List ℕ) → Contains cpus b → DifferInWish cpus space (with_wish b wish space)
wish_differs cpus b wish space one = record {
  cpu = b;
  one = one;
  len = wish-length b wish space;
  bytes = wish-bytes b wish space;
  others = λ bit none. wish_outside b wish space bit (all_by (Of b 7 10) (λ c. InField c.field bit → ⊥) (wish_changes b wish)
      (λ c o here. none (record { n = o.n; from = o.from; below = o.below; field = c.field; at = o.at; inside = here })) (wish_entries b wish));
}

-- ---- a command that writes

one_taken : (space : List ℕ) (s : Source1) → TakeFrom space (taken_from space s)
one_taken space Missing = tt
one_taken space (Number value) = tt
one_taken space (At field) = (refl, tt)

written_takes : (d : Cppc) (space : List ℕ) → TakeFrom space (written d space)
unfolding written
written_takes d space =
    let P : Change → Type 0 = λ c. c.value ≡ field_value space c.field in
    all_flat P (written_of space) d.cpus (λ cpu k _. all_flat P (λ (n : ℕ). taken_from space (source_at cpu n)) written_entries (λ n j _. one_taken space (source_at cpu n)))

-- a bit outside of the fields that are taken is outside of those of a wish
one_outside : (bit : ℕ) (space : List ℕ) (w : Option ℕ) (s : Source1) → IsOutside bit (taken_from space s) → IsOutside bit (wished w s)
one_outside bit space None s h = tt
one_outside bit space (Some value) Missing h = tt
one_outside bit space (Some value) (Number n) h = tt
one_outside bit space (Some value) (At field) h = (h.0, tt)

written_outside : (d : Cppc) (space : List ℕ) (bit : ℕ) (b : Binding) (k : ℕ) (wish : Wish) → slice_get d.cpus k ≡ Some b → IsOutside bit (written d space)
    → IsOutside bit (wish_changes b wish)
unfolding written
written_outside d space bit b k wish at out =
    let P : Change → Type 0 = λ c. InField c.field bit → ⊥ in
    let f : ℕ → List Change = λ n. taken_from space (source_at b n) in
    let all : AllByRecursion P (flat_map f written_entries) = part_of P (written_of space) d.cpus k b at out in
    all_append P (wished (Some wish.desired) (source_at b 7)) _ (one_outside bit space (Some wish.desired) (source_at b 7) (part_of P f written_entries 0 7 refl all))
    (all_append P (wished wish.min (source_at b 8)) (wished wish.max (source_at b 9)) (one_outside bit space wish.min (source_at b 8) (part_of P f written_entries 1 8 refl all))
    (one_outside bit space wish.max (source_at b 9) (part_of P f written_entries 2 9 refl all)))

-- registers into which a wish is written are the space with the wish put
wish_written : (d : Cppc) (b : Binding) (k : ℕ) (wish : Wish) → slice_get d.cpus k ≡ Some b
    → with_changes (written d (with_wish b wish d.registers)) d.registers ≡ with_wish b wish d.registers
wish_written d b k wish at =
    let space : List ℕ = with_wish b wish d.registers in
    changes-taken (written d space) d.registers space (wish-bytes b wish d.registers) (sym (wish-length b wish d.registers)) (written_takes d space)
    (λ bit out. sym (wish_outside b wish d.registers bit (written_outside d space bit b k wish at out)))

pub written_is : (d : Cppc) (b : Binding) (wish : Wish) → Contains d.cpus b
    → with_changes (written d (with_wish b wish d.registers)) d.registers ≡ with_wish b wish d.registers
written_is d b wish one = wish_written d b one.0 wish (at_place d.cpus b one)
