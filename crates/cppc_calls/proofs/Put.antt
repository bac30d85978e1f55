-- A wish that is put.
use Rattle.std.proofs.Common.{◌≡◌, ℕ, ◌+◌, ◌*◌, ◌^◌, ◌<◌, ◌≤◌, List, [], ◌∷◌, ◌++◌, length, Option, Some, None, refl, sym, ap, ◌∙◌, subst, arith}
use Rattle.pcc_bytes.specs.Bytes.{IsBytes}
use Rattle.pcc_gas.specs.Changes.{AreApartFrom, FitIn, IsApartFrom, change, with_changes}
use Rattle.pcc_gas.specs.Fields.{AreApart, field_value}
use Rattle.pcc_gas.specs.declared.change.Change.{Change}
use Rattle.pcc_gas.specs.declared.field.Field.{Field}
use Rattle.pcc_gas.proofs.Changes.{changes-apart, changes-length, changes-more, changes-none, changes-one}
use Rattle.cpc_package.specs.Bindings.{CanRead, IsRight, LiesIn, number_in, source_at}
use Rattle.cpc_package.specs.declared.binding.Binding.{Binding}
use Rattle.cpc_package.specs.declared.binding.Source1.{Source1}
use Rattle.cpc_package.specs.declared.binding.Source1.TheVariants.{Missing, Number, At}
use Rattle.cppc_device.specs.Devices.{field_in}
use Rattle.cppc_device.specs.Ranges.{performances}
use Rattle.cppc_device.proofs.Apart.{AllOf, Of, all_of-append, all_of-wider, apart_entries}
use Rattle.cppc_device.proofs.Numbers as numbers
use Rattle.cppc_device.proofs.Sampling.{after_both, same_in, same_number}
use Rattle.cppc_calls.specs.Wishes.{FitsInto, IsThere, asked, wish_changes, wished, with_wish}
use Rattle.cppc_calls.specs.declared.wish.Wish.{Wish}

pub can_read : (cpu : Binding) (len n : ℕ) → IsRight cpu → LiesIn len cpu → CanRead len (source_at cpu n)
can_read cpu len n right inside = numbers.can_read cpu len n right inside

pub narrow : (cpu : Binding) (n : ℕ) → IsRight cpu → (field : Field) → source_at cpu n ≡ At field → field.width ≤ 64
narrow cpu n right field at = (right.widths n field at).most

-- ---- what is put where nothing is

pub not_wished : (w : Option ℕ) (source : Source1) (space : List ℕ) → IsBytes space → ((value : ℕ) → w ≡ Some value → ⊥)
    → space ≡ with_changes (wished w source) space
not_wished None source space all none = sym (changes-none space all)
not_wished (Some value) source space all none = absurd (none value refl)

pub no_field : (source : Source1) (value : ℕ) (space : List ℕ) → IsBytes space → ((field : Field) → source ≡ At field → ⊥)
    → space ≡ with_changes (wished (Some value) source) space
no_field Missing value space all none = sym (changes-none space all)
no_field (Number n) value space all none = sym (changes-none space all)
no_field (At field) value space all none = absurd (none field refl)

-- ---- the entries of the changes

wished_by : (cpu : Binding) (n : ℕ) (w : Option ℕ) (s : Source1) → source_at cpu n ≡ s → AllOf cpu n (n + 1) (wished w s)
wished_by cpu n None s is = tt
wished_by cpu n (Some value) Missing is = tt
wished_by cpu n (Some value) (Number m) is = tt
wished_by cpu n (Some value) (At field) is = (record { n = n; from = omega arith; below = omega arith; at = is }, tt)

pub wished_of : (cpu : Binding) (n : ℕ) (w : Option ℕ) → AllOf cpu n (n + 1) (wished w (source_at cpu n))
wished_of cpu n w = wished_by cpu n w (source_at cpu n) refl

-- three puts are all of them at once
pub three : (cpu : Binding) (wish : Wish) (old a b new : List ℕ) → IsRight cpu
    → a ≡ with_changes (wished (Some wish.desired) (source_at cpu 7)) old → b ≡ with_changes (wished wish.min (source_at cpu 8)) a
    → new ≡ with_changes (wished wish.max (source_at cpu 9)) b → new ≡ with_wish cpu wish old
unfolding with_wish
three cpu wish old a b new right p q r =
    let one : List Change = wished (Some wish.desired) (source_at cpu 7) in
    let two : List Change = wished wish.min (source_at cpu 8) in
    let last : List Change = wished wish.max (source_at cpu 9) in
    let late : AllOf cpu 8 10 (two ++ last) =
    all_of-append cpu 8 10 two last (all_of-wider cpu 8 9 8 10 two (omega arith) (omega arith) (wished_of cpu 8 wish.min))
    (all_of-wider cpu 9 10 8 10 last (omega arith) (omega arith) (wished_of cpu 9 wish.max)) in
    after_both one (two ++ last) old a new (apart_entries cpu 7 8 10 one (two ++ last) right (wished_of cpu 7 (Some wish.desired)) late) p
    (after_both two last a b new (apart_entries cpu 8 9 10 two last right (wished_of cpu 8 wish.min) (wished_of cpu 9 wish.max)) q r)

-- ---- what is read after it

-- a field of another entry is apart from changes
apart_below : (cpu : Binding) (low high n : ℕ) (field : Field) (changes : List Change) → IsRight cpu → n < low → source_at cpu n ≡ At field
    → AllOf cpu low high changes → IsApartFrom field changes
apart_below cpu low high n field [] right lt at of = tt
apart_below cpu low high n field (c ∷ cs) right lt at of =
    let o : Of cpu low high c = of.0 in
    let from : low ≤ o.n = o.from in
    (right.apart n o.n field c.field (omega arith) at o.at, apart_below cpu low high n field cs right lt at of.1)

apart_above : (cpu : Binding) (low high n : ℕ) (field : Field) (changes : List Change) → IsRight cpu → high ≤ n → source_at cpu n ≡ At field
    → AllOf cpu low high changes → IsApartFrom field changes
apart_above cpu low high n field [] right le at of = tt
apart_above cpu low high n field (c ∷ cs) right le at of =
    let o : Of cpu low high c = of.0 in
    let below : o.n < high = o.below in
    ((λ bit i j. right.apart o.n n c.field field (omega arith) o.at at bit j i), apart_above cpu low high n field cs right le at of.1)

-- the number that is put is read
put_read : (w : Option ℕ) (s : Source1) (space : List ℕ) → IsThere w s → FitsInto w s → CanRead (length space) s
    → field_in s (with_changes (wished w s) space) ≡ asked w s space
put_read None Missing space there fits readable = refl
put_read None (Number n) space there fits readable = refl
put_read None (At field) space there fits readable = ap (λ (n : ℕ). Some n) (changes-apart [] space field tt)
put_read (Some value) Missing space there fits readable = absurd there
put_read (Some value) (Number n) space there fits readable = absurd there
put_read (Some value) (At field) space there fits readable =
    ap (λ (n : ℕ). Some n) (changes-one space field value (record { inside = readable.1; fits = fits })).put

same_asked : (w : Option ℕ) (s : Source1) (a b : List ℕ) → field_in s a ≡ field_in s b → asked w s a ≡ asked w s b
same_asked None s a b e = e
same_asked (Some value) s a b e = refl

-- a number of an entry that no change has
number_kept : (cpu : Binding) (low high n : ℕ) (changes : List Change) (space : List ℕ) → IsRight cpu → n < low → AllOf cpu low high changes
    → number_in (source_at cpu n) (with_changes changes space) ≡ number_in (source_at cpu n) space
number_kept cpu low high n changes space right lt of =
    same_number changes space (source_at cpu n) (λ field at. apart_below cpu low high n field changes right lt at of)

field_kept_below : (cpu : Binding) (low high n : ℕ) (changes : List Change) (space : List ℕ) → IsRight cpu → n < low → AllOf cpu low high changes
    → field_in (source_at cpu n) (with_changes changes space) ≡ field_in (source_at cpu n) space
field_kept_below cpu low high n changes space right lt of =
    same_in changes space (source_at cpu n) (λ field at. apart_below cpu low high n field changes right lt at of)

field_kept_above : (cpu : Binding) (low high n : ℕ) (changes : List Change) (space : List ℕ) → IsRight cpu → high ≤ n → AllOf cpu low high changes
    → field_in (source_at cpu n) (with_changes changes space) ≡ field_in (source_at cpu n) space
field_kept_above cpu low high n changes space right le of =
    same_in changes space (source_at cpu n) (λ field at. apart_above cpu low high n field changes right le at of)

abbrev pub chain_of : Option ℕ → Option ℕ → ℕ → Option ℕ → Option ℕ → List (Option ℕ)
chain_of lowest min desired max highest = lowest ∷ min ∷ Some desired ∷ max ∷ highest ∷ []

desired_there : (value : ℕ) (s : Source1) → (field : Field) × (s ≡ At field) → IsThere (Some value) s
desired_there value s at = subst (IsThere (Some value)) (sym at.1) tt

five : (l l' m m' d d' x x' h h' : Option ℕ) → l ≡ l' → m ≡ m' → d ≡ d' → x ≡ x' → h ≡ h' → l ∷ m ∷ d ∷ x ∷ h ∷ [] ≡ l' ∷ m' ∷ d' ∷ x' ∷ h' ∷ []
five l l' m m' d d' x x' h h' p q r s t = rw (p, q, r, s, t) refl

-- the performances with a wish put
pub performances_after : (cpu : Binding) (wish : Wish) (old : List ℕ) → IsRight cpu → LiesIn (length old) cpu
    → IsThere wish.min (source_at cpu 8) → IsThere wish.max (source_at cpu 9)
    → FitsInto wish.min (source_at cpu 8) → FitsInto (Some wish.desired) (source_at cpu 7) → FitsInto wish.max (source_at cpu 9)
    → performances cpu (with_wish cpu wish old)
    ≡ chain_of (number_in (source_at cpu 5) old) (asked wish.min (source_at cpu 8) old) wish.desired (asked wish.max (source_at cpu 9) old)
    (number_in (source_at cpu 2) old)
performances_after cpu wish old right inside min_there max_there min_fits desired_fits max_fits =
    let one : List Change = wished (Some wish.desired) (source_at cpu 7) in
    let two : List Change = wished wish.min (source_at cpu 8) in
    let last : List Change = wished wish.max (source_at cpu 9) in
    let a : List ℕ = with_changes one old in
    let b : List ℕ = with_changes two a in
    let new : List ℕ = with_changes last b in
    let is : with_wish cpu wish old ≡ new = sym (three cpu wish old a b new right refl refl refl) in
    let of_one : AllOf cpu 7 8 one = wished_of cpu 7 (Some wish.desired) in
    let of_two : AllOf cpu 8 9 two = wished_of cpu 8 wish.min in
    let of_last : AllOf cpu 9 10 last = wished_of cpu 9 wish.max in
    let long_a : length a ≡ length old = changes-length one old in
    let long_b : length b ≡ length old = changes-length two a ∙ long_a in
    let read : (n : ℕ) → CanRead (length old) (source_at cpu n) = λ n. can_read cpu (length old) n right inside in
    let read_a : CanRead (length a) (source_at cpu 8) = subst (λ (len : ℕ). CanRead len (source_at cpu 8)) (sym long_a) (read 8) in
    let read_b : CanRead (length b) (source_at cpu 9) = subst (λ (len : ℕ). CanRead len (source_at cpu 9)) (sym long_b) (read 9) in
    ap (performances cpu) is
    ∙ five _ _ _ _ _ _ _ _ _ _
    (number_kept cpu 9 10 5 last b right (omega arith) of_last ∙ number_kept cpu 8 9 5 two a right (omega arith) of_two
    ∙ number_kept cpu 7 8 5 one old right (omega arith) of_one)
    (field_kept_below cpu 9 10 8 last b right (omega arith) of_last ∙ put_read wish.min (source_at cpu 8) a min_there min_fits read_a
    ∙ same_asked wish.min (source_at cpu 8) a old (field_kept_above cpu 7 8 8 one old right (omega arith) of_one))
    (field_kept_below cpu 9 10 7 last b right (omega arith) of_last ∙ field_kept_below cpu 8 9 7 two a right (omega arith) of_two
    ∙ put_read (Some wish.desired) (source_at cpu 7) old (desired_there wish.desired (source_at cpu 7) right.desired) desired_fits (read 7))
    (put_read wish.max (source_at cpu 9) b max_there max_fits read_b
    ∙ same_asked wish.max (source_at cpu 9) b a (field_kept_above cpu 8 9 9 two a right (omega arith) of_two)
    ∙ same_asked wish.max (source_at cpu 9) a old (field_kept_above cpu 7 8 9 one old right (omega arith) of_one))
    (number_kept cpu 9 10 2 last b right (omega arith) of_last ∙ number_kept cpu 8 9 2 two a right (omega arith) of_two
    ∙ number_kept cpu 7 8 2 one old right (omega arith) of_one)
