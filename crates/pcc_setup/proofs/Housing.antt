-- The place of each processor among the opened subspaces.
use Rattle.std.proofs.Common.{◌≡◌, ℕ, zero, suc, ◌+◌, ◌*◌, ◌^◌, ◌<◌, ◌≤◌, ◌≢◌, ◌==◌, ◌||◌, Bool, true, false, cond, eqb, List, [], ◌∷◌, ◌++◌, length, get_or, map, take, refl, sym, ap, ◌∙◌, subst, arith}
use Rattle.std.specs.Prelude.{AllPairs, Option, Some, None, filter, slice_get}
use Rattle.std.specs.List.{AllByRecursion, IsDistinct, list_any}
use Rattle.std.proofs.lemmas.Bool.{cond_both, eq-eqb, eqb-true, ne_eqb}
use Rattle.std.proofs.lemmas.List.{get_or_default, length-map, take_all, take_more}
use Rattle.std.proofs.lemmas.List.Kept.{AllPairs-filter}
use Rattle.std.proofs.lemmas.Map.Steps.{length-le_from_distinct_below}
use Rattle.std.proofs.lemmas.Option.{slice_get_within}
use Rattle.pcct_codec.specs.Tables.{TableBytes}
use Rattle.pcct_table.specs.declared.subspace.Subspace.{Subspace}
use Rattle.pcct_table.specs.declared.table.Table.{Table}
use Rattle.pcc_gas.specs.declared.field.Field.{Field}
use Rattle.pcc_script.specs.declared.scenario.CapLine.{CapLine}
use Rattle.pcc_script.specs.declared.scenario.OpenLine.{OpenLine}
use Rattle.pcct_table.specs.Subspaces.{kind_of, memory_len_of}
use Rattle.pcc_wiring.specs.Wirings.{room_of}
use Rattle.cpc_package.specs.Bindings.{HasWidth, IsRight, LiesIn, ShareBit, source_at}
use Rattle.cpc_package.specs.declared.binding.Binding.{Binding}
use Rattle.cpc_package.specs.declared.binding.Source1.{Source1}
use Rattle.cpc_package.specs.declared.binding.Source1.TheVariants.{At}
use Rattle.pcc_setup.specs.declared.opening.Opened.{Opened}
use Rattle.pcc_setup.specs.declared.places.CpuPlace.{CpuPlace}
use Rattle.pcc_setup.specs.Equipment.{ArePlaces, IsHoused, IsPlaceOf, cpus_on, equipped}
use Rattle.pcc_setup.specs.Openings.{AllOpen, opened_by, opened_with}
use Rattle.pcc_setup.specs.Processors.{AreBound, HasSmallRoom, controller_on, controls}
use Rattle.pcc_setup.proofs.Bound.{zip_push}
use Rattle.pcc_setup.proofs.Controllers.{Distinct, IsGood, all_at, all_good, distinct, found_in, named_by, nothing}
use Rattle.pcc_setup.proofs.FirstFaults.{some_same}
use Rattle.pcc_setup.proofs.Opens.{found}

-- ---- one place more

-- what is kept of a list has an element that is kept after what is kept of those before it
kept_at : {X : Type 0} (test : X → Bool) (xs : List X) (i : ℕ) (x : X) → slice_get xs i ≡ Some x → test x ≡ true
    → slice_get (filter test xs) (length (filter test (take i xs))) ≡ Some x
kept_at test [] i x at passes = absurd (nothing x at)
kept_at {X = X} test (y ∷ xs) zero x at passes =
    let same : y ≡ x = some_same y x at in
    let kept : test y ≡ true = subst (λ (z : X). test z ≡ true) (sym same) passes in
    ap (λ (b : Bool). slice_get (cond b (y ∷ filter test xs) (filter test xs)) 0) kept ∙ at
kept_at {X = X} test (y ∷ xs) (suc i) x at passes = both (test y) (kept_at test xs i x at passes)
  where
    both : (b : Bool) → slice_get (filter test xs) (length (filter test (take i xs))) ≡ Some x
        → slice_get (cond b (y ∷ filter test xs) (filter test xs)) (length (cond b (y ∷ filter test (take i xs)) (filter test (take i xs)))) ≡ Some x
    both true h = h
    both false h = h

housed_at : (opened : List Opened) (cpus : List Binding) (b : Binding) (place count : ℕ) (o : Opened) (i : ℕ) → slice_get cpus i ≡ Some b → IsHoused opened cpus b
    → slice_get opened place ≡ Some o → controller_on b.subspace opened ≡ Some o → count ≡ length (cpus_on b.subspace (take i cpus))
    → IsPlaceOf opened b (record { opened = place; cpu = count })
housed_at opened cpus b place count o i at h there is counted =
    let same : h.subspace ≡ o = some_same h.subspace o (sym h.is ∙ is) in
    let own : o.cpus ≡ cpus_on b.subspace cpus = subst (λ (x : Opened). x.cpus ≡ cpus_on b.subspace cpus) same h.all in
    let kept : slice_get (cpus_on b.subspace cpus) (length (cpus_on b.subspace (take i cpus))) ≡ Some b =
    kept_at (λ x. x.subspace == b.subspace) cpus i b at (eq-eqb b.subspace b.subspace refl) in
    record {
      subspace = o;
      there = there;
      cpu = ap (λ (n : ℕ). slice_get o.cpus n) counted ∙ ap (λ (v : List Binding). slice_get v (length (cpus_on b.subspace (take i cpus)))) own ∙ kept;
    }

-- the places of the processors before one and its own are those before the next one
place_more : (opened : List Opened) (cpus : List Binding) (places next : List CpuPlace) (i : ℕ) (b : Binding) (place count : ℕ) (o : Opened) → i < length cpus
    → b ≡ get_or cpus i b → AllByRecursion (IsHoused opened cpus) cpus → slice_get opened place ≡ Some o → controller_on b.subspace opened ≡ Some o
    → count ≡ length (cpus_on b.subspace (take i cpus)) → next ≡ places ++ record { opened = place; cpu = count } ∷ [] → ArePlaces opened (take i cpus) places
    → ArePlaces opened (take (i + 1) cpus) next
place_more opened cpus places next i b place count o lt is housed there named counted pushed before =
    let at : slice_get cpus i ≡ Some b = found cpus i b lt is in
    let here : IsPlaceOf opened b (record { opened = place; cpu = count }) =
    housed_at opened cpus b place count o i at (all_at (IsHoused opened cpus) cpus i b housed at) there named counted in
    let more : take (i + 1) cpus ≡ take i cpus ++ b ∷ [] = take_more cpus i b lt ∙ ap (λ (x : Binding). take i cpus ++ x ∷ []) (sym is) in
    let each : ArePlaces opened (take i cpus ++ b ∷ []) (places ++ record { opened = place; cpu = count } ∷ []) =
    zip_push (IsPlaceOf opened) (take i cpus) places b (record { opened = place; cpu = count }) before here in
    subst (λ (v : List CpuPlace). ArePlaces opened (take (i + 1) cpus) v) (sym pushed)
    (subst (λ (v : List Binding). ArePlaces opened v (places ++ record { opened = place; cpu = count } ∷ [])) (sym more) each)

pub places_end : (opened : List Opened) (cpus : List Binding) (places : List CpuPlace) (i : ℕ) → length cpus ≤ i → ArePlaces opened (take i cpus) places → ArePlaces opened cpus places
places_end opened cpus places i le h = subst (λ (v : List Binding). ArePlaces opened v places) (take_all i cpus le) h

-- the same of an element by its index
pub place_next : (opened : List Opened) (cpus : List Binding) (places next : List CpuPlace) (i : ℕ) (d : Binding) (place count : ℕ) → i < length cpus
    → AllByRecursion (IsHoused opened cpus) cpus
    → (o : Opened) × (slice_get opened place ≡ Some o) × (controller_on (get_or cpus i d).subspace opened ≡ Some o)
    → count ≡ length (cpus_on (get_or cpus i d).subspace (take i cpus)) → next ≡ places ++ record { opened = place; cpu = count } ∷ [] → ArePlaces opened (take i cpus) places
    → ArePlaces opened (take (i + 1) cpus) next
place_next opened cpus places next i d place count lt housed stands counted pushed before =
    place_more opened cpus places next i (get_or cpus i d) place count stands.0 lt (get_or_default cpus i d (get_or cpus i d) lt) housed stands.1 stands.2 counted pushed before

-- its number is small
number_fits : (opened : List Opened) (cpus : List Binding) (i count : ℕ) (b : Binding) → i < length cpus → b ≡ get_or cpus i b → AllByRecursion (IsHoused opened cpus) cpus
    → count ≡ length (cpus_on b.subspace (take i cpus)) → count < 2 ^ 32
number_fits opened cpus i count b lt is housed counted =
    let at : slice_get cpus i ≡ Some b = found cpus i b lt is in
    let h : IsHoused opened cpus b = all_at (IsHoused opened cpus) cpus i b housed at in
    let kept : slice_get (cpus_on b.subspace cpus) (length (cpus_on b.subspace (take i cpus))) ≡ Some b =
    kept_at (λ x. x.subspace == b.subspace) cpus i b at (eq-eqb b.subspace b.subspace refl) in
    let within : length (cpus_on b.subspace (take i cpus)) < length (cpus_on b.subspace cpus) =
    slice_get_within (cpus_on b.subspace cpus) (length (cpus_on b.subspace (take i cpus))) b kept in
    let few : length h.subspace.cpus < 2 ^ 32 = h.few in
    let all : length h.subspace.cpus ≡ length (cpus_on b.subspace cpus) = ap length h.all in
    omega (arith, counted, within, few, all)

pub number_at : (opened : List Opened) (cpus : List Binding) (i count : ℕ) (d : Binding) → i < length cpus → AllByRecursion (IsHoused opened cpus) cpus
    → count ≡ length (cpus_on (get_or cpus i d).subspace (take i cpus)) → count < 2 ^ 32
number_at opened cpus i count d lt housed counted = number_fits opened cpus i count (get_or cpus i d) lt (get_or_default cpus i d (get_or cpus i d) lt) housed counted

pub place_fits : (opened : List Opened) (place : ℕ) (o : Opened) → slice_get opened place ≡ Some o → length opened < 2 ^ 32 → place < 2 ^ 32
place_fits opened place o there few = let within : place < length opened = slice_get_within opened place o there in omega (arith, within, few)

-- a processor without a controller isn't housed
pub unhoused : (opened : List Opened) (cpus : List Binding) (i : ℕ) (b : Binding) → i < length cpus → b ≡ get_or cpus i b → AllByRecursion (IsHoused opened cpus) cpus
    → controller_on b.subspace opened ≡ None → ⊥
unhoused opened cpus i b lt is housed none =
    let h : IsHoused opened cpus b = all_at (IsHoused opened cpus) cpus i b housed (found cpus i b lt is) in
    nothing h.subspace (sym none ∙ h.is)

-- ---- few are opened

ids_distinct : (os : List Opened) → Distinct os → IsDistinct eqb (map (λ o. o.head.id) os)
unfolding IsDistinct
ids_distinct [] d = tt
ids_distinct (o ∷ os) d = (differ o.head.id os d.0, ids_distinct os d.1)
  where
    differ : (id : ℕ) (ps : List Opened) → AllByRecursion (λ p. id ≢ p.head.id) ps → AllByRecursion (λ y. eqb id y ≡ false) (map (λ p. p.head.id) ps)
    differ id [] h = tt
    differ id (p ∷ ps) h = (ne_eqb id p.head.id h.0, differ id ps h.1)

any_below : (n : ℕ) (xs : List ℕ) → AllByRecursion (λ x. x < n) xs → (q : ℕ) → list_any (eqb q) xs ≡ true → q < n
any_below n [] h q e = absurd cc
any_below n (x ∷ xs) h q e = by_test (eqb q x) refl e (any_below n xs h.1 q)
  where
    by_test : (b : Bool) → eqb q x ≡ b → (b || list_any (eqb q) xs) ≡ true → (list_any (eqb q) xs ≡ true → q < n) → q < n
    by_test true is e later = let same : q ≡ x = eqb-true q x is in let lt : x < n = h.0 in omega (arith, same, lt)
    by_test false is e later = later e

mapped_below : {A : Type 0} (n : ℕ) (f : A → ℕ) (xs : List A) → AllByRecursion (λ x. f x < n) xs → AllByRecursion (λ y. y < n) (map f xs)
mapped_below n f [] h = tt
mapped_below n f (x ∷ xs) h = (h.0, mapped_below n f xs h.1)

ids_below : (t : Table) (lines : List OpenLine) → AllByRecursion (λ o. o.head.id < length t.subspaces) (opened_by t lines)
ids_below t [] = tt
ids_below t (p ∷ ps) = with_structure (slice_get t.subspaces p.id) refl (ids_below t ps)
  where
    with_structure : (m : Option Subspace) → slice_get t.subspaces p.id ≡ m → AllByRecursion (λ o. o.head.id < length t.subspaces) (opened_by t ps)
        → AllByRecursion (λ o. o.head.id < length t.subspaces) (opened_with p.device p.id t.flags m ++ opened_by t ps)
    with_structure None e rest = rest
    with_structure (Some u) e rest = (slice_get_within t.subspaces p.id u e, rest)

pub few_opened : (bytes : List ℕ) (t : Table) (lines : List OpenLine) → TableBytes bytes t → AllOpen t lines (length lines) → length (opened_by t lines) < 2 ^ 32
few_opened bytes t lines h opened =
    let os : List Opened = opened_by t lines in
    let below : AllByRecursion (λ n. n < length t.subspaces) (map (λ o. o.head.id) os) = mapped_below (length t.subspaces) (λ o. o.head.id) os (ids_below t lines) in
    let le : length (map (λ (o : Opened). o.head.id) os) ≤ length t.subspaces =
    length-le_from_distinct_below (map (λ o. o.head.id) os) (length t.subspaces) (ids_distinct os (distinct t lines opened))
    (any_below (length t.subspaces) (map (λ o. o.head.id) os) below) in
    let all : length (map (λ (o : Opened). o.head.id) os) ≡ length os = length-map os (λ o. o.head.id) in
    let few : length t.subspaces ≤ 256 = h.few in
    omega (arith, le, all, few)

-- ---- few processors are on one of them

-- where a processor's desired performance begins
abbrev start_by : Source1 → ℕ
start_by (At field) = field.at_bit
start_by s = 0

abbrev start_of : Binding → ℕ
start_of b = start_by (source_at b 7)

-- processors that share no bit begin apart
starts_apart : (a b : Binding) → IsRight a → IsRight b → a.subspace ≡ b.subspace → (ShareBit a b → ⊥) → start_of a ≢ start_of b
starts_apart a b h k same apart e =
    let f : Field = h.desired.0 in
    let g : Field = k.desired.0 in
    let at_f : start_of a ≡ f.at_bit = ap start_by h.desired.1 in
    let at_g : start_of b ≡ g.at_bit = ap start_by k.desired.1 in
    let f_width : HasWidth f = h.widths 7 f h.desired.1 in
    let g_width : HasWidth g = k.widths 7 g k.desired.1 in
    let f_some : 1 ≤ f.width = f_width.some in
    let g_some : 1 ≤ g.width = g_width.some in
    apart (record {
      subspace = same;
      m = 7;
      n = 7;
      f = f;
      g = g;
      first = h.desired.1;
      second = k.desired.1;
      bit = f.at_bit;
      in_first = record { from = omega arith; below = omega (arith, f_some) };
      in_second = record { from = omega (arith, at_f, at_g, e); below = omega (arith, at_f, at_g, e, g_some) };
    })

start_below : (b : Binding) (room : ℕ) → IsRight b → LiesIn room b → start_of b < 8 * room
start_below b room h inside =
    let f : Field = h.desired.0 in
    let at : start_of b ≡ f.at_bit = ap start_by h.desired.1 in
    let width : HasWidth f = h.widths 7 f h.desired.1 in
    let some : 1 ≤ f.width = width.some in
    let le : f.at_bit + f.width ≤ 8 * room = inside 7 f h.desired.1 in
    omega (arith, at, some, le)

-- right processors of one subspace and room
record Alike (id room : ℕ) (b : Binding) : Type 0 where
  named : b.subspace ≡ id
  right : IsRight b
  inside : LiesIn room b

starts_distinct : (id room : ℕ) (bs : List Binding) → AllByRecursion (Alike id room) bs → AllPairs (λ a b. ShareBit a b → ⊥) bs → IsDistinct eqb (map start_of bs)
unfolding IsDistinct
starts_distinct id room [] h apart = tt
starts_distinct id room (b ∷ bs) h apart = (
  differ bs h.1 (λ i c at. apart zero (suc i) c (omega arith) (let lt = slice_get_within bs i c at in omega (arith, lt))),
  starts_distinct id room bs h.1 (λ i j d lt within. apart (suc i) (suc j) d (omega (arith, lt)) (omega (arith, within))),
)
  where
    differ : (cs : List Binding) → AllByRecursion (Alike id room) cs → ((i : ℕ) (c : Binding) → slice_get cs i ≡ Some c → ShareBit b (get_or cs i c) → ⊥)
        → AllByRecursion (λ y. eqb (start_of b) y ≡ false) (map start_of cs)
    differ [] k none = tt
    differ (c ∷ cs) k none = (
      ne_eqb (start_of b) (start_of c) (starts_apart b c h.0.right k.0.right (h.0.named ∙ sym k.0.named) (none zero c refl)),
      differ cs k.1 (λ i d at. none (suc i) d at),
    )

few_alike : (id room : ℕ) (bs : List Binding) → AllByRecursion (Alike id room) bs → AllPairs (λ a b. ShareBit a b → ⊥) bs → length bs ≤ 8 * room
few_alike id room bs h apart =
    let below : AllByRecursion (λ n. n < 8 * room) (map start_of bs) = mapped_below (8 * room) start_of bs (starts bs h) in
    let le : length (map start_of bs) ≤ 8 * room =
    length-le_from_distinct_below (map start_of bs) (8 * room) (starts_distinct id room bs h apart) (any_below (8 * room) (map start_of bs) below) in
    let all : length (map start_of bs) ≡ length bs = length-map bs start_of in
    omega (arith, le, all)
  where
    starts : (cs : List Binding) → AllByRecursion (Alike id room) cs → AllByRecursion (λ c. start_of c < 8 * room) cs
    starts [] k = tt
    starts (c ∷ cs) k = (start_below c room k.0.right k.0.inside, starts cs k.1)

alike : (os : List Opened) (cpus : List Binding) (id : ℕ) (o : Opened) → controller_on id os ≡ Some o → AllByRecursion (IsGood os) cpus
    → AllByRecursion (Alike id o.wiring.room) (cpus_on id cpus)
alike os [] id o is h = tt
alike os (b ∷ bs) id o is h =
    let rest = alike os bs id o is h.1 in
    cond_both (b.subspace == id) (b ∷ cpus_on id bs) (cpus_on id bs) (AllByRecursion (Alike id o.wiring.room)) (λ e. (one b e h.0, rest)) (λ e. rest)
  where
    one : (c : Binding) → (c.subspace == id) ≡ true → IsGood os c → Alike id o.wiring.room c
    one c e g =
        let named : c.subspace ≡ id = eqb-true c.subspace id e in
        let same : g.controller ≡ o = some_same g.controller o (sym g.is ∙ ap (λ (n : ℕ). controller_on n os) named ∙ is) in
        record { named = named; right = g.right; inside = subst (λ (x : Opened). LiesIn x.wiring.room c) same g.inside }

-- ---- each processor has its controller

controller_there : (id : ℕ) (os : List Opened) (o : Opened) → controller_on id os ≡ Some o → (i : ℕ) × (slice_get os i ≡ Some o)
controller_there id [] o e = absurd (nothing o e)
controller_there id (y ∷ os) o e = by_test (controls id y) e (controller_there id os o)
  where
    by_test : (b : Bool) → cond b (Some y) (controller_on id os) ≡ Some o → (controller_on id os ≡ Some o → (i : ℕ) × (slice_get os i ≡ Some o)) → (i : ℕ) × (slice_get (y ∷ os) i ≡ Some o)
    by_test true e later = (zero, e)
    by_test false e later = let found = later e in (suc found.0, found.1)

equipped_on : (cpus : List Binding) (caps : List CapLine) (id : ℕ) (os : List Opened) (o : Opened) → controller_on id os ≡ Some o
    → controller_on id (map (equipped cpus caps) os) ≡ Some (equipped cpus caps o)
equipped_on cpus caps id [] o e = absurd (nothing o e)
equipped_on cpus caps id (y ∷ os) o e = by_test (controls id y) e (equipped_on cpus caps id os o)
  where
    by_test : (b : Bool) → cond b (Some y) (controller_on id os) ≡ Some o
        → (controller_on id os ≡ Some o → controller_on id (map (equipped cpus caps) os) ≡ Some (equipped cpus caps o))
        → cond b (Some (equipped cpus caps y)) (controller_on id (map (equipped cpus caps) os)) ≡ Some (equipped cpus caps o)
    by_test true e later = ap (λ (x : Opened). Some (equipped cpus caps x)) (some_same y o e)
    by_test false e later = later e

always : {A : Type 0} (xs : List A) → AllByRecursion (λ x. Unit {0}) xs
always [] = tt
always (x ∷ xs) = (tt, always xs)

pub all_housed : (os opened : List Opened) (lines : List (List ℕ)) (cpus : List Binding) (caps : List CapLine) → HasSmallRoom os → AreBound os lines cpus
    → opened ≡ map (equipped cpus caps) os → AllByRecursion (IsHoused opened cpus) cpus
all_housed os opened lines cpus caps small h is =
    subst (λ (v : List Opened). AllByRecursion (IsHoused v cpus) cpus) (sym is) (each cpus (all_good os lines cpus h.each))
  where
    one : (b : Binding) → IsGood os b → IsHoused (map (equipped cpus caps) os) cpus b
    one b g =
        let o : Opened = g.controller in
        let named : o.head.id ≡ b.subspace = named_by b.subspace o (found_in (λ x. Unit {0}) b.subspace os o (always os) g.is).1 in
        let there = controller_there b.subspace os o g.is in
        let room : o.wiring.room < 2 ^ 29 = small there.0 o there.1 in
        let own : (equipped cpus caps o).cpus ≡ cpus_on b.subspace cpus = ap (λ (id : ℕ). cpus_on id cpus) named in
        let le : length (cpus_on b.subspace cpus) ≤ 8 * o.wiring.room =
        few_alike b.subspace o.wiring.room (cpus_on b.subspace cpus) (alike os cpus b.subspace o g.is (all_good os lines cpus h.each))
        (AllPairs-filter (λ a c. ShareBit a c → ⊥) (λ c. c.subspace == b.subspace) cpus h.apart) in
        let count : length (equipped cpus caps o).cpus ≡ length (cpus_on b.subspace cpus) = ap length own in
        record { subspace = equipped cpus caps o; is = equipped_on cpus caps b.subspace os o g.is; all = own; few = omega (arith, le, count, room) }

    each : (bs : List Binding) → AllByRecursion (IsGood os) bs → AllByRecursion (IsHoused (map (equipped cpus caps) os) cpus) bs
    each [] k = tt
    each (b ∷ bs) k = (one b k.0, each bs k.1)

-- ---- communication spaces are small

room_small : (kind len : ℕ) → room_of kind len < 2 ^ 29
room_small kind len = omega arith

rooms_small : (t : Table) (lines : List OpenLine) → AllByRecursion (λ o. o.wiring.room < 2 ^ 29) (opened_by t lines)
rooms_small t [] = tt
rooms_small t (p ∷ ps) = with_structure (slice_get t.subspaces p.id) (rooms_small t ps)
  where
    with_structure : (m : Option Subspace) → AllByRecursion (λ o. o.wiring.room < 2 ^ 29) (opened_by t ps)
        → AllByRecursion (λ o. o.wiring.room < 2 ^ 29) (opened_with p.device p.id t.flags m ++ opened_by t ps)
    with_structure None rest = rest
    with_structure (Some u) rest = (room_small (kind_of u) (memory_len_of u), rest)

pub small_rooms : (t : Table) (os : List Opened) (lines : List OpenLine) → os ≡ opened_by t lines → HasSmallRoom os
small_rooms t os lines is = subst HasSmallRoom (sym is) (λ i o at. all_at (λ x. x.wiring.room < 2 ^ 29) (opened_by t lines) i o (rooms_small t lines) at)
