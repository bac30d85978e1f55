-- The channels of what a script opens, before its first line.
use Rattle.std.proofs.Common.{◌≡◌, ℕ, zero, suc, ◌+◌, ◌<◌, ◌≤◌, ◌==◌, ◌||◌, Bool, true, false, cond, List, [], ◌∷◌, ◌++◌, length, get_or, map, filter, take, refl, sym, ap, ◌∙◌, subst, arith}
use Rattle.std.specs.Prelude.{Some, slice_get}
use Rattle.std.specs.List.{AllByRecursion, AllZip}
use Rattle.std.proofs.lemmas.Bool.{eq-eqb, eqb-true}
use Rattle.std.proofs.lemmas.Option.{same_Some, slice_get-get_or, slice_get_within}
use Rattle.std.proofs.lemmas.List.{take_all, take_more}
use Rattle.pcct_table.specs.declared.subspace.Subspace.{Subspace}
use Rattle.pcct_table.specs.declared.table.Table.{Table}
use Rattle.pcc_script.specs.declared.scenario.CapLine.{CapLine}
use Rattle.pcc_script.specs.declared.scenario.OpenLine.{OpenLine}
use Rattle.pcc_script.specs.declared.scenario.Scenario.{Scenario}
use Rattle.cpc_package.specs.Bindings as bindings
use Rattle.cpc_package.specs.Bindings.{LiesIn}
use Rattle.cpc_package.specs.declared.binding.Binding.{Binding}
use Rattle.pcc_setup.specs.Equipment.{ArePlaces, CanBegin, IsPlaceOf, cpus_on, equipped}
use Rattle.pcc_setup.specs.Openings.{AllOpen, opened_by}
use Rattle.pcc_setup.specs.SetUps.{IsSetUpOf, Opens}
use Rattle.pcc_setup.specs.declared.opening.Opened.{Opened}
use Rattle.pcc_setup.specs.declared.places.CpuPlace.{CpuPlace}
use Rattle.pcc_setup.specs.declared.setup.SetUp.{SetUp}
use Rattle.channel_turns.specs.ChannelRuns.{Channel, ChannelStart, ScriptClock}
use Rattle.script_run.specs.Channels.{AreDistinct, IsEarly, IsWired, bank_start, fresh_channel, ids_of, is_on, starts_of}
use Rattle.script_run.specs.Headlines.{AreHeadlines}
use Rattle.script_run.specs.ScriptRuns.{asks_of, clock_of, controller_start, run_of, set_up_of, start_of}
use Rattle.pcc_setup.proofs.Controllers.{open_rest}
use Rattle.script_run.proofs.Several.{IsFresh, fresh_headlines, has_structure, opens_apart}

-- ---- IDs

-- a channel starts with the head of what is opened
start_head : (clock : ScriptClock) (o : Opened) → (start_of clock o).head ≡ o.head
start_head clock o = by o.head.cppc
  where
    by : (b : Bool) → (cond b (controller_start o clock) (bank_start o.head clock)).head ≡ o.head
    by true = refl
    by false = refl

-- the channels of opened subspaces
abbrev pub begun : ScriptClock → List Opened → List Channel
begun clock os = map (λ o. fresh_channel (start_of clock o)) os

begun_ids : (clock : ScriptClock) (os : List Opened) → ids_of (begun clock os) ≡ map (λ o. o.head.id) os
begun_ids clock [] = refl
begun_ids clock (o ∷ os) = λ i. (start_head clock o i).id ∷ begun_ids clock os i

opened_ids : (t : Table) (opens : List OpenLine) → AllOpen t opens (length opens) → map (λ o. o.head.id) (opened_by t opens) ≡ map (λ o. o.id) opens
opened_ids t [] h = refl
opened_ids t (o ∷ os) h =
    let there : (u : Subspace) × (slice_get t.subspaces o.id ≡ Some u) = has_structure o.device false (slice_get t.subspaces o.id) (h zero o (omega arith) refl) in
    rw there.1 (ap (λ (v : List ℕ). o.id ∷ v) (opened_ids t os (open_rest t o os h)))

equipped_ids : (cpus : List Binding) (caps : List CapLine) (os : List Opened) → map (λ o. o.head.id) (map (equipped cpus caps) os) ≡ map (λ o. o.head.id) os
equipped_ids cpus caps [] = refl
equipped_ids cpus caps (o ∷ os) = ap (λ (v : List ℕ). o.head.id ∷ v) (equipped_ids cpus caps os)

-- the IDs of the channels are those of the lines
pub ids_are : (s : Scenario) (os : List Opened) → Opens s os → ids_of (set_up_of s os) ≡ map (λ o. o.id) s.opens
ids_are s os h =
    begun_ids (clock_of s) os ∙ ap (map (λ (o : Opened). o.head.id)) h.list_is ∙ equipped_ids h.checked.cpus s.caps (opened_by h.table s.opens)
    ∙ opened_ids h.table s.opens h.checked.all_open

-- no two have one ID
pub set_up_apart : (s : Scenario) (os : List Opened) → Opens s os → AreDistinct (ids_of (set_up_of s os))
set_up_apart s os h = subst AreDistinct (sym (ids_are s os h)) (opens_apart h.table s.opens h.checked.all_open)

-- ---- nothing was asked yet

begun_fresh : (clock : ScriptClock) (os : List Opened) → AllByRecursion IsFresh (begun clock os)
begun_fresh clock [] = tt
begun_fresh clock (o ∷ os) = (refl, begun_fresh clock os)

pub begun_early : (clock : ScriptClock) (os : List Opened) → AllByRecursion (IsEarly 0) (begun clock os)
begun_early clock [] = tt
begun_early clock (o ∷ os) = (record { taken = omega arith; added = omega arith }, begun_early clock os)

-- each journal of a script's run keeps the headline
pub set_up_headlines : (s : Scenario) (os : List Opened) (cpus : List Binding) → Opens s os → AreHeadlines (asks_of s cpus) (run_of s os cpus)
set_up_headlines s os cpus h = fresh_headlines (set_up_of s os) (begun_fresh (clock_of s) os) (set_up_apart s os h) (asks_of s cpus)

-- ---- lists

kept : (f : Binding → Bool) (xs : List Binding) (j : ℕ) (b : Binding) → slice_get (filter f xs) j ≡ Some b → f b ≡ true
kept f [] j b e = absurd (cc e)
kept f (x ∷ xs) j b e = by (f x) refl j e (λ k q. kept f xs k b q)
  where
    by : (c : Bool) → f x ≡ c → (j : ℕ) → slice_get (cond c (x ∷ filter f xs) (filter f xs)) j ≡ Some b → ((k : ℕ) → slice_get (filter f xs) k ≡ Some b → f b ≡ true) → f b ≡ true
    by true t zero e rest = subst (λ (y : Binding). f y ≡ true) (same_Some x b e) t
    by true t (suc j) e rest = rest j e
    by false t j e rest = rest j e

member : (f : Binding → Bool) (xs : List Binding) (i : ℕ) (b : Binding) → slice_get xs i ≡ Some b → f b ≡ true → (j : ℕ) × (slice_get (filter f xs) j ≡ Some b)
member f [] i b e t = absurd (cc e)
member f (x ∷ xs) zero b e t = by (f x) (ap f (same_Some x b e) ∙ t)
  where
    by : (c : Bool) → c ≡ true → (j : ℕ) × (slice_get (cond c (x ∷ filter f xs) (filter f xs)) j ≡ Some b)
    by true q = (zero, e)
    by false q = absurd (cc q)
member f (x ∷ xs) (suc i) b e t = by (f x) (member f xs i b e t)
  where
    by : (c : Bool) → ((j : ℕ) × (slice_get (filter f xs) j ≡ Some b)) → (j : ℕ) × (slice_get (cond c (x ∷ filter f xs) (filter f xs)) j ≡ Some b)
    by true k = (suc k.0, k.1)
    by false k = k

zip_at : {A B : Type 0} (R : A → B → Type 0) (xs : List A) (ys : List B) (i : ℕ) (x : A) → AllZip R xs ys → slice_get xs i ≡ Some x → (y : B) × R x y
zip_at R [] ys i x h e = absurd (cc e)
zip_at R (a ∷ xs) [] i x h e = absurd h
zip_at R (a ∷ xs) (y ∷ ys) zero x h e = (y, subst (λ (z : _). R z y) (same_Some a x e) h.0)
zip_at R (a ∷ xs) (y ∷ ys) (suc i) x h e = zip_at R xs ys i x h.1 e

zip_length : {A B : Type 0} (R : A → B → Type 0) (xs : List A) (ys : List B) → AllZip R xs ys → length xs ≡ length ys
zip_length R [] [] h = refl
zip_length R [] (y ∷ ys) h = absurd h
zip_length R (x ∷ xs) [] h = absurd h
zip_length R (x ∷ xs) (y ∷ ys) h = ap suc (zip_length R xs ys h.1)

pub there_at : {X : Type 0} (xs : List X) (i : ℕ) → i < length xs → (x : X) × (slice_get xs i ≡ Some x)
there_at [] i lt = absurd (omega (arith, lt))
there_at (x ∷ xs) zero lt = (x, refl)
there_at (x ∷ xs) (suc i) lt = there_at xs i (omega (arith, lt))

-- ---- processors

-- what is opened has the processors with its ID
abbrev IsEquipped : List Binding → Opened → Type 0
IsEquipped cpus o = o.cpus ≡ cpus_on o.head.id cpus

equipped_all : (cpus : List Binding) (caps : List CapLine) (os : List Opened) → AllByRecursion (IsEquipped cpus) (map (equipped cpus caps) os)
equipped_all cpus caps [] = tt
equipped_all cpus caps (o ∷ os) = (refl, equipped_all cpus caps os)

all_at : {X : Type 0} (P : X → Type 0) (xs : List X) (i : ℕ) (x : X) → AllByRecursion P xs → slice_get xs i ≡ Some x → P x
all_at P [] i x h e = absurd (cc e)
all_at P (y ∷ ys) zero x h e = subst P (same_Some y x e) h.0
all_at P (y ∷ ys) (suc i) x h e = all_at P ys i x h.1 e

or_true : (a : Bool) → (a || true) ≡ true
or_true true = refl
or_true false = refl

on_start : (clock : ScriptClock) (os : List Opened) (i : ℕ) (o : Opened) → slice_get os i ≡ Some o → is_on o.head.id (starts_of (begun clock os)) ≡ true
on_start clock [] i o e = absurd (cc e)
on_start clock (x ∷ xs) zero o e =
    let same : (start_of clock x).head.id ≡ o.head.id = (λ i. (start_head clock x i).id) ∙ ap (λ (y : Opened). y.head.id) (same_Some x o e) in
    ap (λ (b : Bool). b || is_on o.head.id (starts_of (begun clock xs))) (eq-eqb (start_of clock x).head.id o.head.id same)
on_start clock (x ∷ xs) (suc i) o e = ap (λ (b : Bool). ((start_of clock x).head.id == o.head.id) || b) (on_start clock xs i o e) ∙ or_true ((start_of clock x).head.id == o.head.id)

-- the subspace of each processor is among the channels
pub cpu_on : (s : Scenario) (u : SetUp) (h : Opens s u.opened) → IsSetUpOf s u → (cpu : ℕ) (b : Binding) → slice_get h.checked.cpus cpu ≡ Some b
    → is_on b.subspace (starts_of (set_up_of s u.opened)) ≡ true
cpu_on s u h k cpu b at =
    let z : (p : CpuPlace) × IsPlaceOf u.opened b p = zip_at (IsPlaceOf u.opened) h.checked.cpus u.places cpu b (k.places h) at in
    let o : Opened = z.1.subspace in
    let equipped_is : IsEquipped h.checked.cpus o = all_at (IsEquipped h.checked.cpus) u.opened z.0.opened o (subst (AllByRecursion (IsEquipped h.checked.cpus)) (sym h.list_is) (equipped_all h.checked.cpus s.caps (opened_by h.table s.opens))) z.1.there in
    let found : slice_get (cpus_on o.head.id h.checked.cpus) z.0.cpu ≡ Some b = subst (λ (xs : List Binding). slice_get xs z.0.cpu ≡ Some b) equipped_is z.1.cpu in
    let same : b.subspace ≡ o.head.id = eqb-true b.subspace o.head.id (kept (λ x. x.subspace == o.head.id) h.checked.cpus z.0.cpu b found) in
    ap (λ (n : ℕ). is_on n (starts_of (set_up_of s u.opened))) same ∙ on_start (clock_of s) u.opened z.0.opened o z.1.there

-- and its fields lie in the communication space there
abbrev pub FitsOn : Binding → ChannelStart → Type 0
FitsOn b start = start.head.id ≡ b.subspace → bindings.IsRight b × LiesIn start.head.room b

fits_on : (clock : ScriptClock) (cpus : List Binding) (o : Opened) (cpu : ℕ) (b : Binding) → CanBegin o → IsWired o → IsEquipped cpus o → slice_get cpus cpu ≡ Some b
    → FitsOn b (start_of clock o)
fits_on clock cpus o cpu b begins wired equipped_is at = λ e.
    let head : (start_of clock o).head ≡ o.head = start_head clock o in
    let same : b.subspace ≡ o.head.id = sym e ∙ (λ i. (head i).id) in
    let m : (j : ℕ) × (slice_get (cpus_on o.head.id cpus) j ≡ Some b) = member (λ x. x.subspace == o.head.id) cpus cpu b at (eq-eqb b.subspace o.head.id same) in
    let found : slice_get o.cpus m.0 ≡ Some b = subst (λ (xs : List Binding). slice_get xs m.0 ≡ Some b) (sym equipped_is) m.1 in
    let lt : m.0 < length o.cpus = slice_get_within o.cpus m.0 b found in
    let is : get_or o.cpus m.0 b ≡ b = same_Some (get_or o.cpus m.0 b) b (sym (slice_get-get_or o.cpus m.0 b lt) ∙ found) in
    let room : o.wiring.room ≡ (start_of clock o).head.room = wired.head.room ∙ (λ i. (sym head i).room) in
    (subst bindings.IsRight is (begins.processors.right m.0 b lt), subst (λ (n : ℕ). LiesIn n b) room (subst (LiesIn o.wiring.room) is (begins.processors.inside m.0 b lt)))

all_fit : (clock : ScriptClock) (cpus : List Binding) (os : List Opened) (cpu : ℕ) (b : Binding) → AllByRecursion CanBegin os → AllByRecursion IsWired os → AllByRecursion (IsEquipped cpus) os
    → slice_get cpus cpu ≡ Some b → AllByRecursion (FitsOn b) (starts_of (begun clock os))
all_fit clock cpus [] cpu b begins wired equipped_are at = tt
all_fit clock cpus (o ∷ os) cpu b begins wired equipped_are at =
    (fits_on clock cpus o cpu b begins.0 wired.0 equipped_are.0 at, all_fit clock cpus os cpu b begins.1 wired.1 equipped_are.1 at)

pub cpu_fits : (s : Scenario) (os : List Opened) (h : Opens s os) → AllByRecursion CanBegin os → AllByRecursion IsWired os → (cpu : ℕ) (b : Binding) → slice_get h.checked.cpus cpu ≡ Some b
    → AllByRecursion (FitsOn b) (starts_of (set_up_of s os))
cpu_fits s os h begins wired cpu b at =
    all_fit (clock_of s) h.checked.cpus os cpu b begins wired (subst (AllByRecursion (IsEquipped h.checked.cpus)) (sym h.list_is) (equipped_all h.checked.cpus s.caps (opened_by h.table s.opens))) at

-- as many as `cpu` lines
pub cpus_count : (s : Scenario) (os : List Opened) (h : Opens s os) → length s.cpus ≡ length h.checked.cpus
cpus_count s os h = zip_length _ s.cpus h.checked.cpus h.checked.bound.each

-- ---- places

-- the processor at a place
pub place_at : (os : List Opened) (cpus : List Binding) (places : List CpuPlace) (i : ℕ) (p : CpuPlace) → ArePlaces os cpus places → i < length places → p ≡ get_or places i p
    → (b : Binding) × (slice_get cpus i ≡ Some b) × IsPlaceOf os b p
place_at os [] [] i p h lt e = absurd (omega (arith, lt))
place_at os [] (q ∷ qs) i p h lt e = absurd h
place_at os (b ∷ bs) [] i p h lt e = absurd h
place_at os (b ∷ bs) (q ∷ qs) zero p h lt e = (b, refl, subst (IsPlaceOf os b) (sym e) h.0)
place_at os (b ∷ bs) (q ∷ qs) (suc i) p h lt e = place_at os bs qs i p h.1 (omega (arith, lt)) e

-- its subspace and its number there exist
pub place_within : (os : List Opened) (places : List CpuPlace) (i : ℕ) (p : CpuPlace) → ((cpus : List Binding) × ArePlaces os cpus places) → i < length places → p ≡ get_or places i p
    → (p.opened < length os) × ((o : Opened) → o ≡ get_or os p.opened o → p.cpu < length o.cpus)
place_within os places i p h lt e =
    let k = place_at os h.0 places i p h.1 lt e in
    let within : p.opened < length os = slice_get_within os p.opened k.2.subspace k.2.there in (
      within,
      λ o is.
          let same : o ≡ k.2.subspace = same_Some o k.2.subspace (ap Some is ∙ sym (slice_get-get_or os p.opened o within) ∙ k.2.there) in
          slice_get_within o.cpus p.cpu k.0 (subst (λ (x : Opened). slice_get x.cpus p.cpu ≡ Some k.0) (sym same) k.2.cpu),
    )

-- one binding more
pub binding_more : (os : List Opened) (cpus : List Binding) (places : List CpuPlace) (i : ℕ) (p : CpuPlace) (o : Opened) (b : Binding) (before next : List Binding) → ArePlaces os cpus places → i < length places
    → p ≡ get_or places i p → o ≡ get_or os p.opened o → b ≡ get_or o.cpus p.cpu b → next ≡ before ++ b ∷ [] → before ≡ take i cpus → next ≡ take (i + 1) cpus
binding_more os cpus places i p o b before next h lt e is at pushed front =
    let k = place_at os cpus places i p h lt e in
    let w = place_within os places i p (cpus, h) lt e in
    let same : o ≡ k.2.subspace = same_Some o k.2.subspace (ap Some is ∙ sym (slice_get-get_or os p.opened o w.0) ∙ k.2.there) in
    let found : slice_get o.cpus p.cpu ≡ Some k.0 = subst (λ (x : Opened). slice_get x.cpus p.cpu ≡ Some k.0) (sym same) k.2.cpu in
    let one : b ≡ k.0 = same_Some b k.0 (ap Some at ∙ sym (slice_get-get_or o.cpus p.cpu b (w.1 o is)) ∙ found) in
    let within : i < length cpus = slice_get_within cpus i k.0 k.1 in
    let here : get_or cpus i b ≡ k.0 = same_Some (get_or cpus i b) k.0 (sym (slice_get-get_or cpus i b within) ∙ k.1) in
    pushed ∙ (λ j. front j ++ one j ∷ []) ∙ ap (λ (x : Binding). take i cpus ++ x ∷ []) (sym here) ∙ sym (take_more cpus i b within)

pub bindings_end : (os : List Opened) (cpus : List Binding) (places : List CpuPlace) (i : ℕ) (all : List Binding) → ArePlaces os cpus places → length places ≤ i → all ≡ take i cpus → all ≡ cpus
bindings_end os cpus places i all h le e = let n : length cpus ≡ length places = zip_length (IsPlaceOf os) cpus places h in e ∙ take_all i cpus (omega (arith, le, n))
