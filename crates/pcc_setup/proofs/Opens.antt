-- `open` lines and actions, one after the other.
use Rattle.std.proofs.Common.{◌≡◌, ℕ, ◌+◌, ◌<◌, ◌≤◌, List, [], ◌∷◌, ◌++◌, length, get_or, take, refl, sym, ap, ◌∙◌, subst, inl, inr, arith, Bool, true, false, cond, leb, Result, Ok, Err}
use Rattle.std.specs.Prelude.{Option, Some, None, slice_get}
use Rattle.std.specs.List.{flat_map}
use Rattle.std.proofs.lemmas.Bool.{cases_lt, le-leb, lt-leb}
use Rattle.std.proofs.lemmas.List.{append-nil, take_all, take_more}
use Rattle.std.proofs.lemmas.List.Concat.{flat_map-append}
use Rattle.std.proofs.lemmas.Option.{slice_get-get_or}
use Rattle.pcct_table.specs.declared.subspace.Subspace.{Subspace}
use Rattle.pcct_table.specs.declared.table.Table.{Table}
use Rattle.pcct_table.specs.Subspaces.{base_of, kind_of, memory_len_of}
use Rattle.pcc_script.specs.declared.scenario.Device.{Device}
use Rattle.pcc_script.specs.declared.scenario.Line.{Line}
use Rattle.pcc_script.specs.declared.scenario.OpenLine.{OpenLine}
use Rattle.pcc_script.specs.declared.scenario.Scenario.{Scenario}
use Rattle.pcc_steps.specs.declared.wiring.Wiring.{Wiring}
use Rattle.pcc_wiring.specs.declared.fault.Asks.{Asks}
use Rattle.pcc_wiring.specs.declared.fault.WiringFault.{WiringFault}
use Rattle.pcc_wiring.specs.Faults.{fault_of, opened_as}
use Rattle.pcc_wiring.specs.Wirings.{room_of, wiring_with}
use Rattle.pcc_setup.specs.declared.opening.Opened.{Opened}
use Rattle.pcc_setup.specs.declared.opening.OpenFault.TheVariants.{ImageLong, Unwired}
use Rattle.pcc_setup.specs.declared.opening.OpenFault.{OpenFault}
use Rattle.pcc_setup.specs.declared.refusal.Refusal.TheVariants as refusal
use Rattle.pcc_setup.specs.Openings.{AllOpen, asks_on, head_by, image_fault, image_of, line_fault, opens_id, structure_fault, memories_by, memory_with, opened_by, opened_with, wired_fault}
use Rattle.pcc_setup.specs.SetUps.{AllNamed, FirstWrong, OpenRefused, action_fault}

-- ---- lists

some_same : {X : Type 0} (x y : X) → Some x ≡ Some y → x ≡ y
some_same x y e = cc

pub found : {X : Type 0} (xs : List X) (i : ℕ) (x : X) → i < length xs → x ≡ get_or xs i x → slice_get xs i ≡ Some x
found xs i x lt is = slice_get-get_or xs i x lt ∙ ap Some (sym is)

-- what holds of the elements before a place and of the one there holds before the next place
abbrev AllTo : {X : Type 0} → (ℕ → X → Type 0) → List X → ℕ → Type 0
AllTo {X = X} P xs n = (i : ℕ) (x : X) → i < n → slice_get xs i ≡ Some x → P i x

pub all_more : {X : Type 0} (P : ℕ → X → Type 0) (xs : List X) (i : ℕ) (x : X) → AllTo P xs i → slice_get xs i ≡ Some x → P i x → AllTo P xs (i + 1)
all_more {X = X} P xs i x before at here j y lt e = elim (cases_lt j i) [
  | inl below ↦ before j y below e
  | inr ge ↦
      let same : i ≡ j = omega (arith, ge, lt) in
      let there : slice_get xs i ≡ Some y = subst (λ (k : ℕ). slice_get xs k ≡ Some y) (sym same) e in
      let is : x ≡ y = some_same x y (sym at ∙ there) in
      subst (λ (k : ℕ). P k y) same (subst (P i) is here)
]

-- a list is made of what each element gives
flat_more : {X Y : Type 0} (f : X → List Y) (xs : List X) (ys next : List Y) (i : ℕ) (x : X) → i < length xs → x ≡ get_or xs i x → next ≡ ys ++ f x → ys ≡ flat_map f (take i xs) → next ≡ flat_map f (take (i + 1) xs)
flat_more {X = X} {Y = Y} f xs ys next i x lt is e h =
    let taken : take (i + 1) xs ≡ take i xs ++ x ∷ [] = take_more xs i x lt ∙ ap (λ (y : X). take i xs ++ y ∷ []) (sym is) in
    e ∙ ap (λ (v : List Y). v ++ f x) h ∙ ap (λ (v : List Y). flat_map f (take i xs) ++ v) (sym (append-nil (f x))) ∙ sym (flat_map-append f (take i xs) (x ∷ [])) ∙ ap (flat_map f) (sym taken)

flat_all : {X Y : Type 0} (f : X → List Y) (xs : List X) (ys : List Y) (i : ℕ) → length xs ≤ i → ys ≡ flat_map f (take i xs) → ys ≡ flat_map f xs
flat_all f xs ys i le h = h ∙ ap (flat_map f) (take_all i xs le)

-- ---- wirings

no_fault : (v w : Wiring) (o : Option WiringFault) → Ok w ≡ opened_as v o → o ≡ None
no_fault v w None e = refl
no_fault v w (Some fault) e = absurd cc

same_wiring : (v w : Wiring) (o : Option WiringFault) → Ok w ≡ opened_as v o → w ≡ v
same_wiring v w None e = cc
same_wiring v w (Some fault) e = absurd cc

a_fault : (v : Wiring) (o : Option WiringFault) (fault : WiringFault) → Err fault ≡ opened_as v o → o ≡ Some fault
a_fault v None fault e = absurd cc
a_fault v (Some other) fault e = cc

-- ---- `open` lines

pub none_open : (t : Table) (opens : List OpenLine) → AllOpen t opens 0
none_open t opens i o lt e = absurd (omega (arith, lt))

pub one_more_open : (t : Table) (opens : List OpenLine) (i : ℕ) (line : OpenLine) → AllOpen t opens i → slice_get opens i ≡ Some line → line_fault t (take i opens) line ≡ None → AllOpen t opens (i + 1)
one_more_open t opens i line before at none = all_more (λ k o. line_fault t (take k opens) o ≡ None) opens i line before at none

-- what a line opens, by its wiring
opened_one : (device : Device) (id flags : ℕ) (m : Option Subspace) (sub : Subspace) (w : Wiring) (o : Opened) → m ≡ Some sub → w ≡ wiring_with id flags sub
    → o ≡ record { head = head_by device w sub; wiring = w; image = image_of device; cpus = []; caps = [] } → opened_with device id flags m ≡ o ∷ []
opened_one device id flags m sub w o there wired is =
    ap (opened_with device id flags) there
    ∙ ap (λ (v : Wiring). record { head = head_by device v sub; wiring = v; image = image_of device; cpus = []; caps = [] } ∷ []) (sym wired)
    ∙ ap (λ (x : Opened). x ∷ []) (sym is)

pub one_more_opened : (t : Table) (opens : List OpenLine) (os next : List Opened) (o : Opened) (i : ℕ) (line x : OpenLine) (sub : Subspace) (w : Wiring) → i < length opens
    → slice_get opens i ≡ Some line → slice_get t.subspaces line.id ≡ Some sub → w ≡ wiring_with line.id t.flags sub → x ≡ get_or opens i x
    → o ≡ record { head = head_by x.device w sub; wiring = w; image = image_of x.device; cpus = []; caps = [] } → next ≡ os ++ o ∷ []
    → os ≡ opened_by t (take i opens) → next ≡ opened_by t (take (i + 1) opens)
one_more_opened t opens os next o i line x sub w lt at there wired read is pushed before =
    let same : line ≡ get_or opens i line = some_same line (get_or opens i line) (sym at ∙ slice_get-get_or opens i line lt) in
    let line_is : x ≡ line = some_same x line (sym (found opens i x lt read) ∙ at) in
    let made : o ≡ record { head = head_by line.device w sub; wiring = w; image = image_of line.device; cpus = []; caps = [] } =
    subst (λ (l : OpenLine). o ≡ record { head = head_by l.device w sub; wiring = w; image = image_of l.device; cpus = []; caps = [] }) line_is is in
    let gives : opened_with line.device line.id t.flags (slice_get t.subspaces line.id) ≡ o ∷ [] =
    opened_one line.device line.id t.flags (slice_get t.subspaces line.id) sub w o there wired made in
    flat_more (λ (l : OpenLine). opened_with l.device l.id t.flags (slice_get t.subspaces l.id)) opens os next i line lt same (pushed ∙ ap (λ (v : List Opened). os ++ v) (sym gives)) before

pub all_opened : (t : Table) (opens : List OpenLine) (os : List Opened) (i : ℕ) → length opens ≤ i → os ≡ opened_by t (take i opens) → os ≡ opened_by t opens
all_opened t opens os i le h = flat_all (λ (l : OpenLine). opened_with l.device l.id t.flags (slice_get t.subspaces l.id)) opens os i le h

-- the first line that opens nothing
pub first_wrong : (t : Table) (opens : List OpenLine) (i id : ℕ) (line x : OpenLine) (fault : OpenFault) → AllOpen t opens i → slice_get opens i ≡ Some line → line_fault t (take i opens) line ≡ Some fault
    → i < length opens → x ≡ get_or opens i x → id ≡ x.id → OpenRefused t opens (refusal.Open id fault)
first_wrong t opens i id line x fault before at wrong lt is named =
    let same : x ≡ line = some_same x line (sym (found opens i x lt is) ∙ at) in
    let P : ℕ → Type 0 = λ n. OpenRefused t opens (refusal.Open n fault) in
    subst P (sym (named ∙ ap (λ (o : OpenLine). o.id) same)) (FirstWrong i line fault at before wrong)

-- the first fault of a line's structure, for the side that asks on it
abbrev asked_fault : OpenLine → Subspace → Option WiringFault
asked_fault o s = fault_of (asks_on o.device (kind_of s)) s

-- what the wiring of the structure answers, for the side that was found to ask
by_side : (x : OpenLine) (s : Subspace) (v : Wiring) (answer : Result Wiring WiringFault) (kind : ℕ) (asks : Asks) → kind ≡ kind_of s → asks ≡ asks_on x.device kind
    → answer ≡ opened_as v (fault_of asks s) → answer ≡ opened_as v (asked_fault x s)
by_side x s v answer kind asks kind_is asks_is e = e ∙ ap (λ (a : Asks). opened_as v (fault_of a s)) (asks_is ∙ ap (asks_on x.device) kind_is)

-- the fault of a line, by what is found of its structure
line_is : (t : Table) (opens : List OpenLine) (i : ℕ) (x : OpenLine) (s : Subspace) (o : Option WiringFault) → slice_get t.subspaces x.id ≡ Some s
    → opens_id x.id (take i opens) ≡ false → asked_fault x s ≡ o → line_fault t (take i opens) x ≡ wired_fault x.device s o
line_is t opens i x s o at once is =
    ap (structure_fault x.device (opens_id x.id (take i opens))) at ∙ ap (λ (b : Bool). structure_fault x.device b (Some s)) once ∙ ap (wired_fault x.device s) is

short_image : (x : OpenLine) (s : Subspace) (w : Wiring) (len : ℕ) → w.room ≡ room_of (kind_of s) (memory_len_of s) → len ≡ length (image_of x.device) → len ≤ w.room → image_fault x.device s ≡ None
short_image x s w len room is le =
    let test : leb (length (image_of x.device)) (room_of (kind_of s) (memory_len_of s)) ≡ true =
    le-leb (length (image_of x.device)) (room_of (kind_of s) (memory_len_of s)) (omega (arith, room, is, le)) in
    ap (λ (b : Bool). cond b None (Some ImageLong)) test

long_image : (x : OpenLine) (s : Subspace) (w : Wiring) (len : ℕ) → w.room ≡ room_of (kind_of s) (memory_len_of s) → len ≡ length (image_of x.device) → w.room < len
    → image_fault x.device s ≡ Some ImageLong
long_image x s w len room is lt =
    let test : leb (length (image_of x.device)) (room_of (kind_of s) (memory_len_of s)) ≡ false =
    lt-leb (length (image_of x.device)) (room_of (kind_of s) (memory_len_of s)) (omega (arith, room, is, lt)) in
    ap (λ (b : Bool). cond b None (Some ImageLong)) test

room_by : (id flags : ℕ) (s : Subspace) (w : Wiring) → w ≡ wiring_with id flags s → w.room ≡ room_of (kind_of s) (memory_len_of s)
room_by id flags s w e = ap (λ (v : Wiring). v.room) e

-- a line opens its structure
pub opens_line : (t : Table) (opens : List OpenLine) (i : ℕ) (x : OpenLine) (s : Subspace) (w : Wiring) (kind : ℕ) (asks : Asks) (image : List ℕ)
    → i < length opens → x ≡ get_or opens i x → slice_get t.subspaces x.id ≡ Some s → opens_id x.id (take i opens) ≡ false
    → kind ≡ kind_of s → asks ≡ asks_on x.device kind → Ok w ≡ opened_as (wiring_with x.id t.flags s) (fault_of asks s) → image ≡ image_of x.device → length image ≤ w.room
    → (line : OpenLine) × (slice_get opens i ≡ Some line) × (line_fault t (take i opens) line ≡ None) × (slice_get t.subspaces line.id ≡ Some s)
    × (w ≡ wiring_with line.id t.flags s)
opens_line t opens i x s w kind asks image lt is at once kind_is asks_is answered image_is le =
    let wired : Ok w ≡ opened_as (wiring_with x.id t.flags s) (asked_fault x s) = by_side x s (wiring_with x.id t.flags s) (Ok w) kind asks kind_is asks_is answered in
    let same : w ≡ wiring_with x.id t.flags s = same_wiring (wiring_with x.id t.flags s) w (asked_fault x s) wired in
    let none : asked_fault x s ≡ None = no_fault (wiring_with x.id t.flags s) w (asked_fault x s) wired in
    let short : image_fault x.device s ≡ None = short_image x s w (length image) (room_by x.id t.flags s w same) (ap length image_is) le in
    (x, found opens i x lt is, line_is t opens i x s None at once none ∙ short, at, same)

-- its image is too long
pub image_too_long : (t : Table) (opens : List OpenLine) (i : ℕ) (x : OpenLine) (s : Subspace) (w : Wiring) (kind : ℕ) (asks : Asks) (image : List ℕ)
    → i < length opens → x ≡ get_or opens i x → slice_get t.subspaces x.id ≡ Some s → opens_id x.id (take i opens) ≡ false
    → kind ≡ kind_of s → asks ≡ asks_on x.device kind → Ok w ≡ opened_as (wiring_with x.id t.flags s) (fault_of asks s) → image ≡ image_of x.device → w.room < length image
    → (line : OpenLine) × (slice_get opens i ≡ Some line) × (line_fault t (take i opens) line ≡ Some ImageLong)
image_too_long t opens i x s w kind asks image lt is at once kind_is asks_is answered image_is more =
    let wired : Ok w ≡ opened_as (wiring_with x.id t.flags s) (asked_fault x s) = by_side x s (wiring_with x.id t.flags s) (Ok w) kind asks kind_is asks_is answered in
    let same : w ≡ wiring_with x.id t.flags s = same_wiring (wiring_with x.id t.flags s) w (asked_fault x s) wired in
    let none : asked_fault x s ≡ None = no_fault (wiring_with x.id t.flags s) w (asked_fault x s) wired in
    let long : image_fault x.device s ≡ Some ImageLong = long_image x s w (length image) (room_by x.id t.flags s w same) (ap length image_is) more in
    (x, found opens i x lt is, line_is t opens i x s None at once none ∙ long)

-- its structure has a fault
pub opens_nothing : (t : Table) (opens : List OpenLine) (i : ℕ) (x : OpenLine) (s : Subspace) (fault : WiringFault) (kind : ℕ) (asks : Asks)
    → i < length opens → x ≡ get_or opens i x → slice_get t.subspaces x.id ≡ Some s → opens_id x.id (take i opens) ≡ false
    → kind ≡ kind_of s → asks ≡ asks_on x.device kind → Err fault ≡ opened_as (wiring_with x.id t.flags s) (fault_of asks s)
    → (line : OpenLine) × (slice_get opens i ≡ Some line) × (line_fault t (take i opens) line ≡ Some (Unwired fault))
opens_nothing t opens i x s fault kind asks lt is at once kind_is asks_is answered =
    let wired : Err fault ≡ opened_as (wiring_with x.id t.flags s) (asked_fault x s) = by_side x s (wiring_with x.id t.flags s) (Err fault) kind asks kind_is asks_is answered in
    let wrong : asked_fault x s ≡ Some fault = a_fault (wiring_with x.id t.flags s) (asked_fault x s) fault wired in
    (x, found opens i x lt is, line_is t opens i x s (Some fault) at once wrong)

-- ---- memories

pub one_more_memory : (t : Table) (opens : List OpenLine) (ms next : List (ℕ × ℕ × ℕ)) (i id base len : ℕ) (x : OpenLine) (s : Subspace) → i < length opens → x ≡ get_or opens i x → id ≡ x.id
    → slice_get t.subspaces id ≡ Some s → base ≡ base_of s → len ≡ memory_len_of s → next ≡ ms ++ (id, base, len) ∷ [] → ms ≡ memories_by t (take i opens) → next ≡ memories_by t (take (i + 1) opens)
one_more_memory t opens ms next i id base len x s lt is named at based long pushed before =
    let gives : memory_with x.id (slice_get t.subspaces x.id) ≡ (id, base, len) ∷ [] =
    ap (λ (n : ℕ). memory_with n (slice_get t.subspaces n)) (sym named) ∙ ap (memory_with id) at ∙ (λ k. (id, sym based k, sym long k) ∷ []) in
    flat_more (λ (o : OpenLine). memory_with o.id (slice_get t.subspaces o.id)) opens ms next i x lt is (pushed ∙ ap (λ (v : List (ℕ × ℕ × ℕ)). ms ++ v) (sym gives)) before

pub no_memory : (t : Table) (opens : List OpenLine) (ms : List (ℕ × ℕ × ℕ)) (i id : ℕ) (x : OpenLine) → i < length opens → x ≡ get_or opens i x → id ≡ x.id
    → slice_get t.subspaces id ≡ None → ms ≡ memories_by t (take i opens) → ms ≡ memories_by t (take (i + 1) opens)
no_memory t opens ms i id x lt is named at before =
    let gives : memory_with x.id (slice_get t.subspaces x.id) ≡ [] = ap (λ (n : ℕ). memory_with n (slice_get t.subspaces n)) (sym named) ∙ ap (memory_with id) at in
    flat_more (λ (o : OpenLine). memory_with o.id (slice_get t.subspaces o.id)) opens ms ms i x lt is (sym (append-nil ms) ∙ ap (λ (v : List (ℕ × ℕ × ℕ)). ms ++ v) (sym gives)) before

pub all_memories : (t : Table) (opens : List OpenLine) (ms : List (ℕ × ℕ × ℕ)) (i : ℕ) → length opens ≤ i → ms ≡ memories_by t (take i opens) → ms ≡ memories_by t opens
all_memories t opens ms i le h = flat_all (λ (o : OpenLine). memory_with o.id (slice_get t.subspaces o.id)) opens ms i le h

-- ---- actions

pub none_named : (s : Scenario) → AllNamed s 0
none_named s i l lt e = absurd (omega (arith, lt))

pub one_more_named : (s : Scenario) (i : ℕ) (l : Line) → i < length s.actions → l ≡ get_or s.actions i l → action_fault s l ≡ None → AllNamed s i → AllNamed s (i + 1)
one_more_named s i l lt is none before = all_more (λ k v. action_fault s v ≡ None) s.actions i l before (found s.actions i l lt is) none
