-- What is opened has controllers that can begin: each processor is bound to the one controller with its ID.
use Rattle.std.proofs.Common.{◌≡◌, ◌≢◌, ◌⊎◌, inl, inr, ℕ, zero, suc, ◌+◌, ◌<◌, ◌≤◌, ◌==◌, ◌||◌, not, Bool, true, false, cond, leb, ltb, List, [], ◌∷◌, ◌++◌, length, map, take, refl, sym, ap, ◌∙◌, subst, arith}
use Rattle.std.specs.Prelude.{All, AllPairs, Option, Some, None, filter, slice_get}
use Rattle.std.specs.List.{AllByRecursion, AllZip, list_all, list_any}
use Rattle.std.proofs.lemmas.Bool.{and_parts, cond_both, eqb-false, eqb-true, leb-true, ltb-true, lt-ltb}
use Rattle.std.proofs.lemmas.List.{length-map}
use Rattle.std.proofs.lemmas.List.Elements.{All-from_recursion}
use Rattle.std.proofs.lemmas.List.Kept.{AllPairs-filter}
use Rattle.std.proofs.lemmas.Option.{slice_get_within}
use Rattle.pcct_table.specs.declared.subspace.Subspace.{Subspace}
use Rattle.pcct_table.specs.declared.table.Table.{Table}
use Rattle.pcct_table.specs.Subspaces.{kind_of, memory_len_of}
use Rattle.pcc_gas.specs.declared.address.Gas.{Gas}
use Rattle.pcc_script.specs.declared.scenario.CapLine.{CapLine}
use Rattle.pcc_script.specs.declared.scenario.Device.{Device}
use Rattle.pcc_script.specs.declared.scenario.OpenLine.{OpenLine}
use Rattle.pcc_script.specs.declared.scenario.Scenario.{Scenario}
use Rattle.pcc_wiring.specs.declared.fault.WiringFault.{WiringFault}
use Rattle.pcc_wiring.specs.Faults.{fault_of}
use Rattle.pcc_wiring.specs.Wirings.{room_of}
use Rattle.cpc_package.specs.Bindings.{IsBinding, IsRight, LiesIn, ShareBit, bind_fault, binding_of, first_from, gas_of, or_else}
use Rattle.cpc_package.specs.Entries.{entries_of, entry_at}
use Rattle.cpc_package.specs.declared.binding.BindFault.{BindFault}
use Rattle.cpc_package.specs.declared.binding.Binding.{Binding}
use Rattle.cpc_package.specs.declared.entry.Entry.{Entry}
use Rattle.cpc_package.proofs.Bound.{is_binding, is_right, lies_in}
use Rattle.cppc_device.specs.Openings.{cap_order, device_fault, order_after, order_fault}
use Rattle.cppc_device.specs.Ranges.{InRange}
use Rattle.cppc_device.specs.declared.device.DeviceFault.{DeviceFault}
use Rattle.cppc_device.specs.declared.device.DeviceFault.TheVariants.{ImageTooLong}
use Rattle.cppc_device.proofs.Numbers.{can_read}
use Rattle.pcc_setup.specs.declared.opening.Opened.{Opened}
use Rattle.pcc_setup.specs.declared.opening.OpenFault.{OpenFault}
use Rattle.pcc_setup.specs.declared.opening.OpenFault.TheVariants.{ImageLong}
use Rattle.pcc_setup.specs.Openings.{AllOpen, asks_on, image_fault, image_of, opened_by, opened_with, opens_id, structure_fault, wired_fault}
use Rattle.pcc_setup.specs.Processors.{AreBound, Binds, channel_of, controller_named, controller_on, controls, fault_on, named_subspace, unfit}
use Rattle.pcc_setup.specs.Equipment.{AreCapsRight, CanBegin, CanLook, IsStarting, StartInside, StartsInside, cap_of, caps_on, cpus_on, equipped, is_elsewhere, registers_of}
use Rattle.pcc_setup.specs.SetUps.{IsSetUp, Opens}
use Rattle.pcc_setup.proofs.Checking.{if_some, of_some}
use Rattle.pcc_setup.proofs.FirstFaults.{some_same}

split : (b : Bool) → (b ≡ true) ⊎ (b ≡ false)
split true = inl refl
split false = inr refl

truth : {P : Type 0} (b : Bool) → b ≡ true → b ≡ false → P
truth b h k = absurd cc

pub nothing : {A : Type 0} (x : A) → None ≡ Some x → ⊥
nothing x e = absurd cc

pub all_from : {A : Type 0} (P : A → Type 0) (xs : List A) → ((i : ℕ) (x : A) → slice_get xs i ≡ Some x → P x) → AllByRecursion P xs
all_from P [] h = tt
all_from P (x ∷ xs) h = (h zero x refl, all_from P xs (λ i y at. h (suc i) y at))

pub all_at : {A : Type 0} (P : A → Type 0) (xs : List A) (i : ℕ) (x : A) → AllByRecursion P xs → slice_get xs i ≡ Some x → P x
all_at P [] i x h at = absurd (nothing x at)
all_at P (y ∷ xs) zero x h at = subst P (some_same y x at) h.0
all_at P (y ∷ xs) (suc i) x h at = all_at P xs i x h.1 at

all_kept : {A : Type 0} (P Q : A → Type 0) (test : A → Bool) (xs : List A) → ((x : A) → test x ≡ true → Q x → P x) → AllByRecursion Q xs → AllByRecursion P (filter test xs)
all_kept P Q test [] f h = tt
all_kept P Q test (x ∷ xs) f h =
    let rest = all_kept P Q test xs f h.1 in
    cond_both (test x) (x ∷ filter test xs) (filter test xs) (AllByRecursion P) (λ e. (f x e h.0, rest)) (λ e. rest)

-- ---- no ID is opened twice

abbrev pub Distinct : List Opened → Type 0
Distinct [] = Unit {0}
Distinct (o ∷ os) = AllByRecursion (λ p. o.head.id ≢ p.head.id) os × Distinct os

tail_fault : (d : Device) (a b : Bool) (o : Option Subspace) → structure_fault d (a || b) o ≡ None → structure_fault d b o ≡ None
tail_fault d true b None h = absurd cc
tail_fault d true b (Some u) h = absurd cc
tail_fault d false b o h = h

not_twice : (d : Device) (a b : Bool) (o : Option Subspace) → structure_fault d (a || b) o ≡ None → a ≡ false
not_twice d true b None h = absurd cc
not_twice d true b (Some u) h = absurd cc
not_twice d false b o h = refl

pub open_rest : (t : Table) (o : OpenLine) (os : List OpenLine) → AllOpen t (o ∷ os) (length (o ∷ os)) → AllOpen t os (length os)
open_rest t o os h i p lt at = tail_fault p.device (o.id == p.id) (opens_id p.id (take i os)) (slice_get t.subspaces p.id) (h (suc i) p (omega (arith, lt)) at)

pub once : (t : Table) (o : OpenLine) (os : List OpenLine) → AllOpen t (o ∷ os) (length (o ∷ os)) → (i : ℕ) (p : OpenLine) → slice_get os i ≡ Some p → o.id ≢ p.id
once t o os h i p at =
    let lt : i < length os = slice_get_within os i p at in
    eqb-false o.id p.id (not_twice p.device (o.id == p.id) (opens_id p.id (take i os)) (slice_get t.subspaces p.id) (h (suc i) p (omega (arith, lt)) at))

others : (t : Table) (id : ℕ) (lines : List OpenLine) → AllByRecursion (λ p. id ≢ p.id) lines → AllByRecursion (λ x. id ≢ x.head.id) (opened_by t lines)
others t id [] h = tt
others t id (p ∷ ps) h = with_structure (slice_get t.subspaces p.id) (others t id ps h.1)
  where
    with_structure : (m : Option Subspace) → AllByRecursion (λ x. id ≢ x.head.id) (opened_by t ps) → AllByRecursion (λ x. id ≢ x.head.id) (opened_with p.device p.id t.flags m ++ opened_by t ps)
    with_structure None rest = rest
    with_structure (Some u) rest = (h.0, rest)

pub distinct : (t : Table) (lines : List OpenLine) → AllOpen t lines (length lines) → Distinct (opened_by t lines)
distinct t [] h = tt
distinct t (p ∷ ps) h = with_structure (slice_get t.subspaces p.id) (distinct t ps (open_rest t p ps h))
  where
    with_structure : (m : Option Subspace) → Distinct (opened_by t ps) → Distinct (opened_with p.device p.id t.flags m ++ opened_by t ps)
    with_structure None rest = rest
    with_structure (Some u) rest = (others t p.id ps (all_from (λ q. p.id ≢ q.id) ps (once t p ps h)), rest)

-- an ID has one controller
pub found_in : (P : Opened → Type 0) (id : ℕ) (os : List Opened) (x : Opened) → AllByRecursion P os → controller_on id os ≡ Some x → P x × (controls id x ≡ true)
found_in P id [] x h e = absurd (nothing x e)
found_in P id (y ∷ os) x h e = by_test (controls id y) refl e (found_in P id os x h.1)
  where
    by_test : (b : Bool) → controls id y ≡ b → cond b (Some y) (controller_on id os) ≡ Some x → (controller_on id os ≡ Some x → P x × (controls id x ≡ true))
        → P x × (controls id x ≡ true)
    by_test true is e later = let same : y ≡ x = some_same y x e in (subst P same h.0, subst (λ (z : Opened). controls id z ≡ true) same is)
    by_test false is e later = later e

pub named_by : (id : ℕ) (o : Opened) → controls id o ≡ true → o.head.id ≡ id
named_by id o h = eqb-true o.head.id id (and_parts o.head.cppc (o.head.id == id) h).1

pub one_controller : (os : List Opened) (i : ℕ) (o x : Opened) → Distinct os → slice_get os i ≡ Some o → controller_on o.head.id os ≡ Some x → o ≡ x
one_controller [] i o x d at e = absurd (nothing o at)
one_controller (y ∷ os) zero o x d at e = by_test (controls o.head.id y) refl e
  where
    same : y ≡ o
    same = some_same y o at

    by_test : (b : Bool) → controls o.head.id y ≡ b → cond b (Some y) (controller_on o.head.id os) ≡ Some x → o ≡ x
    by_test true is e = sym same ∙ some_same y x e
    by_test false is e =
        let p = found_in (λ z. y.head.id ≢ z.head.id) o.head.id os x d.0 e in
        absurd (p.0 (ap (λ (z : Opened). z.head.id) same ∙ sym (named_by o.head.id x p.1)))
one_controller (y ∷ os) (suc i) o x d at e = by_test (controls o.head.id y) refl e (one_controller os i o x d.1 at)
  where
    by_test : (b : Bool) → controls o.head.id y ≡ b → cond b (Some y) (controller_on o.head.id os) ≡ Some x → (controller_on o.head.id os ≡ Some x → o ≡ x) → o ≡ x
    by_test true is e later = absurd (all_at (λ z. y.head.id ≢ z.head.id) os i o d.0 at (named_by o.head.id y is))
    by_test false is e later = later e

-- ---- a bound processor

-- it is right and lies in its controller's communication space
pub record IsGood (os : List Opened) (b : Binding) : Type 0 where
  pub controller : Opened
  pub is : controller_on b.subspace os ≡ Some controller
  pub right : IsRight b
  pub inside : LiesIn controller.wiring.room b

channel_access : (m : Option Gas) (id : ℕ) → channel_of m ≡ Some id → (gas : Gas) × (m ≡ Some gas) × (gas.access ≡ id)
channel_access None id e = absurd (nothing id e)
channel_access (Some gas) id e = by_space (gas.space == 0x0a) e
  where
    by_space : (b : Bool) → cond b (Some gas.access) None ≡ Some id → (g : Gas) × (Some gas ≡ Some g) × (g.access ≡ id)
    by_space true e = (gas, refl, some_same gas.access id e)
    by_space false e = absurd (nothing id e)

named_at : (n : ℕ) (entries : List Entry) (id : ℕ) → first_from (λ k e. channel_of (gas_of e)) n entries ≡ Some id
    → (k : ℕ) × (channel_of (gas_of (entry_at entries k)) ≡ Some id)
named_at n [] id h = absurd (nothing id h)
named_at n (e ∷ es) id h = by_value (channel_of (gas_of e)) refl h (named_at (n + 1) es id)
  where
    by_value : (o : Option ℕ) → channel_of (gas_of e) ≡ o → or_else o (first_from (λ k x. channel_of (gas_of x)) (n + 1) es) ≡ Some id
        → (first_from (λ k x. channel_of (gas_of x)) (n + 1) es ≡ Some id → (k : ℕ) × (channel_of (gas_of (entry_at es k)) ≡ Some id))
        → (k : ℕ) × (channel_of (gas_of (entry_at (e ∷ es) k)) ≡ Some id)
    by_value None is h later = let found = later h in (suc found.0, found.1)
    by_value (Some x) is h later = (zero, is ∙ h)

is_named : (entries : List Entry) (b : Binding) (id : ℕ) → IsBinding entries b → named_subspace entries ≡ Some id → b.subspace ≡ id
unfolding named_subspace
is_named entries b id h named =
    let at = named_at 0 entries id named in
    let gas = channel_access (gas_of (entry_at entries at.0)) id at.1 in
    h.subspace at.0 gas.0 gas.1 ∙ gas.2

-- the controller that entries without a fault name
record Named (os : List Opened) (entries : List Entry) : Type 0 where
  id : ℕ
  controller : Opened
  named : named_subspace entries ≡ Some id
  is : controller_on id os ≡ Some controller
  fits : bind_fault entries controller.wiring.room ≡ None

unfit_none : (o : Option BindFault) → unfit o ≡ None → o ≡ None
unfit_none None e = refl
unfit_none (Some f) e = absurd cc

named_in : (os : List Opened) (entries : List Entry) (m : Option ℕ) → named_subspace entries ≡ m → fault_on entries (controller_named os m) ≡ None → Named os entries
named_in os entries None e h = absurd cc
named_in os entries (Some id) e h = by_controller (controller_on id os) refl h
  where
    by_controller : (o : Option Opened) → controller_on id os ≡ o → fault_on entries o ≡ None → Named os entries
    by_controller None is h = absurd cc
    by_controller (Some o) is h = record { id = id; controller = o; named = e; is = is; fits = unfit_none (bind_fault entries o.wiring.room) h }

pub is_good : (os : List Opened) (bytes : List ℕ) (b : Binding) → Binds os bytes b → IsGood os b
is_good os bytes b h =
    let entries : List Entry = entries_of h.cpc in
    let n : Named os entries = named_in os entries (named_subspace entries) refl h.fits in
    let bound : IsBinding entries (binding_of entries) = is_binding h.cpc n.controller.wiring.room h.spelled.right n.fits in
    let here : IsBinding entries b = subst (IsBinding entries) (sym h.binding_is) bound in
    let named : b.subspace ≡ n.id = is_named entries b n.id here n.named in
    record {
      controller = n.controller;
      is = ap (λ (id : ℕ). controller_on id os) named ∙ n.is;
      right = is_right h.cpc n.controller.wiring.room b h.spelled.right n.fits here;
      inside = lies_in entries n.controller.wiring.room b n.fits here;
    }

pub all_good : (os : List Opened) (lines : List (List ℕ)) (cpus : List Binding) → AllZip (Binds os) lines cpus → AllByRecursion (IsGood os) cpus
all_good os [] [] h = tt
all_good os [] (b ∷ cpus) h = absurd h
all_good os (l ∷ lines) [] h = absurd h
all_good os (l ∷ lines) (b ∷ cpus) h = (is_good os l b h.0, all_good os lines cpus h.1)

abbrev HasShortImage : Opened → Type 0
HasShortImage o = leb (length o.image) o.wiring.room ≡ true

-- its registers can be looked at when it starts
starting : (os : List Opened) (b : Binding) → AllByRecursion HasShortImage os → IsGood os b → IsStarting os b
starting os b short h =
    let test : leb (length h.controller.image) h.controller.wiring.room ≡ true = (found_in HasShortImage b.subspace os h.controller short h.is).0 in
    if_some (CanLook b) (controller_on b.subspace os) h.controller h.is
    (record { fits = λ n. can_read b h.controller.wiring.room n h.right h.inside; short = leb-true (length h.controller.image) h.controller.wiring.room test })

all_starting : (os : List Opened) (lines : List (List ℕ)) (cpus : List Binding) → AllByRecursion HasShortImage os → AreBound os lines cpus → AllByRecursion (IsStarting os) cpus
all_starting os lines cpus short h = more cpus (all_good os lines cpus h.each)
  where
    more : (bs : List Binding) → AllByRecursion (IsGood os) bs → AllByRecursion (IsStarting os) bs
    more [] k = tt
    more (b ∷ bs) k = (starting os b short k.0, more bs k.1)

-- ---- the processors of one opened subspace

-- a good processor that starts in its range
record Starts (os : List Opened) (b : Binding) : Type 0 where
  good : IsGood os b
  inside : StartsInside os b

all_start : (os : List Opened) (cpus : List Binding) → AllByRecursion (IsGood os) cpus → StartInside os cpus (length cpus) → AllByRecursion (Starts os) cpus
all_start os [] good inside = tt
all_start os (b ∷ cpus) good inside = (
  record { good = good.0; inside = inside zero b (omega arith) refl },
  all_start os cpus good.1 (λ i c lt at. inside (suc i) c (omega (arith, lt)) at),
)

-- what the processors with its ID are to an opened subspace
record Own (o : Opened) (b : Binding) : Type 0 where
  named : b.subspace ≡ o.head.id
  right : IsRight b
  inside : LiesIn o.wiring.room b
  range : InRange b (registers_of o)

own : (os : List Opened) (i : ℕ) (o : Opened) (b : Binding) → Distinct os → slice_get os i ≡ Some o → (b.subspace == o.head.id) ≡ true → Starts os b → Own o b
own os i o b d at test h =
    let named : b.subspace ≡ o.head.id = eqb-true b.subspace o.head.id test in
    let is : controller_on o.head.id os ≡ Some h.good.controller = ap (λ (id : ℕ). controller_on id os) (sym named) ∙ h.good.is in
    let same : h.good.controller ≡ o = sym (one_controller os i o h.good.controller d at is) in
    record {
      named = named;
      right = h.good.right;
      inside = subst (λ (x : Opened). LiesIn x.wiring.room b) same h.good.inside;
      range = subst (λ (x : Opened). InRange b (registers_of x)) same
          (of_some (λ x. InRange b (registers_of x)) (controller_on b.subspace os) h.good.controller h.good.is h.inside);
    }

all_own : (os : List Opened) (cpus : List Binding) (i : ℕ) (o : Opened) → Distinct os → slice_get os i ≡ Some o → AllByRecursion (Starts os) cpus
    → AllByRecursion (Own o) (cpus_on o.head.id cpus)
all_own os cpus i o d at h = all_kept (Own o) (Starts os) (λ b. b.subspace == o.head.id) cpus (λ b test s. own os i o b d at test s) h

parts : {A : Type 0} (P Q : A → Type 0) (xs : List A) → ((x : A) → P x → Q x) → AllByRecursion P xs → AllByRecursion Q xs
parts P Q [] f h = tt
parts P Q (x ∷ xs) f h = (f x h.0, parts P Q xs f h.1)

-- ---- the image

no_image_fault : (d : Device) (s : Subspace) (o : Option WiringFault) → wired_fault d s o ≡ None → image_fault d s ≡ None
no_image_fault d s None e = e
no_image_fault d s (Some f) e = absurd cc

kept_true : (b : Bool) (f : OpenFault) → cond b None (Some f) ≡ None → b ≡ true
kept_true true f e = refl
kept_true false f e = absurd cc

short_images : (t : Table) (lines : List OpenLine) → AllOpen t lines (length lines) → AllByRecursion HasShortImage (opened_by t lines)
short_images t [] h = tt
short_images t (p ∷ ps) h = with_structure (slice_get t.subspaces p.id) (h zero p (omega arith) refl) (short_images t ps (open_rest t p ps h))
  where
    with_structure : (m : Option Subspace) → structure_fault p.device false m ≡ None → AllByRecursion HasShortImage (opened_by t ps)
        → AllByRecursion HasShortImage (opened_with p.device p.id t.flags m ++ opened_by t ps)
    with_structure None e rest = rest
    with_structure (Some u) e rest = (
      kept_true (leb (length (image_of p.device)) (room_of (kind_of u) (memory_len_of u))) ImageLong
          (no_image_fault p.device u (fault_of (asks_on p.device (kind_of u)) u) e),
      rest,
    )

-- the processors can be looked at when they start
pub all_look : (t : Table) (opens : List OpenLine) (os : List Opened) (lines : List (List ℕ)) (cpus : List Binding) → AllOpen t opens (length opens) → os ≡ opened_by t opens
    → AreBound os lines cpus → AllByRecursion (IsStarting os) cpus
all_look t opens os lines cpus opened is h =
    all_starting os lines cpus (subst (AllByRecursion HasShortImage) (sym is) (short_images t opens opened)) h

-- ---- the caps

-- each cap is elsewhere or begins after the earlier ones
abbrev Ranked : List CapLine → Type 0
Ranked [] = Unit {0}
Ranked (c ∷ cs) = AllByRecursion (λ d. is_elsewhere d c ≡ true) cs × Ranked cs

ranked_by : (cs : List CapLine) → ((i : ℕ) (d : CapLine) → slice_get cs i ≡ Some d → list_all (is_elsewhere d) (take i cs) ≡ true) → Ranked cs
ranked_by [] h = tt
ranked_by (c ∷ cs) h = (
  all_from (λ d. is_elsewhere d c ≡ true) cs (λ i d at. (and_parts (is_elsewhere d c) (list_all (is_elsewhere d) (take i cs)) (h (suc i) d at)).0),
  ranked_by cs (λ i d at. (and_parts (is_elsewhere d c) (list_all (is_elsewhere d) (take i cs)) (h (suc i) d at)).1),
)

caps_ranked : (os : List Opened) (caps : List CapLine) → AreCapsRight os caps (length caps) → Ranked caps
caps_ranked os caps h = ranked_by caps (λ i d at.
    (and_parts (list_any (controls d.id) os) (list_all (is_elsewhere d) (take i caps)) (h i d (slice_get_within caps i d at) at)).1)

-- a cap with this ID begins later
abbrev BeginsAfter : ℕ → ℕ → CapLine → Type 0
BeginsAfter id count d = (d.id == id) ≡ true → count < d.count

later_by : (id : ℕ) (c d : CapLine) → (c.id == id) ≡ true → is_elsewhere d c ≡ true → BeginsAfter id c.count d
later_by id c d here elsewhere there =
    let same : c.id ≡ d.id = eqb-true c.id id here ∙ sym (eqb-true d.id id there) in
    let test : (c.id == d.id) ≡ true = ap (λ (n : ℕ). n == d.id) same ∙ itself d.id in
    ltb-true c.count d.count (second (c.id == d.id) (ltb c.count d.count) test elsewhere)
  where
    itself : (n : ℕ) → (n == n) ≡ true
    itself n = grind arith

    second : (a b : Bool) → a ≡ true → (not a || b) ≡ true → b ≡ true
    second true b e h = h
    second false b e h = absurd cc

rises : (id last n : ℕ) (cs : List CapLine) → AllByRecursion (BeginsAfter id last) cs → Ranked cs → order_after last n (caps_on id cs) ≡ None
rises id last n [] after ranked = refl
rises id last n (d ∷ ds) after ranked =
    let own : List CapLine = filter (λ c. c.id == id) ds in
    cond_both (d.id == id) (d ∷ own) own (λ kept. order_after last n (map cap_of kept) ≡ None)
    (λ e.
    let more : ltb last d.count ≡ true = lt-ltb last d.count (after.0 e) in
    ap (λ (b : Bool). cond b (order_after d.count (n + 1) (caps_on id ds)) (Some n)) more
    ∙ rises id d.count (n + 1) ds (parts (λ x. is_elsewhere x d ≡ true) (BeginsAfter id d.count) ds (λ x h. later_by id d x e h) ranked.0) ranked.1)
    (λ e. rises id last n ds after.1 ranked.1)

no_order_fault : (id : ℕ) (cs : List CapLine) → Ranked cs → cap_order (caps_on id cs) ≡ None
no_order_fault id [] ranked = refl
no_order_fault id (d ∷ ds) ranked =
    let own : List CapLine = filter (λ c. c.id == id) ds in
    cond_both (d.id == id) (d ∷ own) own (λ kept. cap_order (map cap_of kept) ≡ None)
    (λ e. rises id d.count 1 ds (parts (λ x. is_elsewhere x d ≡ true) (BeginsAfter id d.count) ds (λ x h. later_by id d x e h) ranked.0) ranked.1)
    (λ e. no_order_fault id ds ranked.1)

no_device_fault : (o : Opened) (caps : List CapLine) → HasShortImage o → Ranked caps → device_fault o.wiring.room o.image (caps_on o.head.id caps) ≡ None
no_device_fault o caps short ranked =
    ap (λ (b : Bool). cond b (order_fault (cap_order (caps_on o.head.id caps))) (Some (too_long o))) short ∙ ap order_fault (no_order_fault o.head.id caps ranked)
  where
    too_long : Opened → DeviceFault
    too_long x = ImageTooLong (length x.image)

-- ---- all of them

can_begin : (os : List Opened) (cpus : List Binding) (caps : List CapLine) (i : ℕ) (o : Opened) → Distinct os → slice_get os i ≡ Some o → AllByRecursion (Starts os) cpus
    → AllPairs (λ a b. ShareBit a b → ⊥) cpus → HasShortImage o → Ranked caps → CanBegin (equipped cpus caps o)
can_begin os cpus caps i o d at starts apart short ranked =
    let id : ℕ = o.head.id in
    let all : AllByRecursion (Own o) (cpus_on id cpus) = all_own os cpus i o d at starts in
    let named : All (λ b. b.subspace ≡ id) (cpus_on id cpus) =
    All-from_recursion (λ b. b.subspace ≡ id) (cpus_on id cpus) (parts (Own o) (λ b. b.subspace ≡ id) (cpus_on id cpus) (λ b h. h.named) all) in
    record {
      processors = record {
        right = All-from_recursion IsRight (cpus_on id cpus) (parts (Own o) IsRight (cpus_on id cpus) (λ b h. h.right) all);
        inside = All-from_recursion (LiesIn o.wiring.room) (cpus_on id cpus) (parts (Own o) (LiesIn o.wiring.room) (cpus_on id cpus) (λ b h. h.inside) all);
        subspace = λ m n b lt within. named m b (omega (arith, lt, within)) ∙ sym (named n b within);
        apart = AllPairs-filter (λ a b. ShareBit a b → ⊥) (λ b. b.subspace == id) cpus apart;
      };
      inside = All-from_recursion (λ b. InRange b (registers_of o)) (cpus_on id cpus)
          (parts (Own o) (λ b. InRange b (registers_of o)) (cpus_on id cpus) (λ b h. h.range) all);
      right = no_device_fault o caps short ranked;
    }

mapped : {A B : Type 0} (f : A → B) (P : B → Type 0) (xs : List A) → ((i : ℕ) (x : A) → slice_get xs i ≡ Some x → P (f x)) → AllByRecursion P (map f xs)
mapped f P [] h = tt
mapped f P (x ∷ xs) h = (h zero x refl, mapped f P xs (λ i y at. h (suc i) y at))

pub controllers_begin : (s : Scenario) (opened : List Opened) → Opens s opened → AllByRecursion CanBegin opened
controllers_begin s opened h =
    let os : List Opened = opened_by h.table s.opens in
    let c : IsSetUp s h.table = h.checked in
    let starts : AllByRecursion (Starts os) c.cpus = all_start os c.cpus (all_good os s.cpus c.cpus c.bound.each) c.inside in
    let short : AllByRecursion HasShortImage os = short_images h.table s.opens c.all_open in
    subst (AllByRecursion CanBegin) (sym h.list_is) (mapped (equipped c.cpus s.caps) CanBegin os (λ i o at.
    can_begin os c.cpus s.caps i o (distinct h.table s.opens c.all_open) at starts c.bound.apart (all_at HasShortImage os i o short at) (caps_ranked os s.caps c.capped)))

-- ---- few caps

kept_few : {A : Type 0} (test : A → Bool) (xs : List A) → length (filter test xs) ≤ length xs
kept_few test [] = omega arith
kept_few test (x ∷ xs) =
    let le = kept_few test xs in
    cond_both (test x) (x ∷ filter test xs) (filter test xs) (λ kept. length kept ≤ suc (length xs)) (λ e. omega (arith, le)) (λ e. omega (arith, le))

pub few_caps : (s : Scenario) (opened : List Opened) → Opens s opened → AllByRecursion (λ o. length o.caps ≤ length s.caps) opened
few_caps s opened h = subst (AllByRecursion (λ o. length o.caps ≤ length s.caps)) (sym h.list_is)
    (mapped (equipped h.checked.cpus s.caps) (λ o. length o.caps ≤ length s.caps) (opened_by h.table s.opens) (λ i o at.
    let le = kept_few (λ c. c.id == o.head.id) s.caps in
    let n = length-map (filter (λ c. c.id == o.head.id) s.caps) cap_of in
    omega (arith, le, n)))
