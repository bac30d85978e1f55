-- The journals of the controllers that a script opens keep the ranges of their processors.
use Rattle.std.proofs.Common.{◌≡◌, ◌≢◌, ℕ, zero, suc, ◌<◌, ◌==◌, ◌&&◌, ◌||◌, Bool, true, false, cond, List, [], ◌∷◌, ◌++◌, length, map, refl, sym, ap, ◌∙◌, subst, arith}
use Rattle.std.specs.Prelude.{Contains, Option, Some, None, filter, slice_get}
use Rattle.std.specs.List.{AllByRecursion, AllZip}
use Rattle.std.proofs.lemmas.Bool.{eq-eqb, ne_eqb}
use Rattle.std.proofs.lemmas.List.{length-map}
use Rattle.std.proofs.lemmas.Option.{same_Some}
use Rattle.pcc_bytes.specs.Bytes.{IsBytes}
use Rattle.pcct_table.specs.declared.subspace.Subspace.{Subspace}
use Rattle.pcct_table.specs.declared.table.Table.{Table}
use Rattle.pcc_script.specs.declared.scenario.Device.{Device}
use Rattle.pcc_script.specs.declared.scenario.Device.TheVariants.{Bank, Cppc}
use Rattle.pcc_script.specs.declared.scenario.Line.{Line}
use Rattle.pcc_script.specs.declared.scenario.Line.TheVariants as line
use Rattle.pcc_script.specs.declared.scenario.OpenLine.{OpenLine}
use Rattle.pcc_script.specs.declared.scenario.Scenario.{Scenario}
use Rattle.cpc_package.specs.declared.binding.Binding.{Binding}
use Rattle.cppc_device.specs.Devices.{Cppc as Controller}
use Rattle.cppc_device.specs.Openings.{new_device}
use Rattle.pcc_setup.specs.declared.action.ActionFault.TheVariants.{NotBank}
use Rattle.pcc_setup.specs.declared.opening.Opened.{Opened}
use Rattle.pcc_setup.specs.Equipment.{CanBegin, cpus_on, equipped}
use Rattle.pcc_setup.specs.Openings.{is_cppc, opened_by, opened_with}
use Rattle.pcc_setup.specs.SetUps.{Opens, action_fault, is_bank, opens_bank}
use Rattle.channel_turns.specs.ChannelRuns.{Channel, ChannelStart, ScriptClock}
use Rattle.cppc_headline.specs.PerformanceHeadline.{IsPerformance, KeepsRanges}
use Rattle.cppc_headline.proofs.Openings.{new_is}
use Rattle.script_run.specs.Channels.{AreDistinct, bank_start, fresh_channel, id_of}
use Rattle.script_run.specs.Requests.{AreRanged, HasRanges, IsRequestOf, IsRequestOn, RangesIf}
use Rattle.script_run.specs.ScriptRuns.{asks_of, clock_of, controller_start, run_of, set_up_of, start_of}
use Rattle.script_run.specs.StepRun.{Ask, LineAsk, OfRead, OfWish, Run, ask_of, ask_of_cpu, asks_by, wish_of}
use Rattle.script_run.proofs.Requests.{run_ranges}
use Rattle.script_run.proofs.Several.{run_length}

-- ---- lists

all_at : {X : Type 0} (P : X → Type 0) (xs : List X) (i : ℕ) (x : X) → AllByRecursion P xs → slice_get xs i ≡ Some x → P x
all_at P [] i x h e = absurd cc
all_at P (y ∷ ys) zero x h e = subst P (same_Some y x e) h.0
all_at P (y ∷ ys) (suc i) x h e = all_at P ys i x h.1 e

all_from : {X : Type 0} (P : X → Type 0) (xs : List X) → ((i : ℕ) (x : X) → i < length xs → slice_get xs i ≡ Some x → P x) → AllByRecursion P xs
all_from P [] h = tt
all_from P (x ∷ xs) h = (h zero x (omega arith) refl, all_from P xs (λ i y lt e. h (suc i) y (omega (arith, lt)) e))

zip_from : {X Y : Type 0} (R : X → Y → Type 0) (xs : List X) (ys : List Y) → length ys ≡ length xs
    → ((i : ℕ) (x : X) (y : Y) → slice_get xs i ≡ Some x → slice_get ys i ≡ Some y → R x y) → AllZip R xs ys
zip_from R [] [] e h = tt
zip_from R [] (y ∷ ys) e h = absurd (omega (arith, e))
zip_from R (x ∷ xs) [] e h = absurd (omega (arith, e))
zip_from R (x ∷ xs) (y ∷ ys) e h = (h zero x y refl refl, zip_from R xs ys (omega (arith, e)) (λ i a b p q. h (suc i) a b p q))

-- an element of a mapped list is that of an element
record Mapped {X Y : Type 0} (f : X → Y) (xs : List X) (i : ℕ) (y : Y) : Type 0 where
  from : X
  at : slice_get xs i ≡ Some from
  is : y ≡ f from

mapped : {X Y : Type 0} (f : X → Y) (xs : List X) (i : ℕ) (y : Y) → slice_get (map f xs) i ≡ Some y → Mapped f xs i y
mapped f [] i y e = absurd cc
mapped {Y = Y} f (x ∷ xs) zero y e = record { from = x; at = refl; is = sym (same_Some (f x) y e) }
mapped f (x ∷ xs) (suc i) y e = let m = mapped f xs i y e in record { from = m.from; at = m.at; is = m.is }

map_at : {X Y : Type 0} (f : X → Y) (xs : List X) (i : ℕ) (x : X) → slice_get xs i ≡ Some x → slice_get (map f xs) i ≡ Some (f x)
map_at f [] i x e = absurd cc
map_at f (y ∷ ys) zero x e = ap (λ z. Some (f z)) (same_Some y x e)
map_at f (y ∷ ys) (suc i) x e = map_at f ys i x e

-- ---- what the lines ask of a controller

-- an element that passes is among those that do
kept_in : (test : Binding → Bool) (xs : List Binding) (k : ℕ) (x : Binding) → slice_get xs k ≡ Some x → test x ≡ true → Contains (filter test xs) x
kept_in test [] k x at e = absurd cc
kept_in test (y ∷ xs) zero x at e =
    let same : y ≡ x = same_Some y x at in
    let is : test y ≡ true = ap test same ∙ e in
    subst (λ (b : Bool). Contains (cond b (y ∷ filter test xs) (filter test xs)) x) (sym is) (0, omega arith, same)
kept_in test (y ∷ xs) (suc k) x at e = by_test (test y) (kept_in test xs k x at e)
  where
    by_test : (b : Bool) → Contains (filter test xs) x → Contains (cond b (y ∷ filter test xs) (filter test xs)) x
    by_test true r = let lt : r.0 < length (filter test xs) = r.1 in (suc r.0, omega (arith, lt), r.2)
    by_test false r = r

cpu_request : (cpus : List Binding) (id k : ℕ) (o : Option Binding) (make : Binding → Ask) → slice_get cpus k ≡ o
    → ((b : Binding) → Contains (cpus_on id cpus) b → IsRequestOf (cpus_on id cpus) (make b)) → IsRequestOn (cpus_on id cpus) id (ask_of_cpu o make)
cpu_request cpus id k None make at each = tt
cpu_request cpus id k (Some b) make at each = λ e. each b (kept_in (λ x. x.subspace == id) cpus k b at (eq-eqb b.subspace id (sym e)))

-- a line is no call on this ID
abbrev NoCallOn : ℕ → Line → Type 0
NoCallOn id (line.Call worker subspace code bytes polls hold) = id ≡ subspace → ⊥
NoCallOn id (line.Read worker cpu polls hold) = Unit {0}
NoCallOn id (line.Set worker wish polls hold) = Unit {0}
NoCallOn id (line.Wait n) = Unit {0}

line_request : (cpus : List Binding) (id : ℕ) (l : Line) → NoCallOn id l → IsRequestOn (cpus_on id cpus) id (ask_of cpus l)
line_request cpus id (line.Call worker subspace code bytes polls hold) none = λ e. absurd (none e)
line_request cpus id (line.Read worker cpu polls hold) none =
    cpu_request cpus id cpu (slice_get cpus cpu) (λ b. OfRead (record { caller = worker; binding = b; polls = polls; hold = hold })) refl (λ b one. one)
line_request cpus id (line.Set worker wish polls hold) none =
    cpu_request cpus id wish.cpu (slice_get cpus wish.cpu) (λ b. OfWish (record { caller = worker; binding = b; wish = wish_of wish; polls = polls; hold = hold })) refl (λ b one. one)
line_request cpus id (line.Wait n) none = tt

lines_request : (cpus : List Binding) (id : ℕ) (ls : List Line) → AllByRecursion (NoCallOn id) ls → AllByRecursion (IsRequestOn (cpus_on id cpus) id) (asks_by cpus ls)
lines_request cpus id [] h = tt
lines_request cpus id (l ∷ ls) h = (line_request cpus id l h.0, lines_request cpus id ls h.1)

-- ---- calls are on Banks

-- what other lines open has another ID
other_id : (t : Table) (n : ℕ) (ps : List OpenLine) → AllByRecursion (λ m. n ≢ m) (map (λ p. p.id) ps) → (i : ℕ) (o : Opened) → slice_get (opened_by t ps) i ≡ Some o → n ≢ o.head.id
other_id t n [] h i o at = absurd cc
other_id t n (p ∷ ps) h i o at = by_structure (slice_get t.subspaces p.id) i at (λ j e. other_id t n ps h.1 j o e)
  where
    by_structure : (m : Option Subspace) (i : ℕ) → slice_get (opened_with p.device p.id t.flags m ++ opened_by t ps) i ≡ Some o
        → ((j : ℕ) → slice_get (opened_by t ps) j ≡ Some o → n ≢ o.head.id) → n ≢ o.head.id
    by_structure None i at later = later i at
    by_structure (Some u) zero at later = subst (λ (x : Opened). n ≢ x.head.id) (same_Some _ o at) h.0
    by_structure (Some u) (suc i) at later = later i at

no_bank_on : (n : ℕ) (ps : List OpenLine) → AllByRecursion (λ m. n ≢ m) (map (λ p. p.id) ps) → opens_bank n ps ≡ true → ⊥
no_bank_on n [] h e = absurd cc
no_bank_on n (p ∷ ps) h e =
    let test : (p.id == n) ≡ false = ne_eqb p.id n (λ same. h.0 (sym same)) in
    no_bank_on n ps h.1 (ap (λ (b : Bool). (b && is_bank p.device) || opens_bank n ps) (sym test) ∙ e)

no_controller : (d : Device) → is_cppc d ≡ true → is_bank d ≡ false
no_controller Bank h = absurd cc
no_controller (Cppc image) h = refl

-- no line opens a Bank on the ID of a controller
no_bank : (t : Table) (lines : List OpenLine) → AreDistinct (map (λ p. p.id) lines) → (i : ℕ) (o : Opened) → slice_get (opened_by t lines) i ≡ Some o → o.head.cppc ≡ true
    → opens_bank o.head.id lines ≡ true → ⊥
no_bank t [] apart i o at c e = absurd cc
no_bank t (p ∷ ps) apart i o at c e = by_structure (slice_get t.subspaces p.id) i at (λ j is.
    let test : (p.id == o.head.id) ≡ false = ne_eqb p.id o.head.id (other_id t p.id ps apart.0 j o is) in
    no_bank t ps apart.1 j o is c (ap (λ (b : Bool). (b && is_bank p.device) || opens_bank o.head.id ps) (sym test) ∙ e))
  where
    by_structure : (m : Option Subspace) (i : ℕ) → slice_get (opened_with p.device p.id t.flags m ++ opened_by t ps) i ≡ Some o
        → ((j : ℕ) → slice_get (opened_by t ps) j ≡ Some o → ⊥) → ⊥
    by_structure None i at later = later i at
    by_structure (Some u) zero at later =
        let same = same_Some _ o at in
        let id : p.id ≡ o.head.id = ap (λ (x : Opened). x.head.id) same in
        let bank : is_bank p.device ≡ false = no_controller p.device (ap (λ (x : Opened). x.head.cppc) same ∙ c) in
        let own : opens_bank p.id (p ∷ ps) ≡ true = ap (λ (n : ℕ). opens_bank n (p ∷ ps)) id ∙ e in
        let test : (p.id == p.id) ≡ true = eq-eqb p.id p.id refl in
        no_bank_on p.id ps apart.0 (ap (λ (b : Bool). (b && false) || opens_bank p.id ps) (sym test) ∙ ap (λ (b : Bool). ((p.id == p.id) && b) || opens_bank p.id ps) (sym bank) ∙ own)
    by_structure (Some u) (suc i) at later = later i at

on_bank : (b : Bool) → cond b None (Some NotBank) ≡ None → b ≡ true
on_bank true h = refl
on_bank false h = absurd cc

no_call : (s : Scenario) (id : ℕ) (l : Line) → (opens_bank id s.opens ≡ true → ⊥) → action_fault s l ≡ None → NoCallOn id l
no_call s id (line.Call worker subspace code bytes polls hold) none right = λ e. none (ap (λ (n : ℕ). opens_bank n s.opens) e ∙ on_bank (opens_bank subspace s.opens) right)
no_call s id (line.Read worker cpu polls hold) none right = tt
no_call s id (line.Set worker wish polls hold) none right = tt
no_call s id (line.Wait n) none right = tt

-- ---- the run

-- nothing but reads and wishes of its own processors is asked of a controller
requests : (s : Scenario) (opened : List Opened) (i : ℕ) (o : Opened) → (h : Opens s opened) → AreDistinct (map (λ p. p.id) s.opens) → slice_get opened i ≡ Some o → o.head.cppc ≡ true
    → AllByRecursion (IsRequestOn o.cpus o.head.id) (asks_of s h.checked.cpus)
requests s opened i o h apart at c =
    let cpus : List Binding = h.checked.cpus in
    let m = mapped (equipped cpus s.caps) (opened_by h.table s.opens) i o (ap (λ (v : List Opened). slice_get v i) (sym h.list_is) ∙ at) in
    let head : o.head.id ≡ m.from.head.id = ap (λ (x : Opened). x.head.id) m.is in
    let cppc : m.from.head.cppc ≡ true = sym (ap (λ (x : Opened). x.head.cppc) m.is) ∙ c in
    let own : o.cpus ≡ cpus_on o.head.id cpus = ap (λ (x : Opened). x.cpus) m.is ∙ ap (λ (n : ℕ). cpus_on n cpus) (sym head) in
    let none : opens_bank o.head.id s.opens ≡ true → ⊥ = λ e. no_bank h.table s.opens apart i m.from m.at cppc (ap (λ (n : ℕ). opens_bank n s.opens) (sym head) ∙ e) in
    let calls : AllByRecursion (NoCallOn o.head.id) s.actions = all_from (NoCallOn o.head.id) s.actions (λ k l lt e. no_call s o.head.id l none (h.checked.named k l lt e)) in
    subst (λ (v : List Binding). AllByRecursion (IsRequestOn v o.head.id) (asks_of s cpus)) (sym own) (lines_request cpus o.head.id s.actions calls)

start_is : (clock : ScriptClock) (o : Opened) → o.head.cppc ≡ true → start_of clock o ≡ controller_start o clock
start_is clock o c = ap (λ (b : Bool). cond b (controller_start o clock) (bank_start o.head clock)) c

begins : (clock : ScriptClock) (o : Opened) → CanBegin o → IsBytes o.image → IsPerformance (controller_start o clock) (new_device o.wiring.room o.image o.cpus o.caps)
begins clock o can bytes = new_is (controller_start o clock) o.wiring.room o.image o.cpus o.caps refl refl refl can.processors can.right bytes can.inside

pub opened_ranges : (s : Scenario) (opened : List Opened) → (h : Opens s opened) → AreDistinct (map (λ p. p.id) s.opens) → AreDistinct (map id_of (set_up_of s opened))
    → AllByRecursion CanBegin opened → AllByRecursion (λ o. IsBytes o.image) opened → AreRanged opened (run_of s opened h.checked.cpus).channels
opened_ranges s opened h lines_apart apart can bytes =
    let clock : ScriptClock = clock_of s in
    let cs : List Channel = set_up_of s opened in
    let ls : List LineAsk = asks_of s h.checked.cpus in
    let r : Run = run_of s opened h.checked.cpus in
    zip_from HasRanges opened r.channels (run_length ls cs ∙ length-map opened (λ (o : Opened). fresh_channel (start_of clock o))) (λ i o c at_o at_c.
    by_device i o c at_o at_c o.head.cppc refl)
  where
    by_device : (i : ℕ) (o : Opened) (c : Channel) → slice_get opened i ≡ Some o → slice_get (run_of s opened h.checked.cpus).channels i ≡ Some c → (b : Bool) → o.head.cppc ≡ b
        → RangesIf b o.cpus c
    by_device i o c at_o at_c false is = tt
    by_device i o c at_o at_c true is =
        let clock : ScriptClock = clock_of s in
        let start : ChannelStart = controller_start o clock in
        let device : Controller = new_device o.wiring.room o.image o.cpus o.caps in
        let at : slice_get (set_up_of s opened) i ≡ Some (fresh_channel start) =
        map_at (λ (x : Opened). fresh_channel (start_of clock x)) opened i o at_o ∙ ap (λ (x : ChannelStart). Some (fresh_channel x)) (start_is clock o is) in
        let left = run_ranges (asks_of s h.checked.cpus) (set_up_of s opened) i start device apart at
        (begins clock o (all_at CanBegin opened i o can at_o) (all_at (λ x. IsBytes x.image) opened i o bytes at_o)) (requests s opened i o h lines_apart at_o is) in
        subst (λ (x : Channel). KeepsRanges o.cpus x.start.opening x.now) (same_Some left.0 c (sym left.1 ∙ at_c)) left.3
