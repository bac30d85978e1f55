-- A script that `weave` serves opens one subspace, and has calls alone.
use Rattle.std.proofs.Common.{◌≡◌, ℕ, suc, ◌<◌, ◌==◌, ◌&&◌, not, Bool, true, false, if◌then◌else◌, List, [], ◌∷◌, ◌++◌, length, map, get_or, take, refl, sym, ap, ◌∙◌, subst, arith}
use Rattle.std.specs.Prelude.{Option, Some, None, find, is_none, nat_lt, slice_get}
use Rattle.std.specs.List.{AllByRecursion, AllZip, list_all, list_any}
use Rattle.std.proofs.lemmas.Bool.Decides.{nat_tests}
use Rattle.std.proofs.lemmas.Option.{slice_get_within}
use Rattle.pcct_table.specs.declared.subspace.Subspace.{Subspace}
use Rattle.pcct_table.specs.declared.table.Table.{Table}
use Rattle.pcct_table.specs.Subspaces.{kind_of}
use Rattle.pcc_script.specs.declared.scenario.Line.{Line}
use Rattle.pcc_script.specs.declared.scenario.Line.TheVariants as line
use Rattle.pcc_script.specs.declared.scenario.OpenLine.{OpenLine}
use Rattle.pcc_script.specs.declared.scenario.Scenario.{Scenario}
use Rattle.pcc_setup.specs.declared.opening.Opened.{Opened}
use Rattle.cpc_package.specs.declared.binding.Binding.{Binding}
use Rattle.pcc_setup.specs.Equipment.{equipped}
use Rattle.pcc_setup.specs.Openings.{asks_on, head_of, image_of, line_fault, opened_by, opened_with}
use Rattle.pcc_setup.specs.Processors.{Binds, controller_named, controller_on, controls, entries_fault, fault_on, named_subspace}
use Rattle.pcc_setup.specs.SetUps.{IsSetUp, action_fault, is_bank}
use Rattle.pcc_setup.specs.declared.action.ActionFault.TheVariants.{NoCpu}
use Rattle.cpc_package.specs.Entries.{entries_of}
use Rattle.cpc_package.specs.declared.entry.Entry.{Entry}
use Rattle.pcc_script.specs.declared.scenario.Device.{Device}
use Rattle.pcc_script.specs.declared.scenario.Device.TheVariants.{Bank, Cppc}
use Rattle.pcc_setup.specs.declared.refusal.UseFault.TheVariants as unused
use Rattle.pcc_wiring.specs.declared.fault.Asks.{Asks}
use Rattle.pcc_wiring.specs.Faults.{fault_of}
use Rattle.pcc_wiring.specs.Wirings.{wiring_with}
use Rattle.script_run.proofs.OpenedScripts.{there}
use Rattle.pccrun_core.specs.declared.command.Command.TheVariants as command
use Rattle.pccrun_core.specs.Answers.{Makes}
use Rattle.pccrun_core.specs.Serving.{Serves}
use Rattle.pccrun_core.specs.Uses.{is_wait, weave_fault}
use Rattle.pccrun_core.specs.Weaving.{IsCall, IsOpenedAlone, IsWoven}

-- ---- a script that `weave` serves

record Passes (one banks none waits : Bool) : Type 0 where
  is_one : one ≡ true
  are_banks : banks ≡ true
  has_picks : none ≡ false
  has_no_wait : waits ≡ false

passes : (one banks none waits : Bool) → (if not one then Some unused.Many else if not banks then Some unused.Bank else if none then Some unused.Pick else if waits then Some unused.Wait else None) ≡ None → Passes one banks none waits
passes false banks none waits e = absurd cc
passes true false none waits e = absurd cc
passes true true true waits e = absurd cc
passes true true false true e = absurd cc
passes true true false false e = record { is_one = refl; are_banks = refl; has_picks = refl; has_no_wait = refl }

weave_passes : (s : Scenario) → weave_fault s ≡ None → Passes (length s.opens == 1) (list_all (λ o. is_bank o.device) s.opens) (is_none s.picks) (list_any is_wait s.actions)
weave_passes s e = passes (length s.opens == 1) (list_all (λ o. is_bank o.device) s.opens) (is_none s.picks) (list_any is_wait s.actions) e

one_line : (opens : List OpenLine) → (length opens == 1) ≡ true → (o : OpenLine) × (opens ≡ o ∷ [])
one_line opens e = let n : length opens ≡ 1 = grind (arith, nat_tests) in go opens n
  where
    go : (xs : List OpenLine) → length xs ≡ 1 → (o : OpenLine) × (xs ≡ o ∷ [])
    go [] n = absurd (omega (arith, n))
    go (o ∷ []) n = (o, refl)
    go (o ∷ p ∷ xs) n = absurd (omega (arith, n))

-- one side may ask on a structure, which has no fault then
pub record IsFree (u : Subspace) : Type 0 where
  pub asks : Asks
  pub free : fault_of asks u ≡ None

-- the one subspace that it opens
abbrev pub Alone : Scenario → Table → List Opened → Type 0
Alone s t os = (x : Opened) × (os ≡ x ∷ []) × (h : IsOpenedAlone s t x) × IsFree h.subspace

pub alone : (input : List ℕ) (s : Scenario) (os : List Opened) → (h : Serves command.Weave input s os) → Alone s h.opens.table os
alone input s os h =
    let t : Table = h.opens.table in
    let one : (o : OpenLine) × (s.opens ≡ o ∷ []) = one_line s.opens (weave_passes s h.used).is_one in
    let o : OpenLine = one.0 in
    let at : slice_get s.opens 0 ≡ Some o = ap (λ (v : List OpenLine). slice_get v 0) one.1 in
    let some : 0 < length s.opens = let n : length s.opens ≡ 1 = ap length one.1 in omega (arith, n) in
    let first : line_fault t (take 0 s.opens) o ≡ None = h.opens.checked.all_open 0 o some at in
    let u = there o.device (slice_get t.subspaces o.id) first in
    let cpus : List Binding = h.opens.checked.cpus in
    let bare : Opened = record { head = head_of o.device o.id u.0; wiring = wiring_with o.id t.flags u.0; image = image_of o.device; cpus = []; caps = [] } in
    let x : Opened = equipped cpus s.caps bare in
    let is : os ≡ x ∷ [] =
    h.opens.list_is ∙ ap (λ (v : List OpenLine). map (equipped cpus s.caps) (opened_by t v)) one.1
    ∙ ap (λ (m : Option Subspace). map (equipped cpus s.caps) (opened_with o.device o.id t.flags m ++ [])) u.1 in
    (x, is, record { open_line = o; opens = one.1; subspace = u.0; structure = u.1; head = refl; wiring = refl }, record { asks = asks_on o.device (kind_of u.0); free = u.2 })

-- the first of them
pub alone_at : (input : List ℕ) (s : Scenario) (os : List Opened) (y : Opened) → (h : Serves command.Weave input s os) → y ≡ get_or os 0 y
    → (a : IsOpenedAlone s h.opens.table y) × IsFree a.subspace
alone_at input s os y h is =
    let a = alone input s os h in
    let same : y ≡ a.0 = is ∙ ap (λ (v : List Opened). get_or v 0 y) a.1 in
    subst (λ (z : Opened). (b : IsOpenedAlone s h.opens.table z) × IsFree b.subspace) (sym same) (a.2, a.3)

pub some_opened : (input : List ℕ) (s : Scenario) (os : List Opened) → Serves command.Weave input s os → 0 < length os
some_opened input s os h = let n : length os ≡ 1 = ap length (alone input s os h).1 in omega (arith, n)

-- ---- its lines

-- a Bank is no controller
bank_controls_nothing : (id n flags : ℕ) (d : Device) (m : Option Subspace) (more : List Opened) → is_bank d ≡ true → find (controls id) (opened_with d n flags m ++ more) ≡ find (controls id) more
bank_controls_nothing id n flags d None more bank = refl
bank_controls_nothing id n flags Bank (Some u) more bank = refl
bank_controls_nothing id n flags (Cppc image) (Some u) more bank = absurd cc

-- where Banks alone are opened there is no controller
no_controller : (id : ℕ) (t : Table) (opens : List OpenLine) → list_all (λ o. is_bank o.device) opens ≡ true → controller_on id (opened_by t opens) ≡ None
no_controller id t [] banks = refl
no_controller id t (o ∷ os) banks =
    bank_controls_nothing id o.id t.flags o.device (slice_get t.subspaces o.id) (opened_by t os) (both (is_bank o.device) (list_all (λ p. is_bank p.device) os) banks).0
    ∙ no_controller id t os (both (is_bank o.device) (list_all (λ p. is_bank p.device) os) banks).1
  where
    both : (a b : Bool) → (a && b) ≡ true → (a ≡ true) × (b ≡ true)
    both true b e = (refl, e)
    both false b e = absurd cc

-- so no package is bound there
nothing_fits : (os : List Opened) → ((id : ℕ) → controller_on id os ≡ None) → (entries : List Entry) → entries_fault os entries ≡ None → ⊥
nothing_fits os none entries = go (named_subspace entries)
  where
    go : (named : Option ℕ) → fault_on entries (controller_named os named) ≡ None → ⊥
    go None e = absurd cc
    go (Some id) e = let unopened : fault_on entries None ≡ None = subst (λ (o : Option Opened). fault_on entries o ≡ None) (none id) e in absurd cc

-- and a script that opens Banks alone has no processors
no_cpus : (s : Scenario) (t : Table) → IsSetUp s t → list_all (λ o. is_bank o.device) s.opens ≡ true → s.cpus ≡ []
no_cpus s t h banks = go s.cpus h.cpus h.bound.each
  where
    go : (lines : List (List ℕ)) (cpus : List Binding) → AllZip (Binds (opened_by t s.opens)) lines cpus → lines ≡ []
    go [] cpus each = refl
    go (bytes ∷ lines) [] each = absurd each
    go (bytes ∷ lines) (b ∷ cpus) each = absurd (nothing_fits (opened_by t s.opens) (λ id. no_controller id t s.opens banks) (entries_of each.0.cpc) each.0.fits)

-- no line names one then
unnamed : (cpu : ℕ) (cpus : List (List ℕ)) → cpus ≡ [] → (if nat_lt cpu (length cpus) then None else Some NoCpu) ≡ None → ⊥
unnamed cpu cpus none e =
    let count : length cpus ≡ 0 = ap length none in
    by (nat_lt cpu (length cpus)) (λ t. let few : cpu < length cpus = grind (arith, nat_tests) in omega (arith, few, count)) e
  where
    by : (b : Bool) → (b ≡ true → ⊥) → (if b then None else Some NoCpu) ≡ None → ⊥
    by true never e = never refl
    by false never e = absurd cc

-- a line that is no wait is a call, where there are no processors
calls_named : (s : Scenario) → s.cpus ≡ [] → (ls : List Line) → ((i : ℕ) (l : Line) → slice_get ls i ≡ Some l → action_fault s l ≡ None) → list_any is_wait ls ≡ false → AllByRecursion IsCall ls
calls_named s none [] named waits = tt
calls_named s none (line.Call worker subspace code bytes polls hold ∷ ls) named waits = (tt, calls_named s none ls (λ i l at. named (suc i) l at) waits)
calls_named s none (line.Read worker cpu polls hold ∷ ls) named waits =
    absurd (unnamed cpu s.cpus none (named 0 (line.Read worker cpu polls hold) refl))
calls_named s none (line.Set worker wish polls hold ∷ ls) named waits =
    absurd (unnamed wish.cpu s.cpus none (named 0 (line.Set worker wish polls hold) refl))
calls_named s none (line.Wait n ∷ ls) named waits = absurd cc

-- it has calls alone
pub calls_alone : (input : List ℕ) (s : Scenario) (os : List Opened) → Serves command.Weave input s os → AllByRecursion IsCall s.actions
calls_alone input s os h =
    let p = weave_passes s h.used in
    calls_named s (no_cpus s h.opens.table h.opens.checked p.are_banks) s.actions (λ i l at. h.opens.checked.named i l (slice_get_within s.actions i l at) at) p.has_no_wait

pub is_made : (input : List ℕ) (s : Scenario) (os : List Opened) (y : Opened) (text : List ℕ) → Serves command.Weave input s os → y ≡ get_or os 0 y
    → ((t : Table) → IsOpenedAlone s t y → IsWoven s t text) → Makes command.Weave input text
is_made input s os y text h is woven = (s, os, h, woven h.opens.table (alone_at input s os y h is).0)
