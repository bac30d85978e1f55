-- What a script opens: its channels, their IDs and its lines.
use Rattle.std.proofs.Common.{◌≡◌, ℕ, zero, suc, ◌<◌, ◌≤◌, ◌^◌, ◌==◌, ◌&&◌, ◌||◌, Bool, true, false, cond, List, [], ◌∷◌, ◌++◌, length, map, refl, sym, ap, ◌∙◌, subst, arith}
use Rattle.std.specs.Prelude.{Option, Some, None, nat_lt, slice_get}
use Rattle.std.specs.List.{AllByRecursion, flat_map, list_any}
use Rattle.pcct_table.specs.declared.subspace.Subspace.{Subspace}
use Rattle.pcct_table.specs.Subspaces.{kind_of}
use Rattle.pcct_table.specs.declared.table.Table.{Table}
use Rattle.pcc_script.specs.declared.scenario.Line.{Line}
use Rattle.pcc_script.specs.declared.scenario.Line.TheVariants as line
use Rattle.pcc_script.specs.declared.scenario.Device.{Device}
use Rattle.pcc_script.specs.declared.scenario.OpenLine.{OpenLine}
use Rattle.pcc_script.specs.declared.scenario.Scenario.{Scenario}
use Rattle.pcc_script.specs.Limits.{IsAction, IsWithin}
use Rattle.pcc_setup.specs.declared.action.ActionFault.TheVariants.{NoCpu, NotBank}
use Rattle.pcc_setup.specs.declared.opening.Opened.{Opened}
use Rattle.cpc_package.specs.declared.binding.Binding.{Binding}
use Rattle.pcc_script.specs.declared.scenario.CapLine.{CapLine}
use Rattle.pcc_setup.specs.Equipment.{CanBegin, equipped}
use Rattle.pcc_setup.specs.Openings.{AllOpen, asks_on, head_of, image_of, opened_by, structure_fault, wired_fault}
use Rattle.pcc_setup.specs.SetUps.{IsSetUpOf, Opens, action_fault, first_action, is_bank, opens_bank}
use Rattle.pcc_setup.specs.declared.setup.SetUp.{SetUp}
use Rattle.cpc_package.specs.Bindings as bindings
use Rattle.cpc_package.specs.Bindings.{LiesIn}
use Rattle.std.proofs.lemmas.Bool.Decides.{nat_tests}
use Rattle.pcc_steps.specs.Wires.{IsRight}
use Rattle.pcc_wiring.specs.declared.fault.Asks.{Asks}
use Rattle.pcc_wiring.specs.declared.fault.WiringFault.{WiringFault}
use Rattle.pcc_wiring.specs.Faults.{fault_of}
use Rattle.pcc_wiring.specs.Wirings.{wiring_with}
use Rattle.channel_turns.specs.ChannelRuns.{Call, Channel, ChannelStart, call_by}
use Rattle.script_run.specs.Channels.{CanAsk, CanRun, IsWired, Suits, ids_of, is_on, starts_of}
use Rattle.script_run.specs.ReplyText.{replies_text}
use Rattle.script_run.specs.ScriptRuns.{IsStepText, asks_of, channel_journal, run_text, set_up_of, step_text}
use Rattle.script_run.specs.StepRun.{Ask, LineAsk, OfCall, OfRead, OfWish, ask_of, ask_of_cpu, asks_by, step_run, wish_of}
use Rattle.pcc_setup.proofs.Controllers.{open_rest}
use Rattle.script_run.proofs.Starting.{FitsOn, cpu_fits, cpu_on, cpus_count, ids_are, set_up_headlines, there_at}

-- ---- the lines of a script

-- an ID that some line opens as a Bank is one of them
bank_among : (id : ℕ) (opens : List OpenLine) → opens_bank id opens ≡ true → list_any (λ x. x == id) (map (λ o. o.id) opens) ≡ true
bank_among id [] h = h
bank_among id (o ∷ os) h = go (o.id == id) (is_bank o.device) (opens_bank id os) h (bank_among id os)
  where
    go : (a b c : Bool) → ((a && b) || c) ≡ true → (c ≡ true → list_any (λ x. x == id) (map (λ (p : OpenLine). p.id) os) ≡ true) → (a || list_any (λ x. x == id) (map (λ (p : OpenLine). p.id) os)) ≡ true
    go true b c e f = refl
    go false b c e f = f e

bank_of : (b : Bool) → cond b None (Some NotBank) ≡ None → b ≡ true
bank_of true e = refl
bank_of false e = absurd cc

-- among the starts as among the IDs
on_as_ids : (id : ℕ) (cs : List Channel) → is_on id (starts_of cs) ≡ list_any (λ x. x == id) (ids_of cs)
on_as_ids id [] = refl
on_as_ids id (c ∷ cs) = ap (λ (b : Bool). (c.start.head.id == id) || b) (on_as_ids id cs)

-- a call asks nothing of a processor
calls_suit : (id : ℕ) (call : Call) (starts : List ChannelStart) → AllByRecursion (λ s. s.head.id ≡ id → Suits s.head.room (OfCall call)) starts
calls_suit id call [] = tt
calls_suit id call (s ∷ ss) = (λ e. tt, calls_suit id call ss)

no_cpu : (b : Bool) → cond b None (Some NoCpu) ≡ None → b ≡ true
no_cpu true e = refl
no_cpu false e = absurd (cc e)

-- what opened subspaces must have for a run
pub record CanStart (s : Scenario) (u : SetUp) : Type 0 where
  pub set_up : IsSetUpOf s u
  pub begins : AllByRecursion CanBegin u.opened
  pub wired : AllByRecursion IsWired u.opened

-- a processor that has a line is asked on its channel
asks_cpu : (s : Scenario) (u : SetUp) (k : CanStart s u) (h : Opens s u.opened) (cpu : ℕ) (f : Binding → Ask) → ((room : ℕ) (b : Binding) → bindings.IsRight b × LiesIn room b → Suits room (f b))
    → nat_lt cpu (length s.cpus) ≡ true → CanAsk (starts_of (set_up_of s u.opened)) (ask_of_cpu (slice_get h.checked.cpus cpu) f)
asks_cpu s u k h cpu f suits t =
    let few : cpu < length s.cpus = grind (arith, nat_tests) in
    let count : length s.cpus ≡ length h.checked.cpus = cpus_count s u.opened h in
    let there : (b : Binding) × (slice_get h.checked.cpus cpu ≡ Some b) = there_at h.checked.cpus cpu (omega (arith, few, count)) in
    rw there.1 (cpu_on s u h k.set_up cpu there.0 there.1, all_suit there.0 (starts_of (set_up_of s u.opened)) (cpu_fits s u.opened h k.begins k.wired cpu there.0 there.1))
  where
    all_suit : (b : Binding) (starts : List ChannelStart) → AllByRecursion (FitsOn b) starts → AllByRecursion (λ st. st.head.id ≡ b.subspace → Suits st.head.room (f b)) starts
    all_suit b [] h = tt
    all_suit b (st ∷ sts) h = (λ e. suits st.head.room b (h.0 e), all_suit b sts h.1)

named : (s : Scenario) (u : SetUp) (k : CanStart s u) (h : Opens s u.opened) (l : Line) → action_fault s l ≡ None → CanAsk (starts_of (set_up_of s u.opened)) (ask_of h.checked.cpus l)
named s u k h (line.Call worker subspace code bytes polls hold) e =
    let cs : List Channel = set_up_of s u.opened in (
      on_as_ids subspace cs ∙ ap (list_any (λ x. x == subspace)) (ids_are s u.opened h) ∙ bank_among subspace s.opens (bank_of (opens_bank subspace s.opens) e),
      calls_suit subspace (call_by worker code bytes polls hold) (starts_of cs),
    )
named s u k h (line.Read worker cpu polls hold) e = asks_cpu s u k h cpu (λ b. OfRead (record { caller = worker; binding = b; polls = polls; hold = hold })) (λ room b fit. fit) (no_cpu (nat_lt cpu (length s.cpus)) e)
named s u k h (line.Set worker wish polls hold) e = asks_cpu s u k h wish.cpu (λ b. OfWish (record { caller = worker; binding = b; wish = wish_of wish; polls = polls; hold = hold })) (λ room b fit. fit) (no_cpu (nat_lt wish.cpu (length s.cpus)) e)
named s u k h (line.Wait n) e = tt

each_line : (P : Line → Type 0) (ls : List Line) → ((i : ℕ) (l : Line) → i < length ls → slice_get ls i ≡ Some l → P l) → AllByRecursion P ls
each_line P [] h = tt
each_line P (l ∷ ls) h = (h zero l (omega arith) refl, each_line P ls (λ i x lt e. h (suc i) x (omega (arith, lt)) e))

can_run : (s : Scenario) (u : SetUp) (k : CanStart s u) (h : Opens s u.opened) (ls : List Line) → AllByRecursion IsAction ls → AllByRecursion (λ l. action_fault s l ≡ None) ls
    → AllByRecursion (CanRun h.checked.cpus (starts_of (set_up_of s u.opened))) ls
can_run s u k h [] within right = tt
can_run s u k h (l ∷ ls) within right = (record { within = within.0; asks = named s u k h l right.0 }, can_run s u k h ls within.1 right.1)

-- the channels of a script can run its lines
pub lines_run : (s : Scenario) (u : SetUp) (k : CanStart s u) (h : Opens s u.opened) → IsWithin s → AllByRecursion (CanRun h.checked.cpus (starts_of (set_up_of s u.opened))) s.actions
lines_run s u k h within = can_run s u k h s.actions within.actions (each_line (λ (l : Line). action_fault s l ≡ None) s.actions h.checked.named)

-- what `step` prints for it
text_is : (s : Scenario) (os : List Opened) (cpus : List Binding) (cs after : List Channel) (none put text : List ℕ) (first : ℕ) → Opens s os → cs ≡ set_up_of s os → first ≡ first_action s → none ≡ []
    → put ≡ none ++ replies_text first (step_run (asks_of s cpus) cs).replies → (step_run (asks_of s cpus) cs).channels ≡ after
    → text ≡ put ++ flat_map channel_journal after → IsStepText s os cpus text
unfolding step_text
text_is s os cpus cs after none put text first h opened line empty replies left e =
    let asks : List LineAsk = asks_of s cpus in
    let P : List Channel → Type 0 = λ v. text ≡ run_text first (step_run asks v) in
    let whole : text ≡ run_text first (step_run asks cs) =
    e ∙ ap (λ (v : List ℕ). v ++ flat_map channel_journal after) (replies ∙ ap (λ (v : List ℕ). v ++ replies_text first (step_run asks cs).replies) empty)
    ∙ ap (λ (v : List Channel). replies_text first (step_run asks cs).replies ++ flat_map channel_journal v) (sym left) in
    record {
      text_is = subst P opened whole ∙ ap (λ (n : ℕ). run_text n (step_run asks (set_up_of s os))) line;
      headline = set_up_headlines s os cpus h;
    }

-- the same, by the processors that the run was given
pub text_of : (s : Scenario) (os : List Opened) (given cpus : List Binding) (cs after : List Channel) (none put text : List ℕ) (first : ℕ) → Opens s os → given ≡ cpus → cs ≡ set_up_of s os
    → first ≡ first_action s → none ≡ []
    → put ≡ none ++ replies_text first (step_run (asks_by given s.actions) cs).replies → (step_run (asks_by given s.actions) cs).channels ≡ after
    → text ≡ put ++ flat_map channel_journal after → IsStepText s os cpus text
text_of s os given cpus cs after none put text first h same opened line empty replies left e =
    subst (λ (bs : List Binding). IsStepText s os bs text) same (text_is s os given cs after none put text first h opened line empty replies left e)

-- ---- wirings

no_wiring_fault : (d : Device) (s : Subspace) (o : Option WiringFault) → wired_fault d s o ≡ None → o ≡ None
no_wiring_fault d s None e = refl
no_wiring_fault d s (Some f) e = absurd cc

-- a structure that a line opens has no fault
pub there : (d : Device) (m : Option Subspace) → structure_fault d false m ≡ None → (u : Subspace) × (m ≡ Some u) × (fault_of (asks_on d (kind_of u)) u ≡ None)
there d None e = absurd cc
there d (Some u) e = (u, refl, no_wiring_fault d u (fault_of (asks_on d (kind_of u)) u) e)

-- both ends can work with what it opens
abbrev AreRight : Type 0
AreRight = (asks : Asks) (id flags : ℕ) (s : Subspace) → fault_of asks s ≡ None → IsRight (wiring_with id flags s)

opened_wired : AreRight → (t : Table) (opens : List OpenLine) → AllOpen t opens (length opens) → AllByRecursion IsWired (opened_by t opens)
opened_wired right t [] h = tt
opened_wired right t (o ∷ os) h =
    let u = there o.device (slice_get t.subspaces o.id) (h zero o (omega arith) refl) in
    let here : IsWired (record { head = head_of o.device o.id u.0; wiring = wiring_with o.id t.flags u.0; image = image_of o.device; cpus = []; caps = [] }) = record {
      right = right (asks_on o.device (kind_of u.0)) o.id t.flags u.0 u.2;
      head = record { id = refl; kind = refl; room = refl; reports = refl };
    } in
    rw u.1 (here, opened_wired right t os (open_rest t o os h))

-- its processors and its caps don't change that
equipped_wired : (cpus : List Binding) (caps : List CapLine) (os : List Opened) → AllByRecursion IsWired os → AllByRecursion IsWired (map (equipped cpus caps) os)
equipped_wired cpus caps [] h = tt
equipped_wired cpus caps (o ∷ os) h = (record { right = h.0.right; head = h.0.head }, equipped_wired cpus caps os h.1)

pub wired : AreRight → (s : Scenario) (os : List Opened) → Opens s os → AllByRecursion IsWired os
wired right s os h =
    subst (AllByRecursion IsWired) (sym h.list_is) (equipped_wired h.checked.cpus s.caps (opened_by h.table s.opens) (opened_wired right h.table s.opens h.checked.all_open))

-- a script has few caps
pub few_caps : (s : Scenario) (os : List Opened) → IsWithin s → AllByRecursion (λ o. length o.caps ≤ length s.caps) os → AllByRecursion (λ o. length o.caps < 2 ^ 32) os
few_caps s [] within h = tt
few_caps s (o ∷ os) within h = let le = h.0 in let most = within.few_caps in (omega (arith, le, most), few_caps s os within h.1)
