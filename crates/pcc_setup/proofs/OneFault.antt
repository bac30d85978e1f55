-- Each script is set up or refused, by one line.
use Rattle.std.proofs.Common.{◌≡◌, ◌⊎◌, inl, inr, ◌≤◌, ℕ, ◌+◌, Bool, true, false, List, [], ◌∷◌, length, map, take, refl, sym, ap, ◌∙◌, subst, arith}
use Rattle.std.specs.Prelude.{Option, Some, None, IfSome}
use Rattle.std.specs.List.{AllByRecursion}
use Rattle.std.proofs.lemmas.Bool.{cases_lt}
use Rattle.std.proofs.lemmas.Option.{slice_get_within}
use Rattle.pcc_bytes.specs.Bytes.{IsBytes}
use Rattle.pcct_table.specs.declared.table.Table.{Table}
use Rattle.pcct_codec.specs.Tables.{TableBytes}
use Rattle.pcct_codec.proofs.Headers.{one_table}
use Rattle.pcc_script.specs.declared.scenario.CapLine.{CapLine}
use Rattle.pcc_script.specs.declared.scenario.Line.{Line}
use Rattle.pcc_script.specs.declared.scenario.OpenLine.{OpenLine}
use Rattle.pcc_script.specs.declared.scenario.Scenario.{Scenario}
use Rattle.cpc_package.specs.declared.binding.Binding.{Binding}
use Rattle.cppc_device.specs.Ranges.{InRange, Rises, performances}
use Rattle.pcc_wiring.specs.Overlaps.{AreApart}
use Rattle.pcc_wiring.proofs.FirstOverlaps.{apart_or_first, one_overlap}
use Rattle.pcc_setup.specs.declared.action.ActionFault.{ActionFault}
use Rattle.pcc_setup.specs.declared.opening.Opened.{Opened}
use Rattle.pcc_setup.specs.declared.opening.OpenFault.{OpenFault}
use Rattle.pcc_setup.specs.declared.refusal.Refusal.{Refusal}
use Rattle.pcc_setup.specs.declared.refusal.Refusal.TheVariants as refusal
use Rattle.pcc_setup.specs.Openings.{AllOpen, line_fault, memories_by, opened_by}
use Rattle.pcc_setup.specs.Processors.{AreBound, CpuRefused, controller_on}
use Rattle.pcc_setup.specs.Equipment.{AreCapsRight, CapRefused, FirstCap, FirstOutside, StartInside, StartRefused, StartsInside, equipped, is_cap_right, registers_of}
use Rattle.pcc_setup.specs.SetUps.{ActionRefused, AfterCaps, AfterCpus, AfterMemories, AfterOpens, AfterTable, AllNamed, Fails, FirstAction, FirstMeeting, FirstWrong, HasRefusal, HasSetUp, Here, IsSetUp, Later, MeetRefused, OpenRefused, Opens, SetUpRefused, TableRefused, action_fault, first_action}
use Rattle.pcc_setup.proofs.Bound.{bound_kept, bound_or_refused, one_bound, one_cpu_refusal}
use Rattle.pcc_setup.proofs.Chain.{Exact, kept, one_of}
use Rattle.pcc_setup.proofs.FirstFaults.{Decided, Exclusive, FirstFault, SameFault, first_fault, one_first, some_none, some_same}
use Rattle.pcc_setup.proofs.Refused.{table_kept}
use Rattle.pcc_setup.proofs.WholeTables.{one_table_refusal, whole_or_refused}

unit_same : (x y : Unit {0}) → x ≡ y
unit_same x y = refl

-- ---- tests that give a fault or none

abbrev Passed : {X F : Type 0} → (ℕ → X → Option F) → ℕ → X → Type 0
Passed test i x = test i x ≡ None

abbrev Failed : {X F : Type 0} → (ℕ → X → Option F) → ℕ → X → F → Type 0
Failed test i x f = test i x ≡ Some f

tested : {X F : Type 0} (test : ℕ → X → Option F) → Decided (Passed test) (Failed test)
tested {F = F} test i x = by_value (test i x) refl
  where
    by_value : (o : Option F) → test i x ≡ o → (test i x ≡ None) ⊎ ((f : F) × (test i x ≡ Some f))
    by_value None e = inl e
    by_value (Some f) e = inr (f, e)

one_tested : {X F : Type 0} (test : ℕ → X → Option F) → Exclusive (Passed test) (Failed test)
one_tested test = record { apart = λ i x f right wrong. some_none (test i x) f right wrong; one = λ i x f g a b. some_same f g (sym a ∙ b) }

-- ---- the table

table_exact : (bytes : List ℕ) → Exact (TableBytes bytes) (TableRefused bytes)
table_exact bytes = record { apart = λ t r h k. table_kept bytes t r h k; one_value = λ t u h k. one_table bytes t u h k; one_refusal = one_table_refusal bytes }

-- ---- the `open` lines

-- the fault of an `open` line in its place
abbrev open_test : Table → List OpenLine → ℕ → OpenLine → Option OpenFault
open_test t opens i o = line_fault t (take i opens) o

open_kept : (t : Table) (opens : List OpenLine) (r : Refusal) → AllOpen t opens (length opens) → OpenRefused t opens r → ⊥
open_kept t opens r opened (FirstWrong i o fault at before wrong) =
    some_none (line_fault t (take i opens) o) fault (opened i o (slice_get_within opens i o at) at) wrong

one_open_refusal : (t : Table) (opens : List OpenLine) (r q : Refusal) → OpenRefused t opens r → OpenRefused t opens q → r ≡ q
one_open_refusal t opens r q (FirstWrong i o f at before wrong) (FirstWrong j p g there earlier bad) =
    let test : ℕ → OpenLine → Option OpenFault = open_test t opens in
    let a : FirstFault (Passed test) (Failed test) opens = record { place = i; element = o; fault = f; there = at; before = before; wrong = wrong } in
    let b : FirstFault (Passed test) (Failed test) opens = record { place = j; element = p; fault = g; there = there; before = earlier; wrong = bad } in
    let e : SameFault (Passed test) (Failed test) opens a b = one_first (Passed test) (Failed test) (one_tested test) opens a b in
    let element : o ≡ p = e.element in
    let fault : f ≡ g = e.fault in
    λ k. refusal.Open (element k).id (fault k)

opens_exact : (t : Table) (opens : List OpenLine) → Exact {X = Unit {0}} (λ ok. AllOpen t opens (length opens)) (OpenRefused t opens)
opens_exact t opens = record { apart = λ ok r h k. open_kept t opens r h k; one_value = λ x y h k. unit_same x y; one_refusal = one_open_refusal t opens }

-- ---- the memories

apart_kept : (ms : List (ℕ × ℕ × ℕ)) (r : Refusal) → AreApart ms → MeetRefused ms r → ⊥
apart_kept ms r apart (FirstMeeting found first) = apart first.a first.b first.order first.within first.meet

one_meet_refusal : (ms : List (ℕ × ℕ × ℕ)) (r q : Refusal) → MeetRefused ms r → MeetRefused ms q → r ≡ q
one_meet_refusal ms r q (FirstMeeting found first) (FirstMeeting other later) = ap refusal.Meet (one_overlap ms found other first later)

memories_exact : (ms : List (ℕ × ℕ × ℕ)) → Exact {X = Unit {0}} (λ ok. AreApart ms) (MeetRefused ms)
memories_exact ms = record { apart = λ ok r h k. apart_kept ms r h k; one_value = λ x y h k. unit_same x y; one_refusal = one_meet_refusal ms }

-- ---- the processors

cpus_exact : (os : List Opened) (lines : List (List ℕ)) → Exact (AreBound os lines) (CpuRefused os lines)
cpus_exact os lines = record { apart = λ cpus r h k. bound_kept os lines cpus r h k; one_value = one_bound os lines; one_refusal = one_cpu_refusal os lines }

-- ---- the caps

abbrev CapRight : List Opened → List CapLine → ℕ → CapLine → Type 0
CapRight os caps i c = is_cap_right os (take i caps) c ≡ true

abbrev CapWrong : List Opened → List CapLine → ℕ → CapLine → Unit {0} → Type 0
CapWrong os caps i c ok = is_cap_right os (take i caps) c ≡ false

split : (b : Bool) → (b ≡ true) ⊎ ((ok : Unit {0}) × (b ≡ false))
split true = inl refl
split false = inr (tt, refl)

truth : (b : Bool) → b ≡ true → b ≡ false → ⊥
truth b h k = absurd cc

caps_decided : (os : List Opened) (caps : List CapLine) → Decided (CapRight os caps) (CapWrong os caps)
caps_decided os caps i c = split (is_cap_right os (take i caps) c)

caps_exclusive : (os : List Opened) (caps : List CapLine) → Exclusive (CapRight os caps) (CapWrong os caps)
caps_exclusive os caps = record { apart = λ i c ok right wrong. truth (is_cap_right os (take i caps) c) right wrong; one = λ i c x y h k. unit_same x y }

caps_kept : (os : List Opened) (caps : List CapLine) (r : Refusal) → AreCapsRight os caps (length caps) → CapRefused os caps r → ⊥
caps_kept os caps r h (FirstCap i c at before wrong) = truth (is_cap_right os (take i caps) c) (h i c (slice_get_within caps i c at) at) wrong

one_cap_refusal : (os : List Opened) (caps : List CapLine) (r q : Refusal) → CapRefused os caps r → CapRefused os caps q → r ≡ q
one_cap_refusal os caps r q (FirstCap i c at before wrong) (FirstCap j d there earlier bad) =
    let a : FirstFault (CapRight os caps) (CapWrong os caps) caps = record { place = i; element = c; fault = tt; there = at; before = before; wrong = wrong } in
    let b : FirstFault (CapRight os caps) (CapWrong os caps) caps = record { place = j; element = d; fault = tt; there = there; before = earlier; wrong = bad } in
    let e : SameFault (CapRight os caps) (CapWrong os caps) caps a b = one_first (CapRight os caps) (CapWrong os caps) (caps_exclusive os caps) caps a b in
    ap refusal.Cap e.place

caps_exact : (os : List Opened) (caps : List CapLine) → Exact {X = Unit {0}} (λ ok. AreCapsRight os caps (length caps)) (CapRefused os caps)
caps_exact os caps = record { apart = λ ok r h k. caps_kept os caps r h k; one_value = λ x y h k. unit_same x y; one_refusal = one_cap_refusal os caps }

-- ---- the ranges at first

rises_or_not : (last : ℕ) (numbers : List (Option ℕ)) → Rises last numbers ⊎ (Rises last numbers → ⊥)
rises_or_not last [] = inl tt
rises_or_not last (None ∷ rest) = rises_or_not last rest
rises_or_not last (Some number ∷ rest) = elim (cases_lt number last) [
  | inl lt ↦ inr (λ h. let le : last ≤ number = h.0 in absurd (omega (arith, le, lt)))
  | inr ge ↦ elim (rises_or_not number rest) [
    | inl more ↦ inl (ge, more)
    | inr none ↦ inr (λ h. none h.1)
  ]
]

inside_or_not : (o : Option Opened) (b : Binding)
    → IfSome o (λ x. InRange b (registers_of x)) ⊎ ((ok : Unit {0}) × (IfSome o (λ x. InRange b (registers_of x)) → ⊥))
inside_or_not None b = inl tt
inside_or_not (Some o) b = elim (rises_or_not 0 (performances b (registers_of o))) [ inl h ↦ inl h | inr none ↦ inr (tt, none) ]

abbrev StartRight : List Opened → ℕ → Binding → Type 0
StartRight os i b = StartsInside os b

abbrev StartWrong : List Opened → ℕ → Binding → Unit {0} → Type 0
StartWrong os i b ok = StartsInside os b → ⊥

starts_decided : (os : List Opened) → Decided (StartRight os) (StartWrong os)
starts_decided os i b = inside_or_not (controller_on b.subspace os) b

starts_exclusive : (os : List Opened) → Exclusive (StartRight os) (StartWrong os)
starts_exclusive os = record { apart = λ i b ok right wrong. wrong right; one = λ i b x y h k. unit_same x y }

starts_kept : (os : List Opened) (cpus : List Binding) (r : Refusal) → StartInside os cpus (length cpus) → StartRefused os cpus r → ⊥
starts_kept os cpus r h (FirstOutside i b at before wrong) = wrong (h i b (slice_get_within cpus i b at) at)

one_start_refusal : (os : List Opened) (cpus : List Binding) (r q : Refusal) → StartRefused os cpus r → StartRefused os cpus q → r ≡ q
one_start_refusal os cpus r q (FirstOutside i b at before wrong) (FirstOutside j c there earlier bad) =
    let x : FirstFault (StartRight os) (StartWrong os) cpus = record { place = i; element = b; fault = tt; there = at; before = before; wrong = wrong } in
    let y : FirstFault (StartRight os) (StartWrong os) cpus = record { place = j; element = c; fault = tt; there = there; before = earlier; wrong = bad } in
    let e : SameFault (StartRight os) (StartWrong os) cpus x y = one_first (StartRight os) (StartWrong os) (starts_exclusive os) cpus x y in
    ap refusal.Start e.place

starts_exact : (os : List Opened) (cpus : List Binding) → Exact {X = Unit {0}} (λ ok. StartInside os cpus (length cpus)) (StartRefused os cpus)
starts_exact os cpus = record { apart = λ ok r h k. starts_kept os cpus r h k; one_value = λ x y h k. unit_same x y; one_refusal = one_start_refusal os cpus }

-- ---- actions

abbrev action_test : Scenario → ℕ → Line → Option ActionFault
action_test s i l = action_fault s l

action_kept : (s : Scenario) → AllNamed s (length s.actions) → (r : Refusal) → ActionRefused s r → ⊥
action_kept s named r (FirstAction i l fault at before wrong) = some_none (action_fault s l) fault (named i l (slice_get_within s.actions i l at) at) wrong

one_action_refusal : (s : Scenario) (r q : Refusal) → ActionRefused s r → ActionRefused s q → r ≡ q
one_action_refusal s r q (FirstAction i l f at before wrong) (FirstAction j m g there earlier bad) =
    let test : ℕ → Line → Option ActionFault = action_test s in
    let a : FirstFault (Passed test) (Failed test) s.actions = record { place = i; element = l; fault = f; there = at; before = before; wrong = wrong } in
    let b : FirstFault (Passed test) (Failed test) s.actions = record { place = j; element = m; fault = g; there = there; before = earlier; wrong = bad } in
    let e : SameFault (Passed test) (Failed test) s.actions a b = one_first (Passed test) (Failed test) (one_tested test) s.actions a b in
    let place : i ≡ j = e.place in
    let fault : f ≡ g = e.fault in
    λ k. refusal.Action (first_action s + place k) (fault k)

-- ---- one refusal

one_after_caps : (s : Scenario) (os : List Opened) (cpus : List Binding) (r q : Refusal) → AfterCaps s os cpus r → AfterCaps s os cpus q → r ≡ q
one_after_caps s os cpus = one_of {X = Unit {0}} (λ ok. StartInside os cpus (length cpus)) (StartRefused os cpus) (λ ok. ActionRefused s)
    (starts_exact os cpus) (λ ok p. one_action_refusal s)

one_after_cpus : (s : Scenario) (os : List Opened) (cpus : List Binding) (r q : Refusal) → AfterCpus s os cpus r → AfterCpus s os cpus q → r ≡ q
one_after_cpus s os cpus = one_of {X = Unit {0}} (λ ok. AreCapsRight os s.caps (length s.caps)) (CapRefused os s.caps) (λ ok. AfterCaps s os cpus)
    (caps_exact os s.caps) (λ ok p. one_after_caps s os cpus)

one_after_memories : (s : Scenario) (os : List Opened) (r q : Refusal) → AfterMemories s os r → AfterMemories s os q → r ≡ q
one_after_memories s os = one_of (AreBound os s.cpus) (CpuRefused os s.cpus) (AfterCpus s os) (cpus_exact os s.cpus) (λ cpus p. one_after_cpus s os cpus)

one_after_opens : (s : Scenario) (t : Table) (r q : Refusal) → AfterOpens s t r → AfterOpens s t q → r ≡ q
one_after_opens s t = one_of {X = Unit {0}} (λ ok. AreApart (memories_by t s.opens)) (MeetRefused (memories_by t s.opens))
    (λ ok. AfterMemories s (opened_by t s.opens)) (memories_exact (memories_by t s.opens)) (λ ok p. one_after_memories s (opened_by t s.opens))

one_after_table : (s : Scenario) (t : Table) (r q : Refusal) → AfterTable s t r → AfterTable s t q → r ≡ q
one_after_table s t = one_of {X = Unit {0}} (λ ok. AllOpen t s.opens (length s.opens)) (OpenRefused t s.opens) (λ ok. AfterOpens s t)
    (opens_exact t s.opens) (λ ok p. one_after_opens s t)

pub one_refusal : (s : Scenario) (r q : Refusal) → SetUpRefused s r → SetUpRefused s q → r ≡ q
one_refusal s = one_of (TableBytes s.table) (TableRefused s.table) (AfterTable s) (table_exact s.table) (λ t p. one_after_table s t)

-- ---- a script that passes all checks is not refused

kept_after_caps : (s : Scenario) (os : List Opened) (cpus : List Binding) → StartInside os cpus (length cpus) → AllNamed s (length s.actions) → (r : Refusal) → AfterCaps s os cpus r → ⊥
kept_after_caps s os cpus inside named = kept {X = Unit {0}} (λ ok. StartInside os cpus (length cpus)) (StartRefused os cpus) (λ ok. ActionRefused s)
    (starts_exact os cpus) tt inside (action_kept s named)

kept_after_memories : (s : Scenario) (os : List Opened) (cpus : List Binding) → AreBound os s.cpus cpus → AreCapsRight os s.caps (length s.caps)
    → StartInside os cpus (length cpus) → AllNamed s (length s.actions) → (r : Refusal) → AfterMemories s os r → ⊥
kept_after_memories s os cpus bound capped inside named = kept (AreBound os s.cpus) (CpuRefused os s.cpus) (AfterCpus s os) (cpus_exact os s.cpus) cpus bound
    (kept {X = Unit {0}} (λ ok. AreCapsRight os s.caps (length s.caps)) (CapRefused os s.caps) (λ ok. AfterCaps s os cpus) (caps_exact os s.caps) tt capped
    (kept_after_caps s os cpus inside named))

pub set_up_kept : (s : Scenario) (t : Table) (r : Refusal) → IsSetUp s t → SetUpRefused s r → ⊥
set_up_kept s t r h = kept (TableBytes s.table) (TableRefused s.table) (AfterTable s) (table_exact s.table) t h.table
    (kept {X = Unit {0}} (λ ok. AllOpen t s.opens (length s.opens)) (OpenRefused t s.opens) (λ ok. AfterOpens s t) (opens_exact t s.opens) tt h.all_open
    (kept {X = Unit {0}} (λ ok. AreApart (memories_by t s.opens)) (MeetRefused (memories_by t s.opens)) (λ ok. AfterMemories s (opened_by t s.opens))
    (memories_exact (memories_by t s.opens)) tt h.apart
    (kept_after_memories s (opened_by t s.opens) h.cpus h.bound h.capped h.inside h.named))) r

-- ---- one set-up

pub one_set_up_table : (s : Scenario) (t u : Table) → IsSetUp s t → IsSetUp s u → t ≡ u
one_set_up_table s t u h k = one_table s.table t u h.table k.table

-- one list of bindings
pub one_set_up_cpus : (s : Scenario) (t u : Table) → (h : IsSetUp s t) → (k : IsSetUp s u) → h.cpus ≡ k.cpus
one_set_up_cpus s t u h k =
    let bound : AreBound (opened_by u s.opens) s.cpus h.cpus = subst (λ (v : Table). AreBound (opened_by v s.opens) s.cpus h.cpus) (one_set_up_table s t u h k) h.bound in
    one_bound (opened_by u s.opens) s.cpus h.cpus k.cpus bound k.bound

pub one_set_up : (s : Scenario) (opened other : List Opened) → Opens s opened → Opens s other → opened ≡ other
one_set_up s opened other h k =
    h.list_is ∙ ap (λ (cpus : List Binding). map (equipped cpus s.caps) (opened_by h.table s.opens)) (one_set_up_cpus s h.table k.table h.checked k.checked)
    ∙ ap (λ (t : Table). map (equipped k.checked.cpus s.caps) (opened_by t s.opens)) (one_set_up_table s h.table k.table h.checked k.checked) ∙ sym k.list_is

-- ---- set up or refused

-- a check passes, and the later ones lead to something or fail
passed : {H X : Type 0} (Passes : X → Type 0) (Refuses : Refusal → Type 0) (Next : X → Refusal → Type 0) (x : X) → Passes x → H ⊎ ((r : Refusal) × Next x r)
    → H ⊎ ((r : Refusal) × Fails Passes Refuses Next r)
passed Passes Refuses Next x p (inl h) = inl h
passed Passes Refuses Next x p (inr k) = inr (k.0, Later x p k.0 k.1)

by_actions : (s : Scenario) (t : Table) (cpus : List Binding) → TableBytes s.table t → AllOpen t s.opens (length s.opens) → AreApart (memories_by t s.opens)
    → AreBound (opened_by t s.opens) s.cpus cpus → AreCapsRight (opened_by t s.opens) s.caps (length s.caps) → StartInside (opened_by t s.opens) cpus (length cpus)
    → HasSetUp s ⊎ ((r : Refusal) × ActionRefused s r)
by_actions s t cpus bytes opened apart bound capped inside =
    elim (first_fault (Passed (action_test s)) (Failed (action_test s)) (tested (action_test s)) s.actions (length s.actions)) [
      | inl f ↦ inr (refusal.Action (first_action s + f.place) f.fault, FirstAction f.place f.element f.fault f.there f.before f.wrong)
      | inr named ↦ inl (record {
        table = t;
        checked = record { table = bytes; all_open = opened; apart = apart; cpus = cpus; bound = bound; capped = capped; inside = inside; named = named };
      })
    ]

by_starts : (s : Scenario) (t : Table) (cpus : List Binding) → TableBytes s.table t → AllOpen t s.opens (length s.opens) → AreApart (memories_by t s.opens)
    → AreBound (opened_by t s.opens) s.cpus cpus → AreCapsRight (opened_by t s.opens) s.caps (length s.caps)
    → HasSetUp s ⊎ ((r : Refusal) × AfterCaps s (opened_by t s.opens) cpus r)
by_starts s t cpus bytes opened apart bound capped =
    elim (first_fault (StartRight (opened_by t s.opens)) (StartWrong (opened_by t s.opens)) (starts_decided (opened_by t s.opens)) cpus (length cpus)) [
      | inl f ↦ inr (refusal.Start f.place, Here (refusal.Start f.place) (FirstOutside f.place f.element f.there f.before f.wrong))
      | inr inside ↦ passed {X = Unit {0}} (λ ok. StartInside (opened_by t s.opens) cpus (length cpus)) (StartRefused (opened_by t s.opens) cpus) (λ ok. ActionRefused s)
          tt inside (by_actions s t cpus bytes opened apart bound capped inside)
    ]

by_caps : (s : Scenario) (t : Table) (cpus : List Binding) → TableBytes s.table t → AllOpen t s.opens (length s.opens) → AreApart (memories_by t s.opens)
    → AreBound (opened_by t s.opens) s.cpus cpus → HasSetUp s ⊎ ((r : Refusal) × AfterCpus s (opened_by t s.opens) cpus r)
by_caps s t cpus bytes opened apart bound =
    let os : List Opened = opened_by t s.opens in
    elim (first_fault (CapRight os s.caps) (CapWrong os s.caps) (caps_decided os s.caps) s.caps (length s.caps)) [
      | inl f ↦ inr (refusal.Cap f.place, Here (refusal.Cap f.place) (FirstCap f.place f.element f.there f.before f.wrong))
      | inr capped ↦ passed {X = Unit {0}} (λ ok. AreCapsRight os s.caps (length s.caps)) (CapRefused os s.caps) (λ ok. AfterCaps s os cpus) tt capped
          (by_starts s t cpus bytes opened apart bound capped)
    ]

by_cpus : (s : Scenario) (t : Table) → AllByRecursion IsBytes s.cpus → TableBytes s.table t → AllOpen t s.opens (length s.opens) → AreApart (memories_by t s.opens)
    → HasSetUp s ⊎ ((r : Refusal) × AfterMemories s (opened_by t s.opens) r)
by_cpus s t fit bytes opened apart =
    let os : List Opened = opened_by t s.opens in
    elim (bound_or_refused os s.cpus fit) [
      | inl f ↦ inr (f.0, Here f.0 f.1)
      | inr h ↦ passed (AreBound os s.cpus) (CpuRefused os s.cpus) (AfterCpus s os) h.0 h.1 (by_caps s t h.0 bytes opened apart h.1)
    ]

by_memories : (s : Scenario) (t : Table) → AllByRecursion IsBytes s.cpus → TableBytes s.table t → AllOpen t s.opens (length s.opens) → HasSetUp s ⊎ ((r : Refusal) × AfterOpens s t r)
by_memories s t fit bytes opened =
    let ms : List (ℕ × ℕ × ℕ) = memories_by t s.opens in
    elim (apart_or_first ms) [
      | inr h ↦ inr (refusal.Meet h.found, Here (refusal.Meet h.found) (FirstMeeting h.found h.first))
      | inl apart ↦ passed {X = Unit {0}} (λ ok. AreApart ms) (MeetRefused ms) (λ ok. AfterMemories s (opened_by t s.opens)) tt apart (by_cpus s t fit bytes opened apart)
    ]

by_opens : (s : Scenario) (t : Table) → AllByRecursion IsBytes s.cpus → TableBytes s.table t → HasSetUp s ⊎ ((r : Refusal) × AfterTable s t r)
by_opens s t fit bytes =
    let test : ℕ → OpenLine → Option OpenFault = open_test t s.opens in
    elim (first_fault (Passed test) (Failed test) (tested test) s.opens (length s.opens)) [
      | inl f ↦ inr (refusal.Open f.element.id f.fault, Here (refusal.Open f.element.id f.fault) (FirstWrong f.place f.element f.fault f.there f.before f.wrong))
      | inr opened ↦ passed {X = Unit {0}} (λ ok. AllOpen t s.opens (length s.opens)) (OpenRefused t s.opens) (λ ok. AfterOpens s t) tt opened
          (by_memories s t fit bytes opened)
    ]

by_table : (s : Scenario) → AllByRecursion IsBytes s.cpus → HasSetUp s ⊎ ((r : Refusal) × SetUpRefused s r)
by_table s fit = elim (whole_or_refused s.table) [
  | inl h ↦ passed (TableBytes s.table) (TableRefused s.table) (AfterTable s) h.table h.spelled (by_opens s h.table fit h.spelled)
  | inr h ↦ inr (h.cause, Here h.cause h.refused)
]

pub set_up_or_refused : (s : Scenario) → AllByRecursion IsBytes s.cpus → HasSetUp s ⊎ HasRefusal s
set_up_or_refused s fit = elim (by_table s fit) [
  | inl h ↦ inl h
  | inr k ↦ inr (record { cause = k.0; refused = k.1 })
]
