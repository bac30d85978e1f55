-- The checks of a set-up, from the first to the last.
use Rattle.std.proofs.Common.{◌≡◌, ℕ, ◌+◌, ◌^◌, ◌<◌, List, length, map, sym, ap, ◌∙◌, subst, arith, Result, Ok, Err}
use Rattle.std.specs.Prelude.{IsErrAnd, MatchResult, Some, slice_get}
use Rattle.std.specs.List.{AllByRecursion}
use Rattle.std.proofs.lemmas.List.{length-map}
use Rattle.pcc_script.specs.declared.scenario.CapLine.{CapLine}
use Rattle.pcc_script.specs.declared.scenario.OpenLine.{OpenLine}
use Rattle.pcct_table.specs.declared.table.Table.{Table}
use Rattle.pcct_codec.specs.Tables.{TableBytes}
use Rattle.cpc_package.specs.declared.binding.Binding.{Binding}
use Rattle.pcc_script.specs.declared.scenario.Line.{Line}
use Rattle.pcc_script.specs.declared.scenario.Scenario.{Scenario}
use Rattle.pcc_wiring.specs.declared.overlap.Overlap.{Overlap}
use Rattle.pcc_wiring.specs.Overlaps.{AreApart, IsFirstOverlap}
use Rattle.pcc_setup.specs.declared.action.ActionFault.{ActionFault}
use Rattle.pcc_setup.specs.declared.opening.Opened.{Opened}
use Rattle.pcc_setup.specs.declared.places.CpuPlace.{CpuPlace}
use Rattle.pcc_setup.specs.declared.refusal.InputError.{InputError}
use Rattle.pcc_setup.specs.declared.refusal.Refusal.TheVariants as refusal
use Rattle.pcc_setup.specs.Equipment.{AreCapsRight, ArePlaces, CapRefused, IsHoused, StartInside, StartRefused, equipped}
use Rattle.pcc_setup.specs.Openings.{AllOpen, memories_by, opened_by}
use Rattle.pcc_setup.specs.Processors.{AreBound, CpuRefused}
use Rattle.pcc_setup.specs.RefusalText.{IsRefusedFor}
use Rattle.pcc_setup.specs.SetUps.{ActionRefused, AfterCaps, AfterCpus, AfterMemories, AfterOpens, AfterTable, AllNamed, FirstAction, FirstMeeting, IsSetUp, IsSetUpOf, MeetRefused, OpenRefused, Opens, SetUpRefused, TableRefused, action_fault, first_action}
use Rattle.pcc_setup.proofs.Bound.{one_bound}
use Rattle.pcc_setup.specs.declared.setup.SetUp.{SetUp}
use Rattle.pcc_setup.proofs.Chain.{passed, here}
use Rattle.pcc_setup.proofs.Housing.{all_housed, few_opened, small_rooms}
use Rattle.pcct_codec.proofs.Headers.{one_table}

-- ---- errors of a check, as those of all

pub wrong_table : (s : Scenario) (bytes : List ℕ) (e : InputError) → bytes ≡ s.table → IsRefusedFor (TableRefused bytes) e → IsRefusedFor (SetUpRefused s) e
wrong_table s bytes e same h =
    here (TableBytes s.table) (TableRefused s.table) (AfterTable s) e (subst (λ (b : List ℕ). IsRefusedFor (TableRefused b) e) same h)

pub after_table : (s : Scenario) (t : Table) (e : InputError) → TableBytes s.table t → IsRefusedFor (AfterTable s t) e → IsRefusedFor (SetUpRefused s) e
after_table s t e bytes h = passed (TableBytes s.table) (TableRefused s.table) (AfterTable s) t e bytes h

pub wrong_open : (s : Scenario) (t : Table) (e : InputError) → IsRefusedFor (OpenRefused t s.opens) e → IsRefusedFor (AfterTable s t) e
wrong_open s t e h = here {X = Unit {0}} (λ ok. AllOpen t s.opens (length s.opens)) (OpenRefused t s.opens) (λ ok. AfterOpens s t) e h

after_opens : (s : Scenario) (t : Table) (e : InputError) → AllOpen t s.opens (length s.opens) → IsRefusedFor (AfterOpens s t) e → IsRefusedFor (AfterTable s t) e
after_opens s t e opened h = passed {X = Unit {0}} (λ ok. AllOpen t s.opens (length s.opens)) (OpenRefused t s.opens) (λ ok. AfterOpens s t) tt e opened h

pub meeting : (s : Scenario) (t : Table) (e : InputError) → AllOpen t s.opens (length s.opens) → IsRefusedFor (MeetRefused (memories_by t s.opens)) e → IsRefusedFor (AfterTable s t) e
meeting s t e opened h = after_opens s t e opened
    (here {X = Unit {0}} (λ ok. AreApart (memories_by t s.opens)) (MeetRefused (memories_by t s.opens)) (λ ok. AfterMemories s (opened_by t s.opens)) e h)

after_memories : (s : Scenario) (t : Table) (e : InputError) → AllOpen t s.opens (length s.opens) → AreApart (memories_by t s.opens)
    → IsRefusedFor (AfterMemories s (opened_by t s.opens)) e → IsRefusedFor (AfterTable s t) e
after_memories s t e opened apart h = after_opens s t e opened
    (passed {X = Unit {0}} (λ ok. AreApart (memories_by t s.opens)) (MeetRefused (memories_by t s.opens)) (λ ok. AfterMemories s (opened_by t s.opens)) tt e apart h)

pub wrong_cpu : (s : Scenario) (t : Table) (os : List Opened) (e : InputError) → AllOpen t s.opens (length s.opens) → AreApart (memories_by t s.opens) → os ≡ opened_by t s.opens
    → IsRefusedFor (CpuRefused os s.cpus) e → IsRefusedFor (AfterTable s t) e
wrong_cpu s t os e opened apart is h = after_memories s t e opened apart
    (subst (λ (v : List Opened). IsRefusedFor (AfterMemories s v) e) is (here (AreBound os s.cpus) (CpuRefused os s.cpus) (AfterCpus s os) e h))

after_cpus : (s : Scenario) (t : Table) (os : List Opened) (cpus : List Binding) (e : InputError) → AllOpen t s.opens (length s.opens) → AreApart (memories_by t s.opens)
    → os ≡ opened_by t s.opens → AreBound os s.cpus cpus → IsRefusedFor (AfterCpus s os cpus) e → IsRefusedFor (AfterTable s t) e
after_cpus s t os cpus e opened apart is bound h = after_memories s t e opened apart
    (subst (λ (v : List Opened). IsRefusedFor (AfterMemories s v) e) is (passed (AreBound os s.cpus) (CpuRefused os s.cpus) (AfterCpus s os) cpus e bound h))

pub wrong_cap : (s : Scenario) (t : Table) (os : List Opened) (cpus : List Binding) (e : InputError) → AllOpen t s.opens (length s.opens) → AreApart (memories_by t s.opens)
    → os ≡ opened_by t s.opens → AreBound os s.cpus cpus → IsRefusedFor (CapRefused os s.caps) e → IsRefusedFor (AfterTable s t) e
wrong_cap s t os cpus e opened apart is bound h = after_cpus s t os cpus e opened apart is bound
    (here {X = Unit {0}} (λ ok. AreCapsRight os s.caps (length s.caps)) (CapRefused os s.caps) (λ ok. AfterCaps s os cpus) e h)

after_caps : (s : Scenario) (t : Table) (os : List Opened) (cpus : List Binding) (e : InputError) → AllOpen t s.opens (length s.opens) → AreApart (memories_by t s.opens)
    → os ≡ opened_by t s.opens → AreBound os s.cpus cpus → AreCapsRight os s.caps (length s.caps) → IsRefusedFor (AfterCaps s os cpus) e → IsRefusedFor (AfterTable s t) e
after_caps s t os cpus e opened apart is bound capped h = after_cpus s t os cpus e opened apart is bound
    (passed {X = Unit {0}} (λ ok. AreCapsRight os s.caps (length s.caps)) (CapRefused os s.caps) (λ ok. AfterCaps s os cpus) tt e capped h)

pub wrong_start : (s : Scenario) (t : Table) (os : List Opened) (cpus : List Binding) (e : InputError) → AllOpen t s.opens (length s.opens) → AreApart (memories_by t s.opens)
    → os ≡ opened_by t s.opens → AreBound os s.cpus cpus → AreCapsRight os s.caps (length s.caps) → IsRefusedFor (StartRefused os cpus) e → IsRefusedFor (AfterTable s t) e
wrong_start s t os cpus e opened apart is bound capped h = after_caps s t os cpus e opened apart is bound capped
    (here {X = Unit {0}} (λ ok. StartInside os cpus (length cpus)) (StartRefused os cpus) (λ ok. ActionRefused s) e h)

pub wrong_action : (s : Scenario) (t : Table) (os : List Opened) (cpus : List Binding) (e : InputError) → AllOpen t s.opens (length s.opens) → AreApart (memories_by t s.opens)
    → os ≡ opened_by t s.opens → AreBound os s.cpus cpus → AreCapsRight os s.caps (length s.caps) → StartInside os cpus (length cpus)
    → IsRefusedFor (ActionRefused s) e → IsRefusedFor (AfterTable s t) e
wrong_action s t os cpus e opened apart is bound capped inside h = after_caps s t os cpus e opened apart is bound capped
    (passed {X = Unit {0}} (λ ok. StartInside os cpus (length cpus)) (StartRefused os cpus) (λ ok. ActionRefused s) tt e inside h)

-- ---- what a function passes on

-- the error of a call, handed on
pub passed_on : (s : Scenario) (t : Table) (r : Result SetUp InputError) (e : InputError) → IsErrAnd r (λ x. x ≡ e) → IsRefusedFor (AfterTable s t) e
    → MatchResult r (IsSetUpOf s) (IsRefusedFor (AfterTable s t))
passed_on s t (Ok u) e h refused = absurd h
passed_on s t (Err x) e h refused = subst (IsRefusedFor (AfterTable s t)) (sym h) refused

-- a fact of two values, of values that are the same
pub two : {A B : Type 0} (P : A → B → Type 0) (a b : A) (x y : B) → a ≡ b → x ≡ y → P a x → P b y
two {A = A} {B = B} P a b x y e d h = subst (λ (v : B). P b v) d (subst (λ (v : A). P v x) e h)

-- each processor has its controller among the opened subspaces that have what they get
pub housed_by : (t : Table) (opens : List OpenLine) (lines : List (List ℕ)) (caps k : List CapLine) (os new now : List Opened) (cpus front back : List Binding) → os ≡ opened_by t opens
    → AreBound os lines cpus → front ≡ cpus → back ≡ cpus → new ≡ map (equipped front k) os → now ≡ new → AllByRecursion (IsHoused now back) back
housed_by t opens lines caps k os new now cpus front back is bound same alike made read =
    let given : now ≡ map (equipped cpus k) os = read ∙ made ∙ ap (λ (v : List Binding). map (equipped v k) os) same in
    let housed : AllByRecursion (IsHoused now cpus) cpus = all_housed os now lines cpus k (small_rooms t os opens is) bound given in
    subst (λ (v : List Binding). AllByRecursion (IsHoused now v) v) (sym alike) housed

pub few_by : (bytes : List ℕ) (t : Table) (opens : List OpenLine) (front : List Binding) (k : List CapLine) (os new now : List Opened) → TableBytes bytes t
    → AllOpen t opens (length opens) → os ≡ opened_by t opens → new ≡ map (equipped front k) os → now ≡ new → length now < 2 ^ 32
few_by bytes t opens front k os new now h opened is made read =
    let count : length now ≡ length os = ap length (read ∙ made) ∙ length-map os (equipped front k) in
    let few : length os < 2 ^ 32 = subst (λ (v : List Opened). length v < 2 ^ 32) (sym is) (few_opened bytes t opens h opened) in
    omega (arith, count, few)

-- ---- single checks

pub first_meeting : (ms all : List (ℕ × ℕ × ℕ)) (found : Overlap) → ms ≡ all → IsFirstOverlap ms found → MeetRefused all (refusal.Meet found) × Unit {0}
first_meeting ms all found is first = (FirstMeeting found (subst (λ (v : List (ℕ × ℕ × ℕ)). IsFirstOverlap v found) is first), tt)

pub still_apart : (ms all : List (ℕ × ℕ × ℕ)) → ms ≡ all → AreApart ms → AreApart all
still_apart ms all is apart = subst AreApart is apart

pub first_action_wrong : (s : Scenario) (place line : ℕ) (l : Line) (fault : ActionFault) → slice_get s.actions place ≡ Some l → AllNamed s place → action_fault s l ≡ Some fault
    → line ≡ first_action s + place → ActionRefused s (refusal.Action line fault) × Unit {0}
first_action_wrong s place line l fault at named wrong number =
    (subst (λ (n : ℕ). ActionRefused s (refusal.Action n fault)) (sym number) (FirstAction place l fault at named wrong), tt)

-- ---- what is set up

pub is_set_up : (s : Scenario) (t : Table) (os new : List Opened) (cpus : List Binding) → TableBytes s.table t → AllOpen t s.opens (length s.opens) → AreApart (memories_by t s.opens)
    → os ≡ opened_by t s.opens → AreBound os s.cpus cpus → AreCapsRight os s.caps (length s.caps) → StartInside os cpus (length cpus) → AllNamed s (length s.actions)
    → new ≡ map (equipped cpus s.caps) os → Opens s new
is_set_up s t os new cpus bytes opened apart is bound capped inside named made = record {
  table = t;
  checked = record {
    table = bytes;
    all_open = opened;
    apart = apart;
    cpus = cpus;
    bound = subst (λ (v : List Opened). AreBound v s.cpus cpus) is bound;
    capped = subst (λ (v : List Opened). AreCapsRight v s.caps (length s.caps)) is capped;
    inside = subst (λ (v : List Opened). StartInside v cpus (length cpus)) is inside;
    named = named;
  };
  list_is = made ∙ ap (map (equipped cpus s.caps)) is;
}

-- its bindings are those that were made
pub same_cpus : (s : Scenario) (t : Table) (os : List Opened) (cpus : List Binding) → TableBytes s.table t → os ≡ opened_by t s.opens → AreBound os s.cpus cpus
    → (u : Table) (h : IsSetUp s u) → h.cpus ≡ cpus
same_cpus s t os cpus bytes is bound u h =
    let same : u ≡ t = one_table s.table u t h.table bytes in
    let moved : AreBound (opened_by t s.opens) s.cpus h.cpus = subst (λ (v : Table). AreBound (opened_by v s.opens) s.cpus h.cpus) same h.bound in
    one_bound os s.cpus h.cpus cpus (subst (λ (v : List Opened). AreBound v s.cpus h.cpus) (sym is) moved) bound

pub places_are : (s : Scenario) (t : Table) (os new : List Opened) (cpus : List Binding) (places : List CpuPlace) → TableBytes s.table t → os ≡ opened_by t s.opens → AreBound os s.cpus cpus
    → ArePlaces new cpus places → (h : Opens s new) → ArePlaces new h.checked.cpus places
places_are s t os new cpus places bytes is bound placed h =
    subst (λ (v : List Binding). ArePlaces new v places) (sym (same_cpus s t os cpus bytes is bound h.table h.checked)) placed
