-- The checks of a script's set-up in their order: the table, the `open` lines, the memories, the processors, the caps, the ranges at first, and the
-- actions.
use Rattle.std.specs.Prelude.{◌≡◌, ◌≤◌, ◌<◌, ℕ, ◌+◌, ◌==◌, ◌&&◌, nat_lt, Bool, true, false, if◌then◌else◌}
use Rattle.std.specs.Prelude.{List, ◌++◌, length, map, take, Option, Some, None, slice_get}
use Rattle.std.specs.List.{list_any}
use Rattle.cpc_package.specs.declared.binding.Binding.{Binding}
use Rattle.pcct_table.specs.declared.table.Table.{Table}
use Rattle.pcct_codec.specs.declared.fault.TableFault.{TableFault}
use Rattle.pcct_codec.specs.Faults.{Faulty, decision}
use Rattle.pcct_codec.specs.Tables.{TableBytes}
use Rattle.pcc_script.specs.declared.scenario.Device.{Device}
use Rattle.pcc_script.specs.declared.scenario.Device.TheVariants.{Bank, Cppc}
use Rattle.pcc_script.specs.declared.scenario.Line.{Line}
use Rattle.pcc_script.specs.declared.scenario.Line.TheVariants as line
use Rattle.pcc_script.specs.declared.scenario.OpenLine.{OpenLine}
use Rattle.pcc_script.specs.declared.scenario.Scenario.{Scenario}
use Rattle.pcc_wiring.specs.declared.overlap.Overlap.{Overlap}
use Rattle.pcc_wiring.specs.Overlaps.{AreApart, IsFirstOverlap}
use Rattle.pcc_setup.specs.declared.action.ActionFault.{ActionFault}
use Rattle.pcc_setup.specs.declared.action.ActionFault.TheVariants.{NoCpu, NotBank}
use Rattle.pcc_setup.specs.declared.opening.OpenFault.{OpenFault}
use Rattle.pcc_setup.specs.declared.opening.Opened.{Opened}
use Rattle.pcc_setup.specs.declared.refusal.Refusal.{Refusal}
use Rattle.pcc_setup.specs.declared.refusal.Refusal.TheVariants as refusal
use Rattle.pcc_setup.specs.declared.setup.SetUp.{SetUp}
use Rattle.pcc_setup.specs.declared.setup.SetUpError.{SetUpError}
use Rattle.pcc_setup.specs.declared.setup.SetUpError.TheVariants as error
use Rattle.pcc_setup.specs.RefusalText.{HasLine, refused_line}
use Rattle.pcc_setup.specs.Openings.{AllOpen, line_fault, memories_by, opened_by}
use Rattle.pcc_setup.specs.Processors.{AreBound, CpuRefused}
use Rattle.pcc_setup.specs.Equipment.{AreCapsRight, ArePlaces, CapRefused, StartInside, StartRefused, equipped}

-- ---- the table

-- bytes are not those of a table and nothing else: the first check that fails on them, or the place after the table with which they begin
pub data TableRefused (bytes : List ℕ) : Refusal → Type 0 where
  Wrong : (fault : TableFault) → decision true bytes ≡ Faulty fault → TableRefused bytes (refusal.Table fault)
  Followed : (front rest : List ℕ) → (t : Table) → TableBytes front t → bytes ≡ front ++ rest → 1 ≤ length rest
      → TableRefused bytes (refusal.Trailing (length front))

-- ---- the `open` lines

-- the first line that opens nothing, and its fault
pub data OpenRefused (t : Table) (opens : List OpenLine) : Refusal → Type 0 where
  FirstWrong : (i : ℕ) → (o : OpenLine) → (fault : OpenFault) → slice_get opens i ≡ Some o → AllOpen t opens i
      → line_fault t (take i opens) o ≡ Some fault → OpenRefused t opens (refusal.Open o.id fault)

-- ---- the memories

-- two memories meet, the first that do
pub data MeetRefused (memories : List (ℕ × ℕ × ℕ)) : Refusal → Type 0 where
  FirstMeeting : (found : Overlap) → IsFirstOverlap memories found → MeetRefused memories (refusal.Meet found)

-- ---- actions

abbrev pub is_bank : Device → Bool
is_bank Bank = true
is_bank (Cppc image) = false

-- some of these lines opens a Bank on the subspace with this ID
abbrev pub opens_bank : ℕ → List OpenLine → Bool
opens_bank id opens = list_any (λ o. o.id == id && is_bank o.device) opens

-- a call is on an opened Bank, and a processor has a `cpu` line
abbrev pub action_fault : Scenario → Line → Option ActionFault
action_fault s (line.Call worker subspace code bytes polls hold) = if opens_bank subspace s.opens then None else Some NotBank
action_fault s (line.Read worker cpu polls hold) = if nat_lt cpu (length s.cpus) then None else Some NoCpu
action_fault s (line.Set worker wish polls hold) = if nat_lt wish.cpu (length s.cpus) then None else Some NoCpu
action_fault s (line.Wait n) = None

-- each of the first `count` actions names what the script opens
abbrev pub AllNamed : Scenario → ℕ → Type 0
AllNamed s count = (i : ℕ) (l : Line) → i < count → slice_get s.actions i ≡ Some l → action_fault s l ≡ None

-- the number of the first action's line, from 1: a table, a clock and all other lines precede it
abbrev pub first_action : Scenario → ℕ
first_action s = 3 + length s.opens + length s.cpus + length s.caps

-- the first action that is wrong, by the number of its line
pub data ActionRefused (s : Scenario) : Refusal → Type 0 where
  FirstAction : (i : ℕ) → (l : Line) → (fault : ActionFault) → slice_get s.actions i ≡ Some l → AllNamed s i → action_fault s l ≡ Some fault
      → ActionRefused s (refusal.Action (first_action s + i) fault)

-- ---- all checks

-- A check fails with a refusal, or it passes with a value on which the later checks go, and one of these fails.
pub data Fails {X : Type 0} (Passes : X → Type 0) (Refuses : Refusal → Type 0) (later : X → Refusal → Type 0) : Refusal → Type 0 where
  Here : (r : Refusal) → Refuses r → Fails Passes Refuses later r
  Later : (x : X) → Passes x → (r : Refusal) → later x r → Fails Passes Refuses later r

-- the same of a check that passes with no value
abbrev pub FailsOr : Type 0 → (Refusal → Type 0) → (Refusal → Type 0) → Refusal → Type 0
FailsOr Passes Refuses later = Fails {X = Unit {0}} (λ ok. Passes) Refuses (λ ok. later)

-- the checks in their order, from the last to the first
abbrev pub AfterCaps : Scenario → List Opened → List Binding → Refusal → Type 0
AfterCaps s os cpus = FailsOr (StartInside os cpus (length cpus)) (StartRefused os cpus) (ActionRefused s)

abbrev pub AfterCpus : Scenario → List Opened → List Binding → Refusal → Type 0
AfterCpus s os cpus = FailsOr (AreCapsRight os s.caps (length s.caps)) (CapRefused os s.caps) (AfterCaps s os cpus)

abbrev pub AfterMemories : Scenario → List Opened → Refusal → Type 0
AfterMemories s os = Fails (AreBound os s.cpus) (CpuRefused os s.cpus) (AfterCpus s os)

abbrev pub AfterOpens : Scenario → Table → Refusal → Type 0
AfterOpens s t = FailsOr (AreApart (memories_by t s.opens)) (MeetRefused (memories_by t s.opens)) (AfterMemories s (opened_by t s.opens))

abbrev pub AfterTable : Scenario → Table → Refusal → Type 0
AfterTable s t = FailsOr (AllOpen t s.opens (length s.opens)) (OpenRefused t s.opens) (AfterOpens s t)

-- The first check that a script fails. Where a line is wrong, those before it are right.
abbrev pub SetUpRefused : Scenario → Refusal → Type 0
SetUpRefused s = Fails (TableBytes s.table) (TableRefused s.table) (AfterTable s)

-- a script with this table passes each check; its processors have these bindings
pub record IsSetUp (s : Scenario) (t : Table) : Type 0 where
  pub table : TableBytes s.table t
  pub all_open : AllOpen t s.opens (length s.opens)
  pub apart : AreApart (memories_by t s.opens)
  pub cpus : List Binding
  pub bound : AreBound (opened_by t s.opens) s.cpus cpus
  pub capped : AreCapsRight (opened_by t s.opens) s.caps (length s.caps)
  pub inside : StartInside (opened_by t s.opens) cpus (length cpus)
  pub named : AllNamed s (length s.actions)

-- these subspaces are what a script opens, which passes each check; each has the processors and the caps with its ID
pub record Opens (s : Scenario) (opened : List Opened) : Type 0 where
  pub table : Table
  pub checked : IsSetUp s table
  pub list_is : opened ≡ map (equipped checked.cpus s.caps) (opened_by table s.opens)

-- a set-up has what a script opens, and the place of each processor
pub record IsSetUpOf (s : Scenario) (u : SetUp) : Type 0 where
  pub opens : Opens s u.opened
  pub places : (h : Opens s u.opened) → ArePlaces u.opened h.checked.cpus u.places

-- ---- right, or refused

-- bytes are those of a table, and nothing else
pub record IsWholeTable (bytes : List ℕ) : Type 0 where
  pub table : Table
  pub spelled : TableBytes bytes table

-- bytes are refused as a table
pub record HasTableRefusal (bytes : List ℕ) : Type 0 where
  pub cause : Refusal
  pub refused : TableRefused bytes cause

-- a script passes each check, with some table
pub record HasSetUp (s : Scenario) : Type 0 where
  pub table : Table
  pub checked : IsSetUp s table

-- a script fails a check
pub record HasRefusal (s : Scenario) : Type 0 where
  pub cause : Refusal
  pub refused : SetUpRefused s cause

-- ---- what a caller gets

-- the text of an error, if it has one, is the line of such a refusal
abbrev pub IfLine : (Refusal → Type 0) → SetUpError → Type 0
IfLine cause (error.Refused text) = (r : Refusal) × cause r × HasLine r × (text ≡ refused_line r)
IfLine cause error.NoMemory = Unit {0}
