-- What a told journal is worth. Its commands are numbered from 0, its records first and then the pending one; of the first command with a
-- flaw the first flaw is told.
use Rattle.std.specs.Prelude.{◌≡◌, ◌<◌, ◌≤◌, ℕ, true, List, [], ◌∷◌, length, take, slice_index_or, Option, Some, None, IfSome}
use Rattle.pcc_history.specs.Devices.{Device}
use Rattle.pcc_history.specs.Histories.{Legal, space_after, state_after}
use Rattle.rate_limit.specs.RateLimits.{earliest_of}
use Rattle.pcc_journal.specs.Records.{exchange_of_record, exchanges_of, times_of}
use Rattle.pcc_journal.specs.declared.record.Record.{Record}
use Rattle.pcc_journal.specs.declared.record.Pending.{Pending}
use Rattle.pcc_journal.specs.declared.text.JournalHead.{JournalHead}
use Rattle.cpc_package.specs.declared.binding.Binding.{Binding}
use Rattle.cppc_headline.specs.Journals.{AreInRange, IsUntouched}
use Rattle.journal_reading.specs.declared.told.Told.{Told}
use Rattle.pcc_audit.specs.declared.verdict.Flaw.{Flaw}
use Rattle.pcc_audit.specs.declared.verdict.Flaw.TheVariants.{Head, Size, Limits, Touched, Range, Legal as Reply}
use Rattle.pcc_audit.specs.declared.verdict.Verdict.{Verdict}
use Rattle.pcc_audit.specs.declared.verdict.Verdict.TheVariants.{Yes, No}

-- what a journal is judged by: the head that its subspace gives, the meaning of its device with the state at the start, the opening space,
-- and the processors
pub record Board : Type 0 where
  pub head : JournalHead
  pub exec : Device
  pub start : List ℕ
  pub opening : List ℕ
  pub cpus : List Binding

-- ---- the demands on a command, by the records before it

abbrev pub HasRoom : Board → List ℕ → Type 0
HasRoom b space = length space ≡ b.head.room

-- the post is as late as the limits ask
abbrev pub IsInTime : Board → List Record → ℕ → Type 0
IsInTime b before post = earliest_of b.head.limits (times_of before) ≤ post

-- a controller's input changes what its code may change
abbrev pub KeepsFields : Board → List Record → ℕ → List ℕ → Type 0
KeepsFields b before code input =
    b.head.cppc ≡ true → IsUntouched b.cpus (space_after b.opening (exchanges_of before)) code input

-- a controller's input that writes has every processor in its range
abbrev pub KeepsRanges : Board → ℕ → List ℕ → Type 0
KeepsRanges b code input = b.head.cppc ≡ true → code ≡ 1 → AreInRange b.cpus input

-- error and output are the device's, in the state that it has as the command begins
abbrev pub IsLegal : Board → List Record → Record → Type 0
IsLegal b before r = Legal b.exec b.head.reports (state_after b.exec b.start (exchanges_of before)) (exchange_of_record r ∷ [])

-- ---- the first flaw of a command

-- the first of these demands that isn't kept, in their order
abbrev pub FirstFlaw : (size limits touched range legal : Type 0) → Option Flaw → Type 0
FirstFlaw size limits touched range legal None = size × limits × touched × range × legal
FirstFlaw size limits touched range legal (Some Head) = ⊥
FirstFlaw size limits touched range legal (Some Size) = size → ⊥
FirstFlaw size limits touched range legal (Some Limits) = size × (limits → ⊥)
FirstFlaw size limits touched range legal (Some Touched) = size × limits × (touched → ⊥)
FirstFlaw size limits touched range legal (Some Range) = size × limits × touched × (range → ⊥)
FirstFlaw size limits touched range legal (Some Reply) = size × limits × touched × range × (legal → ⊥)

-- of a record, after the records before it
abbrev pub RecordFlaw : Board → List Record → Record → Option Flaw → Type 0
RecordFlaw b before r flaw =
    FirstFlaw (HasRoom b r.input × HasRoom b r.output) (IsInTime b before r.post) (KeepsFields b before r.code r.input)
    (KeepsRanges b r.code r.input) (IsLegal b before r) flaw

-- of a pending command, of whose reply nothing is told
abbrev pub PendingFlaw : Board → List Record → Pending → Option Flaw → Type 0
PendingFlaw b before p flaw =
    FirstFlaw (HasRoom b p.input) (IsInTime b before p.post) (KeepsFields b before p.code p.input) (KeepsRanges b p.code p.input) (Unit {0}) flaw

-- the flaw of the record with a number, or none
abbrev pub FlawAt : Board → List Record → ℕ → Option Flaw → Type 0
FlawAt b records k flaw = (d : Record) → RecordFlaw b (take k records) (slice_index_or records k d) flaw

-- the first n records have none
abbrev pub AreFlawless : Board → List Record → ℕ → Type 0
AreFlawless b records n = (k : ℕ) → k < n → FlawAt b records k None

-- ---- the verdict

pub data IsVerdict (b : Board) (t : Told) : Verdict → Type 0 where
  WrongHead : (t.head ≡ b.head → ⊥) → IsVerdict b t (No 0 Head)
  WrongRecord : t.head ≡ b.head → (n : ℕ) (flaw : Flaw) → n < length t.records → AreFlawless b t.records n → FlawAt b t.records n (Some flaw)
      → IsVerdict b t (No n flaw)
  WrongPending : t.head ≡ b.head → AreFlawless b t.records (length t.records) → (p : Pending) (flaw : Flaw) → t.pending ≡ Some p
      → PendingFlaw b t.records p (Some flaw) → IsVerdict b t (No (length t.records) flaw)
  Flawless : t.head ≡ b.head → AreFlawless b t.records (length t.records) → IfSome t.pending (λ p. PendingFlaw b t.records p None)
      → IsVerdict b t Yes

-- a journal that has a verdict
pub record HasVerdict (b : Board) (t : Told) : Type 0 where
  pub verdict : Verdict
  pub is : IsVerdict b t verdict
