-- A journal that a text tells: each number is in the range of its field. Nothing else is asked of it.
use Rattle.std.specs.Prelude.{◌≤◌, ℕ, List, length, IfSome}
use Rattle.std.specs.List.{AllByRecursion}
use Rattle.pcc_bytes.specs.Bytes.{IsBytes}
use Rattle.pcc_journal.specs.declared.record.Record.{Record}
use Rattle.pcc_journal.specs.declared.record.Pending.{Pending}
use Rattle.pcc_journal.specs.declared.text.JournalHead.{JournalHead}
use Rattle.pcc_journal.specs.JournalText.{journal_text}
use Rattle.journal_reading.specs.declared.told.Told.{Told}

-- the greatest numbers of 8, 32 and 64 bits
abbrev pub most_8 : ℕ
most_8 = 255

abbrev pub most_32 : ℕ
most_32 = 4294967295

abbrev pub most_64 : ℕ
most_64 = 18446744073709551615

-- the records of a journal at most
abbrev pub most_records : ℕ
most_records = 4096

pub record IsHead (head : JournalHead) : Type 0 where
  pub id : head.id ≤ most_8
  pub kind : head.kind ≤ most_8
  pub room : head.room ≤ most_32
  pub turnaround : head.limits.turnaround ≤ most_32
  pub rate : head.limits.per_minute ≤ most_32

pub record IsRecord (r : Record) : Type 0 where
  pub caller : r.caller ≤ most_32
  pub code : r.code ≤ most_32
  pub post : r.post ≤ most_64
  pub done : r.done ≤ most_64
  pub input : IsBytes r.input
  pub output : IsBytes r.output

pub record IsPending (p : Pending) : Type 0 where
  pub caller : p.caller ≤ most_32
  pub code : p.code ≤ most_32
  pub post : p.post ≤ most_64
  pub input : IsBytes p.input

-- a journal that a text tells, of 4,096 records at most
pub record IsTold (t : Told) : Type 0 where
  pub head : IsHead t.head
  pub records : AllByRecursion IsRecord t.records
  pub few : length t.records ≤ most_records
  pub pending : IfSome t.pending IsPending

-- its one text
abbrev pub told_text : Told → List ℕ
told_text t = journal_text t.head t.records t.pending
