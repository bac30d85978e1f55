-- What the parts of the reader tell. Only contracts of private functions cite these.
use Rattle.std.specs.Prelude.{◌≡◌, ◌≤◌, ◌+◌, ℕ, suc, List, ◌++◌, length, Option, None, IfSome}
use Rattle.std.specs.List.{AllByRecursion}
use Rattle.pcc_bytes.specs.Fields.{lines_of}
use Rattle.pcc_text.specs.Pieces.{spelled}
use Rattle.pcc_journal.specs.declared.record.Record.{Record}
use Rattle.pcc_journal.specs.declared.record.Pending.{Pending}
use Rattle.pcc_journal.specs.declared.text.JournalHead.{JournalHead}
use Rattle.pcc_journal.specs.JournalText.{end_line, pending_text, records_text}
use Rattle.journal_reading.specs.declared.told.AuditKind.{AuditKind}
use Rattle.journal_reading.specs.declared.told.AuditKind.TheVariants as kind
use Rattle.journal_reading.specs.declared.told.Told.{Told}
use Rattle.journal_reading.specs.Told.{IsPending, IsRecord, IsTold, most_records, told_text}
use Rattle.journal_reading.specs.Faults.{IsPendingLine, IsRecordLine}

-- a text has one line more than what follows its first line
abbrev pub OneLess : List ℕ → List ℕ → Type 0
OneLess text rest = length (lines_of text) ≡ suc (length (lines_of rest))

-- all lines of records at the front of a text, if a journal may have so many
pub record AllRecords (text : List ℕ) (records : List Record) (rest : List ℕ) : Type 0 where
  pub right : AllByRecursion IsRecord records
  pub few : length records ≤ most_records
  pub is : text ≡ records_text 0 records ++ rest
  pub last : IsRecordLine (length records) rest → ⊥
  pub lines : length (lines_of text) ≡ length records + length (lines_of rest)

-- one line of a record too many, where the first line of the text has the number `first`
pub record TooMany (first : ℕ) (text : List ℕ) (line : ℕ) (k : AuditKind) : Type 0 where
  pub records : List Record
  pub rest : List ℕ
  pub right : AllByRecursion IsRecord records
  pub full : length records ≡ most_records
  pub is : text ≡ records_text 0 records ++ rest
  pub more : IsRecordLine most_records rest
  pub line_is : line ≡ first + length records
  pub kind_is : k ≡ kind.Many

-- the line of a pending command at the front of a text, if there is one
pub record AnyPending (text : List ℕ) (pending : Option Pending) (rest : List ℕ) : Type 0 where
  pub right : IfSome pending IsPending
  pub is : text ≡ pending_text pending ++ rest
  pub none : pending ≡ None → IsPendingLine rest → ⊥

-- the last line at the front of a text
pub record EndAt (text : List ℕ) (head : JournalHead) (rest : List ℕ) : Type 0 where
  pub is : text ≡ spelled (end_line head) ++ rest

-- the front of a text is a journal's, and this follows
pub record IsFront (text : List ℕ) (t : Told) (rest : List ℕ) : Type 0 where
  pub right : IsTold t
  pub is : text ≡ told_text t ++ rest
