-- The journals of a text, one after the other.
use Rattle.std.specs.Prelude.{◌≡◌, ◌≤◌, ◌<◌, ◌+◌, ℕ, List, ◌++◌, length}
use Rattle.std.specs.List.{AllByRecursion, flat_map}
use Rattle.pcc_bytes.specs.Fields.{lines_of}
use Rattle.journal_reading.specs.declared.told.AuditKind.{AuditKind}
use Rattle.journal_reading.specs.declared.told.AuditKind.TheVariants as kind
use Rattle.journal_reading.specs.declared.told.Told.{Told}
use Rattle.journal_reading.specs.Faults.{JournalWrong}
use Rattle.journal_reading.specs.Told.{IsTold, told_text}

-- the text of some journals
abbrev pub journals_text : List Told → List ℕ
journals_text ts = flat_map told_text ts

-- a text begins with these journals
pub record BeginsWith (text : List ℕ) (ts : List Told) (rest : List ℕ) : Type 0 where
  pub right : AllByRecursion IsTold ts
  pub is : text ≡ journals_text ts ++ rest

-- a text is that of so many journals, and nothing else
pub record AreJournals (count : ℕ) (text : List ℕ) (ts : List Told) : Type 0 where
  pub right : AllByRecursion IsTold ts
  pub count_is : length ts ≡ count
  pub is : text ≡ journals_text ts

-- The first fault of a text that isn't that of so many journals, by the number of its line; that of the first line is `first`. After some of the
-- journals the text of the next one is wrong; or another line follows the last one. Bytes without a line feed are a line here.
pub data JournalsWrong (first count : ℕ) (text : List ℕ) : ℕ → AuditKind → Type 0 where
  WrongJournal : (ts : List Told) → (rest : List ℕ) → BeginsWith text ts rest → length ts < count → (line : ℕ) → (k : AuditKind)
      → JournalWrong (first + length (lines_of (journals_text ts))) rest line k → JournalsWrong first count text line k
  LineAfter : (ts : List Told) → (rest : List ℕ) → BeginsWith text ts rest → length ts ≡ count → 1 ≤ length rest
      → JournalsWrong first count text (first + length (lines_of (journals_text ts))) kind.Text

-- a text is that of so many journals
pub record HasJournals (count : ℕ) (text : List ℕ) : Type 0 where
  pub journals : List Told
  pub are : AreJournals count text journals

-- a text is wrong
pub record HasWrong (first count : ℕ) (text : List ℕ) : Type 0 where
  pub line : ℕ
  pub kind : AuditKind
  pub wrong : JournalsWrong first count text line kind
