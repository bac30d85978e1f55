-- What is written of the journals of the opened subspaces.
use Rattle.std.specs.Prelude.{◌≡◌, ℕ, Bool, true, false, List, [], ◌∷◌, ◌++◌, codes, length, slice_get, take, Some}
use Rattle.std.specs.List.{AllZip}
use Rattle.pcc_text.specs.Pieces.{Spelled, Words, Decimal, spelled}
use Rattle.journal_reading.specs.declared.told.Told.{Told}
use Rattle.pcc_audit.specs.declared.verdict.Flaw.{Flaw}
use Rattle.pcc_audit.specs.declared.verdict.Flaw.TheVariants as flaw
use Rattle.pcc_audit.specs.declared.verdict.Verdict.TheVariants.{Yes, No}
use Rattle.pcc_audit.specs.Verdicts.{IsVerdict}
use Rattle.pcc_setup.specs.declared.opening.Opened.{Opened}
use Rattle.audit_run.specs.Boards.{board_of}
use Rattle.audit_run.specs.Journals.{AreJournals}

abbrev pub flaw_word : Flaw → List ℕ
flaw_word flaw.Head = codes " head\n"
flaw_word flaw.Size = codes " size\n"
flaw_word flaw.Limits = codes " limits\n"
flaw_word flaw.Touched = codes " touched\n"
flaw_word flaw.Range = codes " range\n"
flaw_word flaw.Legal = codes " legal\n"

-- yes ID RECORDS
abbrev pub yes_line : Opened → Told → List Spelled
yes_line o t = Words (codes "yes ") ∷ Decimal o.head.id ∷ Words (codes " ") ∷ Decimal (length t.records) ∷ Words (codes "\n") ∷ []

-- no ID RECORD FLAW
abbrev pub no_line : Opened → ℕ → Flaw → List Spelled
no_line o number flaw = Words (codes "no ") ∷ Decimal o.head.id ∷ Words (codes " ") ∷ Decimal number ∷ Words (flaw_word flaw) ∷ []

-- one line for each journal
abbrev pub yes_text : List Opened → List Told → List ℕ
yes_text (o ∷ os) (t ∷ ts) = spelled (yes_line o t) ++ yes_text os ts
yes_text _ _ = []

-- a journal is right for its subspace
abbrev pub IsRight : Opened → Told → Type 0
IsRight o t = IsVerdict (board_of o) t Yes

-- The journals of the opened subspaces are judged in order. Where all are right, a line is written for each. Else the first flaw of the first one
-- that is wrong is written, in one line.
pub data IsJudged (os : List Opened) (ts : List Told) : Bool → List ℕ → Type 0 where
  AllRight : AllZip IsRight os ts → IsJudged os ts false (yes_text os ts)
  FirstWrong : (k : ℕ) → (o : Opened) → (t : Told) → slice_get os k ≡ Some o → slice_get ts k ≡ Some t
      → AllZip IsRight (take k os) (take k ts) → (number : ℕ) → (flaw : Flaw) → IsVerdict (board_of o) t (No number flaw)
      → IsJudged os ts true (spelled (no_line o number flaw))

-- Whether a flaw was found in the journals that a text spells, and what is written of them.
pub record IsAuditOf (os : List Opened) (text : List ℕ) (flawed : Bool) (written : List ℕ) : Type 0 where
  pub journals : List Told
  pub are : AreJournals (length os) text journals
  pub judged : IsJudged os journals flawed written
