-- Journals are read from a text in turn.
use Rattle.std.proofs.Common.{◌≡◌, ℕ, ◌+◌, ◌^◌, ◌<◌, ◌≤◌, List, [], ◌∷◌, ◌++◌, length, drop, refl, sym, ap, ◌∙◌, subst, arith}
use Rattle.std.specs.List.{AllByRecursion}
use Rattle.std.proofs.Math.Seq.{drop-append_seam}
use Rattle.std.proofs.lemmas.Grind.{flat_map-append}
use Rattle.std.proofs.lemmas.List.{append-nil, append_assoc, length-append}
use Rattle.pcc_bytes.specs.Fields.{lines_of}
use Rattle.journal_reading.specs.declared.told.AuditError.{AuditError}
use Rattle.journal_reading.specs.declared.told.AuditError.TheVariants as error
use Rattle.journal_reading.specs.declared.told.AuditKind.TheVariants as kind
use Rattle.journal_reading.specs.declared.told.Told.{Told}
use Rattle.journal_reading.specs.Faults.{HoldsOf, JournalWrong, Tells}
use Rattle.journal_reading.specs.Told.{IsTold, told_text}
use Rattle.audit_run.specs.Journals.{AreJournals, JournalsWrong, LineAfter, WrongJournal, journals_text}
use Rattle.audit_run.proofs.JournalLines.{lines_of-append}

pub journals_push : (ts : List Told) (t : Told) → journals_text (ts ++ t ∷ []) ≡ journals_text ts ++ told_text t
journals_push ts t = flat_map-append told_text ts (t ∷ []) ∙ ap (λ (v : List ℕ). journals_text ts ++ v) (append-nil (told_text t))

pub right_push : (ts : List Told) (t : Told) → AllByRecursion IsTold ts → IsTold t → AllByRecursion IsTold (ts ++ t ∷ [])
right_push [] t all right = (right, tt)
right_push (u ∷ ts) t all right = (all.0, right_push ts t all.1 right)

-- ---- the loop

-- so many journals were read, and this is left, whose first line has this number
pub record Reading (first : ℕ) (text : List ℕ) (i : ℕ) (ts : List Told) (rest : List ℕ) (line : ℕ) : Type 0 where
  pub right : AllByRecursion IsTold ts
  pub count_is : length ts ≡ i
  pub is : text ≡ journals_text ts ++ rest
  pub line_is : line ≡ first + length (lines_of (journals_text ts))

pub reading_start : (first : ℕ) (text : List ℕ) (ts : List Told) → ts ≡ [] → Reading first text 0 ts text first
reading_start first text ts e =
    let R : List Told → Type 0 = λ us. Reading first text 0 us text first in
    subst R (sym e) (record { right = tt; count_is = refl; is = refl; line_is = omega arith })

-- the lines that are left have numbers of 32 bits
pub reading_lines : (first : ℕ) (text : List ℕ) (i : ℕ) (ts : List Told) (rest : List ℕ) (line : ℕ) → first + length (lines_of text) < 2 ^ 32
    → Reading first text i ts rest line → line + length (lines_of rest) < 2 ^ 32
reading_lines first text i ts rest line few r =
    let line_is : line ≡ first + length (lines_of (journals_text ts)) = r.line_is in
    let all : length (lines_of text) ≡ length (lines_of (journals_text ts)) + length (lines_of rest) =
    ap (λ (v : List ℕ). length (lines_of v)) r.is ∙ lines_of-append (journals_text ts) rest in
    omega arith

pub told_right : (text : List ℕ) (t : Told) (long : ℕ) → Tells text t long → IsTold t
told_right text t long h = h.right

pub told_within : (text : List ℕ) (t : Told) (long : ℕ) → Tells text t long → long ≤ length text
told_within text t long h =
    let n : long ≡ length (told_text t) = h.length_is in
    let all : length text ≡ length (told_text t) + length h.rest = ap length h.is ∙ length-append (told_text t) h.rest in
    omega arith

pub told_lines : (text : List ℕ) (t : Told) (long : ℕ) → Tells text t long → length (lines_of (told_text t)) ≤ length (lines_of text)
told_lines text t long h =
    let all : length (lines_of text) ≡ length (lines_of (told_text t)) + length (lines_of h.rest) =
    ap (λ (v : List ℕ). length (lines_of v)) h.is ∙ lines_of-append (told_text t) h.rest in
    omega arith

pub reading_more : (first : ℕ) (text : List ℕ) (i : ℕ) (ts us : List Told) (t : Told) (rest : List ℕ) (long line : ℕ) → Tells rest t long
    → us ≡ ts ++ t ∷ [] → Reading first text i ts rest line → Reading first text (i + 1) us (drop long rest) (line + length (lines_of (told_text t)))
reading_more first text i ts us t rest long line h e r =
    let R : List Told → Type 0 = λ vs. Reading first text (i + 1) vs (drop long rest) (line + length (lines_of (told_text t))) in
    let count : length ts ≡ i = r.count_is in
    let len : length (ts ++ t ∷ []) ≡ length ts + 1 = length-append ts (t ∷ []) in
    let line_is : line ≡ first + length (lines_of (journals_text ts)) = r.line_is in
    let lines : length (lines_of (journals_text (ts ++ t ∷ []))) ≡ length (lines_of (journals_text ts)) + length (lines_of (told_text t)) =
    ap (λ (v : List ℕ). length (lines_of v)) (journals_push ts t) ∙ lines_of-append (journals_text ts) (told_text t) in
    let left : drop long rest ≡ h.rest = ap (λ (n : ℕ). drop n rest) h.length_is ∙ ap (drop (length (told_text t))) h.is ∙ drop-append_seam (told_text t) h.rest in
    subst R (sym e) (record {
      right = right_push ts t r.right h.right;
      count_is = omega arith;
      is =
          r.is ∙ ap (λ (v : List ℕ). journals_text ts ++ v) h.is ∙ sym (append_assoc (journals_text ts) (told_text t) h.rest)
          ∙ ap (λ (v : List ℕ). v ++ h.rest) (sym (journals_push ts t)) ∙ ap (λ (v : List ℕ). journals_text (ts ++ t ∷ []) ++ v) (sym left);
      line_is = omega arith;
    })

-- the next journal is wrong
pub reading_wrong : (first count : ℕ) (text : List ℕ) (i : ℕ) (ts : List Told) (rest : List ℕ) (line : ℕ) (e : AuditError) → i < count
    → HoldsOf e (JournalWrong line rest) → Reading first text i ts rest line → HoldsOf e (JournalsWrong first count text)
reading_wrong first count text i ts rest line error.NoMemory lt w r = tt
reading_wrong first count text i ts rest line (error.Fault n k) lt w r =
    let count_is : length ts ≡ i = r.count_is in
    let W : ℕ → Type 0 = λ m. JournalWrong m rest n k in
    WrongJournal ts rest (record { right = r.right; is = r.is }) (omega arith) n k (subst W r.line_is w)

-- another line follows the last journal
pub reading_after : (first count : ℕ) (text : List ℕ) (ts : List Told) (rest : List ℕ) (line : ℕ) → 1 ≤ length rest → Reading first text count ts rest line
    → JournalsWrong first count text line kind.Text
reading_after first count text ts rest line some r =
    let W : ℕ → Type 0 = λ n. JournalsWrong first count text n kind.Text in
    subst W (sym r.line_is) (LineAfter ts rest (record { right = r.right; is = r.is }) r.count_is some)

no_bytes : (rest : List ℕ) → length rest ≡ 0 → rest ≡ []
no_bytes [] e = refl
no_bytes (b ∷ rest) e = absurd (omega arith)

pub reading_end : (first count : ℕ) (text : List ℕ) (ts : List Told) (rest : List ℕ) (line : ℕ) → length rest ≡ 0 → Reading first text count ts rest line
    → AreJournals count text ts
reading_end first count text ts rest line none r = record {
  right = r.right;
  count_is = r.count_is;
  is = r.is ∙ ap (λ (v : List ℕ). journals_text ts ++ v) (no_bytes rest none) ∙ append-nil (journals_text ts);
}

pub reading_fits : (first : ℕ) (text : List ℕ) (i : ℕ) (ts : List Told) (t : Told) (rest : List ℕ) (long line : ℕ) → first + length (lines_of text) < 2 ^ 32
    → Tells rest t long → Reading first text i ts rest line → line + length (lines_of (told_text t)) < 2 ^ 32
reading_fits first text i ts t rest long line few h r =
    let left : line + length (lines_of rest) < 2 ^ 32 = reading_lines first text i ts rest line few r in
    let some : length (lines_of (told_text t)) ≤ length (lines_of rest) = told_lines rest t long h in
    omega arith

pub ruleset in_turn = (reading_start, reading_lines, told_right, told_within, reading_fits, reading_more, reading_wrong, reading_after, reading_end)
