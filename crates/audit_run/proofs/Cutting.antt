-- The lines of an input, one after the other, up to the first one that begins the journals.
use Rattle.std.proofs.Common.{◌≡◌, ℕ, ◌+◌, ◌-◌, ◌≤◌, true, false, List, [], ◌∷◌, ◌++◌, length, take, drop, refl, sym, ap, ◌∙◌, subst, arith}
use Rattle.std.specs.Prelude.{slice_index_or}
use Rattle.std.specs.List.{AllByRecursion, flat_map}
use Rattle.std.proofs.Math.Seq.{drop-append_seam, take-append_seam}
use Rattle.std.proofs.lemmas.Grind.{flat_map-append}
use Rattle.std.proofs.lemmas.List.{append-nil, append_assoc, length-append}
use Rattle.pcc_bytes.specs.Fields.{IsOneLine, line_text, split_at}
use Rattle.pcc_text.proofs.Laws.{EachLacks}
use Rattle.pcc_text.proofs.Lines.{split_lacks, split_more}
use Rattle.journal_reading.proofs.Cuts.{cut_text}
use Rattle.audit_run.specs.Cuts.{IsCut, IsScriptLine, JournalsFrom, NoJournals, first_line, is_journal}

-- ---- lists of lines

pub lines_push : (lines : List (List ℕ)) (line : List ℕ) → AllByRecursion IsScriptLine lines → IsScriptLine line → AllByRecursion IsScriptLine (lines ++ line ∷ [])
lines_push [] line all here = (here, tt)
lines_push (l ∷ lines) line all here = (all.0, lines_push lines line all.1 here)

pub lines_lack : (lines : List (List ℕ)) → AllByRecursion IsScriptLine lines → EachLacks 10 lines
lines_lack [] all = tt
lines_lack (l ∷ lines) all = (all.0.one, lines_lack lines all.1)

-- the first part of a text is one line
pub part_one : (text line : List ℕ) (parts : List (List ℕ)) → split_at 10 text ≡ line ∷ parts → IsOneLine line
part_one text line parts e = (subst (EachLacks 10) e (split_lacks 10 text)).0

pub first_is : (text line : List ℕ) (parts : List (List ℕ)) → split_at 10 text ≡ line ∷ parts → first_line text ≡ line
first_is text line parts e = ap (λ (v : List (List ℕ)). slice_index_or v 0 []) e

-- ---- the loop

-- lines of the script part were passed, and this is left
pub record Passed (input rest : List ℕ) : Type 0 where
  pub lines : List (List ℕ)
  pub right : AllByRecursion IsScriptLine lines
  pub is : input ≡ flat_map line_text lines ++ rest

pub passed_none : (input : List ℕ) → Passed input input
passed_none input = record { lines = []; right = tt; is = refl }

pub passed_more : (input rest line next : List ℕ) → split_at 10 rest ≡ line ∷ split_at 10 next → is_journal line ≡ false → Passed input rest
    → Passed input next
passed_more input rest line next e other p = record {
  lines = p.lines ++ line ∷ [];
  right = lines_push p.lines line p.right (record { one = part_one rest line (split_at 10 next) e; other = other });
  is =
      p.is ∙ ap (λ (v : List ℕ). flat_map line_text p.lines ++ v) (cut_text rest line next e ∙ behind line next)
      ∙ sym (append_assoc (flat_map line_text p.lines) (flat_map line_text (line ∷ [])) next)
      ∙ ap (λ (v : List ℕ). v ++ next) (sym (flat_map-append line_text p.lines (line ∷ [])));
}
  where
    behind : (line next : List ℕ) → line ++ 10 ∷ next ≡ flat_map line_text (line ∷ []) ++ next
    behind line next = sym (ap (λ (v : List ℕ). v ++ next) (append-nil (line ++ 10 ∷ [])) ∙ append_assoc line (10 ∷ []) next)

pub passed_within : (input rest : List ℕ) → Passed input rest → length rest ≤ length input
passed_within input rest p =
    let all : length input ≡ length (flat_map line_text p.lines) + length rest = ap length p.is ∙ length-append (flat_map line_text p.lines) rest in
    omega arith

-- what is left begins with a line that begins the journals
pub cut_here : (input rest line : List ℕ) (parts : List (List ℕ)) → split_at 10 rest ≡ line ∷ parts → is_journal line ≡ true → Passed input rest
    → IsCut input (take (length input - length rest) input) (drop (length input - length rest) input)
cut_here input rest line parts e journal p =
    let script : List ℕ = flat_map line_text p.lines in
    let all : length input ≡ length script + length rest = ap length p.is ∙ length-append script rest in
    let place : length input - length rest ≡ length script = omega arith in
    let front : take (length input - length rest) input ≡ script = ap (λ (n : ℕ). take n input) place ∙ ap (take (length script)) p.is ∙ take-append_seam script rest in
    let behind : drop (length input - length rest) input ≡ rest = ap (λ (n : ℕ). drop n input) place ∙ ap (drop (length script)) p.is ∙ drop-append_seam script rest in
    let F : List ℕ → Type 0 = λ v. IsCut input v rest in
    let B : List ℕ → Type 0 = λ v. IsCut input (take (length input - length rest) input) v in
    subst B (sym behind) (subst F (sym front) (JournalsFrom p.lines rest p.right (ap is_journal (first_is rest line parts e) ∙ journal) p.is))

-- no line begins the journals
pub cut_nowhere : (input rest : List ℕ) → split_at 10 rest ≡ rest ∷ [] → is_journal rest ≡ false → Passed input rest → IsCut input input []
cut_nowhere input rest e other p =
    let parts : split_at 10 input ≡ p.lines ++ rest ∷ [] =
    ap (split_at 10) p.is ∙ split_more p.lines rest (lines_lack p.lines p.right) ∙ ap (λ (v : List (List ℕ)). p.lines ++ v) e in
    NoJournals (subst (AllByRecursion IsScriptLine) (sym parts) (lines_push p.lines rest p.right (record { one = part_one rest rest [] e; other = other })))

pub ruleset passes = (passed_none, passed_more, passed_within, cut_here, cut_nowhere)
