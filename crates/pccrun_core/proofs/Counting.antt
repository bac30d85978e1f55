-- How many lines a text has, and that they are no more than its bytes.
use Rattle.std.proofs.Common.{◌≡◌, ℕ, suc, ◌+◌, ◌≤◌, ◌<◌, ◌^◌, eqb, List, [], ◌∷◌, ◌++◌, length, ap, sym, ◌∙◌, arith}
use Rattle.std.proofs.lemmas.List.{append-nil, length-append}
use Rattle.std.proofs.lemmas.List.Splits.{length-slice_split}
use Rattle.std.proofs.lemmas.List.Sums.{count_by-le-length}
use Rattle.pcc_bytes.specs.Fields.{front_of, lines_of, split_at}
use Rattle.pcc_text.proofs.Lines.{begins}
use Rattle.audit_run.specs.Cuts.{IsCut, JournalsFrom, NoJournals}
use Rattle.pccrun_core.specs.Answers.{input_limit}

-- ---- lines

front_length : (parts : List (List ℕ)) → 1 ≤ length parts → length (front_of parts) + 1 ≡ length parts
front_length [] h = absurd (omega arith)
front_length (x ∷ []) h = omega arith
front_length (x ∷ y ∷ ys) h =
    let more : length (front_of (y ∷ ys)) + 1 ≡ length (y ∷ ys) = front_length (y ∷ ys) (omega arith) in
    omega arith

few_lines : (text : List ℕ) → length (lines_of text) ≤ length text
few_lines text =
    let parts = length-slice_split (λ b. eqb b 10) text in
    let cuts = count_by-le-length (λ b. eqb b 10) text in
    let front = front_length (split_at 10 text) (omega (arith, parts)) in
    omega (arith, parts, cuts, front)

-- so many lines were cut off a text, and the rest is left
pub record Counted (text rest : List ℕ) (count : ℕ) : Type 0 where
  pub lines : count + length (lines_of rest) ≡ length (lines_of text)

pub count_start : (text : List ℕ) → Counted text text 0
count_start text = record { lines = omega arith }

pub count_more : (text rest line next : List ℕ) (count : ℕ) → Counted text rest count → split_at 10 rest ≡ line ∷ split_at 10 next → Counted text next (count + 1)
count_more text rest line next count h e =
    let less : length (lines_of rest) ≡ suc (length (lines_of next)) = ap length (begins rest line next e).lines in
    let before : count + length (lines_of rest) ≡ length (lines_of text) = h.lines in
    record { lines = omega (arith, less, before) }

pub count_fits : (text rest line next : List ℕ) (count : ℕ) → Counted text rest count → split_at 10 rest ≡ line ∷ split_at 10 next → length text < 2 ^ 32
    → count + 1 < 2 ^ 32
count_fits text rest line next count h e small =
    let less : length (lines_of rest) ≡ suc (length (lines_of next)) = ap length (begins rest line next e).lines in
    let before : count + length (lines_of rest) ≡ length (lines_of text) = h.lines in
    let most = few_lines text in
    omega (arith, less, before, most, small)

pub count_end : (text rest : List ℕ) (count : ℕ) → Counted text rest count → split_at 10 rest ≡ rest ∷ [] → count ≡ length (lines_of text)
count_end text rest count h e =
    let none : length (lines_of rest) ≡ 0 = ap (λ (v : List (List ℕ)). length (front_of v)) e in
    let before : count + length (lines_of rest) ≡ length (lines_of text) = h.lines in
    omega (arith, none, before)

-- ---- the parts of an input

cut_whole : (input script journals : List ℕ) → IsCut input script journals → input ≡ script ++ journals
cut_whole input script journals (NoJournals h) = sym (append-nil input)
cut_whole input script journals (JournalsFrom lines _ h k e) = e

pub part_short : (input script journals : List ℕ) → IsCut input script journals → length input ≤ input_limit → length script ≤ input_limit
part_short input script journals cut few =
    let len : length input ≡ length script + length journals = ap length (cut_whole input script journals cut) ∙ length-append script journals in
    omega (arith, len, few)

-- the lines of both parts have numbers of 32 bits
pub numbers_fit : (input script journals : List ℕ) (count : ℕ) → IsCut input script journals → length input ≤ input_limit → count ≡ length (lines_of script)
    → count + 1 + length (lines_of journals) < 2 ^ 32
numbers_fit input script journals count cut few e =
    let len : length input ≡ length script + length journals = ap length (cut_whole input script journals cut) ∙ length-append script journals in
    let first = few_lines script in
    let second = few_lines journals in
    omega (arith, len, few, e, first, second)

pub ruleset counting = (count_start, count_more, count_end)
