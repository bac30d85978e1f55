-- How many lines a journal has in its text.
use Rattle.std.proofs.Common.{◌≡◌, ℕ, ◌+◌, ◌^◌, ◌<◌, ◌≤◌, eqb, cond, List, [], ◌∷◌, ◌++◌, length, refl, sym, ap, ◌∙◌, arith}
use Rattle.std.specs.Prelude.{Option, Some, None, IfSome, codes}
use Rattle.std.specs.List.{AllByRecursion, count_by}
use Rattle.std.proofs.lemmas.List.{append-nil, length-append}
use Rattle.std.proofs.lemmas.List.Splits.{length-slice_split}
use Rattle.std.proofs.lemmas.List.Sums.{sum_by-append}
use Rattle.pcc_bytes.specs.Fields.{joined, last_in, lines_of, split_at}
use Rattle.pcc_text.specs.Pieces.{spelled}
use Rattle.pcc_text.proofs.Lines.{parts_are, split_some}
use Rattle.pcc_journal.specs.declared.record.Record.{Record}
use Rattle.pcc_journal.specs.declared.record.Pending.{Pending}
use Rattle.pcc_journal.specs.declared.text.JournalHead.{JournalHead}
use Rattle.pcc_journal.specs.JournalText.{end_line, head_line, journal_text, pending_line, pending_text, record_line, records_text}
use Rattle.journal_reading.specs.declared.told.Told.{Told}
use Rattle.journal_reading.specs.Told.{IsHead, IsPending, IsRecord, IsTold, most_records, told_text}
use Rattle.journal_reading.specs.Faults.{pending_lines}
use Rattle.journal_reading.specs.Parts.{OneLess}
use Rattle.journal_reading.specs.Rows.{Step, Value, Word, end_row, head_row, head_values, pending_row, pending_values, record_row, record_values, words}
use Rattle.journal_reading.proofs.Cuts.{cut_line, one_less}
use Rattle.journal_reading.proofs.Found.{end_as_line, end_is_row, head_as_line, head_is_row, later, pending_as_line, pending_is_row, record_as_line, record_is_row}
use Rattle.journal_reading.proofs.RowLines.{IsLine, IsRow}
use Rattle.journal_reading.proofs.RowReading.{each_lacks, feed}

-- ---- lines of texts, one after the other

-- a text has as many lines as line feeds
lines_are_feeds : (text : List ℕ) → length (lines_of text) ≡ count_by (λ b. eqb b 10) text
lines_are_feeds text =
    let parts : length (split_at 10 text) ≡ count_by (λ (b : ℕ). eqb b 10) text + 1 = length-slice_split (λ b. eqb b 10) text in
    let split : length (split_at 10 text) ≡ length (lines_of text) + 1 =
    ap length (parts_are (split_at 10 text) (split_some 10 text)) ∙ length-append (lines_of text) (last_in text ∷ []) in
    omega arith

pub lines_of-append : (a b : List ℕ) → length (lines_of (a ++ b)) ≡ length (lines_of a) + length (lines_of b)
lines_of-append a b =
    let one : length (lines_of a) ≡ count_by (λ (x : ℕ). eqb x 10) a = lines_are_feeds a in
    let other : length (lines_of b) ≡ count_by (λ (x : ℕ). eqb x 10) b = lines_are_feeds b in
    let both : length (lines_of (a ++ b)) ≡ count_by (λ (x : ℕ). eqb x 10) (a ++ b) = lines_are_feeds (a ++ b) in
    let sums : count_by (λ (x : ℕ). eqb x 10) (a ++ b) ≡ count_by (λ (x : ℕ). eqb x 10) a + count_by (λ (x : ℕ). eqb x 10) b =
    sum_by-append (λ (x : ℕ). cond {A = ℕ} (eqb x 10) 1 0) a b in
    omega arith

-- ---- one line

line_less : (n : ℕ) (w : List ℕ) (ss : List Step) (text rest : List ℕ) (vs : List Value) → IsRow n w ss → IsLine w ss text vs rest → OneLess text rest
line_less n w ss text rest vs row h =
    one_less text (joined (words (Word w ∷ ss) vs)) rest (cut_line w (words ss vs) rest text (each_lacks 10 (Word w ∷ ss) vs feed row.feeds h.fit) h.is)

-- a text that is one line
one : (text : List ℕ) → OneLess (text ++ []) [] → length (lines_of text) ≡ 1
one text h = ap (λ (v : List ℕ). length (lines_of v)) (sym (append-nil text)) ∙ h

head_one : (h : JournalHead) → IsHead h → length (lines_of (spelled (head_line h))) ≡ 1
head_one h right =
    let text = spelled (head_line h) ++ [] in
    one (spelled (head_line h)) (line_less 13 (codes "journal") (later head_row) text [] (head_values h) head_is_row (head_as_line text h [] (record { right = right; is = refl })))

record_one : (place : ℕ) (r : Record) → place < 2 ^ 64 → IsRecord r → length (lines_of (spelled (record_line place r))) ≡ 1
record_one place r small right =
    let text = spelled (record_line place r) ++ [] in
    one (spelled (record_line place r)) (line_less 16 (codes "record") (later (record_row place)) text [] (record_values r) (record_is_row place small) (record_as_line place text r [] (record { right = right; is = refl })))

pending_one : (p : Pending) → IsPending p → length (lines_of (spelled (pending_line p))) ≡ 1
pending_one p right =
    let text = spelled (pending_line p) ++ [] in
    one (spelled (pending_line p)) (line_less 9 (codes "pending") (later pending_row) text [] (pending_values p) pending_is_row (pending_as_line text p [] (record { right = right; is = refl })))

end_one : (h : JournalHead) → IsHead h → length (lines_of (spelled (end_line h))) ≡ 1
end_one h right =
    let text = spelled (end_line h) ++ [] in
    let small : h.id ≤ 255 = right.id in
    one (spelled (end_line h)) (line_less 2 (codes "end") (later (end_row h.id)) text [] [] (end_is_row h.id (omega arith)) (end_as_line h text [] refl))

-- ---- a journal

records_lines : (place : ℕ) (rs : List Record) → place + length rs ≤ most_records → AllByRecursion IsRecord rs
    → length (lines_of (records_text place rs)) ≡ length rs
records_lines place [] few all = refl
records_lines place (r ∷ rs) few all =
    let first : length (lines_of (spelled (record_line place r))) ≡ 1 = record_one place r (omega arith) all.0 in
    let more : length (lines_of (records_text (place + 1) rs)) ≡ length rs = records_lines (place + 1) rs (omega arith) all.1 in
    let both : length (lines_of (spelled (record_line place r) ++ records_text (place + 1) rs))
    ≡ length (lines_of (spelled (record_line place r))) + length (lines_of (records_text (place + 1) rs)) =
    lines_of-append (spelled (record_line place r)) (records_text (place + 1) rs) in
    omega arith

pending_count : (o : Option Pending) → IfSome o IsPending → length (lines_of (pending_text o)) ≡ pending_lines o
pending_count None h = refl
pending_count (Some p) h = pending_one p h

-- a head, its records, a pending command, and its end
pub journal_lines : (t : Told) → IsTold t → length (lines_of (told_text t)) ≡ 2 + length t.records + pending_lines t.pending
unfolding journal_text
journal_lines t right =
    let a = spelled (head_line t.head) in
    let b = records_text 0 t.records in
    let c = pending_text t.pending in
    let d = spelled (end_line t.head) in
    let few : length t.records ≤ most_records = right.few in
    let na : length (lines_of a) ≡ 1 = head_one t.head right.head in
    let nb : length (lines_of b) ≡ length t.records = records_lines 0 t.records (omega arith) right.records in
    let nc : length (lines_of c) ≡ pending_lines t.pending = pending_count t.pending right.pending in
    let nd : length (lines_of d) ≡ 1 = end_one t.head right.head in
    let cd : length (lines_of (c ++ d)) ≡ length (lines_of c) + length (lines_of d) = lines_of-append c d in
    let bcd : length (lines_of (b ++ (c ++ d))) ≡ length (lines_of b) + length (lines_of (c ++ d)) = lines_of-append b (c ++ d) in
    let all : length (lines_of (a ++ (b ++ (c ++ d)))) ≡ length (lines_of a) + length (lines_of (b ++ (c ++ d))) = lines_of-append a (b ++ (c ++ d)) in
    omega arith

pub few_lines : (t : Told) → IsTold t → length t.records ≤ most_records
few_lines t right = right.few

pub ruleset counted = (journal_lines, few_lines)
