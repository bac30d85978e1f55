-- A text begins with a journal's or has a fault.
use Rattle.std.proofs.Common.{◌≡◌, ◌⊎◌, inl, inr, ℕ, zero, suc, ◌+◌, ◌^◌, ◌<◌, ◌≤◌, eqb, Bool, true, false, List, [], ◌∷◌, ◌++◌, length, drop, refl, sym, ap, ◌∙◌, subst, arith}
use Rattle.std.specs.Prelude.{Option, Some, None, IfSome, codes}
use Rattle.std.specs.List.{AllByRecursion, onto_first}
use Rattle.std.proofs.lemmas.List.{append_assoc}
use Rattle.std.proofs.lemmas.List.Splits.{slice_split-cons_no, slice_split-cons_yes}
use Rattle.pcc_bytes.specs.Fields.{split_at}
use Rattle.pcc_text.specs.Pieces.{spelled}
use Rattle.pcc_journal.specs.declared.record.Record.{Record}
use Rattle.pcc_journal.specs.declared.record.Pending.{Pending}
use Rattle.pcc_journal.specs.declared.text.JournalHead.{JournalHead}
use Rattle.pcc_journal.specs.JournalText.{end_line, head_line, journal_text, pending_text, record_line, records_text}
use Rattle.journal_reading.specs.declared.told.Told.{Told}
use Rattle.journal_reading.specs.declared.told.AuditKind.TheVariants as kind
use Rattle.journal_reading.specs.Told.{IsHead, IsPending, IsRecord, most_8, most_32, most_64, most_records, told_text}
use Rattle.journal_reading.specs.Faults.{AreLines, HasFault, HasJournal, HeadAt, IsEndLine, IsHeadLine, IsNextLine, IsPendingLine, IsRecordLine, NoHead, OneMore, RecordAt, WrongLine}
use Rattle.journal_reading.specs.Rows.{Either, Fit, HexBytes, OfBytes, OfFlag, OfNumber, Step, Takes, Upto, Value, end_row, exchange_row, head_row, head_values, pending_row, pending_values, read_row, record_row, record_values}
use Rattle.journal_reading.proofs.RowLines.{found}
use Rattle.journal_reading.proofs.Found.{end_found, end_is_row, end_missing, end_refused, head_found, head_is_row, head_missing, head_refused, later, pending_found, pending_is_row, pending_missing, pending_refused, record_found, record_is_row, record_missing, record_refused}

-- ---- the first line

-- a text has a first line, or no line feed
data Cut (text : List ℕ) : Type 0 where
  Whole : split_at 10 text ≡ text ∷ [] → Cut text
  Line : (line rest : List ℕ) → split_at 10 text ≡ line ∷ split_at 10 rest → Cut text

cut_more : (x : ℕ) (xs : List ℕ) (test : Bool) → eqb x 10 ≡ test → Cut xs → Cut (x ∷ xs)
cut_more x xs true e c = Line [] xs (slice_split-cons_yes (λ b. eqb b 10) x xs e)
cut_more x xs false e (Whole h) = Whole (slice_split-cons_no (λ b. eqb b 10) x xs e ∙ ap (onto_first x) h)
cut_more x xs false e (Line line rest h) = Line (x ∷ line) rest (slice_split-cons_no (λ b. eqb b 10) x xs e ∙ ap (onto_first x) h)

cut : (text : List ℕ) → Cut text
cut [] = Whole refl
cut (x ∷ xs) = cut_more x xs (eqb x 10) refl (cut xs)

-- ---- values that fit a row

number_first : (limit : ℕ) (ss : List Step) (vs : List Value) → Fit (Takes (Upto limit) ∷ ss) vs
    → (n : ℕ) × (us : List Value) × (vs ≡ OfNumber n ∷ us) × Fit ss us
number_first limit ss [] h = absurd h
number_first limit ss (v ∷ vs) h = (h.0.0, vs, ap (λ (x : Value). x ∷ vs) h.0.1, h.1)

flag_first : (first second : List ℕ) (ss : List Step) (vs : List Value) → Fit (Takes (Either first second) ∷ ss) vs
    → (flag : Bool) × (us : List Value) × (vs ≡ OfFlag flag ∷ us) × Fit ss us
flag_first first second ss [] h = absurd h
flag_first first second ss (v ∷ vs) h = (h.0.0, vs, ap (λ (x : Value). x ∷ vs) h.0.1, h.1)

bytes_first : (ss : List Step) (vs : List Value) → Fit (Takes HexBytes ∷ ss) vs
    → (bytes : List ℕ) × (us : List Value) × (vs ≡ OfBytes bytes ∷ us) × Fit ss us
bytes_first ss [] h = absurd h
bytes_first ss (v ∷ vs) h = (h.0.0, vs, ap (λ (x : Value). x ∷ vs) h.0.1, h.1)

head_of_values : (vs : List Value) → Fit head_row vs → (h : JournalHead) × (vs ≡ head_values h)
head_of_values vs fit =
    let a = number_first most_8 (drop 2 head_row) vs fit in
    let b = number_first most_8 (drop 4 head_row) a.1 a.3 in
    let c = flag_first (codes "cppc") (codes "bank") (drop 5 head_row) b.1 b.3 in
    let d = number_first most_32 (drop 7 head_row) c.1 c.3 in
    let e = number_first most_32 (drop 9 head_row) d.1 d.3 in
    let f = number_first most_32 (drop 11 head_row) e.1 e.3 in
    let g = flag_first (codes "yes") (codes "no") (drop 13 head_row) f.1 f.3 in (
      record {
        id = a.0;
        kind = b.0;
        cppc = c.0;
        room = d.0;
        limits = record { turnaround = e.0; per_minute = f.0 };
        reports = g.0;
      },
      a.2 ∙ ap (λ (x : List Value). OfNumber a.0 ∷ x) (b.2 ∙ ap (λ (x : List Value). OfNumber b.0 ∷ x) (c.2 ∙ ap (λ (x : List Value). OfFlag c.0 ∷ x) (d.2 ∙ ap (λ (x : List Value). OfNumber d.0 ∷ x) (e.2 ∙ ap (λ (x : List Value). OfNumber e.0 ∷ x) (f.2 ∙ ap (λ (x : List Value). OfNumber f.0 ∷ x) (g.2 ∙ ap (λ (x : List Value). OfFlag g.0 ∷ x) g.3)))))),
    )

record_of_values : (place : ℕ) (vs : List Value) → Fit (record_row place) vs → (r : Record) × (vs ≡ record_values r)
unfolding exchange_row
record_of_values place vs fit =
    let row = record_row place in
    let a = number_first most_32 (drop 4 row) vs fit in
    let b = number_first most_32 (drop 6 row) a.1 a.3 in
    let c = flag_first (codes "error") (codes "ok") (drop 7 row) b.1 b.3 in
    let d = number_first most_64 (drop 9 row) c.1 c.3 in
    let e = number_first most_64 (drop 11 row) d.1 d.3 in
    let f = flag_first (codes "late") (codes "timely") (drop 12 row) e.1 e.3 in
    let g = bytes_first (drop 14 row) f.1 f.3 in
    let h = bytes_first (drop 16 row) g.1 g.3 in (
      record { caller = a.0; code = b.0; error = c.0; post = d.0; done = e.0; late = f.0; input = g.0; output = h.0 },
      a.2 ∙ ap (λ (x : List Value). OfNumber a.0 ∷ x) (b.2 ∙ ap (λ (x : List Value). OfNumber b.0 ∷ x) (c.2 ∙ ap (λ (x : List Value). OfFlag c.0 ∷ x) (d.2 ∙ ap (λ (x : List Value). OfNumber d.0 ∷ x) (e.2 ∙ ap (λ (x : List Value). OfNumber e.0 ∷ x) (f.2 ∙ ap (λ (x : List Value). OfFlag f.0 ∷ x) (g.2 ∙ ap (λ (x : List Value). OfBytes g.0 ∷ x) (h.2 ∙ ap (λ (x : List Value). OfBytes h.0 ∷ x) h.3))))))),
    )

pending_of_values : (vs : List Value) → Fit pending_row vs → (p : Pending) × (vs ≡ pending_values p)
pending_of_values vs fit =
    let a = number_first most_32 (drop 3 pending_row) vs fit in
    let b = number_first most_32 (drop 5 pending_row) a.1 a.3 in
    let c = number_first most_64 (drop 7 pending_row) b.1 b.3 in
    let d = bytes_first (drop 9 pending_row) c.1 c.3 in (
      record { caller = a.0; code = b.0; post = c.0; input = d.0 },
      a.2 ∙ ap (λ (x : List Value). OfNumber a.0 ∷ x) (b.2 ∙ ap (λ (x : List Value). OfNumber b.0 ∷ x) (c.2 ∙ ap (λ (x : List Value). OfNumber c.0 ∷ x) (d.2 ∙ ap (λ (x : List Value). OfBytes d.0 ∷ x) d.3))),
    )

-- ---- what a text begins with

head_row_read : (text line rest : List ℕ) (o : Option (List Value)) → split_at 10 text ≡ line ∷ split_at 10 rest
    → read_row 13 head_row (split_at 32 line) ≡ o → IsHeadLine text ⊎ (IsHeadLine text → ⊥)
head_row_read text line rest None e k = inr (head_refused text line rest e (sym k))
head_row_read text line rest (Some vs) e k =
    let i = found 13 (codes "journal") (later head_row) text line rest vs head_is_row e k in
    let h = head_of_values vs i.fit in
    inl (h.0, rest, head_found text line rest h.0 e (sym (k ∙ ap Some h.1)))

head_cut : (text : List ℕ) → Cut text → IsHeadLine text ⊎ (IsHeadLine text → ⊥)
head_cut text (Whole e) = inr (head_missing text e)
head_cut text (Line line rest e) = head_row_read text line rest (read_row 13 head_row (split_at 32 line)) e refl

record_row_read : (place : ℕ) (text line rest : List ℕ) (o : Option (List Value)) → place < 2 ^ 64 → split_at 10 text ≡ line ∷ split_at 10 rest
    → read_row 16 (record_row place) (split_at 32 line) ≡ o → IsRecordLine place text ⊎ (IsRecordLine place text → ⊥)
record_row_read place text line rest None small e k = inr (record_refused place text line rest small e (sym k))
record_row_read place text line rest (Some vs) small e k =
    let i = found 16 (codes "record") (later (record_row place)) text line rest vs (record_is_row place small) e k in
    let r = record_of_values place vs i.fit in
    inl (r.0, rest, record_found place text line rest r.0 small e (sym (k ∙ ap Some r.1)))

record_cut : (place : ℕ) (text : List ℕ) → place < 2 ^ 64 → Cut text → IsRecordLine place text ⊎ (IsRecordLine place text → ⊥)
record_cut place text small (Whole e) = inr (record_missing place text small e)
record_cut place text small (Line line rest e) = record_row_read place text line rest (read_row 16 (record_row place) (split_at 32 line)) small e refl

pending_row_read : (text line rest : List ℕ) (o : Option (List Value)) → split_at 10 text ≡ line ∷ split_at 10 rest
    → read_row 9 pending_row (split_at 32 line) ≡ o → IsPendingLine text ⊎ (IsPendingLine text → ⊥)
pending_row_read text line rest None e k = inr (pending_refused text line rest e (sym k))
pending_row_read text line rest (Some vs) e k =
    let i = found 9 (codes "pending") (later pending_row) text line rest vs pending_is_row e k in
    let p = pending_of_values vs i.fit in
    inl (p.0, rest, pending_found text line rest p.0 e (sym (k ∙ ap Some p.1)))

pending_cut : (text : List ℕ) → Cut text → IsPendingLine text ⊎ (IsPendingLine text → ⊥)
pending_cut text (Whole e) = inr (pending_missing text e)
pending_cut text (Line line rest e) = pending_row_read text line rest (read_row 9 pending_row (split_at 32 line)) e refl

end_row_read : (head : JournalHead) (text line rest : List ℕ) (o : Option (List Value)) → IsHead head → split_at 10 text ≡ line ∷ split_at 10 rest
    → read_row 2 (end_row head.id) (split_at 32 line) ≡ o → IsEndLine head text ⊎ (IsEndLine head text → ⊥)
end_row_read head text line rest None right e k = inr (end_refused head text line rest right e k)
end_row_read head text line rest (Some vs) right e k =
    let id : head.id ≤ most_8 = right.id in
    let i = found 2 (codes "end") (later (end_row head.id)) text line rest vs (end_is_row head.id (omega arith)) e k in
    let none : vs ≡ [] = i.fit in
    inl (rest, (end_found head text line rest right e (k ∙ ap Some none)).is)

end_cut : (head : JournalHead) (text : List ℕ) → IsHead head → Cut text → IsEndLine head text ⊎ (IsEndLine head text → ⊥)
end_cut head text right (Whole e) = inr (end_missing head text right e)
end_cut head text right (Line line rest e) = end_row_read head text line rest (read_row 2 (end_row head.id) (split_at 32 line)) right e refl

-- ---- all records

-- The records at the front of a text, numbered from a place on: no other one's line follows, or there are as many as a journal may have.
record Fetched (place : ℕ) (text : List ℕ) : Type 0 where
  records : List Record
  rest : List ℕ
  right : AllByRecursion IsRecord records
  few : place + length records ≤ most_records
  is : text ≡ records_text place records ++ rest
  stops : (IsRecordLine (place + length records) rest → ⊥) ⊎ ((place + length records ≡ most_records) × IsRecordLine most_records rest)

no_record : (place : ℕ) (text : List ℕ) → place ≤ most_records → (IsRecordLine place text → ⊥) → Fetched place text
no_record place text le none =
    let here : place + 0 ≡ place = omega arith in
    let P : ℕ → Type 0 = λ n. IsRecordLine n text in
    record { records = []; rest = text; right = tt; few = omega arith; is = refl; stops = inl (λ line. none (subst P here line)) }

all_records : (place : ℕ) (text : List ℕ) → place ≡ most_records → IsRecordLine place text → Fetched place text
all_records place text full line =
    let P : ℕ → Type 0 = λ n. IsRecordLine n text in
    record { records = []; rest = text; right = tt; few = omega arith; is = refl; stops = inr (omega arith, subst P full line) }

one_record : (place : ℕ) (text : List ℕ) (r : Record) (rest : List ℕ) → RecordAt place text r rest → Fetched (place + 1) rest → Fetched place text
one_record place text r rest at f =
    let count : (place + 1) + length f.records ≡ place + length (r ∷ f.records) = omega arith in
    let few : (place + 1) + length f.records ≤ most_records = f.few in
    let S : ℕ → Type 0 = λ n. (IsRecordLine n f.rest → ⊥) ⊎ ((n ≡ most_records) × IsRecordLine most_records f.rest) in
    record {
      records = r ∷ f.records;
      rest = f.rest;
      right = (at.right, f.right);
      few = omega arith;
      is = at.is ∙ ap (λ (v : List ℕ). spelled (record_line place r) ++ v) f.is ∙ sym (append_assoc (spelled (record_line place r)) (records_text (place + 1) f.records) f.rest);
      stops = subst S count f.stops;
    }

fetch_end : (place : ℕ) (text : List ℕ) → place ≡ most_records → IsRecordLine place text ⊎ (IsRecordLine place text → ⊥) → Fetched place text
fetch_end place text full (inl line) = all_records place text full line
fetch_end place text full (inr none) = no_record place text (omega arith) none

fetch_more : (place : ℕ) (text : List ℕ) → place < most_records → ((rest : List ℕ) → Fetched (place + 1) rest)
    → IsRecordLine place text ⊎ (IsRecordLine place text → ⊥) → Fetched place text
fetch_more place text lt next (inl line) = one_record place text line.0 line.1 line.2 (next line.1)
fetch_more place text lt next (inr none) = no_record place text (omega arith) none

fetch : (left place : ℕ) (text : List ℕ) → place + left ≡ most_records → Fetched place text
fetch zero place text e = fetch_end place text (omega arith) (record_cut place text (omega arith) (cut text))
fetch (suc left) place text e =
    fetch_more place text (omega arith) (λ rest. fetch left (place + 1) rest (omega arith)) (record_cut place text (omega arith) (cut text))

-- ---- a text

lines_are : (text : List ℕ) (head : JournalHead) (rest : List ℕ) (f : Fetched 0 rest) (pending : Option Pending) (left : List ℕ) → HeadAt text head rest
    → IfSome pending IsPending → f.rest ≡ pending_text pending ++ left → AreLines text head f.records pending left
lines_are text head rest f pending left at right e =
    let few : 0 + length f.records ≤ most_records = f.few in
    record {
      head_right = at.right;
      records_right = f.right;
      few = omega arith;
      pending_right = right;
      is = at.is ∙ ap (λ (v : List ℕ). spelled (head_line head) ++ v) (f.is ∙ ap (λ (v : List ℕ). records_text 0 f.records ++ v) e);
    }

journal_is : (text : List ℕ) (head : JournalHead) (records : List Record) (pending : Option Pending) (rest : List ℕ) → AreLines text head records pending rest
    → IsEndLine head rest → HasJournal text
unfolding journal_text
journal_is text head records pending rest a end =
    let t : Told = record { head = head; records = records; pending = pending } in
    record {
      journal = t;
      long = length (told_text t);
      tells = record {
        right = record { head = a.head_right; records = a.records_right; few = a.few; pending = a.pending_right };
        rest = end.0;
        is = a.is ∙ ap (λ (v : List ℕ). spelled (head_line head) ++ (records_text 0 records ++ (pending_text pending ++ v))) end.1
            ∙ joined_again (spelled (head_line head)) (records_text 0 records) (pending_text pending) (spelled (end_line head)) end.0;
        length_is = refl;
      };
    }
  where
    joined_again : (a b c d e : List ℕ) → a ++ (b ++ (c ++ (d ++ e))) ≡ (a ++ (b ++ (c ++ d))) ++ e
    joined_again a b c d e = simp append_assoc

-- after all lines the last one follows, or what follows is wrong
last_case : (first : ℕ) (text : List ℕ) (head : JournalHead) (records : List Record) (pending : Option Pending) (rest : List ℕ)
    → AreLines text head records pending rest → ((IsEndLine head rest → ⊥) → IsNextLine head (length records) pending rest → ⊥)
    → IsEndLine head rest ⊎ (IsEndLine head rest → ⊥) → HasJournal text ⊎ HasFault first text
last_case first text head records pending rest a never (inl end) = inl (journal_is text head records pending rest a end)
last_case first text head records pending rest a never (inr none) =
    inr (record { line = _; kind = kind.Text; wrong = WrongLine head records pending rest a (never none) })

never_next : (head : JournalHead) (n : ℕ) (rest : List ℕ) → (IsRecordLine n rest → ⊥) → (IsPendingLine rest → ⊥) → (IsEndLine head rest → ⊥)
    → IsNextLine head n None rest → ⊥
never_next head n rest r p e (inl line) = r line
never_next head n rest r p e (inr (inl line)) = p line
never_next head n rest r p e (inr (inr line)) = e line

pending_case : (first : ℕ) (text : List ℕ) (head : JournalHead) (rest : List ℕ) (f : Fetched 0 rest) → IsHead head → HeadAt text head rest
    → (IsRecordLine (length f.records) f.rest → ⊥) → IsPendingLine f.rest ⊎ (IsPendingLine f.rest → ⊥) → HasJournal text ⊎ HasFault first text
pending_case first text head rest f right at none (inl p) =
    last_case first text head f.records (Some p.0) p.1 (lines_are text head rest f (Some p.0) p.1 at p.2.right p.2.is) (λ no next. no next) (end_cut head p.1 right (cut p.1))
pending_case first text head rest f right at none (inr unpending) =
    last_case first text head f.records None f.rest (lines_are text head rest f None f.rest at tt refl) (never_next head (length f.records) f.rest none unpending) (end_cut head f.rest right (cut f.rest))

records_case : (first : ℕ) (text : List ℕ) (head : JournalHead) (rest : List ℕ) (f : Fetched 0 rest) → IsHead head → HeadAt text head rest
    → (IsRecordLine (0 + length f.records) f.rest → ⊥) ⊎ ((0 + length f.records ≡ most_records) × IsRecordLine most_records f.rest)
    → HasJournal text ⊎ HasFault first text
records_case first text head rest f right at (inl none) =
    let here : length f.records ≡ 0 + length f.records = omega arith in
    let P : ℕ → Type 0 = λ n. IsRecordLine n f.rest in
    pending_case first text head rest f right at (λ line. none (subst P here line)) (pending_cut f.rest (cut f.rest))
records_case first text head rest f right at (inr many) =
    let here : length f.records ≡ 0 + length f.records = omega arith in
    inr (record { line = _; kind = kind.Many; wrong = OneMore head f.records f.rest (lines_are text head rest f None f.rest at tt refl) (here ∙ many.0) many.1 })

head_case : (first : ℕ) (text : List ℕ) → IsHeadLine text ⊎ (IsHeadLine text → ⊥) → HasJournal text ⊎ HasFault first text
head_case first text (inr none) = inr (record { line = first; kind = kind.Text; wrong = NoHead none })
head_case first text (inl head) =
    let f = fetch most_records 0 head.1 (omega arith) in
    records_case first text head.0 head.1 f head.2.right head.2 f.stops

-- a text begins with a journal's, or has a fault
pub journal_or_fault : (first : ℕ) (text : List ℕ) → HasJournal text ⊎ HasFault first text
journal_or_fault first text = head_case first text (head_cut text (cut text))
