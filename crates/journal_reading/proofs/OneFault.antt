-- A text has one journal or one fault at most, never both.
use Rattle.std.proofs.Common.{◌≡◌, inl, inr, ℕ, ◌+◌, ◌<◌, ◌≤◌, List, [], ◌∷◌, ◌++◌, length, refl, sym, ap, ◌∙◌, subst, arith}
use Rattle.std.specs.Prelude.{Option, Some, None, IfSome}
use Rattle.std.specs.List.{AllByRecursion}
use Rattle.std.proofs.lemmas.List.{append_assoc}
use Rattle.pcc_text.specs.Pieces.{spelled}
use Rattle.pcc_journal.specs.declared.record.Record.{Record}
use Rattle.pcc_journal.specs.declared.record.Pending.{Pending}
use Rattle.pcc_journal.specs.declared.text.JournalHead.{JournalHead}
use Rattle.pcc_journal.specs.JournalText.{end_line, head_line, journal_text, pending_line, pending_text, record_line, records_text}
use Rattle.journal_reading.specs.declared.told.Told.{Told}
use Rattle.journal_reading.specs.declared.told.AuditKind.{AuditKind}
use Rattle.journal_reading.specs.Told.{IsPending, IsRecord, most_records, told_text}
use Rattle.journal_reading.specs.Faults.{AreLines, IsEndLine, IsHeadLine, IsNextLine, IsPendingLine, IsRecordLine, JournalWrong, NoHead, OneMore, PendingAt, RecordAt, Tells, WrongLine, pending_lines}
use Rattle.journal_reading.proofs.OneLine.{head_same, pending_no_end, pending_same, record_no_end, record_no_pending, record_same}

-- ---- records

-- what follows records isn't one more, where a journal may have one more
abbrev Blocked : ℕ → List ℕ → Type 0
Blocked n rest = n < most_records → IsRecordLine n rest → ⊥

-- a record's line, and what follows it
record_at : (place : ℕ) (r : Record) (line more rest : List ℕ) → line ≡ spelled (record_line place r) → IsRecord r
    → RecordAt place ((line ++ more) ++ rest) r (more ++ rest)
record_at place r line more rest e h = record {
  right = h;
  is = append_assoc line more rest ∙ ap (λ (v : List ℕ). v ++ (more ++ rest)) e;
}

record_at_text : (place : ℕ) (text other : List ℕ) (r : Record) (rest : List ℕ) → text ≡ other → RecordAt place text r rest → RecordAt place other r rest
record_at_text place text other r rest e h = let P : List ℕ → Type 0 = λ v. RecordAt place v r rest in subst P e h

blocked_by : (place : ℕ) (r : Record) (rs : List Record) (rest other : List ℕ) → IsRecord r → place < most_records → Blocked (place + 0) other
    → records_text place (r ∷ rs) ++ rest ≡ other → ⊥
blocked_by place r rs rest other h lt b e =
    let here : place ≡ place + 0 = omega arith in
    let P : ℕ → Type 0 = λ n. IsRecordLine n other in
    let line = spelled (record_line place r) in
    let more = records_text (place + 1) rs in
    b (omega arith) (subst P here (r, more ++ rest, record_at_text place ((line ++ more) ++ rest) other r (more ++ rest) e (record_at place r line more rest refl h)))

-- the lines of records at the front of a text are those of one list, if no other record's follows either
same_records : (place : ℕ) (rs qs : List Record) (a b : List ℕ) → AllByRecursion IsRecord rs → AllByRecursion IsRecord qs
    → place + length rs ≤ most_records → place + length qs ≤ most_records → Blocked (place + length rs) a → Blocked (place + length qs) b
    → records_text place rs ++ a ≡ records_text place qs ++ b → (rs ≡ qs) × (a ≡ b)
same_records place [] [] a b hr hq fr fq ba bb e = (refl, e)
same_records place [] (q ∷ qs) a b hr hq fr fq ba bb e = absurd (blocked_by place q qs b a hq.0 (omega arith) ba (sym e))
same_records place (r ∷ rs) [] a b hr hq fr fq ba bb e = absurd (blocked_by place r rs a b hr.0 (omega arith) bb e)
same_records place (r ∷ rs) (q ∷ qs) a b hr hq fr fq ba bb e =
    let first_r = spelled (record_line place r) in
    let first_q = spelled (record_line place q) in
    let more_r = records_text (place + 1) rs in
    let more_q = records_text (place + 1) qs in
    let one = record_same place ((first_q ++ more_q) ++ b) r q (more_r ++ a) (more_q ++ b) (omega arith) (record_at_text place ((first_r ++ more_r) ++ a) ((first_q ++ more_q) ++ b) r (more_r ++ a) e (record_at place r first_r more_r a refl hr.0)) (record_at place q first_q more_q b refl hq.0) in
    let nr : place + length (r ∷ rs) ≡ (place + 1) + length rs = omega arith in
    let nq : place + length (q ∷ qs) ≡ (place + 1) + length qs = omega arith in
    let A : ℕ → Type 0 = λ n. Blocked n a in
    let B : ℕ → Type 0 = λ n. Blocked n b in
    let others = same_records (place + 1) rs qs a b hr.1 hq.1 (omega arith) (omega arith) (subst A nr ba) (subst B nq bb) one.1 in
    (ap (λ (x : Record). x ∷ rs) one.0 ∙ ap (λ (xs : List Record). q ∷ xs) others.0, others.1)

-- ---- a pending command

-- with no pending command, none follows
abbrev Unpending : Option Pending → List ℕ → Type 0
Unpending None rest = IsPendingLine rest → ⊥
Unpending (Some p) rest = Unit {0}

pending_line_at : (p : Pending) (rest text : List ℕ) → IsPending p → spelled (pending_line p) ++ rest ≡ text → PendingAt text p rest
pending_line_at p rest text h e = record { right = h; is = sym e }

same_pending : (p q : Option Pending) (rest left : List ℕ) → IfSome p IsPending → IfSome q IsPending → Unpending p rest → Unpending q left
    → pending_text p ++ rest ≡ pending_text q ++ left → (p ≡ q) × (rest ≡ left)
same_pending None None rest left hp hq np nq e = (refl, e)
same_pending None (Some q) rest left hp hq np nq e = absurd (np (q, left, pending_line_at q left rest hq (sym e)))
same_pending (Some p) None rest left hp hq np nq e = absurd (nq (p, rest, pending_line_at p rest left hp e))
same_pending (Some p) (Some q) rest left hp hq np nq e =
    let s = pending_same (spelled (pending_line q) ++ left) p q rest left (pending_line_at p rest (spelled (pending_line q) ++ left) hp e) (pending_line_at q left (spelled (pending_line q) ++ left) hq refl) in
    (ap Some s.0, s.1)

-- ---- all lines

-- No line follows that would be one of these: of a record, where a journal may have one more, and of a pending command, where there is none.
record Ends (records : List Record) (pending : Option Pending) (rest : List ℕ) : Type 0 where
  blocked : Blocked (length records) (pending_text pending ++ rest)
  unpending : Unpending pending rest

-- these lines are those
record Same (head h : JournalHead) (records rs : List Record) (pending p : Option Pending) (rest left : List ℕ) : Type 0 where
  head_is : head ≡ h
  records_are : records ≡ rs
  pending_is : pending ≡ p
  rest_is : rest ≡ left

same_lines : (text : List ℕ) (head h : JournalHead) (records rs : List Record) (pending p : Option Pending) (rest left : List ℕ)
    → AreLines text head records pending rest → AreLines text h rs p left → Ends records pending rest → Ends rs p left
    → Same head h records rs pending p rest left
same_lines text head h records rs pending p rest left a b ends stops =
    let one = head_same text head h (records_text 0 records ++ (pending_text pending ++ rest)) (records_text 0 rs ++ (pending_text p ++ left)) (record { right = a.head_right; is = a.is }) (record { right = b.head_right; is = b.is }) in
    let na : length records ≡ 0 + length records = omega arith in
    let nb : length rs ≡ 0 + length rs = omega arith in
    let fa : length records ≤ most_records = a.few in
    let fb : length rs ≤ most_records = b.few in
    let A : ℕ → Type 0 = λ n. Blocked n (pending_text pending ++ rest) in
    let B : ℕ → Type 0 = λ n. Blocked n (pending_text p ++ left) in
    let two = same_records 0 records rs (pending_text pending ++ rest) (pending_text p ++ left) a.records_right b.records_right (omega arith) (omega arith) (subst A na ends.blocked) (subst B nb stops.blocked) one.1 in
    let three = same_pending pending p rest left a.pending_right b.pending_right ends.unpending stops.unpending two.1 in
    record { head_is = one.0; records_are = two.0; pending_is = three.0; rest_is = three.1 }

-- a pending command's line is no record's
pending_blocks : (n : ℕ) (p : Pending) (rest : List ℕ) → IsPending p → Blocked n (spelled (pending_line p) ++ rest)
pending_blocks n p rest h lt line = record_no_pending n (spelled (pending_line p) ++ rest) line (p, rest, record { right = h; is = refl })

-- nothing that is right there follows
wrong_ends : (head : JournalHead) (records : List Record) (pending : Option Pending) (rest : List ℕ) → IfSome pending IsPending
    → (IsNextLine head (length records) pending rest → ⊥) → Ends records pending rest
wrong_ends head records None rest h never = record { blocked = λ lt line. never (inl line); unpending = λ line. never (inr (inl line)) }
wrong_ends head records (Some p) rest h never = record { blocked = pending_blocks (length records) p rest h; unpending = tt }

-- the last line follows
last_ends : (head : JournalHead) (records : List Record) (pending : Option Pending) (rest : List ℕ) → IfSome pending IsPending → IsEndLine head rest
    → Ends records pending rest
last_ends head records None rest h last = record {
  blocked = λ lt line. record_no_end (length records) head rest line last;
  unpending = λ line. pending_no_end head rest line last;
}
last_ends head records (Some p) rest h last = record { blocked = pending_blocks (length records) p rest h; unpending = tt }

-- one record more than a journal may have follows
more_ends : (records : List Record) (rest : List ℕ) → length records ≡ most_records → IsRecordLine most_records rest → Ends records None rest
more_ends records rest full line = record {
  blocked = λ lt other. absurd (omega arith);
  unpending = λ other. record_no_pending most_records rest line other;
}

-- ---- a journal

journal_lines : (text : List ℕ) (t : Told) (long : ℕ) (h : Tells text t long)
    → AreLines text t.head t.records t.pending (spelled (end_line t.head) ++ h.rest)
unfolding journal_text
journal_lines text t long h = record {
  head_right = h.right.head;
  records_right = h.right.records;
  few = h.right.few;
  pending_right = h.right.pending;
  is = h.is ∙ cut (spelled (head_line t.head)) (records_text 0 t.records) (pending_text t.pending) (spelled (end_line t.head)) h.rest;
}
  where
    cut : (a b c d e : List ℕ) → (a ++ (b ++ (c ++ d))) ++ e ≡ a ++ (b ++ (c ++ (d ++ e)))
    cut a b c d e = simp append_assoc

journal_ends : (text : List ℕ) (t : Told) (long : ℕ) (h : Tells text t long) → Ends t.records t.pending (spelled (end_line t.head) ++ h.rest)
journal_ends text t long h = last_ends t.head t.records t.pending (spelled (end_line t.head) ++ h.rest) h.right.pending (h.rest, refl)

told_from : JournalHead → List Record → Option Pending → Told
told_from head records pending = record { head = head; records = records; pending = pending }

told_same : (t u : Told) → t.head ≡ u.head → t.records ≡ u.records → t.pending ≡ u.pending → t ≡ u
unfolding told_from
told_same t u h r p =
    ap (λ (x : JournalHead). told_from x t.records t.pending) h
    ∙ ap (λ (x : List Record). told_from u.head x t.pending) r
    ∙ ap (λ (x : Option Pending). told_from u.head u.records x) p

-- the front of a text is one journal's at most, and that journal is one
pub one_journal : (text : List ℕ) (t u : Told) (n m : ℕ) → Tells text t n → Tells text u m → (t ≡ u) × (n ≡ m)
one_journal text t u n m h k =
    let s = same_lines text t.head u.head t.records u.records t.pending u.pending (spelled (end_line t.head) ++ h.rest) (spelled (end_line u.head) ++ k.rest) (journal_lines text t n h) (journal_lines text u m k) (journal_ends text t n h) (journal_ends text u m k) in
    let same : t ≡ u = told_same t u s.head_is s.records_are s.pending_is in
    (same, h.length_is ∙ ap (λ (x : Told). length (told_text x)) same ∙ sym k.length_is)

-- ---- a fault

-- lines of a journal begin with that of a head
lines_head : (text : List ℕ) (head : JournalHead) (records : List Record) (pending : Option Pending) (rest : List ℕ)
    → AreLines text head records pending rest → IsHeadLine text
lines_head text head records pending rest a =
    (head, records_text 0 records ++ (pending_text pending ++ rest), record { right = a.head_right; is = a.is })

-- the last line is right after all lines
last_next : (head : JournalHead) (n : ℕ) (pending : Option Pending) (rest : List ℕ) → IsEndLine head rest → IsNextLine head n pending rest
last_next head n None rest last = inr (inr last)
last_next head n (Some p) rest last = last

next_moved : (head h : JournalHead) (records rs : List Record) (pending p : Option Pending) (rest left : List ℕ)
    → Same head h records rs pending p rest left → IsNextLine head (length records) pending rest → IsNextLine h (length rs) p left
next_moved head h records rs pending p rest left s next =
    let H : JournalHead → Type 0 = λ x. IsNextLine x (length records) pending rest in
    let R : List Record → Type 0 = λ x. IsNextLine h (length x) pending rest in
    let P : Option Pending → Type 0 = λ x. IsNextLine h (length rs) x rest in
    let L : List ℕ → Type 0 = λ x. IsNextLine h (length rs) p x in
    subst L s.rest_is (subst P s.pending_is (subst R s.records_are (subst H s.head_is next)))

-- a text has no journal and a fault
pub not_both : (first : ℕ) (text : List ℕ) (t : Told) (n line : ℕ) (k : AuditKind) → Tells text t n → JournalWrong first text line k → ⊥
not_both first text t n line k h (NoHead none) =
    none (lines_head text t.head t.records t.pending (spelled (end_line t.head) ++ h.rest) (journal_lines text t n h))
not_both first text t n line k h (WrongLine head records pending rest a never) =
    let here = spelled (end_line t.head) ++ h.rest in
    let s = same_lines text t.head head t.records records t.pending pending here rest (journal_lines text t n h) a (journal_ends text t n h) (wrong_ends head records pending rest a.pending_right never) in
    never (next_moved t.head head t.records records t.pending pending here rest s (last_next t.head (length t.records) t.pending here (h.rest, refl)))
not_both first text t n line k h (OneMore head records rest a full more) =
    let here = spelled (end_line t.head) ++ h.rest in
    let s = same_lines text t.head head t.records records t.pending None here rest (journal_lines text t n h) a (journal_ends text t n h) (more_ends records rest full more) in
    let E : List ℕ → Type 0 = IsEndLine t.head in
    record_no_end most_records t.head rest more (subst E s.rest_is (h.rest, refl))

-- no line is wrong after all records where one more follows
wrong_no_more : (text : List ℕ) (head h : JournalHead) (records rs : List Record) (pending : Option Pending) (rest left : List ℕ)
    → AreLines text head records pending rest → (IsNextLine head (length records) pending rest → ⊥) → AreLines text h rs None left
    → length rs ≡ most_records → IsRecordLine most_records left → ⊥
wrong_no_more text head h records rs pending rest left a never b full more =
    let s = same_lines text h head rs records None pending left rest b a (more_ends rs left full more) (wrong_ends head records pending rest a.pending_right never) in
    let M : ℕ → Type 0 = λ n. IsRecordLine n left in
    never (next_moved h head rs records None pending left rest s (inl (subst M (sym full) more)))

lines_number : (first : ℕ) (records rs : List Record) (pending p : Option Pending) → records ≡ rs → pending ≡ p
    → first + 1 + length records + pending_lines pending ≡ first + 1 + length rs + pending_lines p
lines_number first records rs pending p e f =
    ap (λ (x : List Record). first + 1 + length x + pending_lines pending) e ∙ ap (λ (x : Option Pending). first + 1 + length rs + pending_lines x) f

-- a text has one fault at most
pub one_fault : (first : ℕ) (text : List ℕ) (l m : ℕ) (k j : AuditKind) → JournalWrong first text l k → JournalWrong first text m j
    → (l ≡ m) × (k ≡ j)
one_fault first text l m k j (NoHead none) (NoHead nothing) = (refl, refl)
one_fault first text l m k j (NoHead none) (WrongLine head records pending rest a never) = absurd (none (lines_head text head records pending rest a))
one_fault first text l m k j (NoHead none) (OneMore head records rest a full more) = absurd (none (lines_head text head records None rest a))
one_fault first text l m k j (WrongLine head records pending rest a never) (NoHead none) = absurd (none (lines_head text head records pending rest a))
one_fault first text l m k j (WrongLine head records pending rest a never) (WrongLine h rs p left b none) =
    let s = same_lines text head h records rs pending p rest left a b (wrong_ends head records pending rest a.pending_right never) (wrong_ends h rs p left b.pending_right none) in
    (lines_number first records rs pending p s.records_are s.pending_is, refl)
one_fault first text l m k j (WrongLine head records pending rest a never) (OneMore h rs left b full more) =
    absurd (wrong_no_more text head h records rs pending rest left a never b full more)
one_fault first text l m k j (OneMore head records rest a full more) (NoHead none) = absurd (none (lines_head text head records None rest a))
one_fault first text l m k j (OneMore h rs left b full more) (WrongLine head records pending rest a never) =
    absurd (wrong_no_more text head h records rs pending rest left a never b full more)
one_fault first text l m k j (OneMore head records rest a full more) (OneMore h rs left b all one) =
    (ap (λ (n : ℕ). first + 1 + n) (full ∙ sym all), refl)
