-- A text begins with one line of each kind at most, and that line has one value.
use Rattle.std.proofs.Common.{◌≡◌, ℕ, suc, ◌^◌, ◌<◌, ◌≤◌, eqb, not, Bool, true, false, List, [], ◌∷◌, ◌++◌, length, refl, sym, ap, ◌∙◌, subst, arith}
use Rattle.std.specs.Prelude.{bytes_eq, codes, decimal, slice_index, slice_index_or}
use Rattle.std.specs.List.{AllByRecursion}
use Rattle.std.proofs.lemmas.Bool.{and_parts, eq-eqb}
use Rattle.std.proofs.lemmas.Bool.Decides.{nat_tests}
use Rattle.std.proofs.lemmas.Fmt.{decimal_injective}
use Rattle.std.proofs.lemmas.List.{append_assoc}
use Rattle.pcc_bytes.specs.Bytes.{IsBytes}
use Rattle.pcc_bytes.specs.Fields.{hex_text}
use Rattle.pcc_text.specs.Pieces.{spelled}
use Rattle.pcc_text.specs.Reading.{hex_of}
use Rattle.pcc_text.proofs.Laws.{hex_again, lacks, lacks-decimal, lacks-hex_text, same_some, text_same}
use Rattle.pcc_journal.specs.declared.record.Record.{Record}
use Rattle.pcc_journal.specs.declared.record.Pending.{Pending}
use Rattle.pcc_journal.specs.declared.text.JournalHead.{JournalHead}
use Rattle.pcc_journal.specs.JournalText.{end_line, head_line, pending_line, record_line}
use Rattle.journal_reading.specs.Told.{IsHead, IsPending, IsRecord, most_8, most_32, most_64}
use Rattle.journal_reading.specs.Rows.{Either, Fit, HexBytes, IsOf, Kind, OfBytes, OfFlag, OfNumber, Step, Takes, Upto, Value, Word, exchange_row, head_row, head_values, line_of, pending_row, pending_values, record_row, record_values, word_of, words}
use Rattle.journal_reading.specs.Faults.{HeadAt, IsEndLine, IsPendingLine, IsRecordLine, PendingAt, RecordAt}

-- ---- where a word ends

other_byte : (c y : ℕ) → c ≡ y → not (eqb y c) ≡ true → ⊥
other_byte c y e h = grind (arith, nat_tests)

-- a text has one front that lacks a byte and is followed by it
cut_same : (c : ℕ) (xs ys us vs : List ℕ) → lacks c xs ≡ true → lacks c ys ≡ true → xs ++ c ∷ us ≡ ys ++ c ∷ vs → (xs ≡ ys) × (us ≡ vs)
cut_same c [] [] us vs h k e = (refl, cc)
cut_same c [] (y ∷ ys) us vs h k e = let p : c ≡ y = cc in absurd (other_byte c y p (and_parts (not (eqb y c)) (lacks c ys) k).0)
cut_same c (x ∷ xs) [] us vs h k e = let p : c ≡ x = cc in absurd (other_byte c x p (and_parts (not (eqb x c)) (lacks c xs) h).0)
cut_same c (x ∷ xs) (y ∷ ys) us vs h k e =
    let first : x ≡ y = cc in
    let tail : xs ++ c ∷ us ≡ ys ++ c ∷ vs = cc in
    let rest = cut_same c xs ys us vs (and_parts (not (eqb x c)) (lacks c xs) h).1 (and_parts (not (eqb y c)) (lacks c ys) k).1 tail in
    (ap (λ (b : ℕ). b ∷ xs) first ∙ ap (λ (bs : List ℕ). y ∷ bs) rest.0, rest.1)

-- a word has no space and no line feed
record IsWord (w : List ℕ) : Type 0 where
  no_space : lacks 32 w ≡ true
  no_feed : lacks 10 w ≡ true

-- a text begins with one line of so many words at most
line_same : (ws vs : List (List ℕ)) (rest left : List ℕ) → length ws ≡ length vs → AllByRecursion IsWord ws → AllByRecursion IsWord vs
    → line_of ws ++ rest ≡ line_of vs ++ left → (ws ≡ vs) × (rest ≡ left)
line_same [] [] rest left n h k e = (refl, e)
line_same [] (v ∷ vs) rest left n h k e = absurd (omega arith)
line_same (w ∷ ws) [] rest left n h k e = absurd (omega arith)
line_same (w ∷ []) (v ∷ []) rest left n h k e =
    let s = cut_same 10 w v rest left h.0.no_feed k.0.no_feed (sym (append_assoc w (10 ∷ []) rest) ∙ e ∙ append_assoc v (10 ∷ []) left) in
    (ap (λ (x : List ℕ). x ∷ []) s.0, s.1)
line_same (w ∷ []) (v ∷ x ∷ vs) rest left n h k e = absurd (omega arith)
line_same (w ∷ y ∷ ws) (v ∷ []) rest left n h k e = absurd (omega arith)
line_same (w ∷ y ∷ ws) (v ∷ x ∷ vs) rest left n h k e =
    let m : length (y ∷ ws) ≡ length (x ∷ vs) = omega arith in
    let s = cut_same 32 w v (line_of (y ∷ ws) ++ rest) (line_of (x ∷ vs) ++ left) h.0.no_space k.0.no_space (sym (append_assoc w (32 ∷ line_of (y ∷ ws)) rest) ∙ e ∙ append_assoc v (32 ∷ line_of (x ∷ vs)) left) in
    let t = line_same (y ∷ ws) (x ∷ vs) rest left m h.1 k.1 s.1 in
    (ap (λ (z : List ℕ). z ∷ y ∷ ws) s.0 ∙ ap (λ (zs : List (List ℕ)). v ∷ zs) t.0, t.1)

-- ---- the words of a row

-- the words of a step have no space and no line feed, and are one for each value
abbrev GoodStep : Step → Type 0
GoodStep (Word w) = IsWord w
GoodStep (Takes (Upto limit)) = limit < 2 ^ 64
GoodStep (Takes HexBytes) = Unit {0}
GoodStep (Takes (Either first second)) = IsWord first × IsWord second × (bytes_eq first second ≡ false)

number_word : (n : ℕ) → n < 2 ^ 64 → IsWord (decimal n)
number_word n h = record { no_space = lacks-decimal 32 n (omega arith) h; no_feed = lacks-decimal 10 n (omega arith) h }

hex_word : (bytes : List ℕ) → IsWord (hex_text bytes)
hex_word bytes = record { no_space = lacks-hex_text 32 bytes refl refl refl; no_feed = lacks-hex_text 10 bytes refl refl refl }

flag_word : (first second : List ℕ) (flag : Bool) → IsWord first → IsWord second → IsWord (word_of (Either first second) (OfFlag flag))
flag_word first second true h k = h
flag_word first second false h k = k

value_word : (k : Kind) (v : Value) → GoodStep (Takes k) → IsOf k v → IsWord (word_of k v)
value_word (Upto limit) v g h =
    let W : Value → Type 0 = λ u. IsWord (word_of (Upto limit) u) in
    let le : h.0 ≤ limit = h.2 in
    subst W (sym h.1) (number_word h.0 (omega arith))
value_word HexBytes v g h =
    let W : Value → Type 0 = λ u. IsWord (word_of HexBytes u) in
    subst W (sym h.1) (hex_word h.0)
value_word (Either first second) v g h =
    let W : Value → Type 0 = λ u. IsWord (word_of (Either first second) u) in
    subst W (sym h.1) (flag_word first second h.0 g.0 g.1)

row_words : (ss : List Step) (vs : List Value) → AllByRecursion GoodStep ss → Fit ss vs → AllByRecursion IsWord (words ss vs)
row_words [] vs g h = tt
row_words (Word w ∷ ss) vs g h = (g.0, row_words ss vs g.1 h)
row_words (Takes k ∷ ss) [] g h = absurd h
row_words (Takes k ∷ ss) (v ∷ vs) g h = (value_word k v g.0 h.0, row_words ss vs g.1 h.1)

row_length : (ss : List Step) (vs : List Value) → Fit ss vs → length (words ss vs) ≡ length ss
row_length [] vs h = refl
row_length (Word w ∷ ss) vs h = ap suc (row_length ss vs h)
row_length (Takes k ∷ ss) [] h = absurd h
row_length (Takes k ∷ ss) (v ∷ vs) h = ap suc (row_length ss vs h.1)

flag_same : (first second : List ℕ) (f g : Bool) → bytes_eq first second ≡ false
    → word_of (Either first second) (OfFlag f) ≡ word_of (Either first second) (OfFlag g) → f ≡ g
flag_same first second true true h e = refl
flag_same first second false false h e = refl
flag_same first second true false h e = let t = text_same first second e in cc
flag_same first second false true h e = let t = text_same first second (sym e) in cc

hex_same : (a b : List ℕ) → IsBytes a → IsBytes b → hex_text a ≡ hex_text b → a ≡ b
hex_same a b h k e = same_some a b (sym (hex_again a h) ∙ ap hex_of e ∙ hex_again b k)

value_same : (k : Kind) (v u : Value) → GoodStep (Takes k) → IsOf k v → IsOf k u → word_of k v ≡ word_of k u → v ≡ u
value_same (Upto limit) v u g h i e =
    let a : h.0 ≤ limit = h.2 in
    let b : i.0 ≤ limit = i.2 in
    let same : decimal h.0 ≡ decimal i.0 = sym (ap (word_of (Upto limit)) h.1) ∙ e ∙ ap (word_of (Upto limit)) i.1 in
    h.1 ∙ ap OfNumber (decimal_injective h.0 i.0 (omega arith) (omega arith) same) ∙ sym i.1
value_same HexBytes v u g h i e =
    let same : hex_text h.0 ≡ hex_text i.0 = sym (ap (word_of HexBytes) h.1) ∙ e ∙ ap (word_of HexBytes) i.1 in
    h.1 ∙ ap OfBytes (hex_same h.0 i.0 h.2 i.2 same) ∙ sym i.1
value_same (Either first second) v u g h i e =
    h.1 ∙ ap OfFlag (flag_same first second h.0 i.0 g.2 (sym (ap (word_of (Either first second)) h.1) ∙ e ∙ ap (word_of (Either first second)) i.1)) ∙ sym i.1

values_same : (ss : List Step) (vs us : List Value) → AllByRecursion GoodStep ss → Fit ss vs → Fit ss us → words ss vs ≡ words ss us → vs ≡ us
values_same [] vs us g h k e = h ∙ sym k
values_same (Word w ∷ ss) vs us g h k e = let tail : words ss vs ≡ words ss us = cc in values_same ss vs us g.1 h k tail
values_same (Takes kind ∷ ss) [] us g h k e = absurd h
values_same (Takes kind ∷ ss) (v ∷ vs) [] g h k e = absurd k
values_same (Takes kind ∷ ss) (v ∷ vs) (u ∷ us) g h k e =
    let first : word_of kind v ≡ word_of kind u = cc in
    let tail : words ss vs ≡ words ss us = cc in
    ap (λ (x : Value). x ∷ vs) (value_same kind v u g.0 h.0 k.0 first) ∙ ap (λ (xs : List Value). u ∷ xs) (values_same ss vs us g.1 h.1 k.1 tail)

-- a text begins with one line of a row at most
row_same : (ss : List Step) (vs us : List Value) (rest left : List ℕ) → AllByRecursion GoodStep ss → Fit ss vs → Fit ss us
    → line_of (words ss vs) ++ rest ≡ line_of (words ss us) ++ left → (vs ≡ us) × (rest ≡ left)
row_same ss vs us rest left g h k e =
    let s = line_same (words ss vs) (words ss us) rest left (row_length ss vs h ∙ sym (row_length ss us k)) (row_words ss vs g h) (row_words ss us g k) e in
    (values_same ss vs us g h k s.0, s.1)

-- ---- the lines

spelled_text : (text line other rest : List ℕ) → text ≡ line ++ rest → line ≡ other → text ≡ other ++ rest
spelled_text text line other rest e f = e ∙ ap (λ (v : List ℕ). v ++ rest) f

abbrev number_in : Value → ℕ
number_in (OfNumber n) = n
number_in v = 0

abbrev flag_in : Value → Bool
flag_in (OfFlag flag) = flag
flag_in v = true

abbrev bytes_in : Value → List ℕ
bytes_in (OfBytes bytes) = bytes
bytes_in v = []

-- the value in a place
abbrev value_in : List Value → ℕ → Value
value_in vs k = slice_index_or vs k (OfNumber 0)

word_good : (w : List ℕ) → lacks 32 w ≡ true → lacks 10 w ≡ true → IsWord w
word_good w h k = record { no_space = h; no_feed = k }

small_8 : most_8 < 2 ^ 64
small_8 = omega arith

small_32 : most_32 < 2 ^ 64
small_32 = omega arith

small_64 : most_64 < 2 ^ 64
small_64 = omega arith

head_good : AllByRecursion GoodStep head_row
head_good =
    (word_good (codes "journal") refl refl, (small_8, (word_good (codes "type") refl refl, (small_8, ((word_good (codes "cppc") refl refl, word_good (codes "bank") refl refl, refl), (word_good (codes "room") refl refl, (small_32, (word_good (codes "turnaround") refl refl, (small_32, (word_good (codes "rate") refl refl, (small_32, (word_good (codes "errors") refl refl, ((word_good (codes "yes") refl refl, word_good (codes "no") refl refl, refl), tt)))))))))))))

head_fit : (h : JournalHead) → IsHead h → Fit head_row (head_values h)
head_fit h r =
    ((h.id, refl, r.id), ((h.kind, refl, r.kind), ((h.cppc, refl), ((h.room, refl, r.room), ((h.limits.turnaround, refl, r.turnaround), ((h.limits.per_minute, refl, r.rate), ((h.reports, refl), refl)))))))

head_cases : (h : JournalHead) (c r : Bool) → h.cppc ≡ c → h.reports ≡ r → spelled (head_line h) ≡ line_of (words head_row (head_values h))
unfolding spelled
head_cases h true true e f = rw (e, f) refl
head_cases h true false e f = rw (e, f) refl
head_cases h false true e f = rw (e, f) refl
head_cases h false false e f = rw (e, f) refl

abbrev head_from : List Value → JournalHead
head_from vs = record {
  id = number_in (value_in vs 0);
  kind = number_in (value_in vs 1);
  cppc = flag_in (value_in vs 2);
  room = number_in (value_in vs 3);
  limits = record { turnaround = number_in (value_in vs 4); per_minute = number_in (value_in vs 5) };
  reports = flag_in (value_in vs 6);
}

head_back : (h g : JournalHead) → head_values h ≡ head_values g → h ≡ g
head_back h g e = ap head_from e

pub head_same : (text : List ℕ) (h g : JournalHead) (rest left : List ℕ) → HeadAt text h rest → HeadAt text g left → (h ≡ g) × (rest ≡ left)
head_same text h g rest left a b =
    let s = row_same head_row (head_values h) (head_values g) rest left head_good (head_fit h a.right) (head_fit g b.right) (sym (spelled_text text (spelled (head_line h)) _ rest a.is (head_cases h h.cppc h.reports refl refl)) ∙ spelled_text text (spelled (head_line g)) _ left b.is (head_cases g g.cppc g.reports refl refl)) in
    (head_back h g s.0, s.1)

-- ---- the line of a record

record_good : (place : ℕ) → place < 2 ^ 64 → AllByRecursion GoodStep (record_row place)
unfolding exchange_row
record_good place small =
    (word_good (codes "record") refl refl, (number_word place small, (word_good (codes "caller") refl refl, (small_32, (word_good (codes "code") refl refl, (small_32, ((word_good (codes "error") refl refl, word_good (codes "ok") refl refl, refl), (word_good (codes "post") refl refl, (small_64, (word_good (codes "done") refl refl, (small_64, ((word_good (codes "late") refl refl, word_good (codes "timely") refl refl, refl), (word_good (codes "in") refl refl, (tt, (word_good (codes "out") refl refl, (tt, tt))))))))))))))))

record_fit : (place : ℕ) (r : Record) → IsRecord r → Fit (record_row place) (record_values r)
unfolding exchange_row
record_fit place r h =
    ((r.caller, refl, h.caller), ((r.code, refl, h.code), ((r.error, refl), ((r.post, refl, h.post), ((r.done, refl, h.done), ((r.late, refl), ((r.input, refl, h.input), ((r.output, refl, h.output), refl))))))))

record_cases : (place : ℕ) (r : Record) (e l : Bool) → r.error ≡ e → r.late ≡ l
    → spelled (record_line place r) ≡ line_of (words (record_row place) (record_values r))
unfolding spelled exchange_row
record_cases place r true true e f = rw (e, f) refl
record_cases place r true false e f = rw (e, f) refl
record_cases place r false true e f = rw (e, f) refl
record_cases place r false false e f = rw (e, f) refl

abbrev record_from : List Value → Record
record_from vs = record {
  caller = number_in (value_in vs 0);
  code = number_in (value_in vs 1);
  error = flag_in (value_in vs 2);
  post = number_in (value_in vs 3);
  done = number_in (value_in vs 4);
  late = flag_in (value_in vs 5);
  input = bytes_in (value_in vs 6);
  output = bytes_in (value_in vs 7);
}

record_back : (r q : Record) → record_values r ≡ record_values q → r ≡ q
record_back r q e = ap record_from e

pub record_same : (place : ℕ) (text : List ℕ) (r q : Record) (rest left : List ℕ) → place < 2 ^ 64 → RecordAt place text r rest
    → RecordAt place text q left → (r ≡ q) × (rest ≡ left)
record_same place text r q rest left small a b =
    let s = row_same (record_row place) (record_values r) (record_values q) rest left (record_good place small) (record_fit place r a.right) (record_fit place q b.right) (sym (spelled_text text (spelled (record_line place r)) _ rest a.is (record_cases place r r.error r.late refl refl)) ∙ spelled_text text (spelled (record_line place q)) _ left b.is (record_cases place q q.error q.late refl refl)) in
    (record_back r q s.0, s.1)

-- ---- the line of a pending command

pending_good : AllByRecursion GoodStep pending_row
pending_good =
    (word_good (codes "pending") refl refl, (word_good (codes "caller") refl refl, (small_32, (word_good (codes "code") refl refl, (small_32, (word_good (codes "post") refl refl, (small_64, (word_good (codes "in") refl refl, (tt, tt)))))))))

pending_fit : (p : Pending) → IsPending p → Fit pending_row (pending_values p)
pending_fit p h =
    ((p.caller, refl, h.caller), ((p.code, refl, h.code), ((p.post, refl, h.post), ((p.input, refl, h.input), refl))))

pending_is : (p : Pending) → spelled (pending_line p) ≡ line_of (words pending_row (pending_values p))
unfolding spelled
pending_is p = refl

abbrev pending_from : List Value → Pending
pending_from vs = record {
  caller = number_in (value_in vs 0);
  code = number_in (value_in vs 1);
  post = number_in (value_in vs 2);
  input = bytes_in (value_in vs 3);
}

pending_back : (p q : Pending) → pending_values p ≡ pending_values q → p ≡ q
pending_back p q e = ap pending_from e

pub pending_same : (text : List ℕ) (p q : Pending) (rest left : List ℕ) → PendingAt text p rest → PendingAt text q left → (p ≡ q) × (rest ≡ left)
pending_same text p q rest left a b =
    let s = row_same pending_row (pending_values p) (pending_values q) rest left pending_good (pending_fit p a.right) (pending_fit q b.right) (sym (spelled_text text (spelled (pending_line p)) _ rest a.is (pending_is p)) ∙ spelled_text text (spelled (pending_line q)) _ left b.is (pending_is q)) in
    (pending_back p q s.0, s.1)

-- ---- one kind of line

record_first : (place : ℕ) (text : List ℕ) (r : Record) (rest : List ℕ) → RecordAt place text r rest → slice_index text 0 ≡ 114
unfolding spelled
record_first place text r rest h = ap (λ (v : List ℕ). slice_index v 0) h.is

pending_first : (text : List ℕ) (p : Pending) (rest : List ℕ) → PendingAt text p rest → slice_index text 0 ≡ 112
unfolding spelled
pending_first text p rest h = ap (λ (v : List ℕ). slice_index v 0) h.is

end_first : (text : List ℕ) (h : JournalHead) (rest : List ℕ) → text ≡ spelled (end_line h) ++ rest → slice_index text 0 ≡ 101
unfolding spelled
end_first text h rest e = ap (λ (v : List ℕ). slice_index v 0) e

two_first : (text : List ℕ) (a b : ℕ) → eqb a b ≡ false → slice_index text 0 ≡ a → slice_index text 0 ≡ b → ⊥
two_first text a b n h k = let e : a ≡ b = sym h ∙ k in let t = eq-eqb a b e in cc

pub record_no_pending : (place : ℕ) (text : List ℕ) → IsRecordLine place text → IsPendingLine text → ⊥
record_no_pending place text h k = two_first text 114 112 refl (record_first place text h.0 h.1 h.2) (pending_first text k.0 k.1 k.2)

pub record_no_end : (place : ℕ) (head : JournalHead) (text : List ℕ) → IsRecordLine place text → IsEndLine head text → ⊥
record_no_end place head text h k = two_first text 114 101 refl (record_first place text h.0 h.1 h.2) (end_first text head k.0 k.1)

pub pending_no_end : (head : JournalHead) (text : List ℕ) → IsPendingLine text → IsEndLine head text → ⊥
pending_no_end head text h k = two_first text 112 101 refl (pending_first text h.0 h.1 h.2) (end_first text head k.0 k.1)
