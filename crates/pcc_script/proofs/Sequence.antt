-- Lines one behind the other: what is read of them, and the first that is wrong.
use Rattle.std.proofs.Common.{◌≡◌, ℕ, suc, ◌+◌, ◌<◌, ◌≤◌, eqb, ltb, max, Bool, true, false, cond, List, [], ◌∷◌, ◌++◌, map, refl, sym, ap, ◌∙◌, subst, arith, inl, inr}
use Rattle.std.specs.Prelude.{Option, Some, None, Result, Ok, Err, IfOk}
use Rattle.std.proofs.lemmas.Bool.{eqb-false, eqb-true, le-ltb, lt-ltb, ltb-false, ltb-true}
use Rattle.std.proofs.lemmas.Bool.Decides.{nat_tests}
use Rattle.std.proofs.lemmas.List.{append_assoc, append-nil}
use Rattle.pcc_bytes.specs.Fields.{split_at}
use Rattle.pcc_text.proofs.Lines.{lacks_joined}
use Rattle.pcc_text.proofs.Laws.{lacks, EachLacks, split_join, text_of_parts}
use Rattle.pcc_script.specs.declared.word.Word.{Word}
use Rattle.pcc_script.specs.declared.order.Seen.{Seen}
use Rattle.pcc_script.specs.declared.line.Entry.{Entry}
use Rattle.pcc_script.specs.declared.fault.Stop.{Stop}
use Rattle.pcc_script.specs.declared.fault.ScriptKind.{ScriptKind}
use Rattle.pcc_script.specs.declared.fault.ScriptKind.TheVariants as kind
use Rattle.pcc_script.specs.Rows.{Value, Step, AtLeast, Exactly, AtMost, Takes, spell, field_at, text_of, place, behind, most, steps_of}
use Rattle.pcc_script.specs.Text.{Statement, fields_of, line_of, next_of, count_at, AllRight, LineRight, InOrder}
use Rattle.pcc_script.specs.Faults.{LineWrong, NotKnown, OutOfPlace, OneMore, Inside}
use Rattle.pcc_script.specs.Reading.{read_at, word_named, placed, statement_of, count_for, seen_after, read_statement, read_lines, Lines, with_front, go_on, start, Gives, entry_statement}
use Rattle.pcc_script.proofs.Counting.{count_push, next_push, none_below, place_behind}
use Rattle.pcc_script.proofs.Fields.{IsCut, space, feed, lacks-spell}
use Rattle.pcc_script.proofs.Lines.{bind_ok, bind_err, First, Second, ok_same, test_ok, want_ok, test_err, want_err, at_reads, at_again, at_wrong, at_fails, fields_are, word_reads, word_again, word_at, no_word, word_fails}

-- ---- the state of the order

pub record Sees (seen : Seen) (before : List Statement) : Type 0 where
  pub next : seen.next ≡ next_of before
  pub from : seen.place ≤ seen.next
  pub count : count_at seen.place before ≡ seen.count
  pub above : (p : ℕ) → seen.place < p → count_at p before ≡ 0

pub sees_start : Sees start []
sees_start = record { next = refl; from = omega arith; count = refl; above = λ p h. refl }

above_it : (a b : ℕ) → (a ≡ b → ⊥) → b ≤ a → b < a
above_it a b ne le = grind arith

abbrev statement_with : Word → List Value → Statement
statement_with w vs = record { word = w; values = vs }

count_case : (t : Bool) (seen : Seen) (before : List Statement) (w : Word) → Sees seen before → seen.next ≤ place w → eqb (place w) seen.place ≡ t
    → cond t seen.count 0 ≡ count_at (place w) before
count_case true seen before w s le e = sym s.count ∙ ap (λ (p : ℕ). count_at p before) (sym (eqb-true (place w) seen.place e))
count_case false seen before w s le e =
    let from : seen.place ≤ seen.next = s.from in
    let ne : place w ≡ seen.place → ⊥ = eqb-false (place w) seen.place e in
    let lt : seen.place < place w = above_it (place w) seen.place ne (omega arith) in
    sym (s.above (place w) lt)

pub count_is : (seen : Seen) (before : List Statement) (w : Word) → Sees seen before → seen.next ≤ place w → count_for seen w ≡ count_at (place w) before
count_is seen before w s le = count_case (eqb (place w) seen.place) seen before w s le refl

pub sees_more : (seen : Seen) (before : List Statement) (r : Statement) → Sees seen before → seen.next ≤ place r.word
    → Sees (seen_after seen r.word) (before ++ r ∷ [])
sees_more seen before r s le =
    let next : seen.next ≡ next_of before = s.next in
    let from : seen.place ≤ seen.next = s.from in
    let pb : place r.word ≤ behind r.word = place_behind r.word in
    let pushed : next_of (before ++ r ∷ []) ≡ max (next_of before) (behind r.word) = next_push before r in
    let count : count_for seen r.word ≡ count_at (place r.word) before = count_is seen before r.word s le in
    let one : cond {A = ℕ} (eqb (place r.word) (place r.word)) 1 0 ≡ 1 = grind (arith, nat_tests) in
    let more : count_at (place r.word) (before ++ r ∷ []) ≡ count_at (place r.word) before + cond (eqb (place r.word) (place r.word)) 1 0 = count_push (place r.word) before r in
    record {
      next = omega arith;
      from = pb;
      count = omega arith;
      above = λ (p : ℕ) (h : place r.word < p).
          let z : count_at p before ≡ 0 = s.above p (omega arith) in
          let none : cond {A = ℕ} (eqb (place r.word) p) 1 0 ≡ 0 = none_below p (place r.word) h in
          let push : count_at p (before ++ r ∷ []) ≡ count_at p before + cond (eqb (place r.word) p) 1 0 = count_push p before r in
          omega arith;
    }

-- ---- one line

-- fields of a line that is right
pub record LineOf (before : List Statement) (f : List (List ℕ)) (r : Statement) : Type 0 where
  pub is : f ≡ fields_of r
  pub right : LineRight before r

pub statement_reads : (seen : Seen) (before : List Statement) (f : List (List ℕ)) (r : Statement) → Sees seen before → read_statement seen f ≡ Ok r
    → LineOf before f r
unfolding read_statement
statement_reads seen before f r s h =
    let w = bind_ok (word_named (field_at f 0)) _ r h in
    let p = bind_ok (placed seen.next (count_for seen w.0) w.0) (λ (_ : Word). statement_of w.0 f) r w.2 in
    let m = test_ok (ltb (place w.0) seen.next) kind.Misplaced (cond (ltb (count_for seen w.0) (most w.0)) (Ok w.0) (Err kind.Many)) p.0 p.1 in
    let n = want_ok (ltb (count_for seen w.0) (most w.0)) kind.Many (Ok w.0) p.0 m.1 in
    let vs = bind_ok (read_at 1 (steps_of w.0 f) f) (λ (ws : List Value). Ok (statement_with w.0 ws)) r p.2 in
    let ok : AllRight 1 (steps_of w.0 f) f vs.0 = at_reads 1 (steps_of w.0 f) f vs.0 vs.1 in
    let is : f ≡ fields_of (statement_with w.0 vs.0) = fields_are w.0 f vs.0 (word_reads (field_at f 0) w.0 w.1) ok in
    let next : seen.next ≡ next_of before = s.next in
    let le : seen.next ≤ place w.0 = ltb-false (place w.0) seen.next m.0 in
    let lt : count_for seen w.0 < most w.0 = ltb-true (count_for seen w.0) (most w.0) n.0 in
    let count : count_for seen w.0 ≡ count_at (place w.0) before = count_is seen before w.0 s le in
    let P : List (List ℕ) → Type 0 = λ g. AllRight 1 (steps_of w.0 g) g vs.0 in
    subst (LineOf before f) (ok_same (statement_with w.0 vs.0) r vs.2) (record {
      is = is;
      right = record { placed = omega arith; few = omega arith; fields = subst P is ok };
    })

pub statement_again : (seen : Seen) (before : List Statement) (r : Statement) → Sees seen before → LineRight before r → read_statement seen (fields_of r) ≡ Ok r
unfolding read_statement
statement_again seen before r s ok =
    let next : seen.next ≡ next_of before = s.next in
    let here : next_of before ≤ place r.word = ok.placed in
    let le : seen.next ≤ place r.word = omega arith in
    let count : count_for seen r.word ≡ count_at (place r.word) before = count_is seen before r.word s le in
    let few : count_at (place r.word) before < most r.word = ok.few in
    rw (word_again r.word, le-ltb (place r.word) seen.next le, lt-ltb (count_for seen r.word) (most r.word) (omega arith), at_again 1 (steps_of r.word (fields_of r)) (fields_of r) r.values ok.fields) refl

pub statement_wrong : (seen : Seen) (before : List Statement) (f : List (List ℕ)) (k : ScriptKind) → Sees seen before → read_statement seen f ≡ Err k
    → LineWrong before f k
unfolding read_statement
statement_wrong seen before f k s h =
    let next : seen.next ≡ next_of before = s.next in
    elim (bind_err (word_named (field_at f 0)) _ k h) [
      | First e ↦ let u = no_word (field_at f 0) k e in subst (LineWrong before f) (sym u.0) (NotKnown u.1)
      | Second w e g ↦
          let is : field_at f 0 ≡ text_of w = word_reads (field_at f 0) w e in
          elim (bind_err (placed seen.next (count_for seen w) w) (λ (_ : Word). statement_of w f) k g) [
            | First p ↦ elim (test_err (ltb (place w) seen.next) kind.Misplaced k (cond (ltb (count_for seen w) (most w)) (Ok w) (Err kind.Many)) p) [
              | inl m ↦
                  let lt : place w < seen.next = ltb-true (place w) seen.next m.0 in
                  subst (LineWrong before f) (sym m.1) (OutOfPlace w is (omega arith))
              | inr m ↦
                  let le : seen.next ≤ place w = ltb-false (place w) seen.next m.0 in
                  let count : count_for seen w ≡ count_at (place w) before = count_is seen before w s le in
                  elim (want_err (ltb (count_for seen w) (most w)) kind.Many k (Ok w) m.1) [
                    | inl n ↦
                        let full : most w ≤ count_for seen w = ltb-false (count_for seen w) (most w) n.0 in
                        subst (LineWrong before f) (sym n.1) (OneMore w is (omega arith) (omega arith))
                    | inr n ↦ cc n.1
                  ]
            ]
            | Second v p q ↦
                let m = test_ok (ltb (place w) seen.next) kind.Misplaced (cond (ltb (count_for seen w) (most w)) (Ok w) (Err kind.Many)) v p in
                let n = want_ok (ltb (count_for seen w) (most w)) kind.Many (Ok w) v m.1 in
                let le : seen.next ≤ place w = ltb-false (place w) seen.next m.0 in
                let lt : count_for seen w < most w = ltb-true (count_for seen w) (most w) n.0 in
                let count : count_for seen w ≡ count_at (place w) before = count_is seen before w s le in
                elim (bind_err (read_at 1 (steps_of w f) f) (λ (ws : List Value). Ok (statement_with w ws)) k q) [
                  | First a ↦ Inside w k is (omega arith) (omega arith) (at_wrong 1 (steps_of w f) f k a)
                  | Second ws a b ↦ cc
                ]
          ]
    ]

pub statement_fails : (seen : Seen) (before : List Statement) (f : List (List ℕ)) (k : ScriptKind) → Sees seen before → LineWrong before f k
    → read_statement seen f ≡ Err k
unfolding read_statement
statement_fails seen before f k s (NotKnown never) = rw (word_fails (field_at f 0) (word_named (field_at f 0)) refl never) refl
statement_fails seen before f k s (OutOfPlace w is lt) =
    let next : seen.next ≡ next_of before = s.next in
    rw (word_at (field_at f 0) w is, lt-ltb (place w) seen.next (omega arith)) refl
statement_fails seen before f k s (OneMore w is here full) =
    let next : seen.next ≡ next_of before = s.next in
    let le : seen.next ≤ place w = omega arith in
    let count : count_for seen w ≡ count_at (place w) before = count_is seen before w s le in
    rw (word_at (field_at f 0) w is, le-ltb (place w) seen.next le, le-ltb (count_for seen w) (most w) (omega arith)) refl
statement_fails seen before f k s (Inside w d is here few first) =
    let next : seen.next ≡ next_of before = s.next in
    let le : seen.next ≤ place w = omega arith in
    let count : count_for seen w ≡ count_at (place w) before = count_is seen before w s le in
    rw (word_at (field_at f 0) w is, le-ltb (place w) seen.next le, lt-ltb (count_for seen w) (most w) (omega arith), at_fails 1 (steps_of w f) f d first) refl

-- what a line that is read has for its place
pub statement_placed : (seen : Seen) (f : List (List ℕ)) (r : Statement) → read_statement seen f ≡ Ok r
    → (seen.next ≤ place r.word) × (count_for seen r.word < most r.word)
unfolding read_statement
statement_placed seen f r h =
    let w = bind_ok (word_named (field_at f 0)) _ r h in
    let p = bind_ok (placed seen.next (count_for seen w.0) w.0) (λ (_ : Word). statement_of w.0 f) r w.2 in
    let m = test_ok (ltb (place w.0) seen.next) kind.Misplaced (cond (ltb (count_for seen w.0) (most w.0)) (Ok w.0) (Err kind.Many)) p.0 p.1 in
    let n = want_ok (ltb (count_for seen w.0) (most w.0)) kind.Many (Ok w.0) p.0 m.1 in
    let vs = bind_ok (read_at 1 (steps_of w.0 f) f) (λ (ws : List Value). Ok (statement_with w.0 ws)) r p.2 in
    let P : Statement → Type 0 = λ q. (seen.next ≤ place q.word) × (count_for seen q.word < most q.word) in
    subst P (ok_same (statement_with w.0 vs.0) r vs.2) (ltb-false (place w.0) seen.next m.0, ltb-true (count_for seen w.0) (most w.0) n.0)

pub next_placed : (seen : Seen) (f : List (List ℕ)) (o : Result Entry Stop) → Gives entry_statement o (read_statement seen f)
    → IfOk o (λ e. seen.next ≤ place (entry_statement e).word)
next_placed seen f (Ok e) h = (statement_placed seen f (entry_statement e) h).0
next_placed seen f (Err e) h = tt

pub next_few : (seen : Seen) (f : List (List ℕ)) (o : Result Entry Stop) → Gives entry_statement o (read_statement seen f)
    → IfOk o (λ e. count_for seen (entry_statement e).word < most (entry_statement e).word)
next_few seen f (Ok e) h = (statement_placed seen f (entry_statement e) h).1
next_few seen f (Err e) h = tt

-- ---- texts of lines

all_lack : (c : ℕ) (i : ℕ) (ss : List Step) (f : List (List ℕ)) (vs : List Value) → IsCut c → AllRight i ss f vs → EachLacks c (map spell vs)
all_lack c i [] f vs h a = rw a tt
all_lack c i (AtLeast n ∷ ss) f vs h a = all_lack c i ss f vs h a.1
all_lack c i (Exactly n ∷ ss) f vs h a = all_lack c i ss f vs h a.1
all_lack c i (AtMost j n ∷ ss) f vs h a = all_lack c i ss f vs h a.1
all_lack c i (Takes k ∷ ss) f [] h a = absurd a
all_lack c i (Takes k ∷ ss) f (v ∷ vs) h a = (lacks-spell c k v h a.0, all_lack c (suc i) ss f vs h a.2)

fields_lack : (c : ℕ) (before : List Statement) (r : Statement) → IsCut c → LineRight before r → EachLacks c (fields_of r)
fields_lack c before r h ok = (h.word r.word, all_lack c 1 (steps_of r.word (fields_of r)) (fields_of r) r.values h ok.fields)

statement_split : (before : List Statement) (r : Statement) → LineRight before r → split_at 32 (line_of r) ≡ fields_of r
statement_split before r ok = split_join 32 (text_of r.word) (map spell r.values) (fields_lack 32 before r space ok)

pub statement_one : (before : List Statement) (r : Statement) → LineRight before r → lacks 10 (line_of r) ≡ true
statement_one before r ok = lacks_joined 10 (fields_of r) refl (fields_lack 10 before r feed ok)

-- ---- many lines

-- what lines are, where reading ended so
abbrev pub EndsSo : Option ScriptKind → List Statement → List Statement → List (List ℕ) → Type 0
EndsSo None before right lines = lines ≡ map line_of right
EndsSo (Some k) before right lines = (line : List ℕ) × (rest : List (List ℕ)) × (lines ≡ map line_of right ++ line ∷ rest) × LineWrong (before ++ right) (split_at 32 line) k

pub record Reads (before : List Statement) (ls : Lines) (lines : List (List ℕ)) : Type 0 where
  pub order : InOrder before ls.right
  pub ends : EndsSo ls.fault before ls.right lines

ends_more : (o : Option ScriptKind) (before right : List Statement) (r : Statement) (line : List ℕ) (lines : List (List ℕ)) → line ≡ line_of r
    → EndsSo o (before ++ r ∷ []) right lines → EndsSo o before (r ∷ right) (line ∷ lines)
ends_more None before right r line lines e h = cc
ends_more (Some k) before right r line lines e h =
    let P : List Statement → Type 0 = λ rs. LineWrong rs (split_at 32 h.0) k in
    let all : line ∷ lines ≡ line_of r ∷ (map line_of right ++ h.0 ∷ h.1) = let t : lines ≡ map line_of right ++ h.0 ∷ h.1 = h.2 in cc in
    (h.0, h.1, all, subst P (append_assoc before (r ∷ []) right) h.3)

read_case : (o : Result Statement ScriptKind) (seen : Seen) (before : List Statement) (line : List ℕ) (lines : List (List ℕ)) → Sees seen before
    → read_statement seen (split_at 32 line) ≡ o
    → ((r : Statement) → Sees (seen_after seen r.word) (before ++ r ∷ []) → Reads (before ++ r ∷ []) (read_lines (seen_after seen r.word) lines) lines)
    → Reads before (go_on o (λ (r : Statement). read_lines (seen_after seen r.word) lines)) (line ∷ lines)
read_case (Err k) seen before line lines s e more =
    let w : LineWrong before (split_at 32 line) k = statement_wrong seen before (split_at 32 line) k s e in
    let P : List Statement → Type 0 = λ rs. LineWrong rs (split_at 32 line) k in
    record { order = tt; ends = (line, lines, refl, subst P (sym (append-nil before)) w) }
read_case (Ok r) seen before line lines s e more =
    let ok = statement_reads seen before (split_at 32 line) r s e in
    let place_of = statement_placed seen (split_at 32 line) r e in
    let m = more r (sees_more seen before r s place_of.0) in
    let ls = read_lines (seen_after seen r.word) lines in
    let is : line ≡ line_of r = text_of_parts 32 line (fields_of r) ok.is in
    record { order = (ok.right, m.order); ends = ends_more ls.fault before ls.right r line lines is m.ends }

pub lines_read : (lines : List (List ℕ)) (seen : Seen) (before : List Statement) → Sees seen before → Reads before (read_lines seen lines) lines
lines_read [] seen before s = record { order = tt; ends = refl }
lines_read (line ∷ lines) seen before s =
    read_case (read_statement seen (split_at 32 line)) seen before line lines s refl (λ r t. lines_read lines (seen_after seen r.word) (before ++ r ∷ []) t)

-- right lines are read, and what stands behind them is read on
pub record Again (seen : Seen) (before rs : List Statement) (more : List (List ℕ)) : Type 0 where
  pub then : Seen
  pub sees : Sees then (before ++ rs)
  pub is : read_lines seen (map line_of rs ++ more) ≡ with_front rs (read_lines then more)

pub lines_again : (rs : List Statement) (seen : Seen) (before : List Statement) (more : List (List ℕ)) → Sees seen before → InOrder before rs
    → Again seen before rs more
lines_again [] seen before more s h = record { then = seen; sees = subst (Sees seen) (sym (append-nil before)) s; is = refl }
lines_again (r ∷ rs) seen before more s h =
    let e : read_statement seen (split_at 32 (line_of r)) ≡ Ok r = ap (read_statement seen) (statement_split before r h.0) ∙ statement_again seen before r s h.0 in
    let place_of = statement_placed seen (split_at 32 (line_of r)) r e in
    let m = lines_again rs (seen_after seen r.word) (before ++ r ∷ []) more (sees_more seen before r s place_of.0) h.1 in
    let first : read_lines seen (map line_of (r ∷ rs) ++ more) ≡ with_front (r ∷ []) (read_lines (seen_after seen r.word) (map line_of rs ++ more)) = rw e refl in
    record {
      then = m.then;
      sees = subst (Sees m.then) (append_assoc before (r ∷ []) rs) m.sees;
      is = first ∙ ap (with_front (r ∷ [])) m.is;
    }

-- a line that is wrong ends it
pub lines_fail : (seen : Seen) (before : List Statement) (line : List ℕ) (rest : List (List ℕ)) (k : ScriptKind) → Sees seen before
    → LineWrong before (split_at 32 line) k → read_lines seen (line ∷ rest) ≡ record { right = []; fault = Some k }
lines_fail seen before line rest k s h = rw (statement_fails seen before (split_at 32 line) k s h) refl
