-- What a loop over lines has read so far.
use Rattle.std.proofs.Common.{◌≡◌, ℕ, suc, ◌+◌, ◌<◌, ◌≤◌, List, [], ◌∷◌, ◌++◌, length, refl, sym, ap, ◌∙◌, subst, arith}
use Rattle.std.specs.Prelude.{Option, Some, None, Result, Ok, Err}
use Rattle.std.proofs.lemmas.List.{append_assoc, append-nil, length-append}
use Rattle.pcc_bytes.specs.Fields.{front_of, last_in, last_of, lines_of, split_at}
use Rattle.pcc_script.specs.declared.order.Seen.{Seen}
use Rattle.pcc_script.specs.declared.partial.Partial.{Partial}
use Rattle.pcc_script.specs.declared.fault.ScriptError.{ScriptError}
use Rattle.pcc_script.specs.declared.fault.ScriptError.TheVariants.{Fault}
use Rattle.pcc_script.specs.declared.fault.ScriptKind.{ScriptKind}
use Rattle.pcc_script.specs.declared.scenario.Scenario.{Scenario}
use Rattle.pcc_script.specs.Rows.{behind as back, most, place}
use Rattle.pcc_script.specs.Text.{Statement, statements_of}
use Rattle.pcc_script.specs.Reading.{count_for, seen_after, read_statement, read_lines, read_text, Blames, Lines, Tells, ended, ended_by, with_front, start, so_far, Empty}
use Rattle.pcc_script.proofs.Growing.{empty_later}
use Rattle.pcc_text.proofs.Lines.{begins}
use Rattle.pcc_script.proofs.Room.{Counted, counted_more, counted_start}

-- the fault that is met, and its line
pub record Met (ls : Lines) (n : ℕ) (k : ScriptKind) : Type 0 where
  pub fault : ls.fault ≡ Some k
  pub line : suc (length ls.right) ≡ n

-- so many lines are read, and a rest is left
pub record Going (text rest : List ℕ) (line : ℕ) (seen : Seen) (p : Partial) : Type 0 where
  pub read : with_front (so_far p) (read_lines seen (lines_of rest)) ≡ read_lines start (lines_of text)
  pub last : last_in rest ≡ last_in text
  pub count : suc (length (so_far p)) ≡ line
  pub counted : Counted line seen
  pub empty : Empty seen.next p

pub going_start : (text : List ℕ) (p : Partial) → so_far p ≡ [] → Empty 0 p → Going text text 1 start p
going_start text p e h = record { read = rw e refl; last = refl; count = rw e refl; counted = counted_start; empty = h }

pub going_more : (text rest fields behind : List ℕ) (line : ℕ) (seen : Seen) (p q : Partial) (r : Statement)
    → split_at 10 rest ≡ fields ∷ split_at 10 behind → read_statement seen (split_at 32 fields) ≡ Ok r → seen.next ≤ place r.word
    → count_for seen r.word < most r.word → so_far q ≡ so_far p ++ r ∷ [] → Empty (back r.word) q → Going text rest line seen p
    → Going text behind (line + 1) (seen_after seen r.word) q
going_more text rest fields behind line seen p q r cut e placed few s h g =
    let b = begins rest fields behind cut in
    let next = read_lines (seen_after seen r.word) (lines_of behind) in
    let step : read_lines seen (lines_of rest) ≡ with_front (r ∷ []) next = rw (b.lines, e) refl in
    let len : length (so_far q) ≡ length (so_far p) + 1 = ap length s ∙ length-append (so_far p) (r ∷ []) in
    let count : suc (length (so_far p)) ≡ line = g.count in
    let join : with_front (so_far p ++ r ∷ []) next ≡ with_front (so_far p) (with_front (r ∷ []) next) = simp append_assoc in
    record {
      read = ap (λ (front : List Statement). with_front front next) s ∙ join ∙ ap (with_front (so_far p)) (sym step) ∙ g.read;
      last = sym b.last ∙ g.last;
      count = omega arith;
      counted = counted_more line seen r.word placed few g.counted;
      empty = h;
    }

pub going_empty : (text rest : List ℕ) (line : ℕ) (seen : Seen) (p : Partial) (at : ℕ) → seen.next ≤ at → Going text rest line seen p → Empty at p
going_empty text rest line seen p at le g = empty_later seen.next at p le g.empty

-- a line has a number behind its own
pub going_short : (text rest : List ℕ) (line : ℕ) (seen : Seen) (p : Partial) → Going text rest line seen p → line ≤ 65628
going_short text rest line seen p g = g.counted.short

pub going_count : (text rest : List ℕ) (line : ℕ) (seen : Seen) (p : Partial) → Going text rest line seen p → suc (length (so_far p)) ≡ line
going_count text rest line seen p g = g.count

-- what is told of all lines is told of the text
faulted : (ls : Lines) (last : List ℕ) (n : ℕ) (k : ScriptKind) → Met ls n k → Met (ended ls last) n k
faulted ls last n k m =
    let same : ended ls last ≡ record { right = ls.right; fault = Some k } = ap (λ (o : Option ScriptKind). ended_by o ls.right last) m.fault in
    let M : Lines → Type 0 = λ all. Met all n k in
    subst M (sym same) (record { fault = refl; line = m.line })

pub going_fault : (text rest fields behind : List ℕ) (line : ℕ) (seen : Seen) (p : Partial) (k : ScriptKind)
    → split_at 10 rest ≡ fields ∷ split_at 10 behind → read_statement seen (split_at 32 fields) ≡ Err k → Going text rest line seen p
    → Blames (Fault line k) (read_text text)
unfolding read_text
going_fault text rest fields behind line seen p k cut e g =
    let b = begins rest fields behind cut in
    let step : read_lines seen (lines_of rest) ≡ record { right = []; fault = Some k } = rw (b.lines, e) refl in
    let all : read_lines start (lines_of text) ≡ record { right = so_far p ++ []; fault = Some k } = sym g.read ∙ ap (with_front (so_far p)) step in
    let count : suc (length (so_far p)) ≡ line = g.count in
    let len : length (so_far p ++ []) ≡ length (so_far p) = ap length (append-nil (so_far p)) in
    let M : Lines → Type 0 = λ ls. Met ls line k in
    let m = faulted (read_lines start (lines_of text)) (last_in text) line k (subst M (sym all) (record { fault = refl; line = omega arith })) in
    (m.fault, m.line)

abbrev read_so_far : List Statement → Lines
read_so_far rs = record { right = rs; fault = None }

pub going_end : (text rest : List ℕ) (line : ℕ) (seen : Seen) (p : Partial) (r : Result Scenario ScriptError) → split_at 10 rest ≡ rest ∷ []
    → Going text rest line seen p → Tells statements_of r (ended (record { right = so_far p; fault = None }) rest)
    → Tells statements_of r (read_text text)
unfolding read_text
going_end text rest line seen p r uncut g h =
    let none : lines_of rest ≡ [] = ap front_of uncut in
    let end : rest ≡ last_in text = sym (ap last_of uncut) ∙ g.last in
    let step : read_lines seen (lines_of rest) ≡ read_so_far [] = ap (read_lines seen) none in
    let all : read_so_far (so_far p) ≡ read_lines start (lines_of text) = sym (ap (with_front (so_far p)) step ∙ ap read_so_far (append-nil (so_far p))) ∙ g.read in
    let T : Lines → Type 0 = Tells statements_of r in
    subst T (ap (λ (ls : Lines). ended ls rest) all ∙ ap (ended (read_lines start (lines_of text))) end) h
