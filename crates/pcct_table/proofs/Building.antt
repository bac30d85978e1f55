-- Structures that are read line by line.
use Rattle.std.proofs.Common.{◌≡◌, ◌≢◌, ℕ, suc, ◌+◌, ◌^◌, ◌<◌, ◌≤◌, List, [], ◌∷◌, ◌++◌, length, take, drop, get_or, refl, sym, ap, ◌∙◌, subst, arith}
use Rattle.std.specs.Prelude.{Option, Some, None, Ok, Err}
use Rattle.std.specs.List.{AllByRecursion}
use Rattle.std.proofs.lemmas.List.{append-nil, drop_more, length-append, take_all, take_more, take-append-drop}
use Rattle.pcc_bytes.specs.Fields.{last_in, lines_of, split_at}
use Rattle.pcct_table.specs.declared.build.BuildError.{BuildError}
use Rattle.pcct_table.specs.declared.build.BuildError.TheVariants as error
use Rattle.pcct_table.specs.declared.build.BuildKind.{BuildKind}
use Rattle.pcct_table.specs.declared.build.BuildKind.TheVariants as kind
use Rattle.pcct_table.specs.declared.subspace.Subspace.{Subspace}
use Rattle.pcct_table.specs.Subspaces.{IsSubspace, subspace_bytes}
use Rattle.pcct_table.specs.ShowText.{show_line, structure_lines}
use Rattle.pcct_table.specs.ShowFaults.{IsRightAt}
use Rattle.pcct_table.specs.ShowReading.{AreFew, ReadsStructure, StopsBehind, TellsStructures, OneLineMore, Unended, Wrong, read_line}
use Rattle.pcct_table.proofs.ShowLine.{line_is, line_read, line_spelled}
use Rattle.pcct_table.proofs.Lines.{IsRest, next_line, no_line}

-- the structures of the lines before a place are read
pub record Building (lines : List (List ℕ)) (place : ℕ) (ss : List Subspace) : Type 0 where
  pub count : length ss ≡ place
  pub right : AreFew ss
  pub front : take place lines ≡ structure_lines 0 ss

pub lines_push : (n : ℕ) (ss : List Subspace) (s : Subspace) → structure_lines n (ss ++ s ∷ []) ≡ structure_lines n ss ++ show_line (n + length ss) s ∷ []
lines_push n [] s = let e : n ≡ n + 0 = omega arith in ap (λ (m : ℕ). show_line m s ∷ []) e
lines_push n (t ∷ ss) s =
    let e : suc n + length ss ≡ n + length (t ∷ ss) = omega arith in
    ap (λ (ls : List (List ℕ)). show_line n t ∷ ls) (lines_push (suc n) ss s ∙ ap (λ (m : ℕ). structure_lines (suc n) ss ++ show_line m s ∷ []) e)

spelled_push : (ss : List Subspace) (s : Subspace) → AllByRecursion IsSubspace ss → IsSubspace s → AllByRecursion IsSubspace (ss ++ s ∷ [])
spelled_push [] s h k = (k, tt)
spelled_push (t ∷ ss) s h k = (h.0, spelled_push ss s h.1 k)

record IsRead (place : ℕ) (line : List ℕ) (s : Subspace) : Type 0 where
  spelled : IsSubspace s
  is : line ≡ show_line place s

read_some : (o : Option (List ℕ)) (place : ℕ) (line : List ℕ) (s : Subspace) → read_line place (split_at 32 line) ≡ o → ReadsStructure o (Some s)
    → IsRead place line s
read_some (Some b) place line s e h = record { spelled = line_spelled place line b s e h; is = line_is place line b s e h }
read_some None place line s e h = absurd h

read_none : (o : Option (List ℕ)) (place : ℕ) (line : List ℕ) → place < 2 ^ 64 → read_line place (split_at 32 line) ≡ o → ReadsStructure o None
    → IsRightAt (suc place) line → ⊥
read_none (Some b) place line small e h r = absurd h
read_none None place line small e h r =
    let some = line_read place line r.0 small r.1 r.2 in
    let both : Some (subspace_bytes r.0) ≡ None = sym some ∙ e in
    cc

pub building_start : (lines : List (List ℕ)) (ss : List Subspace) → ss ≡ [] → Building lines 0 ss
building_start lines ss e =
    let B : List Subspace → Type 0 = Building lines 0 in
    subst B (sym e) (record { count = refl; right = record { spelled = tt; few = omega arith }; front = refl })

pub building_more : (lines : List (List ℕ)) (place : ℕ) (ss next : List Subspace) (s : Subspace) → place < length lines
    → ReadsStructure (read_line place (split_at 32 (get_or lines place []))) (Some s) → place ≢ 256 → next ≡ ss ++ s ∷ [] → Building lines place ss
    → Building lines (place + 1) next
building_more lines place ss next s lt h ne e b =
    let line = get_or lines place [] in
    let r = read_some (read_line place (split_at 32 line)) place line s refl h in
    let count : length ss ≡ place = b.count in
    let few : length ss ≤ 256 = b.right.few in
    let len : length (ss ++ s ∷ []) ≡ length ss + 1 = length-append ss (s ∷ []) in
    let B : List Subspace → Type 0 = Building lines (place + 1) in
    subst B (sym e) (record {
      count = omega arith;
      right = record { spelled = spelled_push ss s b.right.spelled r.spelled; few = omega arith };
      front = take_more lines place [] lt ∙ ap (λ (ls : List (List ℕ)). ls ++ line ∷ []) b.front ∙ ap (λ (l : List ℕ). structure_lines 0 ss ++ l ∷ []) (r.is ∙ ap (λ (n : ℕ). show_line n s) (sym count ∙ zero_plus (length ss))) ∙ sym (lines_push 0 ss s);
    })
  where
    zero_plus : (n : ℕ) → n ≡ 0 + n
    zero_plus n = omega arith

-- the lines are those before a place, the one there, and those behind it
cut_at : (lines : List (List ℕ)) (place : ℕ) (ss : List Subspace) → place < length lines → Building lines place ss
    → lines ≡ structure_lines 0 ss ++ get_or lines place [] ∷ drop (place + 1) lines
cut_at lines place ss lt b =
    sym (take-append-drop place lines) ∙ ap (λ (ls : List (List ℕ)). ls ++ drop place lines) b.front ∙ ap (λ (ls : List (List ℕ)). structure_lines 0 ss ++ ls) (drop_more lines place [] lt)

pub building_wrong : (lines : List (List ℕ)) (last : List ℕ) (place line : ℕ) (ss : List Subspace) → place < length lines
    → ReadsStructure (read_line place (split_at 32 (get_or lines place []))) None → line ≡ place + 2 → Building lines place ss
    → StopsBehind lines last line kind.Text
building_wrong lines last place line ss lt h e b =
    let count : length ss ≡ place = b.count in
    let few : length ss ≤ 256 = b.right.few in
    let text = get_or lines place [] in
    let wrong : IsRightAt (suc place) text → ⊥ = read_none (read_line place (split_at 32 text)) place text (omega arith) refl h in
    let W : ℕ → Type 0 = λ n. IsRightAt (suc n) text → ⊥ in
    record {
      before = ss;
      more = text ∷ drop (place + 1) lines;
      cut = cut_at lines place ss lt b;
      right = b.right;
      stops = Wrong text (drop (place + 1) lines) last (subst W (sym count) wrong);
      number = omega arith;
    }

pub building_many : (lines : List (List ℕ)) (last : List ℕ) (place line : ℕ) (ss : List Subspace) (s : Subspace) → place < length lines
    → ReadsStructure (read_line place (split_at 32 (get_or lines place []))) (Some s) → place ≡ 256 → line ≡ place + 2 → Building lines place ss
    → StopsBehind lines last line kind.Many
building_many lines last place line ss s lt h full e b =
    let count : length ss ≡ place = b.count in
    let text = get_or lines place [] in
    let r = read_some (read_line place (split_at 32 text)) place text s refl h in
    let R : ℕ → Type 0 = λ n. IsRightAt (suc n) text in
    record {
      before = ss;
      more = text ∷ drop (place + 1) lines;
      cut = cut_at lines place ss lt b;
      right = b.right;
      stops = OneLineMore text (drop (place + 1) lines) last (omega arith) (subst R (sym count) (s, r.spelled, r.is));
      number = omega arith;
    }

pub all_read : (lines : List (List ℕ)) (place : ℕ) (ss : List Subspace) → length lines ≤ place → Building lines place ss → lines ≡ structure_lines 0 ss
all_read lines place ss le b = sym (take_all place lines le) ∙ b.front

pub structures_len : (n : ℕ) (ss : List Subspace) → length (structure_lines n ss) ≡ length ss
structures_len n [] = refl
structures_len n (s ∷ ss) = ap suc (structures_len (suc n) ss)

pub building_unended : (lines : List (List ℕ)) (last : List ℕ) (place line : ℕ) (ss : List Subspace) → length lines ≤ place → length last ≢ 0
    → line ≡ length lines + 2 → Building lines place ss → StopsBehind lines last line kind.Text
building_unended lines last place line ss le some e b =
    let all : lines ≡ structure_lines 0 ss = all_read lines place ss le b in
    let len : length lines ≡ length ss = ap length all ∙ structures_len 0 ss in
    record {
      before = ss;
      more = [];
      cut = all ∙ sym (append-nil (structure_lines 0 ss));
      right = b.right;
      stops = Unended last (omega arith);
      number = omega arith;
    }

-- ---- a text whose lines are cut one after another

-- structures are read of the lines before the rest
pub record Reading (text : List ℕ) (ss : List Subspace) (rest : List ℕ) : Type 0 where
  pub left : IsRest text (length ss) rest
  pub done : Building (lines_of text) (length ss) ss

pub reading_start : (text : List ℕ) (ss : List Subspace) → ss ≡ [] → Reading text ss text
reading_start text ss e =
    let R : List Subspace → Type 0 = λ us. Reading text us text in
    subst R (sym e) (record { left = refl; done = building_start (lines_of text) [] refl })

pub reading_more : (text rest line behind : List ℕ) (ss next : List Subspace) (s : Subspace) → split_at 10 rest ≡ line ∷ split_at 10 behind
    → ReadsStructure (read_line (length ss) (split_at 32 line)) (Some s) → length ss ≢ 256 → next ≡ ss ++ s ∷ [] → Reading text ss rest
    → Reading text next behind
reading_more text rest line behind ss next s cut h few e r =
    let n = next_line text rest line behind (length ss) r.left cut in
    let P : List ℕ → Type 0 = λ l. ReadsStructure (read_line (length ss) (split_at 32 l)) (Some s) in
    let len : length next ≡ length ss + 1 = ap length e ∙ length-append ss (s ∷ []) in
    let L : ℕ → Type 0 = λ k. IsRest text k behind in
    let D : ℕ → Type 0 = λ k. Building (lines_of text) k next in
    record {
      left = subst L (sym len) n.more;
      done = subst D (sym len) (building_more (lines_of text) (length ss) ss next s n.within (subst P (sym n.is) h) few e r.done);
    }

told : (lines : List (List ℕ)) (last : List ℕ) (e : BuildError) (n : ℕ) (k : BuildKind) → e ≡ error.Fault n k → StopsBehind lines last n k
    → TellsStructures (Err e) lines last
told lines last e n k is h = let P : BuildError → Type 0 = λ d. TellsStructures (Err d) lines last in subst P (sym is) h

pub reading_wrong : (text rest line behind : List ℕ) (ss : List Subspace) (e : BuildError) → split_at 10 rest ≡ line ∷ split_at 10 behind
    → ReadsStructure (read_line (length ss) (split_at 32 line)) None → e ≡ error.Fault (length ss + 2) kind.Text → Reading text ss rest
    → TellsStructures (Err e) (lines_of text) (last_in text)
reading_wrong text rest line behind ss e cut h is r =
    let n = next_line text rest line behind (length ss) r.left cut in
    let P : List ℕ → Type 0 = λ l. ReadsStructure (read_line (length ss) (split_at 32 l)) None in
    told (lines_of text) (last_in text) e (length ss + 2) kind.Text is (building_wrong (lines_of text) (last_in text) (length ss) (length ss + 2) ss n.within (subst P (sym n.is) h) refl r.done)

pub reading_many : (text rest line behind : List ℕ) (ss : List Subspace) (s : Subspace) (e : BuildError)
    → split_at 10 rest ≡ line ∷ split_at 10 behind → ReadsStructure (read_line (length ss) (split_at 32 line)) (Some s) → length ss ≡ 256
    → e ≡ error.Fault (length ss + 2) kind.Many → Reading text ss rest → TellsStructures (Err e) (lines_of text) (last_in text)
reading_many text rest line behind ss s e cut h full is r =
    let n = next_line text rest line behind (length ss) r.left cut in
    let P : List ℕ → Type 0 = λ l. ReadsStructure (read_line (length ss) (split_at 32 l)) (Some s) in
    told (lines_of text) (last_in text) e (length ss + 2) kind.Many is (building_many (lines_of text) (last_in text) (length ss) (length ss + 2) ss s n.within (subst P (sym n.is) h) full refl r.done)

pub reading_unended : (text rest : List ℕ) (ss : List Subspace) (e : BuildError) → split_at 10 rest ≡ rest ∷ [] → length rest ≢ 0
    → e ≡ error.Fault (length ss + 2) kind.Text → Reading text ss rest → TellsStructures (Err e) (lines_of text) (last_in text)
reading_unended text rest ss e uncut some is r =
    let l = no_line text rest (length ss) r.left uncut in
    let all : length (lines_of text) ≡ length ss = l.all in
    let P : List ℕ → Type 0 = λ bs. length bs ≢ 0 in
    told (lines_of text) (last_in text) e (length ss + 2) kind.Text is (building_unended (lines_of text) (last_in text) (length ss) (length ss + 2) ss (omega arith) (subst P (sym l.is) some) (omega arith) r.done)

pub reading_end : (text rest : List ℕ) (ss : List Subspace) → split_at 10 rest ≡ rest ∷ [] → length rest ≡ 0 → Reading text ss rest
    → TellsStructures (Ok ss) (lines_of text) (last_in text)
reading_end text rest ss uncut none r =
    let l = no_line text rest (length ss) r.left uncut in
    let all : length (lines_of text) ≡ length ss = l.all in
    (all_read (lines_of text) (length ss) ss (omega arith) r.done, r.done.right, l.is ∙ empty rest none)
  where
    empty : (bs : List ℕ) → length bs ≡ 0 → bs ≡ []
    empty [] h = refl
    empty (b ∷ bs) h = absurd (omega arith)
