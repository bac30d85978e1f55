-- What is reported of a text.
use Rattle.std.proofs.Common.{◌≡◌, ◌⊎◌, inl, inr, ℕ, zero, suc, ◌+◌, ◌^◌, ◌<◌, ◌≤◌, eqb, true, List, [], ◌∷◌, ◌++◌, length, refl, sym, ap, ◌∙◌, subst, arith}
use Rattle.std.specs.Prelude.{Some, None, Result, Ok, Err, IfOk}
use Rattle.std.specs.List.{AllByRecursion, flat_map}
use Rattle.std.proofs.lemmas.Grind.{flat_map-append}
use Rattle.std.proofs.lemmas.List.{append-nil, append_assoc}
use Rattle.std.proofs.lemmas.List.Splits.{slice_split_at, slice_split_none}
use Rattle.pcc_bytes.specs.Fields.{front_of, last_in, last_of, line_text, lines_of, split_at}
use Rattle.pcc_text.proofs.Laws.{All-from_lacks, EachLacks, lacks}
use Rattle.pcc_text.proofs.Lines.{begins, each_front, front_lacks, front_push, last_push, parts_are, split_more, split_some, text_is}
use Rattle.pcct_table.specs.declared.build.BuildError.{BuildError}
use Rattle.pcct_table.specs.declared.build.BuildError.TheVariants as error
use Rattle.pcct_table.specs.declared.build.BuildKind.{BuildKind}
use Rattle.pcct_table.specs.declared.build.BuildKind.TheVariants as kind
use Rattle.pcct_table.specs.declared.subspace.Subspace.{Subspace}
use Rattle.pcct_table.specs.declared.table.Table.{Table}
use Rattle.pcc_bytes.specs.Bytes.{number_at}
use Rattle.pcct_table.specs.Values.{bytes_at, values_in}
use Rattle.pcct_table.specs.Subspaces.{IsSubspace}
use Rattle.pcct_table.specs.ShowText.{HasText, header_line, show_line, show_text, shown_fields, shown_values, structure_lines, table_lines}
use Rattle.pcct_table.specs.ShowFaults.{AreRightFrom, IfFault, IsReadAs, IsRefusedAt, IsRightAt, NoEnd, NoLine, OneMore, TextWrong, WrongLine, most_lines}
use Rattle.pcct_table.specs.ShowReading.{Nothing, OneLineMore, Stops, StopsAt, StopsBehind, TellsStructures, TellsTable, TellsText, Unended, Wrong, read_header, shown_bytes}
use Rattle.pcct_table.proofs.ShowHeader.{header_fit, header_is, header_known, header_len, header_one, header_read, same_header}
use Rattle.pcct_table.proofs.ShowLine.{line_one, same_structure}
use Rattle.pcct_table.proofs.Building.{structures_len}

-- ---- right lines

right_one : (n : ℕ) (line : List ℕ) → n ≤ 2 ^ 32 → IsRightAt n line → lacks 10 line ≡ true
right_one zero line small r = let P : List ℕ → Type 0 = λ l. lacks 10 l ≡ true in subst P (sym r.2) (header_one r.0 r.1)
right_one (suc place) line small r = let P : List ℕ → Type 0 = λ l. lacks 10 l ≡ true in subst P (sym r.2) (line_one place r.0 (omega arith) r.1)

right_lack : (n : ℕ) (lines : List (List ℕ)) → n + length lines ≤ 2 ^ 32 → AreRightFrom n lines → EachLacks 10 lines
right_lack n [] small h = tt
right_lack n (line ∷ lines) small h = (right_one n line (omega arith) h.0, right_lack (suc n) lines (omega arith) h.1)

structures_right : (place : ℕ) (ss : List Subspace) → AllByRecursion IsSubspace ss → AreRightFrom (suc place) (structure_lines place ss)
structures_right place [] h = tt
structures_right place (s ∷ ss) h = ((s, h.0, refl), structures_right (suc place) ss h.1)

table_right : (t : Table) → HasText t → AreRightFrom 0 (table_lines t)
table_right t h = ((t, h, refl), structures_right 0 t.subspaces h.spelled)

table_few : (t : Table) → HasText t → length (table_lines t) ≤ most_lines
table_few t h = let few : length t.subspaces ≤ 256 = h.few in let e = structures_len 0 t.subspaces in omega arith

-- ---- one table

same_structures : (place : ℕ) (ss us : List Subspace) → place + length ss ≤ 2 ^ 32 → AllByRecursion IsSubspace ss → AllByRecursion IsSubspace us
    → structure_lines place ss ≡ structure_lines place us → ss ≡ us
same_structures place [] [] small h k e = refl
same_structures place [] (u ∷ us) small h k e = cc
same_structures place (s ∷ ss) [] small h k e = cc
same_structures place (s ∷ ss) (u ∷ us) small h k e =
    let first : show_line place s ≡ show_line place u = cc in
    let rest : structure_lines (suc place) ss ≡ structure_lines (suc place) us = cc in
    let one : s ≡ u = same_structure place s u (omega arith) h.0 k.0 first in
    let others : ss ≡ us = same_structures (suc place) ss us (omega arith) h.1 k.1 rest in
    cc

abbrev made : ℕ → List ℕ → List ℕ → ℕ → List ℕ → ℕ → ℕ → List ℕ → List Subspace → Table
made r a b c d e f g ss = record { revision = r; oem_id = a; oem_table = b; oem_revision = c; creator = d; creator_revision = e; flags = f; reserved = g; subspaces = ss }

one_table : (t u : Table) → shown_values t ≡ shown_values u → t.subspaces ≡ u.subspaces → t ≡ u
one_table t u h k =
    let all : made t.revision t.oem_id t.oem_table t.oem_revision t.creator t.creator_revision t.flags t.reserved t.subspaces ≡ made u.revision u.oem_id u.oem_table u.oem_revision u.creator u.creator_revision u.flags u.reserved u.subspaces = cc in
    all

same_table : (t u : Table) → HasText t → HasText u → table_lines t ≡ table_lines u → t ≡ u
same_table t u h k e =
    let first : header_line t ≡ header_line u = cc in
    let rest : structure_lines 0 t.subspaces ≡ structure_lines 0 u.subspaces = cc in
    let few : length t.subspaces ≤ 256 = h.few in
    one_table t u (same_header t u h k first) (same_structures 0 t.subspaces u.subspaces (omega arith) h.spelled k.spelled rest)

-- ---- what the lines behind a header's tell of all lines

-- there is no line
pub no_lines : (text : List ℕ) → split_at 10 text ≡ text ∷ [] → TellsText (Err (error.Fault 1 kind.Text)) text
no_lines text e = record { before = []; more = []; cut = ap front_of e; right = tt; few = omega arith; stops = Nothing (last_in text) refl; number = refl }

-- the parts of a text with a line
behind_line : (text line rest : List ℕ) (r : Result Table BuildError) → split_at 10 text ≡ line ∷ split_at 10 rest
    → TellsTable r (line ∷ lines_of rest) (last_in rest) → TellsText r text
behind_line text line rest r e h =
    let b = begins text line rest e in
    let P : List (List ℕ) → Type 0 = λ ls. TellsTable r ls (last_in text) in
    let Q : List ℕ → Type 0 = λ bs. TellsTable r (line ∷ lines_of rest) bs in
    subst P (sym b.lines) (subst Q (sym b.last) h)

-- the first line is no header's
pub no_header : (text line rest : List ℕ) → split_at 10 text ≡ line ∷ split_at 10 rest → read_header (split_at 32 line) ≡ None
    → TellsText (Err (error.Fault 1 kind.Text)) text
no_header text line rest cut e = behind_line text line rest (Err (error.Fault 1 kind.Text)) cut (record {
  before = [];
  more = line ∷ lines_of rest;
  cut = refl;
  right = tt;
  few = omega arith;
  stops = Wrong line (lines_of rest) (last_in rest) (λ r. let some = header_read line r.0 r.1 r.2 in let both : Some (shown_bytes r.0) ≡ None = sym some ∙ e in cc);
  number = refl;
})

-- a header's line with a table of no structures
pub header_right : (line b : List ℕ) (t : Table) → read_header (split_at 32 line) ≡ Some b → values_in b shown_fields ≡ shown_values t
    → AllByRecursion IsSubspace t.subspaces → length t.subspaces ≤ 256 → HasText t
header_right line b t e values spelled few = record {
  bytes = b;
  fit = header_fit line b e;
  least = let n : length b ≡ 48 = header_len line b e in omega arith;
  values = values;
  known = header_known line b t e values;
  spelled = spelled;
  few = few;
}

-- the table without structures that a header's bytes say
abbrev pub header_at : List ℕ → Table
header_at b = record {
  revision = number_at 1 8 b;
  oem_id = bytes_at 6 10 b;
  oem_table = bytes_at 8 16 b;
  oem_revision = number_at 4 24 b;
  creator = bytes_at 4 28 b;
  creator_revision = number_at 4 32 b;
  flags = number_at 4 36 b;
  reserved = bytes_at 8 40 b;
  subspaces = [];
}

right_header : (line b : List ℕ) → read_header (split_at 32 line) ≡ Some b → IsRightAt 0 line
right_header line b e = (header_at b, header_right line b (header_at b) e refl tt (omega arith), header_is line b (header_at b) e refl)

pub behind_header : (line b : List ℕ) (lines : List (List ℕ)) (last : List ℕ) (n : ℕ) (k : BuildKind) → read_header (split_at 32 line) ≡ Some b
    → StopsBehind lines last n k → StopsAt (line ∷ lines) last n k
behind_header line b lines last n k e s =
    let front = structure_lines 0 s.before in
    let len : length front ≡ length s.before = structures_len 0 s.before in
    let few : length s.before ≤ 256 = s.right.few in
    let number : n ≡ suc (suc (length s.before)) = s.number in
    let S : ℕ → Type 0 = λ m. Stops (suc m) s.more last k in
    record {
      before = line ∷ front;
      more = s.more;
      cut = ap (λ (ls : List (List ℕ)). line ∷ ls) s.cut;
      right = (right_header line b e, structures_right 0 s.before s.right.spelled);
      few = omega arith;
      stops = subst S (sym len) s.stops;
      number = omega arith;
    }

pub table_err : (text line rest b : List ℕ) (e : BuildError) → split_at 10 text ≡ line ∷ split_at 10 rest → read_header (split_at 32 line) ≡ Some b
    → TellsStructures (Err e) (lines_of rest) (last_in rest) → TellsText (Err e) text
table_err text line rest b error.NoMemory cut is h = tt
table_err text line rest b (error.Fault n k) cut is h =
    behind_line text line rest (Err (error.Fault n k)) cut (behind_header line b (lines_of rest) (last_in rest) n k is h)

pub table_ok : (text line rest b : List ℕ) (ss : List Subspace) (t : Table) → split_at 10 text ≡ line ∷ split_at 10 rest
    → read_header (split_at 32 line) ≡ Some b → TellsStructures (Ok ss) (lines_of rest) (last_in rest) → values_in b shown_fields ≡ shown_values t
    → t.subspaces ≡ ss → TellsText (Ok t) text
table_ok text line rest b ss t cut e h values same =
    let P : List Subspace → Type 0 = λ us. AllByRecursion IsSubspace us in
    let Q : List Subspace → Type 0 = λ us. length us ≤ 256 in
    let first : line ≡ header_line t = header_is line b t e values in
    let others : lines_of rest ≡ structure_lines 0 t.subspaces = h.0 ∙ ap (structure_lines 0) (sym same) in
    behind_line text line rest (Ok t) cut
    (header_right line b t e values (subst P (sym same) h.1.spelled) (subst Q (sym same) h.1.few), ap (λ (l : List ℕ). l ∷ lines_of rest) first ∙ ap (λ (ls : List (List ℕ)). header_line t ∷ ls) others, h.2)

-- ---- where reading stops

-- behind so many right lines reading can't go on
abbrev Blocked : ℕ → List (List ℕ) → Type 0
Blocked n more = (line : List ℕ) → (rest : List (List ℕ)) → more ≡ line ∷ rest → IsRightAt n line → n < most_lines → ⊥

nothing_left : (n : ℕ) → Blocked n []
nothing_left n line rest e r lt = cc

stops_blocked : (n : ℕ) (more : List (List ℕ)) (last : List ℕ) (k : BuildKind) → Stops n more last k → Blocked n more
stops_blocked n more last k (Wrong line rest end never) = λ l ls e r lt.
    let same : line ≡ l = cc in
    let R : List ℕ → Type 0 = IsRightAt n in
    never (subst R (sym same) r)
stops_blocked n more last k (OneLineMore line rest end full right) = λ l ls e r lt. absurd (omega arith)
stops_blocked n more last k (Unended end some) = nothing_left n
stops_blocked n more last k (Nothing end none) = nothing_left n

same_front : (n : ℕ) (a b more after : List (List ℕ)) → AreRightFrom n a → AreRightFrom n b → n + length a ≤ most_lines → n + length b ≤ most_lines
    → Blocked (n + length a) more → Blocked (n + length b) after → a ++ more ≡ b ++ after → (a ≡ b) × (more ≡ after)
same_front n [] [] more after ra rb la lb h k e = (refl, e)
same_front n [] (y ∷ ys) more after ra rb la lb h k e =
    let here : n ≡ n + 0 = omega arith in
    let R : ℕ → Type 0 = λ m. IsRightAt m y in
    absurd (h y (ys ++ after) e (subst R here rb.0) (omega arith))
same_front n (x ∷ xs) [] more after ra rb la lb h k e =
    let here : n ≡ n + 0 = omega arith in
    let R : ℕ → Type 0 = λ m. IsRightAt m x in
    absurd (k x (xs ++ more) (sym e) (subst R here ra.0) (omega arith))
same_front n (x ∷ xs) (y ∷ ys) more after ra rb la lb h k e =
    let first : x ≡ y = cc in
    let rest : xs ++ more ≡ ys ++ after = cc in
    let na : n + length (x ∷ xs) ≡ suc n + length xs = omega arith in
    let nb : n + length (y ∷ ys) ≡ suc n + length ys = omega arith in
    let A : ℕ → Type 0 = λ m. Blocked m more in
    let B : ℕ → Type 0 = λ m. Blocked m after in
    let more_same = same_front (suc n) xs ys more after ra.1 rb.1 (omega arith) (omega arith) (subst A na h) (subst B nb k) rest in
    (ap (λ (l : List ℕ). l ∷ xs) first ∙ ap (λ (ls : List (List ℕ)). y ∷ ls) more_same.0, more_same.1)

-- what is left tells the kind
abbrev KindIs : ℕ → List (List ℕ) → BuildKind → Type 0
KindIs n [] k = k ≡ kind.Text
KindIs n (line ∷ rest) k = ((k ≡ kind.Text) × (IsRightAt n line → ⊥)) ⊎ ((k ≡ kind.Many) × IsRightAt n line)

kind_is : (n : ℕ) (more : List (List ℕ)) (last : List ℕ) (k : BuildKind) → Stops n more last k → KindIs n more k
kind_is n more last k (Wrong line rest end never) = inl (refl, never)
kind_is n more last k (OneLineMore line rest end full right) = inr (refl, right)
kind_is n more last k (Unended end some) = refl
kind_is n more last k (Nothing end none) = refl

same_kind : (n : ℕ) (more : List (List ℕ)) (k j : BuildKind) → KindIs n more k → KindIs n more j → k ≡ j
same_kind n [] k j h g = h ∙ sym g
same_kind n (line ∷ rest) k j (inl h) (inl g) = h.0 ∙ sym g.0
same_kind n (line ∷ rest) k j (inl h) (inr g) = absurd (h.1 g.1)
same_kind n (line ∷ rest) k j (inr h) (inl g) = absurd (g.1 h.1)
same_kind n (line ∷ rest) k j (inr h) (inr g) = h.0 ∙ sym g.0

-- reading stops at one place
one_stop : (lines : List (List ℕ)) (last : List ℕ) (n m : ℕ) (k j : BuildKind) → StopsAt lines last n k → StopsAt lines last m j → (n ≡ m) × (k ≡ j)
one_stop lines last n m k j a b =
    let same = same_front 0 a.before b.before a.more b.more a.right b.right (few a.before a.few) (few b.before b.few) (blocked a.before a.more k a.stops) (blocked b.before b.more j b.stops) (sym a.cut ∙ b.cut) in
    let len : length a.before ≡ length b.before = ap length same.0 in
    let K : ℕ → Type 0 = λ i. KindIs i b.more k in
    let L : List (List ℕ) → Type 0 = λ ls. KindIs (length a.before) ls k in
    let is_a : KindIs (length a.before) a.more k = kind_is (length a.before) a.more last k a.stops in
    (a.number ∙ ap suc len ∙ sym b.number, same_kind (length b.before) b.more k j (subst K len (subst L same.1 is_a)) (kind_is (length b.before) b.more last j b.stops))
  where
    few : (ls : List (List ℕ)) → length ls ≤ most_lines → 0 + length ls ≤ most_lines
    few ls h = omega arith

    blocked : (before more : List (List ℕ)) (d : BuildKind) → Stops (length before) more last d → Blocked (0 + length before) more
    blocked before more d s =
        let here : length before ≡ 0 + length before = omega arith in
        let B : ℕ → Type 0 = λ i. Blocked i more in
        subst B here (stops_blocked (length before) more last d s)

ended : (n : ℕ) (more : List (List ℕ)) (last : List ℕ) (k : BuildKind) → Stops n more last k → more ≡ [] → last ≡ [] → 1 ≤ n → ⊥
ended n more last k (Wrong line rest end never) = λ e f lt. cc
ended n more last k (OneLineMore line rest end full right) = λ e f lt. cc
ended n more last k (Unended end some) = λ e f lt. let z : length end ≡ 0 = ap length f in absurd (omega arith)
ended n more last k (Nothing end none) = λ e f lt. absurd (omega arith)

-- it doesn't stop in the lines of a table
no_stop : (t : Table) (lines : List (List ℕ)) (last : List ℕ) (n : ℕ) (k : BuildKind) → HasText t → lines ≡ table_lines t → last ≡ []
    → StopsAt lines last n k → ⊥
no_stop t lines last n k h e f s =
    let here : length s.before ≡ 0 + length s.before = omega arith in
    let B : ℕ → Type 0 = λ i. Blocked i s.more in
    let few : length s.before ≤ most_lines = s.few in
    let most : length (table_lines t) ≤ most_lines = table_few t h in
    let same = same_front 0 (table_lines t) s.before [] s.more (table_right t h) s.right (omega arith) (omega arith) (nothing_left (0 + length (table_lines t))) (subst B here (stops_blocked (length s.before) s.more last k s.stops)) (append-nil (table_lines t) ∙ sym e ∙ s.cut) in
    let len : length (table_lines t) ≡ length s.before = ap length same.0 in
    ended (length s.before) s.more last k s.stops (sym same.1) f (omega arith)

-- ---- the text

cut_text : (before : List (List ℕ)) (line : List ℕ) (rest : List (List ℕ)) (last : List ℕ)
    → flat_map line_text (before ++ line ∷ rest) ++ last ≡ flat_map line_text before ++ (line ++ 10 ∷ (flat_map line_text rest ++ last))
cut_text before line rest last = ap (λ (v : List ℕ). v ++ last) (flat_map-append line_text before (line ∷ rest)) ∙ simp append_assoc

one_line : (before : List (List ℕ)) (line : List ℕ) (rest : List (List ℕ)) (last : List ℕ) → EachLacks 10 ((before ++ line ∷ rest) ++ last ∷ [])
    → lacks 10 line ≡ true
one_line before line rest last h = each_front 10 before line (rest ++ last ∷ []) (subst (EachLacks 10) (append_assoc before (line ∷ rest) (last ∷ [])) h)

empty_text : (before : List (List ℕ)) (last text : List ℕ) → length before ≡ 0 → lacks 10 last ≡ true → text ≡ flat_map line_text before ++ last
    → TextWrong text (suc (length before)) kind.Text
empty_text [] [] text z one is = NoLine is
empty_text [] (b ∷ bs) text z one is = NoEnd [] (b ∷ bs) tt (omega arith) one (omega arith) is
empty_text (x ∷ xs) last text z one is = absurd (omega arith)

stop_text : (before more : List (List ℕ)) (last text : List ℕ) (k : BuildKind) → AreRightFrom 0 before → length before ≤ most_lines
    → EachLacks 10 ((before ++ more) ++ last ∷ []) → text ≡ flat_map line_text (before ++ more) ++ last → Stops (length before) more last k
    → TextWrong text (suc (length before)) k
stop_text before more last text k right few h is (Wrong line rest end never) =
    WrongLine before line (flat_map line_text rest ++ end) right few (one_line before line rest end h) never (is ∙ cut_text before line rest end)
stop_text before more last text k right few h is (OneLineMore line rest end full r) =
    OneMore before line (flat_map line_text rest ++ end) right full r (is ∙ cut_text before line rest end)
stop_text before more last text k right few h is (Unended end some) =
    let none : before ++ [] ≡ before = append-nil before in
    NoEnd before end right few (each_front 10 (before ++ []) end [] h) some (is ∙ ap (λ (ls : List (List ℕ)). flat_map line_text ls ++ end) none)
stop_text before more last text k right few h is (Nothing end z) =
    let none : before ++ [] ≡ before = append-nil before in
    empty_text before end text z (each_front 10 (before ++ []) end [] h) (is ∙ ap (λ (ls : List (List ℕ)). flat_map line_text ls ++ end) none)

stops_text : (text : List ℕ) (n : ℕ) (k : BuildKind) → StopsAt (lines_of text) (last_in text) n k → TextWrong text n k
stops_text text n k s =
    let last = last_in text in
    let L : List (List ℕ) → Type 0 = λ ls. EachLacks 10 (ls ++ last ∷ []) in
    let T : ℕ → Type 0 = λ m. TextWrong text m k in
    subst T (sym s.number) (stop_text s.before s.more last text k s.right s.few (subst L s.cut (front_lacks text)) (text_is text ∙ ap (λ (ls : List (List ℕ)). flat_map line_text ls ++ last) s.cut) s.stops)

-- the parts of a text that begins with these lines
pub record IsCut (text : List ℕ) (front : List (List ℕ)) (last : List ℕ) : Type 0 where
  pub front_is : lines_of text ≡ front
  pub last_is : last_in text ≡ last

cut_parts : (text : List ℕ) (front : List (List ℕ)) (last : List ℕ) → split_at 10 text ≡ front ++ last ∷ [] → IsCut text front last
cut_parts text front last e = record { front_is = ap front_of e ∙ front_push front last; last_is = ap last_of e ∙ last_push front last }

cut_line : (before : List (List ℕ)) (line rest text : List ℕ) → length before ≤ most_lines → AreRightFrom 0 before → lacks 10 line ≡ true
    → text ≡ flat_map line_text before ++ (line ++ 10 ∷ rest) → IsCut text (before ++ line ∷ lines_of rest) (last_in rest)
cut_line before line rest text few right one e =
    let ps = split_at 10 rest in
    let tail : split_at 10 (line ++ 10 ∷ rest) ≡ line ∷ ps = slice_split_at (λ b. eqb b 10) line 10 rest (All-from_lacks 10 line one) refl in
    cut_parts text (before ++ line ∷ front_of ps) (last_of ps) (ap (split_at 10) e ∙ split_more before (line ++ 10 ∷ rest) (right_lack 0 before (omega arith) right) ∙ ap (λ (v : List (List ℕ)). before ++ v) (tail ∙ ap (λ (v : List (List ℕ)). line ∷ v) (parts_are ps (split_some 10 rest))) ∙ sym (append_assoc before (line ∷ front_of ps) (last_of ps ∷ [])))

pub text_stops : (text : List ℕ) (n : ℕ) (k : BuildKind) → TextWrong text n k → StopsAt (lines_of text) (last_in text) n k
text_stops text n k (WrongLine before line rest right few one never e) =
    let c = cut_line before line rest text few right one e in
    record { before = before; more = line ∷ lines_of rest; cut = c.front_is; right = right; few = few; stops = Wrong line (lines_of rest) (last_in text) never; number = refl }
text_stops text n k (OneMore before line rest right full r e) =
    let few : length before ≤ most_lines = omega arith in
    let c = cut_line before line rest text few right (right_one (length before) line (omega arith) r) e in
    record { before = before; more = line ∷ lines_of rest; cut = c.front_is; right = right; few = few; stops = OneLineMore line (lines_of rest) (last_in text) full r; number = refl }
text_stops text n k (NoEnd before bytes right few one some e) =
    let none : split_at 10 bytes ≡ bytes ∷ [] = slice_split_none (λ b. eqb b 10) bytes (All-from_lacks 10 bytes one) in
    let c = cut_parts text before bytes (ap (split_at 10) e ∙ split_more before bytes (right_lack 0 before (omega arith) right) ∙ ap (λ (v : List (List ℕ)). before ++ v) none) in
    let L : List ℕ → Type 0 = λ bs. 1 ≤ length bs in
    record { before = before; more = []; cut = c.front_is ∙ sym (append-nil before); right = right; few = few; stops = Unended (last_in text) (subst L (sym c.last_is) some); number = refl }
text_stops text n k (NoLine e) =
    record { before = []; more = []; cut = ap (λ (v : List ℕ). front_of (split_at 10 v)) e; right = tt; few = omega arith; stops = Nothing (last_in text) refl; number = refl }

-- ---- what is told

pub is_found : (text : List ℕ) (r : Result Table BuildError) → TellsText r text → IfOk r (λ t. HasText t × (text ≡ show_text t))
unfolding show_text
is_found text (Ok t) h =
    let front = lines_of text in
    (h.0, text_is text ∙ ap (λ (v : List ℕ). flat_map line_text front ++ v) h.2 ∙ append-nil (flat_map line_text front) ∙ ap (flat_map line_text) h.1)
is_found text (Err e) h = tt

pub table_cut : (t : Table) (text : List ℕ) → HasText t → text ≡ show_text t → IsCut text (table_lines t) []
unfolding show_text
table_cut t text h e =
    let most : length (table_lines t) ≤ most_lines = table_few t h in
    cut_parts text (table_lines t) [] (ap (split_at 10) (e ∙ sym (append-nil (flat_map line_text (table_lines t)))) ∙ split_more (table_lines t) [] (right_lack 0 (table_lines t) (omega arith) (table_right t h)))

pub is_only : (text : List ℕ) (r : Result Table BuildError) (t : Table) → TellsText r text → HasText t → text ≡ show_text t → IsReadAs t r
is_only text (Ok u) t h k e =
    let c = table_cut t text k e in
    same_table u t h.0 k (sym h.1 ∙ c.front_is)
is_only text (Err error.NoMemory) t h k e = refl
is_only text (Err (error.Fault n d)) t h k e =
    let c = table_cut t text k e in
    absurd (no_stop t (lines_of text) (last_in text) n d k c.front_is c.last_is h)

pub is_wrong : (text : List ℕ) (r : Result Table BuildError) → TellsText r text → IfFault r (λ line kind. TextWrong text line kind)
is_wrong text (Ok t) h = tt
is_wrong text (Err error.NoMemory) h = tt
is_wrong text (Err (error.Fault n k)) h = stops_text text n k h

pub is_first : (text : List ℕ) (r : Result Table BuildError) (line : ℕ) (kind : BuildKind) → TellsText r text → TextWrong text line kind
    → IsRefusedAt line kind r
is_first text (Ok t) n k h w = no_stop t (lines_of text) (last_in text) n k h.0 h.1 h.2 (text_stops text n k w)
is_first text (Err error.NoMemory) n k h w = tt
is_first text (Err (error.Fault m j)) n k h w = one_stop (lines_of text) (last_in text) m n j k h (text_stops text n k w)
