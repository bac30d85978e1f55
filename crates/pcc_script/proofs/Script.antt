-- A text is read to the lines of which it is the text, or to its first fault.
use Rattle.std.proofs.Common.{◌≡◌, ℕ, suc, ◌≤◌, eqb, leb, Bool, true, false, cond, List, [], ◌∷◌, ◌++◌, length, map, refl, sym, ap, ◌∙◌, subst, arith}
use Rattle.std.specs.Prelude.{Option, Some, None}
use Rattle.std.specs.List.{flat_map}
use Rattle.std.proofs.lemmas.Bool.Decides.{nat_tests}
use Rattle.std.proofs.lemmas.Bool.{and_parts, leb-true}
use Rattle.std.proofs.lemmas.List.{append_assoc, append-nil}
use Rattle.std.proofs.lemmas.List.Splits.{slice_split_none, slice_split_at}
use Rattle.std.proofs.lemmas.Grind.{flat_map-append}
use Rattle.pcc_bytes.specs.Fields.{front_of, last_in, last_of, line_text, lines_of, split_at}
use Rattle.pcc_text.proofs.Laws.{lacks, EachLacks, All-from_lacks}
use Rattle.pcc_script.specs.declared.fault.ScriptKind.{ScriptKind}
use Rattle.pcc_script.specs.declared.fault.ScriptKind.TheVariants as kind
use Rattle.pcc_script.specs.Text.{Statement, line_of, count_at, InOrder, IsWhole, statements_text}
use Rattle.pcc_script.specs.Faults.{TextWrong, AtLine, NoEnd, NotWhole}
use Rattle.pcc_script.specs.Reading.{Lines, with_front, read_lines, start, is_whole, end_fault, ended_by, ended, read_text}
use Rattle.pcc_script.proofs.Sequence.{sees_start, statement_one, EndsSo, lines_read, lines_again, lines_fail}
use Rattle.pcc_script.proofs.Going.{Met}
use Rattle.pcc_text.proofs.Lines.{each_front, front_lacks, front_push, last_push, parts_are, split_more, split_some, text_is}

-- ---- what is read

whole_from : (rs : List Statement) → is_whole rs ≡ true → IsWhole rs
whole_from rs h =
    let p = and_parts (leb 1 (count_at 0 rs)) _ h in
    let q = and_parts (leb 1 (count_at 1 rs)) (leb 1 (count_at 2 rs)) p.1 in
    (leb-true 1 (count_at 0 rs) p.0, leb-true 1 (count_at 1 rs) q.0, leb-true 1 (count_at 2 rs) q.1)

one_leb : (n : ℕ) → 1 ≤ n → leb 1 n ≡ true
one_leb n h = grind (arith, nat_tests)

pub whole_is : (rs : List Statement) → IsWhole rs → is_whole rs ≡ true
whole_is rs h = rw (one_leb (count_at 0 rs) h.0, one_leb (count_at 1 rs) h.1, one_leb (count_at 2 rs) h.2) refl

-- the lines are right and whole, and the text is theirs
pub record Found (text : List ℕ) (rs : List Statement) : Type 0 where
  pub order : InOrder [] rs
  pub whole : IsWhole rs
  pub is : text ≡ statements_text rs

-- the fault and the lines before it
abbrev Ended : List ℕ → Option ScriptKind → List Statement → Type 0
Ended text None rs = Found text rs
Ended text (Some k) rs = TextWrong text (suc (length rs)) k

missing_case : (t : Bool) (text : List ℕ) (rs : List Statement) → is_whole rs ≡ t → InOrder [] rs → text ≡ statements_text rs
    → Ended text (cond t None (Some kind.Missing)) rs
missing_case true text rs e h is = record { order = h; whole = whole_from rs e; is = is }
missing_case false text rs e h is = NotWhole rs h (λ w. let t : is_whole rs ≡ true = whole_is rs w in cc) is

end_case : (text : List ℕ) (rs : List Statement) (last : List ℕ) → InOrder [] rs → lacks 10 last ≡ true → text ≡ statements_text rs ++ last
    → Ended text (end_fault rs last) rs
end_case text rs [] h l is = missing_case (is_whole rs) text rs refl h (is ∙ append-nil (statements_text rs))
end_case text rs (b ∷ bs) h l is = NoEnd rs (b ∷ bs) h l (omega arith) is

fault_case : (o : Option ScriptKind) (text : List ℕ) (rs : List Statement) (lines : List (List ℕ)) (last : List ℕ) → InOrder [] rs
    → EndsSo o [] rs lines → EachLacks 10 (lines ++ last ∷ []) → text ≡ flat_map line_text lines ++ last → let e = ended_by o rs last in Ended text e.fault e.right
unfolding statements_text
fault_case None text rs lines last h s l is =
    end_case text rs last h (each_front 10 lines last [] l) (is ∙ ap (λ (ls : List (List ℕ)). flat_map line_text ls ++ last) s)
fault_case (Some k) text rs lines last h s l is =
    let bytes = s.0 in
    let rest : List ℕ = flat_map line_text s.1 ++ last in
    let all : lines ≡ map line_of rs ++ bytes ∷ s.1 = s.2 in
    let E : List (List ℕ) → Type 0 = λ ls. EachLacks 10 (ls ++ last ∷ []) in
    let one : lacks 10 bytes ≡ true = each_front 10 (map line_of rs) bytes (s.1 ++ last ∷ []) (subst (EachLacks 10) (append_assoc (map line_of rs) (bytes ∷ s.1) (last ∷ [])) (subst E all l)) in
    let cut : flat_map line_text (map line_of rs ++ bytes ∷ s.1) ++ last ≡ flat_map line_text (map line_of rs) ++ (bytes ++ 10 ∷ rest) =
    ap (λ (v : List ℕ). v ++ last) (flat_map-append line_text (map line_of rs) (bytes ∷ s.1)) ∙ simp append_assoc in
    AtLine rs bytes rest k h one (is ∙ ap (λ (ls : List (List ℕ)). flat_map line_text ls ++ last) all ∙ cut) s.3

read_ended : (text : List ℕ) → let e = read_text text in Ended text e.fault e.right
unfolding read_text
read_ended text =
    let ls = read_lines start (lines_of text) in
    let r = lines_read (lines_of text) start [] sees_start in
    fault_case ls.fault text ls.right (lines_of text) (last_in text) r.order r.ends (front_lacks text) (text_is text)

pub reads_found : (text : List ℕ) (rs : List Statement) → read_text text ≡ record { right = rs; fault = None } → Found text rs
reads_found text rs e = let P : Lines → Type 0 = λ ls. Ended text ls.fault ls.right in subst P e (read_ended text)

pub reads_wrong : (text : List ℕ) (k : ScriptKind) (n : ℕ) → (read_text text).fault ≡ Some k → suc (length (read_text text).right) ≡ n → TextWrong text n k
reads_wrong text k n e l =
    let P : Option ScriptKind → Type 0 = λ o. Ended text o (read_text text).right in
    let Q : ℕ → Type 0 = λ m. TextWrong text m k in
    subst Q l (subst P e (read_ended text))

-- ---- what is right is read, and what is wrong is the fault

statements_lack : (before rs : List Statement) → InOrder before rs → EachLacks 10 (map line_of rs)
statements_lack before [] h = tt
statements_lack before (r ∷ rs) h = (statement_one before r h.0, statements_lack (before ++ r ∷ []) rs h.1)

-- what is read, where the text is cut so
read_cut : (text : List ℕ) (lines : List (List ℕ)) (last : List ℕ) → split_at 10 text ≡ lines ++ last ∷ []
    → read_text text ≡ ended (read_lines start lines) last
unfolding read_text
read_cut text lines last e = rw (e, front_push lines last, last_push lines last) refl

abbrev right_lines : List Statement → Lines
right_lines rs = record { right = rs; fault = None }

read_right : (rs : List Statement) → InOrder [] rs → read_lines start (map line_of rs) ≡ record { right = rs; fault = None }
read_right rs h =
    let a = lines_again rs start [] [] sees_start h in
    ap (read_lines start) (sym (append-nil (map line_of rs))) ∙ a.is ∙ ap right_lines (append-nil rs)

pub reads_again : (text : List ℕ) (rs : List Statement) → InOrder [] rs → IsWhole rs → text ≡ statements_text rs
    → read_text text ≡ record { right = rs; fault = None }
unfolding statements_text
reads_again text rs h w e =
    let cut : split_at 10 text ≡ map line_of rs ++ [] ∷ [] = ap (split_at 10) (e ∙ sym (append-nil (flat_map line_text (map line_of rs)))) ∙ split_more (map line_of rs) [] (statements_lack [] rs h) in
    let whole : is_whole rs ≡ true = whole_is rs w in
    read_cut text (map line_of rs) [] cut ∙ ap (λ (ls : Lines). ended ls []) (read_right rs h) ∙ rw whole refl

no_whole : (rs : List Statement) (t : Bool) → (IsWhole rs → ⊥) → is_whole rs ≡ t → t ≡ false
no_whole rs true never e = absurd (never (whole_from rs e))
no_whole rs false never e = refl

end_newline : (rs : List Statement) (bytes : List ℕ) → 1 ≤ length bytes → end_fault rs bytes ≡ Some kind.Newline
end_newline rs [] h = absurd (omega arith)
end_newline rs (b ∷ bs) h = refl

pub reads_fails : (text : List ℕ) (n : ℕ) (k : ScriptKind) → TextWrong text n k → Met (read_text text) n k
unfolding statements_text
reads_fails text n k (AtLine before bytes rest d h one e w) =
    let ps = split_at 10 rest in
    let tail : split_at 10 (bytes ++ 10 ∷ rest) ≡ bytes ∷ ps = slice_split_at (λ b. eqb b 10) bytes 10 rest (All-from_lacks 10 bytes one) refl in
    let cut : split_at 10 text ≡ (map line_of before ++ bytes ∷ front_of ps) ++ last_of ps ∷ [] =
    ap (split_at 10) e ∙ split_more (map line_of before) (bytes ++ 10 ∷ rest) (statements_lack [] before h) ∙ ap (λ (v : List (List ℕ)). map line_of before ++ v) (tail ∙ ap (λ (v : List (List ℕ)). bytes ∷ v) (parts_are ps (split_some 10 rest))) ∙ sym (append_assoc (map line_of before) (bytes ∷ front_of ps) (last_of ps ∷ [])) in
    let a = lines_again before start [] (bytes ∷ front_of ps) sees_start h in
    let f : read_lines a.then (bytes ∷ front_of ps) ≡ record { right = []; fault = Some d } = lines_fail a.then before bytes (front_of ps) d a.sees w in
    let all : read_text text ≡ ended (with_front before (record { right = []; fault = Some d })) (last_of ps) =
    read_cut text (map line_of before ++ bytes ∷ front_of ps) (last_of ps) cut ∙ ap (λ (ls : Lines). ended ls (last_of ps)) (a.is ∙ ap (with_front before) f) in
    let M : Lines → Type 0 = λ ls. Met ls (suc (length before)) d in
    subst M (sym all) (record { fault = refl; line = ap (λ (rs : List Statement). suc (length rs)) (append-nil before) })
reads_fails text n k (NoEnd before bytes h one some e) =
    let none : split_at 10 bytes ≡ bytes ∷ [] = slice_split_none (λ b. eqb b 10) bytes (All-from_lacks 10 bytes one) in
    let cut : split_at 10 text ≡ map line_of before ++ bytes ∷ [] = ap (split_at 10) e ∙ split_more (map line_of before) bytes (statements_lack [] before h) ∙ ap (λ (v : List (List ℕ)). map line_of before ++ v) none in
    let all : read_text text ≡ record { right = before; fault = end_fault before bytes } = read_cut text (map line_of before) bytes cut ∙ ap (λ (ls : Lines). ended ls bytes) (read_right before h) in
    let M : Lines → Type 0 = λ ls. Met ls (suc (length before)) kind.Newline in
    subst M (sym all) (record { fault = end_newline before bytes some; line = refl })
reads_fails text n k (NotWhole before h never e) =
    let cut : split_at 10 text ≡ map line_of before ++ [] ∷ [] = ap (split_at 10) (e ∙ sym (append-nil (flat_map line_text (map line_of before)))) ∙ split_more (map line_of before) [] (statements_lack [] before h) in
    let half : is_whole before ≡ false = no_whole before (is_whole before) never refl in
    let all : read_text text ≡ record { right = before; fault = end_fault before [] } = read_cut text (map line_of before) [] cut ∙ ap (λ (ls : Lines). ended ls []) (read_right before h) in
    let M : Lines → Type 0 = λ ls. Met ls (suc (length before)) kind.Missing in
    subst M (sym all) (record { fault = rw half refl; line = refl })
