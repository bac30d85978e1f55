-- What is written is the text of a scenario.
use Rattle.std.proofs.Common.{◌≡◌, ℕ, List, [], ◌∷◌, ◌++◌, map, refl, sym, ap, ◌∙◌}
use Rattle.std.specs.Prelude.{Option, Some, None}
use Rattle.std.specs.List.{flat_map}
use Rattle.std.proofs.lemmas.List.{append_assoc, append-nil, map-append}
use Rattle.std.proofs.lemmas.Grind.{flat_map-append}
use Rattle.pcc_bytes.specs.Fields.{joined, line_text}
use Rattle.pcc_script.specs.declared.scenario.Letter.{Letter}
use Rattle.pcc_script.specs.declared.scenario.Scenario.{Scenario}
use Rattle.pcc_script.specs.declared.word.Word.{Word}
use Rattle.pcc_script.specs.declared.writing.Field.{Field}
use Rattle.pcc_script.specs.Rows.{letter_text, spell, text_of, Value}
use Rattle.pcc_script.specs.Text.{action_statement, cap_statement, clock_statement, cpu_statement, line_of, open_statement, pick_statement, pick_statements, script_text, Statement, statements_text, table_statement}
use Rattle.pcc_script.specs.Writing.{spaced, statement_text, statement_with, value_of}

-- ---- fields

abbrev pub one_letter : Letter → List ℕ
one_letter letter = letter_text letter ∷ []

pub letters_text : (letters : List Letter) → flat_map one_letter letters ≡ map letter_text letters
letters_text [] = refl
letters_text (l ∷ ls) = ap (λ (t : List ℕ). letter_text l ∷ t) (letters_text ls)

abbrev pub field_text : Field → List ℕ
field_text f = 32 ∷ spell (value_of f)

pub spaced_text : (fs : List Field) → flat_map field_text fs ≡ spaced (map value_of fs)
spaced_text [] = refl
spaced_text (f ∷ fs) = ap (λ (t : List ℕ). 32 ∷ (spell (value_of f) ++ t)) (spaced_text fs)

-- ---- lines

joined_is : (w : List ℕ) (vs : List Value) → joined (w ∷ map spell vs) ≡ w ++ spaced vs
joined_is w [] = sym (append-nil w)
joined_is w (v ∷ vs) = ap (λ (t : List ℕ). w ++ 32 ∷ t) (joined_is (spell v) vs)

pub line_is : (out : List ℕ) (w : Word) (vs : List Value) → ((out ++ text_of w) ++ spaced vs) ++ 10 ∷ [] ≡ out ++ statement_text (statement_with w vs)
unfolding statement_text
line_is out w vs = rw joined_is (simp append_assoc)

-- the text of the line of an item
abbrev pub text_by : {A : Type 0} → (A → Statement) → A → List ℕ
text_by f x = statement_text (f x)

pub lines_text : {A : Type 0} (f : A → Statement) (xs : List A) → flat_map (text_by f) xs ≡ statements_text (map f xs)
unfolding statements_text statement_text
lines_text f [] = refl
lines_text f (x ∷ xs) = ap (λ (t : List ℕ). line_text (line_of (f x)) ++ t) (lines_text f xs)

pub picks_none : (out : List ℕ) (o : Option (List Letter)) → o ≡ None → out ≡ out ++ statements_text (pick_statements o)
unfolding statements_text
picks_none out o e = rw e (sym (append-nil out))

pub picks_some : (out : List ℕ) (o : Option (List Letter)) (ls : List Letter) → o ≡ Some ls
    → out ++ statement_text (pick_statement ls) ≡ out ++ statements_text (pick_statements o)
unfolding statements_text statement_text
picks_some out o ls e = rw e (ap (λ (t : List ℕ). out ++ t) (sym (append-nil (line_text (line_of (pick_statement ls))))))

-- ---- a scenario

text_append : (a b : List Statement) → statements_text (a ++ b) ≡ statements_text a ++ statements_text b
unfolding statements_text
text_append a b = ap (flat_map line_text) (map-append line_of a b) ∙ flat_map-append line_text (map line_of a) (map line_of b)

text_cons : (r : Statement) (rs : List Statement) → statements_text (r ∷ rs) ≡ statement_text r ++ statements_text rs
unfolding statements_text statement_text
text_cons r rs = refl

-- the texts of its parts, one after the other
abbrev pub parts_text : Scenario → List ℕ
parts_text s =
    (((((statement_text (table_statement s.table) ++ statement_text (clock_statement s.start s.step))
    ++ statements_text (map open_statement s.opens))
    ++ statements_text (map cpu_statement s.cpus))
    ++ statements_text (map cap_statement s.caps))
    ++ statements_text (map action_statement s.actions))
    ++ statements_text (pick_statements s.picks)

pub scenario_written : (s : Scenario) → parts_text s ≡ script_text s
unfolding script_text
scenario_written s =
    let o = map open_statement s.opens in let c = map cpu_statement s.cpus in let p = map cap_statement s.caps in let a = map action_statement s.actions in let k = pick_statements s.picks in
    rw (text_cons (table_statement s.table) (clock_statement s.start s.step ∷ (o ++ (c ++ (p ++ (a ++ k))))), text_cons (clock_statement s.start s.step) (o ++ (c ++ (p ++ (a ++ k)))), text_append o (c ++ (p ++ (a ++ k))), text_append c (p ++ (a ++ k)), text_append p (a ++ k), text_append a k) (simp append_assoc)
