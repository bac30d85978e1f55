-- What a caller is told of a text.
use Rattle.std.proofs.Common.{◌≡◌, ℕ, suc, List, length, refl, sym, ap, ◌∙◌}
use Rattle.std.specs.Prelude.{Some, None, Result, Ok, Err, IfOk}
use Rattle.pcc_script.specs.declared.scenario.Scenario.{Scenario}
use Rattle.pcc_script.specs.declared.fault.ScriptKind.{ScriptKind}
use Rattle.pcc_script.specs.declared.fault.ScriptError.{ScriptError}
use Rattle.pcc_script.specs.declared.fault.ScriptError.TheVariants as error
use Rattle.pcc_script.specs.Text.{Statement, statements_of, IsScenario, script_text}
use Rattle.pcc_script.specs.Faults.{IfFault, IsReadAs, IsRefusedAt, TextWrong}
use Rattle.pcc_script.specs.Reading.{Lines, read_text, Tells}
use Rattle.pcc_script.proofs.Script.{reads_found, reads_again, reads_wrong, reads_fails}
use Rattle.pcc_script.proofs.Determined.{same_scenario}

pub is_found : (text : List ℕ) (r : Result Scenario ScriptError) → Tells statements_of r (read_text text) → IfOk r (λ s. IsScenario s × (text ≡ script_text s))
unfolding script_text
is_found text (Ok s) h = let f = reads_found text (statements_of s) h in (record { right = f.order; whole = f.whole }, f.is)
is_found text (Err e) h = tt

abbrev lines_of : List Statement → Lines
lines_of rs = record { right = rs; fault = None }

right_same : (a b : List Statement) → lines_of a ≡ lines_of b → a ≡ b
right_same a b e = ap (λ (ls : Lines). ls.right) e

only_err : (e : ScriptError) (rs : List Statement) (ls : Lines) → ls ≡ lines_of rs → Tells statements_of (Err e) ls → e ≡ error.NoMemory
only_err error.NoMemory rs ls i h = refl
only_err (error.Fault n k) rs ls i h = let f : ls.fault ≡ None = ap (λ (l : Lines). l.fault) i in cc

pub is_only : (text : List ℕ) (r : Result Scenario ScriptError) (s : Scenario) → Tells statements_of r (read_text text) → IsScenario s
    → text ≡ script_text s → IsReadAs s r
unfolding script_text
is_only text (Ok t) s h ok e = same_scenario t s (right_same (statements_of t) (statements_of s) (sym h ∙ reads_again text (statements_of s) ok.right ok.whole e))
is_only text (Err d) s h ok e = only_err d (statements_of s) (read_text text) (reads_again text (statements_of s) ok.right ok.whole e) h

pub is_wrong : (text : List ℕ) (r : Result Scenario ScriptError) → Tells statements_of r (read_text text) → IfFault r (λ line kind. TextWrong text line kind)
is_wrong text (Ok s) h = tt
is_wrong text (Err error.NoMemory) h = tt
is_wrong text (Err (error.Fault n k)) h = reads_wrong text k n h.0 h.1

pub is_first : (text : List ℕ) (r : Result Scenario ScriptError) (line : ℕ) (kind : ScriptKind) → Tells statements_of r (read_text text)
    → TextWrong text line kind → IsRefusedAt line kind r
is_first text (Ok s) n k h w =
    let m = reads_fails text n k w in
    let f : (read_text text).fault ≡ None = ap (λ (l : Lines). l.fault) h in
    let g : (read_text text).fault ≡ Some k = m.fault in
    cc
is_first text (Err error.NoMemory) n k h w = tt
is_first text (Err (error.Fault l d)) n k h w =
    let m = reads_fails text n k w in
    let g : (read_text text).fault ≡ Some k = m.fault in
    let i : suc (length (read_text text).right) ≡ n = m.line in
    let a : (read_text text).fault ≡ Some d = h.0 in
    let b : suc (length (read_text text).right) ≡ l = h.1 in
    let same_kind : d ≡ k = cc in
    (sym b ∙ i, same_kind)
