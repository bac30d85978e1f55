-- Right lines that are whole are those of a scenario, so that a text spells one or has a fault.
use Rattle.std.proofs.Common.{◌≡◌, ℕ, zero, suc, ◌≤◌, max, Bool, true, false, cond, List, [], ◌∷◌, ◌++◌, length, refl, sym, ap, ◌∙◌, subst, arith, lit<, ◌⊎◌, inl, inr}
use Rattle.std.specs.Prelude.{Option, Some, None, codes, bytes_eq}
use Rattle.std.proofs.lemmas.Bool.{both_ways}
use Rattle.std.proofs.lemmas.List.{append_assoc, append-nil}
use Rattle.pcc_script.specs.declared.word.Word.{Word}
use Rattle.pcc_script.specs.declared.word.Word.TheVariants as word
use Rattle.pcc_script.specs.declared.line.Entry.{Entry}
use Rattle.pcc_script.specs.declared.line.Entry.TheVariants as entry
use Rattle.pcc_script.specs.declared.partial.ClockLine.{ClockLine}
use Rattle.pcc_script.specs.declared.partial.Partial.{Partial}
use Rattle.pcc_script.specs.declared.scenario.Device.TheVariants.{Bank, Cppc}
use Rattle.pcc_script.specs.declared.scenario.Line.{Line}
use Rattle.pcc_script.specs.declared.scenario.Line.TheVariants as line
use Rattle.pcc_script.specs.declared.scenario.Scenario.{Scenario}
use Rattle.pcc_script.specs.declared.fault.ScriptKind.{ScriptKind}
use Rattle.pcc_script.specs.Rows.{behind, DeviceName, Exactly, field_at, HexBytes, NamedBank, NamedCppc, OfBytes, OfDevice, OfNumber, place, spell, steps_of, Takes, Value}
use Rattle.pcc_script.specs.Text.{AllRight, fields_of, InOrder, IsScenario, IsWhole, LineRight, next_of, script_text, Statement, statements_of, statements_text}
use Rattle.pcc_script.specs.Faults.{HasFault, HasScenario, TextWrong}
use Rattle.pcc_script.specs.Reading.{Empty, entry_statement, is_whole, Lines, read_text, so_far}
use Rattle.pcc_script.proofs.Counting.{next_push, place_behind, action_place}
use Rattle.pcc_script.proofs.Completing.{completed, no_clock, no_opens, no_table}
use Rattle.pcc_script.proofs.Determined.{same_scenario}
use Rattle.pcc_script.proofs.Growing.{empty_later, put_action, put_cap, put_clock, put_cpu, put_open, put_pick, put_table}
use Rattle.pcc_script.proofs.Script.{reads_again, reads_fails, reads_found, reads_wrong, whole_is}

abbrev line_with : Word → List Value → Statement
line_with w values = record { word = w; values = values }

-- a line is what an entry says
abbrev IsEntry : Word → List Value → Type 0
IsEntry w values = (e : Entry) × (entry_statement e ≡ line_with w values)

-- ---- what a right line says

table_entry : (f : List (List ℕ)) (vs : List Value) → AllRight 1 (steps_of word.Table f) f vs → IsEntry word.Table vs
table_entry f [] h = absurd h.1
table_entry f (v ∷ vs) h = let b = h.1.0 in (entry.Table b.0, let a : v ≡ _ = b.1 in let e : vs ≡ [] = h.1.2 in rw (a, e) refl)

clock_entry : (f : List (List ℕ)) (vs : List Value) → AllRight 1 (steps_of word.Clock f) f vs → IsEntry word.Clock vs
clock_entry f [] h = absurd h.1
clock_entry f (v ∷ []) h = absurd h.1.2
clock_entry f (v ∷ w ∷ vs) h =
    let a = h.1.0 in let b = h.1.2.0 in let e : vs ≡ [] = h.1.2.2 in
    let p : v ≡ OfNumber a.0 = a.1 in let q : w ≡ OfNumber b.0 = b.1 in
    (entry.Clock a.0 b.0, rw (p, q, e) refl)

cpu_entry : (f : List (List ℕ)) (vs : List Value) → AllRight 1 (steps_of word.Cpu f) f vs → IsEntry word.Cpu vs
cpu_entry f [] h = absurd h.1
cpu_entry f (v ∷ vs) h = let b = h.1.0 in (entry.Cpu b.0, let a : v ≡ _ = b.1 in let e : vs ≡ [] = h.1.2 in rw (a, e) refl)

cap_entry : (f : List (List ℕ)) (vs : List Value) → AllRight 1 (steps_of word.Cap f) f vs → IsEntry word.Cap vs
cap_entry f [] h = absurd h.1
cap_entry f (v ∷ []) h = absurd h.1.2
cap_entry f (v ∷ w ∷ []) h = absurd h.1.2.2
cap_entry f (v ∷ w ∷ x ∷ vs) h =
    let a = h.1.0 in let b = h.1.2.0 in let c = h.1.2.2.0 in let e : vs ≡ [] = h.1.2.2.2 in
    let p : v ≡ OfNumber a.0 = a.1 in let q : w ≡ OfNumber b.0 = b.1 in let r : x ≡ OfNumber c.0 = c.1 in
    (entry.Cap (record { id = a.0; count = b.0; value = c.0 }), rw (p, q, r, e) refl)

wait_entry : (f : List (List ℕ)) (vs : List Value) → AllRight 1 (steps_of word.Wait f) f vs → IsEntry word.Wait vs
wait_entry f [] h = absurd h.1
wait_entry f (v ∷ vs) h = let a = h.1.0 in let p : v ≡ OfNumber a.0 = a.1 in let e : vs ≡ [] = h.1.2 in (entry.Action (line.Wait a.0), rw (p, e) refl)

pick_entry : (f : List (List ℕ)) (vs : List Value) → AllRight 1 (steps_of word.Pick f) f vs → IsEntry word.Pick vs
pick_entry f [] h = absurd h.1
pick_entry f (v ∷ vs) h = let b = h.1.0 in (entry.Picks b.0, let a : v ≡ _ = b.1 in let e : vs ≡ [] = h.1.2.1 in rw (a, e) refl)

read_entry : (f : List (List ℕ)) (vs : List Value) → AllRight 1 (steps_of word.Read f) f vs → IsEntry word.Read vs
read_entry f [] h = absurd h.1
read_entry f (v ∷ []) h = absurd h.1.2
read_entry f (v ∷ w ∷ []) h = absurd h.1.2.2
read_entry f (v ∷ w ∷ x ∷ []) h = absurd h.1.2.2.2
read_entry f (v ∷ w ∷ x ∷ y ∷ vs) h =
    let a = h.1.0 in let b = h.1.2.0 in let c = h.1.2.2.0 in let d = h.1.2.2.2.0 in let e : vs ≡ [] = h.1.2.2.2.2 in
    let p : v ≡ OfNumber a.0 = a.1 in let q : w ≡ OfNumber b.0 = b.1 in let r : x ≡ OfNumber c.0 = c.1 in let s : y ≡ OfNumber d.0 = d.1 in
    (entry.Action (line.Read a.0 b.0 c.0 d.0), rw (p, q, r, s, e) refl)

call_entry : (f : List (List ℕ)) (vs : List Value) → AllRight 1 (steps_of word.Call f) f vs → IsEntry word.Call vs
call_entry f [] h = absurd h.1
call_entry f (v ∷ []) h = absurd h.1.2
call_entry f (v ∷ w ∷ []) h = absurd h.1.2.2
call_entry f (v ∷ w ∷ x ∷ []) h = absurd h.1.2.2.2
call_entry f (v ∷ w ∷ x ∷ y ∷ []) h = absurd h.1.2.2.2.2
call_entry f (v ∷ w ∷ x ∷ y ∷ z ∷ []) h = absurd h.1.2.2.2.2.2
call_entry f (v ∷ w ∷ x ∷ y ∷ z ∷ u ∷ vs) h =
    let a = h.1.0 in let b = h.1.2.0 in let c = h.1.2.2.0 in let d = h.1.2.2.2.0 in let i = h.1.2.2.2.2.0 in let j = h.1.2.2.2.2.2.0 in
    let e : vs ≡ [] = h.1.2.2.2.2.2.2 in
    (entry.Action (line.Call a.0 b.0 c.0 d.0 i.0 j.0), rw (a.1, b.1, c.1, d.1, i.1, j.1, e) refl)

set_entry : (f : List (List ℕ)) (vs : List Value) → AllRight 1 (steps_of word.Set f) f vs → IsEntry word.Set vs
set_entry f [] h = absurd h.1
set_entry f (v ∷ []) h = absurd h.1.2
set_entry f (v ∷ w ∷ []) h = absurd h.1.2.2
set_entry f (v ∷ w ∷ x ∷ []) h = absurd h.1.2.2.2
set_entry f (v ∷ w ∷ x ∷ y ∷ []) h = absurd h.1.2.2.2.2
set_entry f (v ∷ w ∷ x ∷ y ∷ z ∷ []) h = absurd h.1.2.2.2.2.2
set_entry f (v ∷ w ∷ x ∷ y ∷ z ∷ u ∷ []) h = absurd h.1.2.2.2.2.2.2
set_entry f (v ∷ w ∷ x ∷ y ∷ z ∷ u ∷ t ∷ vs) h =
    let a = h.1.0 in let b = h.1.2.0 in let c = h.1.2.2.0 in let d = h.1.2.2.2.0 in let i = h.1.2.2.2.2.0 in let j = h.1.2.2.2.2.2.0 in
    let k = h.1.2.2.2.2.2.2.0 in let e : vs ≡ [] = h.1.2.2.2.2.2.2.2 in
    (entry.Action (line.Set a.0 (record { cpu = b.0; min = c.0; desired = d.0; max = i.0 }) j.0 k.0), rw (a.1, b.1, c.1, d.1, i.1, j.1, k.1, e) refl)

-- the fields behind the name of a device
abbrev Behind : List (List ℕ) → List Value → Bool → Type 0
Behind f vs named = AllRight 3 (cond named (Exactly 4 ∷ Takes HexBytes ∷ []) (Exactly 3 ∷ [])) f vs

cppc_line : (id : ℕ) (v : Value) (vs : List Value) (image : List ℕ) → v ≡ OfBytes image → vs ≡ []
    → entry_statement (entry.Open (record { id = id; device = Cppc image })) ≡ line_with word.Open (OfNumber id ∷ OfDevice NamedCppc ∷ v ∷ vs)
cppc_line id v vs image e d = rw (e, d) refl

device_entry : (id : ℕ) (name : DeviceName) (f : List (List ℕ)) (vs : List Value) → field_at f 2 ≡ spell (OfDevice name)
    → Behind f vs (bytes_eq (field_at f 2) (codes "cppc")) → IsEntry word.Open (OfNumber id ∷ OfDevice name ∷ vs)
device_entry id NamedBank f vs e h =
    let none : bytes_eq (field_at f 2) (codes "cppc") ≡ false = rw e refl in
    let b : Behind f vs false = subst (Behind f vs) none h in
    let all : vs ≡ [] = b.1 in
    (entry.Open (record { id = id; device = Bank }), rw all refl)
device_entry id NamedCppc f [] e h =
    let some : bytes_eq (field_at f 2) (codes "cppc") ≡ true = rw e refl in
    let b : Behind f [] true = subst (Behind f []) some h in absurd b.1
device_entry id NamedCppc f (v ∷ vs) e h =
    let some : bytes_eq (field_at f 2) (codes "cppc") ≡ true = rw e refl in
    let b : Behind f (v ∷ vs) true = subst (Behind f (v ∷ vs)) some h in
    let i = b.1.0 in let all : vs ≡ [] = b.1.2 in
    (entry.Open (record { id = id; device = Cppc i.0 }), cppc_line id v vs i.0 i.1 all)

open_entry : (f : List (List ℕ)) (vs : List Value) → AllRight 1 (steps_of word.Open f) f vs → IsEntry word.Open vs
open_entry f [] h = absurd h.1
open_entry f (v ∷ []) h = absurd h.1.2
open_entry f (v ∷ w ∷ vs) h =
    let a = h.1.0 in let d = h.1.2.0 in
    let at : field_at f 2 ≡ spell (OfDevice d.0) = h.1.2.1 ∙ ap spell d.1 in
    let e = device_entry a.0 d.0 f vs at h.1.2.2 in
    (e.0, e.1 ∙ rw (a.1, d.1) refl)

entry_at : (w : Word) (f : List (List ℕ)) (vs : List Value) → AllRight 1 (steps_of w f) f vs → IsEntry w vs
entry_at word.Table f vs h = table_entry f vs h
entry_at word.Clock f vs h = clock_entry f vs h
entry_at word.Open f vs h = open_entry f vs h
entry_at word.Cpu f vs h = cpu_entry f vs h
entry_at word.Cap f vs h = cap_entry f vs h
entry_at word.Call f vs h = call_entry f vs h
entry_at word.Read f vs h = read_entry f vs h
entry_at word.Set f vs h = set_entry f vs h
entry_at word.Wait f vs h = wait_entry f vs h
entry_at word.Pick f vs h = pick_entry f vs h

-- ---- lines that grow

-- what was read with one line more
pub record More (p : Partial) (r : Statement) : Type 0 where
  pub all : Partial
  pub lines : so_far all ≡ so_far p ++ r ∷ []
  pub empty : Empty (behind r.word) all

action_more : (p : Partial) (l : Line) → Empty (place (entry_statement (entry.Action l)).word) p → More p (entry_statement (entry.Action l))
action_more p l e =
    let at : place (entry_statement (entry.Action l)).word ≡ 5 = action_place l in
    let le : place (entry_statement (entry.Action l)).word ≤ behind (entry_statement (entry.Action l)).word = place_behind (entry_statement (entry.Action l)).word in
    record {
      all = record p { actions = p.actions ++ l ∷ [] };
      lines = put_action p l e;
      empty = record {
        table = λ h. absurd (omega arith);
        clock = λ h. absurd (omega arith);
        opens = λ h. absurd (omega arith);
        cpus = λ h. absurd (omega arith);
        caps = λ h. absurd (omega arith);
        actions = λ h. absurd (omega arith);
        picks = λ h. e.picks (omega arith);
      };
    }

entry_more : (p : Partial) (e : Entry) → Empty (place (entry_statement e).word) p → More p (entry_statement e)
entry_more p (entry.Table bytes) e = record {
  all = record p { table = Some bytes };
  lines = put_table p bytes e;
  empty = record {
    table = λ h. absurd (omega arith);
    clock = λ h. e.clock (lit< tt);
    opens = λ h. e.opens (lit< tt);
    cpus = λ h. e.cpus (lit< tt);
    caps = λ h. e.caps (lit< tt);
    actions = λ h. e.actions (lit< tt);
    picks = λ h. e.picks (lit< tt);
  };
}
entry_more p (entry.Clock start step) e = record {
  all = record p { clock = Some (record { start = start; step = step }) };
  lines = put_clock p (record { start = start; step = step }) e;
  empty = record {
    table = λ h. absurd (omega arith);
    clock = λ h. absurd (omega arith);
    opens = λ h. e.opens (lit< tt);
    cpus = λ h. e.cpus (lit< tt);
    caps = λ h. e.caps (lit< tt);
    actions = λ h. e.actions (lit< tt);
    picks = λ h. e.picks (lit< tt);
  };
}
entry_more p (entry.Open o) e = record {
  all = record p { opens = p.opens ++ o ∷ [] };
  lines = put_open p o e;
  empty = record {
    table = λ h. absurd (omega arith);
    clock = λ h. absurd (omega arith);
    opens = λ h. absurd (omega arith);
    cpus = λ h. e.cpus (lit< tt);
    caps = λ h. e.caps (lit< tt);
    actions = λ h. e.actions (lit< tt);
    picks = λ h. e.picks (lit< tt);
  };
}
entry_more p (entry.Cpu bytes) e = record {
  all = record p { cpus = p.cpus ++ bytes ∷ [] };
  lines = put_cpu p bytes e;
  empty = record {
    table = λ h. absurd (omega arith);
    clock = λ h. absurd (omega arith);
    opens = λ h. absurd (omega arith);
    cpus = λ h. absurd (omega arith);
    caps = λ h. e.caps (lit< tt);
    actions = λ h. e.actions (lit< tt);
    picks = λ h. e.picks (lit< tt);
  };
}
entry_more p (entry.Cap c) e = record {
  all = record p { caps = p.caps ++ c ∷ [] };
  lines = put_cap p c e;
  empty = record {
    table = λ h. absurd (omega arith);
    clock = λ h. absurd (omega arith);
    opens = λ h. absurd (omega arith);
    cpus = λ h. absurd (omega arith);
    caps = λ h. absurd (omega arith);
    actions = λ h. e.actions (lit< tt);
    picks = λ h. e.picks (lit< tt);
  };
}
entry_more p (entry.Action l) e = action_more p l e
entry_more p (entry.Picks letters) e = record {
  all = record p { picks = Some letters };
  lines = put_pick p letters e;
  empty = record {
    table = λ h. absurd (omega arith);
    clock = λ h. absurd (omega arith);
    opens = λ h. absurd (omega arith);
    cpus = λ h. absurd (omega arith);
    caps = λ h. absurd (omega arith);
    actions = λ h. absurd (omega arith);
    picks = λ h. absurd (omega arith);
  };
}

line_more : (before : List Statement) (p : Partial) (r : Statement) → Empty (next_of before) p → LineRight before r → More p r
line_more before p r e h =
    let en = entry_at r.word (fields_of r) r.values h.fields in
    let E : Statement → Type 0 = λ s. Empty (place s.word) p in
    let M : Statement → Type 0 = More p in
    subst M en.1 (entry_more p en.0 (subst E (sym en.1) (empty_later (next_of before) (place r.word) p h.placed e)))

-- right lines are those of something read
grown : (before rs : List Statement) (p : Partial) → so_far p ≡ before → Empty (next_of before) p → InOrder before rs
    → (q : Partial) × (so_far q ≡ before ++ rs)
grown before [] p s e h = (p, s ∙ sym (append-nil before))
grown before (r ∷ rs) p s e h =
    let m = line_more before p r e h.0 in
    let pushed : next_of (before ++ r ∷ []) ≡ max (next_of before) (behind r.word) = next_push before r in
    let placed : next_of before ≤ place r.word = h.0.placed in
    let above : place r.word ≤ behind r.word = place_behind r.word in
    let same : behind r.word ≡ next_of (before ++ r ∷ []) = omega arith in
    let E : ℕ → Type 0 = λ n. Empty n m.all in
    let lines : so_far m.all ≡ before ++ r ∷ [] = m.lines ∙ ap (λ (v : List Statement). v ++ r ∷ []) s in
    let g = grown (before ++ r ∷ []) rs m.all lines (subst E same m.empty) h.1 in
    (g.0, g.1 ∙ append_assoc before (r ∷ []) rs)

abbrev nothing : Partial
nothing = record { table = None; clock = None; opens = []; cpus = []; caps = []; actions = []; picks = None }

empty_nothing : Empty 0 nothing
empty_nothing = record { table = λ h. refl; clock = λ h. refl; opens = λ h. refl; cpus = λ h. refl; caps = λ h. refl; actions = λ h. refl; picks = λ h. refl }

-- ---- what is whole

-- a scenario of these lines
abbrev IsSpelled : List Statement → Type 0
IsSpelled rs = (s : Scenario) × (rs ≡ statements_of s)

opened : (q : Partial) (t : List ℕ) (c : ClockLine) → q.table ≡ Some t → q.clock ≡ Some c → is_whole (so_far q) ≡ true → (n : ℕ) → length q.opens ≡ n
    → IsSpelled (so_far q)
opened q t c e k w zero o = absurd (both_ways (is_whole (so_far q)) (no_opens q o) w)
opened q t c e k w (suc n) o =
    let s : Scenario = record { table = t; start = c.start; step = c.step; opens = q.opens; cpus = q.cpus; caps = q.caps; actions = q.actions; picks = q.picks } in
    (s, (completed q [] t c refl e k (omega arith)).1)

whole_is_spelled : (q : Partial) (t : Option (List ℕ)) (c : Option ClockLine) → q.table ≡ t → q.clock ≡ c → is_whole (so_far q) ≡ true → IsSpelled (so_far q)
whole_is_spelled q None c e k w = absurd (both_ways (is_whole (so_far q)) (no_table q e) w)
whole_is_spelled q (Some t) None e k w = absurd (both_ways (is_whole (so_far q)) (no_clock q k) w)
whole_is_spelled q (Some t) (Some c) e k w = opened q t c e k w (length q.opens) refl

pub right_is_spelled : (rs : List Statement) → InOrder [] rs → IsWhole rs → IsSpelled rs
right_is_spelled rs h w =
    let g = grown [] rs nothing refl empty_nothing h in
    let T : List Statement → Type 0 = λ v. is_whole v ≡ true in
    subst IsSpelled g.1 (whole_is_spelled g.0 g.0.table g.0.clock refl refl (subst T (sym g.1) (whole_is rs w)))

-- ---- a text

abbrev lines_with : List Statement → Option ScriptKind → Lines
lines_with rs o = record { right = rs; fault = o }

found : (text : List ℕ) (rs : List Statement) → read_text text ≡ record { right = rs; fault = None } → HasScenario text
unfolding script_text
found text rs e =
    let f = reads_found text rs e in
    let s = right_is_spelled rs f.order f.whole in
    let P : List Statement → Type 0 = InOrder [] in
    record { scenario = s.0; right = record { right = subst P s.1 f.order; whole = subst IsWhole s.1 f.whole }; spelled = f.is ∙ ap statements_text s.1 }

same_lines : (ls : Lines) → ls.fault ≡ None → ls ≡ record { right = ls.right; fault = None }
same_lines ls e = ap (λ (o : Option ScriptKind). lines_with ls.right o) e

text_case : (text : List ℕ) (o : Option ScriptKind) → (read_text text).fault ≡ o → HasScenario text ⊎ HasFault text
text_case text None e = inl (found text (read_text text).right (same_lines (read_text text) e))
text_case text (Some k) e = inr (record { line = suc (length (read_text text).right); kind = k; wrong = reads_wrong text k _ e refl })

pub text_some : (text : List ℕ) → HasScenario text ⊎ HasFault text
text_some text = text_case text (read_text text).fault refl

pub text_not_both : (text : List ℕ) → HasScenario text → HasFault text → ⊥
unfolding script_text
text_not_both text s f =
    let m = reads_fails text f.line f.kind f.wrong in
    let r = reads_again text (statements_of s.scenario) s.right.right s.right.whole s.spelled in
    let none : (read_text text).fault ≡ None = ap (λ (ls : Lines). ls.fault) r in
    let some : (read_text text).fault ≡ Some f.kind = m.fault in
    cc

pub text_one_fault : (text : List ℕ) (l m : ℕ) (k d : ScriptKind) → TextWrong text l k → TextWrong text m d → (l ≡ m) × (k ≡ d)
text_one_fault text l m k d a b =
    let p = reads_fails text l k a in
    let q = reads_fails text m d b in
    let pk : (read_text text).fault ≡ Some k = p.fault in
    let qk : (read_text text).fault ≡ Some d = q.fault in
    let same : k ≡ d = cc in
    (sym p.line ∙ q.line, same)

pub text_one_scenario : (s t : Scenario) → IsScenario s → IsScenario t → script_text s ≡ script_text t → s ≡ t
unfolding script_text
text_one_scenario s t a b e =
    let p = reads_again (script_text s) (statements_of s) a.right a.whole refl in
    let q = reads_again (script_text s) (statements_of t) b.right b.whole e in
    same_scenario s t (ap (λ (ls : Lines). ls.right) (sym p ∙ q))
