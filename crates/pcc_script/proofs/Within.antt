-- A scenario has a text exactly where it is within the limits.
use Rattle.std.proofs.Common.{◌≡◌, ℕ, ◌+◌, ◌<◌, ◌≤◌, List, [], ◌∷◌, ◌++◌, length, map, refl, sym, subst, arith}
use Rattle.std.specs.List.{AllByRecursion}
use Rattle.std.proofs.lemmas.List.{append_assoc, append-nil}
use Rattle.pcc_script.specs.Rows.{steps_of, letter_text, OfNumber, OfOptional, OfBytes, Limit, Worker, Cpu, Id, Code, Polls, Hold, Any, NamedBank, NamedCppc, Whole, Positive, Optional, HexBytes, LetterText, OfLetters, IsOf, most_of}
use Rattle.pcc_bytes.specs.Bytes.{IsBytes}
use Rattle.pcc_script.specs.declared.limits.TheConstants.{MAX_ACTIONS, MAX_CAPS, MAX_CPUS, MAX_ID, MAX_LETTERS, MAX_OPENS, MAX_POLLS}
use Rattle.pcc_script.specs.Text.{Statement, fields_of, next_of, count_at, AllRight, InOrder, table_statement, clock_statement, open_statement, cpu_statement, cap_statement, action_statement, pick_statement, pick_statements, statements_of, IsScenario}
use Rattle.std.specs.Prelude.{Option, Some, None, IfSome}
use Rattle.std.proofs.lemmas.List.{length-map}
use Rattle.pcc_script.specs.declared.scenario.Device.{Device}
use Rattle.pcc_script.specs.declared.scenario.Device.TheVariants.{Bank, Cppc}
use Rattle.pcc_script.specs.declared.scenario.Line.{Line}
use Rattle.pcc_script.specs.declared.scenario.Line.TheVariants as line
use Rattle.pcc_script.specs.declared.scenario.OpenLine.{OpenLine}
use Rattle.pcc_script.specs.declared.scenario.CapLine.{CapLine}
use Rattle.pcc_script.specs.declared.scenario.Letter.{Letter}
use Rattle.pcc_script.specs.declared.scenario.Scenario.{Scenario}
use Rattle.pcc_script.specs.Limits.{IsAction, IsBudget, IsCap, IsU64, IsDevice, IsOpen, IsWithin}
use Rattle.pcc_script.proofs.Counting.{all_opens, behind_opens, count_append, next_append, none_behind, none_there}
use Rattle.pcc_script.proofs.Places.{more_run, next_run, order_append, order_split, run_len, run_of, Stands}

-- ---- each line

open_by : (id : ℕ) (d : Device) → id ≤ MAX_ID → IsDevice d → Stands 2 MAX_OPENS (open_statement (record { id = id; device = d }))
open_by id Bank h b = record { place_is = refl; behind_is = refl; most_is = refl; fields = (omega arith, ((id, refl, h), refl, ((NamedBank, refl), refl, (refl, refl)))) }
open_by id (Cppc image) h b = record { place_is = refl; behind_is = refl; most_is = refl; fields = (omega arith, ((id, refl, h), refl, ((NamedCppc, refl), refl, (refl, ((image, refl, b), refl, refl))))) }

opens_stand : (os : List OpenLine) → AllByRecursion IsOpen os → AllByRecursion (Stands 2 MAX_OPENS) (map open_statement os)
opens_stand [] h = tt
opens_stand (o ∷ os) h = (open_by o.id o.device h.0.id h.0.device, opens_stand os h.1)

cpus_stand : (bs : List (List ℕ)) → AllByRecursion IsBytes bs → AllByRecursion (Stands 3 MAX_CPUS) (map cpu_statement bs)
cpus_stand [] h = tt
cpus_stand (b ∷ bs) h = (record { place_is = refl; behind_is = refl; most_is = refl; fields = (refl, ((b, refl, h.0), refl, refl)) }, cpus_stand bs h.1)

caps_stand : (cs : List CapLine) → AllByRecursion IsCap cs → AllByRecursion (Stands 4 MAX_CAPS) (map cap_statement cs)
caps_stand [] h = tt
caps_stand (c ∷ cs) h = (record { place_is = refl; behind_is = refl; most_is = refl; fields = (refl, ((c.id, refl, h.0.id), refl, ((c.count, refl, h.0.count), refl, ((c.value, refl, h.0.value), refl, refl)))) }, caps_stand cs h.1)

action_stands : (l : Line) → IsAction l → Stands 5 MAX_ACTIONS (action_statement l)
action_stands (line.Call a b c d e f) h = record { place_is = refl; behind_is = refl; most_is = refl; fields = (refl, ((a, refl, h.0), refl, ((b, refl, h.1), refl, ((c, refl, h.2), refl, ((d, refl, h.3), refl, ((e, refl, h.4.some, h.4.few), refl, ((f, refl, h.4.held), refl, refl))))))) }
action_stands (line.Read a b c d) h = record { place_is = refl; behind_is = refl; most_is = refl; fields = (refl, ((a, refl, h.0), refl, ((b, refl, h.1), refl, ((c, refl, h.2.some, h.2.few), refl, ((d, refl, h.2.held), refl, refl))))) }
action_stands (line.Set a w c d) h = record { place_is = refl; behind_is = refl; most_is = refl; fields = (refl, ((a, refl, h.0), refl, ((w.cpu, refl, h.1), refl, ((w.min, refl, h.2), refl, ((w.desired, refl, h.3), refl, ((w.max, refl, h.4), refl, ((c, refl, h.5.some, h.5.few), refl, ((d, refl, h.5.held), refl, refl)))))))) }
action_stands (line.Wait n) h = record { place_is = refl; behind_is = refl; most_is = refl; fields = (refl, ((n, refl, h), refl, refl)) }

actions_stand : (ls : List Line) → AllByRecursion IsAction ls → AllByRecursion (Stands 5 MAX_ACTIONS) (map action_statement ls)
actions_stand [] h = tt
actions_stand (l ∷ ls) h = (action_stands l h.0, actions_stand ls h.1)

-- the table and the clock begin
head_right : (t : List ℕ) (a b : ℕ) → IsBytes t → IsU64 a → IsU64 b → InOrder [] (table_statement t ∷ clock_statement a b ∷ [])
head_right t a b h i j = (
  record { placed = omega arith; few = omega arith; fields = (refl, ((t, refl, h), refl, refl)) },
  (record { placed = omega arith; few = omega arith; fields = (refl, ((a, refl, i), refl, ((b, refl, j), refl, refl))) }, tt),
)

picks_right : (before : List Statement) (o : Option (List Letter)) → InOrder [] before → next_of before < 6
    → IfSome o (λ ls. (1 ≤ length ls) × (length ls ≤ MAX_LETTERS)) → InOrder [] (before ++ pick_statements o)
picks_right before None r n h = subst (InOrder []) (sym (append-nil before)) r
picks_right before (Some ls) r n h =
    let zero : count_at 6 before ≡ 0 = none_there 6 before n in
    let len : length (map letter_text ls) ≡ length ls = length-map ls letter_text in
    let few : length ls ≤ MAX_LETTERS = h.1 in
    order_append [] before (pick_statement ls ∷ []) r (record { placed = omega arith; few = omega arith; fields = (refl, ((ls, refl, h.0), refl, (omega arith, refl))) }, tt)

pub within_right : (s : Scenario) → IsWithin s → InOrder [] (statements_of s)
within_right s h =
    let head = table_statement s.table ∷ clock_statement s.start s.step ∷ [] in
    let o = map open_statement s.opens in let c = map cpu_statement s.cpus in let p = map cap_statement s.caps in let a = map action_statement s.actions in
    let stand = opens_stand s.opens h.opens in
    let many : length o ≤ MAX_OPENS = rw length-map h.few_opens in
    let zero : count_at 2 head ≡ 0 = refl in
    let two : next_of head ≡ 2 = refl in
    let all = next_append head o in
    let run = next_run 2 MAX_OPENS o stand in
    let o_right : InOrder [] (head ++ o) = order_append [] head o (head_right s.table s.start s.step h.table h.start h.step) (run_of 2 MAX_OPENS o head stand (omega arith) (omega arith)) in
    let r1 = more_run 3 MAX_CPUS (head ++ o) c o_right (omega arith) (cpus_stand s.cpus h.cpus) (rw length-map h.few_cpus) in
    let r2 = more_run 4 MAX_CAPS ((head ++ o) ++ c) p r1.0 (omega arith) (caps_stand s.caps h.caps) (rw length-map h.few_caps) in
    let r3 = more_run 5 MAX_ACTIONS (((head ++ o) ++ c) ++ p) a r2.0 (omega arith) (actions_stand s.actions h.actions) (rw length-map h.few_actions) in
    let r4 = picks_right ((((head ++ o) ++ c) ++ p) ++ a) s.picks r3.0 (omega arith) h.picks in
    let e : ((((head ++ o) ++ c) ++ p) ++ a) ++ pick_statements s.picks ≡ statements_of s = simp append_assoc in
    subst (InOrder []) e r4

pub within_is : (s : Scenario) → IsWithin s → IsScenario s
within_is s h =
    let e = count_append 2 (map open_statement s.opens) (behind_opens s.cpus s.caps s.actions s.picks) in
    let o = all_opens s.opens in
    let some : 1 ≤ length s.opens = h.some_opens in
    record { right = within_right s h; whole = (omega arith, omega arith, omega arith) }

-- ---- and nothing else has a text

number_in : (l : Limit) (a : ℕ) → IsOf (Whole l) (OfNumber a) → a ≤ most_of l
number_in l a h = let e : h.0 ≡ a = (let q : OfNumber a ≡ OfNumber h.0 = h.1 in cc) in subst (λ (n : ℕ). n ≤ most_of l) e h.2

budget_in : (a b : ℕ) → IsOf (Positive Polls) (OfNumber a) → IsOf (Whole Hold) (OfNumber b) → IsBudget a b
budget_in a b h g =
    let e : h.0 ≡ a = (let q : OfNumber a ≡ OfNumber h.0 = h.1 in cc) in
    record { some = subst (λ (n : ℕ). 1 ≤ n) e h.2; few = subst (λ (n : ℕ). n ≤ MAX_POLLS) e h.3; held = number_in Hold b g }

optional_in : (o : Option ℕ) → IsOf Optional (OfOptional o) → IfSome o IsU64
optional_in o h = let e : h.0 ≡ o = (let q : OfOptional o ≡ OfOptional h.0 = h.1 in cc) in subst (λ (v : Option ℕ). IfSome v IsU64) e h.2

bytes_in : (b : List ℕ) → IsOf HexBytes (OfBytes b) → IsBytes b
bytes_in b h = let e : h.0 ≡ b = (let q : OfBytes b ≡ OfBytes h.0 = h.1 in cc) in subst IsBytes e h.2

abbrev FieldsRight : Statement → Type 0
FieldsRight r = AllRight 1 (steps_of r.word (fields_of r)) (fields_of r) r.values

action_in : (l : Line) → FieldsRight (action_statement l) → IsAction l
action_in (line.Call a b c d e f) h = (number_in Worker a h.1.0, number_in Id b h.1.2.0, number_in Code c h.1.2.2.0, bytes_in d h.1.2.2.2.0, budget_in e f h.1.2.2.2.2.0 h.1.2.2.2.2.2.0)
action_in (line.Read a b c d) h = (number_in Worker a h.1.0, number_in Cpu b h.1.2.0, budget_in c d h.1.2.2.0 h.1.2.2.2.0)
action_in (line.Set a w c d) h = (number_in Worker a h.1.0, number_in Cpu w.cpu h.1.2.0, optional_in w.min h.1.2.2.0, number_in Any w.desired h.1.2.2.2.0, optional_in w.max h.1.2.2.2.2.0, budget_in c d h.1.2.2.2.2.2.0 h.1.2.2.2.2.2.2.0)
action_in (line.Wait n) h = number_in Any n h.1.0

open_in : (id : ℕ) (d : Device) → FieldsRight (open_statement (record { id = id; device = d })) → IsOpen (record { id = id; device = d })
open_in id Bank h = record { id = number_in Id id h.1.0; device = tt }
open_in id (Cppc image) h = record { id = number_in Id id h.1.0; device = bytes_in image h.1.2.2.1.0 }

-- of each line of a list, what its fields say
each_in : {A : Type 0} (f : A → Statement) (P : A → Type 0) → ((x : A) → FieldsRight (f x) → P x) → (xs : List A) (before : List Statement)
    → InOrder before (map f xs) → AllByRecursion P xs
each_in f P g [] before h = tt
each_in f P g (x ∷ xs) before h = (g x h.0.fields, each_in f P g xs (before ++ f x ∷ []) h.1)

picks_in : (before : List Statement) (o : Option (List Letter)) → InOrder before (pick_statements o)
    → IfSome o (λ ls. (1 ≤ length ls) × (length ls ≤ MAX_LETTERS))
picks_in before None h = tt
picks_in before (Some ls) h =
    let f = h.0.fields in
    let is : IsOf LetterText (OfLetters ls) = f.1.0 in
    let e : is.0 ≡ ls = (let q : OfLetters ls ≡ OfLetters is.0 = is.1 in cc) in
    let short : length (map letter_text ls) ≤ MAX_LETTERS = f.1.2.0 in
    let len : length (map letter_text ls) ≡ length ls = length-map ls letter_text in
    (subst (λ (v : List Letter). 1 ≤ length v) e is.2, omega arith)

pub is_within : (s : Scenario) → IsScenario s → IsWithin s
is_within s h =
    let head = table_statement s.table ∷ clock_statement s.start s.step ∷ [] in
    let o = map open_statement s.opens in let c = map cpu_statement s.cpus in let p = map cap_statement s.caps in let a = map action_statement s.actions in let k = pick_statements s.picks in
    let s1 = order_split [] head (o ++ (c ++ (p ++ (a ++ k)))) h.right in
    let s2 = order_split head o (c ++ (p ++ (a ++ k))) s1.1 in
    let s3 = order_split (head ++ o) c (p ++ (a ++ k)) s2.1 in
    let s4 = order_split ((head ++ o) ++ c) p (a ++ k) s3.1 in
    let s5 = order_split (((head ++ o) ++ c) ++ p) a k s4.1 in
    let opens = each_in open_statement IsOpen (λ (x : OpenLine). open_in x.id x.device) s.opens head s2.0 in
    let cpus = each_in cpu_statement IsBytes (λ (x : List ℕ) f. bytes_in x f.1.0) s.cpus (head ++ o) s3.0 in
    let caps = each_in cap_statement IsCap (λ (x : CapLine) f. record { id = number_in Id x.id f.1.0; count = number_in Any x.count f.1.2.0; value = number_in Any x.value f.1.2.2.0 }) s.caps ((head ++ o) ++ c) s4.0 in
    let actions = each_in action_statement IsAction action_in s.actions (((head ++ o) ++ c) ++ p) s5.0 in
    let os = opens_stand s.opens opens in let cs = cpus_stand s.cpus cpus in let ps = caps_stand s.caps caps in let as' = actions_stand s.actions actions in
    let n0 : next_of head ≡ 2 = refl in
    let n1 = next_append head o in let n2 = next_append (head ++ o) c in let n3 = next_append ((head ++ o) ++ c) p in
    let m1 = next_run 2 MAX_OPENS o os in let m2 = next_run 3 MAX_CPUS c cs in let m3 = next_run 4 MAX_CAPS p ps in
    let z0 : count_at 2 head ≡ 0 = refl in
    let z1 = none_there 3 (head ++ o) (omega arith) in let z2 = none_there 4 ((head ++ o) ++ c) (omega arith) in let z3 = none_there 5 (((head ++ o) ++ c) ++ p) (omega arith) in
    let l0 = run_len 2 MAX_OPENS o head os (omega arith) s2.0 in
    let l1 = run_len 3 MAX_CPUS c (head ++ o) cs (omega arith) s3.0 in
    let l2 = run_len 4 MAX_CAPS p ((head ++ o) ++ c) ps (omega arith) s4.0 in
    let l3 = run_len 5 MAX_ACTIONS a (((head ++ o) ++ c) ++ p) as' (omega arith) s5.0 in
    let e0 : length o ≡ length s.opens = length-map s.opens open_statement in
    let e1 : length c ≡ length s.cpus = length-map s.cpus cpu_statement in
    let e2 : length p ≡ length s.caps = length-map s.caps cap_statement in
    let e3 : length a ≡ length s.actions = length-map s.actions action_statement in
    let w : 1 ≤ 0 + (0 + count_at 2 (o ++ (c ++ (p ++ (a ++ k))))) = h.whole.2 in
    let w1 = count_append 2 o (behind_opens s.cpus s.caps s.actions s.picks) in
    let v = none_behind 2 s.cpus s.caps s.actions s.picks (omega arith) in
    let u = all_opens s.opens in
    record {
      table = bytes_in s.table s1.0.0.fields.1.0;
      start = number_in Any s.start s1.0.1.0.fields.1.0;
      step = number_in Any s.step s1.0.1.0.fields.1.2.0;
      opens = opens;
      some_opens = omega arith;
      few_opens = omega arith;
      cpus = cpus;
      few_cpus = omega arith;
      caps = caps;
      few_caps = omega arith;
      actions = actions;
      few_actions = omega arith;
      picks = picks_in ((((head ++ o) ++ c) ++ p) ++ a) s.picks s5.1;
    }
