-- A scenario is determined by its lines.
use Rattle.std.proofs.Common.{◌≡◌, ℕ, List, [], ◌∷◌, ◌++◌, map, refl, sym, ap, ◌∙◌}
use Rattle.std.specs.Prelude.{Option, Some, None}
use Rattle.std.specs.List.{filter_map}
use Rattle.std.proofs.lemmas.List.{append-nil}
use Rattle.std.proofs.lemmas.List.Elements.{filter_map-append}
use Rattle.pcc_script.specs.declared.word.Word.{Word}
use Rattle.pcc_script.specs.declared.word.Word.TheVariants as word
use Rattle.pcc_script.specs.declared.scenario.Device.{Device}
use Rattle.pcc_script.specs.declared.scenario.Device.TheVariants.{Bank, Cppc}
use Rattle.pcc_script.specs.declared.scenario.Line.{Line}
use Rattle.pcc_script.specs.declared.scenario.Line.TheVariants as line
use Rattle.pcc_script.specs.declared.scenario.OpenLine.{OpenLine}
use Rattle.pcc_script.specs.declared.scenario.CapLine.{CapLine}
use Rattle.pcc_script.specs.declared.scenario.Letter.{Letter}
use Rattle.pcc_script.specs.declared.scenario.Scenario.{Scenario}
use Rattle.pcc_script.specs.Rows.{Value, OfNumber, OfOptional, OfBytes, OfDevice, OfLetters, NamedBank, NamedCppc}
use Rattle.pcc_script.specs.Text.{Statement, table_statement, clock_statement, open_statement, cpu_statement, cap_statement, action_statement, pick_statement, pick_statements, statements_of}

abbrev open_at : Word → List Value → Option OpenLine
open_at word.Open (OfNumber id ∷ OfDevice NamedBank ∷ []) = Some (record { id = id; device = Bank })
open_at word.Open (OfNumber id ∷ OfDevice NamedCppc ∷ OfBytes image ∷ []) = Some (record { id = id; device = Cppc image })
open_at _ _ = None

abbrev cpu_at : Word → List Value → Option (List ℕ)
cpu_at word.Cpu (OfBytes bytes ∷ []) = Some bytes
cpu_at _ _ = None

abbrev cap_at : Word → List Value → Option CapLine
cap_at word.Cap (OfNumber id ∷ OfNumber count ∷ OfNumber value ∷ []) = Some (record { id = id; count = count; value = value })
cap_at _ _ = None

abbrev pick_at : Word → List Value → Option (List Letter)
pick_at word.Pick (OfLetters letters ∷ []) = Some letters
pick_at _ _ = None

abbrev action_at : Word → List Value → Option Line
action_at word.Call (OfNumber a ∷ OfNumber b ∷ OfNumber c ∷ OfBytes d ∷ OfNumber e ∷ OfNumber f ∷ []) = Some (line.Call a b c d e f)
action_at word.Read (OfNumber a ∷ OfNumber b ∷ OfNumber c ∷ OfNumber d ∷ []) = Some (line.Read a b c d)
action_at word.Set (OfNumber a ∷ OfNumber b ∷ OfOptional c ∷ OfNumber d ∷ OfOptional e ∷ OfNumber f ∷ OfNumber g ∷ []) = Some (line.Set a (record { cpu = b; min = c; desired = d; max = e }) f g)
action_at word.Wait (OfNumber n ∷ []) = Some (line.Wait n)
action_at _ _ = None

device_keeps : (id : ℕ) (d : Device) → open_at word.Open (open_statement (record { id = id; device = d })).values ≡ Some (record { id = id; device = d })
device_keeps id Bank = refl
device_keeps id (Cppc image) = refl

open_keeps : (o : OpenLine) → open_at (open_statement o).word (open_statement o).values ≡ Some o
open_keeps o = device_keeps o.id o.device

action_keeps : (l : Line) → action_at (action_statement l).word (action_statement l).values ≡ Some l
action_keeps (line.Call a b c d e f) = refl
action_keeps (line.Read a b c d) = refl
action_keeps (line.Set a b c d) = refl
action_keeps (line.Wait a) = refl

kept : {X : Type 0} (f : X → Statement) (h : Statement → Option X) → ((x : X) → h (f x) ≡ Some x) → (xs : List X) → filter_map h (map f xs) ≡ xs
kept f h e [] = refl
kept f h e (x ∷ xs) = rw (e x, kept f h e xs) refl

none : {X Y : Type 0} (f : X → Statement) (h : Statement → Option Y) → ((x : X) → h (f x) ≡ None) → (xs : List X) → filter_map h (map f xs) ≡ []
none f h e [] = refl
none f h e (x ∷ xs) = rw (e x) (none f h e xs)

five : {Y : Type 0} (h : Statement → Option Y) (o c p a k : List Statement)
    → filter_map h (o ++ (c ++ (p ++ (a ++ k)))) ≡ filter_map h o ++ (filter_map h c ++ (filter_map h p ++ (filter_map h a ++ filter_map h k)))
five h o c p a k = rw (filter_map-append h o (c ++ (p ++ (a ++ k))), filter_map-append h c (p ++ (a ++ k)), filter_map-append h p (a ++ k), filter_map-append h a k) refl

abbrev open_of : Statement → Option OpenLine
open_of r = open_at r.word r.values

abbrev cpu_of : Statement → Option (List ℕ)
cpu_of r = cpu_at r.word r.values

abbrev cap_of : Statement → Option CapLine
cap_of r = cap_at r.word r.values

abbrev action_of : Statement → Option Line
action_of r = action_at r.word r.values

abbrev pick_of : Statement → Option (List Letter)
pick_of r = pick_at r.word r.values

abbrev rest_of : Scenario → List Statement
rest_of s = map open_statement s.opens ++ (map cpu_statement s.cpus ++ (map cap_statement s.caps ++ (map action_statement s.actions ++ pick_statements s.picks)))

no_picks : {Y : Type 0} (h : Statement → Option Y) → ((ls : List Letter) → h (pick_statement ls) ≡ None) → (o : Option (List Letter))
    → filter_map h (pick_statements o) ≡ []
no_picks h e None = refl
no_picks h e (Some ls) = rw (e ls) refl

abbrev as_list : {X : Type 0} → Option X → List X
as_list None = []
as_list (Some x) = x ∷ []

picks_kept : (o : Option (List Letter)) → filter_map pick_of (pick_statements o) ≡ as_list o
picks_kept None = refl
picks_kept (Some ls) = refl

same_option : {X : Type 0} (a b : Option X) → as_list a ≡ as_list b → a ≡ b
same_option None None e = refl
same_option None (Some y) e = cc
same_option (Some x) None e = cc
same_option (Some x) (Some y) e = cc

action_none : {Y : Type 0} (h : Word → List Value → Option Y)
    → ((vs : List Value) → (h word.Call vs ≡ None) × (h word.Read vs ≡ None) × (h word.Set vs ≡ None) × (h word.Wait vs ≡ None)) → (l : Line)
    → h (action_statement l).word (action_statement l).values ≡ None
action_none h e (line.Call a b c d f g) = (e _).0
action_none h e (line.Read a b c d) = (e _).1
action_none h e (line.Set a b c d) = (e _).2
action_none h e (line.Wait a) = (e _).3

opens_of : (s : Scenario) → filter_map open_of (rest_of s) ≡ s.opens
opens_of s =
    rw (
      five open_of (map open_statement s.opens) (map cpu_statement s.cpus) (map cap_statement s.caps) (map action_statement s.actions) (pick_statements s.picks),
      kept open_statement open_of open_keeps s.opens,
      none cpu_statement open_of (λ x. refl) s.cpus,
      none cap_statement open_of (λ x. refl) s.caps,
      none action_statement open_of (action_none open_at (λ vs. (refl, refl, refl, refl))) s.actions,
      no_picks open_of (λ ls. refl) s.picks,
    ) (append-nil s.opens)

open_no_cpu : (o : OpenLine) → cpu_of (open_statement o) ≡ None
open_no_cpu o = refl

cpus_of : (s : Scenario) → filter_map cpu_of (rest_of s) ≡ s.cpus
cpus_of s =
    rw (
      five cpu_of (map open_statement s.opens) (map cpu_statement s.cpus) (map cap_statement s.caps) (map action_statement s.actions) (pick_statements s.picks),
      none open_statement cpu_of (λ x. refl) s.opens,
      kept cpu_statement cpu_of (λ x. refl) s.cpus,
      none cap_statement cpu_of (λ x. refl) s.caps,
      none action_statement cpu_of (action_none cpu_at (λ vs. (refl, refl, refl, refl))) s.actions,
      no_picks cpu_of (λ ls. refl) s.picks,
    ) (append-nil s.cpus)

caps_of : (s : Scenario) → filter_map cap_of (rest_of s) ≡ s.caps
caps_of s =
    rw (
      five cap_of (map open_statement s.opens) (map cpu_statement s.cpus) (map cap_statement s.caps) (map action_statement s.actions) (pick_statements s.picks),
      none open_statement cap_of (λ x. refl) s.opens,
      none cpu_statement cap_of (λ x. refl) s.cpus,
      kept cap_statement cap_of (λ x. refl) s.caps,
      none action_statement cap_of (action_none cap_at (λ vs. (refl, refl, refl, refl))) s.actions,
      no_picks cap_of (λ ls. refl) s.picks,
    ) (append-nil s.caps)

actions_of : (s : Scenario) → filter_map action_of (rest_of s) ≡ s.actions
actions_of s =
    rw (
      five action_of (map open_statement s.opens) (map cpu_statement s.cpus) (map cap_statement s.caps) (map action_statement s.actions) (pick_statements s.picks),
      none open_statement action_of (λ x. refl) s.opens,
      none cpu_statement action_of (λ x. refl) s.cpus,
      none cap_statement action_of (λ x. refl) s.caps,
      kept action_statement action_of action_keeps s.actions,
      no_picks action_of (λ ls. refl) s.picks,
    ) (append-nil s.actions)

picks_of : (s : Scenario) → filter_map pick_of (rest_of s) ≡ as_list s.picks
picks_of s =
    rw (
      five pick_of (map open_statement s.opens) (map cpu_statement s.cpus) (map cap_statement s.caps) (map action_statement s.actions) (pick_statements s.picks),
      none open_statement pick_of (λ x. refl) s.opens,
      none cpu_statement pick_of (λ x. refl) s.cpus,
      none cap_statement pick_of (λ x. refl) s.caps,
      none action_statement pick_of (action_none pick_at (λ vs. (refl, refl, refl, refl))) s.actions,
      picks_kept s.picks,
    ) refl

-- a scenario from its fields
abbrev made : List ℕ → ℕ → ℕ → List OpenLine → List (List ℕ) → List CapLine → List Line → Option (List Letter) → Scenario
made t a b o c p l k = record { table = t; start = a; step = b; opens = o; cpus = c; caps = p; actions = l; picks = k }

-- a scenario is determined by its lines
pub same_scenario : (s t : Scenario) → statements_of s ≡ statements_of t → s ≡ t
same_scenario s t e =
    let rest : rest_of s ≡ rest_of t = cc in
    let first : table_statement s.table ≡ table_statement t.table = cc in
    let second : clock_statement s.start s.step ≡ clock_statement t.start t.step = cc in
    let first_values : OfBytes s.table ∷ [] ≡ OfBytes t.table ∷ [] = ap (λ (r : Statement). r.values) first in
    let second_values : OfNumber s.start ∷ OfNumber s.step ∷ [] ≡ OfNumber t.start ∷ OfNumber t.step ∷ [] = ap (λ (r : Statement). r.values) second in
    let table : s.table ≡ t.table = cc in
    let start : s.start ≡ t.start = cc in
    let step : s.step ≡ t.step = cc in
    let opens : s.opens ≡ t.opens = sym (opens_of s) ∙ ap (filter_map open_of) rest ∙ opens_of t in
    let cpus : s.cpus ≡ t.cpus = sym (cpus_of s) ∙ ap (filter_map cpu_of) rest ∙ cpus_of t in
    let caps : s.caps ≡ t.caps = sym (caps_of s) ∙ ap (filter_map cap_of) rest ∙ caps_of t in
    let actions : s.actions ≡ t.actions = sym (actions_of s) ∙ ap (filter_map action_of) rest ∙ actions_of t in
    let picks : s.picks ≡ t.picks = same_option s.picks t.picks (sym (picks_of s) ∙ ap (filter_map pick_of) rest ∙ picks_of t) in
    let all : made s.table s.start s.step s.opens s.cpus s.caps s.actions s.picks ≡ made t.table t.start t.step t.opens t.cpus t.caps t.actions t.picks = cc in
    all
