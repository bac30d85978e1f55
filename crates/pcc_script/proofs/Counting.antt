-- How many lines stand at a place, and the least place behind lines.
use Rattle.std.proofs.Common.{◌≡◌, ℕ, ◌+◌, ◌<◌, ◌≤◌, eqb, max, cond, List, [], ◌∷◌, ◌++◌, length, map, refl, arith}
use Rattle.std.specs.Prelude.{Option, Some, None}
use Rattle.std.proofs.lemmas.Bool.Decides.{nat_tests}
use Rattle.pcc_script.specs.declared.scenario.CapLine.{CapLine}
use Rattle.pcc_script.specs.declared.scenario.Letter.{Letter}
use Rattle.pcc_script.specs.declared.scenario.Line.{Line}
use Rattle.pcc_script.specs.declared.scenario.Line.TheVariants as line
use Rattle.pcc_script.specs.declared.scenario.OpenLine.{OpenLine}
use Rattle.pcc_script.specs.declared.word.Word.{Word}
use Rattle.pcc_script.specs.declared.word.Word.TheVariants as word
use Rattle.pcc_script.specs.Rows.{behind, place}
use Rattle.pcc_script.specs.Text.{action_statement, cap_statement, count_at, cpu_statement, next_of, open_statement, pick_statements, Statement}

pub place_behind : (w : Word) → place w ≤ behind w
place_behind word.Table = omega arith
place_behind word.Clock = omega arith
place_behind word.Open = omega arith
place_behind word.Cpu = omega arith
place_behind word.Cap = omega arith
place_behind word.Call = omega arith
place_behind word.Read = omega arith
place_behind word.Set = omega arith
place_behind word.Wait = omega arith
place_behind word.Pick = omega arith

pub next_append : (a b : List Statement) → next_of (a ++ b) ≡ max (next_of a) (next_of b)
next_append [] b = omega arith
next_append (x ∷ xs) b = let e = next_append xs b in omega arith

pub next_push : (rs : List Statement) (r : Statement) → next_of (rs ++ r ∷ []) ≡ max (next_of rs) (behind r.word)
next_push rs r = let e = next_append rs (r ∷ []) in omega arith

pub count_append : (p : ℕ) (a b : List Statement) → count_at p (a ++ b) ≡ count_at p a + count_at p b
count_append p [] b = omega arith
count_append p (x ∷ xs) b = let e = count_append p xs b in omega arith

pub count_push : (p : ℕ) (rs : List Statement) (r : Statement) → count_at p (rs ++ r ∷ []) ≡ count_at p rs + cond (eqb (place r.word) p) 1 0
count_push p rs r = let e = count_append p rs (r ∷ []) in omega arith

pub one_here : (a p : ℕ) → a ≡ p → cond {A = ℕ} (eqb a p) 1 0 ≡ 1
one_here a p e = grind (arith, nat_tests)

pub none_below : (p a : ℕ) → a < p → cond {A = ℕ} (eqb a p) 1 0 ≡ 0
none_below p a h = grind (arith, nat_tests)

none_above : (p a : ℕ) → p < a → cond {A = ℕ} (eqb a p) 1 0 ≡ 0
none_above p a h = grind (arith, nat_tests)

-- lines stand before the least place behind them
pub none_there : (p : ℕ) (rs : List Statement) → next_of rs < p → count_at p rs ≡ 0
none_there p [] h = refl
none_there p (r ∷ rs) h =
    let e : count_at p rs ≡ 0 = none_there p rs (omega arith) in
    let b : place r.word ≤ behind r.word = place_behind r.word in
    let z : cond {A = ℕ} (eqb (place r.word) p) 1 0 ≡ 0 = none_below p (place r.word) (omega arith) in
    omega arith

-- ---- the lines of a scenario

-- lines of one place are none of an earlier place
none_of : {A : Type 0} (f : A → Statement) (p q : ℕ) → p < q → ((x : A) → place (f x).word ≡ q) → (xs : List A) → count_at p (map f xs) ≡ 0
none_of f p q lt h [] = refl
none_of f p q lt h (x ∷ xs) =
    let at : place (f x).word ≡ q = h x in
    let z : cond {A = ℕ} (eqb (place (f x).word) p) 1 0 ≡ 0 = none_above p (place (f x).word) (omega arith) in
    let e = none_of f p q lt h xs in
    omega arith

pub action_place : (l : Line) → place (action_statement l).word ≡ place word.Call
action_place (line.Call a b c d e f) = refl
action_place (line.Read a b c d) = refl
action_place (line.Set a b c d) = refl
action_place (line.Wait a) = refl

none_picks : (p : ℕ) (o : Option (List Letter)) → p < 6 → count_at p (pick_statements o) ≡ 0
none_picks p None lt = refl
none_picks p (Some ls) lt = rw (none_above p 6 lt) refl

pub none_opens : (p : ℕ) (os : List OpenLine) → p < 2 → count_at p (map open_statement os) ≡ 0
none_opens p os lt = none_of open_statement p 2 lt (λ x. refl) os

pub all_opens : (os : List OpenLine) → count_at 2 (map open_statement os) ≡ length os
all_opens [] = refl
all_opens (o ∷ os) = let e = all_opens os in omega arith

-- what stands behind the `open` lines
abbrev pub behind_opens : List (List ℕ) → List CapLine → List Line → Option (List Letter) → List Statement
behind_opens cpus caps actions picks = map cpu_statement cpus ++ (map cap_statement caps ++ (map action_statement actions ++ pick_statements picks))

pub none_behind : (p : ℕ) (cpus : List (List ℕ)) (caps : List CapLine) (actions : List Line) (picks : Option (List Letter)) → p < 3
    → count_at p (behind_opens cpus caps actions picks) ≡ 0
none_behind p cpus caps actions picks h =
    rw (
      count_append p (map cpu_statement cpus) (map cap_statement caps ++ (map action_statement actions ++ pick_statements picks)),
      count_append p (map cap_statement caps) (map action_statement actions ++ pick_statements picks),
      count_append p (map action_statement actions) (pick_statements picks),
      none_of cpu_statement p 3 h (λ x. refl) cpus,
      none_of cap_statement p 4 (omega arith) (λ x. refl) caps,
      none_of action_statement p 5 (omega arith) action_place actions,
      none_picks p picks (omega arith),
    ) refl
