-- Lines of one place that stand in a row.
use Rattle.std.proofs.Common.{◌≡◌, ℕ, ◌+◌, ◌<◌, ◌≤◌, eqb, max, cond, List, [], ◌∷◌, ◌++◌, length, sym, ap, subst, arith}
use Rattle.std.specs.List.{AllByRecursion}
use Rattle.std.proofs.lemmas.List.{append_assoc, append-nil}
use Rattle.pcc_script.specs.Rows.{behind, most, place, steps_of}
use Rattle.pcc_script.specs.Text.{AllRight, count_at, fields_of, InOrder, next_of, Statement}
use Rattle.pcc_script.proofs.Counting.{count_push, next_append, next_push, none_there, one_here}

pub order_append : (before a b : List Statement) → InOrder before a → InOrder (before ++ a) b → InOrder before (a ++ b)
order_append before [] b h g = subst (λ (rs : List Statement). InOrder rs b) (append-nil before) g
order_append before (r ∷ a) b h g = (h.0, order_append (before ++ r ∷ []) a b h.1 (subst (λ (rs : List Statement). InOrder rs b) (sym (append_assoc before (r ∷ []) a)) g))

-- a line of a place that may stand more than once
pub record Stands (p m : ℕ) (r : Statement) : Type 0 where
  pub place_is : place r.word ≡ p
  pub behind_is : behind r.word ≡ p
  pub most_is : most r.word ≡ m
  pub fields : AllRight 1 (steps_of r.word (fields_of r)) (fields_of r) r.values

-- lines of one place, where those before leave room
pub run_of : (p m : ℕ) (rs before : List Statement) → AllByRecursion (Stands p m) rs → next_of before ≤ p → count_at p before + length rs ≤ m
    → InOrder before rs
run_of p m [] before h n c = tt
run_of p m (r ∷ rs) before h n c =
    let at_p : place r.word ≡ p = h.0.place_is in
    let behind_p : behind r.word ≡ p = h.0.behind_is in
    let most_m : most r.word ≡ m = h.0.most_is in
    let next : next_of (before ++ r ∷ []) ≡ max (next_of before) (behind r.word) = next_push before r in
    let count : count_at p (before ++ r ∷ []) ≡ count_at p before + cond {A = ℕ} (eqb (place r.word) p) 1 0 = count_push p before r in
    let one : cond {A = ℕ} (eqb (place r.word) p) 1 0 ≡ 1 = one_here (place r.word) p at_p in
    let here : count_at (place r.word) before ≡ count_at p before = ap (λ (q : ℕ). count_at q before) at_p in
    (record { placed = omega arith; few = omega arith; fields = h.0.fields }, run_of p m rs (before ++ r ∷ []) h.1 (omega arith) (omega arith))

pub next_run : (p m : ℕ) (rs : List Statement) → AllByRecursion (Stands p m) rs → next_of rs ≤ p
next_run p m [] h = omega arith
next_run p m (r ∷ rs) h = let e = next_run p m rs h.1 in let b : behind r.word ≡ p = h.0.behind_is in omega arith

-- one more run, behind lines of lower places
pub more_run : (p m : ℕ) (before rs : List Statement) → InOrder [] before → next_of before < p → AllByRecursion (Stands p m) rs → length rs ≤ m
    → InOrder [] (before ++ rs) × (next_of (before ++ rs) ≤ p)
more_run p m before rs o n h l =
    let zero : count_at p before ≡ 0 = none_there p before n in
    let e = next_append before rs in
    let r = next_run p m rs h in
    (order_append [] before rs o (run_of p m rs before h (omega arith) (omega arith)), omega arith)

-- ---- what is in order

pub order_split : (before a b : List Statement) → InOrder before (a ++ b) → InOrder before a × InOrder (before ++ a) b
order_split before [] b h = (tt, subst (λ (rs : List Statement). InOrder rs b) (sym (append-nil before)) h)
order_split before (r ∷ a) b h =
    let p = order_split (before ++ r ∷ []) a b h.1 in
    ((h.0, p.0), subst (λ (rs : List Statement). InOrder rs b) (append_assoc before (r ∷ []) a) p.1)

-- the lines of a place are no more than it allows
pub run_len : (p m : ℕ) (rs before : List Statement) → AllByRecursion (Stands p m) rs → count_at p before ≤ m → InOrder before rs
    → count_at p before + length rs ≤ m
run_len p m [] before h n o = omega arith
run_len p m (r ∷ rs) before h n o =
    let at_p : place r.word ≡ p = h.0.place_is in
    let most_m : most r.word ≡ m = h.0.most_is in
    let few : count_at (place r.word) before < most r.word = o.0.few in
    let here : count_at (place r.word) before ≡ count_at p before = ap (λ (q : ℕ). count_at q before) at_p in
    let count : count_at p (before ++ r ∷ []) ≡ count_at p before + cond {A = ℕ} (eqb (place r.word) p) 1 0 = count_push p before r in
    let one : cond {A = ℕ} (eqb (place r.word) p) 1 0 ≡ 1 = one_here (place r.word) p at_p in
    let more = run_len p m rs (before ++ r ∷ []) h.1 (omega arith) o.1 in
    omega arith
