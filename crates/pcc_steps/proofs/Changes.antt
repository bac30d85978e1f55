-- The words of a block that changed: where the next one is, and which stores a run has left.
use Rattle.std.specs.Prelude.{◌==◌, if◌then◌else◌}
use Rattle.std.proofs.Common.{◌≡◌, ◌≢◌, ℕ, zero, suc, ◌+◌, ◌<◌, ◌≤◌, Bool, true, false, ltb, List, [], ◌∷◌, length, get_or, drop, refl, sym, ap, ◌∙◌, arith, length-drop}
use Rattle.std.proofs.lemmas.Bool.{lt-ltb, le-ltb}
use borrow.Author.Tests.{ltb-true, ltb-false, eqb-true, eqb-false}
use Rattle.pcc_steps.specs.Runs.{Run, stores, store_changed}
use Rattle.pcc_steps.specs.Agree.{mix}
use Rattle.pcc_steps.specs.Changes.{first_changed, next_changed, changes, changes_from}
use Rattle.pcc_steps.proofs.Lists.{none_left, dropped}

-- a choice is told from both of its cases
pub chosen : {A : Type 0} (b : Bool) (x y z : A) → (b ≡ true → x ≡ z) → (b ≡ false → y ≡ z) → (if b then x else y) ≡ z
chosen true x y z f g = f refl
chosen false x y z f g = g refl

-- ---- words from a later place on

later : (b : Bool) (d j x y : ℕ) → x ≡ d + y → (if b then x else d + j) ≡ d + (if b then y else j)
later true d j x y e = e
later false d j x y e = refl

first_later : (d j : ℕ) (ws os : List ℕ) → first_changed (d + j) ws os ≡ d + first_changed j ws os
first_later d j [] os = refl
first_later d j (w ∷ ws) [] = refl
first_later d j (w ∷ ws) (o ∷ os) = later (w == o) d j (first_changed (d + j + 1) ws os) (first_changed (j + 1) ws os)
    (ap (λ (n : ℕ). first_changed n ws os) (let e : d + j + 1 ≡ d + (j + 1) = omega arith in e) ∙ first_later d (j + 1) ws os)

first_suc : (j : ℕ) (ws os : List ℕ) → first_changed (suc j) ws os ≡ suc (first_changed j ws os)
first_suc j ws os = ap (λ (n : ℕ). first_changed n ws os) (let e : suc j ≡ 1 + j = omega arith in e) ∙ first_later 1 j ws os ∙ (let e : 1 + first_changed j ws os ≡ suc (first_changed j ws os) = omega arith in e)

next_suc : (j x y : ℕ) (xs ys : List ℕ) → next_changed (suc j) (x ∷ xs) (y ∷ ys) ≡ suc (next_changed j xs ys)
next_suc j x y xs ys = first_suc j (drop j xs) (drop j ys)

next_suc_more : (j x y : ℕ) (xs ys : List ℕ) → next_changed (suc j + 1) (x ∷ xs) (y ∷ ys) ≡ suc (next_changed (j + 1) xs ys)
next_suc_more j x y xs ys = ap (λ (n : ℕ). next_changed n (x ∷ xs) (y ∷ ys)) (let e : suc j + 1 ≡ suc (j + 1) = omega arith in e) ∙ next_suc (j + 1) x y xs ys

-- ---- the next place, by the word that stands there

pub next_same : (j : ℕ) (new old : List ℕ) → j < length new → length new ≡ length old → get_or new j 0 ≡ get_or old j 0
    → next_changed j new old ≡ next_changed (j + 1) new old
next_same j [] old h e same = absurd (omega arith)
next_same j (x ∷ xs) [] h e same = absurd (omega arith)
next_same zero (x ∷ xs) (y ∷ ys) h e same = chosen (x == y) (first_changed 1 xs ys) 0 (first_changed 1 xs ys) (λ q. refl) (λ q. absurd (eqb-false x y q same))
next_same (suc j) (x ∷ xs) (y ∷ ys) h e same = next_suc j x y xs ys ∙ ap (λ (n : ℕ). suc n) (next_same j xs ys (omega arith) (omega arith) same) ∙ sym (next_suc_more j x y xs ys)

pub next_other : (j : ℕ) (new old : List ℕ) → j < length new → length new ≡ length old → get_or new j 0 ≢ get_or old j 0 → next_changed j new old ≡ j
next_other j [] old h e other = absurd (omega arith)
next_other j (x ∷ xs) [] h e other = absurd (omega arith)
next_other zero (x ∷ xs) (y ∷ ys) h e other = chosen (x == y) (first_changed 1 xs ys) 0 0 (λ q. absurd (other (eqb-true x y q))) (λ q. refl)
next_other (suc j) (x ∷ xs) (y ∷ ys) h e other = next_suc j x y xs ys ∙ ap (λ (n : ℕ). suc n) (next_other j xs ys (omega arith) (omega arith) other)

pub next_none : (j : ℕ) (new old : List ℕ) → length new ≤ j → next_changed j new old ≡ j
next_none j new old h = ap (λ (l : List ℕ). first_changed j l (drop j old)) (none_left j new h)

-- ---- how many words changed, by the word that stands there

there : (j : ℕ) (new old : List ℕ) → j < length new → length new ≡ length old
    → changes_from j new old ≡ (let n = changes_from (j + 1) new old in if get_or new j 0 == get_or old j 0 then n else n + 1)
there j new old h e = let p = dropped j new h in let q = dropped j old (omega arith) in λ i. changes (p i) (q i)

pub changes_same : (j : ℕ) (new old : List ℕ) → j < length new → length new ≡ length old → get_or new j 0 ≡ get_or old j 0
    → changes_from j new old ≡ changes_from (j + 1) new old
changes_same j new old h e same = let n : ℕ = changes_from (j + 1) new old in there j new old h e
    ∙ chosen (get_or new j 0 == get_or old j 0) n (n + 1) n (λ q. refl) (λ q. absurd (eqb-false (get_or new j 0) (get_or old j 0) q same))

pub changes_other : (j : ℕ) (new old : List ℕ) → j < length new → length new ≡ length old → get_or new j 0 ≢ get_or old j 0
    → changes_from j new old ≡ changes_from (j + 1) new old + 1
changes_other j new old h e other = let n : ℕ = changes_from (j + 1) new old in there j new old h e
    ∙ chosen (get_or new j 0 == get_or old j 0) n (n + 1) (n + 1) (λ q. absurd (other (eqb-true (get_or new j 0) (get_or old j 0) q))) (λ q. refl)

pub changes_none : (j : ℕ) (new old : List ℕ) → length new ≤ j → changes_from j new old ≡ 0
changes_none j new old h = ap (λ (l : List ℕ). changes l (drop j old)) (none_left j new h)

-- ---- where it can be

within : (b : Bool) (j x n : ℕ) → j ≤ n → x ≤ n → (if b then x else j) ≤ n
within true j x n h k = k
within false j x n h k = h

first_to : (j : ℕ) (ws os : List ℕ) → first_changed j ws os ≤ j + length ws
first_to j [] os = omega arith
first_to j (w ∷ ws) [] = omega arith
first_to j (w ∷ ws) (o ∷ os) = let h = first_to (j + 1) ws os in within (w == o) j (first_changed (j + 1) ws os) (j + length (w ∷ ws)) (omega arith) (omega (arith, h))

pub next_to : (j : ℕ) (new old : List ℕ) → j ≤ length new → next_changed j new old ≤ length new
next_to j new old h = let a = first_to j (drop j new) (drop j old) in let b = length-drop j new in omega (arith, a, b, h)

from_on : (b : Bool) (j x : ℕ) → j ≤ x → j ≤ (if b then x else j)
from_on true j x h = h
from_on false j x h = omega arith

first_from : (j : ℕ) (ws os : List ℕ) → j ≤ first_changed j ws os
first_from j [] os = omega arith
first_from j (w ∷ ws) [] = omega arith
first_from j (w ∷ ws) (o ∷ os) = let h = first_from (j + 1) ws os in from_on (w == o) j (first_changed (j + 1) ws os) (omega (arith, h))

pub next_from : (j : ℕ) (new old : List ℕ) → j ≤ next_changed j new old
next_from j new old = first_from j (drop j new) (drop j old)

-- where no word changed, the next place is after the block
pub next_end : (j : ℕ) (new old : List ℕ) → j ≤ length new → ltb (next_changed j new old) (length new) ≡ false → next_changed j new old ≡ length new
next_end j new old h e = let a = next_to j new old h in let b = ltb-false (next_changed j new old) (length new) e in omega (arith, a, b)

-- ---- the words that are passed over are those of the block already

passed : (b : Bool) (x y : ℕ) (xs ys : List ℕ) → (x == y) ≡ b → (let n = first_changed 0 xs ys in mix n xs ys ≡ ys)
    → mix (if b then first_changed 1 xs ys else 0) (x ∷ xs) (y ∷ ys) ≡ y ∷ ys
passed true x y xs ys e h = ap (λ (n : ℕ). mix n (x ∷ xs) (y ∷ ys)) (first_suc 0 xs ys) ∙ (λ i. eqb-true x y e i ∷ h i)
passed false x y xs ys e h = refl

mix_first : (new old : List ℕ) → length new ≡ length old → mix (first_changed 0 new old) new old ≡ old
mix_first [] [] e = refl
mix_first [] (y ∷ ys) e = absurd (omega arith)
mix_first (x ∷ xs) [] e = absurd (omega arith)
mix_first (x ∷ xs) (y ∷ ys) e = passed (x == y) x y xs ys refl (mix_first xs ys (omega arith))

pub mix_next : (j : ℕ) (new old : List ℕ) → length new ≡ length old → mix (next_changed j new old) new old ≡ mix j new old
mix_next zero new old e = mix_first new old e
mix_next (suc j) [] [] e = refl
mix_next (suc j) [] (y ∷ ys) e = absurd (omega arith)
mix_next (suc j) (x ∷ xs) [] e = absurd (omega arith)
mix_next (suc j) (x ∷ xs) (y ∷ ys) e = ap (λ (n : ℕ). mix n (x ∷ xs) (y ∷ ys)) (next_suc j x y xs ys) ∙ ap (λ (l : List ℕ). x ∷ l) (mix_next j xs ys (omega arith))

-- ---- the stores of a run

-- a run at its next store, or past the last one
abbrev pub Storing : {E : Type 0} → Bool → ℕ → ℕ → List ℕ → List ℕ → Run E → Run E
Storing true p n new old k = stores (p + n) (get_or new n 0) (store_changed (p + n + 1) (drop (n + 1) new) (drop (n + 1) old) k)
Storing false p n new old k = k

storing_suc : {E : Type 0} (b : Bool) (p n x y : ℕ) (xs ys : List ℕ) (k : Run E) → Storing b (p + 1) n xs ys k ≡ Storing b p (suc n) (x ∷ xs) (y ∷ ys) k
storing_suc true p n x y xs ys k = let e : p + 1 + n ≡ p + suc n = omega arith in let f : suc (n + 1) ≡ suc n + 1 = omega arith in
    λ i. stores (e i) (get_or xs n 0) (store_changed (e i + 1) (drop (f i) (x ∷ xs)) (drop (f i) (y ∷ ys)) k)
storing_suc false p n x y xs ys k = refl

stored_head : {E : Type 0} (p x : ℕ) (xs ys : List ℕ) (k : Run E) → stores p x (store_changed (p + 1) xs ys k) ≡ stores (p + 0) x (store_changed (p + 0 + 1) xs ys k)
stored_head p x xs ys k = ap (λ (q : ℕ). stores q x (store_changed (q + 1) xs ys k)) (let e : p ≡ p + 0 = omega arith in e)

ltb_suc : (b : Bool) (m n : ℕ) → ltb (suc m) (suc n) ≡ b → ltb m n ≡ b
ltb_suc true m n e = let h = ltb-true (suc m) (suc n) e in lt-ltb m n (omega (arith, h))
ltb_suc false m n e = let h = ltb-false (suc m) (suc n) e in le-ltb m n (omega (arith, h))

stored_on : {E : Type 0} (b c : Bool) (p x y : ℕ) (xs ys : List ℕ) (k : Run E) → ltb (if c then first_changed 1 xs ys else 0) (length (x ∷ xs)) ≡ b
    → (ltb (first_changed 0 xs ys) (length xs) ≡ b → store_changed (p + 1) xs ys k ≡ Storing b (p + 1) (first_changed 0 xs ys) xs ys k)
    → (if c then store_changed (p + 1) xs ys k else stores p x (store_changed (p + 1) xs ys k)) ≡ Storing b p (if c then first_changed 1 xs ys else 0) (x ∷ xs) (y ∷ ys) k
stored_on b true p x y xs ys k e h = h (ltb_suc b (first_changed 0 xs ys) (length xs) (sym (ap (λ (n : ℕ). ltb n (length (x ∷ xs))) (first_suc 0 xs ys)) ∙ e)) ∙ storing_suc b p (first_changed 0 xs ys) x y xs ys k
    ∙ ap (λ (n : ℕ). Storing b p n (x ∷ xs) (y ∷ ys) k) (sym (first_suc 0 xs ys))
stored_on true false p x y xs ys k e h = stored_head p x xs ys k
stored_on false false p x y xs ys k e h = let l = ltb-false 0 (length (x ∷ xs)) e in absurd (omega (arith, l))

pub first_stored : {E : Type 0} (b : Bool) (p : ℕ) (new old : List ℕ) (k : Run E) → ltb (first_changed 0 new old) (length new) ≡ b
    → store_changed p new old k ≡ Storing b p (first_changed 0 new old) new old k
first_stored true p [] old k e = absurd (cc e)
first_stored false p [] old k e = refl
first_stored true p (x ∷ xs) [] k e = stored_head p x xs [] k
first_stored false p (x ∷ xs) [] k e = let l = ltb-false 0 (length (x ∷ xs)) e in absurd (omega (arith, l))
first_stored b p (x ∷ xs) (y ∷ ys) k e = stored_on b (x == y) p x y xs ys k e (first_stored b (p + 1) xs ys k)

drop_nil : (j : ℕ) → let none : List ℕ = [] in drop j none ≡ none
drop_nil j = none_left j [] (omega arith)

next_suc_nil : (j x : ℕ) (xs : List ℕ) → next_changed (suc j) (x ∷ xs) [] ≡ suc (next_changed j xs [])
next_suc_nil j x xs = first_suc j (drop j xs) [] ∙ ap (λ (l : List ℕ). suc (first_changed j (drop j xs) l)) (sym (drop_nil j))

storing_suc_nil : {E : Type 0} (b : Bool) (p n x : ℕ) (xs : List ℕ) (k : Run E) → Storing b (p + 1) n xs [] k ≡ Storing b p (suc n) (x ∷ xs) [] k
storing_suc_nil true p n x xs k = let e : p + 1 + n ≡ p + suc n = omega arith in let f : suc (n + 1) ≡ suc n + 1 = omega arith in let none : List ℕ = [] in let g : drop (n + 1) none ≡ drop (suc n + 1) none = drop_nil (n + 1) ∙ sym (drop_nil (suc n + 1)) in
    λ i. stores (e i) (get_or xs n 0) (store_changed (e i + 1) (drop (f i) (x ∷ xs)) (g i) k)
storing_suc_nil false p n x xs k = refl

pub next_stored : {E : Type 0} (b : Bool) (p j : ℕ) (new old : List ℕ) (k : Run E) → ltb (next_changed j new old) (length new) ≡ b
    → store_changed (p + j) (drop j new) (drop j old) k ≡ Storing b p (next_changed j new old) new old k
next_stored b p zero new old k e = ap (λ (q : ℕ). store_changed q new old k) (let z : p + zero ≡ p = omega arith in z) ∙ first_stored b p new old k e
next_stored true p (suc j) [] old k e = let l = ltb-true (suc j) 0 e in absurd (omega (arith, l))
next_stored false p (suc j) [] old k e = refl
next_stored b p (suc j) (x ∷ xs) [] k e = (let z : p + suc j ≡ p + 1 + j = omega arith in λ i. store_changed (z i) (drop j xs) (sym (drop_nil j) i) k)
    ∙ next_stored b (p + 1) j xs [] k (ltb_suc b (next_changed j xs []) (length xs) (sym (ap (λ (n : ℕ). ltb n (length (x ∷ xs))) (next_suc_nil j x xs)) ∙ e))
    ∙ storing_suc_nil b p (next_changed j xs []) x xs k ∙ ap (λ (n : ℕ). Storing b p n (x ∷ xs) [] k) (sym (next_suc_nil j x xs))
next_stored b p (suc j) (x ∷ xs) (y ∷ ys) k e = ap (λ (q : ℕ). store_changed q (drop j xs) (drop j ys) k) (let z : p + suc j ≡ p + 1 + j = omega arith in z)
    ∙ next_stored b (p + 1) j xs ys k (ltb_suc b (next_changed j xs ys) (length xs) (sym (ap (λ (n : ℕ). ltb n (length (x ∷ xs))) (next_suc j x y xs ys)) ∙ e))
    ∙ storing_suc b p (next_changed j xs ys) x y xs ys k ∙ ap (λ (n : ℕ). Storing b p n (x ∷ xs) (y ∷ ys) k) (sym (next_suc j x y xs ys))
