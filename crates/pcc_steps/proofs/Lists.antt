-- Facts on lists of words.
use Rattle.std.proofs.Common.{◌≡◌, ℕ, zero, suc, ◌+◌, ◌<◌, ◌≤◌, List, [], ◌∷◌, ◌++◌, length, get_or, set, take, drop, refl, sym, ap, ◌∙◌, subst, arith, add-one, length-append}
use Rattle.std.proofs.lemmas.List.{take_more_set}
use Rattle.std.proofs.Math.Seq.{take-suc}
use Rattle.pcc_steps.specs.Agree.{mix}
use Rattle.pcc_steps.specs.Agree.{Core, Others, listed}

mix_suc : (j : ℕ) (new old : List ℕ) → j < length new → length new ≡ length old → set (mix j new old) j (get_or new j 0) ≡ mix (suc j) new old
mix_suc j [] old h e = absurd (omega arith)
mix_suc j (x ∷ xs) [] h e = absurd (omega arith)
mix_suc zero (x ∷ xs) (y ∷ ys) h e = refl
mix_suc (suc j) (x ∷ xs) (y ∷ ys) h e = ap (λ (l : List ℕ). x ∷ l) (mix_suc j xs ys (omega arith) (omega arith))

pub mix_more : (j : ℕ) (new old : List ℕ) → j < length new → length new ≡ length old → set (mix j new old) j (get_or new j 0) ≡ mix (j + 1) new old
mix_more j new old h e = mix_suc j new old h e ∙ ap (λ (k : ℕ). mix k new old) (sym (add-one j))

pub mix_all : (n : ℕ) (new old : List ℕ) → length new ≡ n → length old ≡ n → mix n new old ≡ new
mix_all zero [] [] e f = refl
mix_all zero [] (y ∷ ys) e f = absurd (omega arith)
mix_all zero (x ∷ xs) old e f = absurd (omega arith)
mix_all (suc n) [] old e f = absurd (omega arith)
mix_all (suc n) (x ∷ xs) [] e f = absurd (omega arith)
mix_all (suc n) (x ∷ xs) (y ∷ ys) e f = ap (λ (l : List ℕ). x ∷ l) (mix_all n xs ys (omega arith) (omega arith))

pub take_all : (n : ℕ) (a b : List ℕ) → length a ≡ n → length b ≡ n → take n a ≡ take n b → a ≡ b
take_all zero [] [] e f h = refl
take_all zero [] (y ∷ ys) e f h = absurd (omega arith)
take_all zero (x ∷ xs) b e f h = absurd (omega arith)
take_all (suc n) [] b e f h = absurd (omega arith)
take_all (suc n) (x ∷ xs) [] e f h = absurd (omega arith)
take_all (suc n) (x ∷ xs) (y ∷ ys) e f h = let q : (x ≡ y) × (take n xs ≡ take n ys) = (cc, cc) in let r = take_all n xs ys (omega arith) (omega arith) q.1 in cc

-- one more word was loaded
pub loads : (j : ℕ) (l b : List ℕ) (v : ℕ) → j < length l → j < length b → v ≡ get_or b j 0 → take j l ≡ take j b → take (j + 1) (set l j v) ≡ take (j + 1) b
loads j l b v h k e t = take_more_set l j v h ∙ (subst (λ (z : List ℕ × ℕ). take j l ++ v ∷ [] ≡ z.0 ++ z.1 ∷ []) (λ i. (t i, e i)) refl ∙ sym (ap (λ (n : ℕ). take n b) (add-one j) ∙ take-suc b j 0 k))

eight : (j : ℕ) → 8 + j ≡ suc (suc (suc (suc (suc (suc (suc (suc j)))))))
eight j = omega arith

pub set_block : (c : Core) (o : Others) (j v : ℕ) → set (listed c o) (8 + j) v ≡ listed (record c { block = set c.block j v }) o
set_block c o j v = ap (λ (n : ℕ). set (listed c o) n v) (eight j)

pub get_block : (c : Core) (o : Others) (j : ℕ) → get_or (listed c o) (8 + j) 0 ≡ get_or c.block j 0
get_block c o j = ap (λ (n : ℕ). get_or (listed c o) n 0) (eight j)

-- ---- fronts and rests

pub dropped : (j : ℕ) (l : List ℕ) → j < length l → drop j l ≡ get_or l j 0 ∷ drop (j + 1) l
dropped j [] h = absurd (omega arith)
dropped zero (x ∷ xs) h = refl
dropped (suc j) (x ∷ xs) h = dropped j xs (omega arith) ∙ ap (λ (n : ℕ). get_or xs j 0 ∷ drop n (x ∷ xs)) (let e : suc (j + 1) ≡ suc j + 1 = omega arith in e)

pub none_left : (j : ℕ) (l : List ℕ) → length l ≤ j → drop j l ≡ []
none_left zero [] h = refl
none_left (suc j) [] h = refl
none_left zero (x ∷ xs) h = absurd (omega arith)
none_left (suc j) (x ∷ xs) h = none_left j xs (omega arith)

pub all_taken : (n : ℕ) (l : List ℕ) → length l ≤ n → take n l ≡ l
all_taken zero [] h = refl
all_taken (suc n) [] h = refl
all_taken zero (x ∷ xs) h = absurd (omega arith)
all_taken (suc n) (x ∷ xs) h = ap (λ (l : List ℕ). x ∷ l) (all_taken n xs (omega arith))

pub next_place : (j : ℕ) → 8 + (j + 1) ≡ 8 + j + 1
next_place j = omega arith

-- a word that stands there is found with any default
pub get_there : (l : List ℕ) (j x y : ℕ) → j < length l → get_or l j x ≡ get_or l j y
get_there [] j x y h = absurd (omega arith)
get_there (w ∷ ws) zero x y h = refl
get_there (w ∷ ws) (suc j) x y h = get_there ws j x y (omega arith)

-- ---- lengths

pub eight_more : (a b c d e f g h : ℕ) (l : List ℕ) → length (a ∷ b ∷ c ∷ d ∷ e ∷ f ∷ g ∷ h ∷ l) ≡ 8 + length l
eight_more a b c d e f g h l = omega arith

pub one_more : {A : Type 0} (xs ys : List A) (y : A) → ys ≡ xs ++ y ∷ [] → length ys ≡ length xs + 1
one_more xs ys y e = ap (λ (l : List _). length l) e ∙ length-append xs (y ∷ [])
