-- The first element of a list that is wrong.
use Rattle.std.proofs.Common.{◌≡◌, ◌⊎◌, inl, inr, ◌<◌, ℕ, zero, suc, List, refl, sym, ap, ◌∙◌, subst, arith}
use Rattle.std.specs.Prelude.{Option, Some, None, slice_get}
use Rattle.std.proofs.lemmas.Bool.{cases_lt}

-- the elements before a place are right
abbrev pub AreRight : {X : Type 0} → (ℕ → X → Type 0) → List X → ℕ → Type 0
AreRight {X = X} Right xs n = (i : ℕ) (x : X) → i < n → slice_get xs i ≡ Some x → Right i x

-- the element at a place is wrong for this reason, and those before it are right
pub record FirstFault {X F : Type 0} (Right : ℕ → X → Type 0) (Wrong : ℕ → X → F → Type 0) (xs : List X) : Type 0 where
  pub place : ℕ
  pub element : X
  pub fault : F
  pub there : slice_get xs place ≡ Some element
  pub before : AreRight Right xs place
  pub wrong : Wrong place element fault

-- each element is right or wrong
abbrev pub Decided : {X F : Type 0} → (ℕ → X → Type 0) → (ℕ → X → F → Type 0) → Type 0
Decided {X = X} {F = F} Right Wrong = (i : ℕ) (x : X) → Right i x ⊎ ((f : F) × Wrong i x f)

-- none is both, and a wrong one is so for one reason
pub record Exclusive {X F : Type 0} (Right : ℕ → X → Type 0) (Wrong : ℕ → X → F → Type 0) : Type 0 where
  pub apart : (i : ℕ) (x : X) (f : F) → Right i x → Wrong i x f → ⊥
  pub one : (i : ℕ) (x : X) (f g : F) → Wrong i x f → Wrong i x g → f ≡ g

pub some_same : {X : Type 0} (x y : X) → Some x ≡ Some y → x ≡ y
some_same x y e = cc

pub some_none : {X : Type 0} (o : Option X) (x : X) → o ≡ None → o ≡ Some x → ⊥
some_none o x e f = absurd cc

right_more : {X : Type 0} (Right : ℕ → X → Type 0) (xs : List X) (n : ℕ) → AreRight Right xs n → ((x : X) → slice_get xs n ≡ Some x → Right n x)
    → AreRight Right xs (suc n)
right_more Right xs n before here i x lt at = elim (cases_lt i n) [
  | inl below ↦ before i x below at
  | inr ge ↦
      let same : n ≡ i = omega (arith, lt, ge) in
      subst (λ (k : ℕ). Right k x) same (here x (ap (slice_get xs) same ∙ at))
]

-- the element at a place is right, or the first that is wrong
at_place : {X F : Type 0} (Right : ℕ → X → Type 0) (Wrong : ℕ → X → F → Type 0) → Decided Right Wrong → (xs : List X) (n : ℕ) → AreRight Right xs n
    → (o : Option X) → slice_get xs n ≡ o → FirstFault Right Wrong xs ⊎ AreRight Right xs (suc n)
at_place Right Wrong decide xs n before None none = inr (right_more Right xs n before (λ x e. absurd (some_none (slice_get xs n) x none e)))
at_place {X = X} Right Wrong decide xs n before (Some x) at = elim (decide n x) [
  | inl right ↦ inr (right_more Right xs n before (λ y e. subst (λ (z : X). Right n z) (some_same x y (sym at ∙ e)) right))
  | inr w ↦ inl (record { place = n; element = x; fault = w.0; there = at; before = before; wrong = w.1 })
]

pub first_fault : {X F : Type 0} (Right : ℕ → X → Type 0) (Wrong : ℕ → X → F → Type 0) → Decided Right Wrong → (xs : List X) (n : ℕ)
    → FirstFault Right Wrong xs ⊎ AreRight Right xs n
first_fault Right Wrong decide xs zero = inr (λ i x lt at. absurd (omega (arith, lt)))
first_fault Right Wrong decide xs (suc n) = elim (first_fault Right Wrong decide xs n) [
  | inl found ↦ inl found
  | inr before ↦ at_place Right Wrong decide xs n before (slice_get xs n) refl
]

-- ---- there is one

same_number : (m n : ℕ) → (m < n → ⊥) → (n < m → ⊥) → m ≡ n
same_number m n a b = elim (cases_lt m n) [
  | inl lt ↦ absurd (a lt)
  | inr ge ↦ elim (cases_lt n m) [ inl lt ↦ absurd (b lt) | inr le ↦ omega (arith, ge, le) ]
]

pub record SameFault {X F : Type 0} (Right : ℕ → X → Type 0) (Wrong : ℕ → X → F → Type 0) (xs : List X) (p q : FirstFault Right Wrong xs) : Type 0 where
  pub place : p.place ≡ q.place
  pub element : p.element ≡ q.element
  pub fault : p.fault ≡ q.fault

pub one_first : {X F : Type 0} (Right : ℕ → X → Type 0) (Wrong : ℕ → X → F → Type 0) → Exclusive Right Wrong → (xs : List X) (p q : FirstFault Right Wrong xs)
    → SameFault Right Wrong xs p q
one_first {X = X} {F = F} Right Wrong laws xs p q =
    let place : p.place ≡ q.place = same_number p.place q.place
    (λ lt. laws.apart p.place p.element p.fault (q.before p.place p.element lt p.there) p.wrong)
    (λ lt. laws.apart q.place q.element q.fault (p.before q.place q.element lt q.there) q.wrong) in
    let element : p.element ≡ q.element = some_same p.element q.element (sym p.there ∙ ap (slice_get xs) place ∙ q.there) in
    let moved : Wrong q.place p.element p.fault = subst (λ (k : ℕ). Wrong k p.element p.fault) place p.wrong in
    let wrong : Wrong q.place q.element p.fault = subst (λ (x : X). Wrong q.place x p.fault) element moved in
    record { place = place; element = element; fault = laws.one q.place q.element p.fault q.fault wrong q.wrong }
