-- Memories lie apart, or one pair of them is the first that meets.
use Rattle.std.proofs.Common.{◌≡◌, ◌⊎◌, inl, inr, ◌<◌, ℕ, zero, suc, max, List, length, refl, sym, ap, ◌∙◌, subst, arith}
use Rattle.std.proofs.lemmas.Bool.{cases_lt}
use Rattle.pcc_wiring.specs.declared.overlap.Overlap.{Overlap}
use Rattle.pcc_wiring.specs.Overlaps.{AreApart, HasOverlap, IsFirstOverlap, Meet, at, base_of, end_of, id_of}
use Rattle.pcc_wiring.proofs.Overlapping.{meet_is}

-- ---- the first number that has a property

-- the first of the numbers below n
abbrev First : (ℕ → Type 0) → ℕ → Type 0
First P n = (i : ℕ) × (i < n) × P i × ((j : ℕ) → j < i → P j → ⊥)

abbrev NoneBelow : (ℕ → Type 0) → ℕ → Type 0
NoneBelow P n = (i : ℕ) → i < n → P i → ⊥

one_more : (P : ℕ → Type 0) (n : ℕ) → NoneBelow P n → (P n → ⊥) → NoneBelow P (suc n)
one_more P n none free i lt p = elim (cases_lt i n) [
  | inl below ↦ none i below p
  | inr ge ↦ let same : i ≡ n = omega (arith, lt, ge) in free (subst P same p)
]

first_below : (P : ℕ → Type 0) → ((i : ℕ) → P i ⊎ (P i → ⊥)) → (n : ℕ) → First P n ⊎ NoneBelow P n
first_below P test zero = inr (λ i lt p. absurd (omega (arith, lt)))
first_below P test (suc n) = elim (first_below P test n) [
  | inl found ↦ let lt : found.0 < n = found.1 in inl (found.0, omega (arith, lt), found.2, found.3)
  | inr none ↦ elim (test n) [
    | inl here ↦ inl (n, omega arith, here, none)
    | inr free ↦ inr (one_more P n none free)
  ]
]

same_number : (m n : ℕ) → (m < n → ⊥) → (n < m → ⊥) → m ≡ n
same_number m n a b = elim (cases_lt m n) [
  | inl lt ↦ absurd (a lt)
  | inr ge ↦ elim (cases_lt n m) [ inl lt ↦ absurd (b lt) | inr le ↦ omega (arith, ge, le) ]
]

-- ---- memories that meet

meet_test : (a b : ℕ × ℕ × ℕ) → Meet a b ⊎ (Meet a b → ⊥)
meet_test a b = elim (cases_lt (max (base_of a) (base_of b)) (end_of a)) [
  | inl p ↦ elim (cases_lt (max (base_of a) (base_of b)) (end_of b)) [
    | inl q ↦ inl ((meet_is a b).0 (p, q))
    | inr q ↦ inr (λ m. let h = ((meet_is a b).1 m).1 in absurd (omega (arith, q, h)))
  ]
  | inr p ↦ inr (λ m. let h = ((meet_is a b).1 m).0 in absurd (omega (arith, p, h)))
]

module _ (opened : List (ℕ × ℕ × ℕ)) where
  -- the memory at one place meets the one at another
  abbrev MeetsAt : ℕ → ℕ → Type 0
  MeetsAt b a = Meet (at opened a) (at opened b)

  -- the memory at a place meets one before it
  abbrev MeetsBefore : ℕ → Type 0
  MeetsBefore b = First (MeetsAt b) b

  before_test : (b : ℕ) → MeetsBefore b ⊎ (MeetsBefore b → ⊥)
  before_test b = elim (first_below (MeetsAt b) (λ a. meet_test (at opened a) (at opened b)) b) [
    | inl found ↦ inl found
    | inr none ↦ inr (λ f. none f.0 f.1 f.2)
  ]

  -- of two that meet, the later one meets one before it
  meets_before : (a b : ℕ) → a < b → Meet (at opened a) (at opened b) → MeetsBefore b
  meets_before a b lt meet = elim (first_below (MeetsAt b) (λ i. meet_test (at opened i) (at opened b)) b) [
    | inl found ↦ found
    | inr none ↦ absurd (none a lt meet)
  ]

  pub apart_or_first : AreApart opened ⊎ HasOverlap opened
  apart_or_first = elim (first_below MeetsBefore before_test (length opened)) [
    | inl f ↦ let b : ℕ = f.0 in let m : MeetsBefore b = f.2 in inr (record {
      found = record { a = id_of (at opened m.0); b = id_of (at opened b) };
      first = record {
        a = m.0;
        b = b;
        order = m.1;
        within = f.1;
        meet = m.2;
        before_b = λ i j lt below meet. f.3 j below (meets_before i j lt meet);
        before_a = m.3;
        ids = (refl, refl);
      };
    })
    | inr none ↦ inl (λ i j lt below meet. none j below (meets_before i j lt meet))
  ]

  pub apart_kept : AreApart opened → HasOverlap opened → ⊥
  apart_kept apart h = apart h.first.a h.first.b h.first.order h.first.within h.first.meet

  one_later : (found other : Overlap) (f : IsFirstOverlap opened found) (g : IsFirstOverlap opened other) → f.b < g.b → ⊥
  one_later found other f g lt = g.before_b f.a f.b f.order lt f.meet

  one_earlier : (found other : Overlap) (f : IsFirstOverlap opened found) (g : IsFirstOverlap opened other) → f.b ≡ g.b → f.a < g.a → ⊥
  one_earlier found other f g same lt = g.before_a f.a lt (subst (λ (b : ℕ). Meet (at opened f.a) (at opened b)) same f.meet)

  pub one_overlap : (found other : Overlap) → IsFirstOverlap opened found → IsFirstOverlap opened other → found ≡ other
  one_overlap found other f g =
      let later : f.b ≡ g.b = same_number f.b g.b (one_later found other f g) (one_later other found g f) in
      let earlier : f.a ≡ g.a = same_number f.a g.a (one_earlier found other f g later) (one_earlier other found g f (sym later)) in
      let a : found.a ≡ other.a = f.ids.0 ∙ ap (λ (i : ℕ). id_of (at opened i)) earlier ∙ sym g.ids.0 in
      let b : found.b ≡ other.b = f.ids.1 ∙ ap (λ (i : ℕ). id_of (at opened i)) later ∙ sym g.ids.1 in
      λ k. record { a = a k; b = b k }
