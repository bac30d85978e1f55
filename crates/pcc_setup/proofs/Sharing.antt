-- Whether two processors share a bit, and the first that does.
use Rattle.std.proofs.Common.{◌≡◌, ◌⊎◌, inl, inr, ℕ, zero, suc, ◌+◌, ◌<◌, Bool, true, false, List, ◌≤◌, length, get_or, refl, sym, ap, ◌∙◌, subst, arith}
use Rattle.std.proofs.lemmas.Bool.{cases_lt}
use Rattle.std.proofs.lemmas.List.{get_or_default}
use Rattle.cpc_package.specs.Bindings.{AllApart, Meets, ShareBit, share_bit}
use Rattle.cpc_package.specs.declared.binding.Binding.{Binding}
use Rattle.cpc_package.specs.declared.binding.Source1.{Source1}
use Rattle.cpc_package.specs.declared.binding.Source1.TheVariants.{At, Missing, Number}
use Rattle.cpc_package.proofs.Meeting.{ApartFrom, NoneShared, apart_by, apart_end, apart_more, apart_other, apart_start, meets_at, no_share, none_more, none_other, none_start, share_at, share_exact}
use Rattle.pcc_gas.specs.declared.field.Field.{Field}
use Rattle.pcc_setup.specs.Processors.{IsFirstSharing}

next : (n : ℕ) → n + 1 ≡ suc n
next n = omega arith

split : (b : Bool) → (b ≡ true) ⊎ (b ≡ false)
split true = inl refl
split false = inr refl

missing_no_field : (s : Source1) (f : Field) → Missing ≡ s → s ≡ At f → ⊥
missing_no_field s f e h = absurd cc

number_no_field : (s : Source1) (v : ℕ) (f : Field) → Number v ≡ s → s ≡ At f → ⊥
number_no_field s v f e h = absurd cc

-- ---- a field and the sources of another binding

at_source : (f : Field) (sources : List Source1) (n : ℕ) → ApartFrom f sources n → (s : Source1) → get_or sources n Missing ≡ s
    → Meets f sources ⊎ ApartFrom f sources (n + 1)
at_source f sources n before Missing e = inr (apart_other f sources n (λ g at. missing_no_field (get_or sources n Missing) g (sym e) at) before)
at_source f sources n before (Number v) e = inr (apart_other f sources n (λ g at. number_no_field (get_or sources n Missing) v g (sym e) at) before)
at_source f sources n before (At g) e = elim (split (share_bit f g)) [
  | inl h ↦ inl (meets_at f g sources n e ((share_exact f g).0 h))
  | inr h ↦ inr (apart_more f g sources n e (apart_by f g h) before)
]

field_or_apart : (f : Field) (sources : List Source1) (n : ℕ) → Meets f sources ⊎ ApartFrom f sources n
field_or_apart f sources zero = inr (apart_start f sources)
field_or_apart f sources (suc n) = elim (field_or_apart f sources n) [
  | inl found ↦ inl found
  | inr before ↦ subst (λ (k : ℕ). Meets f sources ⊎ ApartFrom f sources k) (next n) (at_source f sources n before (get_or sources n Missing) refl)
]

field_meets : (f : Field) (sources : List Source1) → Meets f sources ⊎ AllApart f sources
field_meets f sources = elim (field_or_apart f sources (length sources)) [
  | inl found ↦ inl found
  | inr apart ↦ inr (apart_end f sources (length sources) (omega arith) apart)
]

-- ---- the sources of two bindings

at_field : (a b : Binding) (n : ℕ) → a.subspace ≡ b.subspace → NoneShared a.sources b.sources n → (s : Source1) → get_or a.sources n Missing ≡ s
    → ShareBit a b ⊎ NoneShared a.sources b.sources (n + 1)
at_field a b n same before Missing e = inr (none_other a.sources b.sources n (λ g at. missing_no_field (get_or a.sources n Missing) g (sym e) at) before)
at_field a b n same before (Number v) e = inr (none_other a.sources b.sources n (λ g at. number_no_field (get_or a.sources n Missing) v g (sym e) at) before)
at_field a b n same before (At f) e = elim (field_meets f b.sources) [
  | inl found ↦ inl (share_at a b n f same e found)
  | inr apart ↦ inr (none_more a.sources b.sources n f e apart before)
]

share_or_none : (a b : Binding) (n : ℕ) → a.subspace ≡ b.subspace → ShareBit a b ⊎ NoneShared a.sources b.sources n
share_or_none a b zero same = inr (none_start a.sources b.sources)
share_or_none a b (suc n) same = elim (share_or_none a b n same) [
  | inl found ↦ inl found
  | inr before ↦ subst (λ (k : ℕ). ShareBit a b ⊎ NoneShared a.sources b.sources k) (next n) (at_field a b n same before (get_or a.sources n Missing) refl)
]

same_or_not : (m n : ℕ) → (m ≡ n) ⊎ (m ≡ n → ⊥)
same_or_not m n = elim (cases_lt m n) [
  | inl lt ↦ inr (λ e. absurd (omega (arith, lt, e)))
  | inr ge ↦ elim (cases_lt n m) [ inl lt ↦ inr (λ e. absurd (omega (arith, lt, e))) | inr le ↦ inl (omega (arith, ge, le)) ]
]

pub shares_or_not : (a b : Binding) → ShareBit a b ⊎ (ShareBit a b → ⊥)
shares_or_not a b = elim (same_or_not a.subspace b.subspace) [
  | inl same ↦ elim (share_or_none a b (length a.sources) same) [
    | inl found ↦ inl found
    | inr none ↦ inr (no_share a b (length a.sources) (omega arith) none)
  ]
  | inr other ↦ inr (λ s. other s.subspace)
]

-- ---- the first that shares

-- the first n processors share no bit with another one
pub record NoneShares (cpus : List Binding) (b : Binding) (n : ℕ) : Type 0 where
  pub front : (k : ℕ) (d : Binding) → k < n → k < length cpus → ShareBit (get_or cpus k d) b → ⊥

pub none_shares : (cpus : List Binding) (b : Binding) → NoneShares cpus b 0
none_shares cpus b = record { front = λ k d lt within. absurd (omega (arith, lt)) }

pub one_more_apart : (cpus : List Binding) (a b : Binding) (n : ℕ) → n < length cpus → a ≡ get_or cpus n a → (ShareBit a b → ⊥) → NoneShares cpus b n → NoneShares cpus b (n + 1)
one_more_apart cpus a b n lt is apart before = record {
  front = λ k d below within. elim (cases_lt k n) [
    | inl less ↦ before.front k d less within
    | inr more ↦
        let same : k ≡ n = omega (arith, below, more) in
        λ s. apart (subst (λ (x : Binding). ShareBit x b) (get_or_default cpus k d a within ∙ ap (λ (j : ℕ). get_or cpus j a) same ∙ sym is) s)
  ];
}

pub all_apart : (cpus : List Binding) (b : Binding) (n : ℕ) → length cpus ≤ n → NoneShares cpus b n → (k : ℕ) (d : Binding) → k < length cpus → ShareBit (get_or cpus k d) b → ⊥
all_apart cpus b n le before k d lt = before.front k d (omega (arith, lt, le)) lt

pub first_that_shares : (cpus : List Binding) (a b : Binding) (n : ℕ) → n < length cpus → a ≡ get_or cpus n a → ShareBit a b → NoneShares cpus b n → IsFirstSharing cpus b n
first_that_shares cpus a b n lt is shares before = record {
  within = lt;
  shares = λ d. subst (λ (x : Binding). ShareBit x b) (is ∙ get_or_default cpus n a d lt) shares;
  before = λ k d below. before.front k d below (omega (arith, below, lt));
}

-- some processor is the first that shares a bit with another one, or none does
sharing_to : (cpus : List Binding) (b : Binding) (n : ℕ) → n ≤ length cpus → ((cpu : ℕ) × IsFirstSharing cpus b cpu) ⊎ NoneShares cpus b n
sharing_to cpus b zero le = inr (none_shares cpus b)
sharing_to cpus b (suc n) le = elim (sharing_to cpus b n (omega (arith, le))) [
  | inl found ↦ inl found
  | inr before ↦ elim (shares_or_not (get_or cpus n b) b) [
    | inl shares ↦ inl (n, first_that_shares cpus (get_or cpus n b) b n (omega (arith, le)) (get_or_default cpus n b (get_or cpus n b) (omega (arith, le))) shares before)
    | inr apart ↦ inr (subst (NoneShares cpus b) (next n) (one_more_apart cpus (get_or cpus n b) b n (omega (arith, le)) (get_or_default cpus n b (get_or cpus n b) (omega (arith, le))) apart before))
  ]
]

pub sharing_or_none : (cpus : List Binding) (b : Binding) → ((cpu : ℕ) × IsFirstSharing cpus b cpu) ⊎ ((k : ℕ) (d : Binding) → k < length cpus → ShareBit (get_or cpus k d) b → ⊥)
sharing_or_none cpus b = elim (sharing_to cpus b (length cpus) (omega arith)) [
  | inl found ↦ inl found
  | inr none ↦ inr (all_apart cpus b (length cpus) (omega arith) none)
]

-- there is one first
pub one_sharing : (cpus : List Binding) (b : Binding) (i j : ℕ) → IsFirstSharing cpus b i → IsFirstSharing cpus b j → i ≡ j
one_sharing cpus b i j h k = elim (cases_lt i j) [
  | inl lt ↦ absurd (k.before i b lt (h.shares b))
  | inr ge ↦ elim (cases_lt j i) [ inl lt ↦ absurd (h.before j b lt (k.shares b)) | inr le ↦ omega (arith, ge, le) ]
]
