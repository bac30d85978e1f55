-- Fields share a bit or are apart.
use Rattle.std.proofs.Common.{◌≡◌, ◌⊎◌, inl, inr, ℕ, ◌+◌, ◌<◌, ◌≤◌, Bool, true, false, ltb, List, length, get_or, refl, sym, ap, ◌∙◌, subst, arith}
use Rattle.std.specs.Prelude.{◌&&◌, ◌↔◌}
use Rattle.std.proofs.lemmas.Bool.{and_parts, cases_lt, lt-ltb, ltb-true}
use Rattle.std.proofs.lemmas.List.{get_or_past}
use Rattle.pcc_gas.specs.Fields.{AreApart, InField}
use Rattle.pcc_gas.specs.declared.field.Field.{Field}
use Rattle.cpc_package.specs.declared.binding.Source1.{Source1}
use Rattle.cpc_package.specs.declared.binding.Source1.TheVariants.{Missing, At}
use Rattle.cpc_package.specs.declared.binding.Binding.{Binding}
use Rattle.cpc_package.specs.Bindings.{AllApart, Meets, ShareBit, end_of, share_bit}

-- ---- two fields

shared : (f g : Field) (bit : ℕ) → InField f bit → InField g bit → share_bit f g ≡ true
shared f g bit h k =
    let a : f.at_bit ≤ bit = h.from in
    let b : bit < f.at_bit + f.width = h.below in
    let c : g.at_bit ≤ bit = k.from in
    let d : bit < g.at_bit + g.width = k.below in
    rw (lt-ltb f.at_bit (end_of f) (omega arith), lt-ltb g.at_bit (end_of g) (omega arith), lt-ltb f.at_bit (end_of g) (omega arith), lt-ltb g.at_bit (end_of f) (omega arith)) refl

truth : {P : Type 0} (b : Bool) → b ≡ true → b ≡ false → P
truth b h k = absurd cc

-- fields that share no bit are apart
pub apart_by : (f g : Field) → share_bit f g ≡ false → AreApart f g
apart_by f g none bit h k = truth (share_bit f g) (shared f g bit h k) none

-- a bit of two fields that aren't apart: the first of the one that begins later
pub record Common (f g : Field) : Type 0 where
  pub bit : ℕ
  pub in_first : InField f bit
  pub in_second : InField g bit

common_by : (f g : Field) → share_bit f g ≡ true → Common f g
common_by f g h =
    let p = and_parts (ltb f.at_bit (end_of f) && ltb g.at_bit (end_of g) && ltb f.at_bit (end_of g)) (ltb g.at_bit (end_of f)) h in
    let q = and_parts (ltb f.at_bit (end_of f) && ltb g.at_bit (end_of g)) (ltb f.at_bit (end_of g)) p.0 in
    let r = and_parts (ltb f.at_bit (end_of f)) (ltb g.at_bit (end_of g)) q.0 in
    let a = ltb-true f.at_bit (end_of f) r.0 in
    let b = ltb-true g.at_bit (end_of g) r.1 in
    let c = ltb-true f.at_bit (end_of g) q.1 in
    let d = ltb-true g.at_bit (end_of f) p.1 in
    elim (cases_lt f.at_bit g.at_bit) [
      | inl lt ↦ record { bit = g.at_bit; in_first = record { from = omega arith; below = d }; in_second = record { from = omega arith; below = b } }
      | inr le ↦ record { bit = f.at_bit; in_first = record { from = omega arith; below = a }; in_second = record { from = le; below = c } }
    ]

above : (f g : Field) → g.at_bit ≤ f.at_bit → (AreApart f g → ⊥) → Common f g
above f g le h =
    elim (cases_lt f.at_bit (f.at_bit + f.width)) [
      | inr none ↦ absurd (h (λ bit i j. let a : f.at_bit ≤ bit = i.from in let b : bit < f.at_bit + f.width = i.below in omega arith))
      | inl some ↦ elim (cases_lt f.at_bit (g.at_bit + g.width)) [
        | inl under ↦ record { bit = f.at_bit; in_first = record { from = omega arith; below = some }; in_second = record { from = le; below = under } }
        | inr over ↦ absurd (h (λ bit i j. let a : f.at_bit ≤ bit = i.from in let b : bit < g.at_bit + g.width = j.below in omega arith))
      ]
    ]

pub common : (f g : Field) → (AreApart f g → ⊥) → Common f g
common f g h =
    elim (cases_lt f.at_bit g.at_bit) [
      | inl lt ↦
          let c : Common g f = above g f (omega arith) (λ apart. h (λ bit i j. apart bit j i)) in
          record { bit = c.bit; in_first = c.in_second; in_second = c.in_first }
      | inr le ↦ above f g le h
    ]

-- the tests tell exactly which fields aren't apart
split : (b : Bool) → (b ≡ true) ⊎ (b ≡ false)
split true = inl refl
split false = inr refl

pub share_exact : (f g : Field) → (share_bit f g ≡ true) ↔ (AreApart f g → ⊥)
share_exact f g = (
  λ h apart. let c = common_by f g h in apart c.bit c.in_first c.in_second,
  λ h. elim (split (share_bit f g)) [
    | inl yes_it_does ↦ yes_it_does
    | inr none ↦ absurd (h (apart_by f g none))
  ],
)

-- ---- a field and the sources of another binding

-- no field among the first n sources has a bit of the field
pub record ApartFrom (field : Field) (sources : List Source1) (n : ℕ) : Type 0 where
  pub front : (k : ℕ) (other : Field) → k < n → get_or sources k Missing ≡ At other → AreApart field other

pub apart_start : (field : Field) (sources : List Source1) → ApartFrom field sources 0
apart_start field sources = record { front = λ k other lt at. absurd (omega arith) }

next : (n k : ℕ) → k < n + 1 → (k < n) ⊎ (k ≡ n)
next n k lt = elim (cases_lt k n) [
  | inl h ↦ inl h
  | inr h ↦ inr (omega arith)
]

same_field : (f g : Field) → At f ≡ At g → f ≡ g
same_field f g e = cc

pub apart_more : (field other : Field) (sources : List Source1) (n : ℕ) → get_or sources n Missing ≡ At other → AreApart field other
    → ApartFrom field sources n → ApartFrom field sources (n + 1)
apart_more field other sources n found apart before = record {
  front = λ k g below at. elim (next n k below) [
    | inl h ↦ before.front k g h at
    | inr same ↦
        let e : other ≡ g = same_field other g (sym found ∙ ap (λ (j : ℕ). get_or sources j Missing) (sym same) ∙ at) in
        subst (AreApart field) e apart
  ];
}

pub apart_other : (field : Field) (sources : List Source1) (n : ℕ) → ((other : Field) → get_or sources n Missing ≡ At other → ⊥)
    → ApartFrom field sources n → ApartFrom field sources (n + 1)
apart_other field sources n none before = record {
  front = λ k g below at. elim (next n k below) [
    | inl h ↦ before.front k g h at
    | inr same ↦ absurd (none g (ap (λ (j : ℕ). get_or sources j Missing) (sym same) ∙ at))
  ];
}

pub missing_field : {P : Type 0} (f : Field) → Missing ≡ At f → P
missing_field f e = absurd cc

pub apart_end : (field : Field) (sources : List Source1) (n : ℕ) → length sources ≤ n → ApartFrom field sources n → AllApart field sources
apart_end field sources n le before = λ k other at. elim (cases_lt k n) [
  | inl lt ↦ before.front k other lt at
  | inr past ↦ missing_field other (sym (get_or_past sources k Missing (omega arith)) ∙ at)
]

pub meets_at : (field other : Field) (sources : List Source1) (n : ℕ) → get_or sources n Missing ≡ At other → (AreApart field other → ⊥) → Meets field sources
meets_at field other sources n found shared = record { n = n; other = other; at = found; shared = shared }

-- ---- the sources of two bindings

-- no field among the first n sources has a bit of the other binding's
pub record NoneShared (sources others : List Source1) (n : ℕ) : Type 0 where
  pub front : (k : ℕ) (f : Field) → k < n → get_or sources k Missing ≡ At f → AllApart f others

pub none_start : (sources others : List Source1) → NoneShared sources others 0
none_start sources others = record { front = λ k f lt at. absurd (omega arith) }

pub none_more : (sources others : List Source1) (n : ℕ) (field : Field) → get_or sources n Missing ≡ At field → AllApart field others
    → NoneShared sources others n → NoneShared sources others (n + 1)
none_more sources others n field found apart before = record {
  front = λ k f below at. elim (next n k below) [
    | inl h ↦ before.front k f h at
    | inr same ↦
        let e : field ≡ f = same_field field f (sym found ∙ ap (λ (j : ℕ). get_or sources j Missing) (sym same) ∙ at) in
        subst (λ (y : Field). AllApart y others) e apart
  ];
}

pub none_other : (sources others : List Source1) (n : ℕ) → ((field : Field) → get_or sources n Missing ≡ At field → ⊥)
    → NoneShared sources others n → NoneShared sources others (n + 1)
none_other sources others n none before = record {
  front = λ k f below at. elim (next n k below) [
    | inl h ↦ before.front k f h at
    | inr same ↦ absurd (none f (ap (λ (j : ℕ). get_or sources j Missing) (sym same) ∙ at))
  ];
}

pub no_share : (a b : Binding) (n : ℕ) → length a.sources ≤ n → NoneShared a.sources b.sources n → ShareBit a b → ⊥
no_share a b n le before s = elim (cases_lt s.m n) [
  | inl lt ↦ before.front s.m s.f lt s.first s.n s.g s.second s.bit s.in_first s.in_second
  | inr past ↦ missing_field s.f (sym (get_or_past a.sources s.m Missing (omega arith)) ∙ s.first)
]

pub share_at : (a b : Binding) (n : ℕ) (field : Field) → a.subspace ≡ b.subspace → get_or a.sources n Missing ≡ At field → Meets field b.sources → ShareBit a b
share_at a b n field same found h =
    let c : Common field h.other = common field h.other h.shared in
    record {
      subspace = same;
      m = n;
      n = h.n;
      f = field;
      g = h.other;
      first = found;
      second = h.at;
      bit = c.bit;
      in_first = c.in_first;
      in_second = c.in_second;
    }
