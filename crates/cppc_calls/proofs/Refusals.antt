-- The tests of a wish fail exactly when it can't be put.
use Rattle.std.proofs.Common.{◌≡◌, ℕ, ◌^◌, ◌<◌, ◌≤◌, Bool, true, false, cond, leb, ltb, List, [], ◌∷◌, length, Option, Some, None, refl, sym, ap, ◌∙◌, subst, arith}
use Rattle.std.specs.Prelude.{◌↔◌}
use Rattle.std.specs.Option.{option_or}
use Rattle.std.proofs.lemmas.Bool.{le-leb, leb-true, lt-ltb, ltb-true}
use Rattle.std.proofs.Math.Nat.{le_trans}
use Rattle.cpc_package.specs.Bindings.{IsRight, LiesIn, number_in, source_at}
use Rattle.cpc_package.specs.declared.binding.Binding.{Binding}
use Rattle.cpc_package.specs.declared.binding.Source1.{Source1}
use Rattle.cpc_package.specs.declared.binding.Source1.TheVariants.{Missing, Number, At}
use Rattle.cppc_device.specs.Ranges.{Rises}
use Rattle.cppc_calls.specs.Wishes.{CanPut, FitsInto, IsThere, above_fault, asked, below_fault, max_fault, min_fault, order_fault, register_fault, width_fault, wish_fault}
use Rattle.cppc_calls.specs.declared.wish.Wish.{Wish}
use Rattle.cppc_calls.specs.declared.wish.SetRefusal.{SetRefusal}
use Rattle.cppc_calls.proofs.Put.{chain_of, performances_after}

-- ---- no test fails

parts : {A : Type 0} (a b : Option A) → option_or a b ≡ None → (a ≡ None) × (b ≡ None)
parts None b h = (refl, h)
parts (Some x) b h = absurd cc

both : {A : Type 0} (a b : Option A) → a ≡ None → b ≡ None → option_or a b ≡ None
both a b p q = rw (p) q

passed : {A : Type 0} (b : Bool) (x : A) → cond b None (Some x) ≡ None → b ≡ true
passed true x e = refl
passed false x e = absurd cc

passes : {A : Type 0} (b : Bool) (x : A) → b ≡ true → cond b None (Some x) ≡ None
passes b x e = ap (λ (c : Bool). cond c None (Some x)) e

there : (w : Option ℕ) (s : Source1) (entry : ℕ) → register_fault w s entry ≡ None → IsThere w s
there None s entry h = tt
there (Some value) Missing entry h = absurd cc
there (Some value) (Number n) entry h = absurd cc
there (Some value) (At field) entry h = tt

is_there : (w : Option ℕ) (s : Source1) (entry : ℕ) → IsThere w s → register_fault w s entry ≡ None
is_there None s entry h = refl
is_there (Some value) Missing entry h = absurd h
is_there (Some value) (Number n) entry h = absurd h
is_there (Some value) (At field) entry h = refl

fits : (w : Option ℕ) (s : Source1) (entry : ℕ) → width_fault w s entry ≡ None → FitsInto w s
fits None s entry h = tt
fits (Some value) Missing entry h = tt
fits (Some value) (Number n) entry h = tt
fits (Some value) (At field) entry h = ltb-true value (2 ^ field.width) (passed (ltb value (2 ^ field.width)) _ h)

does_fit : (w : Option ℕ) (s : Source1) (entry : ℕ) → FitsInto w s → width_fault w s entry ≡ None
does_fit None s entry h = refl
does_fit (Some value) Missing entry h = refl
does_fit (Some value) (Number n) entry h = refl
does_fit (Some value) (At field) entry h = passes (ltb value (2 ^ field.width)) _ (lt-ltb value (2 ^ field.width) h)

-- ---- the order of performances

-- a number is at most another, where both are there
abbrev AtMost : Option ℕ → Option ℕ → Type 0
AtMost None b = Unit {0}
AtMost (Some a) None = Unit {0}
AtMost (Some a) (Some b) = a ≤ b

not_below : (l v : Option ℕ) → below_fault l v ≡ None → AtMost l v
not_below None v h = tt
not_below (Some l) None h = tt
not_below (Some l) (Some v) h = leb-true l v (passed (leb l v) _ h)

no_below : (l v : Option ℕ) → AtMost l v → below_fault l v ≡ None
no_below None v h = refl
no_below (Some l) None h = refl
no_below (Some l) (Some v) h = passes (leb l v) _ (le-leb l v h)

not_above : (h v : Option ℕ) → above_fault h v ≡ None → AtMost v h
not_above None None e = tt
not_above None (Some v) e = tt
not_above (Some h) None e = tt
not_above (Some h) (Some v) e = leb-true v h (passed (leb v h) _ e)

no_above : (h v : Option ℕ) → AtMost v h → above_fault h v ≡ None
no_above None v e = refl
no_above (Some h) None e = refl
no_above (Some h) (Some v) e = passes (leb v h) _ (le-leb v h e)

min_under : (m : Option ℕ) (d : ℕ) → min_fault m d ≡ None → AtMost m (Some d)
min_under None d h = tt
min_under (Some m) d h = leb-true m d (passed (leb m d) _ h)

under_min : (m : Option ℕ) (d : ℕ) → AtMost m (Some d) → min_fault m d ≡ None
under_min None d h = refl
under_min (Some m) d h = passes (leb m d) _ (le-leb m d h)

max_over : (d : ℕ) (x : Option ℕ) → max_fault d x ≡ None → AtMost (Some d) x
max_over d None h = tt
max_over d (Some x) h = leb-true d x (passed (leb d x) _ h)

over_max : (d : ℕ) (x : Option ℕ) → AtMost (Some d) x → max_fault d x ≡ None
over_max d None h = refl
over_max d (Some x) h = passes (leb d x) _ (le-leb d x h)

-- all comparisons that the tests make
record Ordered (l h m : Option ℕ) (d : ℕ) (x : Option ℕ) : Type 0 where
  low_min : AtMost l m
  low_desired : AtMost l (Some d)
  low_max : AtMost l x
  high_min : AtMost m h
  high_desired : AtMost (Some d) h
  high_max : AtMost x h
  min : AtMost m (Some d)
  max : AtMost (Some d) x

ordered : (l h m : Option ℕ) (d : ℕ) (x : Option ℕ) → order_fault l h m d x ≡ None → Ordered l h m d x
ordered l h m d x e =
    let a = parts (below_fault l m) _ e in
    let b = parts (below_fault l (Some d)) _ a.1 in
    let c = parts (below_fault l x) _ b.1 in
    let f = parts (above_fault h m) _ c.1 in
    let g = parts (above_fault h (Some d)) _ f.1 in
    let i = parts (above_fault h x) _ g.1 in
    let j = parts (min_fault m d) _ i.1 in
    record {
      low_min = not_below l m a.0;
      low_desired = not_below l (Some d) b.0;
      low_max = not_below l x c.0;
      high_min = not_above h m f.0;
      high_desired = not_above h (Some d) g.0;
      high_max = not_above h x i.0;
      min = min_under m d j.0;
      max = max_over d x j.1;
    }

no_order_fault : (l h m : Option ℕ) (d : ℕ) (x : Option ℕ) → Ordered l h m d x → order_fault l h m d x ≡ None
no_order_fault l h m d x o =
    both (below_fault l m) _ (no_below l m o.low_min) (both (below_fault l (Some d)) _ (no_below l (Some d) o.low_desired)
    (both (below_fault l x) _ (no_below l x o.low_max) (both (above_fault h m) _ (no_above h m o.high_min)
    (both (above_fault h (Some d)) _ (no_above h (Some d) o.high_desired) (both (above_fault h x) _ (no_above h x o.high_max)
    (both (min_fault m d) _ (under_min m d o.min) (over_max d x o.max)))))))

rises : (l h m : Option ℕ) (d : ℕ) (x : Option ℕ) → Ordered l h m d x → Rises 0 (chain_of l m d x h)
rises None None None d None o = (omega arith, tt)
rises None None None d (Some x) o = (omega arith, (o.max, tt))
rises None None (Some m) d None o = (omega arith, (o.min, tt))
rises None None (Some m) d (Some x) o = (omega arith, (o.min, (o.max, tt)))
rises None (Some h) None d None o = (omega arith, (o.high_desired, tt))
rises None (Some h) None d (Some x) o = (omega arith, (o.max, (o.high_max, tt)))
rises None (Some h) (Some m) d None o = (omega arith, (o.min, (o.high_desired, tt)))
rises None (Some h) (Some m) d (Some x) o = (omega arith, (o.min, (o.max, (o.high_max, tt))))
rises (Some l) None None d None o = (omega arith, (o.low_desired, tt))
rises (Some l) None None d (Some x) o = (omega arith, (o.low_desired, (o.max, tt)))
rises (Some l) None (Some m) d None o = (omega arith, (o.low_min, (o.min, tt)))
rises (Some l) None (Some m) d (Some x) o = (omega arith, (o.low_min, (o.min, (o.max, tt))))
rises (Some l) (Some h) None d None o = (omega arith, (o.low_desired, (o.high_desired, tt)))
rises (Some l) (Some h) None d (Some x) o = (omega arith, (o.low_desired, (o.max, (o.high_max, tt))))
rises (Some l) (Some h) (Some m) d None o = (omega arith, (o.low_min, (o.min, (o.high_desired, tt))))
rises (Some l) (Some h) (Some m) d (Some x) o = (omega arith, (o.low_min, (o.min, (o.max, (o.high_max, tt)))))

-- the other way, between a lowest and a highest performance
chained : (l h : ℕ) (m : Option ℕ) (d : ℕ) (x : Option ℕ) → Rises 0 (chain_of (Some l) m d x (Some h)) → Ordered (Some l) (Some h) m d x
chained l h None d None c =
    let p : l ≤ d = c.1.0 in
    let q : d ≤ h = c.1.1.0 in
    record { low_min = tt; low_desired = p; low_max = tt; high_min = tt; high_desired = q; high_max = tt; min = tt; max = tt }
chained l h None d (Some x) c =
    let p : l ≤ d = c.1.0 in
    let q : d ≤ x = c.1.1.0 in
    let r : x ≤ h = c.1.1.1.0 in
    record { low_min = tt; low_desired = p; low_max = le_trans p q; high_min = tt; high_desired = le_trans q r; high_max = r; min = tt; max = q }
chained l h (Some m) d None c =
    let p : l ≤ m = c.1.0 in
    let q : m ≤ d = c.1.1.0 in
    let r : d ≤ h = c.1.1.1.0 in
    record { low_min = p; low_desired = le_trans p q; low_max = tt; high_min = le_trans q r; high_desired = r; high_max = tt; min = q; max = tt }
chained l h (Some m) d (Some x) c =
    let p : l ≤ m = c.1.0 in
    let q : m ≤ d = c.1.1.0 in
    let r : d ≤ x = c.1.1.1.0 in
    let s : x ≤ h = c.1.1.1.1.0 in
    record {
      low_min = p;
      low_desired = le_trans p q;
      low_max = le_trans p (le_trans q r);
      high_min = le_trans q (le_trans r s);
      high_desired = le_trans r s;
      high_max = s;
      min = q;
      max = r;
    }

-- a source that is there has a number
number_there : (s : Source1) (space : List ℕ) → (s ≡ Missing → ⊥) → (n : ℕ) × (number_in s space ≡ Some n)
number_there Missing space some = absurd (some refl)
number_there (Number value) space some = (value, refl)
number_there (At field) space some = (_, refl)

-- ---- a wish

pub can_put : (cpu : Binding) (space : List ℕ) (wish : Wish) → IsRight cpu → LiesIn (length space) cpu → wish_fault cpu space wish ≡ None
    → CanPut cpu space wish
can_put cpu space wish right inside none =
    let s : ℕ → Source1 = source_at cpu in
    let a = parts (register_fault wish.min (s 8) 8) _ none in
    let b = parts (register_fault wish.max (s 9) 9) _ a.1 in
    let c = parts (width_fault wish.min (s 8) 8) _ b.1 in
    let d = parts (width_fault (Some wish.desired) (s 7) 7) _ c.1 in
    let e = parts (width_fault wish.max (s 9) 9) _ d.1 in
    let min_there : IsThere wish.min (s 8) = there wish.min (s 8) 8 a.0 in
    let max_there : IsThere wish.max (s 9) = there wish.max (s 9) 9 b.0 in
    let min_fits : FitsInto wish.min (s 8) = fits wish.min (s 8) 8 c.0 in
    let desired_fits : FitsInto (Some wish.desired) (s 7) = fits (Some wish.desired) (s 7) 7 d.0 in
    let max_fits : FitsInto wish.max (s 9) = fits wish.max (s 9) 9 e.0 in
    record {
      min_there = min_there;
      max_there = max_there;
      min_fits = min_fits;
      desired_fits = desired_fits;
      max_fits = max_fits;
      in_range =
          subst (Rises 0) (sym (performances_after cpu wish space right inside min_there max_there min_fits desired_fits max_fits))
          (rises (number_in (s 5) space) (number_in (s 2) space) (asked wish.min (s 8) space) wish.desired (asked wish.max (s 9) space)
          (ordered (number_in (s 5) space) (number_in (s 2) space) (asked wish.min (s 8) space) wish.desired (asked wish.max (s 9) space) e.1));
    }

pub no_wish_fault : (cpu : Binding) (space : List ℕ) (wish : Wish) → IsRight cpu → LiesIn (length space) cpu → CanPut cpu space wish
    → wish_fault cpu space wish ≡ None
no_wish_fault cpu space wish right inside can =
    let s : ℕ → Source1 = source_at cpu in
    let m : Option ℕ = asked wish.min (s 8) space in
    let x : Option ℕ = asked wish.max (s 9) space in
    let chain : Rises 0 (chain_of (number_in (s 5) space) m wish.desired x (number_in (s 2) space)) =
    subst (Rises 0) (performances_after cpu wish space right inside can.min_there can.max_there can.min_fits can.desired_fits can.max_fits) can.in_range in
    let l = number_there (s 5) space right.lowest in
    let h = number_there (s 2) space right.highest in
    let both_there : Rises 0 (chain_of (Some l.0) m wish.desired x (Some h.0)) =
    subst (λ (o : Option ℕ). Rises 0 (chain_of (Some l.0) m wish.desired x o)) h.1
    (subst (λ (o : Option ℕ). Rises 0 (chain_of o m wish.desired x (number_in (s 2) space))) l.1 chain) in
    let order : order_fault (Some l.0) (Some h.0) m wish.desired x ≡ None =
    no_order_fault (Some l.0) (Some h.0) m wish.desired x (chained l.0 h.0 m wish.desired x both_there) in
    let last : order_fault (number_in (s 5) space) (number_in (s 2) space) m wish.desired x ≡ None =
    subst (λ (o : Option ℕ). order_fault o (number_in (s 2) space) m wish.desired x ≡ None) (sym l.1)
    (subst (λ (o : Option ℕ). order_fault (Some l.0) o m wish.desired x ≡ None) (sym h.1) order) in
    both (register_fault wish.min (s 8) 8) _ (is_there wish.min (s 8) 8 can.min_there)
    (both (register_fault wish.max (s 9) 9) _ (is_there wish.max (s 9) 9 can.max_there)
    (both (width_fault wish.min (s 8) 8) _ (does_fit wish.min (s 8) 8 can.min_fits)
    (both (width_fault (Some wish.desired) (s 7) 7) _ (does_fit (Some wish.desired) (s 7) 7 can.desired_fits)
    (both (width_fault wish.max (s 9) 9) _ (does_fit wish.max (s 9) 9 can.max_fits) last))))

pub exactly : (cpu : Binding) (space : List ℕ) (wish : Wish) → IsRight cpu → LiesIn (length space) cpu
    → (wish_fault cpu space wish ≡ None) ↔ CanPut cpu space wish
exactly cpu space wish right inside = (can_put cpu space wish right inside, no_wish_fault cpu space wish right inside)

no_refusal : {P : Type 0} (refusal : SetRefusal) → None ≡ Some refusal → P
no_refusal refusal e = absurd cc

pub no_truth : {P : Type 0} → false ≡ true → P
no_truth e = absurd cc

-- a wish that a test refuses can't be put
pub refused : {P : Type 0} (cpu : Binding) (space : List ℕ) (wish : Wish) (refusal : SetRefusal) → IsRight cpu → LiesIn (length space) cpu
    → wish_fault cpu space wish ≡ Some refusal → CanPut cpu space wish → P
refused cpu space wish refusal right inside is can = no_refusal refusal (sym (no_wish_fault cpu space wish right inside can) ∙ is)
