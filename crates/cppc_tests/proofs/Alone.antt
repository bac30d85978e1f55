-- A processor alone, and two of one communication space.
use Rattle.std.proofs.Common.{◌≡◌, ℕ, zero, suc, Bool, true, false, [], ◌∷◌, All, refl, arith}
use Rattle.std.specs.Prelude.{◌↔◌, AllPairs, IsFalse}
use Rattle.cpc_package.specs.Bindings.{AreProcessors, CanRead, IsRight, LiesIn, ShareBit, source_at}
use Rattle.cpc_package.specs.declared.binding.Binding.{Binding}
use Rattle.cpc_package.specs.declared.binding.Source1.{Source1}
use Rattle.cpc_package.specs.declared.binding.Source1.TheVariants.{Missing, Number, At}
use Rattle.cppc_device.specs.Ranges.{Fits}

alone : (P : Binding → Type 0) (cpu : Binding) → P cpu → All P (cpu ∷ [])
alone P cpu h zero d lt = h
alone P cpu h (suc k) d lt = absurd (omega arith)

pub one_processor : (len : ℕ) (cpu : Binding) → IsRight cpu → LiesIn len cpu → AreProcessors len (cpu ∷ [])
one_processor len cpu right inside = record {
  right = alone IsRight cpu right;
  inside = alone (LiesIn len) cpu inside;
  subspace = λ i j d lt within. absurd (omega arith);
  apart = λ i j d lt within. absurd (omega arith);
}

both : (P : Binding → Type 0) (a b : Binding) → P a → P b → All P (a ∷ b ∷ [])
both P a b h k zero d lt = h
both P a b h k (suc zero) d lt = k
both P a b h k (suc (suc n)) d lt = absurd (omega arith)

pair : (R : Binding → Binding → Type 0) (a b : Binding) → R a b → AllPairs R (a ∷ b ∷ [])
pair R a b h zero zero d lt within = absurd (omega arith)
pair R a b h zero (suc zero) d lt within = h
pair R a b h (suc i) zero d lt within = absurd (omega arith)
pair R a b h (suc i) (suc zero) d lt within = absurd (omega arith)
pair R a b h i (suc (suc j)) d lt within = absurd (omega arith)

unshared : (P : Type 0) (t : Bool) → t ≡ true → (IsFalse t ↔ P) → P → ⊥
unshared P t is h p = let not_so : t ≡ false = h.1 p in absurd cc

pub two_processors : (len : ℕ) (a b : Binding) (apart : Bool) → IsRight a → LiesIn len a → IsRight b → LiesIn len b → a.subspace ≡ b.subspace
    → apart ≡ true → (IsFalse apart ↔ ShareBit a b) → AreProcessors len (a ∷ b ∷ [])
two_processors len a b t right inside other_right other_inside same is h = record {
  right = both IsRight a b right other_right;
  inside = both (LiesIn len) a b inside other_inside;
  subspace = pair (λ a b. a.subspace ≡ b.subspace) a b same;
  apart = pair (λ a b. ShareBit a b → ⊥) a b (unshared (ShareBit a b) t is h);
}

read_by : (cpu : Binding) (len n : ℕ) (source : Source1) → IsRight cpu → LiesIn len cpu → source_at cpu n ≡ source → CanRead len source
read_by cpu len n Missing right inside e = tt
read_by cpu len n (Number value) right inside e = tt
read_by cpu len n (At field) right inside e = (right.widths n field e, inside n field e)

pub one_fits : (len : ℕ) (cpu : Binding) → IsRight cpu → LiesIn len cpu → Fits len cpu
one_fits len cpu right inside n = read_by cpu len n (source_at cpu n) right inside refl

pub all_fit : (len : ℕ) (cpu : Binding) → IsRight cpu → LiesIn len cpu → All (Fits len) (cpu ∷ [])
all_fit len cpu right inside = alone (Fits len) cpu (one_fits len cpu right inside)
