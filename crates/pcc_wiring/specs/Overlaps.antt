-- Opened subspaces whose shared memories meet.
use Rattle.std.specs.Prelude.{◌≡◌, ◌<◌, ◌≤◌, ℕ, ◌+◌, List, length, slice_index_or}
use Rattle.pcc_wiring.specs.declared.overlap.Overlap.{Overlap}

-- an opened subspace: its ID, and the base and the length of its memory
abbrev pub id_of : ℕ × ℕ × ℕ → ℕ
id_of (id, base, len) = id

abbrev pub base_of : ℕ × ℕ × ℕ → ℕ
base_of (id, base, len) = base

-- where its memory ends; addresses are counted without an upper limit
abbrev pub end_of : ℕ × ℕ × ℕ → ℕ
end_of (id, base, len) = base + len

-- some byte lies in both memories
pub record Meet (a b : ℕ × ℕ × ℕ) : Type 0 where
  pub byte : ℕ
  pub in_a : (base_of a ≤ byte) × (byte < end_of a)
  pub in_b : (base_of b ≤ byte) × (byte < end_of b)

-- the one with a number
abbrev pub at : List (ℕ × ℕ × ℕ) → ℕ → ℕ × ℕ × ℕ
at opened i = slice_index_or opened i (0, 0, 0)

-- no two of them meet
abbrev pub AreApart : List (ℕ × ℕ × ℕ) → Type 0
AreApart opened = (i j : ℕ) → i < j → j < length opened → Meet (at opened i) (at opened j) → ⊥

-- The first pair that meets: no pair meets whose second precedes this second, and none with this second whose first precedes this first.
pub record IsFirstOverlap (opened : List (ℕ × ℕ × ℕ)) (found : Overlap) : Type 0 where
  pub a : ℕ
  pub b : ℕ
  pub order : a < b
  pub within : b < length opened
  pub meet : Meet (at opened a) (at opened b)
  pub before_b : (i j : ℕ) → i < j → j < b → Meet (at opened i) (at opened j) → ⊥
  pub before_a : (i : ℕ) → i < a → Meet (at opened i) (at opened b) → ⊥
  pub ids : (found.a ≡ id_of (at opened a)) × (found.b ≡ id_of (at opened b))

-- some two of them meet
pub record HasOverlap (opened : List (ℕ × ℕ × ℕ)) : Type 0 where
  pub found : Overlap
  pub first : IsFirstOverlap opened found
