-- Lists of a known length.
use Rattle.std.proofs.Common.{◌≡◌, ℕ, ◌+◌, List, [], ◌∷◌, length, refl, arith}
use Rattle.std.specs.Prelude.{slice_index}

pub length-eight : (a b c d e f g h : ℕ) (xs : List ℕ) → length (a ∷ b ∷ c ∷ d ∷ e ∷ f ∷ g ∷ h ∷ xs) ≡ 8 + length xs
length-eight a b c d e f g h xs = omega arith

pub two_items : (xs : List ℕ) → length xs ≡ 2 → xs ≡ slice_index xs 0 ∷ slice_index xs 1 ∷ []
two_items [] h = absurd (omega arith)
two_items (a ∷ []) h = absurd (omega arith)
two_items (a ∷ b ∷ []) h = refl
two_items (a ∷ b ∷ c ∷ xs) h = absurd (omega arith)
