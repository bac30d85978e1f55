-- A list is written item by item.
use Rattle.std.proofs.Common.{◌≡◌, ℕ, ◌+◌, ◌<◌, ◌≤◌, List, [], ◌∷◌, ◌++◌, length, map, drop, get_or, refl, sym, ap, ◌∙◌}
use Rattle.std.specs.List.{flat_map}
use Rattle.std.proofs.lemmas.List.{append_assoc, append-nil, drop_more, drop_all}
use Rattle.pcc_text.specs.declared.writing.Piece.{Piece}
use Rattle.pcc_text.specs.Pieces.{spell, spelled, spelled_of}

-- of a list that is written item by item, each by f, the first i are written after what was there first
pub record Appending {A : Type 0} (f : A → List ℕ) (first out : List ℕ) (xs : List A) (i : ℕ) : Type 0 where
  pub whole : out ++ flat_map f (drop i xs) ≡ first ++ flat_map f xs

pub appending_start : {A : Type 0} (f : A → List ℕ) (out : List ℕ) (xs : List A) → Appending f out out xs 0
appending_start f out xs = record { whole = refl }

pub appending_more : {A : Type 0} (f : A → List ℕ) (first out out' : List ℕ) (xs : List A) (i : ℕ) (d : A) → i < length xs
    → out' ≡ out ++ f (get_or xs i d) → Appending f first out xs i → Appending f first out' xs (i + 1)
appending_more f first out out' xs i d lt e w =
    let step : flat_map f (drop i xs) ≡ f (get_or xs i d) ++ flat_map f (drop (i + 1) xs) = ap (flat_map f) (drop_more xs i d lt) in
    record { whole = ap (λ (o : List ℕ). o ++ flat_map f (drop (i + 1) xs)) e ∙ append_assoc out (f (get_or xs i d)) (flat_map f (drop (i + 1) xs)) ∙ ap (λ (t : List ℕ). out ++ t) (sym step) ∙ w.whole }

pub appending_end : {A : Type 0} (f : A → List ℕ) (first out : List ℕ) (xs : List A) (i : ℕ) → length xs ≤ i → Appending f first out xs i
    → out ≡ first ++ flat_map f xs
appending_end f first out xs i le w =
    let none : flat_map f (drop i xs) ≡ [] = ap (flat_map f) (drop_all i xs le) in
    sym (append-nil out) ∙ ap (λ (t : List ℕ). out ++ t) (sym none) ∙ w.whole

abbrev pub piece_text : Piece → List ℕ
piece_text p = spell (spelled_of p)

pub pieces_text : (ps : List Piece) → flat_map piece_text ps ≡ spelled (map spelled_of ps)
unfolding spelled
pieces_text [] = refl
pieces_text (p ∷ ps) = ap (λ (t : List ℕ). spell (spelled_of p) ++ t) (pieces_text ps)
