-- A list is made from another item by item.
use Rattle.std.proofs.Common.{◌≡◌, ℕ, ◌+◌, ◌<◌, ◌≤◌, List, [], ◌∷◌, ◌++◌, length, take, get_or, map, sym, ap, ◌∙◌}
use Rattle.std.proofs.lemmas.List.{map-append, take_all, take_more}

-- one item more
pub mapped_more : {X Y : Type 0} (f : X → Y) (xs : List X) (ys next : List Y) (i : ℕ) (x : X)
    → i < length xs → x ≡ get_or xs i x → next ≡ ys ++ f x ∷ [] → ys ≡ map f (take i xs) → next ≡ map f (take (i + 1) xs)
mapped_more {X = X} f xs ys next i x lt is e h =
    e ∙ ap (λ v. v ++ f x ∷ []) h ∙ sym (map-append f (take i xs) (x ∷ [])) ∙ ap (map f) (ap (λ y. take i xs ++ y ∷ []) is ∙ sym (take_more xs i x lt))

-- all of them
pub mapped_all : {X Y : Type 0} (f : X → Y) (xs : List X) (ys : List Y) (i : ℕ) → length xs ≤ i → ys ≡ map f (take i xs) → ys ≡ map f xs
mapped_all f xs ys i le h = h ∙ ap (map f) (take_all i xs le)
