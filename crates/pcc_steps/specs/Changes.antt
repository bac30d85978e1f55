-- Which words of a block changed: no other ones are stored.
use Rattle.std.specs.Prelude.{ℕ, ◌+◌, ◌==◌, if◌then◌else◌, List, [], ◌∷◌, drop}

-- the place of the first word that differs from the old one, for words from the place j on; the place after them where none differs
abbrev pub first_changed : ℕ → List ℕ → List ℕ → ℕ
first_changed j [] old = j
first_changed j (w ∷ ws) [] = j
first_changed j (w ∷ ws) (o ∷ os) = if w == o then first_changed (j + 1) ws os else j

-- the place of the first word of a block, from the place j on, that differs from the old one
abbrev pub next_changed : ℕ → List ℕ → List ℕ → ℕ
next_changed j new old = first_changed j (drop j new) (drop j old)

-- how many of the words differ from the old ones
abbrev pub changes : List ℕ → List ℕ → ℕ
changes [] old = 0
changes (w ∷ ws) [] = changes ws [] + 1
changes (w ∷ ws) (o ∷ os) = if w == o then changes ws os else changes ws os + 1

-- how many words of a block differ from the old ones, from the place j on
abbrev pub changes_from : ℕ → List ℕ → List ℕ → ℕ
changes_from j new old = changes (drop j new) (drop j old)
