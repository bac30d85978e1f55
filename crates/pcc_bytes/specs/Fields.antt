-- The fields and lines of a text. A number is spelled in decimal, without leading zeros.
use Rattle.std.specs.Prelude.{◌≡◌, ◌==◌, ℕ, true, not, List, [], ◌∷◌, ◌++◌}
use Rattle.std.specs.List.{slice_split, join_with_byte, list_all}
use Rattle.hex.specs.Hex.{encode_lower}

-- the text of bytes: two lower-case hexadecimal digits each, or `-` for none
abbrev pub hex_text : List ℕ → List ℕ
hex_text [] = 45 ∷ []
hex_text (b ∷ bs) = encode_lower (b ∷ bs)

-- the parts of a list between the bytes c
abbrev pub split_at : ℕ → List ℕ → List (List ℕ)
split_at c bytes = slice_split (λ b. b == c) bytes

-- the parts before the last one, and the last one
abbrev pub front_of : List (List ℕ) → List (List ℕ)
front_of [] = []
front_of (x ∷ []) = []
front_of (x ∷ y ∷ ys) = x ∷ front_of (y ∷ ys)

abbrev pub last_of : List (List ℕ) → List ℕ
last_of [] = []
last_of (x ∷ []) = x
last_of (x ∷ y ∷ ys) = last_of (y ∷ ys)

-- the lines of a text, without their line feeds, and the bytes after the last line feed
abbrev pub lines_of : List ℕ → List (List ℕ)
lines_of text = front_of (split_at 10 text)

abbrev pub last_in : List ℕ → List ℕ
last_in text = last_of (split_at 10 text)

-- fields with one space between two
abbrev pub joined : List (List ℕ) → List ℕ
joined fields = join_with_byte 32 fields

-- a line with its line feed
abbrev pub line_text : List ℕ → List ℕ
line_text line = line ++ 10 ∷ []

-- there is no line feed among the bytes
abbrev pub IsOneLine : List ℕ → Type 0
IsOneLine bytes = list_all (λ b. not (b == 10)) bytes ≡ true
