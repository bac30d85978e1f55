-- Words of eight bytes, low byte first.
use Rattle.std.specs.Prelude.{ℕ, zero, suc, ◌/◌, ◌^◌, ◌<◌, List, [], ◌∷◌, length, drop, slice_index}
use Rattle.std.specs.List.{flat_map}
use Rattle.byteorder.specs.Endian.{little_bytes, little_number}

-- the word that some bytes begin with: the little-endian number of the first eight
unfoldable pub word_of : List ℕ → ℕ
word_of bytes = little_number 8 bytes

-- the eight bytes of a word
unfoldable pub word_bytes : ℕ → List ℕ
word_bytes word = little_bytes 8 word

-- n words, one after the other
abbrev pub first_words : ℕ → List ℕ → List ℕ
first_words zero bytes = []
first_words (suc n) bytes = word_of bytes ∷ first_words n (drop 8 bytes)

-- the words of some bytes, one for each eight of them; fewer than eight at the end are no word
abbrev pub words_of : List ℕ → List ℕ
words_of bytes = first_words (length bytes / 8) bytes

-- the bytes of some words
abbrev pub bytes_of : List ℕ → List ℕ
bytes_of words = flat_map word_bytes words

-- every element is a word
pub record IsWords (words : List ℕ) : Type 0 where
  pub fits : (place : ℕ) → slice_index words place < 2 ^ 64
