-- The bits of a space of bytes, and fields of them.
use Rattle.std.specs.Prelude.{◌≡◌, ◌<◌, ◌≤◌, ℕ, zero, suc, ◌+◌, ◌*◌, ◌/◌, ◌%◌, ◌^◌, List, length, slice_index}
use Rattle.std.specs.Int.{bit_at}
use Rattle.pcc_gas.specs.declared.field.Field.{Field}

-- a bit of a space, 0 or 1: the lowest bit of each byte is its first
abbrev pub bit_of : List ℕ → ℕ → ℕ
bit_of space bit = bit_at (slice_index space (bit / 8)) (bit % 8)

-- the number whose bits are those of a space from a place on: the sum of 2 ^ k over each k below n whose bit is 1
abbrev pub bits_from : List ℕ → ℕ → ℕ → ℕ
bits_from space at zero = 0
bits_from space at (suc k) = bits_from space at k + bit_of space (at + k) * 2 ^ k

-- the number in a field
unfoldable pub field_value : List ℕ → Field → ℕ
field_value space field = bits_from space field.at_bit field.width

-- a bit belongs to a field
pub record InField (field : Field) (bit : ℕ) : Type 0 where
  pub from : field.at_bit ≤ bit
  pub below : bit < field.at_bit + field.width

-- no bit belongs to both fields
abbrev pub AreApart : Field → Field → Type 0
AreApart a b = (bit : ℕ) → InField a bit → InField b bit → ⊥

-- after: the space with a number put into a field of it, and no other bit changed
pub record FieldPut (space : List ℕ) (field : Field) (value : ℕ) (after : List ℕ) : Type 0 where
  pub len : length after ≡ length space
  pub put : field_value after field ≡ value
  pub others : (bit : ℕ) → (InField field bit → ⊥) → bit_of after bit ≡ bit_of space bit

-- after: the space with the bits of a number in count bytes from a place on
pub record Overwritten (space after : List ℕ) (first count number : ℕ) : Type 0 where
  pub len : length after ≡ length space
  pub before : (bit : ℕ) → bit < 8 * first → bit_of after bit ≡ bit_of space bit
  pub inside : (i : ℕ) → i < 8 * count → bit_of after (8 * first + i) ≡ bit_at number i
  pub behind : (i : ℕ) → 8 * count ≤ i → bit_of after (8 * first + i) ≡ bit_of space (8 * first + i)
