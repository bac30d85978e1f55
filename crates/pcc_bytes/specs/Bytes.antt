-- Bytes, and the numbers that they spell.
use Rattle.std.specs.Prelude.{◌<◌, ℕ, List, drop, slice_index}
use Rattle.byteorder.specs.Endian.{little_number}

-- every element is a byte
pub record IsBytes (bytes : List ℕ) : Type 0 where
  pub fits : (place : ℕ) → slice_index bytes place < 256

-- the little-endian number of n bytes at a place (ACPI 6.5, 5.2: all numbers in tables are little-endian)
unfoldable pub number_at : ℕ → ℕ → List ℕ → ℕ
number_at n at bytes = little_number n (drop at bytes)
