-- Hexadecimal digits two at a time: the digits of a byte as a number of 16 bits, the first digit in its low half.
use Rattle.std.specs.Prelude.{ℕ, ◌+◌, ◌*◌, ◌/◌, ◌%◌, slice_index}
use Rattle.hex.specs.Hex.{lower_digits}

-- the two lower-case digits of a byte
abbrev pub pair_of : ℕ → ℕ
pair_of byte = slice_index lower_digits (byte / 16) + 256 * slice_index lower_digits (byte % 16)
