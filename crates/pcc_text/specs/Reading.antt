-- What fields spell, as functions of the bytes of a field.
use Rattle.std.specs.Prelude.{◌==◌, ◌&&◌, ℕ, nat_lt, nat_le, Bool, false, if◌then◌else◌, List, [], ◌∷◌, length, slice_index, bytes_eq}
use Rattle.std.specs.Prelude.{Option, Some, None, Result, Ok, Err}
use Rattle.std.specs.List.{list_all}
use Rattle.std.specs.Char.{is_ascii_digit}
use Rattle.std.specs.Str.Parse.{digits_value, digits_value_after}
use Rattle.hex.specs.Hex.{decode_of}
use Rattle.hex.specs.declared.error.FromHexError.{FromHexError}
use Rattle.pcc_bytes.specs.Fields.{hex_text}

-- one decimal digit or more, with no leading zero
abbrev pub is_numeral : List ℕ → Bool
is_numeral field =
    if length field == 0 then false
    else if nat_lt 1 (length field) && slice_index field 0 == 48 then false
    else list_all is_ascii_digit field

-- the number that a field spells in decimal, if it is at most a limit
unfoldable pub number_of : ℕ → List ℕ → Option ℕ
number_of limit field =
    if is_numeral field then (if nat_le (digits_value 10 field) limit then Some (digits_value 10 field) else None)
    else None

-- the number that digits write after those of n, if it is at most a limit
abbrev pub number_after : ℕ → ℕ → List ℕ → Option ℕ
number_after limit n digits =
    let value = digits_value_after 10 n digits in
    if list_all is_ascii_digit digits then (if nat_le value limit then Some value else None) else None

-- decoded bytes, if the field is their text
abbrev pub hex_from : List ℕ → Result (List ℕ) FromHexError → Option (List ℕ)
hex_from field (Ok bytes) = if bytes_eq (hex_text bytes) field then Some bytes else None
hex_from field (Err e) = None

-- the bytes that a field spells: `-` is none, and else there are two lower-case hexadecimal digits for each
unfoldable pub hex_of : List ℕ → Option (List ℕ)
hex_of field = if bytes_eq field (45 ∷ []) then Some [] else hex_from field (decode_of field)
