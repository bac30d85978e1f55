-- A text as a list of pieces, each a text as it is, a number or bytes.
use Rattle.std.specs.Prelude.{ℕ, if◌then◌else◌, List, decimal}
use Rattle.std.specs.List.{flat_map}
use Rattle.pcc_bytes.specs.Fields.{hex_text}
use Rattle.pcc_text.specs.declared.writing.Piece.{Piece}
use Rattle.pcc_text.specs.declared.writing.Piece.TheVariants as piece

pub data Spelled : Type 0 where
  Words : List ℕ → Spelled
  Decimal : ℕ → Spelled
  HexOf : List ℕ → Spelled

-- a text as it is, a number in decimal, and bytes in hexadecimal
abbrev pub spell : Spelled → List ℕ
spell (Words text) = text
spell (Decimal n) = decimal n
spell (HexOf bytes) = hex_text bytes

-- the pieces, one after the other
unfoldable pub spelled : List Spelled → List ℕ
spelled pieces = flat_map spell pieces

abbrev pub spelled_of : Piece → Spelled
spelled_of (piece.Text text) = Words text.now
spelled_of (piece.Number n) = Decimal n
spelled_of (piece.Wide n) = Decimal n
spelled_of (piece.Hex bytes) = HexOf bytes.now
spelled_of (piece.Bytes bytes) = HexOf bytes.now
spelled_of (piece.Either test first second) = Words (if test then first.now else second.now)
