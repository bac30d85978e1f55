-- The text of a table: a line for its header and a line for each structure, with a word `name=value` for each field. One space
-- (byte 32) separates two words, and a line feed (byte 10) ends each line.
use Rattle.std.specs.Prelude.{◌≡◌, ◌≤◌, ◌⊎◌, ℕ, suc, List, [], ◌∷◌, ◌++◌, length, take, drop, decimal, codes}
use Rattle.std.specs.List.{AllByRecursion, flat_map, join_with_byte}
use Rattle.pcc_bytes.specs.Bytes.{IsBytes}
use Rattle.pcc_bytes.specs.Fields.{hex_text, joined, line_text}
use Rattle.pcc_gas.specs.declared.address.Gas.{Gas}
use Rattle.pcct_table.specs.declared.subspace.Subspace.{Subspace}
use Rattle.pcct_table.specs.declared.subspace.Subspace.TheVariants.{Other}
use Rattle.pcct_table.specs.declared.table.Table.{Table}
use Rattle.pcct_table.specs.Rows.{Field, bytes_fields, header_fields, header_size, known_fields}
use Rattle.pcct_table.specs.Values.{Addressed, Bytes, Number, Value, values_in}
use Rattle.pcct_table.specs.Subspaces.{IsSubspace, kind_of, values_of}

-- an address: `space:width:offset:access:address`
unfoldable pub address_text : Gas → List ℕ
address_text gas =
    join_with_byte 58 (decimal gas.space ∷ decimal gas.width ∷ decimal gas.offset ∷ decimal gas.access ∷ decimal gas.address ∷ [])

-- a number in decimal, an address, or bytes in hexadecimal
abbrev pub value_text : Value → List ℕ
value_text (Number n) = decimal n
value_text (Addressed gas) = address_text gas
value_text (Bytes bytes) = hex_text bytes

-- `name=value`
abbrev pub word : Field → Value → List ℕ
word f v = f.name ++ 61 ∷ value_text v

-- a word for each field and its value
abbrev pub words : List Field → List Value → List (List ℕ)
words [] vs = []
words (f ∷ fs) [] = []
words (f ∷ fs) (v ∷ vs) = word f v ∷ words fs vs

-- ---- the header

-- the fields of a header after its checksum
abbrev pub later_fields : List Field
later_fields = drop 4 header_fields

-- the fields of a header that a table's value has: the revision, and those after the checksum
abbrev pub shown_fields : List Field
shown_fields = take 1 (drop 2 header_fields) ++ later_fields

abbrev pub later_values : Table → List Value
later_values t =
    Bytes t.oem_id
    ∷ Bytes t.oem_table
    ∷ Number t.oem_revision
    ∷ Bytes t.creator
    ∷ Number t.creator_revision
    ∷ Number t.flags
    ∷ Bytes t.reserved
    ∷ []

abbrev pub shown_values : Table → List Value
shown_values t = Number t.revision ∷ later_values t

-- `pcct` and the words of the header
abbrev pub header_words : Table → List (List ℕ)
header_words t = codes "pcct" ∷ words shown_fields (shown_values t)

unfoldable pub header_line : Table → List ℕ
header_line t = joined (header_words t)

-- ---- the structures

-- the fields of a structure after its head
abbrev pub fields_shown : Subspace → List Field
fields_shown (Other o) = bytes_fields (length o.bytes)
fields_shown s = known_fields (kind_of s)

-- `subspace PLACE type KIND` and the words of the structure
abbrev pub show_words : ℕ → Subspace → List (List ℕ)
show_words place s =
    codes "subspace" ∷ decimal place ∷ codes "type" ∷ decimal (kind_of s) ∷ words (fields_shown s) (values_of s)

unfoldable pub show_line : ℕ → Subspace → List ℕ
show_line place s = joined (show_words place s)

-- the lines of structures, the first of which has this place
abbrev pub structure_lines : ℕ → List Subspace → List (List ℕ)
structure_lines place [] = []
structure_lines place (s ∷ ss) = show_line place s ∷ structure_lines (suc place) ss

-- ---- a table

abbrev pub table_lines : Table → List (List ℕ)
table_lines t = header_line t ∷ structure_lines 0 t.subspaces

-- the one text of a table
unfoldable pub show_text : Table → List ℕ
show_text t = flat_map line_text (table_lines t)

-- A table that has a text: some bytes of a header spell its fields, its revision is 1 or 2 (14.1), and it has 256 structures at most,
-- each of which some bytes spell. A table that some bytes spell is one.
pub record HasText (t : Table) : Type 0 where
  pub bytes : List ℕ
  pub fit : IsBytes bytes
  pub least : header_size ≤ length bytes
  pub values : values_in bytes shown_fields ≡ shown_values t
  pub known : (t.revision ≡ 1) ⊎ (t.revision ≡ 2)
  pub spelled : AllByRecursion IsSubspace t.subspaces
  pub few : length t.subspaces ≤ 256
