-- What bytes spell a Platform Communications Channel Table (PCCT), as a relation on slices (ACPI 6.5, 5.2.6 and 14.1).
use Rattle.std.specs.Prelude.{◌≡◌, ◌≤◌, ◌⊎◌, ℕ, ◌%◌, List, [], ◌∷◌, ◌++◌, length, drop, sum, codes}
use Rattle.pcc_bytes.specs.Bytes.{IsBytes}
use Rattle.pcct_table.specs.declared.subspace.Subspace.{Subspace}
use Rattle.pcct_table.specs.declared.table.Table.{Table}
use Rattle.pcct_table.specs.Rows.{header_fields, header_size, number_in}
use Rattle.pcct_table.specs.Values.{Value, Number, Bytes, values_in}
use Rattle.pcct_table.specs.Subspaces.{SubspaceBytes}

-- a table has at most 256 structures (14.1), of 255 bytes at most
abbrev pub most_structures : ℕ
most_structures = 256

abbrev pub most_bytes : ℕ
most_bytes = 65328

-- the values of a header's fields, in their order: the signature, the number of all bytes, the checksum's byte, and what the table says
abbrev pub header_values : List ℕ → ℕ → ℕ → Table → List Value
header_values signature len check t =
    Bytes signature
    ∷ Number len
    ∷ Number t.revision
    ∷ Number check
    ∷ Bytes t.oem_id
    ∷ Bytes t.oem_table
    ∷ Number t.oem_revision
    ∷ Bytes t.creator
    ∷ Number t.creator_revision
    ∷ Number t.flags
    ∷ Bytes t.reserved
    ∷ []

-- the byte of a header that makes the sum right
abbrev pub check_in : List ℕ → ℕ
check_in bytes = number_in header_fields (codes "checksum") bytes

-- the number of bytes that a header states
abbrev pub length_in : List ℕ → ℕ
length_in bytes = number_in header_fields (codes "length") bytes

-- bytes are those of the structures, one after the other
abbrev pub Structures : List ℕ → List Subspace → Type 0
Structures bytes [] = bytes ≡ []
Structures bytes (s ∷ ss) = (front : List ℕ) × (rest : List ℕ) × (bytes ≡ front ++ rest) × SubspaceBytes front s × Structures rest ss

-- Bytes spell a table: a header with the signature, the number of all bytes, a known revision and the table's fields, then its
-- structures, and the sum of all bytes is 0 modulo 256.
pub record TableBytes (bytes : List ℕ) (t : Table) : Type 0 where
  pub least : header_size ≤ length bytes
  pub most : length bytes ≤ most_bytes
  pub header : values_in bytes header_fields ≡ header_values (codes "PCCT") (length bytes) (check_in bytes) t
  pub revision : (t.revision ≡ 1) ⊎ (t.revision ≡ 2)
  pub structures : Structures (drop header_size bytes) t.subspaces
  pub few : length t.subspaces ≤ most_structures
  pub checksum : sum bytes % 256 ≡ 0

-- a table that some bytes spell
pub record IsTableValue (t : Table) : Type 0 where
  pub bytes : List ℕ
  pub fit : IsBytes bytes
  pub spell : TableBytes bytes t

-- bytes begin with those of a table
pub record BeginsTable (bytes : List ℕ) : Type 0 where
  pub table : Table
  pub front : List ℕ
  pub rest : List ℕ
  pub spelled : TableBytes front table
  pub whole : bytes ≡ front ++ rest
