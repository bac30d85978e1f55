-- The values of fields, and their bytes.
use Rattle.std.specs.Prelude.{ℕ, List, [], ◌∷◌, ◌++◌, map, take, drop}
use Rattle.byteorder.specs.Endian.{little_bytes}
use Rattle.pcc_bytes.specs.Bytes.{number_at}
use Rattle.pcc_gas.specs.declared.address.Gas.{Gas}
use Rattle.pcc_gas.specs.Addresses.{address_in, address_bytes}
use Rattle.pcct_table.specs.declared.rows.Kind.{Kind}
use Rattle.pcct_table.specs.declared.rows.Kind.TheVariants.{Byte, Word, Dword, Qword, Address, Array}
use Rattle.pcct_table.specs.Rows.{Field}

-- n bytes at a place
unfoldable pub bytes_at : ℕ → ℕ → List ℕ → List ℕ
bytes_at n at bytes = take n (drop at bytes)

-- the generic address at a place
unfoldable pub address_at : ℕ → List ℕ → Gas
address_at at bytes = address_in (bytes_at 12 at bytes)

-- the n bytes of a number, lowest first
unfoldable pub number_bytes : ℕ → ℕ → List ℕ
number_bytes n x = little_bytes n x

-- the value of a field
pub data Value : Type 0 where
  Number : ℕ → Value
  Addressed : Gas → Value
  Bytes : List ℕ → Value

-- what a field of this kind says at a place
abbrev pub value_at : Kind → ℕ → List ℕ → Value
value_at Byte at bytes = Number (number_at 1 at bytes)
value_at Word at bytes = Number (number_at 2 at bytes)
value_at Dword at bytes = Number (number_at 4 at bytes)
value_at Qword at bytes = Number (number_at 8 at bytes)
value_at Address at bytes = Addressed (address_at at bytes)
value_at (Array n) at bytes = Bytes (bytes_at n at bytes)

-- what the fields say
abbrev pub values_in : List ℕ → List Field → List Value
values_in bytes fields = map (λ f. value_at f.kind f.at bytes) fields

-- the bytes of a value in a field of this kind
abbrev pub value_bytes : Kind → Value → List ℕ
value_bytes Byte (Number x) = number_bytes 1 x
value_bytes Word (Number x) = number_bytes 2 x
value_bytes Dword (Number x) = number_bytes 4 x
value_bytes Qword (Number x) = number_bytes 8 x
value_bytes Address (Addressed gas) = address_bytes gas
value_bytes (Array n) (Bytes bytes) = bytes
value_bytes kind value = []

-- the bytes of fields, one after the other
abbrev pub fields_bytes : List Field → List Value → List ℕ
fields_bytes [] values = []
fields_bytes (f ∷ fs) [] = []
fields_bytes (f ∷ fs) (v ∷ vs) = value_bytes f.kind v ++ fields_bytes fs vs
