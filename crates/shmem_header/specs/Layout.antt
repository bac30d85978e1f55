-- The headers of shared memory, field by field: how many bytes a field has, and the place of the first of them (ACPI 6.5, 14.2 to 14.4).
use Rattle.std.specs.Prelude.{ℕ, ◌^◌, ◌<◌, List, bit_or}
use Rattle.pcc_bytes.specs.Bytes.{number_at}
use Rattle.shmem_header.specs.declared.header.Generic.{Generic}
use Rattle.shmem_header.specs.declared.header.Extended.{Extended}
use Rattle.shmem_header.specs.declared.header.Reduced.{Reduced}

-- the header of types 0 to 2, of 8 bytes (14.2)
unfoldable pub generic_in : List ℕ → Generic
generic_in bytes = record {
  signature = number_at 4 0 bytes;
  command = number_at 2 4 bytes;
  status = number_at 2 6 bytes;
}

-- the header of types 3 and 4, of 16 bytes (14.3)
unfoldable pub extended_in : List ℕ → Extended
extended_in bytes = record {
  signature = number_at 4 0 bytes;
  flags = number_at 4 4 bytes;
  length = number_at 4 8 bytes;
  command = number_at 4 12 bytes;
}

-- the header of type 5, of 8 bytes (14.4)
unfoldable pub reduced_in : List ℕ → Reduced
reduced_in bytes = record {
  signature = number_at 4 0 bytes;
  command = number_at 4 4 bytes;
}

-- "PCC" above the number of the subspace
abbrev pub signature_of : ℕ → ℕ
signature_of id = bit_or 0x50434300 id

-- ---- each field fits its bytes

pub record IsGeneric (header : Generic) : Type 0 where
  pub signature : header.signature < 2 ^ 32
  pub command : header.command < 2 ^ 16
  pub status : header.status < 2 ^ 16

pub record IsExtended (header : Extended) : Type 0 where
  pub signature : header.signature < 2 ^ 32
  pub flags : header.flags < 2 ^ 32
  pub len : header.length < 2 ^ 32
  pub command : header.command < 2 ^ 32

pub record IsReduced (header : Reduced) : Type 0 where
  pub signature : header.signature < 2 ^ 32
  pub command : header.command < 2 ^ 32
