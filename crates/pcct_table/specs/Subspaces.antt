-- The bytes of a structure, and what it says.
use Rattle.std.specs.Prelude.{◌≡◌, ◌≤◌, ◌+◌, ℕ, List, [], ◌∷◌, length, slice_index, Some}
use Rattle.pcc_bytes.specs.Bytes.{IsBytes}
use Rattle.pcc_gas.specs.declared.address.Gas.{Gas}
use Rattle.pcct_table.specs.declared.subspace.Subspace.{Subspace}
use Rattle.pcct_table.specs.declared.subspace.Subspace.TheVariants.{Generic, HwReduced1, HwReduced2, Initiator, Responder, HwRegister, Other}
use Rattle.pcct_table.specs.Rows.{generic_fields, hw_reduced1_fields, hw_reduced2_fields, extended_fields, hw_register_fields, fields_of_kind, size_of_kind, unknown_kinds}
use Rattle.pcct_table.specs.Values.{Bytes, Value, values_in}
use Rattle.pcct_table.specs.Structures.{values0, values1, values2, values34, values5, spelled}

-- the type of a structure
abbrev pub kind_of : Subspace → ℕ
kind_of (Generic t) = 0
kind_of (HwReduced1 t) = 1
kind_of (HwReduced2 t) = 2
kind_of (Initiator t) = 3
kind_of (Responder t) = 4
kind_of (HwRegister t) = 5
kind_of (Other o) = o.kind

-- the values of its fields
abbrev pub values_of : Subspace → List Value
values_of (Generic t) = values0 t
values_of (HwReduced1 t) = values1 t
values_of (HwReduced2 t) = values2 t
values_of (Initiator t) = values34 t
values_of (Responder t) = values34 t
values_of (HwRegister t) = values5 t
values_of (Other o) = Bytes o.bytes ∷ []

-- where its memory begins
abbrev pub base_of : Subspace → ℕ
base_of (Generic t) = t.base
base_of (HwReduced1 t) = t.base
base_of (HwReduced2 t) = t.base
base_of (Initiator t) = t.base
base_of (Responder t) = t.base
base_of (HwRegister t) = t.base
base_of (Other o) = 0

-- the bytes of its memory
abbrev pub memory_len_of : Subspace → ℕ
memory_len_of (Generic t) = t.length
memory_len_of (HwReduced1 t) = t.length
memory_len_of (HwReduced2 t) = t.length
memory_len_of (Initiator t) = t.length
memory_len_of (Responder t) = t.length
memory_len_of (HwRegister t) = t.length
memory_len_of (Other o) = 0

-- how many commands a minute it takes, 0 for no limit; type 5 has none, and nothing is known of an unknown type
abbrev pub rate_of : Subspace → ℕ
rate_of (Generic t) = t.rate
rate_of (HwReduced1 t) = t.rate
rate_of (HwReduced2 t) = t.rate
rate_of (Initiator t) = t.rate
rate_of (Responder t) = t.rate
rate_of (HwRegister t) = 0
rate_of (Other o) = 0

-- the least time from a command's end to the next command
abbrev pub turnaround_of : Subspace → ℕ
turnaround_of (Generic t) = t.turnaround
turnaround_of (HwReduced1 t) = t.turnaround
turnaround_of (HwReduced2 t) = t.turnaround
turnaround_of (Initiator t) = t.turnaround
turnaround_of (Responder t) = t.turnaround
turnaround_of (HwRegister t) = t.turnaround
turnaround_of (Other o) = 0

-- the address of its doorbell register
abbrev pub doorbell_of : Subspace → Gas
doorbell_of (Generic t) = t.doorbell
doorbell_of (HwReduced1 t) = t.doorbell
doorbell_of (HwReduced2 t) = t.doorbell
doorbell_of (Initiator t) = t.doorbell
doorbell_of (Responder t) = t.doorbell
doorbell_of (HwRegister t) = t.doorbell
doorbell_of (Other o) = record { space = 0; width = 0; offset = 0; access = 0; address = 0 }

-- a structure that is kept as bytes has none of the known types
abbrev pub IsUnknown : Subspace → Type 0
IsUnknown (Other o) = unknown_kinds ≤ o.kind
IsUnknown s = Unit {0}

-- Bytes spell a structure: they are as many as its type has, or of an unknown type 2 to 255; the first is the type and the second that
-- number, and at the place of each field stands its value.
pub record SubspaceBytes (bytes : List ℕ) (s : Subspace) : Type 0 where
  pub unknown : IsUnknown s
  pub size : size_of_kind (kind_of s) (length bytes) ≡ Some (length bytes)
  pub kind : slice_index bytes 0 ≡ kind_of s
  pub told : slice_index bytes 1 ≡ length bytes
  pub values : values_in bytes (fields_of_kind (kind_of s) (length bytes)) ≡ values_of s

-- a structure that some bytes spell
pub record IsSubspace (s : Subspace) : Type 0 where
  pub bytes : List ℕ
  pub fit : IsBytes bytes
  pub spell : SubspaceBytes bytes s

-- the bytes that spell a structure
abbrev pub subspace_bytes : Subspace → List ℕ
subspace_bytes (Generic t) = spelled 0 62 generic_fields (values0 t)
subspace_bytes (HwReduced1 t) = spelled 1 62 hw_reduced1_fields (values1 t)
subspace_bytes (HwReduced2 t) = spelled 2 90 hw_reduced2_fields (values2 t)
subspace_bytes (Initiator t) = spelled 3 164 extended_fields (values34 t)
subspace_bytes (Responder t) = spelled 4 164 extended_fields (values34 t)
subspace_bytes (HwRegister t) = spelled 5 96 hw_register_fields (values5 t)
subspace_bytes (Other o) = o.kind ∷ (2 + length o.bytes) ∷ o.bytes
