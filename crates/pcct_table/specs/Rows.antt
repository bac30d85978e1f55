-- The fields of the Platform Communications Channel Table and of its structures, a row for each (ACPI 6.5, 14.1).
use Rattle.std.specs.Prelude.{ℕ, ◌==◌, ◌-◌, nat_lt, if◌then◌else◌, List, [], ◌∷◌, ◌++◌, map, take, drop, Option, Some, None, codes}
use Rattle.std.specs.Str.{bytes_eq}
use Rattle.pcc_bytes.specs.Bytes.{number_at}
use Rattle.pcct_table.specs.declared.rows.Kind.{Kind}
use Rattle.pcct_table.specs.declared.rows.Kind.TheVariants.{Byte, Word, Dword, Qword, Address, Array}
use Rattle.pcct_table.specs.declared.rows.Row.{Row}

-- how many bytes a field has
abbrev pub width : Kind → ℕ
width Byte = 1
width Word = 2
width Dword = 4
width Qword = 8
width Address = 12
width (Array n) = n

-- a field: its name, the place of its first byte, and what it holds
pub record Field : Type 0 where
  pub name : List ℕ
  pub at : ℕ
  pub kind : Kind

abbrev pub field : List ℕ → ℕ → Kind → Field
field name at kind = record { name = name; at = at; kind = kind }

-- the rows of the program as fields
abbrev pub fields_of : List Row → List Field
fields_of rows = map (λ r. field r.0.now r.1 r.2) rows

-- the header of a table (5.2.6, 14.1)
abbrev pub header_fields : List Field
header_fields =
    field (codes "signature") 0 (Array 4)
    ∷ field (codes "length") 4 Dword
    ∷ field (codes "revision") 8 Byte
    ∷ field (codes "checksum") 9 Byte
    ∷ field (codes "oem_id") 10 (Array 6)
    ∷ field (codes "oem_table") 16 (Array 8)
    ∷ field (codes "oem_revision") 24 Dword
    ∷ field (codes "creator") 28 (Array 4)
    ∷ field (codes "creator_revision") 32 Dword
    ∷ field (codes "flags") 36 Dword
    ∷ field (codes "reserved") 40 (Array 8)
    ∷ []

-- the number of bytes of a header
abbrev pub header_size : ℕ
header_size = 48

-- the fields that types 0 to 2 share: their memory, their doorbell and their times
abbrev pub memory_fields : List Field
memory_fields =
    field (codes "base") 8 Qword
    ∷ field (codes "length") 16 Qword
    ∷ field (codes "doorbell") 24 Address
    ∷ field (codes "preserve") 36 Qword
    ∷ field (codes "write") 44 Qword
    ∷ field (codes "latency") 52 Dword
    ∷ field (codes "rate") 56 Dword
    ∷ field (codes "turnaround") 60 Word
    ∷ []

-- the fields that types 1 to 4 share: the platform's interrupt
abbrev pub interrupt_fields : List Field
interrupt_fields = field (codes "interrupt") 2 Dword ∷ field (codes "interrupt_flags") 6 Byte ∷ field (codes "reserved") 7 (Array 1) ∷ []

-- the generic communications subspace structure, of type 0, after its head (14.1.3)
abbrev pub generic_fields : List Field
generic_fields = field (codes "reserved") 2 (Array 6) ∷ memory_fields

-- the hardware-reduced subspace structure of type 1 (14.1.4)
abbrev pub hw_reduced1_fields : List Field
hw_reduced1_fields = interrupt_fields ++ memory_fields

-- the hardware-reduced subspace structure of type 2, whose interrupt is acknowledged by a register (14.1.5)
abbrev pub hw_reduced2_fields : List Field
hw_reduced2_fields =
    interrupt_fields
    ++ memory_fields
    ++ (field (codes "ack") 62 Address
    ∷ field (codes "ack_preserve") 74 Qword
    ∷ field (codes "ack_write") 82 Qword
    ∷ [])

-- the extended subspace structures, the initiator's of type 3 and the responder's of type 4 (14.1.6)
abbrev pub extended_fields : List Field
extended_fields =
    interrupt_fields
    ++ (field (codes "base") 8 Qword
    ∷ field (codes "length") 16 Dword
    ∷ field (codes "doorbell") 20 Address
    ∷ field (codes "preserve") 32 Qword
    ∷ field (codes "write") 40 Qword
    ∷ field (codes "latency") 48 Dword
    ∷ field (codes "rate") 52 Dword
    ∷ field (codes "turnaround") 56 Dword
    ∷ field (codes "ack") 60 Address
    ∷ field (codes "ack_preserve") 72 Qword
    ∷ field (codes "ack_set") 80 Qword
    ∷ field (codes "reserved2") 88 (Array 8)
    ∷ field (codes "check") 96 Address
    ∷ field (codes "check_mask") 108 Qword
    ∷ field (codes "update") 116 Address
    ∷ field (codes "update_preserve") 128 Qword
    ∷ field (codes "update_set") 136 Qword
    ∷ field (codes "error") 144 Address
    ∷ field (codes "error_mask") 156 Qword
    ∷ [])

-- the hardware registers based subspace structure, of type 5 (14.1.7)
abbrev pub hw_register_fields : List Field
hw_register_fields =
    field (codes "version") 2 Word
    ∷ field (codes "base") 4 Qword
    ∷ field (codes "length") 12 Qword
    ∷ field (codes "doorbell") 20 Address
    ∷ field (codes "preserve") 32 Qword
    ∷ field (codes "write") 40 Qword
    ∷ field (codes "check") 48 Address
    ∷ field (codes "check_mask") 60 Qword
    ∷ field (codes "error") 68 Address
    ∷ field (codes "error_mask") 80 Qword
    ∷ field (codes "latency") 88 Dword
    ∷ field (codes "turnaround") 92 Dword
    ∷ []

-- the types from this one on are those of later releases
abbrev pub unknown_kinds : ℕ
unknown_kinds = 6

-- the fields of a known type's structures after their heads
abbrev pub known_fields : ℕ → List Field
known_fields kind =
    if kind == 0 then generic_fields
    else (if kind == 1 then hw_reduced1_fields
    else (if kind == 2 then hw_reduced2_fields
    else (if kind == 3 then extended_fields
    else (if kind == 4 then extended_fields
    else (if kind == 5 then hw_register_fields
    else [])))))

-- the one field of a structure of an unknown type: all its bytes after its head
abbrev pub bytes_fields : ℕ → List Field
bytes_fields n = field (codes "bytes") 2 (Array n) ∷ []

-- the fields of a structure after its head, by its type and its number of bytes
abbrev pub fields_of_kind : ℕ → ℕ → List Field
fields_of_kind kind size = if nat_lt kind unknown_kinds then known_fields kind else bytes_fields (size - 2)

-- the number of bytes of a known type's structures
abbrev pub known_size : ℕ → Option ℕ
known_size kind =
    if kind == 0 then Some 62
    else (if kind == 1 then Some 62
    else (if kind == 2 then Some 90
    else (if kind == 3 then Some 164
    else (if kind == 4 then Some 164
    else (if kind == 5 then Some 96
    else None)))))

-- a number of bytes that a structure of an unknown type may have: its head at least, and no more than one byte says
abbrev pub unknown_size : ℕ → Option ℕ
unknown_size found = if nat_lt found 2 then None else (if nat_lt found 256 then Some found else None)

-- the number of bytes of a structure, by its type, and by its second byte where the type is unknown
abbrev pub size_of_kind : ℕ → ℕ → Option ℕ
size_of_kind kind found = if nat_lt kind unknown_kinds then known_size kind else unknown_size found

-- the first field of a name
abbrev pub field_named : List Field → List ℕ → Option Field
field_named [] name = None
field_named (f ∷ fs) name = if bytes_eq f.name name then Some f else field_named fs name

-- what a place and a width give, for the field of a name; nothing has a name that is not in the table
abbrev pub at_field : {T : Type 0} → T → (ℕ → ℕ → T) → Option Field → T
at_field nothing give None = nothing
at_field nothing give (Some f) = give (width f.kind) f.at

-- the number in the field of a name
abbrev pub number_in : List Field → List ℕ → List ℕ → ℕ
number_in fields name bytes = at_field 0 (λ n at. number_at n at bytes) (field_named fields name)

-- the bytes of the field of a name
abbrev pub bytes_in : List Field → List ℕ → List ℕ → List ℕ
bytes_in fields name bytes = at_field [] (λ n at. take n (drop at bytes)) (field_named fields name)
