-- Which items are `_CPC` packages, which bytes spell one, and the first thing that is wrong in bytes that don't (ACPI 6.5, 8.4.6.1).
use Rattle.std.specs.Prelude.{◌≡◌, ◌⊎◌, ◌+◌, ◌==◌, ◌%◌, if◌then◌else◌, ℕ, List, [], ◌∷◌, ◌++◌, length, take, slice_index, sum}
use Rattle.std.specs.List.{flat_map}
use Rattle.aml_pkg.specs.declared.item.Int.{Int}
use Rattle.aml_pkg.specs.declared.item.Len.{Len}
use Rattle.aml_pkg.specs.declared.item.Buffer.{Buffer}
use Rattle.aml_pkg.specs.declared.item.Element.{Element}
use Rattle.aml_pkg.specs.declared.item.Element.TheVariants as element
use Rattle.aml_pkg.specs.declared.item.Item.{Item}
use Rattle.aml_pkg.specs.declared.item.Item.TheVariants as item
use Rattle.aml_pkg.specs.declared.fault.AmlKind.{AmlKind}
use Rattle.aml_pkg.specs.declared.fault.AmlKind.TheVariants as aml
use Rattle.aml_pkg.specs.declared.fault.AmlFault.{AmlFault}
use Rattle.aml_pkg.specs.declared.fault.ReadError.{ReadError}
use Rattle.aml_pkg.specs.declared.fault.ReadError.TheVariants as read
use Rattle.aml_pkg.specs.Spelling.{element_bytes, AmlBytes}
use Rattle.aml_pkg.specs.Faults.{ItemWrong}
use Rattle.pcc_gas.specs.Addresses.{RegisterBytes}
use Rattle.cpc_package.specs.declared.rows.Role.{Role}
use Rattle.cpc_package.specs.declared.rows.TheConstants.{ENTRIES, REVISION_2_ENTRIES}
use Rattle.cpc_package.specs.declared.rows.Role.TheVariants as role
use Rattle.cpc_package.specs.declared.fault.CpcKind.{CpcKind}
use Rattle.cpc_package.specs.declared.fault.CpcKind.TheVariants.{Short, BadLead, BadLength, UnknownOp, TooDeep, NotPackage, EntryCount, NotInteger, WrongCount, WrongRevision, NotRegister, BadDescriptor, BadEndTag, BadChecksum}
use Rattle.cpc_package.specs.declared.fault.CpcFault.{CpcFault}
use Rattle.cpc_package.specs.declared.fault.CpcError.{CpcError}
use Rattle.cpc_package.specs.declared.fault.CpcError.TheVariants as errors
use Rattle.cpc_package.specs.Rows.{role_of}
use Rattle.cpc_package.specs.Entries.{register_in}

-- how many entries a package may have: those of revision 2, or of revision 3
abbrev pub IsCount : ℕ → Type 0
IsCount n = (n ≡ REVISION_2_ENTRIES) ⊎ (n ≡ ENTRIES)

-- the revision of a package of count entries
abbrev pub revision_of : ℕ → ℕ
revision_of count = if count == REVISION_2_ENTRIES then 2 else 3

-- ---- what is right

-- a buffer of a register's seventeen bytes, by its size and by its bytes
pub record IsSized (buffer : Buffer) : Type 0 where
  pub size : buffer.size.value ≡ 17
  pub len : length buffer.bytes ≡ 17

-- an element that has as many, where it is a buffer
abbrev pub HasSeventeen : Element → Type 0
HasSeventeen (element.Int int) = Unit {0}
HasSeventeen (element.Buffer buffer) = length buffer.bytes ≡ 17

-- a buffer that is a register
pub record IsRegister (buffer : Buffer) : Type 0 where
  pub size : buffer.size.value ≡ 17
  pub spelled : RegisterBytes buffer.bytes (register_in buffer.bytes)

-- an element that is right in its place, in a package of count entries
abbrev pub IsOfRole : ℕ → Role → Element → Type 0
IsOfRole count role.Count (element.Int int) = int.value ≡ count
IsOfRole count role.Count (element.Buffer buffer) = ⊥
IsOfRole count role.Revision (element.Int int) = int.value ≡ revision_of count
IsOfRole count role.Revision (element.Buffer buffer) = ⊥
IsOfRole count role.Either (element.Int int) = Unit {0}
IsOfRole count role.Either (element.Buffer buffer) = IsRegister buffer
IsOfRole count role.Register (element.Int int) = ⊥
IsOfRole count role.Register (element.Buffer buffer) = IsRegister buffer

-- elements from number n on, each right in its place
abbrev pub AllFrom : ℕ → ℕ → List Element → Type 0
AllFrom count n [] = Unit {0}
AllFrom count n (e ∷ es) = IsOfRole count (role_of n) e × AllFrom count (n + 1) es

abbrev pub IsCpc : Item → Type 0
IsCpc (item.Element e) = ⊥
IsCpc (item.Package len elements) = IsCount (length elements) × AllFrom (length elements) 0 elements

-- bytes spell a package; a package is the item with its spelling
pub record CpcBytes (bytes : List ℕ) (cpc : Item) : Type 0 where
  pub item : AmlBytes bytes cpc
  pub right : IsCpc cpc

-- ---- what is wrong

-- the three bytes that begin a register's descriptor (6.4.3.7)
abbrev pub descriptor : List ℕ
descriptor = 0x82 ∷ 0x0c ∷ 0x00 ∷ []

-- a checksum is not given, as 0, or makes the sum 0
abbrev pub Agrees : List ℕ → Type 0
Agrees bytes = (slice_index bytes 16 ≡ 0) ⊎ (sum bytes % 256 ≡ 0)

-- a buffer that is no register: what is wrong in it after what is right
pub data RegisterWrong (buffer : Buffer) : CpcKind → Type 0 where
  InSize : (IsSized buffer → ⊥) → RegisterWrong buffer NotRegister
  InDescriptor : IsSized buffer → (take 3 buffer.bytes ≡ descriptor → ⊥) → RegisterWrong buffer BadDescriptor
  InEndTag : IsSized buffer → take 3 buffer.bytes ≡ descriptor → (slice_index buffer.bytes 15 ≡ 0x79 → ⊥) → RegisterWrong buffer BadEndTag
  InChecksum : IsSized buffer → take 3 buffer.bytes ≡ descriptor → slice_index buffer.bytes 15 ≡ 0x79 → (Agrees buffer.bytes → ⊥)
      → RegisterWrong buffer BadChecksum

-- an element that is wrong in its place
pub data EntryWrong (count : ℕ) : Role → Element → CpcKind → Type 0 where
  CountBuffer : (buffer : Buffer) → EntryWrong count role.Count (element.Buffer buffer) NotInteger
  RevisionBuffer : (buffer : Buffer) → EntryWrong count role.Revision (element.Buffer buffer) NotInteger
  OtherCount : (int : Int) → (int.value ≡ count → ⊥) → EntryWrong count role.Count (element.Int int) WrongCount
  OtherRevision : (int : Int) → (int.value ≡ revision_of count → ⊥) → EntryWrong count role.Revision (element.Int int) WrongRevision
  NoRegister : (int : Int) → EntryWrong count role.Register (element.Int int) NotRegister
  InRegister : (buffer : Buffer) (kind : CpcKind) → RegisterWrong buffer kind → EntryWrong count role.Register (element.Buffer buffer) kind
  InEither : (buffer : Buffer) (kind : CpcKind) → RegisterWrong buffer kind → EntryWrong count role.Either (element.Buffer buffer) kind

-- an item that is no package of this kind: it is none, it has another number of entries, or an entry after right ones is wrong
pub data PackageWrong : Item → CpcFault → Type 0 where
  NoPackage : (e : Element) → PackageWrong (item.Element e) (record { entry = 0; at = 0; kind = NotPackage })
  OtherEntries : (len : Len) (elements : List Element) → (IsCount (length elements) → ⊥)
      → PackageWrong (item.Package len elements) (record { entry = 0; at = 2 + len.follow; kind = EntryCount })
  InEntry : (len : Len) (elements front rest : List Element) (e : Element) (kind : CpcKind) → IsCount (length elements)
      → elements ≡ front ++ e ∷ rest → AllFrom (length elements) 0 front → EntryWrong (length elements) (role_of (length front)) e kind
      → PackageWrong (item.Package len elements)
      (record { entry = length front; at = 3 + len.follow + length (flat_map element_bytes front); kind = kind })

-- what is wrong in an item of AML
abbrev pub kind_of_aml : AmlKind → CpcKind
kind_of_aml aml.Short = Short
kind_of_aml aml.BadLead = BadLead
kind_of_aml aml.BadLength = BadLength
kind_of_aml aml.UnknownOp = UnknownOp
kind_of_aml aml.TooDeep = TooDeep

abbrev pub fault_of_aml : AmlFault → CpcFault
fault_of_aml fault = record { entry = fault.whole; at = fault.at; kind = kind_of_aml fault.kind }

-- bytes begin with no package: with no item of AML, or with one that is no package of this kind
pub data CpcWrong (bytes : List ℕ) : CpcFault → Type 0 where
  InAml : (fault : AmlFault) → ItemWrong bytes fault → CpcWrong bytes (fault_of_aml fault)
  InItem : (front rest : List ℕ) (i : Item) (fault : CpcFault) → AmlBytes front i → bytes ≡ front ++ rest → PackageWrong i fault → CpcWrong bytes fault

-- bytes begin with a package
abbrev pub HasPackage : List ℕ → Type 0
HasPackage bytes = (cpc : Item) × (front : List ℕ) × (rest : List ℕ) × CpcBytes front cpc × (bytes ≡ front ++ rest)

-- something is wrong in bytes
abbrev pub HasFault : List ℕ → Type 0
HasFault bytes = (fault : CpcFault) × CpcWrong bytes fault

-- ---- what an error reports

abbrev pub error_of_fault : CpcFault → CpcError
error_of_fault fault = errors.Fault fault.entry fault.at fault.kind

abbrev pub error_of_read : ReadError → CpcError
error_of_read read.NoMemory = errors.NoMemory
error_of_read (read.Fault fault) = error_of_fault (fault_of_aml fault)

-- the fault is reported, unless memory ran out
abbrev pub Tells : CpcError → CpcFault → Type 0
Tells errors.NoMemory fault = Unit {0}
Tells (errors.Fault entry at kind) fault = record { entry = entry; at = at; kind = kind } ≡ fault

-- what is reported is wrong in the bytes
abbrev pub IsTold : List ℕ → CpcError → Type 0
IsTold bytes errors.NoMemory = Unit {0}
IsTold bytes (errors.Fault entry at kind) = CpcWrong bytes (record { entry = entry; at = at; kind = kind })
