-- Which entries of a package are fields of a communication space, and the first reason why they can't be bound to one (ACPI 6.5, 8.4.6
-- and 14.1).
use Rattle.std.specs.Prelude.{◌≡◌, ◌<◌, ◌≤◌, ◌+◌, ◌*◌, ◌==◌, ◌&&◌, nat_le, nat_lt, if◌then◌else◌, Bool, true, false, ℕ, List, [], ◌∷◌, All, AllPairs, map, take, slice_index_or, unwrap_or, Option, Some, None}
use Rattle.std.specs.List.{range_with_len}
use Rattle.pcc_gas.specs.Fields.{AreApart, InField, field_value}
use Rattle.pcc_gas.specs.declared.address.Gas.{Gas}
use Rattle.pcc_gas.specs.declared.field.Field.{Field}
use Rattle.cpc_package.specs.declared.entry.Entry.{Entry}
use Rattle.cpc_package.specs.declared.entry.Entry.TheVariants.{Integer, Register, Absent}
use Rattle.cpc_package.specs.declared.binding.Source1.{Source1}
use Rattle.cpc_package.specs.declared.binding.Source1.TheVariants.{Missing, Number, At}
use Rattle.cpc_package.specs.declared.binding.Binding.{Binding}
use Rattle.cpc_package.specs.declared.binding.BindFault.{BindFault}
use Rattle.cpc_package.specs.declared.binding.BindFault.TheVariants.{NotPcc, TwoSubspaces, BadWidth, FieldOutside, FieldsOverlap, NoDesired, NoBound, BadScale}
use Rattle.cpc_package.specs.declared.rows.TheConstants.{ENTRIES}
use Rattle.cpc_package.specs.Entries.{entry_at}

-- the address of a register that is present
abbrev pub gas_of : Entry → Option Gas
gas_of (Integer value) = None
gas_of (Register register) = Some register.gas
gas_of (Absent checksum) = None

-- the field of a register: its address counts bytes from the start of the space, and its offset bits from there
abbrev pub field_of : Gas → Field
field_of gas = record { at_bit = 8 * gas.address + gas.offset; width = gas.width }

abbrev pub end_of : Field → ℕ
end_of field = field.at_bit + field.width

-- ---- the tests of a register, in their order

abbrev pub or_else : {F : Type 0} → Option F → Option F → Option F
or_else None later = later
or_else (Some f) later = Some f

-- what a test finds first in a list whose elements are numbered from n on
abbrev pub first_from : {A F : Type 0} → (ℕ → A → Option F) → ℕ → List A → Option F
first_from test n [] = None
first_from test n (x ∷ xs) = or_else (test n x) (first_from test (n + 1) xs)

abbrev pub access_test : ℕ → Option Gas → Option ℕ
access_test n None = None
access_test n (Some gas) = Some gas.access

-- the subspace of the first register that is present
unfoldable pub first_subspace : List Entry → Option ℕ
first_subspace entries = first_from (λ n e. access_test n (gas_of e)) 0 entries

abbrev pub is_subspace : Option ℕ → ℕ → Bool
is_subspace None access = true
is_subspace (Some first) access = first == access

-- some bit is in both fields: after the start of each, and before the end of each
abbrev pub share_bit : Field → Field → Bool
share_bit f g = nat_lt f.at_bit (end_of f) && nat_lt g.at_bit (end_of g) && nat_lt f.at_bit (end_of g) && nat_lt g.at_bit (end_of f)

abbrev pub share_test : Field → ℕ → Option Gas → Option ℕ
share_test field n None = None
share_test field n (Some gas) = if share_bit field (field_of gas) then Some n else None

-- the first entry whose field shares a bit with a field
unfoldable pub first_sharing : Field → List Entry → Option ℕ
first_sharing field entries = first_from (λ n e. share_test field n (gas_of e)) 0 entries

abbrev pub overlap : Option ℕ → ℕ → Option BindFault
overlap None n = None
overlap (Some a) n = Some (FieldsOverlap a n)

-- the tests of entry number n, in a space of len bytes
abbrev pub register_test : List Entry → ℕ → ℕ → Option Gas → Option BindFault
register_test entries len n None = None
register_test entries len n (Some gas) =
    if gas.space == 0x0a then
    (if is_subspace (first_subspace entries) gas.access then
    (if nat_le 1 gas.width && nat_le gas.width 64 then
    (if nat_le (end_of (field_of gas)) (8 * len) then overlap (first_sharing (field_of gas) (take n entries)) n
    else Some (FieldOutside n))
    else Some (BadWidth n))
    else Some (TwoSubspaces n))
    else Some (NotPcc n)

unfoldable pub registers_fault : List Entry → ℕ → Option BindFault
registers_fault entries len = first_from (λ n e. register_test entries len n (gas_of e)) 0 entries

-- ---- the tests of what must be there

abbrev pub is_absent : Entry → Bool
is_absent (Integer value) = false
is_absent (Register register) = false
is_absent (Absent checksum) = true

abbrev pub number_of : Entry → Option ℕ
number_of (Integer value) = Some value
number_of (Register register) = None
number_of (Absent checksum) = None

-- three numbers that must not fall
abbrev pub scale_fault : Option ℕ → Option ℕ → Option ℕ → Option BindFault
scale_fault None nominal highest = None
scale_fault (Some lowest) None highest = None
scale_fault (Some lowest) (Some nominal) None = None
scale_fault (Some lowest) (Some nominal) (Some highest) =
    if nat_le lowest nominal && nat_le nominal highest then None else Some (BadScale lowest nominal highest)

-- the desired performance and the bounds, entries 7, 5 and 2, and the nominal performance, entry 3
abbrev pub bounds_fault : Entry → Entry → Entry → Entry → Option BindFault
bounds_fault desired lowest nominal highest =
    if is_absent desired then Some NoDesired else if is_absent lowest then Some (NoBound 5) else if is_absent highest then Some (NoBound 2)
    else scale_fault (number_of lowest) (number_of nominal) (number_of highest)

-- the first reason why the entries of a package can't be bound to a space of len bytes
unfoldable pub bind_fault : List Entry → ℕ → Option BindFault
bind_fault entries len =
    or_else (registers_fault entries len) (bounds_fault (entry_at entries 7) (entry_at entries 5) (entry_at entries 3) (entry_at entries 2))

-- ---- what a binding is

-- what an entry gives
abbrev pub source_of : Entry → Source1
source_of (Integer value) = Number value
source_of (Register register) = At (field_of register.gas)
source_of (Absent checksum) = Missing

-- what a binding has for entry number n: nothing for the number of entries and the revision
abbrev pub source_by : List Entry → ℕ → Source1
source_by entries n = if nat_lt n 2 then Missing else source_of (entry_at entries n)

-- the binding of a package's entries, in the subspace of the first register
unfoldable pub binding_of : List Entry → Binding
binding_of entries = record { subspace = unwrap_or (first_subspace entries) 0; sources = map (source_by entries) (range_with_len 0 ENTRIES) }

-- the number that a source has in a space
abbrev pub number_in : Source1 → List ℕ → Option ℕ
number_in Missing space = None
number_in (Number value) space = Some value
number_in (At field) space = Some (field_value space field)

-- what a binding has for an entry, by its number
abbrev pub source_at : Binding → ℕ → Source1
source_at binding n = slice_index_or binding.sources n Missing

-- the subspace of each register that is present, and each entry from 2 on as it is
pub record IsBinding (entries : List Entry) (binding : Binding) : Type 0 where
  pub subspace : (n : ℕ) (gas : Gas) → gas_of (entry_at entries n) ≡ Some gas → binding.subspace ≡ gas.access
  pub none : (n : ℕ) → n < 2 → source_at binding n ≡ Missing
  pub each : (n : ℕ) → 2 ≤ n → source_at binding n ≡ source_of (entry_at entries n)

-- a field of 1 to 64 bits
pub record HasWidth (field : Field) : Type 0 where
  pub some : 1 ≤ field.width
  pub most : field.width ≤ 64

-- A binding that is right: the desired performance is a field, both bounds are there, and its fields have 1 to 64 bits and are apart
-- in pairs.
pub record IsRight (binding : Binding) : Type 0 where
  pub desired : (field : Field) × (source_at binding 7 ≡ At field)
  pub lowest : source_at binding 5 ≡ Missing → ⊥
  pub highest : source_at binding 2 ≡ Missing → ⊥
  pub widths : (n : ℕ) (field : Field) → source_at binding n ≡ At field → HasWidth field
  pub apart : (m n : ℕ) (f g : Field) → m < n → source_at binding m ≡ At f → source_at binding n ≡ At g → AreApart f g

-- the fields of a binding lie in a space of len bytes
abbrev pub LiesIn : ℕ → Binding → Type 0
LiesIn len binding = (n : ℕ) (field : Field) → source_at binding n ≡ At field → end_of field ≤ 8 * len

-- a source that is a field of a space of len bytes, or no field
abbrev pub CanRead : ℕ → Source1 → Type 0
CanRead len Missing = Unit {0}
CanRead len (Number value) = Unit {0}
CanRead len (At field) = HasWidth field × (end_of field ≤ 8 * len)

-- two bindings have a bit of one subspace in common
pub record ShareBit (a b : Binding) : Type 0 where
  pub subspace : a.subspace ≡ b.subspace
  pub m : ℕ
  pub n : ℕ
  pub f : Field
  pub g : Field
  pub first : source_at a m ≡ At f
  pub second : source_at b n ≡ At g
  pub bit : ℕ
  pub in_first : InField f bit
  pub in_second : InField g bit

-- no field among sources has a bit of a field
abbrev pub AllApart : Field → List Source1 → Type 0
AllApart field sources = (n : ℕ) (other : Field) → slice_index_or sources n Missing ≡ At other → AreApart field other

-- some field among sources has one
pub record Meets (field : Field) (sources : List Source1) : Type 0 where
  pub n : ℕ
  pub other : Field
  pub at : slice_index_or sources n Missing ≡ At other
  pub shared : AreApart field other → ⊥

-- the processors of a communication space of len bytes: right bindings to it, all of one subspace, and no bit belongs to two of them
pub record AreProcessors (len : ℕ) (cpus : List Binding) : Type 0 where
  pub right : All IsRight cpus
  pub inside : All (LiesIn len) cpus
  pub subspace : AllPairs (λ a b. a.subspace ≡ b.subspace) cpus
  pub apart : AllPairs (λ a b. ShareBit a b → ⊥) cpus
