-- The tests of an item in their order, as the code goes. Contracts inside the crate cite it; what its public calls promise is said by
-- what is right and what is wrong.
use Rattle.std.specs.Prelude.{◌+◌, ◌==◌, ◌&&◌, ◌||◌, ◌%◌, if◌then◌else◌, Bool, ℕ, List, [], ◌∷◌, length, take, slice_index, sum, bytes_eq, Option, Some, None}
use Rattle.aml_pkg.specs.declared.item.Buffer.{Buffer}
use Rattle.aml_pkg.specs.declared.item.Element.{Element}
use Rattle.aml_pkg.specs.declared.item.Element.TheVariants as element
use Rattle.aml_pkg.specs.declared.item.Item.{Item}
use Rattle.aml_pkg.specs.declared.item.Item.TheVariants as item
use Rattle.aml_pkg.specs.Spelling.{element_bytes}
use Rattle.cpc_package.specs.declared.rows.Role.{Role}
use Rattle.cpc_package.specs.declared.rows.TheConstants.{ENTRIES, REVISION_2_ENTRIES}
use Rattle.cpc_package.specs.declared.rows.Role.TheVariants as role
use Rattle.cpc_package.specs.declared.fault.CpcKind.{CpcKind}
use Rattle.cpc_package.specs.declared.fault.CpcKind.TheVariants.{NotPackage, EntryCount, NotInteger, WrongCount, WrongRevision, NotRegister, BadDescriptor, BadEndTag, BadChecksum}
use Rattle.cpc_package.specs.declared.fault.CpcFault.{CpcFault}
use Rattle.cpc_package.specs.Rows.{role_of}
use Rattle.cpc_package.specs.Packages.{descriptor, revision_of}

-- the first test of a register that fails
abbrev pub register_kind : Buffer → Option CpcKind
register_kind buffer =
    if buffer.size.value == 17 && length buffer.bytes == 17 then
    (if bytes_eq descriptor (take 3 buffer.bytes) then
    (if slice_index buffer.bytes 15 == 0x79 then
    (if slice_index buffer.bytes 16 == 0 || sum buffer.bytes % 256 == 0 then None else Some BadChecksum)
    else Some BadEndTag)
    else Some BadDescriptor)
    else Some NotRegister

-- the first test of an entry that fails
abbrev pub entry_kind : ℕ → Role → Element → Option CpcKind
entry_kind count role.Count (element.Int int) = if int.value == count then None else Some WrongCount
entry_kind count role.Count (element.Buffer buffer) = Some NotInteger
entry_kind count role.Revision (element.Int int) = if int.value == revision_of count then None else Some WrongRevision
entry_kind count role.Revision (element.Buffer buffer) = Some NotInteger
entry_kind count role.Either (element.Int int) = None
entry_kind count role.Either (element.Buffer buffer) = register_kind buffer
entry_kind count role.Register (element.Int int) = Some NotRegister
entry_kind count role.Register (element.Buffer buffer) = register_kind buffer

abbrev pub found_at : Option CpcKind → ℕ → ℕ → Option CpcFault → Option CpcFault
found_at None n at later = later
found_at (Some kind) n at later = Some (record { entry = n; at = at; kind = kind })

-- the first fault of elements, from number n and a place on
abbrev pub entries_fault : ℕ → ℕ → ℕ → List Element → Option CpcFault
entries_fault count n at [] = None
entries_fault count n at (e ∷ es) = found_at (entry_kind count (role_of n) e) n at (entries_fault count (n + 1) (at + length (element_bytes e)) es)

-- whether a package may have n entries
abbrev pub is_count : ℕ → Bool
is_count n = n == REVISION_2_ENTRIES || n == ENTRIES

-- the first fault of an item
abbrev pub item_fault : Item → Option CpcFault
item_fault (item.Element e) = Some (record { entry = 0; at = 0; kind = NotPackage })
item_fault (item.Package len elements) = if is_count (length elements) then entries_fault (length elements) 0 (3 + len.follow) elements
    else Some (record { entry = 0; at = 2 + len.follow; kind = EntryCount })
