-- What the elements of a package say.
use Rattle.std.specs.Prelude.{◌==◌, if◌then◌else◌, Bool, ℕ, List, [], map, take, drop, slice_index, slice_index_or}
use Rattle.std.specs.List.{list_all}
use Rattle.aml_pkg.specs.declared.item.Element.{Element}
use Rattle.aml_pkg.specs.declared.item.Element.TheVariants as element
use Rattle.aml_pkg.specs.declared.item.Item.{Item}
use Rattle.aml_pkg.specs.declared.item.Item.TheVariants as item
use Rattle.pcc_gas.specs.Addresses.{address_in}
use Rattle.pcc_gas.specs.declared.address.Register.{Register}
use Rattle.cpc_package.specs.declared.entry.Entry.{Entry}
use Rattle.cpc_package.specs.declared.entry.Entry.TheVariants as entry

-- the address bytes of a register's seventeen (ACPI 6.5, 6.4.3.7)
abbrev pub address_part : List ℕ → List ℕ
address_part bytes = take 12 (drop 3 bytes)

-- the register that seventeen bytes spell, if they spell one
unfoldable pub register_in : List ℕ → Register
register_in bytes = record { gas = address_in (address_part bytes); checksum = slice_index bytes 16 }

-- twelve zero bytes mean that there is no register (8.4.6.1)
unfoldable pub is_absent_in : List ℕ → Bool
is_absent_in bytes = list_all (λ x. x == 0) (address_part bytes)

abbrev pub entry_in : List ℕ → Entry
entry_in bytes = if is_absent_in bytes then entry.Absent (slice_index bytes 16) else entry.Register (register_in bytes)

abbrev pub entry_of : Element → Entry
entry_of (element.Int int) = entry.Integer int.value
entry_of (element.Buffer buffer) = entry_in buffer.bytes

abbrev pub elements_of : Item → List Element
elements_of (item.Element e) = []
elements_of (item.Package len elements) = elements

-- the entries of a package
unfoldable pub entries_of : Item → List Entry
entries_of cpc = map entry_of (elements_of cpc)

-- an entry by its number; after the last one there is none
abbrev pub entry_at : List Entry → ℕ → Entry
entry_at entries n = slice_index_or entries n (entry.Absent 0)
