-- A package of revision 2 as one of revision 3 (ACPI 6.5, 8.4.6.1).
use Rattle.std.specs.Prelude.{◌+◌, ◌==◌, if◌then◌else◌, ℕ, List, [], ◌∷◌, ◌++◌, length, drop}
use Rattle.aml_pkg.specs.declared.item.Form.TheVariants.{Zero, Byte}
use Rattle.aml_pkg.specs.declared.item.Len.{Len}
use Rattle.aml_pkg.specs.declared.item.Element.{Element}
use Rattle.aml_pkg.specs.declared.item.Element.TheVariants as element
use Rattle.aml_pkg.specs.declared.item.Item.{Item}
use Rattle.aml_pkg.specs.declared.item.Item.TheVariants as item
use Rattle.aml_pkg.specs.Spelling.{package_body}
use Rattle.cpc_package.specs.declared.rows.TheConstants.{ENTRIES, REVISION_2_ENTRIES}

-- a number in one byte after its first
abbrev pub byte_of : ℕ → Element
byte_of value = element.Int (record { value = value; form = Byte })

abbrev pub no_number : Element
no_number = element.Int (record { value = 0; form = Zero })

-- the number of entries and the revision, the entries from number 2 on as they are spelled, and two numbers that are not known
abbrev pub raised_elements : List Element → List Element
raised_elements elements = byte_of ENTRIES ∷ byte_of 3 ∷ drop 2 elements ++ no_number ∷ no_number ∷ []

-- a length of elements with as many bytes that follow
abbrev pub counted_again : Len → List Element → Len
counted_again len elements = record { value = 1 + len.follow + length (package_body elements); follow = len.follow }

-- the package of revision 3: itself where it is one
abbrev pub raised : Item → Item
raised (item.Element e) = item.Element e
raised (item.Package len elements) =
    if length elements == REVISION_2_ENTRIES then item.Package (counted_again len (raised_elements elements)) (raised_elements elements)
    else item.Package len elements
