-- Worked packages.
use Rattle.std.specs.Prelude.{ℕ, ◌+◌, List, [], ◌∷◌, ◌++◌, drop, replicate, take}
use Rattle.aml_pkg.specs.declared.item.Form.{Form}
use Rattle.aml_pkg.specs.declared.item.Form.TheVariants.{Zero, Byte, Word}
use Rattle.aml_pkg.specs.declared.item.Element.{Element}
use Rattle.aml_pkg.specs.declared.item.Element.TheVariants as element
use Rattle.aml_pkg.specs.declared.item.Item.{Item}
use Rattle.aml_pkg.specs.declared.item.Item.TheVariants as item

abbrev pub integer : ℕ → Form → Element
integer value form = element.Int (record { value = value; form = form })

abbrev pub buffer : List ℕ → Element
buffer bytes = element.Buffer (record { len = record { value = 20; follow = 0 }; size = record { value = 17; form = Byte }; bytes = bytes })

-- twelve zero bytes of address
abbrev pub no_register : Element
no_register = buffer (0x82 ∷ 0x0c ∷ 0x00 ∷ (replicate 12 0 ++ 0x79 ∷ 0 ∷ []))

-- a register: its space, its width and offset in bits, its access byte, which is the subspace, and the byte where it begins
abbrev pub register : ℕ → ℕ → ℕ → ℕ → ℕ → Element
register space width offset access byte =
    buffer (0x82 ∷ 0x0c ∷ 0x00 ∷ space ∷ width ∷ offset ∷ access ∷ byte ∷ (replicate 7 0 ++ 0x79 ∷ 0 ∷ []))

-- a register of subspace 0 at a byte
abbrev pub field_at : ℕ → ℕ → Element
field_at width byte = register 0x0a width 0 0 byte

-- entries 2 to 20: the desired, the minimum and the maximum performance, both counters, and whether performance was limited
abbrev pub performance_elements : List Element
performance_elements =
    integer 300 Word
    ∷ integer 200 Byte
    ∷ integer 80 Byte
    ∷ integer 10 Byte
    ∷ no_register
    ∷ field_at 32 0
    ∷ field_at 32 4
    ∷ field_at 32 8
    ∷ no_register
    ∷ no_register
    ∷ integer 0 Zero
    ∷ field_at 64 16
    ∷ field_at 64 24
    ∷ field_at 32 12
    ∷ no_register
    ∷ integer 0 Zero
    ∷ no_register
    ∷ no_register
    ∷ integer 100 Byte
    ∷ []

abbrev pub six_elements : List Element
six_elements = integer 23 Byte ∷ integer 3 Byte ∷ performance_elements ++ integer 400 Word ∷ integer 2000 Word ∷ []

abbrev pub six_fields : Item
six_fields = item.Package (record { value = 278; follow = 1 }) six_elements

-- the same with another element for entry number n
abbrev pub with_entry : ℕ → Element → Item
with_entry n e = item.Package (record { value = 278; follow = 1 }) (take n six_elements ++ e ∷ drop (n + 1) six_elements)

-- the same of revision 2, with a revision and a number of the bytes that follow its length
abbrev pub of_revision_2 : ℕ → ℕ → Item
of_revision_2 revision follow = item.Package (record { value = 271 + follow; follow = follow }) (integer 21 Byte ∷ integer revision Byte ∷ performance_elements)

abbrev pub six_fields_of_revision_2 : Item
six_fields_of_revision_2 = of_revision_2 2 1

-- what it is raised to, with as many bytes that follow its length
abbrev pub raised_from_revision_2 : ℕ → Item
raised_from_revision_2 follow =
    item.Package (record { value = 273 + follow; follow = follow }) (integer 23 Byte ∷ integer 3 Byte ∷ performance_elements ++ integer 0 Zero ∷ integer 0 Zero ∷ [])

-- a package with one entry too few for revision 3
abbrev pub of_22_entries : Item
of_22_entries = item.Package (record { value = 275; follow = 1 }) (take 22 six_elements)
