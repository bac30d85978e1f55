-- Which bytes spell an item of AML (ACPI 6.5, 20.2): an integer, a buffer, or a package of both. Forms and lengths are part of the
-- value, so a value has one spelling.
use Rattle.std.specs.Prelude.{◌≡◌, ◌<◌, ◌≤◌, ◌^◌, ◌+◌, ◌-◌, ◌*◌, ◌/◌, ◌%◌, ℕ, zero, suc, List, [], ◌∷◌, ◌++◌, length}
use Rattle.std.specs.List.{flat_map, AllByRecursion}
use Rattle.byteorder.specs.Endian.{little_bytes}
use Rattle.aml_pkg.specs.declared.item.Form.{Form}
use Rattle.aml_pkg.specs.declared.item.Form.TheVariants.{Zero, One, Ones, Byte, Word, Dword, Qword}
use Rattle.aml_pkg.specs.declared.item.Int.{Int}
use Rattle.aml_pkg.specs.declared.item.Len.{Len}
use Rattle.aml_pkg.specs.declared.item.Buffer.{Buffer}
use Rattle.aml_pkg.specs.declared.item.Element.{Element}
use Rattle.aml_pkg.specs.declared.item.Element.TheVariants as element
use Rattle.aml_pkg.specs.declared.item.Item.{Item}
use Rattle.aml_pkg.specs.declared.item.Item.TheVariants as item

-- the byte that begins a form (20.2.3)
abbrev pub op_of : Form → ℕ
op_of Zero = 0x00
op_of One = 0x01
op_of Ones = 0xff
op_of Byte = 0x0a
op_of Word = 0x0b
op_of Dword = 0x0c
op_of Qword = 0x0e

-- how many bytes of a number follow it
abbrev pub size_of : Form → ℕ
size_of Zero = 0
size_of One = 0
size_of Ones = 0
size_of Byte = 1
size_of Word = 2
size_of Dword = 4
size_of Qword = 8

-- the numbers that a form has
abbrev pub HasForm : Form → ℕ → Type 0
HasForm Zero n = n ≡ 0
HasForm One n = n ≡ 1
HasForm Ones n = n ≡ 2 ^ 64 - 1
HasForm Byte n = n < 256 ^ 1
HasForm Word n = n < 256 ^ 2
HasForm Dword n = n < 256 ^ 4
HasForm Qword n = n < 256 ^ 8

abbrev pub IsInt : Int → Type 0
IsInt int = HasForm int.form int.value

abbrev pub int_bytes : Int → List ℕ
int_bytes int = op_of int.form ∷ little_bytes (size_of int.form) int.value

-- A length (20.2.4): one byte; or a lead, with the number of the bytes that follow it in its highest two bits and the length's lowest
-- four bits in its own, and the other bits of the length in the bytes that follow.
abbrev pub len_spelling : ℕ → ℕ → List ℕ
len_spelling zero value = value ∷ []
len_spelling (suc f) value = (64 * suc f + value % 16) ∷ little_bytes (suc f) (value / 16)

abbrev pub len_bytes : Len → List ℕ
len_bytes len = len_spelling len.follow len.value

-- what is above each length with n bytes that follow
abbrev pub len_limit : ℕ → ℕ
len_limit zero = 64
len_limit (suc f) = 16 * 256 ^ suc f

-- a length that has a spelling
pub record IsLen (len : Len) : Type 0 where
  pub few : len.follow ≤ 3
  pub fits : len.value < len_limit len.follow

-- a length that counts its own bytes and those of a body
pub record Counts (len : Len) (body : List ℕ) : Type 0 where
  pub is : IsLen len
  pub whole : len.value ≡ 1 + len.follow + length body

-- a buffer's size and bytes (20.2.5.4)
abbrev pub buffer_body : Buffer → List ℕ
buffer_body buffer = int_bytes buffer.size ++ buffer.bytes

pub record IsBuffer (buffer : Buffer) : Type 0 where
  pub size : IsInt buffer.size
  pub counts : Counts buffer.len (buffer_body buffer)

abbrev pub element_bytes : Element → List ℕ
element_bytes (element.Int int) = int_bytes int
element_bytes (element.Buffer buffer) = 0x11 ∷ len_bytes buffer.len ++ buffer_body buffer

abbrev pub IsElement : Element → Type 0
IsElement (element.Int int) = IsInt int
IsElement (element.Buffer buffer) = IsBuffer buffer

-- the number of elements in one byte, and the elements (20.2.5.4)
abbrev pub package_body : List Element → List ℕ
package_body elements = length elements ∷ flat_map element_bytes elements

pub record IsPackage (len : Len) (elements : List Element) : Type 0 where
  pub few : length elements < 256
  pub counts : Counts len (package_body elements)
  pub each : AllByRecursion IsElement elements

abbrev pub item_bytes : Item → List ℕ
item_bytes (item.Element e) = element_bytes e
item_bytes (item.Package len elements) = 0x12 ∷ len_bytes len ++ package_body elements

-- an item that has a spelling
abbrev pub IsItem : Item → Type 0
IsItem (item.Element e) = IsElement e
IsItem (item.Package len elements) = IsPackage len elements

-- bytes spell an item
pub record AmlBytes (bytes : List ℕ) (i : Item) : Type 0 where
  pub is : IsItem i
  pub spelled : bytes ≡ item_bytes i
