-- The text of a package, a line for each entry, and the words for what is wrong.
use Rattle.std.specs.Prelude.{◌+◌, ℕ, List, [], ◌∷◌, ◌++◌, codes}
use Rattle.pcc_text.specs.Pieces.{Spelled, Words, Decimal, spelled}
use Rattle.pcc_gas.specs.declared.address.Register.{Register}
use Rattle.aml_pkg.specs.declared.item.Form.{Form}
use Rattle.aml_pkg.specs.declared.item.Form.TheVariants as form
use Rattle.aml_pkg.specs.declared.item.Int.{Int}
use Rattle.aml_pkg.specs.declared.item.Element.{Element}
use Rattle.aml_pkg.specs.declared.item.Element.TheVariants as element
use Rattle.aml_pkg.specs.declared.item.Item.{Item}
use Rattle.cpc_package.specs.declared.entry.Entry.{Entry}
use Rattle.cpc_package.specs.declared.entry.Entry.TheVariants as entry
use Rattle.cpc_package.specs.declared.fault.CpcKind.{CpcKind}
use Rattle.cpc_package.specs.declared.fault.CpcKind.TheVariants.{Short, BadLead, BadLength, UnknownOp, TooDeep, NotPackage, EntryCount, NotInteger, WrongCount, WrongRevision, NotRegister, BadDescriptor, BadEndTag, BadChecksum}
use Rattle.cpc_package.specs.Rows.{name_of}
use Rattle.cpc_package.specs.Entries.{elements_of, entry_in}

abbrev pub form_text : Form → List ℕ
form_text form.Zero = codes "zero"
form_text form.One = codes "one"
form_text form.Ones = codes "ones"
form_text form.Byte = codes "byte"
form_text form.Word = codes "word"
form_text form.Dword = codes "dword"
form_text form.Qword = codes "qword"

-- number and name, and the value with its form
abbrev pub integer_line : ℕ → List ℕ → Int → List Spelled
integer_line n name int =
    Decimal n ∷ Words (codes " ") ∷ Words name ∷ Words (codes " integer ") ∷ Decimal int.value ∷ Words (codes " ") ∷ Words (form_text int.form)
    ∷ Words (codes "\n") ∷ []

-- number and name, and the address: space, width, offset, access and address
abbrev pub register_line : ℕ → List ℕ → Register → List Spelled
register_line n name register = Decimal n ∷ Words (codes " ") ∷ Words name ∷ Words (codes " register ") ∷ Decimal register.gas.space ∷ Words (codes ":")
    ∷ Decimal register.gas.width ∷ Words (codes ":") ∷ Decimal register.gas.offset ∷ Words (codes ":") ∷ Decimal register.gas.access ∷ Words (codes ":")
    ∷ Decimal register.gas.address ∷ Words (codes " checksum ") ∷ Decimal register.checksum ∷ Words (codes "\n") ∷ []

abbrev pub absent_line : ℕ → List ℕ → ℕ → List Spelled
absent_line n name checksum = Decimal n ∷ Words (codes " ") ∷ Words name ∷ Words (codes " absent checksum ") ∷ Decimal checksum ∷ Words (codes "\n") ∷ []

-- the line of a buffer, by what it says
abbrev pub buffer_line : ℕ → List ℕ → Entry → List Spelled
buffer_line n name (entry.Integer value) = []
buffer_line n name (entry.Register register) = register_line n name register
buffer_line n name (entry.Absent checksum) = absent_line n name checksum

abbrev pub entry_line : ℕ → Element → List Spelled
entry_line n (element.Int int) = integer_line n (name_of n) int
entry_line n (element.Buffer buffer) = buffer_line n (name_of n) (entry_in buffer.bytes)

-- the lines of elements from number n on
abbrev pub lines_from : ℕ → List Element → List ℕ
lines_from n [] = []
lines_from n (e ∷ es) = spelled (entry_line n e) ++ lines_from (n + 1) es

unfoldable pub package_text : Item → List ℕ
package_text cpc = lines_from 0 (elements_of cpc)

-- the words for what is wrong
abbrev pub kind_text : CpcKind → List ℕ
kind_text Short = codes "short"
kind_text BadLead = codes "bad lead"
kind_text BadLength = codes "bad length"
kind_text UnknownOp = codes "unknown op"
kind_text TooDeep = codes "too deep"
kind_text NotPackage = codes "not package"
kind_text EntryCount = codes "entry count"
kind_text NotInteger = codes "not integer"
kind_text WrongCount = codes "wrong count"
kind_text WrongRevision = codes "wrong revision"
kind_text NotRegister = codes "not register"
kind_text BadDescriptor = codes "bad descriptor"
kind_text BadEndTag = codes "bad end tag"
kind_text BadChecksum = codes "bad checksum"
