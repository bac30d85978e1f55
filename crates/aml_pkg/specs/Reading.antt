-- Reading from left to right, as the code goes: a value and the bytes after it, or the first fault. Contracts inside the crate cite
-- it; what its public calls promise is said by the spellings and by what is wrong.
use Rattle.std.specs.Prelude.{◌≡◌, ℕ, zero, suc, ◌+◌, ◌-◌, ◌*◌, ◌/◌, ◌%◌, List, [], ◌∷◌, length, take, drop, Option, Some, None, Result, Ok, Err}
use Rattle.std.specs.Prelude.{nat_lt, ◌==◌, if◌then◌else◌}
use Rattle.byteorder.specs.Endian.{little_number}
use Rattle.aml_pkg.specs.declared.item.Form.{Form}
use Rattle.aml_pkg.specs.declared.item.Form.TheVariants.{Zero, One, Ones, Byte, Word, Dword, Qword}
use Rattle.aml_pkg.specs.declared.item.Int.{Int}
use Rattle.aml_pkg.specs.declared.item.Len.{Len}
use Rattle.aml_pkg.specs.declared.item.Buffer.{Buffer}
use Rattle.aml_pkg.specs.declared.item.Element.{Element}
use Rattle.aml_pkg.specs.declared.item.Element.TheVariants as element
use Rattle.aml_pkg.specs.declared.item.Item.{Item}
use Rattle.aml_pkg.specs.declared.item.Item.TheVariants as item
use Rattle.aml_pkg.specs.declared.fault.AmlKind.TheVariants.{BadLead, BadLength, TooDeep, UnknownOp}
use Rattle.aml_pkg.specs.declared.fault.AmlFault.{AmlFault}
use Rattle.aml_pkg.specs.declared.fault.ReadError.{ReadError}
use Rattle.aml_pkg.specs.declared.fault.ReadError.TheVariants as errors
use Rattle.aml_pkg.specs.declared.window.Window.{Window}
use Rattle.aml_pkg.specs.Spelling.{size_of}
use Rattle.aml_pkg.specs.Windows.{behind, ended, fault_at, inner, input}

infixl 10 ◌>>=◌
abbrev pub ◌>>=◌ : {A B : Type 0} → Result A AmlFault → (A → Result B AmlFault) → Result B AmlFault
(Ok x) >>= f = f x
(Err e) >>= f = Err e

-- what a function answers, seen by a view, is what is read, unless memory ran out
abbrev pub Fails : {Y : Type 0} → ReadError → Result Y AmlFault → Type 0
Fails errors.NoMemory read = Unit {0}
Fails (errors.Fault fault) read = read ≡ Err fault

abbrev pub Gives : {X Y : Type 0} → (X → Y) → Result X ReadError → Result Y AmlFault → Type 0
Gives view (Ok x) read = read ≡ Ok (view x)
Gives view (Err e) read = Fails e read

-- a value and the bytes after it
abbrev pub Step : Type 0 → Type 0
Step X = Result (X × List ℕ) AmlFault

abbrev pub number_at : ℕ → Window → List ℕ → Step ℕ
number_at n w bytes = if nat_lt (length bytes) n then Err (ended w) else Ok (little_number n bytes, drop n bytes)

abbrev pub form_of : ℕ → Option Form
form_of op = if op == 0x00 then Some Zero else if op == 0x01 then Some One else if op == 0xff then Some Ones
    else if op == 0x0a then Some Byte else if op == 0x0b then Some Word else if op == 0x0c then Some Dword
    else if op == 0x0e then Some Qword else None

abbrev pub value_of : Form → ℕ → ℕ
value_of Zero n = 0
value_of One n = 1
value_of Ones n = 18446744073709551615
value_of Byte n = n
value_of Word n = n
value_of Dword n = n
value_of Qword n = n

abbrev pub int_of : Option Form → Window → List ℕ → List ℕ → Step Int
int_of None w bytes rest = Err (fault_at w bytes UnknownOp)
int_of (Some form) w bytes rest = do
  n ← number_at (size_of form) w rest
  Ok (record { value = value_of form n.0; form = form }, n.1)

unfoldable pub int_at : Window → List ℕ → Step Int
int_at w [] = Err (ended w)
int_at w (op ∷ rest) = int_of (form_of op) w (op ∷ rest) rest

-- a length, whatever its value
unfoldable pub spelled_len_at : Window → List ℕ → Step Len
spelled_len_at w [] = Err (ended w)
spelled_len_at w (lead ∷ rest) =
    if lead / 64 == 0 then Ok (record { value = lead; follow = 0 }, rest)
    else if lead / 16 % 4 == 0 then (do
      n ← number_at (lead / 64) w rest
      Ok (record { value = lead % 16 + 16 * n.0; follow = lead / 64 }, n.1))
    else Err (fault_at w (lead ∷ rest) BadLead)

-- a length that has its own bytes at least, and doesn't point past the end
abbrev pub checked : Window → List ℕ → Len → List ℕ → Step Len
checked w bytes len rest =
    if nat_lt len.value (1 + len.follow) then Err (fault_at w bytes BadLength)
    else if nat_lt (length bytes) len.value then Err (ended w)
    else Ok (len, rest)

unfoldable pub len_at : Window → List ℕ → Step Len
len_at w bytes = do
  len ← spelled_len_at w bytes
  checked w bytes len.0 len.1

-- how many bytes a length leaves for the body
abbrev pub body_len : Len → ℕ
body_len len = len.value - (1 + len.follow)

unfoldable pub buffer_at : Window → List ℕ → Step Buffer
buffer_at w bytes = do
  len ← len_at w bytes
  size ← int_at (inner w bytes len.0.value) (take (body_len len.0) len.1)
  Ok (record { len = len.0; size = size.0; bytes = size.1 }, drop (body_len len.0) len.1)

unfoldable pub element_at : Window → List ℕ → Step Element
element_at w [] = Err (ended w)
element_at w (op ∷ rest) =
    if op == 0x12 then Err (fault_at w (op ∷ rest) TooDeep)
    else if op == 0x11 then (do
      buffer ← buffer_at w rest
      Ok (element.Buffer buffer.0, buffer.1))
    else (do
      int ← int_at w (op ∷ rest)
      Ok (element.Int int.0, int.1))

-- n elements, and no byte after them
unfoldable pub elements_at : ℕ → Window → List ℕ → Result (List Element) AmlFault
elements_at zero w bytes = if length bytes == 0 then Ok [] else Err (fault_at w bytes BadLength)
elements_at (suc n) w bytes = do
  e ← element_at w bytes
  es ← elements_at n (behind w 1) e.1
  Ok (e.0 ∷ es)

unfoldable pub body_at : Window → List ℕ → Result (List Element) AmlFault
body_at w [] = Err (ended w)
body_at w (n ∷ rest) = elements_at n w rest

unfoldable pub package_at : Window → List ℕ → Step Item
package_at w bytes = do
  len ← len_at w bytes
  es ← body_at (inner w bytes len.0.value) (take (body_len len.0) len.1)
  Ok (item.Package len.0 es, drop (body_len len.0) len.1)

abbrev pub lone_at : Window → List ℕ → Step Item
lone_at w bytes = do
  e ← element_at w bytes
  Ok (item.Element e.0, e.1)

abbrev pub front_at : Window → List ℕ → Step Item
front_at w [] = lone_at w []
front_at w (op ∷ rest) = if op == 0x12 then package_at w rest else lone_at w (op ∷ rest)

-- the item that all bytes begin with
unfoldable pub item_at : List ℕ → Step Item
item_at bytes = front_at (input bytes) bytes

-- the item, and how many bytes it has
unfoldable pub used_at : List ℕ → Result (Item × ℕ) AmlFault
used_at bytes = do
  x ← item_at bytes
  Ok (x.0, length bytes - length x.1)
