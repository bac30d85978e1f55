-- The first thing that is wrong: a front that is spelled right, and one wrong thing after it. Nothing here says how bytes are read.
-- The cases don't overlap, so the order in which they are tested follows from them.
use Rattle.std.specs.Prelude.{◌≡◌, ◌<◌, ◌≤◌, ◌+◌, ◌/◌, ◌%◌, ℕ, List, [], ◌∷◌, ◌++◌, length}
use Rattle.std.specs.List.{flat_map, AllByRecursion}
use Rattle.aml_pkg.specs.declared.item.Form.{Form}
use Rattle.aml_pkg.specs.declared.item.Int.{Int}
use Rattle.aml_pkg.specs.declared.item.Len.{Len}
use Rattle.aml_pkg.specs.declared.item.Element.{Element}
use Rattle.aml_pkg.specs.declared.item.Item.{Item}
use Rattle.aml_pkg.specs.declared.fault.AmlKind.TheVariants.{BadLead, BadLength, TooDeep, UnknownOp}
use Rattle.aml_pkg.specs.declared.fault.AmlFault.{AmlFault}
use Rattle.aml_pkg.specs.declared.window.Window.{Window}
use Rattle.aml_pkg.specs.Spelling.{AmlBytes, Counts, IsElement, IsInt, IsLen, element_bytes, int_bytes, len_bytes, op_of}
use Rattle.aml_pkg.specs.Windows.{behind, ended, fault_at, inner, input}

-- an integer: the bytes end within one, or they begin with no form's byte
pub data IntWrong (w : Window) (bytes : List ℕ) : AmlFault → Type 0 where
  Cut : (int : Int) (more : List ℕ) → IsInt int → 0 < length more → bytes ++ more ≡ int_bytes int → IntWrong w bytes (ended w)
  Unknown : (op : ℕ) (rest : List ℕ) → bytes ≡ op ∷ rest → ((form : Form) → op_of form ≡ op → ⊥)
      → IntWrong w bytes (fault_at w bytes UnknownOp)

-- a length: its lead has bit 4 or 5 set though bytes follow it, the bytes end within it, it's less than its own bytes, or it points
-- past the end
pub data LenWrong (w : Window) (bytes : List ℕ) : AmlFault → Type 0 where
  Lead : (lead : ℕ) (rest : List ℕ) → bytes ≡ lead ∷ rest → 64 ≤ lead → (lead / 16 % 4 ≡ 0 → ⊥)
      → LenWrong w bytes (fault_at w bytes BadLead)
  Cut : (len : Len) (more : List ℕ) → IsLen len → 0 < length more → bytes ++ more ≡ len_bytes len → LenWrong w bytes (ended w)
  Small : (len : Len) (rest : List ℕ) → IsLen len → bytes ≡ len_bytes len ++ rest → len.value < 1 + len.follow
      → LenWrong w bytes (fault_at w bytes BadLength)
  Past : (len : Len) (rest : List ℕ) → IsLen len → bytes ≡ len_bytes len ++ rest → length bytes < len.value → LenWrong w bytes (ended w)

-- a buffer after its first byte: its length, or the size in its body
pub data BufferWrong (w : Window) (bytes : List ℕ) (fault : AmlFault) : Type 0 where
  InLen : LenWrong w bytes fault → BufferWrong w bytes fault
  InSize : (len : Len) (body rest : List ℕ) → Counts len body → bytes ≡ len_bytes len ++ (body ++ rest)
      → IntWrong (inner w bytes len.value) body fault → BufferWrong w bytes fault

-- an element: there is none, or it's a package, or a wrong buffer or integer
pub data ElementWrong (w : Window) : List ℕ → AmlFault → Type 0 where
  None : ElementWrong w [] (ended w)
  Deep : (rest : List ℕ) → ElementWrong w (0x12 ∷ rest) (fault_at w (0x12 ∷ rest) TooDeep)
  InBuffer : (rest : List ℕ) (fault : AmlFault) → BufferWrong w rest fault → ElementWrong w (0x11 ∷ rest) fault
  InInt : (op : ℕ) (rest : List ℕ) (fault : AmlFault) → (op ≡ 0x11 → ⊥) → (op ≡ 0x12 → ⊥)
      → IntWrong w (op ∷ rest) fault → ElementWrong w (op ∷ rest) fault

-- n elements: one that is wrong after right ones, or bytes after the last
pub data ElementsWrong (w : Window) (count : ℕ) (bytes : List ℕ) (fault : AmlFault) : Type 0 where
  At : (elements : List Element) (left : List ℕ) → AllByRecursion IsElement elements → length elements < count
      → bytes ≡ flat_map element_bytes elements ++ left → ElementWrong (behind w (length elements)) left fault → ElementsWrong w count bytes fault
  Over : (elements : List Element) (left : List ℕ) → AllByRecursion IsElement elements → length elements ≡ count
      → bytes ≡ flat_map element_bytes elements ++ left → 0 < length left
      → fault ≡ fault_at (behind w (length elements)) left BadLength → ElementsWrong w count bytes fault

-- a package after its first byte: its length, the number of its elements, or they
pub data PackageWrong (w : Window) (bytes : List ℕ) (fault : AmlFault) : Type 0 where
  InLen : LenWrong w bytes fault → PackageWrong w bytes fault
  NoNumber : (len : Len) (rest : List ℕ) → Counts len [] → bytes ≡ len_bytes len ++ rest
      → fault ≡ ended (inner w bytes len.value) → PackageWrong w bytes fault
  Within : (len : Len) (count : ℕ) (body rest : List ℕ) → Counts len (count ∷ body) → bytes ≡ len_bytes len ++ ((count ∷ body) ++ rest)
      → ElementsWrong (inner w bytes len.value) count body fault → PackageWrong w bytes fault

-- the item that bytes were to begin with
pub data ItemWrong (bytes : List ℕ) (fault : AmlFault) : Type 0 where
  InPackage : (rest : List ℕ) → bytes ≡ 0x12 ∷ rest → PackageWrong (input bytes) rest fault → ItemWrong bytes fault
  InElement : ((rest : List ℕ) → bytes ≡ 0x12 ∷ rest → ⊥) → ElementWrong (input bytes) bytes fault → ItemWrong bytes fault

-- bytes begin with an item
abbrev pub HasItem : List ℕ → Type 0
HasItem bytes = (i : Item) × (front : List ℕ) × (rest : List ℕ) × AmlBytes front i × (bytes ≡ front ++ rest)

-- something is wrong in bytes
abbrev pub HasFault : List ℕ → Type 0
HasFault bytes = (fault : AmlFault) × ItemWrong bytes fault
