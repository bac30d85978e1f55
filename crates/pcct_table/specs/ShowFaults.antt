-- The first fault of a text that is to be a table's: right lines, and then one wrong thing.
use Rattle.std.specs.Prelude.{◌≡◌, ◌≤◌, ℕ, zero, suc, List, [], ◌∷◌, ◌++◌, length, Result, Ok, Err}
use Rattle.std.specs.List.{flat_map}
use Rattle.pcc_bytes.specs.Fields.{IsOneLine, line_text}
use Rattle.pcct_table.specs.declared.build.BuildError.{BuildError}
use Rattle.pcct_table.specs.declared.build.BuildError.TheVariants as error
use Rattle.pcct_table.specs.declared.build.BuildKind.{BuildKind}
use Rattle.pcct_table.specs.declared.build.BuildKind.TheVariants as kind
use Rattle.pcct_table.specs.declared.subspace.Subspace.{Subspace}
use Rattle.pcct_table.specs.declared.table.Table.{Table}
use Rattle.pcct_table.specs.Subspaces.{IsSubspace}
use Rattle.pcct_table.specs.ShowText.{HasText, header_line, show_line, show_text}

-- the lines of a table at most: its header's and 256 structures'
abbrev pub most_lines : ℕ
most_lines = 257

-- a line is right after n lines: it is first and a header's, or that of a structure in its place
abbrev pub IsRightAt : ℕ → List ℕ → Type 0
IsRightAt zero line = (t : Table) × HasText t × (line ≡ header_line t)
IsRightAt (suc place) line = (s : Subspace) × IsSubspace s × (line ≡ show_line place s)

-- each line is right, where n are before the first
abbrev pub AreRightFrom : ℕ → List (List ℕ) → Type 0
AreRightFrom n [] = Unit {0}
AreRightFrom n (line ∷ lines) = IsRightAt n line × AreRightFrom (suc n) lines

-- The first fault of a text, with the number of its line, from 1. The text begins with right lines, as many as a table has at most. After them
-- is a line that is not right there; or bytes with no line feed; or nothing, if there are no lines; or the right line of one structure
-- more than a table has.
pub data TextWrong (text : List ℕ) : ℕ → BuildKind → Type 0 where
  WrongLine : (before : List (List ℕ)) → (line rest : List ℕ) → AreRightFrom 0 before → length before ≤ most_lines → IsOneLine line
      → (IsRightAt (length before) line → ⊥) → text ≡ flat_map line_text before ++ (line ++ 10 ∷ rest)
      → TextWrong text (suc (length before)) kind.Text
  NoEnd : (before : List (List ℕ)) → (bytes : List ℕ) → AreRightFrom 0 before → length before ≤ most_lines → IsOneLine bytes → 1 ≤ length bytes
      → text ≡ flat_map line_text before ++ bytes → TextWrong text (suc (length before)) kind.Text
  NoLine : text ≡ [] → TextWrong text 1 kind.Text
  OneMore : (before : List (List ℕ)) → (line rest : List ℕ) → AreRightFrom 0 before → length before ≡ most_lines
      → IsRightAt (length before) line → text ≡ flat_map line_text before ++ (line ++ 10 ∷ rest)
      → TextWrong text (suc (length before)) kind.Many

-- ---- what a text is

-- a text is that of a table
pub record HasTable (text : List ℕ) : Type 0 where
  pub table : Table
  pub right : HasText table
  pub spelled : text ≡ show_text table

-- something is wrong in a text
pub record HasFault (text : List ℕ) : Type 0 where
  pub line : ℕ
  pub kind : BuildKind
  pub wrong : TextWrong text line kind

-- ---- what is reported

-- this table was read, unless memory ran out
abbrev pub IsReadAs : Table → Result Table BuildError → Type 0
IsReadAs t (Ok u) = u ≡ t
IsReadAs t (Err e) = e ≡ error.NoMemory

-- what holds of the line and the kind of an error that isn't want of memory
abbrev pub HoldsOf : BuildError → (ℕ → BuildKind → Type 0) → Type 0
HoldsOf error.NoMemory holds = Unit {0}
HoldsOf (error.Fault line kind) holds = holds line kind

-- what holds of the line and the kind of a fault, if one is reported
abbrev pub IfFault : Result Table BuildError → (ℕ → BuildKind → Type 0) → Type 0
IfFault (Ok t) holds = Unit {0}
IfFault (Err e) holds = HoldsOf e holds

-- this fault is reported, unless memory ran out
abbrev pub IsRefusedAt : ℕ → BuildKind → Result Table BuildError → Type 0
IsRefusedAt line kind (Ok t) = ⊥
IsRefusedAt line kind (Err e) = HoldsOf e (λ n k. (n ≡ line) × (k ≡ kind))
