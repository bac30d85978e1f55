-- How the code reads a text, from left to right, as functions on lists. Only contracts of private functions cite these.
use Rattle.std.specs.Prelude.{◌≡◌, ◌≤◌, ◌+◌, ◌==◌, ℕ, suc, nat_lt, Bool, true, false, if◌then◌else◌, List, [], ◌∷◌, ◌++◌, length, take, drop}
use Rattle.std.specs.Prelude.{slice_index_or, Option, Some, None, Result, Ok, Err, option_and_then, bytes_eq, codes, decimal}
use Rattle.std.specs.List.{AllByRecursion}
use Rattle.pcc_bytes.specs.Fields.{last_in, lines_of, split_at}
use Rattle.pcc_text.specs.Reading.{hex_of, number_of}
use Rattle.pcct_table.specs.declared.build.BuildError.{BuildError}
use Rattle.pcct_table.specs.declared.build.BuildError.TheVariants as error
use Rattle.pcct_table.specs.declared.build.BuildKind.{BuildKind}
use Rattle.pcct_table.specs.declared.build.BuildKind.TheVariants as kind
use Rattle.pcct_table.specs.declared.rows.Kind.{Kind}
use Rattle.pcct_table.specs.declared.rows.Kind.TheVariants.{Byte, Word, Dword, Qword, Address, Array}
use Rattle.pcct_table.specs.declared.subspace.Subspace.{Subspace}
use Rattle.pcct_table.specs.declared.table.Table.{Table}
use Rattle.pcct_table.specs.Rows.{Field, known_fields, known_size, unknown_kinds}
use Rattle.pcct_table.specs.Values.{fields_bytes, number_bytes}
use Rattle.pcct_table.specs.Subspaces.{IsSubspace, SubspaceBytes}
use Rattle.pcct_table.specs.ShowText.{HasText, later_fields, later_values, structure_lines, table_lines}
use Rattle.pcct_table.specs.ShowFaults.{AreRightFrom, IsRightAt, most_lines}

infixl 10 ◌>>=◌
infixr 9 ◌then◌
abbrev pub ◌>>=◌ : {A B : Type 0} → Option A → (A → Option B) → Option B
o >>= f = option_and_then f o

-- ---- words

-- what was added to some bytes, if there is something to add
abbrev pub Adds : Option (List ℕ) → Bool → List ℕ → List ℕ → Type 0
Adds None ok old new = ok ≡ false
Adds (Some bytes) ok old new = (ok ≡ true) × (new ≡ old ++ bytes)

-- the n bytes of a decimal number up to a limit
unfoldable pub read_number : ℕ → ℕ → List ℕ → Option (List ℕ)
read_number n limit text = do
  x ← number_of limit text
  Some (number_bytes n x)

-- bytes and the bytes after them
abbrev pub ◌then◌ : Option (List ℕ) → Option (List ℕ) → Option (List ℕ)
None then more = None
(Some front) then None = None
(Some front) then (Some back) = Some (front ++ back)

abbrev pub part : List (List ℕ) → ℕ → List ℕ
part parts i = slice_index_or parts i []

-- the five numbers of an address
abbrev pub read_parts : List (List ℕ) → Option (List ℕ)
read_parts parts =
    if length parts == 5 then (read_number 1 255 (part parts 0) then (read_number 1 255 (part parts 1)
    then (read_number 1 255 (part parts 2) then (read_number 1 255 (part parts 3) then read_number 8 18446744073709551615 (part parts 4)))))
    else None

unfoldable pub read_address : List ℕ → Option (List ℕ)
read_address text = read_parts (split_at 58 text)

unfoldable pub read_array : ℕ → List ℕ → Option (List ℕ)
read_array n text = do
  bytes ← hex_of text
  if length bytes == n then Some bytes else None

abbrev pub read_value : Kind → List ℕ → Option (List ℕ)
read_value Byte text = read_number 1 255 text
read_value Word text = read_number 2 65535 text
read_value Dword text = read_number 4 4294967295 text
read_value Qword text = read_number 8 18446744073709551615 text
read_value Address text = read_address text
read_value (Array n) text = read_array n text

abbrev pub behind_equals : List ℕ → Option (List ℕ)
behind_equals [] = None
behind_equals (b ∷ bs) = if b == 61 then Some bs else None

-- what follows `name=`
unfoldable pub behind_name : List ℕ → List ℕ → Option (List ℕ)
behind_name name w = if bytes_eq (take (length name) w) name then behind_equals (drop (length name) w) else None

unfoldable pub read_word : Field → List ℕ → Option (List ℕ)
read_word f w = do
  text ← behind_name f.name w
  read_value f.kind text

unfoldable pub read_words : List Field → List (List ℕ) → Option (List ℕ)
read_words [] [] = Some []
read_words [] (w ∷ ws) = None
read_words (f ∷ fs) [] = None
read_words (f ∷ fs) (w ∷ ws) = read_word f w then read_words fs ws

-- ---- lines

abbrev pub read_revision : List ℕ → Option ℕ
read_revision w = if bytes_eq w (codes "revision=1") then Some 1 else (if bytes_eq w (codes "revision=2") then Some 2 else None)

-- the bytes of a header up to its checksum, 0 where a table's value says nothing
abbrev pub head_bytes : ℕ → List ℕ
head_bytes revision = 0 ∷ 0 ∷ 0 ∷ 0 ∷ 0 ∷ 0 ∷ 0 ∷ 0 ∷ revision ∷ 0 ∷ []

-- the bytes of a table's header, 0 where its value says nothing
abbrev pub shown_bytes : Table → List ℕ
shown_bytes t = head_bytes t.revision ++ fields_bytes later_fields (later_values t)

-- the bytes of the header whose line has these words
unfoldable pub read_header : List (List ℕ) → Option (List ℕ)
read_header ws =
    if nat_lt (length ws) 2 then None
    else (if bytes_eq (part ws 0) (codes "pcct") then (do
      revision ← read_revision (part ws 1)
      bytes ← read_words later_fields (drop 2 ws)
      Some (head_bytes revision ++ bytes)) else None)

-- the bytes of a structure of a known type, from the words of its fields
abbrev pub read_known : ℕ → List (List ℕ) → Option (List ℕ)
read_known kind ws = do
  size ← known_size kind
  bytes ← read_words (known_fields kind) ws
  Some (kind ∷ size ∷ bytes)

-- so many bytes follow the head of a structure of an unknown type at most
abbrev pub most_bytes : ℕ
most_bytes = 253

abbrev pub with_head : ℕ → List ℕ → Option (List ℕ)
with_head kind bytes = if nat_lt most_bytes (length bytes) then None else Some (kind ∷ (2 + length bytes) ∷ bytes)

-- the bytes of a structure of an unknown type, from its one word
unfoldable pub read_bytes : ℕ → List ℕ → Option (List ℕ)
read_bytes kind w = do
  text ← behind_name (codes "bytes") w
  bytes ← hex_of text
  with_head kind bytes

abbrev pub read_unknown : ℕ → List (List ℕ) → Option (List ℕ)
read_unknown kind (w ∷ []) = read_bytes kind w
read_unknown kind _ = None

-- the bytes of a structure of a type, from the words of its fields
abbrev pub read_kind : Option ℕ → List (List ℕ) → Option (List ℕ)
read_kind o ws = do
  kind ← o
  if nat_lt kind unknown_kinds then read_known kind ws else read_unknown kind ws

-- the bytes of the structure whose line has these words
unfoldable pub read_line : ℕ → List (List ℕ) → Option (List ℕ)
read_line place ws =
    if nat_lt (length ws) 4 then None
    else (if bytes_eq (part ws 0) (codes "subspace") then (if bytes_eq (part ws 1) (decimal place) then (
    if bytes_eq (part ws 2) (codes "type") then read_kind (number_of 255 (part ws 3)) (drop 4 ws) else None) else None) else None)

-- the structure that was read of a line
abbrev pub ReadsStructure : Option (List ℕ) → Option Subspace → Type 0
ReadsStructure (Some bytes) (Some s) = SubspaceBytes bytes s
ReadsStructure None None = Unit {0}
ReadsStructure _ _ = ⊥

-- ---- a text

-- what stops reading after n right lines, where these lines are left and these bytes after the last line feed
pub data Stops (n : ℕ) : List (List ℕ) → List ℕ → BuildKind → Type 0 where
  Wrong : (line : List ℕ) → (rest : List (List ℕ)) → (last : List ℕ) → (IsRightAt n line → ⊥) → Stops n (line ∷ rest) last kind.Text
  OneLineMore : (line : List ℕ) → (rest : List (List ℕ)) → (last : List ℕ) → n ≡ most_lines → IsRightAt n line → Stops n (line ∷ rest) last kind.Many
  Unended : (last : List ℕ) → 1 ≤ length last → Stops n [] last kind.Text
  Nothing : (last : List ℕ) → n ≡ 0 → Stops n [] last kind.Text

-- structures that some bytes spell, as many as a table has at most
pub record AreFew (ss : List Subspace) : Type 0 where
  pub spelled : AllByRecursion IsSubspace ss
  pub few : length ss ≤ 256

-- the lines of such structures precede the one of this number, counted from 1 with the header's, and there reading stops
pub record StopsBehind (lines : List (List ℕ)) (last : List ℕ) (line : ℕ) (kind : BuildKind) : Type 0 where
  pub before : List Subspace
  pub more : List (List ℕ)
  pub cut : lines ≡ structure_lines 0 before ++ more
  pub right : AreFew before
  pub stops : Stops (suc (length before)) more last kind
  pub number : line ≡ suc (suc (length before))

-- what was read of the lines after the header's
abbrev pub TellsStructures : Result (List Subspace) BuildError → List (List ℕ) → List ℕ → Type 0
TellsStructures (Ok ss) lines last = (lines ≡ structure_lines 0 ss) × AreFew ss × (last ≡ [])
TellsStructures (Err error.NoMemory) lines last = Unit {0}
TellsStructures (Err (error.Fault line kind)) lines last = StopsBehind lines last line kind

-- right lines precede the one of this number, and there reading stops
pub record StopsAt (lines : List (List ℕ)) (last : List ℕ) (line : ℕ) (kind : BuildKind) : Type 0 where
  pub before : List (List ℕ)
  pub more : List (List ℕ)
  pub cut : lines ≡ before ++ more
  pub right : AreRightFrom 0 before
  pub few : length before ≤ most_lines
  pub stops : Stops (length before) more last kind
  pub number : line ≡ suc (length before)

-- what was read of all lines
abbrev pub TellsTable : Result Table BuildError → List (List ℕ) → List ℕ → Type 0
TellsTable (Ok t) lines last = HasText t × (lines ≡ table_lines t) × (last ≡ [])
TellsTable (Err error.NoMemory) lines last = Unit {0}
TellsTable (Err (error.Fault line kind)) lines last = StopsAt lines last line kind

-- what was read of a text
abbrev pub TellsText : Result Table BuildError → List ℕ → Type 0
TellsText r text = TellsTable r (lines_of text) (last_in text)
