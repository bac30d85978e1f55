-- Where the journals of an input begin: at the first line whose first field is `journal`. What stands before it is the script part.
use Rattle.std.specs.Prelude.{◌≡◌, ℕ, Bool, true, false, List, [], ◌++◌, bytes_eq, codes, slice_index_or}
use Rattle.std.specs.List.{AllByRecursion, flat_map}
use Rattle.pcc_bytes.specs.Fields.{IsOneLine, line_text, split_at}

-- the first field of a line, and the first line of a text, without its line feed
abbrev pub first_field : List ℕ → List ℕ
first_field line = slice_index_or (split_at 32 line) 0 []

abbrev pub first_line : List ℕ → List ℕ
first_line text = slice_index_or (split_at 10 text) 0 []

-- a line begins the journals
abbrev pub is_journal : List ℕ → Bool
is_journal line = bytes_eq (first_field line) (codes "journal")

-- a line of the script part
pub record IsScriptLine (line : List ℕ) : Type 0 where
  pub one : IsOneLine line
  pub other : is_journal line ≡ false

-- An input is its script part, followed by its journals. Where no line begins the journals, the whole input is the script part, its last bytes
-- without a line feed included, and the journals are empty.
pub data IsCut (input : List ℕ) : List ℕ → List ℕ → Type 0 where
  NoJournals : AllByRecursion IsScriptLine (split_at 10 input) → IsCut input input []
  JournalsFrom : (lines : List (List ℕ)) → (journals : List ℕ) → AllByRecursion IsScriptLine lines → is_journal (first_line journals) ≡ true
      → input ≡ flat_map line_text lines ++ journals → IsCut input (flat_map line_text lines) journals

-- an input that is cut so
pub record HasCut (input : List ℕ) : Type 0 where
  pub script : List ℕ
  pub journals : List ℕ
  pub cut : IsCut input script journals
