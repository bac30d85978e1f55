-- The words of each line as data, and how the code reads them, from left to right, as functions on lists. Only contracts of private functions
-- cite these.
use Rattle.std.specs.Prelude.{◌≡◌, ◌≤◌, ◌==◌, ℕ, suc, Bool, true, false, if◌then◌else◌, List, [], ◌∷◌, ◌++◌, length, slice_index_or}
use Rattle.std.specs.Prelude.{Option, Some, None, option_and_then, bytes_eq, codes, decimal}
use Rattle.pcc_bytes.specs.Bytes.{IsBytes}
use Rattle.pcc_bytes.specs.Fields.{hex_text}
use Rattle.pcc_text.specs.Reading.{hex_of, number_of}
use Rattle.pcc_journal.specs.declared.record.Record.{Record}
use Rattle.pcc_journal.specs.declared.record.Pending.{Pending}
use Rattle.pcc_journal.specs.declared.text.JournalHead.{JournalHead}
use Rattle.journal_reading.specs.Told.{most_8, most_32, most_64}

infixl 10 ◌>>=◌
abbrev pub ◌>>=◌ : {A B : Type 0} → Option A → (A → Option B) → Option B
o >>= f = option_and_then f o

pub data Value : Type 0 where
  OfNumber : ℕ → Value
  OfBytes : List ℕ → Value
  OfFlag : Bool → Value

-- a number up to a limit, bytes, or the first of two words if a flag is set and else the second
pub data Kind : Type 0 where
  Upto : ℕ → Kind
  HexBytes : Kind
  Either : List ℕ → List ℕ → Kind

-- a word as it is, or one that has a value
pub data Step : Type 0 where
  Word : List ℕ → Step
  Takes : Kind → Step

abbrev pub IsOf : Kind → Value → Type 0
IsOf (Upto limit) v = (n : ℕ) × (v ≡ OfNumber n) × (n ≤ limit)
IsOf HexBytes v = (bytes : List ℕ) × (v ≡ OfBytes bytes) × IsBytes bytes
IsOf (Either first second) v = (flag : Bool) × (v ≡ OfFlag flag)

abbrev pub word_of : Kind → Value → List ℕ
word_of (Upto limit) (OfNumber n) = decimal n
word_of HexBytes (OfBytes bytes) = hex_text bytes
word_of (Either first second) (OfFlag flag) = if flag then first else second
word_of _ _ = []

-- the values are those of the words that have one
abbrev pub Fit : List Step → List Value → Type 0
Fit [] vs = vs ≡ []
Fit (Word w ∷ ss) vs = Fit ss vs
Fit (Takes k ∷ ss) [] = ⊥
Fit (Takes k ∷ ss) (v ∷ vs) = IsOf k v × Fit ss vs

abbrev pub words : List Step → List Value → List (List ℕ)
words [] vs = []
words (Word w ∷ ss) vs = w ∷ words ss vs
words (Takes k ∷ ss) [] = []
words (Takes k ∷ ss) (v ∷ vs) = word_of k v ∷ words ss vs

-- the line of some words, with its line feed
abbrev pub line_of : List (List ℕ) → List ℕ
line_of [] = []
line_of (w ∷ []) = w ++ 10 ∷ []
line_of (w ∷ v ∷ vs) = w ++ 32 ∷ line_of (v ∷ vs)

-- ---- reading

abbrev pub part : List (List ℕ) → ℕ → List ℕ
part parts i = slice_index_or parts i []

abbrev pub number_value : Option ℕ → Option Value
number_value None = None
number_value (Some n) = Some (OfNumber n)

abbrev pub bytes_value : Option (List ℕ) → Option Value
bytes_value None = None
bytes_value (Some bytes) = Some (OfBytes bytes)

unfoldable pub flag_of : List ℕ → List ℕ → List ℕ → Option Bool
flag_of first second word = if bytes_eq word first then Some true else (if bytes_eq word second then Some false else None)

abbrev pub flag_value : Option Bool → Option Value
flag_value None = None
flag_value (Some flag) = Some (OfFlag flag)

abbrev pub read_word : Kind → List ℕ → Option Value
read_word (Upto limit) w = number_value (number_of limit w)
read_word HexBytes w = bytes_value (hex_of w)
read_word (Either first second) w = flag_value (flag_of first second w)

-- the values of the words from a place on
unfoldable pub read_at : ℕ → List Step → List (List ℕ) → Option (List Value)
read_at i [] ws = Some []
read_at i (Word w ∷ ss) ws = if bytes_eq (part ws i) w then read_at (suc i) ss ws else None
read_at i (Takes k ∷ ss) ws = do
  v ← read_word k (part ws i)
  vs ← read_at (suc i) ss ws
  Some (v ∷ vs)

-- the values of all words of a line, of which there are n
unfoldable pub read_row : ℕ → List Step → List (List ℕ) → Option (List Value)
read_row n ss ws = if length ws == n then read_at 0 ss ws else None

-- ---- the lines

abbrev pub head_row : List Step
head_row =
    Word (codes "journal") ∷ Takes (Upto most_8) ∷ Word (codes "type") ∷ Takes (Upto most_8) ∷ Takes (Either (codes "cppc") (codes "bank"))
    ∷ Word (codes "room") ∷ Takes (Upto most_32) ∷ Word (codes "turnaround") ∷ Takes (Upto most_32) ∷ Word (codes "rate") ∷ Takes (Upto most_32)
    ∷ Word (codes "errors") ∷ Takes (Either (codes "yes") (codes "no")) ∷ []

abbrev pub head_values : JournalHead → List Value
head_values h =
    OfNumber h.id ∷ OfNumber h.kind ∷ OfFlag h.cppc ∷ OfNumber h.room ∷ OfNumber h.limits.turnaround ∷ OfNumber h.limits.per_minute
    ∷ OfFlag h.reports ∷ []

-- what a record's line says of the bytes of a command
unfoldable pub exchange_row : List Step
exchange_row = Word (codes "in") ∷ Takes HexBytes ∷ Word (codes "out") ∷ Takes HexBytes ∷ []

abbrev pub exchange_values : List ℕ × List ℕ → List Value
exchange_values x = OfBytes x.0 ∷ OfBytes x.1 ∷ []

abbrev pub record_row : ℕ → List Step
record_row place =
    Word (codes "record") ∷ Word (decimal place) ∷ Word (codes "caller") ∷ Takes (Upto most_32) ∷ Word (codes "code") ∷ Takes (Upto most_32)
    ∷ Takes (Either (codes "error") (codes "ok")) ∷ Word (codes "post") ∷ Takes (Upto most_64) ∷ Word (codes "done") ∷ Takes (Upto most_64)
    ∷ Takes (Either (codes "late") (codes "timely")) ∷ exchange_row

abbrev pub record_values : Record → List Value
record_values r =
    OfNumber r.caller ∷ OfNumber r.code ∷ OfFlag r.error ∷ OfNumber r.post ∷ OfNumber r.done ∷ OfFlag r.late ∷ OfBytes r.input
    ∷ OfBytes r.output ∷ []

abbrev pub pending_row : List Step
pending_row =
    Word (codes "pending") ∷ Word (codes "caller") ∷ Takes (Upto most_32) ∷ Word (codes "code") ∷ Takes (Upto most_32) ∷ Word (codes "post")
    ∷ Takes (Upto most_64) ∷ Word (codes "in") ∷ Takes HexBytes ∷ []

abbrev pub pending_values : Pending → List Value
pending_values p = OfNumber p.caller ∷ OfNumber p.code ∷ OfNumber p.post ∷ OfBytes p.input ∷ []

abbrev pub end_row : ℕ → List Step
end_row id = Word (codes "end") ∷ Word (decimal id) ∷ []
