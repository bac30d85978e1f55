-- The language as rows of data: of each word its text, the place of its lines, how many there may be, and the tests of a line from left to right.
use Rattle.std.specs.Prelude.{◌≡◌, ◌≤◌, ◌-◌, ◌^◌, ℕ, if◌then◌else◌, List, [], ◌∷◌, length, map, slice_index_or, Option, Some, None, IfSome, decimal}
use Rattle.std.specs.Prelude.{codes, bytes_eq}
use Rattle.pcc_bytes.specs.Bytes.{IsBytes}
use Rattle.pcc_bytes.specs.Fields.{hex_text}
use Rattle.pcc_script.specs.declared.limits.TheConstants.{MAX_ACTIONS, MAX_CAPS, MAX_CODE, MAX_CPU, MAX_CPUS, MAX_HOLD, MAX_ID, MAX_LETTERS}
use Rattle.pcc_script.specs.declared.limits.TheConstants.{MAX_OPENS, MAX_POLLS, MAX_WORKER}
use Rattle.pcc_script.specs.declared.word.Word.{Word}
use Rattle.pcc_script.specs.declared.word.Word.TheVariants as word
use Rattle.pcc_script.specs.declared.scenario.Letter.{Letter}
use Rattle.pcc_script.specs.declared.scenario.Letter.TheVariants.{O, P}
use Rattle.pcc_script.specs.declared.fault.ScriptKind.{ScriptKind}
use Rattle.pcc_script.specs.declared.fault.ScriptKind.TheVariants as kind

-- ---- values of fields

-- the name of a device
pub data DeviceName : Type 0 where
  NamedBank : DeviceName
  NamedCppc : DeviceName

-- the value of a field: a number, a number or none, bytes, the name of a device, or letters
pub data Value : Type 0 where
  OfNumber : ℕ → Value
  OfOptional : Option ℕ → Value
  OfBytes : List ℕ → Value
  OfDevice : DeviceName → Value
  OfLetters : List Letter → Value

-- the byte of a letter: `o` or `p`
abbrev pub letter_text : Letter → ℕ
letter_text O = 111
letter_text P = 112

-- the one text of a value: numbers in decimal, bytes in hexadecimal, `-` if there is no number
abbrev pub spell : Value → List ℕ
spell (OfNumber n) = decimal n
spell (OfOptional None) = 45 ∷ []
spell (OfOptional (Some n)) = decimal n
spell (OfBytes bytes) = hex_text bytes
spell (OfDevice NamedBank) = codes "bank"
spell (OfDevice NamedCppc) = codes "cppc"
spell (OfLetters letters) = map letter_text letters

-- ---- kinds of fields

-- what a number means, which says how large it may be
pub data Limit : Type 0 where
  Worker : Limit
  Cpu : Limit
  Id : Limit
  Code : Limit
  Polls : Limit
  Hold : Limit
  Any : Limit

-- the greatest such number
abbrev pub most_of : Limit → ℕ
most_of Worker = MAX_WORKER
most_of Cpu = MAX_CPU
most_of Id = MAX_ID
most_of Code = MAX_CODE
most_of Polls = MAX_POLLS
most_of Hold = MAX_HOLD
most_of Any = 2 ^ 64 - 1

-- what a field may hold: a number from 0 or from 1 up to a limit, any number or `-`, bytes, the name of a device, or letters
pub data Kind : Type 0 where
  Whole : Limit → Kind
  Positive : Limit → Kind
  Optional : Kind
  HexBytes : Kind
  DeviceText : Kind
  LetterText : Kind

-- a value that a field of this kind may have
abbrev pub IsOf : Kind → Value → Type 0
IsOf (Whole limit) v = (n : ℕ) × (v ≡ OfNumber n) × (n ≤ most_of limit)
IsOf (Positive limit) v = (n : ℕ) × (v ≡ OfNumber n) × (1 ≤ n) × (n ≤ most_of limit)
IsOf Optional v = (o : Option ℕ) × (v ≡ OfOptional o) × IfSome o (λ n. n ≤ most_of Any)
IsOf HexBytes v = (bytes : List ℕ) × (v ≡ OfBytes bytes) × IsBytes bytes
IsOf DeviceText v = (name : DeviceName) × (v ≡ OfDevice name)
IsOf LetterText v = (letters : List Letter) × (v ≡ OfLetters letters) × (1 ≤ length letters)

-- the fault of a field that is the text of no value of this kind
abbrev pub field_fault : Kind → ScriptKind
field_fault (Whole limit) = kind.Number
field_fault (Positive limit) = kind.Number
field_fault Optional = kind.Number
field_fault HexBytes = kind.Hex
field_fault DeviceText = kind.Name
field_fault LetterText = kind.Name

-- ---- the tests of a line

-- a test: at least n fields, exactly n, a field with at most n bytes, or the next field is of this kind
pub data Step : Type 0 where
  AtLeast : ℕ → Step
  Exactly : ℕ → Step
  AtMost : ℕ → ℕ → Step
  Takes : Kind → Step

-- the field at a place, from 0
abbrev pub field_at : List (List ℕ) → ℕ → List ℕ
field_at fields place = slice_index_or fields place []

-- ---- the rows

-- the text of a word
abbrev pub text_of : Word → List ℕ
text_of word.Table = codes "table"
text_of word.Clock = codes "clock"
text_of word.Open = codes "open"
text_of word.Cpu = codes "cpu"
text_of word.Cap = codes "cap"
text_of word.Call = codes "call"
text_of word.Read = codes "read"
text_of word.Set = codes "set"
text_of word.Wait = codes "wait"
text_of word.Pick = codes "pick"

-- the place of its lines, which are in the order of their places; the four words of actions share one
abbrev pub place : Word → ℕ
place word.Table = 0
place word.Clock = 1
place word.Open = 2
place word.Cpu = 3
place word.Cap = 4
place word.Call = 5
place word.Read = 5
place word.Set = 5
place word.Wait = 5
place word.Pick = 6

-- the least place of a line after one of its lines: after a word that occurs once it is the next place
abbrev pub behind : Word → ℕ
behind word.Table = 1
behind word.Clock = 2
behind word.Pick = 7
behind w = place w

-- how many lines there may be at its place
abbrev pub most : Word → ℕ
most word.Table = 1
most word.Clock = 1
most word.Open = MAX_OPENS
most word.Cpu = MAX_CPUS
most word.Cap = MAX_CAPS
most word.Call = MAX_ACTIONS
most word.Read = MAX_ACTIONS
most word.Set = MAX_ACTIONS
most word.Wait = MAX_ACTIONS
most word.Pick = 1

-- the tests of an `open` line from its third field on: the name of the device says how many fields there are
abbrev pub device_steps : List (List ℕ) → List Step
device_steps f = Takes DeviceText ∷ (if bytes_eq (field_at f 2) (codes "cppc") then Exactly 4 ∷ Takes HexBytes ∷ [] else Exactly 3 ∷ [])

-- the tests of a line of this word with these fields, the first of which is the word
abbrev pub steps_of : Word → List (List ℕ) → List Step
steps_of word.Table f = Exactly 2 ∷ Takes HexBytes ∷ []
steps_of word.Clock f = Exactly 3 ∷ Takes (Whole Any) ∷ Takes (Whole Any) ∷ []
steps_of word.Open f = AtLeast 3 ∷ Takes (Whole Id) ∷ device_steps f
steps_of word.Cpu f = Exactly 2 ∷ Takes HexBytes ∷ []
steps_of word.Cap f = Exactly 4 ∷ Takes (Whole Id) ∷ Takes (Whole Any) ∷ Takes (Whole Any) ∷ []
steps_of word.Call f =
    Exactly 7 ∷ Takes (Whole Worker) ∷ Takes (Whole Id) ∷ Takes (Whole Code) ∷ Takes HexBytes ∷ Takes (Positive Polls) ∷ Takes (Whole Hold) ∷ []
steps_of word.Read f = Exactly 5 ∷ Takes (Whole Worker) ∷ Takes (Whole Cpu) ∷ Takes (Positive Polls) ∷ Takes (Whole Hold) ∷ []
steps_of word.Set f =
    Exactly 8 ∷ Takes (Whole Worker) ∷ Takes (Whole Cpu) ∷ Takes Optional ∷ Takes (Whole Any) ∷ Takes Optional
    ∷ Takes (Positive Polls) ∷ Takes (Whole Hold) ∷ []
steps_of word.Wait f = Exactly 2 ∷ Takes (Whole Any) ∷ []
steps_of word.Pick f = Exactly 2 ∷ Takes LetterText ∷ AtMost 1 MAX_LETTERS ∷ []

-- all words
abbrev pub words : List Word
words = word.Table ∷ word.Clock ∷ word.Open ∷ word.Cpu ∷ word.Cap ∷ word.Call ∷ word.Read ∷ word.Set ∷ word.Wait ∷ word.Pick ∷ []
