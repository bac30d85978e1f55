-- The text of a scenario: its lines, each a word and the values of its fields, one after the other in their order.
use Rattle.std.specs.Prelude.{◌≡◌, ◌<◌, ◌≤◌, ℕ, suc, ◌+◌, ◌==◌, max, if◌then◌else◌, List, [], ◌∷◌, ◌++◌, length, map, Option, Some, None}
use Rattle.std.specs.List.{flat_map}
use Rattle.pcc_bytes.specs.Fields.{joined, line_text}
use Rattle.pcc_script.specs.declared.word.Word.{Word}
use Rattle.pcc_script.specs.declared.word.Word.TheVariants as word
use Rattle.pcc_script.specs.declared.scenario.Device.{Device}
use Rattle.pcc_script.specs.declared.scenario.Device.TheVariants.{Bank, Cppc}
use Rattle.pcc_script.specs.declared.scenario.Line.{Line}
use Rattle.pcc_script.specs.declared.scenario.Line.TheVariants as line
use Rattle.pcc_script.specs.declared.scenario.OpenLine.{OpenLine}
use Rattle.pcc_script.specs.declared.scenario.CapLine.{CapLine}
use Rattle.pcc_script.specs.declared.scenario.Letter.{Letter}
use Rattle.pcc_script.specs.declared.scenario.Scenario.{Scenario}
use Rattle.pcc_script.specs.Rows.{behind, Exactly, field_at, IsOf, AtLeast, most, NamedBank, NamedCppc, OfBytes, OfDevice, OfLetters, OfNumber}
use Rattle.pcc_script.specs.Rows.{OfOptional, place, AtMost, spell, Step, steps_of, Takes, text_of, Value}

-- a line: its word and the values of the fields after it
pub record Statement : Type 0 where
  pub word : Word
  pub values : List Value

-- its fields as texts, the first of which is the word
abbrev pub fields_of : Statement → List (List ℕ)
fields_of s = text_of s.word ∷ map spell s.values

-- its text, with one space between two fields and without the line feed
abbrev pub line_of : Statement → List ℕ
line_of s = joined (fields_of s)

-- ---- the lines of a scenario

-- `table HEX`
abbrev pub table_statement : List ℕ → Statement
table_statement bytes = record { word = word.Table; values = OfBytes bytes ∷ [] }

-- `clock START STEP`
abbrev pub clock_statement : ℕ → ℕ → Statement
clock_statement start step = record { word = word.Clock; values = OfNumber start ∷ OfNumber step ∷ [] }

-- `bank`, or `cppc HEX`
abbrev pub device_values : Device → List Value
device_values Bank = OfDevice NamedBank ∷ []
device_values (Cppc image) = OfDevice NamedCppc ∷ OfBytes image ∷ []

-- `open ID` and the device
abbrev pub open_statement : OpenLine → Statement
open_statement o = record { word = word.Open; values = OfNumber o.id ∷ device_values o.device }

-- `cpu HEX`
abbrev pub cpu_statement : List ℕ → Statement
cpu_statement bytes = record { word = word.Cpu; values = OfBytes bytes ∷ [] }

-- `cap ID COUNT VALUE`
abbrev pub cap_statement : CapLine → Statement
cap_statement c = record { word = word.Cap; values = OfNumber c.id ∷ OfNumber c.count ∷ OfNumber c.value ∷ [] }

-- `call WORKER ID CODE HEX POLLS HOLD`, `read WORKER CPU POLLS HOLD`, `set WORKER CPU MIN DESIRED MAX POLLS HOLD` or `wait N`
abbrev pub action_statement : Line → Statement
action_statement (line.Call worker subspace code bytes polls hold) =
    record { word = word.Call; values = OfNumber worker ∷ OfNumber subspace ∷ OfNumber code ∷ OfBytes bytes ∷ OfNumber polls ∷ OfNumber hold ∷ [] }
action_statement (line.Read worker cpu polls hold) =
    record { word = word.Read; values = OfNumber worker ∷ OfNumber cpu ∷ OfNumber polls ∷ OfNumber hold ∷ [] }
action_statement (line.Set worker wish polls hold) =
    let asked = OfNumber wish.cpu ∷ OfOptional wish.min ∷ OfNumber wish.desired ∷ OfOptional wish.max ∷ OfNumber polls ∷ OfNumber hold ∷ [] in
    record { word = word.Set; values = OfNumber worker ∷ asked }
action_statement (line.Wait n) = record { word = word.Wait; values = OfNumber n ∷ [] }

-- `pick LETTERS`
abbrev pub pick_statement : List Letter → Statement
pick_statement letters = record { word = word.Pick; values = OfLetters letters ∷ [] }

-- the `pick` line, if there is one
abbrev pub pick_statements : Option (List Letter) → List Statement
pick_statements None = []
pick_statements (Some letters) = pick_statement letters ∷ []

-- the lines of a scenario, in their order
abbrev pub statements_of : Scenario → List Statement
statements_of s =
    table_statement s.table ∷ clock_statement s.start s.step
    ∷ (map open_statement s.opens ++ (map cpu_statement s.cpus
    ++ (map cap_statement s.caps ++ (map action_statement s.actions ++ pick_statements s.picks))))

-- the text of lines, each of which ends with a line feed
unfoldable pub statements_text : List Statement → List ℕ
statements_text statements = flat_map line_text (map line_of statements)

-- the one text of a scenario
unfoldable pub script_text : Scenario → List ℕ
script_text s = statements_text (statements_of s)

-- ---- what is right

-- the least place that a line may have after these lines
abbrev pub next_of : List Statement → ℕ
next_of [] = 0
next_of (s ∷ more) = max (behind s.word) (next_of more)

-- how many lines are at a place
abbrev pub count_at : ℕ → List Statement → ℕ
count_at p [] = 0
count_at p (s ∷ more) = (if place s.word == p then 1 else 0) + count_at p more

-- what a test demands of a line's fields, where the next field is at i: of the number of fields, of the length of a field, or that the next
-- field is the text of a value of this kind
abbrev pub IsRight : ℕ → List (List ℕ) → Step → Type 0
IsRight i f (AtLeast n) = n ≤ length f
IsRight i f (Exactly n) = length f ≡ n
IsRight i f (AtMost j n) = length (field_at f j) ≤ n
IsRight i f (Takes k) = (v : Value) × IsOf k v × (field_at f i ≡ spell v)

-- the place of the next field after a test
abbrev pub after : ℕ → Step → ℕ
after i (Takes k) = suc i
after i _ = i

-- all tests hold of these fields, and these are the values of the fields that they take, in order
abbrev pub AllRight : ℕ → List Step → List (List ℕ) → List Value → Type 0
AllRight i [] f vs = vs ≡ []
AllRight i (AtLeast n ∷ ss) f vs = IsRight i f (AtLeast n) × AllRight i ss f vs
AllRight i (Exactly n ∷ ss) f vs = IsRight i f (Exactly n) × AllRight i ss f vs
AllRight i (AtMost j n ∷ ss) f vs = IsRight i f (AtMost j n) × AllRight i ss f vs
AllRight i (Takes k ∷ ss) f [] = ⊥
AllRight i (Takes k ∷ ss) f (v ∷ vs) = IsOf k v × (field_at f i ≡ spell v) × AllRight (suc i) ss f vs

-- a line may follow these lines, and its fields are right
pub record LineRight (before : List Statement) (s : Statement) : Type 0 where
  pub placed : next_of before ≤ place s.word
  pub few : count_at (place s.word) before < most s.word
  pub fields : AllRight 1 (steps_of s.word (fields_of s)) (fields_of s) s.values

-- each of these lines is right after the lines `before` and the earlier ones of these
abbrev pub InOrder : List Statement → List Statement → Type 0
InOrder before [] = Unit {0}
InOrder before (s ∷ more) = LineRight before s × InOrder (before ++ s ∷ []) more

-- the lines that have to be are there: `table`, `clock` and `open`
abbrev pub IsWhole : List Statement → Type 0
IsWhole statements =
    (1 ≤ count_at (place word.Table) statements) × (1 ≤ count_at (place word.Clock) statements) × (1 ≤ count_at (place word.Open) statements)

-- a scenario that has a text: its lines are right and whole
pub record IsScenario (s : Scenario) : Type 0 where
  pub right : InOrder [] (statements_of s)
  pub whole : IsWhole (statements_of s)
