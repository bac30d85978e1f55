-- How the code reads a text, from left to right, as functions on lists. Only contracts of private functions cite these.
use Rattle.std.specs.Prelude.{◌≡◌, ◌<◌, ℕ, zero, suc, ◌==◌, ◌&&◌, nat_lt, nat_le, Bool, if◌then◌else◌, List, [], ◌∷◌, ◌++◌, length, map, Option, Some}
use Rattle.std.specs.Prelude.{None, Result, Ok, Err, codes, bytes_eq}
use Rattle.pcc_bytes.specs.Fields.{last_in, lines_of, split_at}
use Rattle.pcc_text.specs.Reading.{hex_of, number_of}
use Rattle.pcc_script.specs.declared.fault.ScriptError.{ScriptError}
use Rattle.pcc_script.specs.declared.fault.ScriptError.TheVariants as error
use Rattle.pcc_script.specs.declared.fault.ScriptKind.{ScriptKind}
use Rattle.pcc_script.specs.declared.fault.ScriptKind.TheVariants as kind
use Rattle.pcc_script.specs.declared.fault.Stop.{Stop}
use Rattle.pcc_script.specs.declared.fault.Stop.TheVariants as stop
use Rattle.pcc_script.specs.declared.line.Entry.{Entry}
use Rattle.pcc_script.specs.declared.line.Entry.TheVariants as entry
use Rattle.pcc_script.specs.declared.order.Seen.{Seen}
use Rattle.pcc_script.specs.declared.partial.ClockLine.{ClockLine}
use Rattle.pcc_script.specs.declared.partial.Partial.{Partial}
use Rattle.pcc_script.specs.declared.scenario.Letter.{Letter}
use Rattle.pcc_script.specs.declared.scenario.Letter.TheVariants.{O, P}
use Rattle.pcc_script.specs.declared.scenario.Scenario.{Scenario}
use Rattle.pcc_script.specs.declared.word.Word.{Word}
use Rattle.pcc_script.specs.declared.word.Word.TheVariants as word
use Rattle.pcc_script.specs.Rows.{Any, AtLeast, AtMost, behind, DeviceText, Exactly, field_at, HexBytes, Kind, LetterText, most, most_of, NamedBank}
use Rattle.pcc_script.specs.Rows.{NamedCppc, OfBytes, OfDevice, OfLetters, OfNumber, OfOptional, Optional, place, Positive, Step, steps_of, Takes}
use Rattle.pcc_script.specs.Rows.{text_of, Value, Whole, words}
use Rattle.pcc_script.specs.Text.{action_statement, cap_statement, clock_statement, count_at, cpu_statement, open_statement, pick_statement}
use Rattle.pcc_script.specs.Text.{pick_statements, Statement, statements_of, table_statement}

infixl 10 ◌>>=◌
abbrev pub ◌>>=◌ : {A B : Type 0} → Result A ScriptKind → (A → Result B ScriptKind) → Result B ScriptKind
(Ok x) >>= f = f x
(Err e) >>= f = Err e

-- a function stopped for what reading finds wrong, or for want of memory
abbrev pub Fails : {Y : Type 0} → Stop → Result Y ScriptKind → Type 0
Fails stop.NoMemory read = Unit {0}
Fails (stop.Wrong k) read = read ≡ Err k

-- what a function returned, seen by a view, is what reading gives, unless memory ran out
abbrev pub Gives : {X Y : Type 0} → (X → Y) → Result X Stop → Result Y ScriptKind → Type 0
Gives view (Ok x) read = read ≡ Ok (view x)
Gives view (Err e) read = Fails e read

-- ---- fields

abbrev pub number_value : Option ℕ → Result Value ScriptKind
number_value (Some n) = Ok (OfNumber n)
number_value None = Err kind.Number

abbrev pub positive_value : Option ℕ → Result Value ScriptKind
positive_value (Some zero) = Err kind.Number
positive_value (Some (suc n)) = Ok (OfNumber (suc n))
positive_value None = Err kind.Number

abbrev pub some_value : Option ℕ → Result Value ScriptKind
some_value (Some n) = Ok (OfOptional (Some n))
some_value None = Err kind.Number

abbrev pub bytes_value : Option (List ℕ) → Result Value ScriptKind
bytes_value (Some bytes) = Ok (OfBytes bytes)
bytes_value None = Err kind.Hex

abbrev pub consed : {X : Type 0} → Option X → Option (List X) → Option (List X)
consed (Some x) (Some xs) = Some (x ∷ xs)
consed (Some x) None = None
consed None o = None

-- what h gives of each, if it gives something of each
abbrev pub each : {A X : Type 0} → (A → Option X) → List A → Option (List X)
each h [] = Some []
each h (a ∷ more) = consed (h a) (each h more)

abbrev pub letter_of : ℕ → Option Letter
letter_of b = if b == 111 then Some O else if b == 112 then Some P else None

abbrev pub letters_of : List ℕ → Option (List Letter)
letters_of bytes = each letter_of bytes

abbrev pub letters_value : Option (List Letter) → Result Value ScriptKind
letters_value (Some []) = Err kind.Name
letters_value (Some (l ∷ ls)) = Ok (OfLetters (l ∷ ls))
letters_value None = Err kind.Name

unfoldable pub read_field : Kind → List ℕ → Result Value ScriptKind
read_field (Whole limit) f = number_value (number_of (most_of limit) f)
read_field (Positive limit) f = positive_value (number_of (most_of limit) f)
read_field Optional f = if bytes_eq f (45 ∷ []) then Ok (OfOptional None) else some_value (number_of (most_of Any) f)
read_field HexBytes f = bytes_value (hex_of f)
read_field DeviceText f =
    if bytes_eq f (codes "cppc") then Ok (OfDevice NamedCppc)
    else if bytes_eq f (codes "bank") then Ok (OfDevice NamedBank) else Err kind.Name
read_field LetterText f = letters_value (letters_of f)

-- ---- a line

-- the values that the tests take, where the next field is at i
unfoldable pub read_at : ℕ → List Step → List (List ℕ) → Result (List Value) ScriptKind
read_at i [] f = Ok []
read_at i (AtLeast n ∷ ss) f = if nat_lt (length f) n then Err kind.Fields else read_at i ss f
read_at i (Exactly n ∷ ss) f = if length f == n then read_at i ss f else Err kind.Fields
read_at i (AtMost j n ∷ ss) f = if nat_lt n (length (field_at f j)) then Err kind.Many else read_at i ss f
read_at i (Takes k ∷ ss) f = do
  v ← read_field k (field_at f i)
  vs ← read_at (suc i) ss f
  Ok (v ∷ vs)

abbrev pub find : List Word → List ℕ → Result Word ScriptKind
find [] f = Err kind.Unknown
find (w ∷ ws) f = if bytes_eq f (text_of w) then Ok w else find ws f

unfoldable pub word_named : List ℕ → Result Word ScriptKind
word_named f = find words f

abbrev pub placed : ℕ → ℕ → Word → Result Word ScriptKind
placed next count w = if nat_lt (place w) next then Err kind.Misplaced else if nat_lt count (most w) then Ok w else Err kind.Many

abbrev pub statement_of : Word → List (List ℕ) → Result Statement ScriptKind
statement_of w f = do
  vs ← read_at 1 (steps_of w f) f
  Ok (record { word = w; values = vs })

-- how many lines so far are at the place of a word
abbrev pub count_for : Seen → Word → ℕ
count_for seen w = if place w == seen.place then seen.count else 0

abbrev pub seen_after : Seen → Word → Seen
seen_after seen w = record { place = place w; next = behind w; count = suc (count_for seen w) }

-- before the first line
abbrev pub start : Seen
start = record { place = 0; next = 0; count = 0 }

unfoldable pub read_statement : Seen → List (List ℕ) → Result Statement ScriptKind
read_statement seen f = do
  w ← word_named (field_at f 0)
  _ ← placed seen.next (count_for seen w) w
  statement_of w f

abbrev pub entry_statement : Entry → Statement
entry_statement (entry.Table bytes) = table_statement bytes
entry_statement (entry.Clock start step) = clock_statement start step
entry_statement (entry.Open o) = open_statement o
entry_statement (entry.Cpu bytes) = cpu_statement bytes
entry_statement (entry.Cap c) = cap_statement c
entry_statement (entry.Action l) = action_statement l
entry_statement (entry.Picks letters) = pick_statement letters

-- ---- lines

-- the lines up to the first that is wrong, and what is wrong there
pub record Lines : Type 0 where
  pub right : List Statement
  pub fault : Option ScriptKind

abbrev pub with_front : List Statement → Lines → Lines
with_front front ls = record { right = front ++ ls.right; fault = ls.fault }

abbrev pub go_on : Result Statement ScriptKind → (Statement → Lines) → Lines
go_on (Err k) more = record { right = []; fault = Some k }
go_on (Ok s) more = with_front (s ∷ []) (more s)

abbrev pub read_lines : Seen → List (List ℕ) → Lines
read_lines seen [] = record { right = []; fault = None }
read_lines seen (line ∷ lines) = go_on (read_statement seen (split_at 32 line)) (λ (s : Statement). read_lines (seen_after seen s.word) lines)

-- what a function reported of lines: what it returned, seen by a view, is all of them, or it named the number of the first that is wrong,
-- and its fault
abbrev pub Blames : ScriptError → Lines → Type 0
Blames error.NoMemory read = Unit {0}
Blames (error.Fault n k) read = (read.fault ≡ Some k) × (suc (length read.right) ≡ n)

abbrev pub Tells : {X : Type 0} → (X → List Statement) → Result X ScriptError → Lines → Type 0
Tells view (Ok x) read = read ≡ record { right = view x; fault = None }
Tells view (Err e) read = Blames e read

-- ---- a scenario that grows

abbrev pub tables : Option (List ℕ) → List Statement
tables None = []
tables (Some bytes) = table_statement bytes ∷ []

abbrev pub clocks : Option ClockLine → List Statement
clocks None = []
clocks (Some c) = clock_statement c.start c.step ∷ []

-- the lines of what is read so far
abbrev pub so_far : Partial → List Statement
so_far p =
    tables p.table ++ (clocks p.clock ++ (map open_statement p.opens ++ (map cpu_statement p.cpus ++ (map cap_statement p.caps
    ++ (map action_statement p.actions ++ pick_statements p.picks)))))

-- what still has to be empty, where `next` is the least place of the next line
pub record Empty (next : ℕ) (p : Partial) : Type 0 where
  pub table : next < behind word.Table → p.table ≡ None
  pub clock : next < behind word.Clock → p.clock ≡ None
  pub opens : next < place word.Open → p.opens ≡ []
  pub cpus : next < place word.Cpu → p.cpus ≡ []
  pub caps : next < place word.Cap → p.caps ≡ []
  pub actions : next < place word.Call → p.actions ≡ []
  pub picks : next < behind word.Pick → p.picks ≡ None

-- ---- a text

abbrev pub is_whole : List Statement → Bool
is_whole statements =
    nat_le 1 (count_at (place word.Table) statements) && (nat_le 1 (count_at (place word.Clock) statements) && nat_le 1 (count_at (place word.Open) statements))

-- what is wrong after the last line feed, where these bytes are
abbrev pub end_fault : List Statement → List ℕ → Option ScriptKind
end_fault statements [] = if is_whole statements then None else Some kind.Missing
end_fault statements (b ∷ bs) = Some kind.Newline

-- a function took these lines to the scenario that they are, or reported what is wrong after the last line feed
abbrev pub Completes : Result Scenario ScriptKind → List Statement → List ℕ → Type 0
Completes (Ok s) statements last = (end_fault statements last ≡ None) × (statements ≡ statements_of s)
Completes (Err k) statements last = end_fault statements last ≡ Some k

abbrev pub ended_by : Option ScriptKind → List Statement → List ℕ → Lines
ended_by (Some k) statements last = record { right = statements; fault = Some k }
ended_by None statements last = record { right = statements; fault = end_fault statements last }

abbrev pub ended : Lines → List ℕ → Lines
ended ls last = ended_by ls.fault ls.right last

unfoldable pub read_text : List ℕ → Lines
read_text text = ended (read_lines start (lines_of text)) (last_in text)
