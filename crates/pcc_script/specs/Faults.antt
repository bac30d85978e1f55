-- The first fault of a text: right lines, and then one wrong thing.
use Rattle.std.specs.Prelude.{◌≡◌, ◌<◌, ◌≤◌, ◌⊎◌, ℕ, suc, List, [], ◌∷◌, ◌++◌, length, Result, Ok, Err}
use Rattle.pcc_bytes.specs.Fields.{IsOneLine, split_at}
use Rattle.pcc_script.specs.declared.fault.ScriptError.{ScriptError}
use Rattle.pcc_script.specs.declared.fault.ScriptError.TheVariants as error
use Rattle.pcc_script.specs.declared.fault.ScriptKind.{ScriptKind}
use Rattle.pcc_script.specs.declared.fault.ScriptKind.TheVariants as kind
use Rattle.pcc_script.specs.declared.scenario.Scenario.{Scenario}
use Rattle.pcc_script.specs.declared.word.Word.{Word}
use Rattle.pcc_script.specs.Rows.{AtLeast, AtMost, Exactly, field_at, field_fault, most, place, Step, steps_of, Takes, text_of}
use Rattle.pcc_script.specs.Text.{after, count_at, InOrder, IsRight, IsScenario, IsWhole, next_of, script_text, Statement, statements_text}

-- the fault of a test that doesn't hold
abbrev pub fault_of : Step → ScriptKind
fault_of (AtLeast n) = kind.Fields
fault_of (Exactly n) = kind.Fields
fault_of (AtMost j n) = kind.Many
fault_of (Takes k) = field_fault k

-- the first of these tests that doesn't hold has this fault
abbrev pub FirstWrong : ℕ → List Step → List (List ℕ) → ScriptKind → Type 0
FirstWrong i [] f k = ⊥
FirstWrong i (s ∷ ss) f k = ((IsRight i f s → ⊥) × (k ≡ fault_of s)) ⊎ (IsRight i f s × FirstWrong (after i s) ss f k)

-- after these lines a line of these fields is wrong, and its first fault is of this kind: it begins with no word; its word may not follow
-- these lines; its place is full; or one of its fields is wrong
pub data LineWrong (before : List Statement) (f : List (List ℕ)) : ScriptKind → Type 0 where
  NotKnown : ((w : Word) → field_at f 0 ≡ text_of w → ⊥) → LineWrong before f kind.Unknown
  OutOfPlace : (w : Word) → field_at f 0 ≡ text_of w → place w < next_of before → LineWrong before f kind.Misplaced
  OneMore : (w : Word) → field_at f 0 ≡ text_of w → next_of before ≤ place w → most w ≤ count_at (place w) before
      → LineWrong before f kind.Many
  Inside : (w : Word) → (k : ScriptKind) → field_at f 0 ≡ text_of w → next_of before ≤ place w → count_at (place w) before < most w
      → FirstWrong 1 (steps_of w f) f k → LineWrong before f k

-- the first fault of a text, with the number of its line, from 1. The text begins with right lines. After them is a wrong line with its
-- line feed (byte 10), whose fields are its parts between spaces (byte 32); or bytes with no line feed; or nothing, though a line that has
-- to be is missing.
pub data TextWrong (text : List ℕ) : ℕ → ScriptKind → Type 0 where
  AtLine : (before : List Statement) → (bytes rest : List ℕ) → (k : ScriptKind) → InOrder [] before → IsOneLine bytes
      → text ≡ statements_text before ++ (bytes ++ 10 ∷ rest) → LineWrong before (split_at 32 bytes) k → TextWrong text (suc (length before)) k
  NoEnd : (before : List Statement) → (bytes : List ℕ) → InOrder [] before → IsOneLine bytes → 1 ≤ length bytes
      → text ≡ statements_text before ++ bytes → TextWrong text (suc (length before)) kind.Newline
  NotWhole : (before : List Statement) → InOrder [] before → (IsWhole before → ⊥) → text ≡ statements_text before
      → TextWrong text (suc (length before)) kind.Missing

-- ---- what a text is

-- a text spells a scenario that has a text
pub record HasScenario (text : List ℕ) : Type 0 where
  pub scenario : Scenario
  pub right : IsScenario scenario
  pub spelled : text ≡ script_text scenario

-- something is wrong in a text
pub record HasFault (text : List ℕ) : Type 0 where
  pub line : ℕ
  pub kind : ScriptKind
  pub wrong : TextWrong text line kind

-- ---- what is reported

-- this scenario was read, unless memory ran out
abbrev pub IsReadAs : Scenario → Result Scenario ScriptError → Type 0
IsReadAs s (Ok t) = t ≡ s
IsReadAs s (Err e) = e ≡ error.NoMemory

-- what holds of the line and the kind of an error that isn't want of memory
abbrev pub HoldsOf : ScriptError → (ℕ → ScriptKind → Type 0) → Type 0
HoldsOf error.NoMemory holds = Unit {0}
HoldsOf (error.Fault line kind) holds = holds line kind

-- what holds of the line and the kind of a fault, if one is reported
abbrev pub IfFault : Result Scenario ScriptError → (ℕ → ScriptKind → Type 0) → Type 0
IfFault (Ok s) holds = Unit {0}
IfFault (Err e) holds = HoldsOf e holds

-- this fault is reported, unless memory ran out
abbrev pub IsRefusedAt : ℕ → ScriptKind → Result Scenario ScriptError → Type 0
IsRefusedAt line kind (Ok s) = ⊥
IsRefusedAt line kind (Err e) = HoldsOf e (λ n k. (n ≡ line) × (k ≡ kind))
