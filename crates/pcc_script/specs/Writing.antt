-- What the code writes of a line: the values of its fields, and its text. Only contracts of private functions cite these.
use Rattle.std.specs.Prelude.{ℕ, List, ◌∷◌}
use Rattle.std.specs.List.{flat_map}
use Rattle.pcc_bytes.specs.Fields.{line_text}
use Rattle.pcc_script.specs.declared.word.Word.{Word}
use Rattle.pcc_script.specs.declared.writing.Field.{Field}
use Rattle.pcc_script.specs.declared.writing.Field.TheVariants as field
use Rattle.pcc_script.specs.Rows.{NamedBank, NamedCppc, OfBytes, OfDevice, OfLetters, OfNumber, OfOptional, spell, Value}
use Rattle.pcc_script.specs.Text.{line_of, Statement}

-- the value of a field
abbrev pub value_of : Field → Value
value_of (field.Number n) = OfNumber n
value_of (field.Optional o) = OfOptional o
value_of (field.Bytes bytes) = OfBytes bytes.now
value_of field.Bank = OfDevice NamedBank
value_of field.Cppc = OfDevice NamedCppc
value_of (field.Letters letters) = OfLetters letters.now

-- the texts of values, each after a space
abbrev pub spaced : List Value → List ℕ
spaced values = flat_map (λ v. 32 ∷ spell v) values

-- a line of this word and these values
abbrev pub statement_with : Word → List Value → Statement
statement_with w values = record { word = w; values = values }

-- the text of a line, with its line feed
unfoldable pub statement_text : Statement → List ℕ
statement_text s = line_text (line_of s)
