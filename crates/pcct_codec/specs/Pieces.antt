-- Tables that come in pieces: what the bytes so far decide.
use Rattle.std.specs.Prelude.{◌≡◌, ◌<◌, ◌≤◌, ◌⊎◌, ◌++◌, ℕ, false, List, [], ◌∷◌, length, take, Result, Ok, Err, IfOk}
use Rattle.pcc_bytes.specs.Bytes.{IsBytes}
use Rattle.pcct_table.specs.declared.table.Table.{Table}
use Rattle.pcct_codec.specs.Tables.{TableBytes}
use Rattle.pcct_codec.specs.Faults.{Decision, Undecided, Right, Faulty, FaultIs, decision}
use Rattle.pcct_codec.specs.declared.fault.TableFault.{TableFault}
use Rattle.pcct_codec.specs.declared.fault.TableFault.TheVariants.{Short}
use Rattle.pcct_codec.specs.declared.reader.Piece.{Piece}
use Rattle.pcct_codec.specs.declared.reader.Piece.TheVariants.{More, Whole}

-- an answer is the one that is decided, unless memory ran out
abbrev pub PieceIs : Result Piece TableFault → Decision → Type 0
PieceIs (Ok More) d = d ≡ Undecided
PieceIs (Ok (Whole used table)) d = d ≡ Right
PieceIs (Err fault) d = FaultIs fault d

-- a table ends after so many bytes of a piece
pub record EndsIn (old piece : List ℕ) (used : ℕ) (table : Table) : Type 0 where
  pub within : used ≤ length piece
  pub fit : IsBytes (old ++ take used piece)
  pub spelled : TableBytes (old ++ take used piece) table

abbrev pub WholeIs : List ℕ → List ℕ → Piece → Type 0
WholeIs old piece More = Unit {0}
WholeIs old piece (Whole used table) = EndsIn old piece used table

-- what holds of a table that ends in a piece
abbrev pub IfWhole : Piece → (Table → Type 0) → Type 0
IfWhole More P = Unit {0}
IfWhole (Whole used table) P = P table

-- the bytes that a reader has after an answer: those of the piece too, as far as they belong to the table, unless it was refused
abbrev pub Kept : List ℕ → List ℕ → Result Piece TableFault → List ℕ → Type 0
Kept old piece (Ok More) new = new ≡ old ++ piece
Kept old piece (Ok (Whole used table)) new = new ≡ old ++ take used piece
Kept old piece (Err fault) new = new ≡ old

-- the first thing that is decided
abbrev pub or_else : Decision → Decision → Decision
or_else Undecided next = next
or_else Right next = Right
or_else (Faulty fault) next = Faulty fault

-- What a reader answers to pieces, one after another, after bytes that decide nothing. If all of them want more, the table is short.
abbrev pub pieces_decision : List ℕ → List (List ℕ) → Decision
pieces_decision bytes [] = Faulty (Short (length bytes))
pieces_decision bytes (piece ∷ pieces) = or_else (decision false (bytes ++ piece)) (pieces_decision (bytes ++ piece) pieces)

-- ---- inside of a reader

-- bytes of a piece were put behind others, until there were so many or the piece had ended
pub record Grown (old piece : List ℕ) (want used : ℕ) (new : List ℕ) : Type 0 where
  pub within : used ≤ length piece
  pub grown : new ≡ old ++ take used piece
  pub most : (used ≡ 0) ⊎ (length new ≤ want)
  pub ended : length new < want → used ≡ length piece

-- the bytes after a try: those before are still their front where it failed
abbrev pub Left : List ℕ → List ℕ → Result Piece TableFault → List ℕ → Type 0
Left old piece (Ok answer) new = Kept old piece (Ok answer) new
Left old piece (Err fault) new = take (length old) new ≡ old

-- what a try answers, and the bytes after it
pub record Tried (old piece : List ℕ) (result : Result Piece TableFault) (new : List ℕ) : Type 0 where
  pub answer : PieceIs result (decision false (old ++ piece))
  pub whole : IfOk result (WholeIs old piece)
  pub left : Left old piece result new
