-- What the first bytes of a source decide: that they begin with a table, or the first check that fails.
use Rattle.std.specs.Prelude.{◌≡◌, ℕ, zero, suc, ◌+◌, ◌%◌, ◌==◌, nat_lt, ◌||◌, if◌then◌else◌, Bool, true, List, [], ◌∷◌, length, take}
use Rattle.std.specs.Prelude.{drop, sum, slice_index, Option, Some, None, Result, Ok, Err, codes}
use Rattle.std.specs.Str.{bytes_eq}
use Rattle.std.specs.Io.KnownBytes.{Consumes, IsAtEnd}
use Rattle.pcct_table.specs.declared.table.Table.{Table}
use Rattle.pcct_table.specs.Rows.{header_fields, header_size, number_in, bytes_in, size_of_kind}
use Rattle.pcct_codec.specs.Tables.{length_in, most_bytes, most_structures}
use Rattle.pcct_codec.specs.declared.fault.TableFault.{TableFault}
use Rattle.pcct_codec.specs.declared.fault.TableFault.TheVariants.{Short, Signature, LengthOutside, Revision, TooMany, Overrun}
use Rattle.pcct_codec.specs.declared.fault.TableFault.TheVariants.{SubspaceLength, Checksum, ReadFault, NoMemory}

pub data Decision : Type 0 where
  Undecided : Decision
  Right : Decision
  Faulty : TableFault → Decision

-- ---- the header

-- the number of all bytes that a header states, or the first of its checks that fails: the signature, the length, the revision
unfoldable pub told_length : List ℕ → Result ℕ TableFault
told_length header =
    if bytes_eq (codes "PCCT") (bytes_in header_fields (codes "signature") header) then
    (if nat_lt (length_in header) header_size || nat_lt most_bytes (length_in header) then Err (LengthOutside (length_in header))
    else (if number_in header_fields (codes "revision") header == 1 || number_in header_fields (codes "revision") header == 2 then Ok (length_in header)
    else Err (Revision (number_in header_fields (codes "revision") header))))
    else Err Signature

-- ---- the structures

-- the checks of the size that the type has, if it has one
abbrev pub sized : ℕ → ℕ → ℕ → ℕ → Option ℕ → Result ℕ TableFault
sized at kind found len None = Err (SubspaceLength at kind found)
sized at kind found len (Some size) = if found == size then (if nat_lt len size then Err (Overrun at) else Ok size) else Err (SubspaceLength at kind found)

-- The number of bytes of the structure at the front in what is left of a table at a place, or the first check that fails on it:
-- one byte alone is left; the second byte isn't the type's size, or on an unknown type is below 2; it passes the table's end.
unfoldable pub structure_size : ℕ → List ℕ → Result ℕ TableFault
structure_size at rest =
    if length rest == 1 then Err (Overrun at)
    else sized at (slice_index rest 0) (slice_index rest 1) (length rest) (size_of_kind (slice_index rest 0) (slice_index rest 1))

abbrev pub behind_size : Result ℕ TableFault → (ℕ → Decision) → Decision
behind_size (Ok size) next = next size
behind_size (Err fault) next = Faulty fault

-- the structures from a place on, of which there may be n
unfoldable pub structures_decision : ℕ → ℕ → List ℕ → Decision
structures_decision few at [] = Right
structures_decision zero at (b ∷ bs) = Faulty (TooMany at)
structures_decision (suc few) at (b ∷ bs) = behind_size (structure_size at (b ∷ bs)) (λ size. structures_decision few (at + size) (drop size (b ∷ bs)))

-- ---- a table

-- the first of two decisions that is not Right
abbrev pub and_then : Decision → Decision → Decision
and_then Right next = next
and_then Undecided next = Undecided
and_then (Faulty fault) next = Faulty fault

abbrev pub sum_decision : List ℕ → Decision
sum_decision bytes = if sum bytes % 256 == 0 then Right else Faulty (Checksum (sum bytes % 256))

-- all bytes of a table, after the checks of its header: its structures, then the sum
unfoldable pub table_decision : List ℕ → Decision
table_decision bytes = and_then (structures_decision most_structures header_size (drop header_size bytes)) (sum_decision bytes)

-- more bytes are wanted than these: the table is short where the source has ended
abbrev pub wanting : Bool → List ℕ → Decision
wanting ended bytes = if ended then Faulty (Short (length bytes)) else Undecided

abbrev pub behind_header : Bool → List ℕ → Result ℕ TableFault → Decision
behind_header ended bytes (Ok len) = if nat_lt (length bytes) len then wanting ended bytes else table_decision (take len bytes)
behind_header ended bytes (Err fault) = Faulty fault

-- The first bytes of a source that has ended after them or not. What follows a table is not looked at.
unfoldable pub decision : Bool → List ℕ → Decision
decision ended bytes = if nat_lt (length bytes) header_size then wanting ended bytes else behind_header ended bytes (told_length bytes)

-- bytes after which a source has ended decide a fault
abbrev pub HasFault : List ℕ → Type 0
HasFault bytes = (fault : TableFault) × (decision true bytes ≡ Faulty fault)

-- ---- what a reader answers

-- a fault is the one that is decided, unless memory ran out
abbrev pub FaultIs : TableFault → Decision → Type 0
FaultIs NoMemory d = Unit {0}
FaultIs fault d = d ≡ Faulty fault

-- a fault is the one that is decided, unless the source failed or memory ran out
abbrev pub ReaderFaultIs : TableFault → Decision → Type 0
ReaderFaultIs ReadFault d = Unit {0}
ReaderFaultIs fault d = FaultIs fault d

-- an answer is the one that is decided, unless the source failed or memory ran out
abbrev pub AnswerIs : Result Table TableFault → Decision → Type 0
AnswerIs (Ok t) d = d ≡ Right
AnswerIs (Err fault) d = ReaderFaultIs fault d

-- the source failed or memory ran out
abbrev pub IsExcused : TableFault → Type 0
IsExcused ReadFault = Unit {0}
IsExcused NoMemory = Unit {0}
IsExcused fault = ⊥

-- The bytes that are gone from a source at a fault, and what is left there: the header after a fault of the header; after one of the
-- structures or of the sum, as many as a right header at their front states; and all bytes of the source where they are too few.
abbrev pub IsGone : TableFault → List ℕ → Option (List ℕ) → Type 0
IsGone (Short at) taken left = (length taken ≡ at) × IsAtEnd left
IsGone Signature taken left = length taken ≡ header_size
IsGone (LengthOutside len) taken left = length taken ≡ header_size
IsGone (Revision found) taken left = length taken ≡ header_size
IsGone ReadFault taken left = Unit {0}
IsGone NoMemory taken left = Unit {0}
IsGone fault taken left = told_length taken ≡ Ok (length taken)

-- a fault's bytes are gone from the front of a source
pub record Gone (fault : TableFault) (old new : Option (List ℕ)) : Type 0 where
  pub taken : List ℕ
  pub read : Consumes old new taken
  pub gone : IsGone fault taken new
