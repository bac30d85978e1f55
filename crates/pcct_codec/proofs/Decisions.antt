-- What the bytes that were taken decide, whatever follows them.
use Rattle.std.proofs.Common.{◌≡◌, ◌≢◌, ℕ, zero, suc, ◌+◌, ◌<◌, ◌≤◌, eqb, ltb, cond, Bool, true, false, List, [], ◌∷◌, ◌++◌, length, drop, slice_index, refl, ap, ◌∙◌, subst, arith, Result, Ok, Err}
use Rattle.std.specs.Prelude.{◌%◌, sum, Option, Some, None}
use Rattle.std.proofs.lemmas.Bool.{le-ltb, lt-ltb}
use Rattle.std.proofs.lemmas.Bool.Decides.{nat_tests}
use Rattle.std.proofs.lemmas.List.{take_at, length-append}
use Rattle.pcct_table.specs.declared.table.Table.{Table}
use Rattle.pcct_table.specs.Rows.{size_of_kind}
use Rattle.pcct_codec.specs.declared.fault.TableFault.{TableFault}
use Rattle.pcct_codec.specs.declared.fault.TableFault.TheVariants.{Short, Signature, LengthOutside, Revision, TooMany, Overrun, SubspaceLength, Checksum, ReadFault, NoMemory}
use Rattle.pcct_codec.specs.Tables.{TableBytes}
use Rattle.pcct_codec.specs.Faults.{Decision, Undecided, Right, Faulty, FaultIs, ReaderFaultIs, IsExcused, IsGone, and_then, behind_header, behind_size, decision, sized, structure_size, structures_decision, sum_decision, table_decision, told_length}
use Rattle.pcct_codec.proofs.Spelled.{structures_right}
use Rattle.pcct_codec.proofs.Headers.{told_ok, told_more, told_table}

-- fewer bytes than a header
pub short_header : (b : List ℕ) → length b < 48 → decision true b ≡ Faulty (Short (length b))
unfolding decision
short_header b lt = rw (lt-ltb _ _ lt) refl

-- a header and more
pub behind : (ended : Bool) (b : List ℕ) → 48 ≤ length b → decision ended b ≡ behind_header ended b (told_length b)
unfolding decision
behind ended b le = rw (le-ltb _ _ le) refl

-- fewer bytes than a right header tells
pub short_table : (b : List ℕ) (n : ℕ) → 48 ≤ length b → told_length b ≡ Ok n → length b < n → decision true b ≡ Faulty (Short (length b))
short_table b n le told lt = behind true b le ∙ rw (told, lt-ltb _ _ lt) refl

-- all bytes that a right header tells
pub whole : (ended : Bool) (b m : List ℕ) → told_length b ≡ Ok (length b) → decision ended (b ++ m) ≡ table_decision b
whole ended b m told =
    let h = told_ok b (length b) told in
    let least : 48 ≤ length b = h.least in
    behind ended (b ++ m) (omega (arith, length-append b m))
    ∙ ap (behind_header ended (b ++ m)) (told_more b m least ∙ told)
    ∙ rw (le-ltb (length (b ++ m)) (length b) (omega (arith, length-append b m)), take_at b m (length b) refl) refl

-- a table's bytes
pub right_table : (b : List ℕ) (t : Table) → TableBytes b t → table_decision b ≡ Right
unfolding table_decision
right_table b t h = rw (structures_right 256 48 (drop 48 b) t.subspaces h.structures h.few, h.checksum) refl

pub right_source : (ended : Bool) (b m : List ℕ) (t : Table) → TableBytes b t → decision ended (b ++ m) ≡ Right
right_source ended b m t h = whole ended b m (told_table b t h) ∙ right_table b t h

-- ---- the structures and the sum

pub decided_right : (b : List ℕ) → structures_decision 256 48 (drop 48 b) ≡ Right → sum b % 256 ≡ 0 → table_decision b ≡ Right
unfolding table_decision
decided_right b structures right = rw (structures, right) refl

pub decided_sum : (b : List ℕ) → structures_decision 256 48 (drop 48 b) ≡ Right → sum b % 256 ≢ 0 → table_decision b ≡ Faulty (Checksum (sum b % 256))
unfolding table_decision
decided_sum b structures wrong = let test : eqb (sum b % 256) 0 ≡ false = grind (arith, nat_tests) in rw (structures, test) refl

faulty_first : (d next : Decision) (f : TableFault) → FaultIs f d → FaultIs f (and_then d next)
faulty_first d next (Short a) h = ap (λ (e : Decision). and_then e next) h
faulty_first d next Signature h = ap (λ (e : Decision). and_then e next) h
faulty_first d next (LengthOutside a) h = ap (λ (e : Decision). and_then e next) h
faulty_first d next (Revision a) h = ap (λ (e : Decision). and_then e next) h
faulty_first d next (TooMany a) h = ap (λ (e : Decision). and_then e next) h
faulty_first d next (Overrun a) h = ap (λ (e : Decision). and_then e next) h
faulty_first d next (SubspaceLength a k s) h = ap (λ (e : Decision). and_then e next) h
faulty_first d next (Checksum a) h = ap (λ (e : Decision). and_then e next) h
faulty_first d next ReadFault h = ap (λ (e : Decision). and_then e next) h
faulty_first d next NoMemory h = tt

pub decided_fault : (b : List ℕ) (f : TableFault) → FaultIs f (structures_decision 256 48 (drop 48 b)) → FaultIs f (table_decision b)
unfolding table_decision
decided_fault b f h = faulty_first (structures_decision 256 48 (drop 48 b)) (sum_decision b) f h

-- ---- which faults leave all bytes of the table gone

-- a fault of the structures or of the sum
abbrev pub IsLate : TableFault → Type 0
IsLate (TooMany at) = Unit {0}
IsLate (Overrun at) = Unit {0}
IsLate (SubspaceLength at kind found) = Unit {0}
IsLate (Checksum sum) = Unit {0}
IsLate fault = ⊥

late : (f g : TableFault) → IsLate f → f ≡ g → IsLate g
late f g h e = subst IsLate e h

faulty : (f g : TableFault) → Faulty f ≡ Faulty g → f ≡ g
faulty f g e = cc

late_sized : (at kind found len : ℕ) (o : Option ℕ) (f : TableFault) → sized at kind found len o ≡ Err f → IsLate f
late_sized at kind found len None f h = late (SubspaceLength at kind found) f tt cc
late_sized at kind found len (Some n) f h = late_tests (eqb found n) (ltb len n) h
  where
    late_tests : (p q : Bool) → cond p (cond q (Err (Overrun at)) (Ok n)) (Err (SubspaceLength at kind found)) ≡ Err f → IsLate f
    late_tests true true h = late (Overrun at) f tt cc
    late_tests true false h = absurd cc
    late_tests false q h = late (SubspaceLength at kind found) f tt cc

late_size : (at : ℕ) (rest : List ℕ) (f : TableFault) → structure_size at rest ≡ Err f → IsLate f
unfolding structure_size
late_size at rest f h = late_test (eqb (length rest) 1) h
  where
    late_test : (p : Bool) → cond p (Err (Overrun at)) (sized at (slice_index rest 0) (slice_index rest 1) (length rest) (size_of_kind (slice_index rest 0) (slice_index rest 1))) ≡ Err f → IsLate f
    late_test true h = late (Overrun at) f tt cc
    late_test false h = late_sized at (slice_index rest 0) (slice_index rest 1) (length rest) (size_of_kind (slice_index rest 0) (slice_index rest 1)) f h

late_behind : (r : Result ℕ TableFault) (next : ℕ → Decision) (f : TableFault) → ((g : TableFault) → r ≡ Err g → IsLate g)
    → ((size : ℕ) → next size ≡ Faulty f → IsLate f) → behind_size r next ≡ Faulty f → IsLate f
late_behind (Ok size) next f here later h = later size h
late_behind (Err g) next f here later h = late g f (here g refl) (faulty g f h)

late_structures : (n at : ℕ) (bytes : List ℕ) (f : TableFault) → structures_decision n at bytes ≡ Faulty f → IsLate f
unfolding structures_decision
late_structures n at [] f h = absurd cc
late_structures zero at (b ∷ bs) f h = late (TooMany at) f tt (faulty (TooMany at) f h)
late_structures (suc n) at (b ∷ bs) f h =
    late_behind
    (structure_size at (b ∷ bs))
    (λ size. structures_decision n (at + size) (drop size (b ∷ bs)))
    f
    (λ g e. late_size at (b ∷ bs) g e)
    (λ size e. late_structures n (at + size) (drop size (b ∷ bs)) f e)
    h

late_table : (b : List ℕ) (f : TableFault) → table_decision b ≡ Faulty f → IsLate f
unfolding table_decision
late_table b f h = late_and (structures_decision 256 48 (drop 48 b)) refl h
  where
    late_sum : (p : Bool) → cond p Right (Faulty (Checksum (sum b % 256))) ≡ Faulty f → IsLate f
    late_sum true h = absurd cc
    late_sum false h = late (Checksum (sum b % 256)) f tt (faulty (Checksum (sum b % 256)) f h)

    late_and : (d : Decision) → structures_decision 256 48 (drop 48 b) ≡ d → and_then d (sum_decision b) ≡ Faulty f → IsLate f
    late_and Right e h = late_sum (eqb (sum b % 256) 0) h
    late_and Undecided e h = absurd cc
    late_and (Faulty g) e h = late g f (late_structures 256 48 (drop 48 b) g e) (faulty g f h)

pub table_read : (b : List ℕ) → table_decision b ≡ Faulty ReadFault → ⊥
table_read b h = late_table b ReadFault h

pub table_gone : (b : List ℕ) (f : TableFault) (left : Option (List ℕ)) → told_length b ≡ Ok (length b) → FaultIs f (table_decision b) → IsGone f b left
table_gone b (Short a) left e h = absurd (late_table b (Short a) h)
table_gone b Signature left e h = absurd (late_table b Signature h)
table_gone b (LengthOutside a) left e h = absurd (late_table b (LengthOutside a) h)
table_gone b (Revision a) left e h = absurd (late_table b (Revision a) h)
table_gone b (TooMany a) left e h = e
table_gone b (Overrun a) left e h = e
table_gone b (SubspaceLength a k s) left e h = e
table_gone b (Checksum a) left e h = e
table_gone b ReadFault left e h = absurd (late_table b ReadFault h)
table_gone b NoMemory left e h = tt

-- ---- excused faults

pub reader_fault : (f : TableFault) (d : Decision) → FaultIs f d → ReaderFaultIs f d
reader_fault ReadFault d h = tt
reader_fault NoMemory d h = h
reader_fault (Short a) d h = h
reader_fault Signature d h = h
reader_fault (LengthOutside a) d h = h
reader_fault (Revision a) d h = h
reader_fault (TooMany a) d h = h
reader_fault (Overrun a) d h = h
reader_fault (SubspaceLength a k s) d h = h
reader_fault (Checksum a) d h = h

-- where bytes are right, only an excused fault can be told
pub right_excused : (f : TableFault) → ReaderFaultIs f Right → IsExcused f
right_excused ReadFault h = tt
right_excused NoMemory h = tt
right_excused (Short a) h = absurd cc
right_excused Signature h = absurd cc
right_excused (LengthOutside a) h = absurd cc
right_excused (Revision a) h = absurd cc
right_excused (TooMany a) h = absurd cc
right_excused (Overrun a) h = absurd cc
right_excused (SubspaceLength a k s) h = absurd cc
right_excused (Checksum a) h = absurd cc
