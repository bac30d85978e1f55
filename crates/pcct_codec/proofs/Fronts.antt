-- Bytes begin with a table or not, whatever follows.
use Rattle.std.proofs.Common.{◌≡◌, ◌≢◌, ℕ, ◌≤◌, ltb, cond, Bool, true, false, List, ◌++◌, length, take, drop, refl, sym, ap, ◌∙◌, subst, arith, Result, Ok, Err}
use Rattle.std.proofs.lemmas.Bool.{le-ltb, ltb-false}
use Rattle.std.proofs.lemmas.List.{length-append, length-take-le, take-append-drop, take-append-le, take_at}
use Rattle.pcct_table.specs.declared.table.Table.{Table}
use Rattle.pcct_codec.specs.declared.fault.TableFault.{TableFault}
use Rattle.pcct_codec.specs.declared.fault.TableFault.TheVariants.{Short, Signature, LengthOutside, Revision, TooMany, Overrun, SubspaceLength, Checksum, ReadFault, NoMemory}
use Rattle.pcct_codec.specs.Tables.{TableBytes}
use Rattle.pcct_codec.specs.Faults.{Decision, Undecided, Right, Faulty, FaultIs, behind_header, decision, table_decision, told_length, wanting}
use Rattle.pcct_codec.proofs.Walking.{fault_is}
use Rattle.pcct_codec.proofs.Headers.{header_read, one_table, told_more, told_ok, told_table}
use Rattle.pcct_codec.proofs.Decisions.{behind, right_source, table_read, whole}

-- ---- the bytes that a right header tells

-- they tell that they are all
pub front_told : (n : ℕ) (b : List ℕ) → told_length b ≡ Ok n → n ≤ length b → told_length (take n b) ≡ Ok (length (take n b))
front_told n b told le =
    let least : 48 ≤ n = (told_ok b n told).least in
    let len : length (take n b) ≡ n = length-take-le n b le in
    sym (told_more (take n b) (drop n b) (omega arith)) ∙ ap told_length (take-append-drop n b) ∙ told ∙ ap Ok (sym len)

-- what they decide is decided
pub front_decided : (n : ℕ) (b : List ℕ) → told_length b ≡ Ok n → n ≤ length b → decision true b ≡ table_decision (take n b)
front_decided n b told le = ap (decision true) (sym (take-append-drop n b)) ∙ whole true (take n b) (drop n b) (front_told n b told le)

pub front_fault : (n : ℕ) (b : List ℕ) (f : TableFault) → told_length b ≡ Ok n → n ≤ length b → FaultIs f (table_decision (take n b))
    → FaultIs f (decision true b)
front_fault n b f told le h = subst (FaultIs f) (sym (front_decided n b told le)) h

-- a table with which they begin is the one that they spell
pub front_only : (n : ℕ) (b : List ℕ) (t : Table) → told_length b ≡ Ok n → n ≤ length b → TableBytes (take n b) t → (front rest : List ℕ) (u : Table)
    → TableBytes front u → b ≡ front ++ rest → (t ≡ u) × (n ≡ length front)
front_only n b t told le h front rest u k e =
    let least : 48 ≤ length front = k.least in
    let same_told : Ok n ≡ Ok (length front) = sym told ∙ ap told_length e ∙ told_more front rest least ∙ told_table front u k in
    let same : n ≡ length front = cc in
    let cut : take n b ≡ front = ap (take n) e ∙ take_at front rest n (sym same) in
    (one_table front t u (subst (λ (x : List ℕ). TableBytes x t) cut h) k, same)

-- ---- faults

pub header_fault : (b : List ℕ) (f : TableFault) → 48 ≤ length b → told_length b ≡ Err f → FaultIs f (decision true b)
header_fault b f long told = fault_is f (decision true b) (behind true b long ∙ ap (behind_header true b) told)

-- no fault but want of memory is told of right bytes
right_only : (f : TableFault) → FaultIs f Right → f ≡ NoMemory
right_only NoMemory h = refl
right_only ReadFault h = absurd cc
right_only (Short a) h = absurd cc
right_only Signature h = absurd cc
right_only (LengthOutside a) h = absurd cc
right_only (Revision a) h = absurd cc
right_only (TooMany a) h = absurd cc
right_only (Overrun a) h = absurd cc
right_only (SubspaceLength a k s) h = absurd cc
right_only (Checksum a) h = absurd cc

pub only_memory : (f : TableFault) (b : List ℕ) → FaultIs f (decision true b) → (front rest : List ℕ) (t : Table) → TableBytes front t
    → b ≡ front ++ rest → f ≡ NoMemory
only_memory f b h front rest t k e = right_only f (subst (FaultIs f) (ap (decision true) e ∙ right_source true front rest t k) h)

read_told : (b : List ℕ) (r : Result ℕ TableFault) → told_length b ≡ r → behind_header true b r ≡ Faulty ReadFault → ⊥
read_told b (Err f) told h = header_read b f told cc
read_told b (Ok n) told h = read_length (ltb (length b) n) h
  where
    read_length : (p : Bool) → cond p (wanting true b) (table_decision (take n b)) ≡ Faulty ReadFault → ⊥
    read_length true h = cc
    read_length false h = table_read (take n b) h

-- bytes don't decide that a source failed
pub never_read : (b : List ℕ) → decision true b ≡ Faulty ReadFault → ⊥
unfolding decision
never_read b h = read_header (ltb (length b) 48) h
  where
    read_header : (p : Bool) → cond p (wanting true b) (behind_header true b (told_length b)) ≡ Faulty ReadFault → ⊥
    read_header true h = cc
    read_header false h = read_told b (told_length b) refl h

pub memory_only : (f : TableFault) (b : List ℕ) → FaultIs f (decision true b) → f ≢ ReadFault
memory_only f b h e = never_read b (subst (λ (g : TableFault). FaultIs g (decision true b)) e h)

-- ---- what some bytes decide stays, whatever follows

settled_told : (ended : Bool) (b m : List ℕ) (r : Result ℕ TableFault) → (behind_header false b r ≡ Undecided → ⊥)
    → behind_header ended (b ++ m) r ≡ behind_header false b r
settled_told ended b m (Err f) decided = refl
settled_told ended b m (Ok n) decided = settled_length (ltb (length b) n) refl decided
  where
    settled_length : (p : Bool) → ltb (length b) n ≡ p → (behind_header false b (Ok n) ≡ Undecided → ⊥) → behind_header ended (b ++ m) (Ok n) ≡ behind_header false b (Ok n)
    settled_length true e decided = absurd (decided (rw e refl))
    settled_length false e decided =
        let le : n ≤ length b = ltb-false _ _ e in
        let more : ltb (length (b ++ m)) n ≡ false = le-ltb _ _ (omega (arith, length-append b m)) in
        rw (more, e, take-append-le n b m le) refl

pub settled : (ended : Bool) (b m : List ℕ) → (decision false b ≡ Undecided → ⊥) → decision ended (b ++ m) ≡ decision false b
unfolding decision
settled ended b m decided = settled_header (ltb (length b) 48) refl
  where
    settled_header : (p : Bool) → ltb (length b) 48 ≡ p → decision ended (b ++ m) ≡ decision false b
    settled_header true e = absurd (decided (rw e refl))
    settled_header false e =
        let long : 48 ≤ length b = ltb-false _ _ e in
        let here : decision false b ≡ behind_header false b (told_length b) = behind false b long in
        behind ended (b ++ m) (omega (arith, length-append b m))
        ∙ ap (behind_header ended (b ++ m)) (told_more b m long)
        ∙ settled_told ended b m (told_length b) (subst (λ (d : Decision). d ≡ Undecided → ⊥) here decided)
        ∙ sym here
