-- Bytes that are decided to be right are those of a table.
use Rattle.std.proofs.Common.{◌≡◌, ◌⊎◌, inl, inr, ℕ, zero, suc, ◌+◌, ◌%◌, ◌<◌, ◌≤◌, eqb, ltb, cond, Bool, true, false, List, [], ◌∷◌, length, take, drop, sum, refl, sym, ◌∙◌, subst, arith, Result, Ok, Err}
use Rattle.std.proofs.lemmas.Bool.{eqb-true, ltb-false}
use Rattle.std.proofs.lemmas.Bool.Decides.{nat_tests}
use Rattle.std.proofs.lemmas.List.{take-append-drop}
use Rattle.pcc_bytes.specs.Bytes.{number_at}
use Rattle.pcct_table.specs.declared.subspace.Subspace.{Subspace}
use Rattle.pcct_table.specs.declared.table.Table.{Table}
use Rattle.pcct_table.specs.Values.{bytes_at}
use Rattle.pcct_table.proofs.Telling.{some_structure}
use Rattle.pcct_codec.specs.declared.fault.TableFault.{TableFault}
use Rattle.pcct_codec.specs.declared.fault.TableFault.TheVariants.{Checksum, Short, TooMany}
use Rattle.pcct_codec.specs.Tables.{BeginsTable, Structures, TableBytes}
use Rattle.pcct_codec.specs.Faults.{and_then, behind_header, behind_size, Decision, decision, Faulty, HasFault, Right, structure_size, structures_decision, sum_decision, table_decision, told_length, Undecided, wanting}
use Rattle.pcct_codec.proofs.Decisions.{behind, right_source, short_header}
use Rattle.pcct_codec.proofs.Headers.{table_is}
use Rattle.pcct_codec.proofs.Fronts.{front_decided, front_told}
use Rattle.pcct_codec.proofs.Walking.{shaped}

never_both : {X : Type 0} (f : TableFault) (d : Decision) → d ≡ Faulty f → d ≡ Right → X
never_both f d e h = absurd cc

-- ---- structures

-- some structures that bytes spell, of which there may be so many
record HasStructures (few : ℕ) (bytes : List ℕ) : Type 0 where
  all : List Subspace
  spelled : Structures bytes all
  within : length all ≤ few

more_structures : (few at : ℕ) (rest : List ℕ) (r : Result ℕ TableFault) → structure_size at rest ≡ r
    → behind_size r (λ size. structures_decision few (at + size) (drop size rest)) ≡ Right
    → ((size : ℕ) → structures_decision few (at + size) (drop size rest) ≡ Right → HasStructures few (drop size rest))
    → HasStructures (suc few) rest
more_structures few at rest (Err f) e h go = never_both f (Faulty f) refl h
more_structures few at rest (Ok size) e h go =
    let sh = shaped at rest size e in
    let s = some_structure (take size rest) sh.size sh.told in
    let more = go size h in
    let within : length more.all ≤ few = more.within in
    record {
      all = s.0 ∷ more.all;
      spelled = (take size rest, drop size rest, sym (take-append-drop size rest), s.1, more.spelled);
      within = omega arith;
    }

some_structures : (few at : ℕ) (bytes : List ℕ) → structures_decision few at bytes ≡ Right → HasStructures few bytes
unfolding structures_decision
some_structures few at [] h = record { all = []; spelled = refl; within = omega arith }
some_structures zero at (b ∷ bs) h = never_both (TooMany at) (Faulty (TooMany at)) refl h
some_structures (suc few) at (b ∷ bs) h =
    more_structures few at (b ∷ bs) (structure_size at (b ∷ bs)) refl h (λ size k. some_structures few (at + size) (drop size (b ∷ bs)) k)

-- ---- a table

both_right : (d next : Decision) → and_then d next ≡ Right → (d ≡ Right) × (next ≡ Right)
both_right Right next h = (refl, h)
both_right Undecided next h = absurd cc
both_right (Faulty f) next h = never_both f (Faulty f) refl h

sum_right : (bytes : List ℕ) (t : Bool) → eqb (sum bytes % 256) 0 ≡ t → cond t Right (Faulty (Checksum (sum bytes % 256))) ≡ Right → sum bytes % 256 ≡ 0
sum_right bytes true e h = eqb-true _ _ e
sum_right bytes false e h = never_both (Checksum (sum bytes % 256)) (Faulty (Checksum (sum bytes % 256))) refl h

-- a table of bytes whose header tells them all
some_table : (b : List ℕ) → told_length b ≡ Ok (length b) → table_decision b ≡ Right → (t : Table) × TableBytes b t
unfolding table_decision
some_table b told h =
    let both = both_right (structures_decision 256 48 (drop 48 b)) (sum_decision b) h in
    let ss = some_structures 256 48 (drop 48 b) both.0 in
    let zero_sum = sum_right b (eqb (sum b % 256) 0) refl both.1 in
    let t : Table = record {
      revision = number_at 1 8 b;
      oem_id = bytes_at 6 10 b;
      oem_table = bytes_at 8 16 b;
      oem_revision = number_at 4 24 b;
      creator = bytes_at 4 28 b;
      creator_revision = number_at 4 32 b;
      flags = number_at 4 36 b;
      reserved = bytes_at 8 40 b;
      subspaces = ss.all;
    } in
    (t, table_is b t told refl ss.spelled ss.within zero_sum)

-- ---- first bytes

long_enough : (b : List ℕ) (t : Bool) → ltb (length b) 48 ≡ t → decision true b ≡ Right → 48 ≤ length b
long_enough b true e h =
    let short : length b < 48 = grind (arith, nat_tests) in
    never_both (Short (length b)) (decision true b) (short_header b short) h
long_enough b false e h = ltb-false _ _ e

told_enough : (b : List ℕ) (n : ℕ) (t : Bool) → ltb (length b) n ≡ t → cond t (wanting true b) (table_decision (take n b)) ≡ Right → n ≤ length b
told_enough b n true e h = never_both (Short (length b)) (Faulty (Short (length b))) refl h
told_enough b n false e h = ltb-false _ _ e

right_told : (b : List ℕ) (r : Result ℕ TableFault) → told_length b ≡ r → behind_header true b r ≡ Right → decision true b ≡ Right → BeginsTable b
right_told b (Err f) e h d = never_both f (Faulty f) refl h
right_told b (Ok n) e h d =
    let enough : n ≤ length b = told_enough b n (ltb (length b) n) refl h in
    let t = some_table (take n b) (front_told n b e enough) (sym (front_decided n b e enough) ∙ d) in
    record { table = t.0; front = take n b; rest = drop n b; spelled = t.1; whole = sym (take-append-drop n b) }

pub right_begins : (b : List ℕ) → decision true b ≡ Right → BeginsTable b
right_begins b h =
    let enough = long_enough b (ltb (length b) 48) refl h in
    right_told b (told_length b) refl (sym (behind true b enough) ∙ h) h

pub begins_right : (ended : Bool) (b : List ℕ) → BeginsTable b → decision ended b ≡ Right
begins_right ended b h =
    let D : List ℕ → Type 0 = λ bytes. decision ended bytes ≡ Right in
    subst D (sym h.whole) (right_source ended h.front h.rest h.table h.spelled)

-- ---- bytes behind which a source has ended

-- a decision that is made
abbrev pub IsMade : Decision → Type 0
IsMade d = (d ≡ Right) ⊎ ((f : TableFault) × (d ≡ Faulty f))

sized_made : (few at : ℕ) (rest : List ℕ) (r : Result ℕ TableFault) → ((size : ℕ) → IsMade (structures_decision few (at + size) (drop size rest)))
    → IsMade (behind_size r (λ size. structures_decision few (at + size) (drop size rest)))
sized_made few at rest (Ok size) go = go size
sized_made few at rest (Err f) go = inr (f, refl)

structures_made : (few at : ℕ) (bytes : List ℕ) → IsMade (structures_decision few at bytes)
unfolding structures_decision
structures_made few at [] = inl refl
structures_made zero at (b ∷ bs) = inr (TooMany at, refl)
structures_made (suc few) at (b ∷ bs) =
    sized_made few at (b ∷ bs) (structure_size at (b ∷ bs)) (λ size. structures_made few (at + size) (drop size (b ∷ bs)))

sum_made : (bytes : List ℕ) (t : Bool) → IsMade (cond t Right (Faulty (Checksum (sum bytes % 256))))
sum_made bytes true = inl refl
sum_made bytes false = inr (Checksum (sum bytes % 256), refl)

then_made : (d next : Decision) → IsMade d → IsMade next → IsMade (and_then d next)
then_made Right next h k = k
then_made (Faulty f) next h k = inr (f, refl)
then_made Undecided next (inl e) k = absurd cc
then_made Undecided next (inr e) k = let f : Undecided ≡ Faulty e.0 = e.1 in absurd cc

pub table_made : (b : List ℕ) → IsMade (table_decision b)
unfolding table_decision
table_made b = then_made (structures_decision 256 48 (drop 48 b)) (sum_decision b) (structures_made 256 48 (drop 48 b)) (sum_made b (eqb (sum b % 256) 0))

told_made : (b : List ℕ) (r : Result ℕ TableFault) → IsMade (behind_header true b r)
told_made b (Err f) = inr (f, refl)
told_made b (Ok n) = length_made (ltb (length b) n)
  where
    length_made : (t : Bool) → IsMade (cond t (wanting true b) (table_decision (take n b)))
    length_made true = inr (Short (length b), refl)
    length_made false = table_made (take n b)

made : (b : List ℕ) → IsMade (decision true b)
unfolding decision
made b = header_made (ltb (length b) 48)
  where
    header_made : (t : Bool) → IsMade (cond t (wanting true b) (behind_header true b (told_length b)))
    header_made true = inr (Short (length b), refl)
    header_made false = told_made b (told_length b)

pub begins_or_faulty : (b : List ℕ) → BeginsTable b ⊎ HasFault b
begins_or_faulty b = elim (made b) [
  | inl r ↦ inl (right_begins b r)
  | inr f ↦ inr f
]

pub not_both : (b : List ℕ) → BeginsTable b → HasFault b → ⊥
not_both b h f = never_both f.0 (decision true b) f.1 (begins_right true b h)
