-- Structures are read one after another, and the first check that fails is met.
use Rattle.std.proofs.Common.{◌≡◌, ℕ, zero, suc, ◌+◌, ◌-◌, ◌<◌, ◌≤◌, eqb, ltb, cond, Bool, true, false, List, [], ◌∷◌, ◌++◌, length, take, drop, slice_index, refl, sym, ap, ◌∙◌, subst, append_assoc, arith, length-take, length-drop, Result, Ok, Err}
use Rattle.std.specs.Prelude.{Option, Some, None}
use Rattle.std.proofs.lemmas.Bool.{eqb-true, ltb-false}
use Rattle.std.proofs.lemmas.List.{append-nil, take-append-drop, drop-drop, drop_all, get_or-take, length-append}
use Rattle.pcct_table.specs.declared.subspace.Subspace.{Subspace}
use Rattle.pcct_table.specs.Subspaces.{SubspaceBytes}
use Rattle.pcct_table.specs.Rows.{size_of_kind}
use Rattle.pcct_table.proofs.ShowLine.{size_long}
use Rattle.pcct_codec.specs.declared.fault.TableFault.{TableFault}
use Rattle.pcct_codec.specs.declared.fault.TableFault.TheVariants.{Short, Signature, LengthOutside, Revision, TooMany, Overrun, SubspaceLength, Checksum, ReadFault, NoMemory}
use Rattle.pcct_codec.specs.Tables.{Structures}
use Rattle.pcct_codec.specs.Faults.{Decision, Right, Faulty, FaultIs, behind_size, sized, structure_size, structures_decision}

-- one structure more at the end
structures_push : (xs b : List ℕ) (ss : List Subspace) (s : Subspace) → Structures xs ss → SubspaceBytes b s → Structures (xs ++ b) (ss ++ s ∷ [])
structures_push xs b [] s h k = (b, [], ap (λ (v : List ℕ). v ++ b) h ∙ sym (append-nil b), k, refl)
structures_push xs b (t ∷ ts) s h k =
    (h.0, h.1 ++ b, ap (λ (v : List ℕ). v ++ b) h.2 ∙ append_assoc h.0 h.1 b, h.3, structures_push h.1 b ts s h.4 k)

-- what the checks say of the structure that stands first
pub record Stands (rest : List ℕ) (size : ℕ) : Type 0 where
  pub kind : size_of_kind (slice_index rest 0) size ≡ Some size
  pub len : slice_index rest 1 ≡ size
  pub within : size ≤ length rest

stands_sized : (at kind found len : ℕ) (o : Option ℕ) (size : ℕ) → sized at kind found len o ≡ Ok size → (o ≡ Some size) × (found ≡ size) × (size ≤ len)
stands_sized at kind found len None size h = absurd cc
stands_sized at kind found len (Some n) size h = stands_cases at kind found len n size (eqb found n) (ltb len n) refl refl h
  where
    stands_cases : (at kind found len n size : ℕ) (p q : Bool) → eqb found n ≡ p → ltb len n ≡ q → cond p (cond q (Err (Overrun at)) (Ok n)) (Err (SubspaceLength at kind found)) ≡ Ok size → (Some n ≡ Some size) × (found ≡ size) × (size ≤ len)
    stands_cases at kind found len n size true false e f h = let same : n ≡ size = cc in (ap Some same, eqb-true _ _ e ∙ same, subst (λ (k : ℕ). k ≤ len) same (ltb-false _ _ f))
    stands_cases at kind found len n size true true e f h = absurd cc
    stands_cases at kind found len n size false q e f h = absurd cc

guard : (b : Bool) (f : TableFault) (r : Result ℕ TableFault) (size : ℕ) → cond b (Err f) r ≡ Ok size → r ≡ Ok size
guard true f r size h = absurd cc
guard false f r size h = h

pub size_least : (kind size : ℕ) → size_of_kind kind size ≡ Some size → 2 ≤ size
size_least kind size h = (size_long kind size h).least

pub stands : (at : ℕ) (rest : List ℕ) (size : ℕ) → structure_size at rest ≡ Ok size → Stands rest size
unfolding structure_size
stands at rest size h =
    let p = guard (eqb (length rest) 1) (Overrun at) (sized at (slice_index rest 0) (slice_index rest 1) (length rest) (size_of_kind (slice_index rest 0) (slice_index rest 1))) size h in
    let q = stands_sized at (slice_index rest 0) (slice_index rest 1) (length rest) (size_of_kind (slice_index rest 0) (slice_index rest 1)) size p in
    record { kind = ap (size_of_kind (slice_index rest 0)) (sym q.1) ∙ q.0; len = q.1; within = q.2 }

-- the structure's own bytes are shaped as its reader wants
pub record Shaped (b : List ℕ) : Type 0 where
  pub size : size_of_kind (slice_index b 0) (length b) ≡ Some (length b)
  pub told : slice_index b 1 ≡ length b

pub shaped : (at : ℕ) (rest : List ℕ) (size : ℕ) → structure_size at rest ≡ Ok size → Shaped (take size rest)
shaped at rest size h =
    let st = stands at rest size h in
    let within : size ≤ length rest = st.within in
    let least : 2 ≤ size = size_least (slice_index rest 0) size st.kind in
    let n : length (take size rest) ≡ size = omega (arith, length-take size rest) in
    let b0 : slice_index (take size rest) 0 ≡ slice_index rest 0 = get_or-take size rest 0 0 (omega arith) in
    let b1 : slice_index (take size rest) 1 ≡ slice_index rest 1 = get_or-take size rest 1 0 (omega arith) in
    record { size = rw (b0, n) st.kind; told = b1 ∙ st.len ∙ sym n }

pub record Walking (bytes : List ℕ) (at : ℕ) (ss : List Subspace) : Type 0 where
  pub from : 48 ≤ at
  pub to : at ≤ length bytes
  pub done : List ℕ
  pub whole : drop 48 bytes ≡ done ++ drop at bytes
  pub structures : Structures done ss
  pub few : length ss ≤ 256
  pub decided : structures_decision (256 - length ss) at (drop at bytes) ≡ structures_decision 256 48 (drop 48 bytes)

pub walk_start : (bytes : List ℕ) → 48 ≤ length bytes → Walking bytes 48 []
walk_start bytes h = record { from = omega arith; to = h; done = []; whole = refl; structures = refl; few = omega arith; decided = refl }

pub right_next : (n at : ℕ) (rest : List ℕ) (size : ℕ) → 0 < length rest → structure_size at rest ≡ Ok size
    → structures_decision (suc n) at rest ≡ structures_decision n (at + size) (drop size rest)
unfolding structures_decision
right_next n at [] size lt h = absurd (omega arith)
right_next n at (b ∷ bs) size lt h = ap (λ (r : Result ℕ TableFault). behind_size r (λ k. structures_decision n (at + k) (drop k (b ∷ bs)))) h

fault_here : (n at : ℕ) (rest : List ℕ) (f : TableFault) → 0 < length rest → structure_size at rest ≡ Err f → structures_decision (suc n) at rest ≡ Faulty f
unfolding structures_decision
fault_here n at [] f lt h = absurd (omega arith)
fault_here n at (b ∷ bs) f lt h = ap (λ (r : Result ℕ TableFault). behind_size r (λ k. structures_decision n (at + k) (drop k (b ∷ bs)))) h

fault_many : (at : ℕ) (rest : List ℕ) → 0 < length rest → structures_decision 0 at rest ≡ Faulty (TooMany at)
unfolding structures_decision
fault_many at [] lt = absurd (omega arith)
fault_many at (b ∷ bs) lt = refl

pub right_none : (n at : ℕ) → structures_decision n at [] ≡ Right
unfolding structures_decision
right_none zero at = refl
right_none (suc n) at = refl

pub walk_more : (bytes : List ℕ) (at size : ℕ) (ss : List Subspace) (s : Subspace) → at < length bytes → length ss < 256
    → structure_size at (drop at bytes) ≡ Ok size → SubspaceBytes (take size (drop at bytes)) s → Walking bytes at ss
    → Walking bytes (at + size) (ss ++ s ∷ [])
walk_more bytes at size ss s lt ne e b w =
    let here = stands at (drop at bytes) size e in
    let within : size ≤ length (drop at bytes) = here.within in
    let from : 48 ≤ at = w.from in
    let few : length ss ≤ 256 = w.few in
    let k : 256 - length ss ≡ suc (256 - (length ss + 1)) = omega arith in
    let len : length (ss ++ s ∷ []) ≡ length ss + 1 = length-append ss (s ∷ []) in
    let long : 0 < length (drop at bytes) = omega (arith, length-drop at bytes) in
    let next : structures_decision (256 - length ss) at (drop at bytes) ≡ structures_decision (256 - (length ss + 1)) (at + size) (drop (at + size) bytes) =
    ap (λ (n : ℕ). structures_decision n at (drop at bytes)) k ∙ right_next (256 - (length ss + 1)) at (drop at bytes) size long e ∙ ap (structures_decision (256 - (length ss + 1)) (at + size)) (drop-drop size at bytes) in
    record {
      from = omega arith;
      to = omega (arith, length-drop at bytes);
      done = w.done ++ take size (drop at bytes);
      whole = w.whole ∙ ap (λ (v : List ℕ). w.done ++ v) (sym (take-append-drop size (drop at bytes)) ∙ ap (λ (v : List ℕ). take size (drop at bytes) ++ v) (drop-drop size at bytes)) ∙ sym (append_assoc w.done (take size (drop at bytes)) (drop (at + size) bytes));
      structures = structures_push w.done (take size (drop at bytes)) ss s w.structures b;
      few = omega arith;
      decided = rw len (sym next ∙ w.decided);
    }

pub fault_is : (f : TableFault) (o : Decision) → o ≡ Faulty f → FaultIs f o
fault_is (Short a) o h = h
fault_is Signature o h = h
fault_is (LengthOutside a) o h = h
fault_is (Revision a) o h = h
fault_is (TooMany a) o h = h
fault_is (Overrun a) o h = h
fault_is (SubspaceLength a k b) o h = h
fault_is (Checksum a) o h = h
fault_is ReadFault o h = h
fault_is NoMemory o h = tt

pub walk_fault : (bytes : List ℕ) (at : ℕ) (ss : List Subspace) (f : TableFault) → at < length bytes → length ss < 256
    → structure_size at (drop at bytes) ≡ Err f → Walking bytes at ss → FaultIs f (structures_decision 256 48 (drop 48 bytes))
walk_fault bytes at ss f lt ne e w =
    let few : length ss ≤ 256 = w.few in
    let k : 256 - length ss ≡ suc (256 - (length ss + 1)) = omega arith in
    let long : 0 < length (drop at bytes) = omega (arith, length-drop at bytes) in
    fault_is f _ (sym w.decided ∙ ap (λ (n : ℕ). structures_decision n at (drop at bytes)) k ∙ fault_here (256 - (length ss + 1)) at (drop at bytes) f long e)

pub walk_many : (bytes : List ℕ) (at : ℕ) (ss : List Subspace) → at < length bytes → 256 ≤ length ss → Walking bytes at ss
    → structures_decision 256 48 (drop 48 bytes) ≡ Faulty (TooMany at)
walk_many bytes at ss lt e w =
    let k : 256 - length ss ≡ 0 = omega arith in
    let long : 0 < length (drop at bytes) = omega (arith, length-drop at bytes) in
    sym w.decided ∙ ap (λ (n : ℕ). structures_decision n at (drop at bytes)) k ∙ fault_many at (drop at bytes) long

pub record Walked (bytes : List ℕ) (ss : List Subspace) : Type 0 where
  pub structures : Structures (drop 48 bytes) ss
  pub few : length ss ≤ 256
  pub right : structures_decision 256 48 (drop 48 bytes) ≡ Right

pub walk_end : (bytes : List ℕ) (at : ℕ) (ss : List Subspace) → length bytes ≤ at → Walking bytes at ss → Walked bytes ss
walk_end bytes at ss le w =
    let none : drop at bytes ≡ [] = drop_all at bytes le in
    let whole : drop 48 bytes ≡ w.done = w.whole ∙ ap (λ (v : List ℕ). w.done ++ v) none ∙ append-nil w.done in
    record {
      structures = subst (λ (v : List ℕ). Structures v ss) (sym whole) w.structures;
      few = w.few;
      right = sym w.decided ∙ ap (structures_decision (256 - length ss) at) none ∙ right_none (256 - length ss) at;
    }
