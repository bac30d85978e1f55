-- What is known of the entries of a package that can be bound.
use Rattle.std.proofs.Common.{◌≡◌, inl, inr, ℕ, zero, suc, ◌+◌, ◌*◌, ◌<◌, ◌≤◌, Bool, true, false, cond, eqb, leb, List, [], ◌∷◌, length, get_or, map, take, set, replicate, Option, Some, None, refl, sym, ap, ◌∙◌, subst, zero-add, arith}
use Rattle.std.specs.Prelude.{◌&&◌, slice_index}
use Rattle.std.specs.Prelude.{unwrap_or}
use Rattle.std.specs.List.{range_with_len}
use Rattle.std.proofs.lemmas.Bool.{and_parts, cases_lt, eqb-true, le-ltb, leb-true, lt-ltb}
use Rattle.std.proofs.lemmas.List.{get_or-replicate, get_or-set_same, get_or-set_other, get_or_past, length-map, length-replicate, length-set, get_or-map, ext_get_or}
use Rattle.std.proofs.lemmas.List.FromFn.{length-range_with_len, get_or-range_with_len}
use Rattle.aml_pkg.specs.declared.item.Form.TheVariants.{Zero}
use Rattle.aml_pkg.specs.declared.item.Element.{Element}
use Rattle.aml_pkg.specs.declared.item.Element.TheVariants as element
use Rattle.aml_pkg.specs.declared.item.Item.{Item}
use Rattle.aml_pkg.specs.declared.item.Item.TheVariants as item
use Rattle.pcc_gas.specs.Fields.{AreApart}
use Rattle.pcc_gas.specs.declared.address.Gas.{Gas}
use Rattle.pcc_gas.specs.declared.address.Register.{Register as RegisterAt}
use Rattle.pcc_gas.specs.declared.field.Field.{Field}
use Rattle.cpc_package.specs.declared.entry.Entry.{Entry}
use Rattle.cpc_package.specs.declared.entry.Entry.TheVariants.{Integer, Register, Absent}
use Rattle.cpc_package.specs.declared.binding.Source1.{Source1}
use Rattle.cpc_package.specs.declared.binding.Source1.TheVariants.{Missing, At}
use Rattle.cpc_package.specs.declared.binding.Binding.{Binding}
use Rattle.cpc_package.specs.declared.binding.BindFault.TheVariants.{NotPcc, TwoSubspaces, BadWidth, FieldOutside, NoDesired, NoBound}
use Rattle.cpc_package.specs.Entries.{entries_of, entry_at, entry_of, is_absent_in, register_in}
use Rattle.cpc_package.specs.Packages.{AllFrom, IsCpc, IsOfRole}
use Rattle.cpc_package.specs.Rows.{role_of}
use Rattle.cpc_package.specs.declared.rows.Role.TheVariants as role
use Rattle.cpc_package.specs.Bindings.{HasWidth, IsBinding, IsRight, LiesIn, access_test, bind_fault, binding_of, bounds_fault, end_of, field_of, first_sharing, first_subspace, gas_of, is_absent, is_subspace, overlap, register_test, registers_fault, share_test, source_at, source_by, source_of}
use Rattle.cpc_package.proofs.First.{first_none, front_none, or_none}
use Rattle.cpc_package.proofs.Meeting.{apart_by, missing_field}
use Rattle.cpc_package.proofs.Sizes.{count_least, count_most, entries_count}

-- ---- what a register that is present has passed

no_gas : {P : Type 0} (gas : Gas) → None ≡ Some gas → P
no_gas gas e = absurd cc

pub within : (entries : List Entry) (n : ℕ) (gas : Gas) → gas_of (entry_at entries n) ≡ Some gas → n < length entries
within entries n gas h = elim (cases_lt n (length entries)) [
  | inl lt ↦ lt
  | inr past ↦ no_gas gas (ap gas_of (sym (get_or_past entries n (Absent 0) past)) ∙ h)
]

-- a test that must hold for none to fail
passed : {F : Type 0} (b : Bool) (o : Option F) (f : F) → cond b o (Some f) ≡ None → (b ≡ true) × (o ≡ None)
passed true o f e = (refl, e)
passed false o f e = absurd cc

pub record Passes (entries : List Entry) (len n : ℕ) (gas : Gas) : Type 0 where
  pub subspace : is_subspace (first_subspace entries) gas.access ≡ true
  pub width : HasWidth (field_of gas)
  pub inside : end_of (field_of gas) ≤ 8 * len
  pub alone : first_sharing (field_of gas) (take n entries) ≡ None

no_overlap : (o : Option ℕ) (n : ℕ) → overlap o n ≡ None → o ≡ None
no_overlap None n h = refl
no_overlap (Some a) n h = absurd cc

by_test : (entries : List Entry) (len n : ℕ) (gas : Gas) → register_test entries len n (Some gas) ≡ None → Passes entries len n gas
by_test entries len n gas h =
    let p = passed (eqb gas.space 10) _ (NotPcc n) h in
    let q = passed (is_subspace (first_subspace entries) gas.access) _ (TwoSubspaces n) p.1 in
    let r = passed (leb 1 gas.width && leb gas.width 64) _ (BadWidth n) q.1 in
    let s = passed (leb (end_of (field_of gas)) (8 * len)) _ (FieldOutside n) r.1 in
    let w = and_parts (leb 1 gas.width) (leb gas.width 64) r.0 in
    record {
      subspace = q.0;
      width = record { some = leb-true _ _ w.0; most = leb-true _ _ w.1 };
      inside = leb-true _ _ s.0;
      alone = no_overlap (first_sharing (field_of gas) (take n entries)) n s.1;
    }

pub passes : (entries : List Entry) (len n : ℕ) (gas : Gas) → bind_fault entries len ≡ None → gas_of (entry_at entries n) ≡ Some gas → Passes entries len n gas
unfolding bind_fault registers_fault
passes entries len n gas h is =
    let none = (or_none (registers_fault entries len) _ h).0 in
    by_test entries len n gas (ap (register_test entries len n) (sym is) ∙ first_none (λ n e. register_test entries len n (gas_of e)) entries n none (within entries n gas is))

pub inside : (entries : List Entry) (len n : ℕ) (gas : Gas) → bind_fault entries len ≡ None → gas_of (entry_at entries n) ≡ Some gas
    → end_of (field_of gas) ≤ 8 * len
inside entries len n gas h is = (passes entries len n gas h is).inside

unshared : (b : Bool) (m : ℕ) → cond b (Some m) None ≡ None → b ≡ false
unshared true m h = absurd cc
unshared false m h = refl

pub apart : (entries : List Entry) (len m n : ℕ) (g h : Gas) → bind_fault entries len ≡ None → m < n → gas_of (entry_at entries m) ≡ Some g
    → gas_of (entry_at entries n) ≡ Some h
    → AreApart (field_of g) (field_of h)
unfolding first_sharing
apart entries len m n g h none lt isg ish =
    let p = passes entries len n h none ish in
    let end = within entries n h ish in
    let found : share_test (field_of h) m (gas_of (entry_at entries m)) ≡ None = front_none (λ n e. share_test (field_of h) n (gas_of e)) entries n m p.alone (omega arith) lt in
    let far : AreApart (field_of h) (field_of g) = apart_by (field_of h) (field_of g) (unshared _ m (ap (share_test (field_of h) m) (sym isg) ∙ found)) in
    λ bit i j. far bit j i

-- ---- the subspace

pub no_first : (entries : List Entry) (n : ℕ) (gas : Gas) → first_subspace entries ≡ None → gas_of (entry_at entries n) ≡ Some gas → ⊥
unfolding first_subspace
no_first entries n gas h is =
    let none : access_test n (gas_of (entry_at entries n)) ≡ None = first_none (λ n e. access_test n (gas_of e)) entries n h (within entries n gas is) in
    let some : access_test n (gas_of (entry_at entries n)) ≡ Some gas.access = ap (access_test n) is in
    absurd cc

pub is_first : (o : Option ℕ) (first access : ℕ) → o ≡ Some first → is_subspace o access ≡ true → first ≡ access
is_first o first access e h = eqb-true first access (ap (λ (p : Option ℕ). is_subspace p access) (sym e) ∙ h)

-- ---- the sources

-- the sources of the entries from 2 to n
pub record Sources (entries : List Entry) (n : ℕ) (xs : List Source1) : Type 0 where
  pub len : length xs ≡ 23
  pub none : (k : ℕ) → k < 2 → get_or xs k Missing ≡ Missing
  pub each : (k : ℕ) → 2 ≤ k → k < n → get_or xs k Missing ≡ source_of (entry_at entries k)
  pub later : (k : ℕ) → n ≤ k → get_or xs k Missing ≡ Missing

missing : (n k : ℕ) → get_or (replicate n Missing) k Missing ≡ Missing
missing n k = elim (cases_lt k n) [
  | inl lt ↦ get_or-replicate n k Missing Missing lt
  | inr past ↦ get_or_past (replicate n Missing) k Missing (omega (arith, length-replicate n Missing))
]

pub sources_start : (entries : List Entry) → Sources entries 2 (replicate 23 Missing)
sources_start entries = record {
  len = length-replicate 23 Missing;
  none = λ k lt. missing 23 k;
  each = λ k le lt. absurd (omega arith);
  later = λ k le. missing 23 k;
}

other : (xs : List Source1) (n k : ℕ) (x : Source1) → (k ≡ n → ⊥) → get_or (set xs n x) k Missing ≡ get_or xs k Missing
other xs n k x h = get_or-set_other xs n k x Missing h

pub sources_more : (entries : List Entry) (n : ℕ) (xs : List Source1) (x : Source1) → 2 ≤ n → n < 23 → x ≡ source_of (entry_at entries n)
    → Sources entries n xs → Sources entries (n + 1) (set xs n x)
sources_more entries n xs x low lt is s =
    let all : length xs ≡ 23 = s.len in
    record {
      len = length-set xs n x ∙ s.len;
      none = λ k below. other xs n k x (λ e. omega arith) ∙ s.none k below;
      each = λ k le below. elim (cases_lt k n) [
        | inl h ↦ other xs n k x (λ e. omega arith) ∙ s.each k le h
        | inr h ↦
            let same : n ≡ k = omega arith in
            subst (λ (j : ℕ). get_or (set xs n x) j Missing ≡ source_of (entry_at entries j)) same (get_or-set_same xs n x Missing (omega arith) ∙ is)
      ];
      later = λ k le. other xs n k x (λ e. omega arith) ∙ s.later k (omega arith);
    }

-- the sources by their numbers
by_number : (entries : List Entry) (k : ℕ) → k < 23 → get_or (map (source_by entries) (range_with_len 0 23)) k Missing ≡ source_by entries k
by_number entries k lt =
    get_or-map (source_by entries) (range_with_len 0 23) k 0 Missing (omega (arith, length-range_with_len 0 23))
    ∙ ap (source_by entries) (get_or-range_with_len 0 23 k 0 lt ∙ zero-add k)

length_by : (entries : List Entry) → length (map (source_by entries) (range_with_len 0 23)) ≡ 23
length_by entries = length-map (range_with_len 0 23) (source_by entries) ∙ length-range_with_len 0 23

pub first_two : (entries : List Entry) (k : ℕ) → k < 2 → source_by entries k ≡ Missing
first_two entries k lt = rw (lt-ltb k 2 lt) refl

pub from_two : (entries : List Entry) (k : ℕ) → 2 ≤ k → source_by entries k ≡ source_of (entry_at entries k)
from_two entries k le = rw (le-ltb k 2 le) refl

pub sources_end : (entries : List Entry) (count n : ℕ) (xs : List Source1) → count ≡ length entries → count ≤ n → Sources entries n xs → xs ≡ (binding_of entries).sources
unfolding binding_of
sources_end entries count n xs all le s = ext_get_or Missing xs (map (source_by entries) (range_with_len 0 23)) (s.len ∙ sym (length_by entries)) (λ k lt.
    let small : k < 23 = omega (arith, s.len) in
    elim (cases_lt k 2) [
      | inl low ↦ s.none k low ∙ sym (first_two entries k low) ∙ sym (by_number entries k small)
      | inr from ↦ elim (cases_lt k n) [
        | inl before ↦ s.each k from before ∙ sym (from_two entries k from) ∙ sym (by_number entries k small)
        | inr past ↦
            s.later k past ∙ ap source_of (sym (get_or_past entries k (Absent 0) (omega arith)))
            ∙ sym (from_two entries k from) ∙ sym (by_number entries k small)
      ]
    ])

pub whole : (entries : List Entry) → length (binding_of entries).sources ≡ 23
unfolding binding_of
whole entries = length_by entries

pub by_entry : (entries : List Entry) (n : ℕ) → n < 23 → source_at (binding_of entries) n ≡ source_by entries n
unfolding binding_of
by_entry entries n lt = by_number entries n lt

-- ---- a right binding

at_field : (e : Entry) (f : Field) → source_of e ≡ At f → (gas : Gas) × (gas_of e ≡ Some gas) × (field_of gas ≡ f)
at_field (Integer value) f h = absurd cc
at_field (Absent checksum) f h = absurd cc
at_field (Register register) f h =
    let same : field_of register.gas ≡ f = cc in
    (register.gas, refl, same)

-- the register of a field
pub behind : (entries : List Entry) (b : Binding) (n : ℕ) (f : Field) → IsBinding entries b → source_at b n ≡ At f
    → (gas : Gas) × (gas_of (entry_at entries n) ≡ Some gas) × (field_of gas ≡ f)
behind entries b n f bound at = elim (cases_lt n 2) [
  | inl low ↦ missing_field f (sym (bound.none n low) ∙ at)
  | inr le ↦ at_field (entry_at entries n) f (sym (bound.each n le) ∙ at)
]

pub lies_in : (entries : List Entry) (len : ℕ) (b : Binding) → bind_fault entries len ≡ None → IsBinding entries b → LiesIn len b
lies_in entries len b none bound n f at =
    let r = behind entries b n f bound at in
    subst (λ (g : Field). end_of g ≤ 8 * len) r.2 (inside entries len n r.0 none r.1)

widths : (entries : List Entry) (len : ℕ) (b : Binding) → bind_fault entries len ≡ None → IsBinding entries b → (n : ℕ) (f : Field)
    → source_at b n ≡ At f → HasWidth f
widths entries len b none bound n f at =
    let r = behind entries b n f bound at in
    subst HasWidth r.2 (passes entries len n r.0 none r.1).width

all_apart : (entries : List Entry) (len : ℕ) (b : Binding) → bind_fault entries len ≡ None → IsBinding entries b
    → (m n : ℕ) (f g : Field) → m < n → source_at b m ≡ At f → source_at b n ≡ At g → AreApart f g
all_apart entries len b none bound m n f g lt atf atg =
    let r = behind entries b m f bound atf in
    let s = behind entries b n g bound atg in
    let far : AreApart (field_of r.0) (field_of s.0) = apart entries len m n r.0 s.0 none lt r.1 s.1 in
    subst (λ (x : Field). AreApart x g) r.2 (subst (λ (y : Field). AreApart (field_of r.0) y) s.2 far)

-- an element of a package is right in its place
role_from : (count n : ℕ) (es : List Element) (k : ℕ) (d : Element) (m : ℕ) → AllFrom count n es → k < length es → m ≡ n + k
    → IsOfRole count (role_of m) (get_or es k d)
role_from count n [] k d m h lt e = absurd (omega arith)
role_from count n (x ∷ es) zero d m h lt e =
    let same : n ≡ m = omega arith in
    subst (λ (j : ℕ). IsOfRole count (role_of j) x) same h.0
role_from count n (x ∷ es) (suc k) d m h lt e = role_from count (n + 1) es k d m h.1 (omega arith) (omega arith)

by_absent : (b : Bool) (checksum : ℕ) (r : RegisterAt) → is_absent (cond b (Absent checksum) (Register r)) ≡ false
    → (gas : Gas) × (gas_of (cond b (Absent checksum) (Register r)) ≡ Some gas)
by_absent true checksum r h = absurd cc
by_absent false checksum r h = (r.gas, refl)

no_integer : (count : ℕ) (e : Element) → IsOfRole count role.Register e → is_absent (entry_of e) ≡ false → (gas : Gas) × (gas_of (entry_of e) ≡ Some gas)
no_integer count (element.Int int) h present = absurd h
no_integer count (element.Buffer buffer) h present = by_absent (is_absent_in buffer.bytes) (slice_index buffer.bytes 16) (register_in buffer.bytes) present

-- the desired performance is no integer
desired_register : (c : Item) → IsCpc c → is_absent (entry_at (entries_of c) 7) ≡ false → (gas : Gas) × (gas_of (entry_at (entries_of c) 7) ≡ Some gas)
unfolding entries_of role_of
desired_register (item.Element e) h present = absurd h
desired_register (item.Package l es) h present =
    let d : Element = element.Int (record { value = 0; form = Zero }) in
    let count : 21 ≤ length es = count_least (length es) h.0 in
    let seven : 7 < length es = omega (arith, count) in
    let register : IsOfRole (length es) role.Register (get_or es 7 d) = role_from (length es) 0 es 7 d 7 h.1 seven refl in
    let same : get_or (map entry_of es) 7 (Absent 0) ≡ entry_of (get_or es 7 d) = get_or-map entry_of es 7 d (Absent 0) seven in
    let r = no_integer (length es) (get_or es 7 d) register (ap is_absent (sym same) ∙ present) in
    (r.0, ap gas_of same ∙ r.1)

refused : {F : Type 0} (b : Bool) (o : Option F) (f : F) → cond b (Some f) o ≡ None → (b ≡ false) × (o ≡ None)
refused true o f e = absurd cc
refused false o f e = (refl, e)

pub record Bounded (desired lowest highest : Entry) : Type 0 where
  pub is_desired : is_absent desired ≡ false
  pub is_lowest : is_absent lowest ≡ false
  pub is_highest : is_absent highest ≡ false

bounded : (desired lowest nominal highest : Entry) → bounds_fault desired lowest nominal highest ≡ None → Bounded desired lowest highest
bounded desired lowest nominal highest h =
    let p = refused (is_absent desired) _ NoDesired h in
    let q = refused (is_absent lowest) _ (NoBound 5) p.1 in
    let r = refused (is_absent highest) _ (NoBound 2) q.1 in
    record { is_desired = p.0; is_lowest = q.0; is_highest = r.0 }

there : (e : Entry) → is_absent e ≡ false → source_of e ≡ Missing → ⊥
there (Integer value) h m = cc
there (Register register) h m = cc
there (Absent checksum) h m = cc

source_of_gas : (e : Entry) (gas : Gas) → gas_of e ≡ Some gas → source_of e ≡ At (field_of gas)
source_of_gas (Integer value) gas h = no_gas gas h
source_of_gas (Absent checksum) gas h = no_gas gas h
source_of_gas (Register register) gas h =
    let same : register.gas ≡ gas = cc in
    ap (λ (g : Gas). At (field_of g)) same

pub is_right : (c : Item) (len : ℕ) (b : Binding) → IsCpc c → bind_fault (entries_of c) len ≡ None → IsBinding (entries_of c) b → IsRight b
unfolding bind_fault
is_right c len b h none bound =
    let entries : List Entry = entries_of c in
    let there_are = bounded (entry_at entries 7) (entry_at entries 5) (entry_at entries 3) (entry_at entries 2) (or_none (registers_fault entries len) _ none).1 in
    let register = desired_register c h there_are.is_desired in
    record {
      desired = (field_of register.0, bound.each 7 (omega arith) ∙ source_of_gas (entry_at entries 7) register.0 register.1);
      lowest = λ m. there (entry_at entries 5) there_are.is_lowest (sym (bound.each 5 (omega arith)) ∙ m);
      highest = λ m. there (entry_at entries 2) there_are.is_highest (sym (bound.each 2 (omega arith)) ∙ m);
      widths = widths (entries_of c) len b none bound;
      apart = all_apart (entries_of c) len b none bound;
    }

-- ---- the binding that is made

subspace_by : (o : Option ℕ) (gas : Gas) → (o ≡ None → ⊥) → is_subspace o gas.access ≡ true → unwrap_or o 0 ≡ gas.access
subspace_by None gas some h = absurd (some refl)
subspace_by (Some first) gas some h = eqb-true first gas.access h

past_all : (entries : List Entry) (n : ℕ) → length entries ≤ 23 → 23 ≤ n → source_of (entry_at entries n) ≡ Missing
past_all entries n most past = ap source_of (get_or_past entries n (Absent 0) (omega (arith, most)))

pub is_binding : (c : Item) (len : ℕ) → IsCpc c → bind_fault (entries_of c) len ≡ None → IsBinding (entries_of c) (binding_of (entries_of c))
unfolding binding_of
is_binding c len h none =
    let entries : List Entry = entries_of c in
    record {
      subspace = λ n gas is. subspace_by (first_subspace entries) gas (λ e. no_first entries n gas e is) (passes entries len n gas none is).subspace;
      none = λ n lt. by_entry entries n (omega arith) ∙ first_two entries n lt;
      each = λ n le. elim (cases_lt n 23) [
        | inl lt ↦ by_entry entries n lt ∙ from_two entries n le
        | inr past ↦
            get_or_past (binding_of entries).sources n Missing (omega (arith, whole entries)) ∙ sym (past_all entries n (count_most (length entries) (entries_count c h)) past)
      ];
    }
