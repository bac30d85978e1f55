-- A raised package is bound as the package that it was.
use Rattle.std.proofs.Common.{◌≡◌, ◌⊎◌, inl, inr, ℕ, zero, suc, ◌+◌, ◌<◌, ◌≤◌, List, [], ◌∷◌, ◌++◌, length, take, drop, get_or, map, Option, Some, None, refl, sym, ap, ◌∙◌, subst, arith}
use Rattle.std.specs.Prelude.{unwrap_or}
use Rattle.std.proofs.lemmas.Bool.{cases_lt}
use Rattle.std.proofs.lemmas.List.{get_or-drop, get_or-take, take-append-le, take-map, drop-map, map-append, length-map}
use Rattle.aml_pkg.specs.declared.item.Element.{Element}
use Rattle.aml_pkg.specs.declared.item.Element.TheVariants as element
use Rattle.aml_pkg.specs.declared.item.Item.{Item}
use Rattle.aml_pkg.specs.declared.item.Item.TheVariants as item
use Rattle.pcc_gas.specs.declared.address.Gas.{Gas}
use Rattle.pcc_gas.specs.declared.field.Field.{Field}
use Rattle.cpc_package.specs.declared.entry.Entry.{Entry}
use Rattle.cpc_package.specs.declared.entry.Entry.TheVariants.{Absent}
use Rattle.cpc_package.specs.declared.rows.Role.TheVariants as role
use Rattle.cpc_package.specs.Rows.{role_of}
use Rattle.cpc_package.specs.Entries.{elements_of, entries_of, entry_at, entry_of}
use Rattle.cpc_package.specs.Packages.{AllFrom, IsCpc, IsOfRole}
use Rattle.cpc_package.specs.Raising.{no_number, raised, raised_elements}
use Rattle.cpc_package.specs.Bindings.{access_test, bind_fault, binding_of, field_of, first_from, first_sharing, first_subspace, gas_of, or_else, register_test, registers_fault, share_test, source_at, source_of}
use Rattle.cpc_package.proofs.Bound.{by_entry, first_two, from_two}
use Rattle.cpc_package.proofs.Raised.{raised_two, raised_three}

-- ---- the same elements 2 to 20

abbrev pub SameElements : Item → Item → Type 0
SameElements a b = take 19 (drop 2 (elements_of a)) ≡ take 19 (drop 2 (elements_of b))

middle : (es : List Element) (n : ℕ) → n < 19 → get_or (map entry_of es) (2 + n) (Absent 0) ≡ get_or (map entry_of (take 19 (drop 2 es))) n (Absent 0)
middle es n lt =
    sym (get_or-drop 2 (map entry_of es) n (Absent 0))
    ∙ sym (get_or-take 19 (drop 2 (map entry_of es)) n (Absent 0) lt)
    ∙ ap (λ (x : List Entry). get_or (take 19 x) n (Absent 0)) (drop-map entry_of 2 es)
    ∙ ap (λ (x : List Entry). get_or x n (Absent 0)) (take-map entry_of 19 (drop 2 es))

middle_same : (a b : Item) (n : ℕ) → SameElements a b → n < 19 → entry_at (entries_of a) (2 + n) ≡ entry_at (entries_of b) (2 + n)
unfolding entries_of
middle_same a b n same lt =
    middle (elements_of a) n lt ∙ ap (λ (x : List Element). get_or (map entry_of x) n (Absent 0)) same ∙ sym (middle (elements_of b) n lt)

pub same_entries : (a b : Item) (n : ℕ) → SameElements a b → 2 ≤ n → n < 21 → entry_at (entries_of a) n ≡ entry_at (entries_of b) n
same_entries a b zero same from below = absurd (omega arith)
same_entries a b (suc zero) same from below = absurd (omega arith)
same_entries a b (suc (suc n)) same from below =
    subst (λ (m : ℕ). entry_at (entries_of a) m ≡ entry_at (entries_of b) m) (let e : 2 + n ≡ suc (suc n) = omega arith in e) (middle_same a b n same (omega arith))

pub same_sources : (a b : Item) (n : ℕ) → SameElements a b → n < 21
    → source_at (binding_of (entries_of a)) n ≡ source_at (binding_of (entries_of b)) n
same_sources a b n same below =
    by_entry (entries_of a) n (omega arith)
    ∙ elim (cases_lt n 2) [
      | inl low ↦ first_two (entries_of a) n low ∙ sym (first_two (entries_of b) n low)
      | inr from ↦
          from_two (entries_of a) n from ∙ ap source_of (same_entries a b n same from below) ∙ sym (from_two (entries_of b) n from)
    ]
    ∙ sym (by_entry (entries_of b) n (omega arith))

same_two : (es : List Element) → length es ≡ 21 → take 19 (drop 2 (raised_elements es)) ≡ take 19 (drop 2 es)
same_two [] all = absurd (omega arith)
same_two (a ∷ []) all = absurd (omega arith)
same_two (a ∷ b ∷ rest) all = take-append-le 19 rest (no_number ∷ no_number ∷ []) (omega (arith, all))

pub raised_alike : (c : Item) → IsCpc c → SameElements (raised c) c
raised_alike (item.Element e) h = absurd h
raised_alike (item.Package len es) h = elim h.0 [
  | inl two ↦ ap (λ (c : Item). take 19 (drop 2 (elements_of c))) (raised_two len es two) ∙ same_two es two
  | inr three ↦ ap (λ (c : Item). take 19 (drop 2 (elements_of c))) (raised_three len es three)
]

-- ---- tests of registers, by their addresses

by_gas : {F : Type 0} (test : ℕ → Option Gas → Option F) (n : ℕ) (entries : List Entry)
    → first_from (λ n e. test n (gas_of e)) n entries ≡ first_from test n (map gas_of entries)
by_gas test n [] = refl
by_gas test n (e ∷ es) = ap (or_else (test n (gas_of e))) (by_gas test (n + 1) es)

abbrev no_gas : List (Option Gas)
no_gas = None ∷ None ∷ []

-- addresses that are not there add nothing
none_last : {F : Type 0} (test : ℕ → Option Gas → Option F) (n : ℕ) (gases : List (Option Gas)) → ((n : ℕ) → test n None ≡ None)
    → first_from test n (gases ++ no_gas) ≡ first_from test n gases
none_last test n [] none = rw (none n, none (n + 1)) refl
none_last test n (g ∷ gs) none = ap (or_else (test n g)) (none_last test (n + 1) gs none)

-- tests that agree up to a number find the same before it
same_first : {F : Type 0} (one other : ℕ → Option Gas → Option F) (n most : ℕ) (gases : List (Option Gas)) → n + length gases ≤ most
    → ((n : ℕ) (g : Option Gas) → n < most → one n g ≡ other n g) → first_from one n gases ≡ first_from other n gases
same_first one other n most [] le same = refl
same_first one other n most (g ∷ gs) le same =
    ap (λ (o : Option _). or_else o (first_from one (n + 1) gs)) (same n g (omega arith))
    ∙ ap (or_else (other n g)) (same_first one other (n + 1) most gs (omega arith) same)

-- entries whose addresses are those of others, with two more that have none
pub record Longer (longer entries : List Entry) : Type 0 where
  pub gases : map gas_of longer ≡ map gas_of entries ++ no_gas

first_longer : {F : Type 0} (test : ℕ → Option Gas → Option F) (longer entries : List Entry) → ((n : ℕ) → test n None ≡ None) → Longer longer entries
    → first_from (λ n e. test n (gas_of e)) 0 longer ≡ first_from (λ n e. test n (gas_of e)) 0 entries
first_longer test longer entries none h =
    by_gas test 0 longer ∙ ap (first_from test 0) h.gases ∙ none_last test 0 (map gas_of entries) none ∙ sym (by_gas test 0 entries)

same_subspace : (longer entries : List Entry) → Longer longer entries → first_subspace longer ≡ first_subspace entries
unfolding first_subspace
same_subspace longer entries h = first_longer access_test longer entries (λ n. refl) h

same_sharing : (field : Field) (longer entries : List Entry) (n : ℕ) → n ≤ length entries → Longer longer entries
    → first_sharing field (take n longer) ≡ first_sharing field (take n entries)
unfolding first_sharing
same_sharing field longer entries n le h =
    by_gas (share_test field) 0 (take n longer)
    ∙ ap (first_from (share_test field) 0) (sym (take-map gas_of n longer) ∙ ap (take n) h.gases
    ∙ take-append-le n (map gas_of entries) no_gas (omega (arith, le, length-map entries gas_of)) ∙ take-map gas_of n entries)
    ∙ sym (by_gas (share_test field) 0 (take n entries))

same_test : (longer entries : List Entry) (len n : ℕ) (gas : Option Gas) → n ≤ length entries → Longer longer entries
    → register_test longer len n gas ≡ register_test entries len n gas
same_test longer entries len n None le h = refl
same_test longer entries len n (Some gas) le h = rw (same_subspace longer entries h, same_sharing (field_of gas) longer entries n le h) refl

same_registers : (longer entries : List Entry) (len : ℕ) → Longer longer entries → registers_fault longer len ≡ registers_fault entries len
unfolding registers_fault
same_registers longer entries len h =
    first_longer (register_test longer len) longer entries (λ n. refl) h
    ∙ by_gas (register_test longer len) 0 entries
    ∙ same_first (register_test longer len) (register_test entries len) 0 (length entries) (map gas_of entries) (omega (arith, length-map entries gas_of))
    (λ n g lt. same_test longer entries len n g (omega arith) h)
    ∙ sym (by_gas (register_test entries len) 0 entries)

-- ---- a package and the one that it is raised to

integer_gas : (count n : ℕ) (e : Element) → IsOfRole count role.Count e ⊎ IsOfRole count role.Revision e → gas_of (entry_of e) ≡ None
integer_gas count n (element.Int int) h = refl
integer_gas count n (element.Buffer buffer) h = elim h [
  | inl wrong ↦ absurd wrong
  | inr wrong ↦ absurd wrong
]

longer_two : (es : List Element) → length es ≡ 21 → AllFrom (length es) 0 es → Longer (map entry_of (raised_elements es)) (map entry_of es)
unfolding role_of
longer_two [] all h = absurd (omega arith)
longer_two (a ∷ []) all h = absurd (omega arith)
longer_two (a ∷ b ∷ rest) all h = record {
  gases =
      ap (λ (x : List (Option Gas)). None ∷ None ∷ x) (ap (map gas_of) (map-append entry_of rest (no_number ∷ no_number ∷ []))
      ∙ map-append gas_of (map entry_of rest) (map entry_of (no_number ∷ no_number ∷ [])))
      ∙ ap (λ (g : Option Gas). g ∷ None ∷ map gas_of (map entry_of rest) ++ no_gas) (sym (integer_gas (length (a ∷ b ∷ rest)) 0 a (inl h.0)))
      ∙ ap (λ (g : Option Gas). gas_of (entry_of a) ∷ g ∷ map gas_of (map entry_of rest) ++ no_gas) (sym (integer_gas (length (a ∷ b ∷ rest)) 1 b (inr h.1.0)));
}

-- what depends on the addresses and on entries 2 to 20 alone is the same
raised_longer : (c : Item) → IsCpc c → (Longer (entries_of (raised c)) (entries_of c)) ⊎ (raised c ≡ c)
unfolding entries_of
raised_longer (item.Element e) h = absurd h
raised_longer (item.Package len es) h = elim h.0 [
  | inl two ↦ inl (subst (λ (c : Item). Longer (map entry_of (elements_of c)) (map entry_of es)) (sym (raised_two len es two)) (longer_two es two h.1))
  | inr three ↦ inr (raised_three len es three)
]

pub raised_subspace : (c : Item) → IsCpc c → (binding_of (entries_of (raised c))).subspace ≡ (binding_of (entries_of c)).subspace
unfolding binding_of
raised_subspace c h = elim (raised_longer c h) [
  | inl longer ↦ ap (λ (o : Option ℕ). unwrap_or o 0) (same_subspace (entries_of (raised c)) (entries_of c) longer)
  | inr same ↦ ap (λ (c : Item). unwrap_or (first_subspace (entries_of c)) 0) same
]

raised_registers : (c : Item) (len : ℕ) → IsCpc c → registers_fault (entries_of (raised c)) len ≡ registers_fault (entries_of c) len
raised_registers c len h = elim (raised_longer c h) [
  | inl longer ↦ same_registers (entries_of (raised c)) (entries_of c) len longer
  | inr same ↦ ap (λ (c : Item). registers_fault (entries_of c) len) same
]

pub raised_fault : (c : Item) (len : ℕ) → IsCpc c → bind_fault (entries_of (raised c)) len ≡ bind_fault (entries_of c) len
unfolding bind_fault
raised_fault c len h =
    let entry : (n : ℕ) → 2 ≤ n → n < 21 → entry_at (entries_of (raised c)) n ≡ entry_at (entries_of c) n =
    λ n from below. same_entries (raised c) c n (raised_alike c h) from below in
    rw (raised_registers c len h, entry 7 (omega arith) (omega arith), entry 5 (omega arith) (omega arith), entry 3 (omega arith) (omega arith), entry 2 (omega arith) (omega arith)) refl
