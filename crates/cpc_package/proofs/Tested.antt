-- The tests of an item say what is wrong first.
use Rattle.std.proofs.Common.{◌≡◌, inl, inr, ℕ, suc, ◌+◌, ◌%◌, ◌^◌, ◌<◌, ◌≤◌, Bool, true, false, cond, eqb, List, [], ◌∷◌, ◌++◌, length, get_or, drop, take, Option, Some, None, refl, sym, ap, ◌∙◌, subst, arith}
use Rattle.std.specs.Prelude.{◌&&◌, ◌||◌, slice_index, sum, bytes_eq}
use Rattle.std.specs.List.{flat_map}
use Rattle.std.proofs.lemmas.Bool.{eqb-true, eqb-false, eq-eqb, ne_eqb}
use Rattle.std.proofs.lemmas.Slice.Eq.{bytes_eq-Decides}
use Rattle.std.proofs.lemmas.List.{length-append, length-take, length-drop, drop_more, drop_all}
use Rattle.std.proofs.lemmas.List.Concat.{flat_map-cons}
use Rattle.aml_pkg.specs.declared.item.Len.{Len}
use Rattle.aml_pkg.specs.declared.item.Int.{Int}
use Rattle.aml_pkg.specs.declared.item.Buffer.{Buffer}
use Rattle.aml_pkg.specs.declared.item.Element.{Element}
use Rattle.aml_pkg.specs.declared.item.Element.TheVariants as element
use Rattle.aml_pkg.specs.declared.item.Item.{Item}
use Rattle.aml_pkg.specs.declared.item.Item.TheVariants as item
use Rattle.aml_pkg.specs.Spelling.{element_bytes, IsPackage}
use Rattle.aml_pkg.proofs.Written.{limit_small}
use Rattle.cpc_package.specs.declared.rows.Role.{Role}
use Rattle.cpc_package.specs.declared.rows.Role.TheVariants as role
use Rattle.cpc_package.specs.declared.fault.CpcKind.{CpcKind}
use Rattle.cpc_package.specs.declared.fault.CpcKind.TheVariants.{NotInteger, WrongCount, WrongRevision, NotRegister, BadDescriptor, BadEndTag, BadChecksum, EntryCount}
use Rattle.cpc_package.specs.declared.fault.CpcFault.{CpcFault}
use Rattle.cpc_package.specs.Rows.{role_of}
use Rattle.cpc_package.specs.Entries.{register_in}
use Rattle.cpc_package.specs.Packages.{Agrees, AllFrom, EntryWrong, CountBuffer, RevisionBuffer, OtherCount, OtherRevision, NoRegister, InRegister, InEither, IsCount, IsCpc, IsOfRole, IsRegister, IsSized, PackageWrong, NoPackage, OtherEntries, InEntry, RegisterWrong, InSize, InDescriptor, InEndTag, InChecksum, descriptor, revision_of}
use Rattle.cpc_package.specs.Testing.{entries_fault, entry_kind, found_at, is_count, item_fault, register_kind}
use Rattle.cpc_package.proofs.Sizes.{count_most}

-- ---- steps of the loop

pub entries_hit : (count i at : ℕ) (es : List Element) (e : Element) (k : CpcKind) → i < length es → e ≡ get_or es i e → entry_kind count (role_of i) e ≡ Some k
    → entries_fault count i at (drop i es) ≡ Some (record { entry = i; at = at; kind = k })
entries_hit count i at es e k lt is h =
    ap (entries_fault count i at) (drop_more es i e lt) ∙ ap (λ (x : Element). entries_fault count i at (x ∷ drop (i + 1) es)) (sym is)
    ∙ ap (λ (o : Option CpcKind). found_at o i at (entries_fault count (i + 1) (at + length (element_bytes e)) (drop (i + 1) es))) h

pub entries_more : (count i at : ℕ) (es : List Element) (e : Element) → i < length es → e ≡ get_or es i e → entry_kind count (role_of i) e ≡ None
    → entries_fault count i at (drop i es) ≡ entries_fault count (i + 1) (at + length (element_bytes e)) (drop (i + 1) es)
entries_more count i at es e lt is h =
    ap (entries_fault count i at) (drop_more es i e lt) ∙ ap (λ (x : Element). entries_fault count i at (x ∷ drop (i + 1) es)) (sym is)
    ∙ ap (λ (o : Option CpcKind). found_at o i at (entries_fault count (i + 1) (at + length (element_bytes e)) (drop (i + 1) es))) h

pub entries_end : (count i at : ℕ) (es : List Element) → length es ≤ i → entries_fault count i at (drop i es) ≡ None
entries_end count i at es le = ap (entries_fault count i at) (drop_all i es le)

pub room_more : (i : ℕ) (es : List Element) (e : Element) → i < length es → e ≡ get_or es i e
    → length (flat_map element_bytes (drop i es)) ≡ length (element_bytes e) + length (flat_map element_bytes (drop (i + 1) es))
room_more i es e lt is =
    ap (λ (x : List Element). length (flat_map element_bytes x)) (drop_more es i e lt ∙ ap (λ (x : Element). x ∷ drop (i + 1) es) (sym is))
    ∙ ap length (flat_map-cons element_bytes e (drop (i + 1) es)) ∙ length-append (element_bytes e) (flat_map element_bytes (drop (i + 1) es))

-- no place in a package passes 32 bits
pub package_room : (l : Len) (es : List Element) → IsPackage l es → 3 + l.follow + length (flat_map element_bytes es) < 2 ^ 32
package_room l es h =
    let small : l.value < 2 ^ 31 = limit_small l h.counts.is in
    let whole : l.value ≡ 1 + l.follow + suc (length (flat_map element_bytes es)) = h.counts.whole in
    omega arith

-- ---- one entry

-- what a test decides
pub data Decided (P : Type 0) : Bool → Type 0 where
  Holds : P → Decided P true
  Breaks : (P → ⊥) → Decided P false

number_test : (m n : ℕ) (b : Bool) → b ≡ eqb m n → Decided (m ≡ n) b
number_test m n true e = Holds (eqb-true m n (sym e))
number_test m n false e = Breaks (eqb-false m n (sym e))

number_decides : (m n : ℕ) → Decided (m ≡ n) (eqb m n)
number_decides m n = number_test m n (eqb m n) refl

sized_test : (b : Buffer) (s t : Bool) → s ≡ eqb b.size.value 17 → t ≡ eqb (length b.bytes) 17 → Decided (IsSized b) (s && t)
sized_test b true true e d = Holds (record { size = eqb-true _ _ (sym e); len = eqb-true _ _ (sym d) })
sized_test b true false e d = Breaks (λ h. eqb-false (length b.bytes) 17 (sym d) h.len)
sized_test b false t e d = Breaks (λ h. eqb-false b.size.value 17 (sym e) h.size)

sized_decides : (b : Buffer) → Decided (IsSized b) (eqb b.size.value 17 && eqb (length b.bytes) 17)
sized_decides b = sized_test b _ _ refl refl

descriptor_test : (xs : List ℕ) (b : Bool) → b ≡ bytes_eq descriptor xs → Decided (xs ≡ descriptor) b
descriptor_test xs true e = Holds (sym ((bytes_eq-Decides descriptor xs).0 (sym e)))
descriptor_test xs false e = Breaks (λ h. let t : bytes_eq descriptor xs ≡ true = (bytes_eq-Decides descriptor xs).1 (sym h) in absurd cc)

descriptor_decides : (xs : List ℕ) → Decided (xs ≡ descriptor) (bytes_eq descriptor xs)
descriptor_decides xs = descriptor_test xs _ refl

agrees_test : (bytes : List ℕ) (s t : Bool) → s ≡ eqb (slice_index bytes 16) 0 → t ≡ eqb (sum bytes % 256) 0 → Decided (Agrees bytes) (s || t)
agrees_test bytes true t e d = Holds (inl (eqb-true _ _ (sym e)))
agrees_test bytes false true e d = Holds (inr (eqb-true _ _ (sym d)))
agrees_test bytes false false e d = Breaks (λ h. elim h [
  | inl z ↦ eqb-false (slice_index bytes 16) 0 (sym e) z
  | inr z ↦ eqb-false (sum bytes % 256) 0 (sym d) z
])

agrees_decides : (bytes : List ℕ) → Decided (Agrees bytes) (eqb (slice_index bytes 16) 0 || eqb (sum bytes % 256) 0)
agrees_decides bytes = agrees_test bytes _ _ refl refl

-- a register by its tests
register_right : (b : Buffer) → IsSized b → take 3 b.bytes ≡ descriptor → slice_index b.bytes 15 ≡ 0x79 → Agrees b.bytes → IsRegister b
unfolding register_in
register_right b s d t a = record {
  size = s.size;
  spelled = record {
    len = s.len;
    head = d;
    address = record { len = omega (arith, s.len, length-take 12 (drop 3 b.bytes), length-drop 3 b.bytes); parts = refl };
    end_tag = t;
    checksum = refl;
    agrees = a;
  };
}

-- the tests of a register: it is one, or one test is the first to fail
pub data RegisterOutcome (b : Buffer) : Option CpcKind → Type 0 where
  Right : IsRegister b → RegisterOutcome b None
  Wrong : (k : CpcKind) → RegisterWrong b k → RegisterOutcome b (Some k)

by_tests : (b : Buffer) (s d t a : Bool) → Decided (IsSized b) s → Decided (take 3 b.bytes ≡ descriptor) d
    → Decided (slice_index b.bytes 15 ≡ 0x79) t → Decided (Agrees b.bytes) a
    → RegisterOutcome b (cond s (cond d (cond t (cond a None (Some BadChecksum)) (Some BadEndTag)) (Some BadDescriptor)) (Some NotRegister))
by_tests b _ _ _ _ (Breaks s) d t a = Wrong NotRegister (InSize s)
by_tests b _ _ _ _ (Holds s) (Breaks d) t a = Wrong BadDescriptor (InDescriptor s d)
by_tests b _ _ _ _ (Holds s) (Holds d) (Breaks t) a = Wrong BadEndTag (InEndTag s d t)
by_tests b _ _ _ _ (Holds s) (Holds d) (Holds t) (Breaks a) = Wrong BadChecksum (InChecksum s d t a)
by_tests b _ _ _ _ (Holds s) (Holds d) (Holds t) (Holds a) = Right (register_right b s d t a)

register_outcome : (b : Buffer) → RegisterOutcome b (register_kind b)
register_outcome b = by_tests b _ _ _ _ (sized_decides b) (descriptor_decides (take 3 b.bytes)) (number_decides (slice_index b.bytes 15) 0x79) (agrees_decides b.bytes)

-- and back
holds : {P : Type 0} (b : Bool) → Decided P b → P → b ≡ true
holds _ (Holds p) q = refl
holds _ (Breaks n) q = absurd (n q)

breaks : {P : Type 0} (b : Bool) → Decided P b → (P → ⊥) → b ≡ false
breaks _ (Holds p) n = absurd (n p)
breaks _ (Breaks m) n = refl

agrees_by : (b : Buffer) → IsRegister b → Agrees b.bytes
unfolding register_in
agrees_by b h = h.spelled.agrees

register_passes : (b : Buffer) → IsRegister b → register_kind b ≡ None
register_passes b h =
    let sized : IsSized b = record { size = h.size; len = h.spelled.len } in
    rw (holds _ (sized_decides b) sized, holds _ (descriptor_decides (take 3 b.bytes)) h.spelled.head, eq-eqb _ _ h.spelled.end_tag, holds _ (agrees_decides b.bytes) (agrees_by b h)) refl

register_fails : (b : Buffer) (k : CpcKind) → RegisterWrong b k → register_kind b ≡ Some k
register_fails b k (InSize s) = rw (breaks _ (sized_decides b) s) refl
register_fails b k (InDescriptor s d) = rw (holds _ (sized_decides b) s, breaks _ (descriptor_decides (take 3 b.bytes)) d) refl
register_fails b k (InEndTag s d t) = rw (holds _ (sized_decides b) s, holds _ (descriptor_decides (take 3 b.bytes)) d, ne_eqb _ _ t) refl
register_fails b k (InChecksum s d t a) = rw (holds _ (sized_decides b) s, holds _ (descriptor_decides (take 3 b.bytes)) d, eq-eqb _ _ t, breaks _ (agrees_decides b.bytes) a) refl

-- the tests of an entry
pub data EntryOutcome (count : ℕ) (r : Role) (e : Element) : Option CpcKind → Type 0 where
  EntryRight : IsOfRole count r e → EntryOutcome count r e None
  EntryFaulty : (k : CpcKind) → EntryWrong count r e k → EntryOutcome count r e (Some k)

by_count : (count : ℕ) (i : Int) (t : Bool) → Decided (i.value ≡ count) t → EntryOutcome count role.Count (element.Int i) (cond t None (Some WrongCount))
by_count count i _ (Holds h) = EntryRight h
by_count count i _ (Breaks h) = EntryFaulty WrongCount (OtherCount i h)

by_revision : (count : ℕ) (i : Int) (t : Bool) → Decided (i.value ≡ revision_of count) t
    → EntryOutcome count role.Revision (element.Int i) (cond t None (Some WrongRevision))
by_revision count i _ (Holds h) = EntryRight h
by_revision count i _ (Breaks h) = EntryFaulty WrongRevision (OtherRevision i h)

by_either : (count : ℕ) (b : Buffer) (o : Option CpcKind) → RegisterOutcome b o → EntryOutcome count role.Either (element.Buffer b) o
by_either count b _ (Right h) = EntryRight h
by_either count b _ (Wrong k h) = EntryFaulty k (InEither b k h)

by_register : (count : ℕ) (b : Buffer) (o : Option CpcKind) → RegisterOutcome b o → EntryOutcome count role.Register (element.Buffer b) o
by_register count b _ (Right h) = EntryRight h
by_register count b _ (Wrong k h) = EntryFaulty k (InRegister b k h)

entry_outcome : (count : ℕ) (r : Role) (e : Element) → EntryOutcome count r e (entry_kind count r e)
entry_outcome count role.Count (element.Int i) = by_count count i _ (number_decides i.value count)
entry_outcome count role.Count (element.Buffer b) = EntryFaulty NotInteger (CountBuffer b)
entry_outcome count role.Revision (element.Int i) = by_revision count i _ (number_decides i.value (revision_of count))
entry_outcome count role.Revision (element.Buffer b) = EntryFaulty NotInteger (RevisionBuffer b)
entry_outcome count role.Either (element.Int i) = EntryRight tt
entry_outcome count role.Either (element.Buffer b) = by_either count b _ (register_outcome b)
entry_outcome count role.Register (element.Int i) = EntryFaulty NotRegister (NoRegister i)
entry_outcome count role.Register (element.Buffer b) = by_register count b _ (register_outcome b)

-- and back
entry_passes : (count : ℕ) (r : Role) (e : Element) → IsOfRole count r e → entry_kind count r e ≡ None
entry_passes count role.Count (element.Int i) h = rw (eq-eqb _ _ h) refl
entry_passes count role.Count (element.Buffer b) h = absurd h
entry_passes count role.Revision (element.Int i) h = rw (eq-eqb _ _ h) refl
entry_passes count role.Revision (element.Buffer b) h = absurd h
entry_passes count role.Either (element.Int i) h = refl
entry_passes count role.Either (element.Buffer b) h = register_passes b h
entry_passes count role.Register (element.Int i) h = absurd h
entry_passes count role.Register (element.Buffer b) h = register_passes b h

entry_fails : (count : ℕ) (r : Role) (e : Element) (k : CpcKind) → EntryWrong count r e k → entry_kind count r e ≡ Some k
entry_fails count r e k (CountBuffer b) = refl
entry_fails count r e k (RevisionBuffer b) = refl
entry_fails count r e k (OtherCount i h) = rw (ne_eqb i.value count h) refl
entry_fails count r e k (OtherRevision i h) = rw (ne_eqb i.value (revision_of count) h) refl
entry_fails count r e k (NoRegister i) = refl
entry_fails count r e k (InRegister b j h) = register_fails b j h
entry_fails count r e k (InEither b j h) = register_fails b j h

-- ---- all entries

entries_right : (count n at : ℕ) (es : List Element) → AllFrom count n es → entries_fault count n at es ≡ None
entries_right count n at [] h = refl
entries_right count n at (e ∷ es) h = rw (entry_passes count (role_of n) e h.0) (entries_right count (n + 1) (at + length (element_bytes e)) es h.1)

-- where the first fault of elements is
pub record Where (count n at : ℕ) (es : List Element) (f : CpcFault) : Type 0 where
  pub front : List Element
  pub e : Element
  pub rest : List Element
  pub k : CpcKind
  pub parts : es ≡ front ++ e ∷ rest
  pub right : AllFrom count n front
  pub wrong : EntryWrong count (role_of (n + length front)) e k
  pub is : f ≡ record { entry = n + length front; at = at + length (flat_map element_bytes front); kind = k }

pub data Outcome (count n at : ℕ) (es : List Element) : Option CpcFault → Type 0 where
  AllRight : AllFrom count n es → Outcome count n at es None
  Faulty : (f : CpcFault) → Where count n at es f → Outcome count n at es (Some f)

plus_none : (n : ℕ) → n ≡ n + 0
plus_none n = omega arith

here : (count n at : ℕ) (e : Element) (es : List Element) (k : CpcKind) → EntryWrong count (role_of n) e k
    → Where count n at (e ∷ es) (record { entry = n; at = at; kind = k })
here count n at e es k h = record {
  front = [];
  e = e;
  rest = es;
  k = k;
  parts = refl;
  right = tt;
  wrong = subst (λ (m : ℕ). EntryWrong count (role_of m) e k) (plus_none n) h;
  is = ap (λ (m : ℕ). record { entry = m; at = at; kind = k }) (plus_none n) ∙ ap (λ (m : ℕ). record { entry = n + 0; at = m; kind = k }) (plus_none at);
}

next_number : (n m : ℕ) → (n + 1) + m ≡ n + suc m
next_number n m = omega arith

next_place : (at : ℕ) (e : Element) (front : List Element)
    → (at + length (element_bytes e)) + length (flat_map element_bytes front) ≡ at + length (flat_map element_bytes (e ∷ front))
next_place at e front = let k = ap length (flat_map-cons element_bytes e front) ∙ length-append (element_bytes e) (flat_map element_bytes front) in omega arith

later : (count n at : ℕ) (e : Element) (es : List Element) (f : CpcFault) → IsOfRole count (role_of n) e
    → Where count (n + 1) (at + length (element_bytes e)) es f → Where count n at (e ∷ es) f
later count n at e es f h w = record {
  front = e ∷ w.front;
  e = w.e;
  rest = w.rest;
  k = w.k;
  parts = ap (λ (x : List Element). e ∷ x) w.parts;
  right = (h, w.right);
  wrong = subst (λ (m : ℕ). EntryWrong count (role_of m) w.e w.k) (next_number n (length w.front)) w.wrong;
  is = w.is ∙ ap (λ (m : ℕ). record { entry = m; at = (at + length (element_bytes e)) + length (flat_map element_bytes w.front); kind = w.k }) (next_number n (length w.front))
      ∙ ap (λ (m : ℕ). record { entry = n + suc (length w.front); at = m; kind = w.k }) (next_place at e w.front);
}

step : (count n at : ℕ) (e : Element) (es : List Element) (o : Option CpcFault) → IsOfRole count (role_of n) e
    → Outcome count (n + 1) (at + length (element_bytes e)) es o → Outcome count n at (e ∷ es) o
step count n at e es o h (AllRight r) = AllRight (h, r)
step count n at e es o h (Faulty f w) = Faulty f (later count n at e es f h w)

by_entry : (count n at : ℕ) (e : Element) (es : List Element) (o : Option CpcKind) (rest : Option CpcFault) → EntryOutcome count (role_of n) e o
    → Outcome count (n + 1) (at + length (element_bytes e)) es rest → Outcome count n at (e ∷ es) (found_at o n at rest)
by_entry count n at e es _ rest (EntryRight h) r = step count n at e es rest h r
by_entry count n at e es _ rest (EntryFaulty k h) r = Faulty (record { entry = n; at = at; kind = k }) (here count n at e es k h)

entries_outcome : (count n at : ℕ) (es : List Element) → Outcome count n at es (entries_fault count n at es)
entries_outcome count n at [] = AllRight tt
entries_outcome count n at (e ∷ es) = by_entry count n at e es _ _ (entry_outcome count (role_of n) e) (entries_outcome count (n + 1) (at + length (element_bytes e)) es)

-- and back
entries_at : (count n at : ℕ) (front : List Element) (e : Element) (rest : List Element) (k : CpcKind) → AllFrom count n front
    → EntryWrong count (role_of (n + length front)) e k
    → entries_fault count n at (front ++ e ∷ rest) ≡ Some (record { entry = n + length front; at = at + length (flat_map element_bytes front); kind = k })
entries_at count n at [] e rest k h w =
    ap (λ (o : Option CpcKind). found_at o n at (entries_fault count (n + 1) (at + length (element_bytes e)) rest)) (ap (λ (m : ℕ). entry_kind count (role_of m) e) (plus_none n) ∙ entry_fails count (role_of (n + 0)) e k w)
    ∙ ap (λ (m : ℕ). Some (record { entry = m; at = at; kind = k })) (plus_none n) ∙ ap (λ (m : ℕ). Some (record { entry = n + 0; at = m; kind = k })) (plus_none at)
entries_at count n at (x ∷ front) e rest k h w =
    let rec = entries_at count (n + 1) (at + length (element_bytes x)) front e rest k h.1 (subst (λ (m : ℕ). EntryWrong count (role_of m) e k) (sym (next_number n (length front))) w) in
    ap (λ (o : Option CpcKind). found_at o n at (entries_fault count (n + 1) (at + length (element_bytes x)) (front ++ e ∷ rest))) (entry_passes count (role_of n) x h.0)
    ∙ rec
    ∙ ap (λ (m : ℕ). Some (record { entry = m; at = (at + length (element_bytes x)) + length (flat_map element_bytes front); kind = k })) (next_number n (length front))
    ∙ ap (λ (m : ℕ). Some (record { entry = n + suc (length front); at = m; kind = k })) (next_place at x front)

-- ---- an item

count_test : (n : ℕ) (s t : Bool) → s ≡ eqb n 21 → t ≡ eqb n 23 → Decided (IsCount n) (s || t)
count_test n true t e d = Holds (inl (eqb-true n 21 (sym e)))
count_test n false true e d = Holds (inr (eqb-true n 23 (sym d)))
count_test n false false e d = Breaks (λ h. elim h [
  | inl is ↦ eqb-false n 21 (sym e) is
  | inr is ↦ eqb-false n 23 (sym d) is
])

count_decides : (n : ℕ) → Decided (IsCount n) (is_count n)
count_decides n = count_test n _ _ refl refl

count_by : (n : ℕ) (b : Bool) → Decided (IsCount n) b → b ≡ true → n ≤ 23
count_by n _ (Holds h) e = count_most n h
count_by n _ (Breaks h) e = absurd cc

-- a number of entries is one that a byte holds
pub tested_count : (n : ℕ) → is_count n ≡ true → n ≤ 23
tested_count n e = count_by n _ (count_decides n) e

zero_plus : (n : ℕ) → 0 + n ≡ n
zero_plus n = omega arith

pub item_right : (c : Item) → IsCpc c → item_fault c ≡ None
item_right (item.Element e) h = absurd h
item_right (item.Package l es) h = rw (holds _ (count_decides (length es)) h.0) (entries_right (length es) 0 (3 + l.follow) es h.1)

pub item_wrong : (c : Item) (f : CpcFault) → PackageWrong c f → item_fault c ≡ Some f
item_wrong c f (NoPackage e) = refl
item_wrong c f (OtherEntries l es h) = rw (breaks _ (count_decides (length es)) h) refl
item_wrong c f (InEntry l es front rest e k count parts right wrong) =
    let moved : EntryWrong (length es) (role_of (0 + length front)) e k = subst (λ (m : ℕ). EntryWrong (length es) (role_of m) e k) (sym (zero_plus (length front))) wrong in
    rw (holds _ (count_decides (length es)) count) (ap (entries_fault (length es) 0 (3 + l.follow)) parts ∙ entries_at (length es) 0 (3 + l.follow) front e rest k right moved
    ∙ ap (λ (m : ℕ). Some (record { entry = m; at = 3 + l.follow + length (flat_map element_bytes front); kind = k })) (zero_plus (length front)))

-- what the tests of an item say
pub data ItemOutcome (c : Item) : Option CpcFault → Type 0 where
  IsRight : IsCpc c → ItemOutcome c None
  IsWrong : (f : CpcFault) → PackageWrong c f → ItemOutcome c (Some f)

by_entries : (l : Len) (es : List Element) (o : Option CpcFault) → IsCount (length es) → Outcome (length es) 0 (3 + l.follow) es o
    → ItemOutcome (item.Package l es) o
by_entries l es o count (AllRight h) = IsRight (count, h)
by_entries l es o count (Faulty f w) =
    let is : f ≡ record { entry = length w.front; at = 3 + l.follow + length (flat_map element_bytes w.front); kind = w.k } =
    w.is ∙ ap (λ (m : ℕ). record { entry = m; at = 3 + l.follow + length (flat_map element_bytes w.front); kind = w.k }) (zero_plus (length w.front)) in
    let wrong : EntryWrong (length es) (role_of (length w.front)) w.e w.k = subst (λ (m : ℕ). EntryWrong (length es) (role_of m) w.e w.k) (zero_plus (length w.front)) w.wrong in
    IsWrong f (subst (λ (g : CpcFault). PackageWrong (item.Package l es) g) (sym is) (InEntry l es w.front w.rest w.e w.k count w.parts w.right wrong))

by_number : (l : Len) (es : List Element) (t : Bool) → Decided (IsCount (length es)) t
    → ItemOutcome (item.Package l es) (cond t (entries_fault (length es) 0 (3 + l.follow) es) (Some (record { entry = 0; at = 2 + l.follow; kind = EntryCount })))
by_number l es _ (Holds h) = by_entries l es _ h (entries_outcome (length es) 0 (3 + l.follow) es)
by_number l es _ (Breaks h) = IsWrong _ (OtherEntries l es h)

pub item_outcome : (c : Item) → ItemOutcome c (item_fault c)
item_outcome (item.Element e) = IsWrong _ (NoPackage e)
item_outcome (item.Package l es) = by_number l es _ (count_decides (length es))
