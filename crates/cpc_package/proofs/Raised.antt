-- A raised package is one of revision 3 that says the same.
use Rattle.std.proofs.Common.{◌≡◌, inl, inr, ℕ, zero, suc, ◌+◌, ◌*◌, ◌^◌, ◌<◌, ◌≤◌, List, [], ◌∷◌, ◌++◌, length, drop, get_or, map, refl, sym, ap, ◌∙◌, subst, arith, lit<}
use Rattle.std.specs.Prelude.{slice_index_or}
use Rattle.std.specs.List.{flat_map, AllByRecursion}
use Rattle.std.proofs.lemmas.Bool.{eq-eqb, ne_eqb}
use Rattle.std.proofs.lemmas.List.{length-append, length-map}
use Rattle.std.proofs.lemmas.Grind.{flat_map-append}
use Rattle.std.proofs.lemmas.List.Concat.{flat_map-cons}
use Rattle.aml_pkg.specs.declared.item.Form.{Form}
use Rattle.aml_pkg.specs.declared.item.Form.TheVariants.{Zero, One, Ones, Byte, Word, Dword, Qword}
use Rattle.aml_pkg.specs.declared.item.Int.{Int}
use Rattle.aml_pkg.specs.declared.item.Len.{Len}
use Rattle.aml_pkg.specs.declared.item.Buffer.{Buffer}
use Rattle.aml_pkg.specs.declared.item.Element.{Element}
use Rattle.aml_pkg.specs.declared.item.Element.TheVariants as element
use Rattle.aml_pkg.specs.declared.item.Item.{Item}
use Rattle.aml_pkg.specs.declared.item.Item.TheVariants as item
use Rattle.aml_pkg.specs.Spelling.{IsElement, IsItem, IsPackage, IsBuffer, buffer_body, element_bytes, int_bytes, len_limit, package_body, size_of}
use Rattle.aml_pkg.proofs.Written.{length_int, length_buffer, limit_small}
use Rattle.cpc_package.specs.declared.rows.Role.{Role}
use Rattle.cpc_package.specs.declared.rows.Role.TheVariants as role
use Rattle.cpc_package.specs.Entries.{elements_of, entries_of, entry_of}
use Rattle.cpc_package.specs.Rows.{EntryRow, entry_rows, role_of, row}
use Rattle.cpc_package.specs.Packages.{AllFrom, IsCpc, IsOfRole}
use Rattle.cpc_package.specs.Raising.{byte_of, counted_again, no_number, raised, raised_elements}

-- ---- how many bytes the elements of a package have

size_most : (f : Form) → size_of f ≤ 8
size_most Zero = omega arith
size_most One = omega arith
size_most Ones = omega arith
size_most Byte = omega arith
size_most Word = omega arith
size_most Dword = omega arith
size_most Qword = omega arith

-- at most: a first byte, a length of four bytes, an integer of nine, and the bytes of a register
int_most : (i : Int) → length (int_bytes i) ≤ 31
int_most i = omega (arith, length_int i, size_most i.form)

buffer_most : (b : Buffer) → IsBuffer b → length b.bytes ≡ 17 → length (element_bytes (element.Buffer b)) ≤ 31
buffer_most b h all =
    let whole : b.len.value ≡ 1 + b.len.follow + length (buffer_body b) = h.counts.whole in
    let few : b.len.follow ≤ 3 = h.counts.is.few in
    omega (arith, whole, few, all, length_buffer b h, length-append (int_bytes b.size) b.bytes, length_int b.size, size_most b.size.form)

element_most : (count : ℕ) (r : Role) (e : Element) → IsOfRole count r e → IsElement e → length (element_bytes e) ≤ 31
element_most count r (element.Int i) h is = int_most i
element_most count role.Count (element.Buffer b) h is = absurd h
element_most count role.Revision (element.Buffer b) h is = absurd h
element_most count role.Either (element.Buffer b) h is = buffer_most b is h.spelled.len
element_most count role.Register (element.Buffer b) h is = buffer_most b is h.spelled.len

length_more : (e : Element) (es : List Element) → length (flat_map element_bytes (e ∷ es)) ≡ length (element_bytes e) + length (flat_map element_bytes es)
length_more e es = ap length (flat_map-cons element_bytes e es) ∙ length-append (element_bytes e) (flat_map element_bytes es)

elements_most : (count n : ℕ) (es : List Element) → AllFrom count n es → AllByRecursion IsElement es
    → length (flat_map element_bytes es) ≤ 31 * length es
elements_most count n [] h is = omega arith
elements_most count n (e ∷ es) h is =
    let rest : length (flat_map element_bytes es) ≤ 31 * length es = elements_most count (n + 1) es h.1 is.1 in
    omega (arith, rest, length_more e es, element_most count (role_of n) e h.0 is.0)

none_least : (n : ℕ) → 0 ≤ n
none_least n = omega arith

-- at least: the bytes of a register, where an entry is one
abbrev least : Role → ℕ
least role.Count = 0
least role.Revision = 0
least role.Either = 0
least role.Register = 17

element_least : (count : ℕ) (r : Role) (e : Element) → IsOfRole count r e → IsElement e → least r ≤ length (element_bytes e)
element_least count role.Count e h is = none_least (length (element_bytes e))
element_least count role.Revision e h is = none_least (length (element_bytes e))
element_least count role.Either e h is = none_least (length (element_bytes e))
element_least count role.Register (element.Int i) h is = absurd h
element_least count role.Register (element.Buffer b) h is =
    let whole : b.len.value ≡ 1 + b.len.follow + length (buffer_body b) = is.counts.whole in
    let all : length b.bytes ≡ 17 = h.spelled.len in
    omega (arith, whole, all, length_buffer b is, length-append (int_bytes b.size) b.bytes)

abbrev least_of : ℕ → ℕ → ℕ
least_of n zero = 0
least_of n (suc k) = least (role_of n) + least_of (n + 1) k

elements_least : (count n : ℕ) (es : List Element) → AllFrom count n es → AllByRecursion IsElement es
    → least_of n (length es) ≤ length (flat_map element_bytes es)
elements_least count n [] h is = none_least 0
elements_least count n (e ∷ es) h is =
    let rest : least_of (n + 1) (length es) ≤ length (flat_map element_bytes es) = elements_least count (n + 1) es h.1 is.1 in
    omega (arith, rest, length_more e es, element_least count (role_of n) e h.0 is.0)

-- entries 2 to 20 have twelve registers
nineteen : least_of 2 19 ≡ 204
unfolding role_of
nineteen = refl

-- ---- the length of a raised package

abbrev two_numbers : List Element
two_numbers = no_number ∷ no_number ∷ []

length_raised : (a b : Element) (rest : List Element) → length (raised_elements (a ∷ b ∷ rest)) ≡ 4 + length rest
length_raised a b rest = omega (arith, length-append rest two_numbers)

body_parts : (a b : Element) (rest : List Element)
    → length (flat_map element_bytes (a ∷ b ∷ rest)) ≡ length (element_bytes a) + length (element_bytes b) + length (flat_map element_bytes rest)
body_parts a b rest = omega (arith, length_more a (b ∷ rest), length_more b rest)

body_raised : (a b : Element) (rest : List Element)
    → length (flat_map element_bytes (raised_elements (a ∷ b ∷ rest))) ≡ 6 + length (flat_map element_bytes rest)
body_raised a b rest =
    let parts = ap length (flat_map-append element_bytes rest two_numbers) ∙ length-append (flat_map element_bytes rest) (flat_map element_bytes two_numbers) in
    let zeros : length (flat_map element_bytes two_numbers) ≡ 2 = refl in
    omega (arith, parts, zeros, body_parts (byte_of 23) (byte_of 3) (rest ++ two_numbers), length_int (record { value = 23; form = Byte }), length_int (record { value = 3; form = Byte }))

pub package_small : (len : Len) (es : List Element) → IsPackage len es → len.value < 2 ^ 31
package_small len es h = limit_small len h.counts.is

-- the first two elements and the others
pub len_parts : (len : Len) (es : List Element) (d e : Element) → IsPackage len es → 2 < length es
    → 2 + len.follow + length (element_bytes (get_or es 0 d)) + length (element_bytes (get_or es 1 e)) ≤ len.value
len_parts len [] d e h two = absurd (omega arith)
len_parts len (a ∷ []) d e h two = absurd (omega arith)
len_parts len (a ∷ b ∷ rest) d e h two =
    let whole : len.value ≡ 1 + len.follow + suc (length (flat_map element_bytes (a ∷ b ∷ rest))) = h.counts.whole in
    omega (arith, whole, body_parts a b rest)

pub len_counted : (len : Len) (es : List Element) (d e : Element) → IsPackage len es → 2 < length es
    → 1 + len.follow + length (package_body (raised_elements es)) + (length (element_bytes (get_or es 0 d)) + length (element_bytes (get_or es 1 e))) ≡ len.value + 6
len_counted len [] d e h two = absurd (omega arith)
len_counted len (a ∷ []) d e h two = absurd (omega arith)
len_counted len (a ∷ b ∷ rest) d e h two =
    let whole : len.value ≡ 1 + len.follow + suc (length (flat_map element_bytes (a ∷ b ∷ rest))) = h.counts.whole in
    omega (arith, whole, body_parts a b rest, body_raised a b rest)

-- a length with bytes that follow holds every number that a raised package needs
limit_more : (f v w : ℕ) → f ≤ 3 → 64 ≤ v → v < len_limit f → w < 4096 → w < len_limit f
limit_more zero v w few some h small = absurd (omega arith)
limit_more (suc zero) v w few some h small = omega arith
limit_more (suc (suc zero)) v w few some h small = omega arith
limit_more (suc (suc (suc zero))) v w few some h small = omega arith
limit_more (suc (suc (suc (suc f)))) v w few some h small = absurd (omega arith)

each_append : {X : Type 0} (P : X → Type 0) (xs ys : List X) → AllByRecursion P xs → AllByRecursion P ys → AllByRecursion P (xs ++ ys)
each_append P [] ys h k = k
each_append P (x ∷ xs) ys h k = (h.0, each_append P xs ys h.1 k)

raised_package : (len : Len) (es : List Element) → length es ≡ 21 → IsPackage len es → AllFrom (length es) 0 es
    → IsPackage (counted_again len (raised_elements es)) (raised_elements es)
raised_package len [] all h right = absurd (omega arith)
raised_package len (a ∷ []) all h right = absurd (omega arith)
raised_package len (a ∷ b ∷ rest) all h right =
    let each : AllByRecursion IsElement rest = h.each.1.1 in
    let count : length rest ≡ 19 = omega (arith, all) in
    let from_two : AllFrom (length (a ∷ b ∷ rest)) 2 rest = right.1.1 in
    let most : length (flat_map element_bytes rest) ≤ 31 * length rest = elements_most (length (a ∷ b ∷ rest)) 2 rest from_two each in
    let some : 204 ≤ length (flat_map element_bytes rest) =
    subst (λ (n : ℕ). n ≤ length (flat_map element_bytes rest)) (ap (least_of 2) count ∙ nineteen) (elements_least (length (a ∷ b ∷ rest)) 2 rest from_two each) in
    let whole : len.value ≡ 1 + len.follow + suc (length (flat_map element_bytes (a ∷ b ∷ rest))) = h.counts.whole in
    let few : len.follow ≤ 3 = h.counts.is.few in
    let body = body_raised a b rest in
    record {
      few = omega (arith, length_raised a b rest, count);
      counts = record {
        is = record {
          few = few;
          fits = limit_more len.follow len.value _ few (omega (arith, whole, body_parts a b rest, some)) h.counts.is.fits (omega (arith, few, body, most, count));
        };
        whole = refl;
      };
      each = (lit< tt, (lit< tt, each_append IsElement rest two_numbers each (refl, (refl, tt))));
    }

-- ---- the two cases of a package

pub raised_two : (len : Len) (es : List Element) → length es ≡ 21
    → raised (item.Package len es) ≡ item.Package (counted_again len (raised_elements es)) (raised_elements es)
raised_two len es e = rw (eq-eqb (length es) 21 e) refl

pub raised_three : (len : Len) (es : List Element) → length es ≡ 23 → raised (item.Package len es) ≡ item.Package len es
raised_three len es e = rw (ne_eqb (length es) 21 (λ h. omega (arith, e, h))) refl

pub raised_is : (c : Item) → IsItem c → IsCpc c → IsItem (raised c)
raised_is (item.Element e) is h = absurd h
raised_is (item.Package len es) is h = elim h.0 [
  | inl two ↦ subst IsItem (sym (raised_two len es two)) (raised_package len es two is h.1)
  | inr three ↦ subst IsItem (sym (raised_three len es three)) is
]

-- ---- each entry is right in its place

-- a role of an entry that the number of entries doesn't change
abbrev IsFree : Role → Type 0
IsFree role.Count = ⊥
IsFree role.Revision = ⊥
IsFree role.Either = Unit {0}
IsFree role.Register = Unit {0}

row_free : (rows : List EntryRow) (n : ℕ) → AllByRecursion (λ r. IsFree r.role) rows → IsFree (slice_index_or rows n (row [] role.Register)).role
row_free [] n h = tt
row_free (r ∷ rows) zero h = h.0
row_free (r ∷ rows) (suc n) h = row_free rows n h.1

role_free : (n : ℕ) → 2 ≤ n → IsFree (role_of n)
unfolding role_of
role_free zero h = absurd (omega arith)
role_free (suc zero) h = absurd (omega arith)
role_free (suc (suc n)) h = row_free (drop 2 entry_rows) n (tt, (tt, (tt, (tt, (tt, (tt, (tt, (tt, (tt, (tt, (tt, (tt, (tt, (tt, (tt, (tt, (tt, (tt, (tt, (tt, (tt, tt)))))))))))))))))))))

free_role : (count other : ℕ) (r : Role) (e : Element) → IsFree r → IsOfRole count r e → IsOfRole other r e
free_role count other role.Count e free h = absurd free
free_role count other role.Revision e free h = absurd free
free_role count other role.Either (element.Int i) free h = tt
free_role count other role.Either (element.Buffer b) free h = h
free_role count other role.Register (element.Int i) free h = absurd h
free_role count other role.Register (element.Buffer b) free h = h

free_all : (count other n : ℕ) (es : List Element) → 2 ≤ n → AllFrom count n es → AllFrom other n es
free_all count other n [] le h = tt
free_all count other n (e ∷ es) le h = (free_role count other (role_of n) e (role_free n le) h.0, free_all count other (n + 1) es (omega arith) h.1)

all_append : (count n m : ℕ) (xs ys : List Element) → n + length xs ≡ m → AllFrom count n xs → AllFrom count m ys → AllFrom count n (xs ++ ys)
all_append count n m [] ys e h k = subst (λ (j : ℕ). AllFrom count j ys) (let same : m ≡ n = omega (arith, e) in same) k
all_append count n m (x ∷ xs) ys e h k = (h.0, all_append count (n + 1) m xs ys (omega (arith, e)) h.1 k)

last_two : AllFrom 23 21 two_numbers
unfolding role_of
last_two = (tt, (tt, tt))

first_two : (rest : List Element) → AllFrom 23 2 rest → AllFrom 23 0 (byte_of 23 ∷ byte_of 3 ∷ rest)
unfolding role_of
first_two rest h = (refl, (refl, h))

raised_right : (es : List Element) → length es ≡ 21 → AllFrom (length es) 0 es → AllFrom 23 0 (raised_elements es)
raised_right [] all h = absurd (omega arith)
raised_right (a ∷ []) all h = absurd (omega arith)
raised_right (a ∷ b ∷ rest) all h =
    first_two (rest ++ two_numbers) (all_append 23 2 21 rest two_numbers (omega (arith, all)) (free_all (length (a ∷ b ∷ rest)) 23 2 rest (omega arith) h.1.1) last_two)

raised_count : (es : List Element) → length es ≡ 21 → length (raised_elements es) ≡ 23
raised_count [] all = absurd (omega arith)
raised_count (a ∷ []) all = absurd (omega arith)
raised_count (a ∷ b ∷ rest) all = omega (arith, length_raised a b rest, all)

pub raised_cpc : (c : Item) → IsCpc c → IsCpc (raised c)
raised_cpc (item.Element e) h = absurd h
raised_cpc (item.Package len es) h = elim h.0 [
  | inl two ↦
      let count = raised_count es two in
      subst IsCpc (sym (raised_two len es two)) (inr count, subst (λ (n : ℕ). AllFrom n 0 (raised_elements es)) (sym count) (raised_right es two h.1))
  | inr three ↦ subst IsCpc (sym (raised_three len es three)) h
]

pub raised_whole : (c : Item) → IsCpc c → length (entries_of (raised c)) ≡ 23
unfolding entries_of
raised_whole (item.Element e) h = absurd h
raised_whole (item.Package len es) h = elim h.0 [
  | inl two ↦ ap (λ (c : Item). length (map entry_of (elements_of c))) (raised_two len es two) ∙ length-map (raised_elements es) entry_of ∙ raised_count es two
  | inr three ↦ ap (λ (c : Item). length (map entry_of (elements_of c))) (raised_three len es three) ∙ length-map es entry_of ∙ three
]

pub raised_same : (c : Item) → length (entries_of c) ≡ 23 → raised c ≡ c
unfolding entries_of
raised_same (item.Element e) h = refl
raised_same (item.Package len es) h = raised_three len es (sym (length-map es entry_of) ∙ h)
