-- The buffers of a package have the bytes of a register.
use Rattle.std.proofs.Common.{◌≡◌, inl, inr, ℕ, ◌+◌, ◌<◌, ◌≤◌, List, [], ◌∷◌, length, get_or, map, All, sym, ap, ◌∙◌, subst, arith}
use Rattle.std.specs.List.{AllByRecursion}
use Rattle.std.proofs.lemmas.List.{get_or-map, length-map}
use Rattle.std.proofs.lemmas.List.Elements.{All-from_recursion}
use Rattle.aml_pkg.specs.declared.item.Len.{Len}
use Rattle.aml_pkg.specs.declared.item.Element.{Element}
use Rattle.aml_pkg.specs.declared.item.Element.TheVariants as element
use Rattle.aml_pkg.specs.declared.item.Item.{Item}
use Rattle.aml_pkg.specs.declared.item.Item.TheVariants as item
use Rattle.cpc_package.specs.declared.rows.Role.{Role}
use Rattle.cpc_package.specs.declared.rows.Role.TheVariants as role
use Rattle.cpc_package.specs.declared.entry.Entry.TheVariants.{Absent}
use Rattle.cpc_package.specs.Rows.{role_of}
use Rattle.cpc_package.specs.Entries.{elements_of, entries_of, entry_at, entry_of}
use Rattle.cpc_package.specs.Packages.{AllFrom, HasSeventeen, IsCount, IsCpc, IsOfRole}

sized : (count : ℕ) (r : Role) (e : Element) → IsOfRole count r e → HasSeventeen e
sized count r (element.Int int) h = tt
sized count role.Count (element.Buffer buffer) h = absurd h
sized count role.Revision (element.Buffer buffer) h = absurd h
sized count role.Register (element.Buffer buffer) h = h.spelled.len
sized count role.Either (element.Buffer buffer) h = h.spelled.len

each_sized : (count n : ℕ) (es : List Element) → AllFrom count n es → AllByRecursion HasSeventeen es
each_sized count n [] h = tt
each_sized count n (e ∷ es) h = (sized count (role_of n) e h.0, each_sized count (n + 1) es h.1)

pub item_sized : (c : Item) (l : Len) (es xs : List Element) → c ≡ item.Package l es → xs ≡ es → IsCpc c → All HasSeventeen xs
item_sized c l es xs e same h =
    let right : IsCpc (item.Package l es) = subst IsCpc e h in
    subst (All HasSeventeen) (sym same) (All-from_recursion HasSeventeen es (each_sized (length es) 0 es right.1))

pub item_count : (c : Item) (l : Len) (es xs : List Element) → c ≡ item.Package l es → xs ≡ es → IsCpc c → IsCount (length xs)
item_count c l es xs e same h =
    let right : IsCpc (item.Package l es) = subst IsCpc e h in
    subst (λ (ys : List Element). IsCount (length ys)) (sym same) right.0

-- a package has 21 to 23 entries
pub count_most : (n : ℕ) → IsCount n → n ≤ 23
count_most n (inl e) = omega (arith, e)
count_most n (inr e) = omega (arith, e)

pub count_least : (n : ℕ) → IsCount n → 21 ≤ n
count_least n (inl e) = omega (arith, e)
count_least n (inr e) = omega (arith, e)

pub entries_count : (c : Item) → IsCpc c → IsCount (length (entries_of c))
unfolding entries_of
entries_count (item.Element e) h = absurd h
entries_count (item.Package l es) h = subst IsCount (sym (length-map es entry_of)) h.0

pub entries_least : (c : Item) → IsCpc c → 21 ≤ length (entries_of c)
entries_least c h = count_least (length (entries_of c)) (entries_count c h)

pub entries_length : (c : Item) (es : List Element) → es ≡ elements_of c → length (entries_of c) ≡ length es
unfolding entries_of
entries_length c es e = length-map (elements_of c) entry_of ∙ ap length (sym e)

pub entry_read : (c : Item) (es : List Element) (n : ℕ) (d : Element) → es ≡ elements_of c → n < length es
    → entry_of (get_or es n d) ≡ entry_at (entries_of c) n
unfolding entries_of
entry_read c es n d e lt =
    sym (get_or-map entry_of es n d (Absent 0) lt) ∙ ap (λ (xs : List Element). get_or (map entry_of xs) n (Absent 0)) e
