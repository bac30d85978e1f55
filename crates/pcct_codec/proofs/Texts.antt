-- The tables that have a text are those that some bytes spell.
use Rattle.std.proofs.Common.{◌≡◌, ◌⊎◌, ℕ, ◌+◌, ◌*◌, ◌<◌, ◌≤◌, All, List, [], ◌∷◌, ◌++◌, length, take, drop, refl, sym, ap, ◌∙◌, subst, arith, lit<}
use Rattle.std.specs.Prelude.{◌%◌, codes, sum, Some}
use Rattle.std.specs.List.{AllByRecursion, flat_map}
use Rattle.std.proofs.lemmas.List.{length-append, take_at, drop_at}
use Rattle.std.proofs.lemmas.List.Elements.{All-from_recursion}
use Rattle.pcc_bytes.specs.Bytes.{IsBytes}
use Rattle.pcc_bytes.proofs.Bytes.{IsBytes-append, IsBytes-cons, IsBytes-drop, IsBytes-nil, IsBytes-take}
use Rattle.pcct_table.specs.declared.subspace.Subspace.{Subspace}
use Rattle.pcct_table.specs.declared.table.Table.{Table}
use Rattle.pcct_table.specs.Rows.{header_fields, size_of_kind}
use Rattle.pcct_table.specs.Values.{Value, values_in}
use Rattle.pcct_table.specs.Subspaces.{IsSubspace, kind_of, subspace_bytes}
use Rattle.pcct_table.specs.ShowText.{HasText}
use Rattle.pcct_table.proofs.Laws.{own_bytes, own_fit}
use Rattle.pcct_table.proofs.ShowHeader.{later_fit, revision_small}
use Rattle.pcct_table.proofs.ShowLine.{size_long}
use Rattle.pcct_table.proofs.ShowWords.{AllFit, fields_fit, fields_len, values_back}
use Rattle.pcct_codec.specs.Tables.{IsTableValue, Structures, TableBytes, check_in, header_values}
use Rattle.pcct_codec.proofs.Writing.{header_bytes, some_check}

-- ---- structures

size_most : (kind size : ℕ) → size_of_kind kind size ≡ Some size → size ≤ 255
size_most kind size h = let most : size < 256 = (size_long kind size h).most in omega arith

-- structures that some bytes spell, one behind the other
structures_own : (ss : List Subspace) → AllByRecursion IsSubspace ss → Structures (flat_map subspace_bytes ss) ss
structures_own [] h = refl
structures_own (s ∷ ss) h = (subspace_bytes s, flat_map subspace_bytes ss, refl, own_bytes s h.0, structures_own ss h.1)

structures_fit : (ss : List Subspace) → AllByRecursion IsSubspace ss → IsBytes (flat_map subspace_bytes ss)
structures_fit [] h = IsBytes-nil
structures_fit (s ∷ ss) h = IsBytes-append (subspace_bytes s) (flat_map subspace_bytes ss) (own_fit s h.0) (structures_fit ss h.1)

structures_most : (ss : List Subspace) → AllByRecursion IsSubspace ss → length (flat_map subspace_bytes ss) ≤ 255 * length ss
structures_most [] h = omega arith
structures_most (s ∷ ss) h =
    let one : length (subspace_bytes s) ≤ 255 = size_most (kind_of s) _ ((own_bytes s h.0).size) in
    let more = structures_most ss h.1 in
    let both = length-append (subspace_bytes s) (flat_map subspace_bytes ss) in
    omega arith

-- each of the structures that bytes spell
structures_parts : (bytes : List ℕ) (ss : List Subspace) → IsBytes bytes → Structures bytes ss → AllByRecursion IsSubspace ss
structures_parts bytes [] fits h = tt
structures_parts bytes (s ∷ ss) fits h =
    let b = h.0 in
    let rest = h.1 in
    let all : IsBytes (b ++ rest) = subst IsBytes h.2 fits in
    let here : IsBytes b = subst IsBytes (take_at b rest (length b) refl) (IsBytes-take (length b) (b ++ rest) all) in
    let later : IsBytes rest = subst IsBytes (drop_at b rest (length b) refl) (IsBytes-drop (length b) (b ++ rest) all) in
    (record { bytes = b; fit = here; spell = h.3 }, structures_parts rest ss later h.4)

-- ---- the header

signature_fit : IsBytes (codes "PCCT")
signature_fit = IsBytes-cons 80 _ (lit< tt) (IsBytes-cons 67 _ (lit< tt) (IsBytes-cons 67 _ (lit< tt) (IsBytes-cons 84 [] (lit< tt) IsBytes-nil)))

-- the values of a table's header fit in their fields
header_fit : (t : Table) (len check : ℕ) → HasText t → len < 4294967296 → check < 256 → AllFit header_fields (header_values (codes "PCCT") len check t)
header_fit t len check h short small =
    (record { len = refl; fit = signature_fit }, (omega arith, (revision_small t.revision h.known, (omega arith, later_fit t h))))

-- a header and structures spell a table, where they fit
spelled : (t : Table) (len check : ℕ) (body : List ℕ) → AllFit header_fields (header_values (codes "PCCT") len check t) → len ≡ 48 + length body
    → len ≤ 65328 → (t.revision ≡ 1) ⊎ (t.revision ≡ 2) → Structures body t.subspaces → length t.subspaces ≤ 256
    → sum (header_bytes len check t ++ body) % 256 ≡ 0 → TableBytes (header_bytes len check t ++ body) t
spelled t len check body fit told most known structures few right =
    let vs = header_values (codes "PCCT") len check t in
    let head = header_bytes len check t in
    let n : length head ≡ 48 = let e : 0 + length head ≡ 48 = fields_len header_fields vs 0 48 refl fit in omega arith in
    let all : length (head ++ body) ≡ len = omega (arith, length-append head body) in
    let values : values_in (head ++ body) header_fields ≡ vs = values_back header_fields vs 0 48 [] body refl refl fit in
    let sum_byte : check_in (head ++ body) ≡ check = cc in
    let behind : drop 48 (head ++ body) ≡ body = drop_at head body 48 n in
    record {
      least = omega arith;
      most = omega arith;
      header = values ∙ ap (λ (n : ℕ). header_values (codes "PCCT") n check t) (sym all) ∙ ap (λ (k : ℕ). header_values (codes "PCCT") (length (head ++ body)) k t) (sym sum_byte);
      revision = known;
      structures = rw behind structures;
      few = few;
      checksum = right;
    }

-- ---- both ways

pub has_spelling : (t : Table) → HasText t → IsTableValue t
has_spelling t h =
    let body = flat_map subspace_bytes t.subspaces in
    let len = 48 + length body in
    let few : length t.subspaces ≤ 256 = h.few in
    let most : len ≤ 65328 = let m = structures_most t.subspaces h.spelled in omega arith in
    let check = some_check len t body in
    let fit = header_fit t len check.0 h (omega arith) check.1 in
    record {
      bytes = header_bytes len check.0 t ++ body;
      fit = IsBytes-append (header_bytes len check.0 t) body (fields_fit header_fields (header_values (codes "PCCT") len check.0 t) fit) (structures_fit t.subspaces h.spelled);
      spell = spelled t len check.0 body fit refl most h.known (structures_own t.subspaces h.spelled) few check.2;
    }

pub has_text : (t : Table) → IsTableValue t → HasText t
has_text t h = record {
  bytes = h.bytes;
  fit = h.fit;
  least = h.spell.least;
  values = ap (λ (vs : List Value). take 1 (drop 2 vs) ++ drop 4 vs) h.spell.header;
  known = h.spell.revision;
  spelled = structures_parts (drop 48 h.bytes) t.subspaces (IsBytes-drop 48 h.bytes h.fit) h.spell.structures;
  few = h.spell.few;
}

-- each structure of a table is spelled by some bytes
pub each_spelled : (t : Table) → IsTableValue t → All IsSubspace t.subspaces
each_spelled t h = All-from_recursion IsSubspace t.subspaces (has_text t h).spelled
