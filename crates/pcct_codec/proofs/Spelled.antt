-- The bytes of structures decide no fault, spell these structures alone, and are their one spelling.
use Rattle.std.proofs.Common.{◌≡◌, ℕ, zero, suc, ◌+◌, ◌<◌, ◌≤◌, eqb, ltb, false, List, [], ◌∷◌, ◌++◌, length, take, drop, slice_index, refl, sym, ap, ◌∙◌, subst, arith, Ok}
use Rattle.std.specs.List.{flat_map}
use Rattle.std.proofs.lemmas.Bool.{eq-eqb, le-ltb}
use Rattle.std.proofs.lemmas.Bool.Decides.{nat_tests}
use Rattle.std.proofs.lemmas.List.{take_at, drop_at, length-append, get_or_append_left}
use Rattle.pcc_bytes.specs.Bytes.{IsBytes}
use Rattle.pcc_bytes.proofs.Bytes.{IsBytes-drop, IsBytes-take}
use Rattle.pcct_table.specs.declared.subspace.Subspace.{Subspace}
use Rattle.pcct_table.specs.Subspaces.{SubspaceBytes, kind_of, subspace_bytes}
use Rattle.pcct_table.proofs.Laws.{one_structure, spelling}
use Rattle.pcct_codec.specs.Tables.{Structures}
use Rattle.pcct_codec.specs.Faults.{Right, structure_size, structures_decision}
use Rattle.pcct_codec.proofs.Walking.{right_next, right_none, size_least}

front : (b rest : List ℕ) (i : ℕ) → i < length b → slice_index (b ++ rest) i ≡ slice_index b i
front b rest i lt = get_or_append_left b rest 0 i lt

least : (b : List ℕ) (s : Subspace) → SubspaceBytes b s → 2 ≤ length b
least b s h = size_least (kind_of s) (length b) h.size

not_one : (n : ℕ) → 2 ≤ n → eqb n 1 ≡ false
not_one n h = grind (arith, nat_tests)

size_again : (at : ℕ) (b rest : List ℕ) (s : Subspace) → SubspaceBytes b s → structure_size at (b ++ rest) ≡ Ok (length b)
unfolding structure_size
size_again at b rest s h =
    let long : 2 ≤ length b = least b s h in
    let len : length (b ++ rest) ≡ length b + length rest = length-append b rest in
    let n : eqb (length (b ++ rest)) 1 ≡ false = not_one (length (b ++ rest)) (omega arith) in
    let b0 : slice_index (b ++ rest) 0 ≡ kind_of s = front b rest 0 (omega arith) ∙ h.kind in
    let b1 : slice_index (b ++ rest) 1 ≡ length b = front b rest 1 (omega arith) ∙ h.told in
    let within : ltb (length (b ++ rest)) (length b) ≡ false = le-ltb _ _ (omega arith) in
    rw (n, b0, b1, h.size, eq-eqb (length b) (length b) refl, within) refl

pub structures_right : (n at : ℕ) (bytes : List ℕ) (ss : List Subspace) → Structures bytes ss → length ss ≤ n → structures_decision n at bytes ≡ Right
structures_right n at bytes [] h le = ap (structures_decision n at) h ∙ right_none n at
structures_right zero at bytes (s ∷ ss) h le = absurd (omega arith)
structures_right (suc n) at bytes (s ∷ ss) h le =
    let b = h.0 in
    let rest = h.1 in
    let long : 2 ≤ length b = least b s h.3 in
    let len : 0 < length (b ++ rest) = omega (arith, length-append b rest) in
    ap (structures_decision (suc n) at) h.2 ∙ right_next n at (b ++ rest) (length b) len (size_again at b rest s h.3)
    ∙ ap (structures_decision n (at + length b)) (drop_at b rest (length b) refl) ∙ structures_right n (at + length b) rest ss h.4 (omega arith)

-- the first structures of the same bytes
one_first : (a b : List ℕ) (s t : Subspace) (r q : List ℕ) → a ++ r ≡ b ++ q → SubspaceBytes a s → SubspaceBytes b t → length a ≡ length b
one_first a b s t r q whole h k =
    let la : 2 ≤ length a = least a s h in
    let lb : 2 ≤ length b = least b t k in
    sym h.told ∙ sym (front a r 1 (omega arith)) ∙ ap (λ (v : List ℕ). slice_index v 1) whole ∙ front b q 1 (omega arith) ∙ k.told

pub structures_one : (xs : List ℕ) (ss ts : List Subspace) → Structures xs ss → Structures xs ts → ss ≡ ts
structures_one xs [] [] h k = refl
structures_one xs [] (t ∷ ts) h k = let long = least k.0 t k.3 in let n = ap length (sym h ∙ k.2) in absurd (omega (arith, length-append k.0 k.1, long, n))
structures_one xs (s ∷ ss) [] h k = let long = least h.0 s h.3 in let n = ap length (sym k ∙ h.2) in absurd (omega (arith, length-append h.0 h.1, long, n))
structures_one xs (s ∷ ss) (t ∷ ts) h k =
    let a = h.0 in
    let b = k.0 in
    let whole : a ++ h.1 ≡ b ++ k.1 = sym h.2 ∙ k.2 in
    let len : length a ≡ length b = one_first a b s t h.1 k.1 whole h.3 k.3 in
    let first : a ≡ b = sym (take_at a h.1 (length a) refl) ∙ ap (take (length a)) whole ∙ take_at b k.1 (length a) (sym len) in
    let rest : h.1 ≡ k.1 = sym (drop_at a h.1 (length a) refl) ∙ ap (drop (length a)) whole ∙ drop_at b k.1 (length a) (sym len) in
    let here : s ≡ t = one_structure b s t (subst (λ (v : List ℕ). SubspaceBytes v s) first h.3) k.3 in
    let others : ss ≡ ts = structures_one k.1 ss ts (subst (λ (v : List ℕ). Structures v ss) rest h.4) k.4 in
    cc

pub structures_spelled : (bytes : List ℕ) (ss : List Subspace) → IsBytes bytes → Structures bytes ss → bytes ≡ flat_map subspace_bytes ss
structures_spelled bytes [] fits h = h
structures_spelled bytes (s ∷ ss) fits h =
    let b = h.0 in
    let rest = h.1 in
    let all : IsBytes (b ++ rest) = subst IsBytes h.2 fits in
    let here : IsBytes b = subst IsBytes (take_at b rest (length b) refl) (IsBytes-take (length b) (b ++ rest) all) in
    let later : IsBytes rest = subst IsBytes (drop_at b rest (length b) refl) (IsBytes-drop (length b) (b ++ rest) all) in
    h.2 ∙ ap (λ (v : List ℕ). v ++ rest) (spelling b s here h.3) ∙ ap (λ (v : List ℕ). subspace_bytes s ++ v) (structures_spelled rest ss later h.4)
