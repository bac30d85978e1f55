-- The bytes of fields that stand one behind the other are those of their values.
use Rattle.std.proofs.Common.{◌≡◌, ℕ, ◌+◌, ◌-◌, ◌<◌, ◌≤◌, cond, ltb, false, List, [], ◌∷◌, ◌++◌, length, take, drop, slice_index, refl, sym, ap, ◌∙◌, append_assoc, arith, rules, subst, length-drop, length-take, Bool, true, eqb, leb, ◌&&◌, lit≤}
use Rattle.std.proofs.lemmas.Bool.{and_parts, eqb-true, leb-true, le-ltb, ltb-false, ltb-true}
use Rattle.std.specs.Prelude.{Some, None}
use Rattle.std.proofs.lemmas.List.{append-nil, take-append-drop, drop-drop, drop_all, take_all}
use Rattle.pcc_bytes.specs.Bytes.{IsBytes, number_at}
use Rattle.pcc_bytes.proofs.Bytes.{IsBytes-drop, IsBytes-take}
use Rattle.pcc_bytes.proofs.Numbers.{little_bytes-little_number}
use Rattle.pcc_gas.proofs.Addresses.{address_bytes-address_in}
use Rattle.pcct_table.specs.declared.rows.Kind.{Kind}
use Rattle.pcct_table.specs.declared.rows.Kind.TheVariants.{Byte, Word, Dword, Qword, Address, Array}
use Rattle.pcct_table.specs.declared.subspace.Subspace.{Subspace}
use Rattle.pcct_table.specs.declared.other.Other.{Other}
use Rattle.pcct_table.specs.declared.subspace.Subspace.TheVariants as Sub
use Rattle.pcct_table.specs.declared.subspace.Subspace.TheVariants.{Generic, HwReduced1, HwReduced2, Initiator, Responder, HwRegister}
use Rattle.pcct_table.specs.Rows.{Field, width, generic_fields, hw_reduced1_fields, hw_reduced2_fields, extended_fields, hw_register_fields, bytes_fields, fields_of_kind, size_of_kind, unknown_size}
use Rattle.pcct_table.specs.Values.{Bytes, Value, number_bytes, address_at, bytes_at, value_at, values_in, value_bytes, fields_bytes}
use Rattle.pcct_table.specs.Structures.{values0, values1, values2, values34, values5}
use Rattle.pcct_table.specs.Subspaces.{IsSubspace, SubspaceBytes, kind_of, subspace_bytes}
use Rattle.pcct_table.specs.ShowText.{fields_shown}
use Rattle.pcc_text.proofs.Laws.{same_some}

-- fields stand one behind the other, from a place to another
abbrev pub is_contiguous : ℕ → List Field → ℕ → Bool
is_contiguous at [] end = eqb at end
is_contiguous at (f ∷ fs) end = eqb f.at at && (leb (at + width f.kind) end && is_contiguous (at + width f.kind) fs end)

pub record Begins (at : ℕ) (f : Field) (fs : List Field) (end : ℕ) : Type 0 where
  pub here : f.at ≡ at
  pub within : at + width f.kind ≤ end
  pub rest : is_contiguous (at + width f.kind) fs end ≡ true

pub begins : (at : ℕ) (f : Field) (fs : List Field) (end : ℕ) → is_contiguous at (f ∷ fs) end ≡ true → Begins at f fs end
begins at f fs end h =
    let p = and_parts (eqb f.at at) _ h in
    let q = and_parts (leb (at + width f.kind) end) _ p.1 in
    record { here = eqb-true _ _ p.0; within = leb-true _ _ q.0; rest = q.1 }

number_back : (n at : ℕ) (b : List ℕ) → IsBytes b → at + n ≤ length b → number_bytes n (number_at n at b) ≡ take n (drop at b)
unfolding number_at number_bytes
number_back n at b fits long = little_bytes-little_number n (drop at b) (omega (arith, length-drop at b)) (IsBytes-drop at b fits)

value_back : (k : Kind) (at : ℕ) (b : List ℕ) → IsBytes b → at + width k ≤ length b → value_bytes k (value_at k at b) ≡ take (width k) (drop at b)
unfolding address_at bytes_at
value_back Byte at b fits long = number_back 1 at b fits long
value_back Word at b fits long = number_back 2 at b fits long
value_back Dword at b fits long = number_back 4 at b fits long
value_back Qword at b fits long = number_back 8 at b fits long
value_back Address at b fits long =
    address_bytes-address_in (take 12 (drop at b)) (omega (arith, length-take 12 (drop at b), length-drop at b)) (IsBytes-take 12 (drop at b) (IsBytes-drop at b fits))
value_back (Array n) at b fits long = refl

-- the fields' bytes and what stands behind them are all bytes from the first field on
pub fields_back : (fs : List Field) (at end : ℕ) (b : List ℕ) → is_contiguous at fs end ≡ true → end ≤ length b → IsBytes b
    → fields_bytes fs (values_in b fs) ++ drop end b ≡ drop at b
fields_back [] at end b contiguous long fits = ap (λ (n : ℕ). drop n b) (sym (eqb-true _ _ contiguous))
fields_back (f ∷ fs) at end b contiguous long fits =
    let w = width f.kind in
    let first = begins at f fs end contiguous in
    let here : at + w ≤ length b = let h = first.within in omega arith in
    let value : value_bytes f.kind (value_at f.kind f.at b) ≡ take w (drop at b) = ap (λ (p : ℕ). value_bytes f.kind (value_at f.kind p b)) first.here ∙ value_back f.kind at b fits here in
    let rest : fields_bytes fs (values_in b fs) ++ drop end b ≡ drop w (drop at b) = fields_back fs (at + w) end b first.rest long fits ∙ sym (drop-drop w at b) in
    append_assoc (value_bytes f.kind (value_at f.kind f.at b)) (fields_bytes fs (values_in b fs)) (drop end b) ∙ rw (value, rest) (take-append-drop w (drop at b))

-- the first two bytes, and the rest
two : (b : List ℕ) → 2 ≤ length b → b ≡ slice_index b 0 ∷ slice_index b 1 ∷ drop 2 b
two [] h = absurd (omega arith)
two (x ∷ []) h = absurd (omega arith)
two (x ∷ y ∷ b) h = refl

spelled_back : (b : List ℕ) (size kind : ℕ) (fs : List Field) (vs : List Value) → is_contiguous 2 fs size ≡ true → Some size ≡ Some (length b)
    → 2 ≤ size → slice_index b 0 ≡ kind → slice_index b 1 ≡ length b → values_in b fs ≡ vs → IsBytes b → b ≡ kind ∷ size ∷ fields_bytes fs vs
spelled_back b size kind fs vs contiguous known long e0 e1 values fits =
    let len : length b ≡ size = cc in
    let all : fields_bytes fs (values_in b fs) ≡ drop 2 b =
    sym (append-nil _) ∙ ap (λ (ys : List ℕ). fields_bytes fs (values_in b fs) ++ ys) (sym (drop_all size b (omega arith))) ∙ fields_back fs 2 size b contiguous (omega arith) fits in
    two b (omega arith) ∙ rw (e0, e1, ← values, all, len) refl

-- ---- structures of unknown types

-- a number of bytes that a structure of an unknown type may have
pub record IsLong (size : ℕ) : Type 0 where
  pub least : 2 ≤ size
  pub most : size < 256

long_by : (low high : Bool) (found size : ℕ) → low ≡ ltb found 2 → high ≡ ltb found 256 → cond low None (cond high (Some found) None) ≡ Some size → IsLong found × (found ≡ size)
long_by true high found size l m h = cc
long_by false false found size l m h = cc
long_by false true found size l m h = (record { least = ltb-false found 2 (sym l); most = ltb-true found 256 (sym m) }, same_some found size h)

pub unknown_long : (found size : ℕ) → unknown_size found ≡ Some size → IsLong found × (found ≡ size)
unknown_long found size h = long_by (ltb found 2) (ltb found 256) found size refl refl h

pub unknown_kind : (kind : ℕ) → 6 ≤ kind → ltb kind 6 ≡ false
unknown_kind kind le = le-ltb kind 6 le

pub unknown_is : (kind found : ℕ) → 6 ≤ kind → size_of_kind kind found ≡ unknown_size found
unknown_is kind found le = rw (unknown_kind kind le) refl

pub unknown_fields : (kind size : ℕ) → 6 ≤ kind → fields_of_kind kind size ≡ bytes_fields (size - 2)
unknown_fields kind size le = rw (unknown_kind kind le) refl

-- bytes of such a structure
pub record IsKept (b : List ℕ) (o : Other) : Type 0 where
  pub long : IsLong (length b)
  pub rest : drop 2 b ≡ o.bytes

bytes_same : (a b : List ℕ) → Bytes a ∷ [] ≡ Bytes b ∷ [] → a ≡ b
bytes_same a b h = cc

-- what is said of bytes of an unknown type
pub all_said : (b : List ℕ) (kind : ℕ) → 6 ≤ kind → values_in b (fields_of_kind kind (length b)) ≡ Bytes (drop 2 b) ∷ []
unfolding bytes_at
all_said b kind le =
    let few : length (drop 2 b) ≤ length b - 2 = omega (arith, length-drop 2 b) in
    ap (values_in b) (unknown_fields kind (length b) le) ∙ ap (λ (v : List ℕ). Bytes v ∷ []) (take_all (length b - 2) (drop 2 b) few)

pub kept : (b : List ℕ) (o : Other) → SubspaceBytes b (Sub.Other o) → IsKept b o
kept b o h = record {
  long = (unknown_long (length b) (length b) (sym (unknown_is o.kind (length b) h.unknown) ∙ h.size)).0;
  rest = bytes_same _ _ (sym (all_said b o.kind h.unknown) ∙ h.values);
}

pub kept_is : (b : List ℕ) (o : Other) → 6 ≤ o.kind → size_of_kind o.kind (length b) ≡ Some (length b) → slice_index b 0 ≡ o.kind → slice_index b 1 ≡ length b
    → o.bytes ≡ drop 2 b → SubspaceBytes b (Sub.Other o)
kept_is b o le size kind told is = record {
  unknown = le;
  size = size;
  kind = kind;
  told = told;
  values = all_said b o.kind le ∙ ap (λ (v : List ℕ). Bytes v ∷ []) (sym is);
}

pub kept_length : (b : List ℕ) (o : Other) → IsKept b o → length b ≡ 2 + length o.bytes
kept_length b o k =
    let n : length o.bytes ≡ length b - 2 = ap length (sym k.rest) ∙ length-drop 2 b in
    let least : 2 ≤ length b = k.long.least in
    omega arith

-- the fields of a structure by its bytes and by its value
pub shown_by : (b : List ℕ) (s : Subspace) → SubspaceBytes b s → fields_of_kind (kind_of s) (length b) ≡ fields_shown s
shown_by b (Generic t) h = refl
shown_by b (HwReduced1 t) h = refl
shown_by b (HwReduced2 t) h = refl
shown_by b (Initiator t) h = refl
shown_by b (Responder t) h = refl
shown_by b (HwRegister t) h = refl
shown_by b (Sub.Other o) h =
    let n : length b ≡ 2 + length o.bytes = kept_length b o (kept b o h) in
    unknown_fields o.kind (length b) h.unknown ∙ ap bytes_fields (omega arith)

-- the number of bytes of such a structure, as it is written
pub kept_few : (o : Other) → IsSubspace (Sub.Other o) → length o.bytes ≤ 253
kept_few o h =
    let k = kept h.bytes o h.spell in
    let n = kept_length h.bytes o k in
    let most : length h.bytes < 256 = k.long.most in
    omega arith

-- ---- spellings

-- the bytes of a structure are its one spelling
pub spelling : (b : List ℕ) (s : Subspace) → IsBytes b → SubspaceBytes b s → b ≡ subspace_bytes s
spelling b (Generic t) fits h = spelled_back b 62 0 generic_fields (values0 t) refl h.size (lit≤ tt) h.kind h.told h.values fits
spelling b (HwReduced1 t) fits h = spelled_back b 62 1 hw_reduced1_fields (values1 t) refl h.size (lit≤ tt) h.kind h.told h.values fits
spelling b (HwReduced2 t) fits h = spelled_back b 90 2 hw_reduced2_fields (values2 t) refl h.size (lit≤ tt) h.kind h.told h.values fits
spelling b (Initiator t) fits h = spelled_back b 164 3 extended_fields (values34 t) refl h.size (lit≤ tt) h.kind h.told h.values fits
spelling b (Responder t) fits h = spelled_back b 164 4 extended_fields (values34 t) refl h.size (lit≤ tt) h.kind h.told h.values fits
spelling b (HwRegister t) fits h = spelled_back b 96 5 hw_register_fields (values5 t) refl h.size (lit≤ tt) h.kind h.told h.values fits
spelling b (Sub.Other o) fits h =
    let k = kept b o h in
    two b k.long.least ∙ rw (h.kind, h.told, k.rest, kept_length b o k) refl

-- bytes spell one structure at most
pub one_structure : (b : List ℕ) (s u : Subspace) → SubspaceBytes b s → SubspaceBytes b u → s ≡ u
one_structure b s u h k = search rules

-- the one spelling of a structure spells it, and is bytes
pub own_bytes : (s : Subspace) → IsSubspace s → SubspaceBytes (subspace_bytes s) s
own_bytes s h = subst (λ (b : List ℕ). SubspaceBytes b s) (spelling h.bytes s h.fit h.spell) h.spell

pub own_fit : (s : Subspace) → IsSubspace s → IsBytes (subspace_bytes s)
own_fit s h = subst IsBytes (spelling h.bytes s h.fit h.spell) h.fit
