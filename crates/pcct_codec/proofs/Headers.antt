-- What a right header tells, whatever follows it.
use Rattle.std.proofs.Common.{◌≡◌, ◌≢◌, ℕ, ◌+◌, ◌≤◌, eqb, ltb, cond, Bool, true, false, List, ◌++◌, length, drop, refl, sym, ap, ◌∙◌, subst, arith, rules, inl, inr, Result, Ok, Err}
use Rattle.std.specs.Prelude.{◌⊎◌, ◌||◌, ◌%◌, Option, codes, sum}
use Rattle.std.specs.Str.{bytes_eq}
use Rattle.std.proofs.lemmas.Bool.{le-ltb, ltb-false, eqb-true}
use Rattle.std.proofs.lemmas.List.{take-append-le, drop-append-le, length-drop}
use Rattle.std.proofs.lemmas.Slice.Eq.{bytes_eq-Decides}
use Rattle.byteorder.specs.Numbers.{little_from-append}
use Rattle.pcc_bytes.specs.Bytes.{number_at}
use Rattle.pcct_table.specs.declared.table.Table.{Table}
use Rattle.pcct_table.specs.Rows.{header_fields, number_in, bytes_in}
use Rattle.pcct_table.specs.Values.{bytes_at, values_in}
use Rattle.pcct_codec.specs.declared.fault.TableFault.{TableFault}
use Rattle.pcct_codec.specs.declared.fault.TableFault.TheVariants.{Signature, LengthOutside, Revision, ReadFault}
use Rattle.pcct_codec.specs.Tables.{Structures, TableBytes, check_in, header_values, length_in}
use Rattle.pcct_codec.specs.Faults.{IsGone, told_length}
use Rattle.pcct_codec.proofs.Spelled.{structures_one}

abbrev signature_in : List ℕ → List ℕ
signature_in b = bytes_in header_fields (codes "signature") b

abbrev revision_in : List ℕ → ℕ
revision_in b = number_in header_fields (codes "revision") b

pub record Told (b : List ℕ) (n : ℕ) : Type 0 where
  pub signature : bytes_in header_fields (codes "signature") b ≡ codes "PCCT"
  pub len : length_in b ≡ n
  pub least : 48 ≤ n
  pub most : n ≤ 65328
  pub revision : (number_in header_fields (codes "revision") b ≡ 1) ⊎ (number_in header_fields (codes "revision") b ≡ 2)

-- the checks by what their tests say
abbrev by_tests : Bool → Bool → Bool → Bool → Bool → ℕ → ℕ → Result ℕ TableFault
by_tests signed low high first second len revision = cond signed (cond (low || high) (Err (LengthOutside len)) (cond (first || second) (Ok len) (Err (Revision revision)))) (Err Signature)

record Passed (signed low high first second : Bool) (len n : ℕ) : Type 0 where
  is_signed : signed ≡ true
  not_low : low ≡ false
  not_high : high ≡ false
  known : (first ≡ true) ⊎ (second ≡ true)
  same : len ≡ n

passed : (signed low high first second : Bool) (len revision n : ℕ) → by_tests signed low high first second len revision ≡ Ok n
    → Passed signed low high first second len n
passed true false false true second len revision n h = record { is_signed = refl; not_low = refl; not_high = refl; known = inl refl; same = cc }
passed true false false false true len revision n h = record { is_signed = refl; not_low = refl; not_high = refl; known = inr refl; same = cc }
passed true false false false false len revision n h = absurd cc
passed true true high first second len revision n h = absurd cc
passed true false true first second len revision n h = absurd cc
passed false low high first second len revision n h = absurd cc

pub told_ok : (b : List ℕ) (n : ℕ) → told_length b ≡ Ok n → Told b n
unfolding told_length
told_ok b n h =
    let len = length_in b in
    let revision = revision_in b in
    let p = passed (bytes_eq (codes "PCCT") (signature_in b)) (ltb len 48) (ltb 65328 len) (eqb revision 1) (eqb revision 2) len revision n h in
    let least : 48 ≤ len = ltb-false _ _ p.not_low in
    let most : len ≤ 65328 = ltb-false _ _ p.not_high in
    let same : len ≡ n = p.same in
    record {
      signature = sym ((bytes_eq-Decides (codes "PCCT") (signature_in b)).0 p.is_signed);
      len = same;
      least = omega arith;
      most = omega arith;
      revision = elim p.known [ inl e ↦ inl (eqb-true _ _ e) | inr e ↦ inr (eqb-true _ _ e) ];
    }

pub ok_told : (b : List ℕ) (n : ℕ) → Told b n → told_length b ≡ Ok n
unfolding told_length
ok_told b n t =
    let len = length_in b in
    let same : len ≡ n = t.len in
    let least : 48 ≤ n = t.least in
    let most : n ≤ 65328 = t.most in
    let signed : bytes_eq (codes "PCCT") (signature_in b) ≡ true = (bytes_eq-Decides (codes "PCCT") (signature_in b)).1 (sym t.signature) in
    let low : ltb len 48 ≡ false = le-ltb _ _ (omega arith) in
    let high : ltb 65328 len ≡ false = le-ltb _ _ (omega arith) in
    elim t.revision [
      | inl e ↦ rw (signed, low, high, e) (ap Ok same)
      | inr e ↦ rw (signed, low, high, e) (ap Ok same)
    ]

number_more : (n at : ℕ) (h m : List ℕ) → at + n ≤ length h → number_at n at (h ++ m) ≡ number_at n at h
unfolding number_at
number_more n at h m within = rw (drop-append-le at h m (omega arith)) (little_from-append n (drop at h) m (omega (arith, length-drop at h)))

pub told_more : (h m : List ℕ) → 48 ≤ length h → told_length (h ++ m) ≡ told_length h
unfolding told_length
told_more h m long =
    rw (take-append-le 4 h m (omega arith), number_more 4 4 h m (omega arith), number_more 1 8 h m (omega arith)) refl

pub length_more : (h m : List ℕ) → 48 ≤ length h → length_in (h ++ m) ≡ length_in h
length_more h m long = number_more 4 4 h m (omega arith)

-- the faults of a header
module _ (P : TableFault → Type 0) (signature : P Signature) (len : (n : ℕ) → P (LengthOutside n)) (revision : (n : ℕ) → P (Revision n)) where
  by_cases : (signed low high first second : Bool) (n found : ℕ) (f : TableFault) → by_tests signed low high first second n found ≡ Err f → P f
  by_cases false low high first second n found f h = let e : Signature ≡ f = cc in subst P e signature
  by_cases true true high first second n found f h = let e : LengthOutside n ≡ f = cc in subst P e (len n)
  by_cases true false true first second n found f h = let e : LengthOutside n ≡ f = cc in subst P e (len n)
  by_cases true false false true second n found f h = absurd cc
  by_cases true false false false true n found f h = absurd cc
  by_cases true false false false false n found f h = let e : Revision found ≡ f = cc in subst P e (revision found)

  pub header_faults : (b : List ℕ) (f : TableFault) → told_length b ≡ Err f → P f
  unfolding told_length
  header_faults b f h =
      by_cases (bytes_eq (codes "PCCT") (signature_in b)) (ltb (length_in b) 48) (ltb 65328 (length_in b)) (eqb (revision_in b) 1) (eqb (revision_in b) 2) (length_in b) (revision_in b) f h

pub header_gone : (b : List ℕ) (f : TableFault) (left : Option (List ℕ)) → told_length b ≡ Err f → length b ≡ 48 → IsGone f b left
header_gone b f left h len = header_faults (λ g. IsGone g b left) len (λ n. len) (λ n. len) b f h

pub header_read : (b : List ℕ) (f : TableFault) → told_length b ≡ Err f → f ≢ ReadFault
header_read b f h = header_faults (λ g. g ≢ ReadFault) (λ e. cc) (λ n e. cc) (λ n e. cc) b f h

pub told_table : (b : List ℕ) (t : Table) → TableBytes b t → told_length b ≡ Ok (length b)
unfolding bytes_at
told_table b t h =
    let e = h.header in
    let revision : revision_in b ≡ t.revision = cc in
    ok_told b (length b) (record {
      signature = cc;
      len = cc;
      least = h.least;
      most = h.most;
      revision = elim h.revision [ inl r ↦ inl (revision ∙ r) | inr r ↦ inr (revision ∙ r) ];
    })

-- a right header that tells all bytes, and structures, make a table
pub table_is : (b : List ℕ) (t : Table) → told_length b ≡ Ok (length b)
    → values_in b header_fields ≡ header_values (bytes_at 4 0 b) (number_at 4 4 b) (number_at 1 9 b) t → Structures (drop 48 b) t.subspaces
    → length t.subspaces ≤ 256 → sum b % 256 ≡ 0 → TableBytes b t
unfolding bytes_at
table_is b t told values structures few right =
    let h = told_ok b (length b) told in
    let revision : revision_in b ≡ t.revision = cc in
    record {
      least = h.least;
      most = h.most;
      header = values ∙ rw (h.signature, h.len) refl;
      revision = elim h.revision [ inl r ↦ inl (sym revision ∙ r) | inr r ↦ inr (sym revision ∙ r) ];
      structures = structures;
      few = few;
      checksum = right;
    }

same_header : (t u : Table) (a : List ℕ) (m n c d : ℕ) → header_values a m c t ≡ header_values a n d u → t.subspaces ≡ u.subspaces → t ≡ u
same_header t u a m n c d values subspaces = search rules

pub one_table : (b : List ℕ) (t u : Table) → TableBytes b t → TableBytes b u → t ≡ u
one_table b t u h k =
    same_header t u (codes "PCCT") (length b) (length b) (check_in b) (check_in b) (sym h.header ∙ k.header) (structures_one (drop 48 b) t.subspaces u.subspaces h.structures k.structures)
