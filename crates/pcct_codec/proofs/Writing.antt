-- The bytes of a table are its one spelling.
use Rattle.std.proofs.Common.{◌≡◌, ℕ, ◌+◌, ◌-◌, ◌%◌, ◌<◌, ◌≤◌, List, [], ◌∷◌, ◌++◌, length, drop, sum, refl, sym, ap, ◌∙◌, subst, append_assoc, arith}
use Rattle.std.specs.Prelude.{codes}
use Rattle.std.specs.List.{flat_map}
use Rattle.std.proofs.lemmas.List.{length-append, length-drop, set_at}
use Rattle.std.proofs.lemmas.List.Sums.{sum_by-append, sum_by-cons}
use Rattle.pcc_bytes.specs.Bytes.{IsBytes, number_at}
use Rattle.pcc_bytes.proofs.Bytes.{IsBytes-drop}
use Rattle.pcct_table.specs.declared.table.Table.{Table}
use Rattle.pcct_table.specs.Rows.{header_fields}
use Rattle.pcct_table.specs.Subspaces.{subspace_bytes}
use Rattle.pcct_table.specs.Values.{fields_bytes, number_bytes}
use Rattle.pcct_table.proofs.Laws.{fields_back}
use Rattle.pcct_table.proofs.ShowValues.{number_len}
use Rattle.pcct_codec.specs.Tables.{TableBytes, check_in, header_values}
use Rattle.std.proofs.Math.ListN.{set}
use Rattle.pcct_codec.proofs.Spelled.{structures_spelled}

-- a header's bytes with this byte for the sum
abbrev pub header_bytes : ℕ → ℕ → Table → List ℕ
header_bytes len check t = fields_bytes header_fields (header_values (codes "PCCT") len check t)

-- the bytes behind the header
pub body_spelled : (b : List ℕ) (t : Table) → IsBytes b → TableBytes b t → drop 48 b ≡ flat_map subspace_bytes t.subspaces
body_spelled b t fits h = structures_spelled (drop 48 b) t.subspaces (IsBytes-drop 48 b fits) h.structures

pub table_spelled : (b : List ℕ) (t : Table) → IsBytes b → TableBytes b t → b ≡ header_bytes (length b) (check_in b) t ++ drop 48 b
table_spelled b t fits h =
    sym (fields_back header_fields 0 48 b refl h.least fits) ∙ ap (λ (v : List ℕ). v ++ drop 48 b) (ap (fields_bytes header_fields) h.header)

regroup : (size revision check back body : List ℕ) → (size ++ (revision ++ (check ++ back))) ++ body ≡ (size ++ revision) ++ (check ++ (back ++ body))
regroup size revision check back body = simp append_assoc

-- a header's bytes before the one for the sum, and all bytes behind it
front : ℕ → Table → List ℕ
front len t = 80 ∷ 67 ∷ 67 ∷ 84 ∷ (number_bytes 4 len ++ number_bytes 1 t.revision)

back : Table → List ℕ → List ℕ
back t body = (t.oem_id ++ (t.oem_table ++ (number_bytes 4 t.oem_revision ++ (t.creator ++ (number_bytes 4 t.creator_revision ++ (number_bytes 4 t.flags ++ (t.reserved ++ []))))))) ++ body

front_length : (len : ℕ) (t : Table) → length (front len t) ≡ 9
unfolding front
front_length len t =
    let a = number_len 4 len in
    let b = number_len 1 t.revision in
    omega (arith, length-append (number_bytes 4 len) (number_bytes 1 t.revision))

one_byte : (x : ℕ) → x < 256 → number_bytes 1 x ≡ x ∷ []
unfolding number_bytes
one_byte x small = let e : x % 256 ≡ x = omega arith in ap (λ (v : ℕ). v ∷ []) e

cut : (len x : ℕ) (t : Table) (body : List ℕ) → x < 256 → header_bytes len x t ++ body ≡ front len t ++ x ∷ back t body
unfolding front back
cut len x t body small =
    ap (λ (v : List ℕ). 80 ∷ 67 ∷ 67 ∷ 84 ∷ v) (
    regroup (number_bytes 4 len) (number_bytes 1 t.revision) (number_bytes 1 x) _ body
    ∙ ap (λ (v : List ℕ). (number_bytes 4 len ++ number_bytes 1 t.revision) ++ (v ++ back t body)) (one_byte x small)
    )

sum_around : (f r : List ℕ) (x : ℕ) → sum (f ++ x ∷ r) ≡ sum f + (x + sum r)
sum_around f r x = sum_by-append (λ (v : ℕ). v) f (x ∷ r) ∙ ap (λ (n : ℕ). sum f + n) (sum_by-cons (λ (v : ℕ). v) x r)

-- the byte that makes the sum right
one_check : (f r : List ℕ) (x y : ℕ) → x < 256 → y < 256 → sum (f ++ x ∷ r) % 256 ≡ 0 → (y + sum (f ++ 0 ∷ r) % 256) % 256 ≡ 0 → y ≡ x
one_check f r x y below small right wrong =
    let a = sum_around f r x in
    let b = sum_around f r 0 in
    omega arith

-- some byte makes the sum right
pub some_check : (len : ℕ) (t : Table) (body : List ℕ) → (x : ℕ) × (x < 256) × (sum (header_bytes len x t ++ body) % 256 ≡ 0)
some_check len t body =
    let f = front len t in
    let r = back t body in
    let x : ℕ = 255 - (sum f + sum r + 255) % 256 in
    let small : x < 256 = omega arith in
    let right : sum (f ++ x ∷ r) % 256 ≡ 0 = let s = sum_around f r x in omega arith in
    (x, small, ap (λ (v : List ℕ). sum v % 256) (cut len x t body small) ∙ right)

byte_small : (b : List ℕ) → IsBytes b → check_in b < 256
unfolding number_at
byte_small b fits = let h = (IsBytes-drop 9 b fits).fits 0 in omega arith

-- a table's bytes, and what is written of it before its sum is known
pub record Unsummed (b : List ℕ) (t : Table) (unsummed : List ℕ) : Type 0 where
  pub front : List ℕ
  pub back : List ℕ
  pub placed : length front ≡ 9
  pub whole : b ≡ front ++ check_in b ∷ back
  pub zeroed : unsummed ≡ front ++ 0 ∷ back

pub unsummed : (b : List ℕ) (t : Table) (len : ℕ) (body written : List ℕ) → IsBytes b → TableBytes b t → body ≡ flat_map subspace_bytes t.subspaces
    → len ≡ 48 + length body → written ≡ header_bytes len 0 t ++ body → Unsummed b t written
unsummed b t len body written fits h spelled told e =
    let same : drop 48 b ≡ body = body_spelled b t fits h ∙ sym spelled in
    let least : 48 ≤ length b = h.least in
    let n : length (drop 48 b) ≡ length b - 48 = length-drop 48 b in
    let size : length b ≡ len = let m = ap length same in omega arith in
    record {
      front = front len t;
      back = back t body;
      placed = front_length len t;
      whole = table_spelled b t fits h ∙ rw (size, same) (cut len (check_in b) t body (byte_small b fits));
      zeroed = e ∙ cut len 0 t body (omega arith);
    }

pub unsummed_length : (b : List ℕ) (t : Table) (written : List ℕ) → Unsummed b t written → length written ≡ length b
unsummed_length b t written u =
    let a = ap length u.zeroed ∙ length-append u.front (0 ∷ u.back) in
    let c = ap length u.whole ∙ length-append u.front (check_in b ∷ u.back) in
    omega arith

-- with the byte that makes the sum right they are the table's bytes
pub summed : (b : List ℕ) (t : Table) (check : ℕ) (written : List ℕ) → IsBytes b → TableBytes b t → Unsummed b t written → check < 256
    → (check + sum written % 256) % 256 ≡ 0 → set written 9 check ≡ b
summed b t check written fits h u small right =
    let f = u.front in
    let r = u.back in
    let k : ℕ = check_in b in
    let sums : sum (f ++ k ∷ r) % 256 ≡ 0 = ap (λ (v : List ℕ). sum v % 256) (sym u.whole) ∙ h.checksum in
    let check_is : check ≡ k = one_check f r k check (byte_small b fits) small sums (subst (λ (v : List ℕ). (check + sum v % 256) % 256 ≡ 0) u.zeroed right) in
    ap (λ (v : List ℕ). set v 9 check) u.zeroed ∙ set_at f 0 r check 9 u.placed ∙ ap (λ (x : ℕ). f ++ x ∷ r) check_is ∙ sym u.whole

right_again : (b : List ℕ) (t : Table) (written : List ℕ) → TableBytes b t → Unsummed b t written → (check_in b + sum written % 256) % 256 ≡ 0
right_again b t written h u =
    let k : ℕ = check_in b in
    let a = sum_around u.front u.back k in
    let c = sum_around u.front u.back 0 in
    let whole : sum b ≡ sum u.front + (k + sum u.back) = ap sum u.whole ∙ a in
    let zeroed : sum written ≡ sum u.front + (0 + sum u.back) = ap sum u.zeroed ∙ c in
    let right : sum b % 256 ≡ 0 = h.checksum in
    omega arith

-- a table's bytes are few
pub body_few : (b : List ℕ) (t : Table) (body : List ℕ) → IsBytes b → TableBytes b t → body ≡ flat_map subspace_bytes t.subspaces → 48 + length body ≤ 65328
body_few b t body fits h spelled =
    let least : 48 ≤ length b = h.least in
    let most : length b ≤ 65328 = h.most in
    let e = ap length (body_spelled b t fits h ∙ sym spelled) in
    omega (arith, e, length-drop 48 b)

-- bytes that spell one table are the same
pub one_table_spelling : (a b : List ℕ) (t : Table) → IsBytes a → IsBytes b → TableBytes a t → TableBytes b t → a ≡ b
one_table_spelling a b t fits fit h k =
    let u = unsummed a t (48 + length (drop 48 a)) (drop 48 a) (header_bytes (48 + length (drop 48 a)) 0 t ++ drop 48 a) fits h (body_spelled a t fits h) refl refl in
    let v = unsummed b t (48 + length (drop 48 a)) (drop 48 a) (header_bytes (48 + length (drop 48 a)) 0 t ++ drop 48 a) fit k (body_spelled a t fits h) refl refl in
    let small : check_in a < 256 = byte_small a fits in
    sym (summed a t (check_in a) _ fits h u small (right_again a t _ h u)) ∙ summed b t (check_in a) _ fit k v small (right_again a t _ h u)
