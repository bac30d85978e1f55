-- What a field of hexadecimal digits is read as.
use Rattle.std.proofs.Common.{◌≡◌, ℕ, ◌*◌, ◌%◌, true, false, List, [], ◌∷◌, length, refl, ap, ◌∙◌, arith}
use Rattle.std.specs.Prelude.{Option, Some, None, bytes_eq}
use Rattle.std.proofs.lemmas.Bool.{both_ways}
use Rattle.hex.specs.Hex.{encode_lower, encode_with, lower_digits}
use Rattle.hex.proofs.HexLemmas.{length-encode_with}
use Rattle.pcc_bytes.specs.Bytes.{IsBytes}
use Rattle.pcc_text.specs.Reading.{hex_of}
use Rattle.pcc_text.proofs.Laws.{hex_again, hex_fits, hex_reads, text_same}

none_from : {A : Type 0} (o : Option A) → ((x : A) → o ≡ Some x → ⊥) → o ≡ None
none_from None h = refl
none_from (Some x) h = absurd (h x refl)

pub dash_read : (field : List ℕ) → bytes_eq field (45 ∷ []) ≡ true → hex_of field ≡ Some []
unfolding hex_of
dash_read field h = rw h refl

-- what a field with two digits for each of some bytes, or with none, spells
spelled_by : (field b : List ℕ) → bytes_eq field (45 ∷ []) ≡ false → hex_of field ≡ Some b → field ≡ encode_lower b
spelled_by field [] dash h = absurd (both_ways (bytes_eq field (45 ∷ [])) dash (text_same field (45 ∷ []) (hex_reads field [] h)))
spelled_by field (x ∷ xs) dash h = hex_reads field (x ∷ xs) h

pub odd_unread : (field : List ℕ) → bytes_eq field (45 ∷ []) ≡ false → (length field % 2 ≡ 0 → ⊥) → hex_of field ≡ None
odd_unread field dash odd = none_from (hex_of field) (λ b h.
    let n = length-encode_with lower_digits b in
    let m : length field ≡ 2 * length b = ap length (spelled_by field b dash h) ∙ n in
    odd (omega arith))

pub empty_unread : (field : List ℕ) → bytes_eq field (45 ∷ []) ≡ false → length field ≡ 0 → hex_of field ≡ None
empty_unread field dash none = none_from (hex_of field) (λ b h. no_bytes field b dash none h)
  where
    no_bytes : (f b : List ℕ) → bytes_eq f (45 ∷ []) ≡ false → length f ≡ 0 → hex_of f ≡ Some b → ⊥
    no_bytes f [] d z h = both_ways (bytes_eq f (45 ∷ [])) d (text_same f (45 ∷ []) (hex_reads f [] h))
    no_bytes f (x ∷ xs) d z h =
        let n = length-encode_with lower_digits (x ∷ xs) in
        let m : length f ≡ 2 * length (x ∷ xs) = ap length (hex_reads f (x ∷ xs) h) ∙ n in
        absurd (omega arith)

pub bytes_read : (field bytes : List ℕ) → (length field ≡ 0 → ⊥) → field ≡ encode_lower bytes → IsBytes bytes → hex_of field ≡ Some bytes
unfolding encode_with
bytes_read field [] some is small = absurd (some (ap length is))
bytes_read field (x ∷ xs) some is small = ap hex_of is ∙ hex_again (x ∷ xs) small

pub other_unread : (field : List ℕ) → bytes_eq field (45 ∷ []) ≡ false → ((b : List ℕ) → IsBytes b → field ≡ encode_lower b → ⊥) → hex_of field ≡ None
other_unread field dash never = none_from (hex_of field) (λ b e. never b (hex_fits field b e) (spelled_by field b dash e))
