-- Addresses and registers have one spelling.
use Rattle.std.proofs.Common.{◌≡◌, ℕ, ◌^◌, ◌<◌, List, [], ◌∷◌, ◌++◌, length, take, drop, slice_index, refl, sym, ap, ◌∙◌, arith}
use Rattle.std.proofs.lemmas.List.{append-nil, take_all, take-append-drop, length-drop, drop-drop, get_or-drop}
use Rattle.byteorder.specs.Endian.{little_bytes, little_number}
use Rattle.byteorder.specs.Numbers.{little_number-reads_back}
use Rattle.pcc_bytes.specs.Bytes.{IsBytes, number_at}
use Rattle.pcc_bytes.proofs.Bytes.{IsBytes-drop, IsBytes-take}
use Rattle.pcc_bytes.proofs.Numbers.{little_bytes-little_number}
use Rattle.pcc_gas.specs.declared.address.Gas.{Gas}
use Rattle.pcc_gas.specs.declared.address.Register.{Register}
use Rattle.pcc_gas.specs.Addresses.{AddressBytes, RegisterBytes, address_bytes, address_in}

pub address_in-address_bytes : (gas : Gas) (rest : List ℕ) → gas.address < 2 ^ 64 → address_in (address_bytes gas ++ rest) ≡ gas
unfolding address_in address_bytes number_at
address_in-address_bytes gas rest small = rw (little_number-reads_back 8 gas.address rest small) refl

eight : (bytes : List ℕ) → length bytes ≡ 8 → IsBytes bytes → little_bytes 8 (little_number 8 bytes) ≡ bytes
eight bytes len all = little_bytes-little_number 8 bytes (omega arith) all ∙ take_all 8 bytes (omega arith)

pub address_bytes-address_in : (bytes : List ℕ) → length bytes ≡ 12 → IsBytes bytes → address_bytes (address_in bytes) ≡ bytes
unfolding address_in address_bytes number_at
address_bytes-address_in [] len all = absurd (omega arith)
address_bytes-address_in (a ∷ []) len all = absurd (omega arith)
address_bytes-address_in (a ∷ b ∷ []) len all = absurd (omega arith)
address_bytes-address_in (a ∷ b ∷ c ∷ []) len all = absurd (omega arith)
address_bytes-address_in (a ∷ b ∷ c ∷ d ∷ rest) len all =
    ap (λ (number : List ℕ). a ∷ b ∷ c ∷ d ∷ number) (eight rest (omega arith) (IsBytes-drop 4 (a ∷ b ∷ c ∷ d ∷ rest) all))

-- the bytes of an address are those that spell it
pub address_spelled : (gas : Gas) (bytes : List ℕ) → gas.address < 2 ^ 64 → bytes ≡ address_bytes gas → length bytes ≡ 12 → AddressBytes bytes gas
address_spelled gas bytes small e len =
    record { len = len; parts = ap address_in (e ∙ sym (append-nil (address_bytes gas))) ∙ address_in-address_bytes gas [] small }

pub one_address_spelling : (gas : Gas) (bytes : List ℕ) → IsBytes bytes → AddressBytes bytes gas → bytes ≡ address_bytes gas
one_address_spelling gas bytes all spelled =
    sym (address_bytes-address_in bytes spelled.len all) ∙ ap address_bytes spelled.parts

-- the bytes as they are written: four, and then those of the number
pub written : (gas : Gas) (number : List ℕ) → number ≡ little_bytes 8 gas.address → gas.space ∷ gas.width ∷ gas.offset ∷ gas.access ∷ (number ++ []) ≡ address_bytes gas
unfolding address_bytes
written gas number e = rw (append-nil number, e) refl

pub length-address_bytes : (gas : Gas) → length (address_bytes gas) ≡ 12
unfolding address_bytes
length-address_bytes gas = refl

two : (bytes : List ℕ) → length bytes ≡ 2 → bytes ≡ slice_index bytes 0 ∷ slice_index bytes 1 ∷ []
two [] len = absurd (omega arith)
two (a ∷ []) len = absurd (omega arith)
two (a ∷ b ∷ []) len = refl
two (a ∷ b ∷ c ∷ rest) len = absurd (omega arith)

-- the four parts of a register's bytes
parts : (bytes : List ℕ) → length bytes ≡ 17 → bytes ≡ take 3 bytes ++ (take 12 (drop 3 bytes) ++ (slice_index bytes 15 ∷ slice_index bytes 16 ∷ []))
parts bytes len =
    let rest : List ℕ = drop 12 (drop 3 bytes) in
    let late : rest ≡ drop 15 bytes = drop-drop 12 3 bytes in
    let ends : rest ≡ slice_index bytes 15 ∷ slice_index bytes 16 ∷ [] =
    late ∙ two (drop 15 bytes) (omega (arith, length-drop 15 bytes))
    ∙ rw (get_or-drop 15 bytes 0 0, get_or-drop 15 bytes 1 0) refl in
    sym (take-append-drop 3 bytes)
    ∙ ap (λ (more : List ℕ). take 3 bytes ++ more) (sym (take-append-drop 12 (drop 3 bytes)) ∙ ap (λ (more : List ℕ). take 12 (drop 3 bytes) ++ more) ends)

same_parts : (a b c d : List ℕ) (x y z w : ℕ) → a ≡ b → c ≡ d → x ≡ y → z ≡ w → a ++ (c ++ (x ∷ z ∷ [])) ≡ b ++ (d ++ (y ∷ w ∷ []))
same_parts a b c d x y z w p q r s = cc

pub one_register_spelling : (register : Register) (a b : List ℕ) → IsBytes a → IsBytes b → RegisterBytes a register → RegisterBytes b register → a ≡ b
one_register_spelling register a b all_a all_b p q =
    let gas = register.gas in
    let address : take 12 (drop 3 a) ≡ take 12 (drop 3 b) =
    one_address_spelling gas (take 12 (drop 3 a)) (IsBytes-take 12 (drop 3 a) (IsBytes-drop 3 a all_a)) p.address
    ∙ sym (one_address_spelling gas (take 12 (drop 3 b)) (IsBytes-take 12 (drop 3 b) (IsBytes-drop 3 b all_b)) q.address) in
    parts a p.len
    ∙ same_parts (take 3 a) (take 3 b) (take 12 (drop 3 a)) (take 12 (drop 3 b)) (slice_index a 15) (slice_index b 15) (slice_index a 16) (slice_index b 16)
    (p.head ∙ sym q.head) address (p.end_tag ∙ sym q.end_tag) (p.checksum ∙ sym q.checksum)
    ∙ sym (parts b q.len)
