-- The bytes of numbers, and that a number's bytes are those that it was read from.
use Rattle.std.proofs.Common.{◌≡◌, ℕ, zero, suc, ◌+◌, ◌*◌, ◌/◌, ◌%◌, ◌^◌, ◌<◌, ◌≤◌, List, [], ◌∷◌, length, take, refl, sym, ap, ◌∙◌, arith}
use Rattle.std.proofs.Math.Nat.{div-div-eq-div-mul, mul_comm, pow-suc}
use Rattle.std.specs.Int.{byte_at, bytes_low_first}
use Rattle.byteorder.specs.Endian.{little_bytes, little_number}
use Rattle.byteorder.specs.Numbers.{little_from-cons}
use Rattle.pcc_bytes.specs.Bytes.{IsBytes}
use Rattle.pcc_bytes.proofs.Bytes.{IsBytes-cons, IsBytes-nil, IsBytes-tail}

pub byte_at-lt : (i v : ℕ) → byte_at i v < 256
byte_at-lt zero v = omega arith
byte_at-lt (suc i) v = omega arith

pub IsBytes-low_first : (i n v : ℕ) → IsBytes (bytes_low_first i n v)
IsBytes-low_first i zero v = IsBytes-nil
IsBytes-low_first i (suc n) v = IsBytes-cons (byte_at i v) (bytes_low_first (suc i) n v) (byte_at-lt i v) (IsBytes-low_first (suc i) n v)

-- a byte of a number, by its place, is that of the number above its lowest byte, one place lower
pub byte_at-suc : (i v : ℕ) → byte_at (suc i) v ≡ byte_at i (v / 256)
byte_at-suc zero v = refl
byte_at-suc (suc i) v =
    let e : 256 ^ suc (suc i) ≡ 256 * 256 ^ suc i = pow-suc 256 (suc i) ∙ mul_comm (256 ^ suc i) 256 in
    ap (λ (p : ℕ). v / p % 256) e ∙ ap (λ (q : ℕ). q % 256) (sym (div-div-eq-div-mul v 256 (256 ^ suc i)))

pub bytes_low_first-suc : (i n v : ℕ) → bytes_low_first (suc i) n v ≡ bytes_low_first i n (v / 256)
bytes_low_first-suc i zero v = refl
bytes_low_first-suc i (suc n) v =
    let one : byte_at (suc i) v ≡ byte_at i (v / 256) = byte_at-suc i v in
    let rest : bytes_low_first (suc (suc i)) n v ≡ bytes_low_first (suc i) n (v / 256) = bytes_low_first-suc (suc i) n v in
    cc

lowest : (byte above : ℕ) → byte < 256 → (byte + 256 * above) % 256 ≡ byte
lowest byte above small = omega arith

others : (byte above : ℕ) → byte < 256 → (byte + 256 * above) / 256 ≡ above
others byte above small = omega arith

-- the little-endian bytes of the number that n bytes spell are these bytes
pub little_bytes-little_number : (n : ℕ) (bytes : List ℕ) → n ≤ length bytes → IsBytes bytes → little_bytes n (little_number n bytes) ≡ take n bytes
little_bytes-little_number zero bytes within all = refl
little_bytes-little_number (suc n) [] within all = absurd (omega arith)
little_bytes-little_number (suc n) (byte ∷ bytes) within all =
    let above : ℕ = little_number n bytes in
    let e : little_number (suc n) (byte ∷ bytes) ≡ byte + 256 * above = ap (λ (v : ℕ). byte + 256 * v) (little_from-cons 0 n byte bytes) in
    let small : byte < 256 = all.fits 0 in
    let one : byte_at 0 (byte + 256 * above) ≡ byte = lowest byte above small in
    let rest : bytes_low_first 1 n (byte + 256 * above) ≡ take n bytes =
    bytes_low_first-suc 0 n (byte + 256 * above)
    ∙ ap (little_bytes n) (others byte above small)
    ∙ little_bytes-little_number n bytes (omega arith) (IsBytes-tail byte bytes all) in
    let both : byte_at 0 (byte + 256 * above) ∷ bytes_low_first 1 n (byte + 256 * above) ≡ byte ∷ take n bytes = cc in
    ap (little_bytes (suc n)) e ∙ both
