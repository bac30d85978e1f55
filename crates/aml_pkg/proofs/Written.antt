-- What is written is the spelling.
use Rattle.std.proofs.Common.{◌≡◌, ℕ, zero, suc, ◌+◌, ◌/◌, ◌^◌, ◌<◌, ◌≤◌, List, [], ◌∷◌, ◌++◌, length, take, refl, arith, append_assoc}
use Rattle.std.proofs.lemmas.List.{take_at, length-append}
use Rattle.byteorder.specs.Endian.{little_bytes}
use Rattle.byteorder.specs.Numbers.{length-bytes_low_first}
use Rattle.aml_pkg.specs.declared.item.Form.{Form}
use Rattle.aml_pkg.specs.declared.item.Form.TheVariants.{Zero, One, Ones, Byte, Word, Dword, Qword}
use Rattle.aml_pkg.specs.declared.item.Len.{Len}
use Rattle.aml_pkg.specs.Spelling.{size_of, HasForm, int_bytes, buffer_body, IsBuffer, len_bytes, len_limit, len_spelling, IsLen}
use Rattle.aml_pkg.specs.declared.item.Int.{Int}
use Rattle.aml_pkg.specs.declared.item.Buffer.{Buffer}
use Rattle.aml_pkg.proofs.Lens.{high_below, length-len_bytes}

pub front_of_buffer : (n v : ℕ) (rest : List ℕ) → take n (little_bytes n v ++ rest) ≡ little_bytes n v
front_of_buffer n v rest = take_at (little_bytes n v) rest n (length-bytes_low_first 0 n v)

pub form_fits : (f : Form) (v : ℕ) → HasForm f v → 0 < size_of f → v < 256 ^ size_of f
form_fits Zero v h some = absurd (omega arith)
form_fits One v h some = absurd (omega arith)
form_fits Ones v h some = absurd (omega arith)
form_fits Byte v h some = h
form_fits Word v h some = h
form_fits Dword v h some = h
form_fits Qword v h some = h

pub no_bytes : (n v : ℕ) → n ≡ 0 → little_bytes n v ≡ []
no_bytes zero v e = refl
no_bytes (suc n) v e = absurd (omega arith)

pub op_then : (out bytes : List ℕ) (op : ℕ) → (out ++ op ∷ []) ++ bytes ≡ out ++ op ∷ bytes
op_then out bytes op = append_assoc out (op ∷ []) bytes

pub len_high : (f v : ℕ) → 0 < f → v < len_limit f → v / 16 < 256 ^ f
len_high zero v some h = absurd (omega arith)
len_high (suc f) v some h = high_below v (256 ^ suc f) h

pub len_one : (f v : ℕ) → f ≡ 0 → len_spelling f v ≡ v ∷ []
len_one zero v e = refl
len_one (suc f) v e = absurd (omega arith)

pub package_written : (a b : List ℕ) → ([] ++ 0x12 ∷ []) ++ a ++ b ≡ 0x12 ∷ a ++ b
package_written a b = refl

-- the greatest length with at most three more bytes
pub limit_three : (f v : ℕ) → f ≤ 3 → v < len_limit f → v < 2 ^ 31
limit_three zero v few h = omega arith
limit_three (suc zero) v few h = omega arith
limit_three (suc (suc zero)) v few h = omega arith
limit_three (suc (suc (suc zero))) v few h = omega arith
limit_three (suc (suc (suc (suc f)))) v few h = absurd (omega arith)

pub limit_small : (l : Len) → IsLen l → l.value < 2 ^ 31
limit_small l h = limit_three l.follow l.value h.few h.fits

pub length_int : (i : Int) → length (int_bytes i) ≡ 1 + size_of i.form
length_int i = omega (arith, length-bytes_low_first 0 (size_of i.form) i.value)

pub length_buffer : (b : Buffer) → IsBuffer b → length (0x11 ∷ len_bytes b.len ++ buffer_body b) ≡ 1 + b.len.value
length_buffer b h =
    let whole : b.len.value ≡ 1 + b.len.follow + length (buffer_body b) = h.counts.whole in
    omega (arith, length-append (len_bytes b.len) (buffer_body b), length-len_bytes b.len.follow b.len.value)

pub value_small : (b : Buffer) → IsBuffer b → b.len.value < 2 ^ 31
value_small b h = limit_small b.len h.counts.is
