-- Values that fit in their fields: their texts are read to their bytes, and what is read are such bytes.
use Rattle.std.proofs.Common.{◌≡◌, ℕ, ◌+◌, ◌%◌, ◌^◌, ◌<◌, ◌≤◌, eqb, not, cond, true, false, List, [], ◌∷◌, ◌++◌, length, take, drop, refl, sym, ap, ◌∙◌, arith, length-drop, length-take, lit<}
use Rattle.std.specs.Prelude.{Option, Some, None, decimal}
use Rattle.std.specs.List.{join_with_byte}
use Rattle.std.specs.Str.Parse.{AllDigits}
use Rattle.std.proofs.lemmas.Bool.{eq-eqb, eqb-true}
use Rattle.std.proofs.lemmas.List.Folds.{list_all-append}
use Rattle.hex.specs.Hex.{lower_digits}
use Rattle.std.proofs.lemmas.Bool.Decides.{nat_tests}
use Rattle.std.proofs.lemmas.Fmt.{decimal_is_IsNumeral}
use Rattle.std.proofs.lemmas.List.{take_at}
use Rattle.std.proofs.lemmas.Str.Parse.{digit_from_value}
use Rattle.byteorder.specs.Numbers.{length-bytes_low_first, little_from-lt, little_number-reads_back}
use Rattle.pcc_bytes.specs.Bytes.{IsBytes, number_at}
use Rattle.pcc_bytes.specs.Fields.{hex_text, split_at}
use Rattle.pcc_bytes.proofs.Bytes.{IsBytes-cons, IsBytes-drop, IsBytes-take}
use Rattle.pcc_bytes.proofs.Numbers.{IsBytes-low_first}
use Rattle.pcc_gas.specs.declared.address.Gas.{Gas}
use Rattle.pcc_gas.specs.Addresses.{address_bytes, address_in}
use Rattle.pcc_gas.proofs.Addresses.{address_in-address_bytes, length-address_bytes}
use Rattle.pcc_text.specs.Reading.{hex_of, number_of}
use Rattle.pcc_text.proofs.Laws.{bind_some, guard, hex_again, hex_fits, hex_reads, lacks, lacks-decimal, lacks-hex_text, number_again, number_reads, same_some, split_join, text_of_parts}
use Rattle.pcct_table.specs.declared.rows.Kind.{Kind}
use Rattle.pcct_table.specs.declared.rows.Kind.TheVariants.{Byte, Word, Dword, Qword, Address, Array}
use Rattle.pcct_table.specs.Rows.{Field, width}
use Rattle.pcct_table.specs.Values.{Addressed, Bytes, Number, Value, address_at, bytes_at, number_bytes, value_at, value_bytes}
use Rattle.pcct_table.specs.ShowText.{address_text, value_text, word}
use Rattle.pcct_table.specs.ShowReading.{◌then◌, part, read_address, read_array, read_number, read_parts, read_value}

-- ---- what fits

pub record FitsGas (gas : Gas) : Type 0 where
  pub space : gas.space < 256
  pub width : gas.width < 256
  pub offset : gas.offset < 256
  pub access : gas.access < 256
  pub address : gas.address < 2 ^ 64

pub record FitsArray (n : ℕ) (bytes : List ℕ) : Type 0 where
  pub len : length bytes ≡ n
  pub fit : IsBytes bytes

-- a value that a field of this kind may have
abbrev pub Fits : Kind → Value → Type 0
Fits Byte (Number x) = x < 2 ^ 8
Fits Word (Number x) = x < 2 ^ 16
Fits Dword (Number x) = x < 2 ^ 32
Fits Qword (Number x) = x < 2 ^ 64
Fits Address (Addressed gas) = FitsGas gas
Fits (Array n) (Bytes bytes) = FitsArray n bytes
Fits k v = ⊥

-- what bytes say fits
pub value_fits : (k : Kind) (at : ℕ) (b : List ℕ) → IsBytes b → at + width k ≤ length b → Fits k (value_at k at b)
unfolding number_at address_at bytes_at address_in
value_fits Byte at b h long = let lt = little_from-lt 0 1 (drop at b) (IsBytes-drop at b h).fits in omega (arith, lt)
value_fits Word at b h long = let lt = little_from-lt 0 2 (drop at b) (IsBytes-drop at b h).fits in omega (arith, lt)
value_fits Dword at b h long = let lt = little_from-lt 0 4 (drop at b) (IsBytes-drop at b h).fits in omega (arith, lt)
value_fits Qword at b h long = let lt = little_from-lt 0 8 (drop at b) (IsBytes-drop at b h).fits in omega (arith, lt)
value_fits Address at b h long =
    let c = take 12 (drop at b) in
    let f = IsBytes-take 12 (drop at b) (IsBytes-drop at b h) in
    let lt = little_from-lt 0 8 (drop 4 c) (IsBytes-drop 4 c f).fits in
    record { space = f.fits 0; width = f.fits 1; offset = f.fits 2; access = f.fits 3; address = omega (arith, lt) }
value_fits (Array n) at b h long = record { len = omega (arith, length-take n (drop at b), length-drop at b); fit = IsBytes-take n (drop at b) (IsBytes-drop at b h) }

-- ---- a value and its bytes

number_back : (n x : ℕ) (rest : List ℕ) → x < 256 ^ n → number_at n 0 (number_bytes n x ++ rest) ≡ x
unfolding number_at number_bytes
number_back n x rest small = little_number-reads_back n x rest small

-- a value is what its bytes say
pub value_back : (k : Kind) (v : Value) (rest : List ℕ) → Fits k v → value_at k 0 (value_bytes k v ++ rest) ≡ v
unfolding address_at bytes_at
value_back Byte (Number x) rest h = ap Number (number_back 1 x rest (omega arith))
value_back Word (Number x) rest h = ap Number (number_back 2 x rest (omega arith))
value_back Dword (Number x) rest h = ap Number (number_back 4 x rest (omega arith))
value_back Qword (Number x) rest h = ap Number (number_back 8 x rest (omega arith))
value_back Address (Addressed gas) rest h =
    ap Addressed (ap address_in (take_at (address_bytes gas) rest 12 (length-address_bytes gas) ∙ sym (nil (address_bytes gas))) ∙ address_in-address_bytes gas [] h.address)
  where
    nil : (xs : List ℕ) → xs ++ [] ≡ xs
    nil [] = refl
    nil (x ∷ xs) = ap (λ (v : List ℕ). x ∷ v) (nil xs)
value_back (Array n) (Bytes bytes) rest h = ap Bytes (take_at bytes rest n h.len)
value_back k v rest h = absurd h

pub number_len : (n x : ℕ) → length (number_bytes n x) ≡ n
unfolding number_bytes
number_len n x = length-bytes_low_first 0 n x

pub value_len : (k : Kind) (v : Value) → Fits k v → length (value_bytes k v) ≡ width k
value_len Byte (Number x) h = number_len 1 x
value_len Word (Number x) h = number_len 2 x
value_len Dword (Number x) h = number_len 4 x
value_len Qword (Number x) h = number_len 8 x
value_len Address (Addressed gas) h = length-address_bytes gas
value_len (Array n) (Bytes bytes) h = h.len
value_len k v h = absurd h

number_fit : (n x : ℕ) → IsBytes (number_bytes n x)
unfolding number_bytes
number_fit n x = IsBytes-low_first 0 n x

gas_fit : (gas : Gas) → FitsGas gas → IsBytes (address_bytes gas)
unfolding address_bytes
gas_fit gas h =
    IsBytes-cons gas.space _ h.space (IsBytes-cons gas.width _ h.width (IsBytes-cons gas.offset _ h.offset (IsBytes-cons gas.access _ h.access (IsBytes-low_first 0 8 gas.address))))

pub value_bytes_fit : (k : Kind) (v : Value) → Fits k v → IsBytes (value_bytes k v)
value_bytes_fit Byte (Number x) h = number_fit 1 x
value_bytes_fit Word (Number x) h = number_fit 2 x
value_bytes_fit Dword (Number x) h = number_fit 4 x
value_bytes_fit Qword (Number x) h = number_fit 8 x
value_bytes_fit Address (Addressed gas) h = gas_fit gas h
value_bytes_fit (Array n) (Bytes bytes) h = h.fit
value_bytes_fit k v h = absurd h

-- ---- a value and its text

number_again_bytes : (n limit x : ℕ) → limit < 2 ^ 64 → x ≤ limit → read_number n limit (decimal x) ≡ Some (number_bytes n x)
unfolding read_number
number_again_bytes n limit x big h = rw (number_again limit x big h) refl

array_again : (n : ℕ) (bytes : List ℕ) → FitsArray n bytes → read_array n (hex_text bytes) ≡ Some bytes
unfolding read_array
array_again n bytes h = rw (hex_again bytes h.fit, h.len, eq-eqb n n refl) refl

no_colon : (d : ℕ) → d < 58 → not (eqb d 58) ≡ true
no_colon d h = grind (arith, nat_tests)

lacks-colon : (ds : List ℕ) → AllDigits 10 ds → lacks 58 ds ≡ true
lacks-colon [] h = refl
lacks-colon (d ∷ ds) h = let q = digit_from_value d h.0 in rw (no_colon d (omega (arith, q.1))) (lacks-colon ds h.1)

decimal_lacks : (n : ℕ) → n < 2 ^ 64 → lacks 58 (decimal n) ≡ true
decimal_lacks n small = lacks-colon (decimal n) ((decimal_is_IsNumeral n small).0.1)

-- a byte is its lowest byte
low : (n : ℕ) → n < 256 → n % 256 ≡ n
low n h = omega arith

parts_again : (gas : Gas) → FitsGas gas
    → read_parts (decimal gas.space ∷ decimal gas.width ∷ decimal gas.offset ∷ decimal gas.access ∷ decimal gas.address ∷ []) ≡ Some (address_bytes gas)
unfolding number_bytes address_bytes
parts_again gas h =
    rw (
      number_again_bytes 1 255 gas.space (lit< tt) (omega arith),
      number_again_bytes 1 255 gas.width (lit< tt) (omega arith),
      number_again_bytes 1 255 gas.offset (lit< tt) (omega arith),
      number_again_bytes 1 255 gas.access (lit< tt) (omega arith),
      number_again_bytes 8 18446744073709551615 gas.address (lit< tt) (omega arith),
      low gas.space h.space,
      low gas.width h.width,
      low gas.offset h.offset,
      low gas.access h.access,
    ) refl

address_again : (gas : Gas) → FitsGas gas → read_address (address_text gas) ≡ Some (address_bytes gas)
unfolding read_address address_text
address_again gas h =
    ap read_parts (split_join 58 (decimal gas.space) (decimal gas.width ∷ decimal gas.offset ∷ decimal gas.access ∷ decimal gas.address ∷ []) (decimal_lacks gas.space (omega arith), (decimal_lacks gas.width (omega arith), (decimal_lacks gas.offset (omega arith), (decimal_lacks gas.access (omega arith), (decimal_lacks gas.address h.address, tt))))))
    ∙ parts_again gas h

-- a value's text is read to its bytes
pub value_again : (k : Kind) (v : Value) → Fits k v → read_value k (value_text v) ≡ Some (value_bytes k v)
value_again Byte (Number x) h = number_again_bytes 1 255 x (lit< tt) (omega arith)
value_again Word (Number x) h = number_again_bytes 2 65535 x (lit< tt) (omega arith)
value_again Dword (Number x) h = number_again_bytes 4 4294967295 x (lit< tt) (omega arith)
value_again Qword (Number x) h = number_again_bytes 8 18446744073709551615 x (lit< tt) (omega arith)
value_again Address (Addressed gas) h = address_again gas h
value_again (Array n) (Bytes bytes) h = array_again n bytes h
value_again k v h = absurd h

-- the value of a text that was read to bytes
pub record Reads (k : Kind) (text bytes : List ℕ) : Type 0 where
  pub value : Value
  pub fits : Fits k value
  pub text_is : text ≡ value_text value
  pub bytes_are : bytes ≡ value_bytes k value

record ReadsNumber (n limit : ℕ) (text bytes : List ℕ) : Type 0 where
  number : ℕ
  within : number ≤ limit
  text_is : text ≡ decimal number
  bytes_are : bytes ≡ number_bytes n number

number_found : (n limit : ℕ) (text bytes : List ℕ) → limit < 2 ^ 64 → read_number n limit text ≡ Some bytes → ReadsNumber n limit text bytes
unfolding read_number
number_found n limit text bytes big h =
    let p = bind_some (number_of limit text) (λ x. Some (number_bytes n x)) bytes h in
    let q = number_reads limit text p.0 big p.1 in
    record { number = p.0; within = q.1; text_is = q.0; bytes_are = sym (same_some _ _ p.2) }

array_found : (n : ℕ) (text bytes : List ℕ) → read_array n text ≡ Some bytes → Reads (Array n) text bytes
unfolding read_array
array_found n text bytes h =
    let p = bind_some (hex_of text) (λ x. cond (eqb (length x) n) (Some x) None) bytes h in
    let q = guard (eqb (length p.0) n) (Some p.0) bytes p.2 in
    record {
      value = Bytes p.0;
      fits = record { len = eqb-true _ _ q.0; fit = hex_fits text p.0 p.1 };
      text_is = hex_reads text p.0 p.1;
      bytes_are = sym (same_some _ _ q.1);
    }

pub both_found : (a b : Option (List ℕ)) (bs : List ℕ) → a then b ≡ Some bs → (x : List ℕ) × (y : List ℕ) × (a ≡ Some x) × (b ≡ Some y) × (x ++ y ≡ bs)
both_found None b bs h = cc
both_found (Some x) None bs h = cc
both_found (Some x) (Some y) bs h = (x, y, refl, refl, same_some _ _ h)

five : (ps : List (List ℕ)) → length ps ≡ 5 → ps ≡ part ps 0 ∷ part ps 1 ∷ part ps 2 ∷ part ps 3 ∷ part ps 4 ∷ []
five [] h = absurd (omega arith)
five (a ∷ []) h = absurd (omega arith)
five (a ∷ b ∷ []) h = absurd (omega arith)
five (a ∷ b ∷ c ∷ []) h = absurd (omega arith)
five (a ∷ b ∷ c ∷ d ∷ []) h = absurd (omega arith)
five (a ∷ b ∷ c ∷ d ∷ e ∷ []) h = refl
five (a ∷ b ∷ c ∷ d ∷ e ∷ f ∷ ps) h = absurd (omega arith)

address_cells : (gas : Gas) → FitsGas gas
    → number_bytes 1 gas.space ++ (number_bytes 1 gas.width ++ (number_bytes 1 gas.offset ++ (number_bytes 1 gas.access ++ number_bytes 8 gas.address)))
    ≡ address_bytes gas
unfolding number_bytes address_bytes
address_cells gas h = rw (low gas.space h.space, low gas.width h.width, low gas.offset h.offset, low gas.access h.access) refl

address_found : (text bytes : List ℕ) → read_address text ≡ Some bytes → Reads Address text bytes
unfolding read_address address_text
address_found text bytes h =
    let ps = split_at 58 text in
    let g = guard (eqb (length ps) 5) (read_number 1 255 (part ps 0) then (read_number 1 255 (part ps 1) then (read_number 1 255 (part ps 2) then (read_number 1 255 (part ps 3) then read_number 8 18446744073709551615 (part ps 4))))) bytes h in
    let len : length ps ≡ 5 = eqb-true _ _ g.0 in
    let p0 = both_found (read_number 1 255 (part ps 0)) _ bytes g.1 in
    let p1 = both_found (read_number 1 255 (part ps 1)) _ p0.1 p0.3 in
    let p2 = both_found (read_number 1 255 (part ps 2)) _ p1.1 p1.3 in
    let p3 = both_found (read_number 1 255 (part ps 3)) (read_number 8 18446744073709551615 (part ps 4)) p2.1 p2.3 in
    let n0 = number_found 1 255 (part ps 0) p0.0 (lit< tt) p0.2 in
    let n1 = number_found 1 255 (part ps 1) p1.0 (lit< tt) p1.2 in
    let n2 = number_found 1 255 (part ps 2) p2.0 (lit< tt) p2.2 in
    let n3 = number_found 1 255 (part ps 3) p3.0 (lit< tt) p3.2 in
    let n4 = number_found 8 18446744073709551615 (part ps 4) p3.1 (lit< tt) p3.3 in
    let gas : Gas = record { space = n0.number; width = n1.number; offset = n2.number; access = n3.number; address = n4.number } in
    let fits : FitsGas gas = record {
      space = below n0.number n0.within;
      width = below n1.number n1.within;
      offset = below n2.number n2.within;
      access = below n3.number n3.within;
      address = most n4.number n4.within;
    } in
    let cells : bytes ≡ number_bytes 1 n0.number ++ (number_bytes 1 n1.number ++ (number_bytes 1 n2.number ++ (number_bytes 1 n3.number ++ number_bytes 8 n4.number))) =
    sym p0.4 ∙ cells_of p0.0 p0.1 n0.number _ n0.bytes_are (sym p1.4 ∙ cells_of p1.0 p1.1 n1.number _ n1.bytes_are (sym p2.4 ∙ cells_of p2.0 p2.1 n2.number _ n2.bytes_are (sym p3.4 ∙ cells_of p3.0 p3.1 n3.number _ n3.bytes_are n4.bytes_are))) in
    record {
      value = Addressed gas;
      fits = fits;
      text_is = text_of_parts 58 text ps refl ∙ ap (join_with_byte 58) (five ps len ∙ parts_of (part ps 0) (part ps 1) (part ps 2) (part ps 3) (part ps 4) n0.number n1.number n2.number n3.number n4.number n0.text_is n1.text_is n2.text_is n3.text_is n4.text_is);
      bytes_are = cells ∙ address_cells gas fits;
    }
  where
    cells_of : (x y : List ℕ) (n : ℕ) (z : List ℕ) → x ≡ number_bytes 1 n → y ≡ z → x ++ y ≡ number_bytes 1 n ++ z
    cells_of x y n z e f = ap (λ (v : List ℕ). v ++ y) e ∙ ap (λ (v : List ℕ). number_bytes 1 n ++ v) f

    parts_of : (a b c d e : List ℕ) (na nb nc nd ne : ℕ) → a ≡ decimal na → b ≡ decimal nb → c ≡ decimal nc → d ≡ decimal nd → e ≡ decimal ne → a ∷ b ∷ c ∷ d ∷ e ∷ [] ≡ decimal na ∷ decimal nb ∷ decimal nc ∷ decimal nd ∷ decimal ne ∷ []
    parts_of a b c d e na nb nc nd ne p q r s t = cc

    below : (n : ℕ) → n ≤ 255 → n < 256
    below n h = omega arith

    most : (n : ℕ) → n ≤ 18446744073709551615 → n < 2 ^ 64
    most n h = omega arith

pub value_found : (k : Kind) (text bytes : List ℕ) → read_value k text ≡ Some bytes → Reads k text bytes
value_found Byte text bytes h = let p = number_found 1 255 text bytes (lit< tt) h in let le : p.number ≤ 255 = p.within in record { value = Number p.number; fits = omega arith; text_is = p.text_is; bytes_are = p.bytes_are }
value_found Word text bytes h = let p = number_found 2 65535 text bytes (lit< tt) h in let le : p.number ≤ 65535 = p.within in record { value = Number p.number; fits = omega arith; text_is = p.text_is; bytes_are = p.bytes_are }
value_found Dword text bytes h = let p = number_found 4 4294967295 text bytes (lit< tt) h in let le : p.number ≤ 4294967295 = p.within in record { value = Number p.number; fits = omega arith; text_is = p.text_is; bytes_are = p.bytes_are }
value_found Qword text bytes h = let p = number_found 8 18446744073709551615 text bytes (lit< tt) h in let le : p.number ≤ 18446744073709551615 = p.within in record { value = Number p.number; fits = omega arith; text_is = p.text_is; bytes_are = p.bytes_are }
value_found Address text bytes h = address_found text bytes h
value_found (Array n) text bytes h = array_found n text bytes h

-- ---- what values lack

-- a byte that stands in no value's text
pub record IsCut (c : ℕ) : Type 0 where
  pub some : 0 < c
  pub low : c < 45
  pub digits : lacks c lower_digits ≡ true

pub lacks-append : (c : ℕ) (xs ys : List ℕ) → lacks c xs ≡ true → lacks c ys ≡ true → lacks c (xs ++ ys) ≡ true
lacks-append c xs ys h k = list_all-append (λ (x : ℕ). not (eqb x c)) xs ys ∙ rw (h, k) refl

apart : (c d : ℕ) → c < d → not (eqb d c) ≡ true
apart c d h = grind (arith, nat_tests)

differs : (c d : ℕ) → c < d → eqb d c ≡ false
differs c d h = grind (arith, nat_tests)

below_zero : (c : ℕ) → 0 < c → eqb 0 c ≡ false
below_zero c h = grind (arith, nat_tests)

-- a byte behind other bytes
lacks-behind : (c : ℕ) (xs : List ℕ) (d : ℕ) (ys : List ℕ) → c < d → lacks c xs ≡ true → lacks c ys ≡ true → lacks c (xs ++ d ∷ ys) ≡ true
lacks-behind c xs d ys lt h k = lacks-append c xs (d ∷ ys) h (rw (apart c d lt) k)

pub number_lacks : (c n : ℕ) → IsCut c → n < 2 ^ 64 → lacks c (decimal n) ≡ true
number_lacks c n cut small = let low : c < 45 = cut.low in lacks-decimal c n (omega arith) small

gas_lacks : (c : ℕ) (gas : Gas) → IsCut c → FitsGas gas → lacks c (address_text gas) ≡ true
unfolding address_text
gas_lacks c gas cut h =
    let low : c < 45 = cut.low in
    let lt : c < 58 = omega arith in
    lacks-behind c (decimal gas.space) 58 _ lt (number_lacks c gas.space cut (omega arith)) (lacks-behind c (decimal gas.width) 58 _ lt (number_lacks c gas.width cut (omega arith)) (lacks-behind c (decimal gas.offset) 58 _ lt (number_lacks c gas.offset cut (omega arith)) (lacks-behind c (decimal gas.access) 58 (decimal gas.address) lt (number_lacks c gas.access cut (omega arith)) (number_lacks c gas.address cut h.address))))

value_lacks : (c : ℕ) (k : Kind) (v : Value) → IsCut c → Fits k v → lacks c (value_text v) ≡ true
value_lacks c Byte (Number x) cut h = number_lacks c x cut (omega arith)
value_lacks c Word (Number x) cut h = number_lacks c x cut (omega arith)
value_lacks c Dword (Number x) cut h = number_lacks c x cut (omega arith)
value_lacks c Qword (Number x) cut h = number_lacks c x cut h
value_lacks c Address (Addressed gas) cut h = gas_lacks c gas cut h
value_lacks c (Array n) (Bytes bytes) cut h = lacks-hex_text c bytes cut.digits (below_zero c cut.some) (differs c 45 cut.low)
value_lacks c k v cut h = absurd h

-- nor does it stand in a word whose name lacks it
pub word_lacks : (c : ℕ) (f : Field) (v : Value) → IsCut c → lacks c f.name ≡ true → Fits f.kind v → lacks c (word f v) ≡ true
word_lacks c f v cut name h =
    let low : c < 45 = cut.low in
    lacks-behind c f.name 61 (value_text v) (omega arith) name (value_lacks c f.kind v cut h)
