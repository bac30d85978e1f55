-- What is read is spelled so, and what is spelled so is read.
use Rattle.std.proofs.Common.{◌≡◌, ℕ, zero, suc, ◌-◌, ◌/◌, ◌%◌, ◌^◌, ◌<◌, ◌≤◌, eqb, Bool, true, false, not, cond, List, [], ◌∷◌, ◌++◌, length, get_or, refl, sym, ap, ◌∙◌, subst, arith, lit<, leb}
use Rattle.std.specs.Prelude.{Option, Some, None, Result, Ok, Err, decimal, bytes_eq, option_and_then}
use Rattle.std.specs.List.{All, AllByRecursion, list_all, join_with_byte, flat_map}
use Rattle.std.specs.Str.Parse.{AllDigits, digits_value}
use Rattle.std.proofs.lemmas.Bool.Decides.{nat_tests}
use Rattle.std.proofs.lemmas.Bool.{and_parts, eq-eqb, le-leb, leb-true, lt-leb, not-true}
use Rattle.std.proofs.lemmas.Str.Parse.{digit_from_value}
use Rattle.std.specs.Char.{is_ascii_digit}
use Rattle.std.proofs.lemmas.Fmt.{decimal-digits_value, digits_decimal, decimal_is_IsNumeral, decimal_digit, decimal_nonempty, first_decimal}
use Rattle.std.proofs.lemmas.List.{append_assoc, append-nil}
use Rattle.std.proofs.lemmas.List.Sums.{AllPass-from_list_all}
use Rattle.std.proofs.lemmas.List.Splits.{slice_split_none, slice_split_at, join_with_byte-slice_split}
use Rattle.std.proofs.lemmas.Slice.Eq.{bytes_eq-Decides}
use Rattle.hex.specs.Hex.{decode_of, encode_lower, encode_with, lower_digits}
use Rattle.hex.specs.declared.error.FromHexError.{FromHexError}
use Rattle.hex.proofs.HexLemmas.{decode_of-encode_lower, decode_of-ok}
use Rattle.pcc_bytes.specs.Bytes.{IsBytes}
use Rattle.pcc_bytes.specs.Fields.{split_at, line_text, hex_text}
use Rattle.pcc_text.specs.Reading.{hex_of, hex_from, number_of, is_numeral}
use Rattle.pcc_text.proofs.Numerals.{own, digits, long}

-- a value under a test
pub guard : {A : Type 0} (b : Bool) (o : Option A) (y : A) → cond b o None ≡ Some y → (b ≡ true) × (o ≡ Some y)
guard true o y h = (refl, h)
guard false o y h = cc

pub same_some : {A : Type 0} (x y : A) → Some x ≡ Some y → x ≡ y
same_some x y h = cc

pub bind_some : {A B : Type 0} (o : Option A) (f : A → Option B) (y : B) → option_and_then f o ≡ Some y → (x : A) × (o ≡ Some x) × (f x ≡ Some y)
bind_some (Some x) f y h = (x, refl, h)
bind_some None f y h = cc

-- no byte of a list is c, as a test that computes
abbrev pub lacks : ℕ → List ℕ → Bool
lacks c xs = list_all (λ x. not (eqb x c)) xs

pub All-from_lacks : (c : ℕ) (xs : List ℕ) → lacks c xs ≡ true → All (λ x. eqb x c ≡ false) xs
All-from_lacks c xs h k d lt = not-true _ (AllPass-from_list_all (λ (x : ℕ). not (eqb x c)) xs h k d lt)

-- no part has the byte
abbrev pub EachLacks : ℕ → List (List ℕ) → Type 0
EachLacks c parts = AllByRecursion (λ part. lacks c part ≡ true) parts

-- parts that are joined come apart again
pub split_join : (c : ℕ) (x : List ℕ) (xs : List (List ℕ)) → EachLacks c (x ∷ xs) → split_at c (join_with_byte c (x ∷ xs)) ≡ x ∷ xs
split_join c x [] h = slice_split_none (λ b. eqb b c) x (All-from_lacks c x h.0)
split_join c x (y ∷ ys) h =
    slice_split_at (λ b. eqb b c) x c (join_with_byte c (y ∷ ys)) (All-from_lacks c x h.0) (eq-eqb c c refl) ∙ ap (λ (v : List (List ℕ)). x ∷ v) (split_join c y ys h.1)

-- lines come apart again, with nothing after the last line feed
pub split_lines : (lines : List (List ℕ)) → EachLacks 10 lines → split_at 10 (flat_map line_text lines) ≡ lines ++ [] ∷ []
split_lines [] h = refl
split_lines (x ∷ xs) h =
    ap (split_at 10) (append_assoc x (10 ∷ []) (flat_map line_text xs)) ∙ slice_split_at (λ b. eqb b 10) x 10 (flat_map line_text xs) (All-from_lacks 10 x h.0) refl ∙ ap (λ (v : List (List ℕ)). x ∷ v) (split_lines xs h.1)

-- lines with nothing after the last line feed are joined to their texts
pub join_lines : (lines : List (List ℕ)) → join_with_byte 10 (lines ++ [] ∷ []) ≡ flat_map line_text lines
join_lines [] = refl
join_lines (x ∷ []) = sym (append-nil (x ++ 10 ∷ []))
join_lines (x ∷ y ∷ ys) = ap (λ (v : List ℕ). x ++ 10 ∷ v) (join_lines (y ∷ ys)) ∙ sym (append_assoc x (10 ∷ []) (flat_map line_text (y ∷ ys)))

-- a text is the join of its parts
pub text_of_parts : (c : ℕ) (text : List ℕ) (parts : List (List ℕ)) → split_at c text ≡ parts → text ≡ join_with_byte c parts
text_of_parts c text parts e = sym (join_with_byte-slice_split c text) ∙ ap (join_with_byte c) e

-- ---- numbers

pub record Number (limit : ℕ) (f : List ℕ) (n : ℕ) : Type 0 where
  pub numeral : is_numeral f ≡ true
  pub within : digits_value 10 f ≤ limit
  pub value : digits_value 10 f ≡ n

pub number_parts : (limit : ℕ) (f : List ℕ) (n : ℕ) → number_of limit f ≡ Some n → Number limit f n
unfolding number_of
number_parts limit f n h =
    let p = guard (is_numeral f) _ n h in
    let q = guard (leb (digits_value 10 f) limit) (Some (digits_value 10 f)) n p.1 in
    record { numeral = p.0; within = leb-true _ _ q.0; value = same_some _ _ q.1 }

pub no_zero : (f : List ℕ) → is_numeral f ≡ true → get_or f 0 0 ≡ 48 → length f ≡ 1
no_zero f h z = grind (arith, nat_tests)

pub number_reads : (limit : ℕ) (f : List ℕ) (n : ℕ) → limit < 2 ^ 64 → number_of limit f ≡ Some n → (f ≡ decimal n) × (n ≤ limit)
number_reads limit f n big h =
    let p = number_parts limit f n h in
    let within : digits_value 10 f ≤ limit = p.within in
    let value : digits_value 10 f ≡ n = p.value in
    let same : decimal (digits_value 10 f) ≡ f = decimal-digits_value own f (digits f p.numeral) (long f p.numeral) (no_zero f p.numeral) (omega arith) in
    (sym same ∙ ap decimal p.value, omega arith)

numeral_from : (f : List ℕ) → 0 < length f → list_all is_ascii_digit f ≡ true → 48 < get_or f 0 0 → is_numeral f ≡ true
numeral_from f l d z = grind (arith, nat_tests)

pub numeral_decimal : (n : ℕ) → n < 2 ^ 64 → is_numeral (decimal n) ≡ true
numeral_decimal zero h = let e : decimal 0 ≡ 48 ∷ [] = decimal_digit 0 (lit< tt) in rw e refl
numeral_decimal (suc m) h = numeral_from (decimal (suc m)) (decimal_nonempty (suc m) h) (digits_decimal own (suc m) h) (first_decimal (suc m) (omega arith) h)

again : (limit n : ℕ) → n ≤ limit → cond (leb n limit) (Some n) None ≡ Some n
again limit n h = grind (arith, nat_tests)

pub number_again : (limit n : ℕ) → limit < 2 ^ 64 → n ≤ limit → number_of limit (decimal n) ≡ Some n
unfolding number_of
number_again limit n big h =
    let small : n < 2 ^ 64 = omega arith in
    let numeral : is_numeral (decimal n) ≡ true = numeral_decimal n small in
    let value : digits_value 10 (decimal n) ≡ n = (decimal_is_IsNumeral n small).1 in
    rw (numeral, value) (again limit n h)

-- ---- one limit and another

-- a number that was read is read at each limit that it keeps to
pub number_within : (limit n : ℕ) (f : List ℕ) → number_of (2 ^ 64 - 1) f ≡ Some n → n ≤ limit → number_of limit f ≡ Some n
unfolding number_of
number_within limit n f h le =
    let p = number_parts (2 ^ 64 - 1) f n h in
    rw (p.numeral, p.value, le-leb n limit le) refl

-- and is refused below it
pub number_above : (limit n : ℕ) (f : List ℕ) → number_of (2 ^ 64 - 1) f ≡ Some n → limit < n → number_of limit f ≡ None
unfolding number_of
number_above limit n f h lt =
    let p = number_parts (2 ^ 64 - 1) f n h in
    rw (p.numeral, p.value, lt-leb n limit lt) refl

none_cases : (t : Bool) (most limit v : ℕ) → limit ≤ most → cond t (cond (leb v most) (Some v) None) None ≡ None
    → cond t (cond (leb v limit) (Some v) None) None ≡ None
none_cases false most limit v le h = refl
none_cases true most limit v le h = grind (arith, nat_tests)

-- what is refused is refused at each lower limit
pub number_none : (limit : ℕ) (f : List ℕ) → number_of (2 ^ 64 - 1) f ≡ None → limit < 2 ^ 64 → number_of limit f ≡ None
unfolding number_of
number_none limit f h le = none_cases (is_numeral f) (2 ^ 64 - 1) limit (digits_value 10 f) (omega arith) h

-- ---- bytes

pub same_text : (xs ys : List ℕ) → bytes_eq xs ys ≡ true → xs ≡ ys
same_text xs ys h = (bytes_eq-Decides xs ys).0 h

pub text_same : (xs ys : List ℕ) → xs ≡ ys → bytes_eq xs ys ≡ true
text_same xs ys h = (bytes_eq-Decides xs ys).1 h

hex_from_reads : (f : List ℕ) (r : Result (List ℕ) FromHexError) (b : List ℕ) → hex_from f r ≡ Some b → f ≡ hex_text b
hex_from_reads f (Ok bytes) b h =
    let p = guard (bytes_eq (hex_text bytes) f) (Some bytes) b h in
    sym (same_text (hex_text bytes) f p.0) ∙ ap hex_text (same_some bytes b p.1)
hex_from_reads f (Err e) b h = cc

hex_cases : (t : Bool) (f b : List ℕ) → bytes_eq f (45 ∷ []) ≡ t → cond t (Some []) (hex_from f (decode_of f)) ≡ Some b → f ≡ hex_text b
hex_cases true f b e h = same_text f (45 ∷ []) e ∙ ap hex_text (same_some [] b h)
hex_cases false f b e h = hex_from_reads f (decode_of f) b h

pub hex_reads : (f b : List ℕ) → hex_of f ≡ Some b → f ≡ hex_text b
unfolding hex_of
hex_reads f b h = hex_cases (bytes_eq f (45 ∷ [])) f b refl h

hex_from_fits : (f : List ℕ) (r : Result (List ℕ) FromHexError) (b : List ℕ) → decode_of f ≡ r → hex_from f r ≡ Some b → IsBytes b
hex_from_fits f (Ok bytes) b e h =
    let p = guard (bytes_eq (hex_text bytes) f) (Some bytes) b h in
    let d : decode_of f ≡ Ok b = e ∙ ap Ok (same_some bytes b p.1) in
    record { fits = (decode_of-ok f b d).3 }
hex_from_fits f (Err error) b e h = cc h

hex_cases_fit : (t : Bool) (f b : List ℕ) → cond t (Some []) (hex_from f (decode_of f)) ≡ Some b → IsBytes b
hex_cases_fit true f b h = let P : List ℕ → Type 0 = IsBytes in subst P (same_some [] b h) (record { fits = λ place. omega arith })
hex_cases_fit false f b h = hex_from_fits f (decode_of f) b refl h

-- what is read are bytes
pub hex_fits : (f b : List ℕ) → hex_of f ≡ Some b → IsBytes b
unfolding hex_of
hex_fits f b h = hex_cases_fit (bytes_eq f (45 ∷ [])) f b h

not_dash : (x : ℕ) (xs : List ℕ) → bytes_eq (encode_lower (x ∷ xs)) (45 ∷ []) ≡ false
unfolding encode_with
not_dash x xs = grind (arith, nat_tests)

pub hex_again : (b : List ℕ) → IsBytes b → hex_of (hex_text b) ≡ Some b
unfolding hex_of
hex_again [] h = refl
hex_again (x ∷ xs) h =
    let d : decode_of (encode_lower (x ∷ xs)) ≡ Ok (x ∷ xs) = decode_of-encode_lower (x ∷ xs) h.fits in
    let e : bytes_eq (encode_lower (x ∷ xs)) (encode_lower (x ∷ xs)) ≡ true = text_same (encode_lower (x ∷ xs)) (encode_lower (x ∷ xs)) refl in
    let n : bytes_eq (encode_lower (x ∷ xs)) (45 ∷ []) ≡ false = not_dash x xs in
    rw (n, d, e) refl

-- ---- what fields lack

table_lacks : (c : ℕ) (t : List ℕ) → lacks c t ≡ true → eqb 0 c ≡ false → (k : ℕ) → not (eqb (get_or t k 0) c) ≡ true
table_lacks c [] h z k = ap not z
table_lacks c (x ∷ xs) h z zero = (and_parts _ _ h).0
table_lacks c (x ∷ xs) h z (suc k) = table_lacks c xs ((and_parts (not (eqb x c)) (lacks c xs) h).1) z k

pub lacks-encode : (c : ℕ) (t xs : List ℕ) → lacks c t ≡ true → eqb 0 c ≡ false → lacks c (encode_with t xs) ≡ true
unfolding encode_with
lacks-encode c t [] h z = refl
lacks-encode c t (x ∷ xs) h z = rw (table_lacks c t h z (x / 16), table_lacks c t h z (x % 16)) (lacks-encode c t xs h z)

no_digit : (c d : ℕ) → c < 48 → 48 ≤ d → not (eqb d c) ≡ true
no_digit c d low high = grind (arith, nat_tests)

lacks-digits : (c : ℕ) (ds : List ℕ) → c < 48 → AllDigits 10 ds → lacks c ds ≡ true
lacks-digits c [] low h = refl
lacks-digits c (d ∷ ds) low h = rw (no_digit c d low (digit_from_value d h.0).0) (lacks-digits c ds low h.1)

pub lacks-decimal : (c n : ℕ) → c < 48 → n < 2 ^ 64 → lacks c (decimal n) ≡ true
lacks-decimal c n low small = lacks-digits c (decimal n) low ((decimal_is_IsNumeral n small).0.1)

pub lacks-hex_text : (c : ℕ) (xs : List ℕ) → lacks c lower_digits ≡ true → eqb 0 c ≡ false → eqb 45 c ≡ false → lacks c (hex_text xs) ≡ true
lacks-hex_text c [] h z d = rw d refl
lacks-hex_text c (x ∷ xs) h z d = lacks-encode c lower_digits (x ∷ xs) h z
