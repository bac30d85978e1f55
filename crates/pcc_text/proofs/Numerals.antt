-- A numeral, digit by digit.
use Rattle.std.proofs.Common.{◌≡◌, ℕ, ◌<◌, ◌≤◌, ◌+◌, ◌*◌, ◌-◌, List, [], ◌∷◌, length, get_or, Bool, true, false, arith, rules, refl, sym, ap, ◌∙◌, cond, leb, drop}
use Rattle.std.specs.Prelude.{Some, None}
use Rattle.std.specs.List.{list_all}
use Rattle.std.specs.Char.{is_ascii_digit, digit_value}
use Rattle.std.specs.Str.Parse.{digits_value, digits_value_after}
use Rattle.std.proofs.lemmas.Str.Parse.{IsNumeralModel, numerals_by_value}
use Rattle.std.proofs.lemmas.Bool.Decides.{nat_tests}
use Rattle.std.proofs.lemmas.List.{drop_all}
use Rattle.pcc_text.specs.Reading.{is_numeral, number_after, number_of}

-- the digits of a field, read from the left
pub own : IsNumeralModel (λ ds. list_all is_ascii_digit ds ≡ true) (digits_value 10)
own = numerals_by_value _ (search rules)

-- a numeral is digits alone, and one at least
pub digits : (f : List ℕ) → is_numeral f ≡ true → list_all is_ascii_digit f ≡ true
digits f h = grind arith

pub long : (f : List ℕ) → is_numeral f ≡ true → 0 < length f
long f h = grind arith

-- the value of a digit
value_here : (d : ℕ) → is_ascii_digit d ≡ true → digit_value d ≡ d - 48
value_here d h = grind (arith, nat_tests)

-- one digit more
pub more : (limit n d : ℕ) (ds : List ℕ) → is_ascii_digit d ≡ true → number_after limit n (d ∷ ds) ≡ number_after limit (n * 10 + (d - 48)) ds
more limit n d ds h = rw (h, value_here d h) refl

pub no_digit : (limit n d : ℕ) (ds : List ℕ) → is_ascii_digit d ≡ false → number_after limit n (d ∷ ds) ≡ None
no_digit limit n d ds h = rw h refl

-- digits make a number no smaller
grows : (n : ℕ) (ds : List ℕ) → n ≤ digits_value_after 10 n ds
grows n [] = omega arith
grows n (d ∷ ds) = let next : n * 10 + digit_value d ≤ digits_value_after 10 (n * 10 + digit_value d) ds = grows (n * 10 + digit_value d) ds in omega arith

refused : (test : Bool) (limit v : ℕ) → limit < v → cond test (cond (leb v limit) (Some v) None) None ≡ None
refused false limit v h = refl
refused true limit v h = grind (arith, nat_tests)

pub over : (limit n : ℕ) (ds : List ℕ) → limit < n → number_after limit n ds ≡ None
over limit n ds h = let le : n ≤ digits_value_after 10 n ds = grows n ds in refused (list_all is_ascii_digit ds) limit (digits_value_after 10 n ds) (omega arith)

at_end : (limit n : ℕ) → n ≤ limit → number_after limit n [] ≡ Some n
at_end limit n h = grind (arith, nat_tests)

pub done : (limit n i : ℕ) (ds : List ℕ) → n ≤ limit → length ds ≤ i → number_after limit n (drop i ds) ≡ number_after limit 0 ds
    → Some n ≡ number_after limit 0 ds
done limit n i ds h past same = sym (at_end limit n h) ∙ ap (λ (v : List ℕ). number_after limit n v) (sym (drop_all i ds past)) ∙ same

-- what a field spells, by its first digit
pub empty : (limit : ℕ) (f : List ℕ) → length f ≡ 0 → number_of limit f ≡ None
unfolding number_of
empty limit f h = rw h refl

pub leading_zero : (limit : ℕ) (f : List ℕ) → 1 < length f → get_or f 0 0 ≡ 48 → number_of limit f ≡ None
unfolding number_of
leading_zero limit f long zero = let no : is_numeral f ≡ false = grind (arith, nat_tests) in rw no refl

-- where no zero leads, the digits alone count
all_of : (f : List ℕ) → 0 < length f → (1 < length f → ¬ (get_or f 0 0 ≡ 48)) → is_numeral f ≡ list_all is_ascii_digit f
all_of f some first = grind (arith, nat_tests)

pub digits_alone : (limit : ℕ) (f : List ℕ) → 0 < length f → (1 < length f → ¬ (get_or f 0 0 ≡ 48)) → number_of limit f ≡ number_after limit 0 f
unfolding number_of
digits_alone limit f some first = let same : is_numeral f ≡ list_all is_ascii_digit f = all_of f some first in rw same refl
