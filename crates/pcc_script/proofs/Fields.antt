-- A field that is read is spelled so, and what is spelled so is read.
use Rattle.std.proofs.Common.{◌≡◌, ℕ, zero, suc, ◌^◌, ◌<◌, ◌≤◌, eqb, Bool, true, false, cond, List, [], ◌∷◌, length, map, refl, sym, ap, ◌∙◌, subst, arith, lit<}
use Rattle.std.specs.Prelude.{Option, Some, None, Ok, Err, IfSome, decimal, codes, bytes_eq}
use Rattle.std.proofs.lemmas.Bool.Decides.{nat_tests}
use Rattle.pcc_bytes.specs.Fields.{hex_text}
use Rattle.pcc_text.specs.Reading.{hex_of, number_of}
use Rattle.pcc_text.proofs.Laws.{lacks, number_reads, number_again, hex_reads, hex_again, hex_fits, lacks-decimal, lacks-hex_text, same_text, same_some}
use Rattle.pcc_script.specs.declared.word.Word.{Word}
use Rattle.pcc_script.specs.declared.word.Word.TheVariants as word
use Rattle.pcc_script.specs.declared.scenario.Letter.{Letter}
use Rattle.pcc_script.specs.declared.scenario.Letter.TheVariants.{O, P}
use Rattle.pcc_script.specs.declared.fault.ScriptKind.{ScriptKind}
use Rattle.pcc_script.specs.declared.fault.ScriptKind.TheVariants as kind
use Rattle.pcc_script.specs.Rows.{Value, OfNumber, OfOptional, OfBytes, OfDevice, OfLetters, Limit, Worker, Cpu, Id, Code, Polls, Hold, Any, DeviceName, NamedBank, NamedCppc, Kind, Whole, Positive, Optional, HexBytes, DeviceText, LetterText, IsOf, most_of, spell, letter_text, field_fault, text_of}
use Rattle.pcc_script.specs.Reading.{number_value, positive_value, some_value, bytes_value, letters_value, letter_of, letters_of, consed, read_field}

limit_small : (l : Limit) → most_of l < 2 ^ 64
limit_small Worker = lit< tt
limit_small Cpu = lit< tt
limit_small Id = lit< tt
limit_small Code = lit< tt
limit_small Any = lit< tt
limit_small Polls = lit< tt
limit_small Hold = lit< tt

-- ---- what is read

number_is : (o : Option ℕ) (v : Value) → number_value o ≡ Ok v → (n : ℕ) × (o ≡ Some n) × (v ≡ OfNumber n)
number_is (Some n) v h = (n, refl, cc)
number_is None v h = cc

positive_is : (o : Option ℕ) (v : Value) → positive_value o ≡ Ok v → (n : ℕ) × (o ≡ Some n) × (v ≡ OfNumber n) × (1 ≤ n)
positive_is (Some zero) v h = cc
positive_is (Some (suc n)) v h = (suc n, refl, cc, omega arith)
positive_is None v h = cc

some_is : (o : Option ℕ) (v : Value) → some_value o ≡ Ok v → (n : ℕ) × (o ≡ Some n) × (v ≡ OfOptional (Some n))
some_is (Some n) v h = (n, refl, cc)
some_is None v h = cc

bytes_is : (o : Option (List ℕ)) (v : Value) → bytes_value o ≡ Ok v → (b : List ℕ) × (o ≡ Some b) × (v ≡ OfBytes b)
bytes_is (Some b) v h = (b, refl, cc)
bytes_is None v h = cc

letters_is : (o : Option (List Letter)) (v : Value) → letters_value o ≡ Ok v → (ls : List Letter) × (o ≡ Some ls) × (v ≡ OfLetters ls) × (1 ≤ length ls)
letters_is (Some []) v h = cc
letters_is (Some (l ∷ ls)) v h = (l ∷ ls, refl, cc, omega arith)
letters_is None v h = cc

letter_cases : (b : ℕ) (l : Letter) (t u : Bool) → eqb b 111 ≡ t → eqb b 112 ≡ u → cond t (Some O) (cond u (Some P) None) ≡ Some l → b ≡ letter_text l
letter_cases b O true u e d h = grind (arith, nat_tests)
letter_cases b P true u e d h = cc
letter_cases b O false true e d h = cc
letter_cases b P false true e d h = grind (arith, nat_tests)
letter_cases b l false false e d h = cc

consed_some : {X : Type 0} (o : Option X) (os : Option (List X)) (ys : List X) → consed o os ≡ Some ys
    → (x : X) × (xs : List X) × (o ≡ Some x) × (os ≡ Some xs) × (x ∷ xs ≡ ys)
consed_some (Some x) (Some xs) ys h = (x, xs, refl, refl, same_some (x ∷ xs) ys h)
consed_some (Some x) None ys h = cc
consed_some None os ys h = cc

letters_read : (f : List ℕ) (ls : List Letter) → letters_of f ≡ Some ls → f ≡ map letter_text ls
letters_read [] ls h = ap (map letter_text) (same_some [] ls h)
letters_read (b ∷ bs) ls h =
    let p = consed_some (letter_of b) (letters_of bs) ls h in
    let e : b ≡ letter_text p.0 = letter_cases b p.0 (eqb b 111) (eqb b 112) refl refl p.2 in
    let es : bs ≡ map letter_text p.1 = letters_read bs p.1 p.3 in
    let same : b ∷ bs ≡ letter_text p.0 ∷ map letter_text p.1 = cc in
    same ∙ ap (map letter_text) p.4

letter_again : (l : Letter) → letter_of (letter_text l) ≡ Some l
letter_again O = refl
letter_again P = refl

letters_again : (ls : List Letter) → letters_of (map letter_text ls) ≡ Some ls
letters_again [] = refl
letters_again (l ∷ ls) = rw (letter_again l, letters_again ls) refl

-- a value of a kind with this text
pub record Spelled (k : Kind) (f : List ℕ) (v : Value) : Type 0 where
  pub is : IsOf k v
  pub text : f ≡ spell v

choice_reads : (t : Bool) (f : List ℕ) (v : Value) → bytes_eq f (45 ∷ []) ≡ t
    → cond t (Ok (OfOptional None)) (some_value (number_of (most_of Any) f)) ≡ Ok v → Spelled Optional f v
choice_reads true f v e h =
    let same : OfOptional None ≡ v = cc in
    subst (Spelled Optional f) same (record { is = (None, refl, tt); text = same_text f (45 ∷ []) e })
choice_reads false f v e h =
    let p = some_is (number_of (most_of Any) f) v h in
    let q = number_reads (most_of Any) f p.0 (limit_small Any) p.1 in
    subst (Spelled Optional f) (sym p.2) (record { is = (Some p.0, refl, q.1); text = q.0 })

device_reads : (t u : Bool) (f : List ℕ) (v : Value) → bytes_eq f (codes "cppc") ≡ t → bytes_eq f (codes "bank") ≡ u
    → cond t (Ok (OfDevice NamedCppc)) (cond u (Ok (OfDevice NamedBank)) (Err (field_fault DeviceText))) ≡ Ok v → Spelled DeviceText f v
device_reads true u f v e d h =
    let same : OfDevice NamedCppc ≡ v = cc in
    subst (Spelled DeviceText f) same (record { is = (NamedCppc, refl); text = same_text f (codes "cppc") e })
device_reads false true f v e d h =
    let same : OfDevice NamedBank ≡ v = cc in
    subst (Spelled DeviceText f) same (record { is = (NamedBank, refl); text = same_text f (codes "bank") d })
device_reads false false f v e d h = cc

pub field_reads : (k : Kind) (f : List ℕ) (v : Value) → read_field k f ≡ Ok v → Spelled k f v
unfolding read_field
field_reads (Whole l) f v h =
    let p = number_is (number_of (most_of l) f) v h in
    let q = number_reads (most_of l) f p.0 (limit_small l) p.1 in
    subst (Spelled (Whole l) f) (sym p.2) (record { is = (p.0, refl, q.1); text = q.0 })
field_reads (Positive l) f v h =
    let p = positive_is (number_of (most_of l) f) v h in
    let q = number_reads (most_of l) f p.0 (limit_small l) p.1 in
    subst (Spelled (Positive l) f) (sym p.2) (record { is = (p.0, refl, p.3, q.1); text = q.0 })
field_reads Optional f v h = choice_reads (bytes_eq f (45 ∷ [])) f v refl h
field_reads HexBytes f v h =
    let p = bytes_is (hex_of f) v h in
    subst (Spelled HexBytes f) (sym p.2) (record { is = (p.0, refl, hex_fits f p.0 p.1); text = hex_reads f p.0 p.1 })
field_reads DeviceText f v h = device_reads (bytes_eq f (codes "cppc")) (bytes_eq f (codes "bank")) f v refl refl h
field_reads LetterText f v h =
    let p = letters_is (letters_of f) v h in
    subst (Spelled LetterText f) (sym p.2) (record { is = (p.0, refl, p.3); text = letters_read f p.0 p.1 })

-- ---- what is spelled

positive_again : (n : ℕ) → 1 ≤ n → positive_value (Some n) ≡ Ok (OfNumber n)
positive_again zero h = absurd (omega arith)
positive_again (suc n) h = refl

letters_some : (ls : List Letter) → 1 ≤ length ls → letters_value (Some ls) ≡ Ok (OfLetters ls)
letters_some [] h = absurd (omega arith)
letters_some (l ∷ ls) h = refl

not_dash : (n : ℕ) (t : Bool) → n < 2 ^ 64 → bytes_eq (decimal n) (45 ∷ []) ≡ t → t ≡ false
not_dash n false h e = refl
not_dash n true h e =
    let l : lacks 45 (decimal n) ≡ true = lacks-decimal 45 n (lit< tt) h in
    let bad : true ≡ false = sym l ∙ ap (lacks 45) (same_text (decimal n) (45 ∷ []) e) in
    cc

no_dash : (n : ℕ) → n < 2 ^ 64 → bytes_eq (decimal n) (45 ∷ []) ≡ false
no_dash n h = not_dash n (bytes_eq (decimal n) (45 ∷ [])) h refl

choice_again : (o : Option ℕ) → IfSome o (λ n. n ≤ most_of Any) → read_field Optional (spell (OfOptional o)) ≡ Ok (OfOptional o)
unfolding read_field
choice_again None h = refl
choice_again (Some n) h =
    let small : n < 2 ^ 64 = omega (arith, limit_small Any) in
    rw (no_dash n small, number_again (most_of Any) n (limit_small Any) h) refl

device_again : (b : DeviceName) → read_field DeviceText (spell (OfDevice b)) ≡ Ok (OfDevice b)
unfolding read_field
device_again NamedCppc = refl
device_again NamedBank = refl

pub field_again : (k : Kind) (v : Value) → IsOf k v → read_field k (spell v) ≡ Ok v
unfolding read_field
field_again (Whole l) v h = rw (h.1, number_again (most_of l) h.0 (limit_small l) h.2) refl
field_again (Positive l) v h = rw (h.1, number_again (most_of l) h.0 (limit_small l) h.3) (positive_again h.0 h.2)
field_again Optional v h = rw h.1 (choice_again h.0 h.2)
field_again HexBytes v h = rw (h.1, hex_again h.0 h.2) refl
field_again DeviceText v h = rw h.1 (device_again h.0)
field_again LetterText v h = rw (h.1, letters_again h.0) (letters_some h.0 h.2)

-- ---- the fault of a field

number_err : (o : Option ℕ) (d : ScriptKind) → number_value o ≡ Err d → d ≡ kind.Number
number_err (Some n) d h = cc
number_err None d h = cc

positive_err : (o : Option ℕ) (d : ScriptKind) → positive_value o ≡ Err d → d ≡ kind.Number
positive_err (Some zero) d h = cc
positive_err (Some (suc n)) d h = cc
positive_err None d h = cc

choice_err : (t : Bool) (o : Option ℕ) (d : ScriptKind) → cond t (Ok (OfOptional None)) (some_value o) ≡ Err d → d ≡ kind.Number
choice_err true o d h = cc
choice_err false (Some n) d h = cc
choice_err false None d h = cc

bytes_err : (o : Option (List ℕ)) (d : ScriptKind) → bytes_value o ≡ Err d → d ≡ kind.Hex
bytes_err (Some b) d h = cc
bytes_err None d h = cc

device_err : (t u : Bool) (d : ScriptKind) → cond t (Ok (OfDevice NamedCppc)) (cond u (Ok (OfDevice NamedBank)) (Err kind.Name)) ≡ Err d → d ≡ kind.Name
device_err true u d h = cc
device_err false true d h = cc
device_err false false d h = cc

letters_err : (o : Option (List Letter)) (d : ScriptKind) → letters_value o ≡ Err d → d ≡ kind.Name
letters_err (Some []) d h = cc
letters_err (Some (l ∷ ls)) d h = cc
letters_err None d h = cc

pub field_wrong : (k : Kind) (f : List ℕ) (d : ScriptKind) → read_field k f ≡ Err d → d ≡ field_fault k
unfolding read_field
field_wrong (Whole l) f d h = number_err (number_of (most_of l) f) d h
field_wrong (Positive l) f d h = positive_err (number_of (most_of l) f) d h
field_wrong Optional f d h = choice_err (bytes_eq f (45 ∷ [])) (number_of (most_of Any) f) d h
field_wrong HexBytes f d h = bytes_err (hex_of f) d h
field_wrong DeviceText f d h = device_err (bytes_eq f (codes "cppc")) (bytes_eq f (codes "bank")) d h
field_wrong LetterText f d h = letters_err (letters_of f) d h

-- ---- bytes at which texts are cut

-- a byte that stands in no field
pub record IsCut (c : ℕ) : Type 0 where
  pub low : c < 48
  pub hex : (xs : List ℕ) → lacks c (hex_text xs) ≡ true
  pub dash : eqb 45 c ≡ false
  pub cppc : lacks c (codes "cppc") ≡ true
  pub bank : lacks c (codes "bank") ≡ true
  pub o : eqb 111 c ≡ false
  pub p : eqb 112 c ≡ false
  pub word : (w : Word) → lacks c (text_of w) ≡ true

word_32 : (w : Word) → lacks 32 (text_of w) ≡ true
word_32 word.Table = refl
word_32 word.Clock = refl
word_32 word.Open = refl
word_32 word.Cpu = refl
word_32 word.Cap = refl
word_32 word.Call = refl
word_32 word.Read = refl
word_32 word.Set = refl
word_32 word.Wait = refl
word_32 word.Pick = refl

word_10 : (w : Word) → lacks 10 (text_of w) ≡ true
word_10 word.Table = refl
word_10 word.Clock = refl
word_10 word.Open = refl
word_10 word.Cpu = refl
word_10 word.Cap = refl
word_10 word.Call = refl
word_10 word.Read = refl
word_10 word.Set = refl
word_10 word.Wait = refl
word_10 word.Pick = refl

pub space : IsCut 32
space = record { low = lit< tt; hex = λ xs. lacks-hex_text 32 xs refl refl refl; dash = refl; cppc = refl; bank = refl; o = refl; p = refl; word = word_32 }

pub feed : IsCut 10
feed = record { low = lit< tt; hex = λ xs. lacks-hex_text 10 xs refl refl refl; dash = refl; cppc = refl; bank = refl; o = refl; p = refl; word = word_10 }

lacks-letters : (c : ℕ) (ls : List Letter) → IsCut c → lacks c (map letter_text ls) ≡ true
lacks-letters c [] h = refl
lacks-letters c (O ∷ ls) h = rw h.o (lacks-letters c ls h)
lacks-letters c (P ∷ ls) h = rw h.p (lacks-letters c ls h)

lacks-choice : (c : ℕ) (o : Option ℕ) → IsCut c → IfSome o (λ n. n ≤ most_of Any) → lacks c (spell (OfOptional o)) ≡ true
lacks-choice c None h i = rw h.dash refl
lacks-choice c (Some n) h i = lacks-decimal c n h.low (omega (arith, limit_small Any))

lacks-device : (c : ℕ) (b : DeviceName) → IsCut c → lacks c (spell (OfDevice b)) ≡ true
lacks-device c NamedCppc h = h.cppc
lacks-device c NamedBank h = h.bank

pub lacks-spell : (c : ℕ) (k : Kind) (v : Value) → IsCut c → IsOf k v → lacks c (spell v) ≡ true
lacks-spell c (Whole l) v h i = let n : i.0 ≤ most_of l = i.2 in rw i.1 (lacks-decimal c i.0 h.low (omega (arith, limit_small l)))
lacks-spell c (Positive l) v h i = let n : i.0 ≤ most_of l = i.3 in rw i.1 (lacks-decimal c i.0 h.low (omega (arith, limit_small l)))
lacks-spell c Optional v h i = rw i.1 (lacks-choice c i.0 h i.2)
lacks-spell c HexBytes v h i = rw i.1 (h.hex i.0)
lacks-spell c DeviceText v h i = rw i.1 (lacks-device c i.0 h)
lacks-spell c LetterText v h i = rw i.1 (lacks-letters c i.0 h)
