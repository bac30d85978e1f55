-- Steps that may fail, and numbers of bytes.
use Rattle.std.proofs.Common.{◌≡◌, ◌⊎◌, inl, inr, ℕ, zero, suc, ◌-◌, ◌^◌, ◌<◌, ◌≤◌, Bool, true, false, cond, ltb, List, [], ◌∷◌, ◌++◌, length, drop, Result, Ok, Err, refl, sym, ap, ◌∙◌, subst, arith}
use Rattle.std.proofs.lemmas.Bool.{ltb-false, ltb-true, le-ltb, lt-ltb}
use Rattle.std.proofs.lemmas.List.{drop_at, take_all, take-append-drop, length-append}
use Rattle.byteorder.specs.Endian.{little_number, little_bytes}
use Rattle.byteorder.specs.Numbers.{little_number-reads_back, little_from-lt, length-bytes_low_first}
use Rattle.aml_pkg.specs.declared.fault.AmlFault.{AmlFault}
use Rattle.aml_pkg.specs.declared.window.Window.{Window}
use Rattle.aml_pkg.specs.Windows.{ended}
use Rattle.aml_pkg.specs.Reading.{◌>>=◌, number_at}
use Rattle.pcc_bytes.specs.Bytes.{IsBytes}
use Rattle.pcc_bytes.proofs.Bytes.{IsBytes-append, IsBytes-cons, IsBytes-drop, IsBytes-nil}
use Rattle.pcc_bytes.proofs.Numbers.{little_bytes-little_number}

-- the number of three bytes at most
pub number_small : (n : ℕ) (bytes : List ℕ) → IsBytes bytes → n ≤ 3 → little_number n bytes < 2 ^ 24
number_small zero bytes all le = omega arith
number_small (suc zero) bytes all le = omega (arith, all.fits 0)
number_small (suc (suc zero)) bytes all le = omega (arith, all.fits 0, all.fits 1)
number_small (suc (suc (suc zero))) bytes all le = omega (arith, all.fits 0, all.fits 1, all.fits 2)
number_small (suc (suc (suc (suc n)))) bytes all le = absurd (omega arith)

-- n zeros
abbrev zeros : ℕ → List ℕ
zeros zero = []
zeros (suc n) = 0 ∷ zeros n

IsBytes-zeros : (n : ℕ) → IsBytes (zeros n)
IsBytes-zeros zero = IsBytes-nil
IsBytes-zeros (suc n) = IsBytes-cons 0 (zeros n) (omega arith) (IsBytes-zeros n)

length-zeros : (n : ℕ) → length (zeros n) ≡ n
length-zeros zero = refl
length-zeros (suc n) = ap suc (length-zeros n)

-- the value of a step that did not fail, and the fault of one that did
pub bind_ok : {A B : Type 0} (r : Result A AmlFault) (f : A → Result B AmlFault) (y : B) → (r >>= f) ≡ Ok y → (x : A) × (r ≡ Ok x) × (f x ≡ Ok y)
bind_ok (Ok x) f y e = (x, refl, e)
bind_ok (Err d) f y e = absurd cc

pub bind_err : {A B : Type 0} (r : Result A AmlFault) (f : A → Result B AmlFault) (d : AmlFault) → (r >>= f) ≡ Err d
    → (r ≡ Err d) ⊎ ((x : A) × (r ≡ Ok x) × (f x ≡ Err d))
bind_err (Ok x) f d e = inr (x, refl, e)
bind_err (Err c) f d e = inl cc

pub fails : {A B : Type 0} (r : Result A AmlFault) (f : A → Result B AmlFault) (d : AmlFault) → r ≡ Err d → (r >>= f) ≡ Err d
fails (Ok x) f d e = absurd cc
fails (Err c) f d e = cc

pub chosen : {X : Type 0} (b : Bool) (x y z : X) → cond b x y ≡ z → ((b ≡ true) × (x ≡ z)) ⊎ ((b ≡ false) × (y ≡ z))
chosen true x y z e = inl (refl, e)
chosen false x y z e = inr (refl, e)

abbrev pub done : {A : Type 0} → A → Result A AmlFault
done x = Ok x

abbrev pub failed : {A : Type 0} → AmlFault → Result A AmlFault
failed f = Err f

pub ok_is : {A : Type 0} (x y : A) → done x ≡ done y → x ≡ y
ok_is x y e = cc

pub err_is : {A : Type 0} (f g : AmlFault) → failed {A = A} f ≡ failed {A = A} g → f ≡ g
err_is f g e = cc

pub ok_err : {A : Type 0} {P : Type 0} (x : A) (f : AmlFault) → done x ≡ Err f → P
ok_err x f e = absurd cc

-- what a reader took from the front
pub record Takes (b text rest : List ℕ) : Type 0 where
  pub parts : b ≡ text ++ rest
  pub fits : IsBytes rest

-- ---- a number

pub number_takes : (n : ℕ) (w : Window) (b : List ℕ) (x : ℕ × List ℕ) → IsBytes b → number_at n w b ≡ Ok x → Takes b (little_bytes n x.0) x.1 × (x.0 < 256 ^ n)
number_takes n w b x fits e =
    elim (chosen (ltb (length b) n) (Err (ended w)) (Ok (little_number n b, drop n b)) (Ok x) e) [
      | inl c ↦ absurd (ok_err {P = ⊥} x (ended w) (sym c.1))
      | inr c ↦
          let long : n ≤ length b = ltb-false _ _ c.0 in
          subst (λ (y : ℕ × List ℕ). Takes b (little_bytes n y.0) y.1 × (y.0 < 256 ^ n)) (ok_is _ x c.1)
          (record { parts = rw (little_bytes-little_number n b long fits) (sym (take-append-drop n b)); fits = IsBytes-drop n b fits }, little_from-lt 0 n b fits.fits)
    ]

pub number_again : (n : ℕ) (w : Window) (v : ℕ) (rest : List ℕ) → v < 256 ^ n → number_at n w (little_bytes n v ++ rest) ≡ Ok (v, rest)
number_again n w v rest small =
    let len : length (little_bytes n v) ≡ n = length-bytes_low_first 0 n v in
    let long : ltb (length (little_bytes n v ++ rest)) n ≡ false = le-ltb _ _ (omega (arith, length-append (little_bytes n v) rest)) in
    rw (long, little_number-reads_back n v rest small, drop_at (little_bytes n v) rest n len) refl

pub number_err : (n : ℕ) (w : Window) (b : List ℕ) (f : AmlFault) → number_at n w b ≡ Err f → (length b < n) × (ended w ≡ f)
number_err n w b f e =
    elim (chosen (ltb (length b) n) (Err (ended w)) (Ok (little_number n b, drop n b)) (Err f) e) [
      | inl c ↦ (ltb-true _ _ c.0, err_is {A = ℕ × List ℕ} _ _ c.1)
      | inr c ↦ ok_err _ f c.1
    ]

pub number_cut : (n : ℕ) (w : Window) (b : List ℕ) → length b < n → number_at n w b ≡ Err (ended w)
number_cut n w b lt = rw (lt-ltb _ _ lt) refl

-- fewer bytes than n begin the n bytes of a number
pub record Begins (n : ℕ) (b : List ℕ) : Type 0 where
  pub v : ℕ
  pub more : List ℕ
  pub small : v < 256 ^ n
  pub some : 0 < length more
  pub whole : b ++ more ≡ little_bytes n v

pub begins : (n : ℕ) (b : List ℕ) → IsBytes b → length b < n → Begins n b
begins n b fits lt =
    let more : List ℕ = zeros (n - length b) in
    let all : IsBytes (b ++ more) = IsBytes-append b more fits (IsBytes-zeros (n - length b)) in
    let len : length (b ++ more) ≡ n = omega (arith, length-append b more, length-zeros (n - length b)) in
    record {
      v = little_number n (b ++ more);
      more = more;
      small = little_from-lt 0 n (b ++ more) all.fits;
      some = omega (arith, length-zeros (n - length b));
      whole = sym (little_bytes-little_number n (b ++ more) (omega arith) all ∙ take_all n (b ++ more) (omega arith));
    }

-- a front of the n bytes of a number is shorter
pub front_short : (n v : ℕ) (b more : List ℕ) → 0 < length more → b ++ more ≡ little_bytes n v → length b < n
front_short n v b more some e = omega (arith, ap length e, length-append b more, length-bytes_low_first 0 n v)
