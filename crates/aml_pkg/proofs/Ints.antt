-- An integer that is read is spelled so, what is spelled is read again, and each fault is of the wrong that it tells.
use Rattle.std.proofs.Common.{◌≡◌, ◌⊎◌, inl, inr, ℕ, ◌^◌, ◌<◌, Bool, true, false, cond, eqb, List, [], ◌∷◌, ◌++◌, length, Option, Some, None, Ok, Err, refl, sym, ap, ◌∙◌, subst, arith, lit<}
use Rattle.std.proofs.lemmas.Bool.{eqb-true, le-ltb}
use Rattle.byteorder.specs.Endian.{little_bytes}
use Rattle.aml_pkg.specs.declared.item.Form.{Form}
use Rattle.aml_pkg.specs.declared.item.Form.TheVariants.{Zero, One, Ones, Byte, Word, Dword, Qword}
use Rattle.aml_pkg.specs.declared.item.Int.{Int}
use Rattle.aml_pkg.specs.declared.fault.AmlKind.TheVariants.{UnknownOp}
use Rattle.aml_pkg.specs.declared.fault.AmlFault.{AmlFault}
use Rattle.aml_pkg.specs.declared.window.Window.{Window}
use Rattle.aml_pkg.specs.Spelling.{op_of, size_of, HasForm, IsInt, int_bytes}
use Rattle.aml_pkg.specs.Windows.{ended, fault_at}
use Rattle.aml_pkg.specs.Faults.{IntWrong, Cut, Unknown}
use Rattle.aml_pkg.specs.Reading.{number_at, form_of, value_of, int_of, int_at}
use Rattle.pcc_bytes.specs.Bytes.{IsBytes}
use Rattle.pcc_bytes.proofs.Bytes.{IsBytes-tail}
use Rattle.aml_pkg.proofs.Steps.{bind_ok, bind_err, ok_is, err_is, ok_err, Takes, number_takes, number_again, number_err, number_cut, begins, front_short}

at_test : (t : Bool) (op k : ℕ) (g f : Form) (o : Option Form) → op_of g ≡ k → t ≡ eqb op k → cond t (Some g) o ≡ Some f → (op_of f ≡ op) ⊎ (o ≡ Some f)
at_test true op k g f o is t e =
    let same : op ≡ k = eqb-true op k (sym t) in
    let form : g ≡ f = cc in
    inl (ap op_of (sym form) ∙ is ∙ sym same)
at_test false op k g f o is t e = inr e

tested : (op k : ℕ) (g f : Form) (o : Option Form) → op_of g ≡ k → cond (eqb op k) (Some g) o ≡ Some f → (op_of f ≡ op) ⊎ (o ≡ Some f)
tested op k g f o is e = at_test (eqb op k) op k g f o is refl e

-- the rest of the tests, one by one
abbrev tests6 : ℕ → Option Form
tests6 op = cond (eqb op 14) (Some Qword) None

abbrev tests5 : ℕ → Option Form
tests5 op = cond (eqb op 12) (Some Dword) (tests6 op)

abbrev tests4 : ℕ → Option Form
tests4 op = cond (eqb op 11) (Some Word) (tests5 op)

abbrev tests3 : ℕ → Option Form
tests3 op = cond (eqb op 10) (Some Byte) (tests4 op)

abbrev tests2 : ℕ → Option Form
tests2 op = cond (eqb op 255) (Some Ones) (tests3 op)

abbrev tests1 : ℕ → Option Form
tests1 op = cond (eqb op 1) (Some One) (tests2 op)

or_else : {P Q R : Type 0} → P ⊎ Q → (Q → P ⊎ R) → P ⊎ R
or_else (inl p) f = inl p
or_else (inr q) f = f q

no_form : {P : Type 0} (f : Form) → P ⊎ (None ≡ Some f) → P
no_form f (inl p) = p
no_form f (inr e) = absurd cc

pub form_ok : (op : ℕ) (f : Form) → form_of op ≡ Some f → op_of f ≡ op
form_ok op f e = no_form f (or_else (or_else (or_else (or_else (or_else (or_else (tested op 0 Zero f (tests1 op) refl e)
    (tested op 1 One f (tests2 op) refl)) (tested op 255 Ones f (tests3 op) refl)) (tested op 10 Byte f (tests4 op) refl))
    (tested op 11 Word f (tests5 op) refl)) (tested op 12 Dword f (tests6 op) refl)) (tested op 14 Qword f None refl))

pub form_again : (f : Form) → form_of (op_of f) ≡ Some f
form_again Zero = refl
form_again One = refl
form_again Ones = refl
form_again Byte = refl
form_again Word = refl
form_again Dword = refl
form_again Qword = refl

form_none : (op : ℕ) → form_of op ≡ None → (f : Form) → op_of f ≡ op → ⊥
form_none op h f e =
    let some = form_again f in
    let none : form_of (op_of f) ≡ None = ap form_of e ∙ h in
    absurd cc

none_or : (o : Option Form) → (o ≡ None) ⊎ ((f : Form) × (o ≡ Some f))
none_or None = inl refl
none_or (Some f) = inr (f, refl)

unknown : (op : ℕ) → ((f : Form) → op_of f ≡ op → ⊥) → form_of op ≡ None
unknown op h = elim (none_or (form_of op)) [
  | inl e ↦ e
  | inr s ↦ absurd (h s.0 (form_ok op s.0 s.1))
]

-- the value of a form is spelled as the number is, and the form has it
value_spelled : (f : Form) (n : ℕ) → little_bytes (size_of f) (value_of f n) ≡ little_bytes (size_of f) n
value_spelled Zero n = refl
value_spelled One n = refl
value_spelled Ones n = refl
value_spelled Byte n = refl
value_spelled Word n = refl
value_spelled Dword n = refl
value_spelled Qword n = refl

value_fits : (f : Form) (n : ℕ) → n < 256 ^ size_of f → HasForm f (value_of f n)
value_fits Zero n h = refl
value_fits One n h = refl
value_fits Ones n h = refl
value_fits Byte n h = h
value_fits Word n h = h
value_fits Dword n h = h
value_fits Qword n h = h

pub int_takes : (w : Window) (b : List ℕ) (x : Int × List ℕ) → IsBytes b → int_at w b ≡ Ok x → Takes b (int_bytes x.0) x.1 × IsInt x.0
unfolding int_at
int_takes w [] x fits e = ok_err x (ended w) (sym e)
int_takes w (op ∷ rest) x fits e =
    elim (none_or (form_of op)) [
      | inl none ↦ ok_err x (fault_at w (op ∷ rest) UnknownOp) (sym (ap (λ (o : Option Form). int_of o w (op ∷ rest) rest) (sym none) ∙ e))
      | inr s ↦
          let f : Form = s.0 in
          let is : op_of f ≡ op = form_ok op f s.1 in
          let read : int_of (Some f) w (op ∷ rest) rest ≡ Ok x = ap (λ (o : Option Form). int_of o w (op ∷ rest) rest) (sym s.1) ∙ e in
          let n = bind_ok (number_at (size_of f) w rest) (λ n. Ok (record { value = value_of f n.0; form = f }, n.1)) x read in
          let t = number_takes (size_of f) w rest n.0 (IsBytes-tail op rest fits) n.1 in
          let made : Int × List ℕ = (record { value = value_of f n.0.0; form = f }, n.0.1) in
          let spelled : op ∷ rest ≡ int_bytes made.0 ++ n.0.1 = rw (is, value_spelled f n.0.0) (ap (λ (r : List ℕ). op ∷ r) t.0.parts) in
          subst (λ (y : Int × List ℕ). Takes (op ∷ rest) (int_bytes y.0) y.1 × IsInt y.0) (ok_is made x n.2) (record { parts = spelled; fits = t.0.fits }, value_fits f n.0.0 t.1)
    ]

-- the number that was written behind the op of a form
again : (f : Form) (w : Window) (v : ℕ) (b rest : List ℕ) → HasForm f v
    → int_of (Some f) w b (little_bytes (size_of f) v ++ rest) ≡ Ok (record { value = v; form = f }, rest)
again Zero w v b rest h = rw (le-ltb (length rest) 0 (omega arith), h) refl
again One w v b rest h = rw (le-ltb (length rest) 0 (omega arith), h) refl
again Ones w v b rest h = rw (le-ltb (length rest) 0 (omega arith), h) refl
again Byte w v b rest h = rw (number_again 1 w v rest h) refl
again Word w v b rest h = rw (number_again 2 w v rest h) refl
again Dword w v b rest h = rw (number_again 4 w v rest h) refl
again Qword w v b rest h = rw (number_again 8 w v rest h) refl

pub int_again : (w : Window) (i : Int) (rest : List ℕ) → IsInt i → int_at w (int_bytes i ++ rest) ≡ Ok (i, rest)
unfolding int_at
int_again w i rest h = rw (form_again i.form) (again i.form w i.value (int_bytes i ++ rest) rest h)

-- a form whose number has bytes has each number of that many bytes
cut_fits : (f : Form) (n v : ℕ) → n < size_of f → v < 256 ^ size_of f → HasForm f v
cut_fits Zero n v lt h = absurd (omega arith)
cut_fits One n v lt h = absurd (omega arith)
cut_fits Ones n v lt h = absurd (omega arith)
cut_fits Byte n v lt h = h
cut_fits Word n v lt h = h
cut_fits Dword n v lt h = h
cut_fits Qword n v lt h = h

pub int_err : (w : Window) (b : List ℕ) (d : AmlFault) → IsBytes b → int_at w b ≡ Err d → IntWrong w b d
unfolding int_at
int_err w [] d fits e = subst (λ (g : AmlFault). IntWrong w [] g) (err_is {A = Int × List ℕ} _ _ e) (Cut (record { value = 0; form = Zero }) (0 ∷ []) refl (lit< tt) refl)
int_err w (op ∷ rest) d fits e =
    elim (none_or (form_of op)) [
      | inl none ↦
          let read : int_of None w (op ∷ rest) rest ≡ Err d = ap (λ (o : Option Form). int_of o w (op ∷ rest) rest) (sym none) ∙ e in
          subst (λ (g : AmlFault). IntWrong w (op ∷ rest) g) (err_is {A = Int × List ℕ} _ _ read) (Unknown op rest refl (form_none op none))
      | inr s ↦
          let f : Form = s.0 in
          let is : op_of f ≡ op = form_ok op f s.1 in
          let read : int_of (Some f) w (op ∷ rest) rest ≡ Err d = ap (λ (o : Option Form). int_of o w (op ∷ rest) rest) (sym s.1) ∙ e in
          elim (bind_err (number_at (size_of f) w rest) (λ n. Ok (record { value = value_of f n.0; form = f }, n.1)) d read) [
            | inl bad ↦
                let c = number_err (size_of f) w rest d bad in
                let m = begins (size_of f) rest (IsBytes-tail op rest fits) c.0 in
                let whole : (op ∷ rest) ++ m.more ≡ op_of f ∷ little_bytes (size_of f) m.v = rw (is, m.whole) refl in
                subst (λ (g : AmlFault). IntWrong w (op ∷ rest) g) c.1 (Cut (record { value = m.v; form = f }) m.more (cut_fits f (length rest) m.v c.0 m.small) m.some whole)
            | inr good ↦ ok_err _ d good.2
          ]
    ]

pub int_wrong : (w : Window) (b : List ℕ) (d : AmlFault) → IntWrong w b d → int_at w b ≡ Err d
unfolding int_at
int_wrong w b d (Unknown op rest e h) = ap (int_at w) e ∙ rw (unknown op h) (ap (λ (c : List ℕ). Err (fault_at w c UnknownOp)) (sym e))
int_wrong w [] d (Cut i more is some e) = refl
int_wrong w (op ∷ rest) d (Cut i more is some e) =
    let same : op ≡ op_of i.form = cc in
    let tail : rest ++ more ≡ little_bytes (size_of i.form) i.value = cc in
    let short : length rest < size_of i.form = front_short (size_of i.form) i.value rest more some tail in
    rw (same, form_again i.form, number_cut (size_of i.form) w rest short) refl
