-- Buffers, elements and rows of elements: read, spelled, and what is wrong.
use Rattle.std.proofs.Common.{◌≡◌, inl, inr, ℕ, zero, suc, ◌+◌, ◌-◌, Bool, true, false, eqb, List, [], ◌∷◌, ◌++◌, length, take, drop, Result, Ok, Err, refl, sym, ap, ◌∙◌, subst, arith}
use Rattle.std.specs.List.{flat_map, AllByRecursion}
use Rattle.std.proofs.lemmas.Bool.{eqb-true, eqb-false, eq-eqb, ne_eqb}
use Rattle.std.proofs.lemmas.List.{append_assoc, append-nil, nil_from_length}
use Rattle.std.proofs.lemmas.List.Concat.{flat_map-cons}
use Rattle.aml_pkg.specs.declared.item.Form.{Form}
use Rattle.aml_pkg.specs.declared.item.Form.TheVariants.{Zero, One, Ones, Byte, Word, Dword, Qword}
use Rattle.aml_pkg.specs.declared.item.Int.{Int}
use Rattle.aml_pkg.specs.declared.item.Buffer.{Buffer}
use Rattle.aml_pkg.specs.declared.item.Element.{Element}
use Rattle.aml_pkg.specs.declared.item.Element.TheVariants as element
use Rattle.aml_pkg.specs.declared.fault.AmlKind.TheVariants.{BadLength, TooDeep}
use Rattle.aml_pkg.specs.declared.fault.AmlFault.{AmlFault}
use Rattle.aml_pkg.specs.declared.window.Window.{Window}
use Rattle.aml_pkg.specs.Spelling.{op_of, len_bytes, Counts, buffer_body, IsBuffer, element_bytes, IsElement}
use Rattle.aml_pkg.specs.Windows.{ended, fault_at, inner, behind}
use Rattle.aml_pkg.specs.Faults.{BufferWrong, InLen, InSize, ElementWrong, None, Deep, InBuffer, InInt, ElementsWrong, At, Over}
use Rattle.aml_pkg.specs.Reading.{◌>>=◌, int_at, len_at, body_len, buffer_at, element_at, elements_at}
use Rattle.pcc_bytes.specs.Bytes.{IsBytes}
use Rattle.pcc_bytes.proofs.Bytes.{IsBytes-tail}
use Rattle.aml_pkg.proofs.Steps.{bind_ok, bind_err, fails, chosen, ok_is, err_is, ok_err, Takes}
use Rattle.aml_pkg.proofs.Ints.{int_takes, int_again, int_err, int_wrong}
use Rattle.aml_pkg.proofs.Lens.{len_takes, len_err, len_wrong, framed, frame_again, body_again}
use Rattle.aml_pkg.proofs.Loop.{with_front}

-- ---- a buffer behind its op

buffer_takes : (w : Window) (b : List ℕ) (x : Buffer × List ℕ) → IsBytes b → buffer_at w b ≡ Ok x
    → Takes b (len_bytes x.0.len ++ buffer_body x.0) x.1 × IsBuffer x.0
unfolding buffer_at
buffer_takes w b x fits e =
    let l = bind_ok (len_at w b) (λ l. int_at (inner w b l.0.value) (take (body_len l.0) l.1) >>= λ size. Ok (record { len = l.0; size = size.0; bytes = size.1 }, drop (body_len l.0) l.1)) x e in
    let f = framed b l.0.0 l.0.1 (len_takes w b l.0 fits l.1) in
    let body : List ℕ = take (body_len l.0.0) l.0.1 in
    let after : List ℕ = drop (body_len l.0.0) l.0.1 in
    let s = bind_ok (int_at (inner w b l.0.0.value) body) (λ size. Ok (record { len = l.0.0; size = size.0; bytes = size.1 }, after)) x l.2 in
    let t = int_takes (inner w b l.0.0.value) body s.0 f.body_fits s.1 in
    let made : Buffer × List ℕ = (record { len = l.0.0; size = s.0.0; bytes = s.0.1 }, after) in
    let parts : b ≡ (len_bytes l.0.0 ++ buffer_body made.0) ++ after =
    f.parts ∙ ap (λ (y : List ℕ). len_bytes l.0.0 ++ (y ++ after)) t.0.parts ∙ sym (append_assoc (len_bytes l.0.0) (buffer_body made.0) after) in
    subst (λ (y : Buffer × List ℕ). Takes b (len_bytes y.0.len ++ buffer_body y.0) y.1 × IsBuffer y.0) (ok_is made x s.2)
    (record { parts = parts; fits = f.fits }, record { size = t.1; counts = subst (λ (y : List ℕ). Counts l.0.0 y) t.0.parts f.counts })

buffer_again : (w : Window) (v : Buffer) (rest : List ℕ) → IsBuffer v → buffer_at w (len_bytes v.len ++ (buffer_body v ++ rest)) ≡ Ok (v, rest)
unfolding buffer_at
buffer_again w v rest h =
    let b : List ℕ = len_bytes v.len ++ (buffer_body v ++ rest) in
    let cut = body_again v.len (buffer_body v) rest h.counts in
    rw (frame_again w v.len (buffer_body v) rest h.counts, cut.0, cut.1, int_again (inner w b v.len.value) v.size v.bytes h.size) refl

buffer_err : (w : Window) (b : List ℕ) (d : AmlFault) → IsBytes b → buffer_at w b ≡ Err d → BufferWrong w b d
unfolding buffer_at
buffer_err w b d fits e =
    elim (bind_err (len_at w b) (λ l. int_at (inner w b l.0.value) (take (body_len l.0) l.1) >>= λ size. Ok (record { len = l.0; size = size.0; bytes = size.1 }, drop (body_len l.0) l.1)) d e) [
      | inl bad ↦ InLen (len_err w b d fits bad)
      | inr l ↦
          let f = framed b l.0.0 l.0.1 (len_takes w b l.0 fits l.1) in
          let body : List ℕ = take (body_len l.0.0) l.0.1 in
          let after : List ℕ = drop (body_len l.0.0) l.0.1 in
          elim (bind_err (int_at (inner w b l.0.0.value) body) (λ size. Ok (record { len = l.0.0; size = size.0; bytes = size.1 }, after)) d l.2) [
            | inl bad ↦ InSize l.0.0 body after f.counts f.parts (int_err (inner w b l.0.0.value) body d f.body_fits bad)
            | inr good ↦ ok_err _ d good.2
          ]
    ]

buffer_wrong : (w : Window) (b : List ℕ) (d : AmlFault) → BufferWrong w b d → buffer_at w b ≡ Err d
unfolding buffer_at
buffer_wrong w b d (InLen h) = fails (len_at w b) _ _ (len_wrong w b d h)
buffer_wrong w b d (InSize l body rest counts e h) =
    let read : len_at w b ≡ Ok (l, body ++ rest) = ap (len_at w) e ∙ frame_again w l body rest counts in
    let cut = body_again l body rest counts in
    rw (read, cut.0, int_wrong (inner w b l.value) body d h) refl

-- ---- an element

pub data Kind (op : ℕ) : Type 0 where
  IsPackage : op ≡ 0x12 → Kind op
  IsBuf : op ≡ 0x11 → Kind op
  IsOther : (op ≡ 0x11 → ⊥) → (op ≡ 0x12 → ⊥) → Kind op

kind_by : (op : ℕ) (s t : Bool) → s ≡ eqb op 0x12 → t ≡ eqb op 0x11 → Kind op
kind_by op true t e d = IsPackage (eqb-true _ _ (sym e))
kind_by op false true e d = IsBuf (eqb-true _ _ (sym d))
kind_by op false false e d = IsOther (eqb-false op 0x11 (sym d)) (eqb-false op 0x12 (sym e))

pub kind_of : (op : ℕ) → Kind op
kind_of op = kind_by op (eqb op 0x12) (eqb op 0x11) refl refl

read_deep : (w : Window) (op : ℕ) (rest : List ℕ) → op ≡ 0x12 → element_at w (op ∷ rest) ≡ Err (fault_at w (op ∷ rest) TooDeep)
unfolding element_at
read_deep w op rest e = rw (eq-eqb op 0x12 e) refl

read_buffer : (w : Window) (op : ℕ) (rest : List ℕ) → op ≡ 0x11 → element_at w (op ∷ rest) ≡ (buffer_at w rest >>= λ b. Ok (element.Buffer b.0, b.1))
unfolding element_at
read_buffer w op rest e = rw (ne_eqb op 0x12 (λ h. omega arith), eq-eqb op 0x11 e) refl

read_int : (w : Window) (op : ℕ) (rest : List ℕ) → (op ≡ 0x11 → ⊥) → (op ≡ 0x12 → ⊥)
    → element_at w (op ∷ rest) ≡ (int_at w (op ∷ rest) >>= λ i. Ok (element.Int i.0, i.1))
unfolding element_at
read_int w op rest a b = rw (ne_eqb op 0x12 b, ne_eqb op 0x11 a) refl

takes_by : (w : Window) (op : ℕ) (rest : List ℕ) (x : Element × List ℕ) → IsBytes (op ∷ rest) → Kind op → element_at w (op ∷ rest) ≡ Ok x
    → Takes (op ∷ rest) (element_bytes x.0) x.1 × IsElement x.0
takes_by w op rest x fits (IsPackage k) e = ok_err x (fault_at w (op ∷ rest) TooDeep) (sym e ∙ read_deep w op rest k)
takes_by w op rest x fits (IsBuf k) e =
    let v = bind_ok (buffer_at w rest) (λ b. Ok (element.Buffer b.0, b.1)) x (sym (read_buffer w op rest k) ∙ e) in
    let t = buffer_takes w rest v.0 (IsBytes-tail op rest fits) v.1 in
    let made : Element × List ℕ = (element.Buffer v.0.0, v.0.1) in
    let parts : op ∷ rest ≡ element_bytes made.0 ++ v.0.1 = ap (λ (o : ℕ). o ∷ rest) k ∙ ap (λ (y : List ℕ). 0x11 ∷ y) t.0.parts in
    subst (λ (y : Element × List ℕ). Takes (op ∷ rest) (element_bytes y.0) y.1 × IsElement y.0) (ok_is made x v.2) (record { parts = parts; fits = t.0.fits }, t.1)
takes_by w op rest x fits (IsOther a b) e =
    let v = bind_ok (int_at w (op ∷ rest)) (λ i. Ok (element.Int i.0, i.1)) x (sym (read_int w op rest a b) ∙ e) in
    let t = int_takes w (op ∷ rest) v.0 fits v.1 in
    let made : Element × List ℕ = (element.Int v.0.0, v.0.1) in
    subst (λ (y : Element × List ℕ). Takes (op ∷ rest) (element_bytes y.0) y.1 × IsElement y.0) (ok_is made x v.2) t

pub element_takes : (w : Window) (b : List ℕ) (x : Element × List ℕ) → IsBytes b → element_at w b ≡ Ok x → Takes b (element_bytes x.0) x.1 × IsElement x.0
unfolding element_at
element_takes w [] x fits e = ok_err x (ended w) (sym e)
element_takes w (op ∷ rest) x fits e = takes_by w op rest x fits (kind_of op) e

other_op : (f : Form) → (op_of f ≡ 0x11 → ⊥) × (op_of f ≡ 0x12 → ⊥)
other_op Zero = (λ h. omega arith, λ h. omega arith)
other_op One = (λ h. omega arith, λ h. omega arith)
other_op Ones = (λ h. omega arith, λ h. omega arith)
other_op Byte = (λ h. omega arith, λ h. omega arith)
other_op Word = (λ h. omega arith, λ h. omega arith)
other_op Dword = (λ h. omega arith, λ h. omega arith)
other_op Qword = (λ h. omega arith, λ h. omega arith)

pub element_again : (w : Window) (v : Element) (rest : List ℕ) → IsElement v → element_at w (element_bytes v ++ rest) ≡ Ok (v, rest)
element_again w (element.Int i) rest h =
    let o = other_op i.form in
    let more : Int × List ℕ → Result (Element × List ℕ) AmlFault = λ i. Ok (element.Int i.0, i.1) in
    read_int w (op_of i.form) _ o.0 o.1 ∙ ap (λ (r : Result (Int × List ℕ) AmlFault). r >>= more) (int_again w i rest h)
element_again w (element.Buffer v) rest h =
    let more : Buffer × List ℕ → Result (Element × List ℕ) AmlFault = λ b. Ok (element.Buffer b.0, b.1) in
    read_buffer w 0x11 _ refl
    ∙ ap (λ (y : List ℕ). buffer_at w y >>= more) (append_assoc (len_bytes v.len) (buffer_body v) rest)
    ∙ ap (λ (r : Result (Buffer × List ℕ) AmlFault). r >>= more) (buffer_again w v rest h)

err_by : (w : Window) (op : ℕ) (rest : List ℕ) (d : AmlFault) → IsBytes (op ∷ rest) → Kind op → element_at w (op ∷ rest) ≡ Err d → ElementWrong w (op ∷ rest) d
err_by w op rest d fits (IsPackage k) e =
    let is : fault_at w (0x12 ∷ rest) TooDeep ≡ d = err_is {A = Element × List ℕ} _ _ (sym (read_deep w op rest k) ∙ e) in
    subst (λ (o : ℕ). ElementWrong w (o ∷ rest) d) (sym k) (subst (λ (g : AmlFault). ElementWrong w (0x12 ∷ rest) g) is (Deep rest))
err_by w op rest d fits (IsBuf k) e =
    elim (bind_err (buffer_at w rest) (λ b. Ok (element.Buffer b.0, b.1)) d (sym (read_buffer w op rest k) ∙ e)) [
      | inl bad ↦ subst (λ (o : ℕ). ElementWrong w (o ∷ rest) d) (sym k) (InBuffer rest d (buffer_err w rest d (IsBytes-tail op rest fits) bad))
      | inr good ↦ ok_err _ d good.2
    ]
err_by w op rest d fits (IsOther a b) e =
    elim (bind_err (int_at w (op ∷ rest)) (λ i. Ok (element.Int i.0, i.1)) d (sym (read_int w op rest a b) ∙ e)) [
      | inl bad ↦ InInt op rest d a b (int_err w (op ∷ rest) d fits bad)
      | inr good ↦ ok_err _ d good.2
    ]

pub element_err : (w : Window) (b : List ℕ) (d : AmlFault) → IsBytes b → element_at w b ≡ Err d → ElementWrong w b d
unfolding element_at
element_err w [] d fits e = subst (λ (g : AmlFault). ElementWrong w [] g) (err_is {A = Element × List ℕ} _ _ e) None
element_err w (op ∷ rest) d fits e = err_by w op rest d fits (kind_of op) e

pub element_wrong : (w : Window) (b : List ℕ) (d : AmlFault) → ElementWrong w b d → element_at w b ≡ Err d
unfolding element_at
element_wrong w b d None = refl
element_wrong w b d (Deep rest) = refl
element_wrong w b d (InBuffer rest f h) = read_buffer w 0x11 rest refl ∙ fails (buffer_at w rest) _ _ (buffer_wrong w rest d h)
element_wrong w b d (InInt op rest f x y h) = read_int w op rest x y ∙ fails (int_at w (op ∷ rest)) _ _ (int_wrong w (op ∷ rest) d h)

-- ---- elements one after the other

pub elements_take : (n : ℕ) (w : Window) (b : List ℕ) (es : List Element) → IsBytes b → elements_at n w b ≡ Ok es
    → (b ≡ flat_map element_bytes es) × (length es ≡ n) × AllByRecursion IsElement es
unfolding elements_at
elements_take zero w b es fits e =
    elim (chosen (eqb (length b) 0) (Ok []) (Err (fault_at w b BadLength)) (Ok es) e) [
      | inl c ↦ subst (λ (y : List Element). (b ≡ flat_map element_bytes y) × (length y ≡ 0) × AllByRecursion IsElement y) (ok_is [] es c.1) (nil_from_length b (eqb-true _ _ c.0), refl, tt)
      | inr c ↦ ok_err es (fault_at w b BadLength) (sym c.1)
    ]
elements_take (suc n) w b es fits e =
    let v = bind_ok (element_at w b) (λ e. elements_at n (behind w 1) e.1 >>= λ es. Ok (e.0 ∷ es)) es e in
    let t = element_takes w b v.0 fits v.1 in
    let more = bind_ok (elements_at n (behind w 1) v.0.1) (λ es. Ok (v.0.0 ∷ es)) es v.2 in
    let rec = elements_take n (behind w 1) v.0.1 more.0 t.0.fits more.1 in
    let parts : b ≡ flat_map element_bytes (v.0.0 ∷ more.0) = t.0.parts ∙ ap (λ (y : List ℕ). element_bytes v.0.0 ++ y) rec.0 ∙ sym (flat_map-cons element_bytes v.0.0 more.0) in
    subst (λ (y : List Element). (b ≡ flat_map element_bytes y) × (length y ≡ suc n) × AllByRecursion IsElement y) (ok_is (v.0.0 ∷ more.0) es more.2) (parts, ap suc rec.1, (t.1, rec.2))

-- elements that are spelled are read, and then what is left
regroup : (front : List Element) (e : Element) (r : Result (List Element) AmlFault) → (with_front front r >>= λ es. Ok (e ∷ es)) ≡ with_front (e ∷ front) r
regroup front e (Ok es) = refl
regroup front e (Err f) = refl

no_front : (r : Result (List Element) AmlFault) → r ≡ with_front [] r
no_front (Ok es) = refl
no_front (Err f) = refl

behind_none : (w : Window) → w ≡ behind w 0
behind_none w = ap (λ (k : ℕ). record { end = w.end; past = w.past; whole = k }) (omega arith)

behind_more : (w : Window) (k : ℕ) → behind (behind w 1) k ≡ behind w (suc k)
behind_more w k = ap (λ (i : ℕ). record { end = w.end; past = w.past; whole = i }) (omega arith)

pub elements_front : (es : List Element) (m n : ℕ) (w : Window) (left : List ℕ) → AllByRecursion IsElement es → m ≡ length es + n
    → elements_at m w (flat_map element_bytes es ++ left) ≡ with_front es (elements_at n (behind w (length es)) left)
unfolding elements_at
elements_front [] m n w left h e =
    let same : m ≡ n = omega arith in
    ap (λ (k : ℕ). elements_at k w left) same ∙ ap (λ (v : Window). elements_at n v left) (behind_none w) ∙ no_front (elements_at n (behind w 0) left)
elements_front (x ∷ es) zero n w left h e = absurd (omega arith)
elements_front (x ∷ es) (suc m) n w left h e =
    let rest : List ℕ = flat_map element_bytes es ++ left in
    let grouped : flat_map element_bytes (x ∷ es) ++ left ≡ element_bytes x ++ rest = ap (λ (y : List ℕ). y ++ left) (flat_map-cons element_bytes x es) ∙ append_assoc (element_bytes x) (flat_map element_bytes es) left in
    let rec = elements_front es m n (behind w 1) left h.1 (omega arith) in
    let moved : elements_at n (behind (behind w 1) (length es)) left ≡ elements_at n (behind w (suc (length es))) left = ap (λ (v : Window). elements_at n v left) (behind_more w (length es)) in
    let more : Result (List Element) AmlFault → Result (List Element) AmlFault = λ r. r >>= λ es. Ok (x ∷ es) in
    ap (elements_at (suc m) w) grouped
    ∙ ap (λ (r : Result (Element × List ℕ) AmlFault). r >>= λ e. elements_at m (behind w 1) e.1 >>= λ es. Ok (e.0 ∷ es)) (element_again w x rest h.0)
    ∙ ap more rec ∙ regroup es x (elements_at n (behind (behind w 1) (length es)) left) ∙ ap (with_front (x ∷ es)) moved

pub elements_again : (es : List Element) (w : Window) → AllByRecursion IsElement es → elements_at (length es) w (flat_map element_bytes es) ≡ Ok es
unfolding elements_at
elements_again es w h =
    ap (elements_at (length es) w) (sym (append-nil (flat_map element_bytes es))) ∙ elements_front es (length es) 0 w [] h (omega arith) ∙ ap Ok (append-nil es)

pub elements_wrong : (n : ℕ) (w : Window) (b : List ℕ) (d : AmlFault) → ElementsWrong w n b d → elements_at n w b ≡ Err d
unfolding elements_at
elements_wrong n w b d (At es left h few e bad) =
    let k : n - length es ≡ suc (n - suc (length es)) = omega arith in
    let wrong : elements_at (n - length es) (behind w (length es)) left ≡ Err d = rw k (fails (element_at (behind w (length es)) left) _ _ (element_wrong (behind w (length es)) left d bad)) in
    ap (elements_at n w) e ∙ elements_front es n (n - length es) w left h (omega arith) ∙ ap (with_front es) wrong
elements_wrong n w b d (Over es left h all e some is) =
    let wrong : elements_at 0 (behind w (length es)) left ≡ Err (fault_at (behind w (length es)) left BadLength) = rw (ne_eqb (length left) 0 (λ z. omega arith)) refl in
    ap (elements_at n w) e ∙ elements_front es n 0 w left h (omega arith) ∙ ap (with_front es) wrong ∙ ap (λ (g : AmlFault). Err g) (sym is)

shift : (n : ℕ) (w : Window) (b after : List ℕ) (x : Element) (d : AmlFault) → IsElement x → b ≡ element_bytes x ++ after
    → ElementsWrong (behind w 1) n after d → ElementsWrong w (suc n) b d
shift n w b after x d is parts (At es left h few e bad) =
    let whole : b ≡ flat_map element_bytes (x ∷ es) ++ left = parts ∙ ap (λ (y : List ℕ). element_bytes x ++ y) e ∙ sym (append_assoc (element_bytes x) (flat_map element_bytes es) left) ∙ ap (λ (y : List ℕ). y ++ left) (sym (flat_map-cons element_bytes x es)) in
    At (x ∷ es) left (is, h) (omega arith) whole (subst (λ (v : Window). ElementWrong v left d) (behind_more w (length es)) bad)
shift n w b after x d is parts (Over es left h all e some f) =
    let whole : b ≡ flat_map element_bytes (x ∷ es) ++ left = parts ∙ ap (λ (y : List ℕ). element_bytes x ++ y) e ∙ sym (append_assoc (element_bytes x) (flat_map element_bytes es) left) ∙ ap (λ (y : List ℕ). y ++ left) (sym (flat_map-cons element_bytes x es)) in
    Over (x ∷ es) left (is, h) (ap suc all) whole some (f ∙ ap (λ (v : Window). fault_at v left BadLength) (behind_more w (length es)))

pub elements_err : (n : ℕ) (w : Window) (b : List ℕ) (d : AmlFault) → IsBytes b → elements_at n w b ≡ Err d → ElementsWrong w n b d
unfolding elements_at
elements_err zero w b d fits e =
    elim (chosen (eqb (length b) 0) (Ok []) (Err (fault_at w b BadLength)) (Err d) e) [
      | inl c ↦ ok_err [] d c.1
      | inr c ↦
          let n0 = eqb-false (length b) 0 c.0 in
          let is : fault_at w b BadLength ≡ d = err_is {A = List Element} _ _ c.1 in
          Over [] b tt refl refl (omega arith) (sym is ∙ ap (λ (v : Window). fault_at v b BadLength) (behind_none w))
    ]
elements_err (suc n) w b d fits e =
    elim (bind_err (element_at w b) (λ e. elements_at n (behind w 1) e.1 >>= λ es. Ok (e.0 ∷ es)) d e) [
      | inl bad ↦ At [] b tt (omega arith) refl (subst (λ (v : Window). ElementWrong v b d) (behind_none w) (element_err w b d fits bad))
      | inr v ↦
          let t = element_takes w b v.0 fits v.1 in
          elim (bind_err (elements_at n (behind w 1) v.0.1) (λ es. Ok (v.0.0 ∷ es)) d v.2) [
            | inl bad ↦ shift n w b v.0.1 v.0.0 d t.1 t.0.parts (elements_err n (behind w 1) v.0.1 d t.0.fits bad)
            | inr good ↦ ok_err _ d good.2
          ]
    ]
