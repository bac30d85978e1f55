-- A length that is read is spelled so, what is spelled is read again, and each fault is of the wrong that it tells.
use Rattle.std.proofs.Common.{◌≡◌, inl, inr, ℕ, zero, suc, ◌+◌, ◌*◌, ◌/◌, ◌%◌, ◌^◌, ◌<◌, ◌≤◌, Bool, true, false, eqb, ltb, List, [], ◌∷◌, ◌++◌, length, take, drop, Result, Ok, Err, refl, sym, ap, ◌∙◌, subst, arith, lit<}
use Rattle.std.proofs.lemmas.Bool.{eqb-true, eqb-false, eq-eqb, ne_eqb, ltb-true, ltb-false, le-ltb, lt-ltb}
use Rattle.std.proofs.lemmas.List.{length-append, take_at, drop_at, length-take, take-append-drop}
use Rattle.byteorder.specs.Endian.{little_bytes}
use Rattle.byteorder.specs.Numbers.{length-bytes_low_first}
use Rattle.aml_pkg.specs.declared.item.Len.{Len}
use Rattle.aml_pkg.specs.declared.fault.AmlKind.TheVariants.{BadLead, BadLength}
use Rattle.aml_pkg.specs.declared.fault.AmlFault.{AmlFault}
use Rattle.aml_pkg.specs.declared.window.Window.{Window}
use Rattle.aml_pkg.specs.Spelling.{len_spelling, len_bytes, len_limit, IsLen, Counts}
use Rattle.aml_pkg.specs.Windows.{ended, fault_at}
use Rattle.aml_pkg.specs.Faults.{LenWrong, Lead, Cut, Small, Past}
use Rattle.aml_pkg.specs.Reading.{◌>>=◌, number_at, spelled_len_at, checked, len_at, body_len}
use Rattle.pcc_bytes.specs.Bytes.{IsBytes}
use Rattle.pcc_bytes.proofs.Bytes.{IsBytes-drop, IsBytes-tail, IsBytes-take}
use Rattle.aml_pkg.proofs.Steps.{bind_ok, bind_err, fails, chosen, ok_is, err_is, ok_err, Takes, number_takes, number_again, number_err, number_cut, begins, front_short}

-- ---- arithmetic of the lead

pub spell_more : (f v : ℕ) → 0 < f → len_spelling f v ≡ (64 * f + v % 16) ∷ little_bytes f (v / 16)
spell_more zero v h = absurd (omega arith)
spell_more (suc f) v h = refl

limit_more : (f : ℕ) → 0 < f → len_limit f ≡ 16 * 256 ^ f
limit_more zero h = absurd (omega arith)
limit_more (suc f) h = refl

lead_is : (lead n : ℕ) → lead / 16 % 4 ≡ 0 → 64 * (lead / 64) + (lead % 16 + 16 * n) % 16 ≡ lead
lead_is lead n h = omega arith

high_is : (lead n : ℕ) → (lead % 16 + 16 * n) / 16 ≡ n
high_is lead n = omega arith

below_limit : (low n p : ℕ) → low < 16 → n < p → low + 16 * n < 16 * p
below_limit low n p a b = omega arith

pub high_below : (v p : ℕ) → v < 16 * p → v / 16 < p
high_below v p h = omega arith

lead_follow : (f v : ℕ) → (64 * f + v % 16) / 64 ≡ f
lead_follow f v = omega arith

lead_clear : (f v : ℕ) → (64 * f + v % 16) / 16 % 4 ≡ 0
lead_clear f v = omega arith

lead_value : (f v : ℕ) → (64 * f + v % 16) % 16 + 16 * (v / 16) ≡ v
lead_value f v = omega arith

low_below : (lead : ℕ) → lead % 16 < 16
low_below lead = omega arith

pub length-len_bytes : (f v : ℕ) → length (len_spelling f v) ≡ 1 + f
length-len_bytes zero v = refl
length-len_bytes (suc f) v = omega (arith, length-bytes_low_first 0 (suc f) (v / 16))

-- a length with n behind the low bits of its lead
abbrev long : ℕ → ℕ → Len
long lead n = record { value = lead % 16 + 16 * n; follow = lead / 64 }

long_is : (lead n : ℕ) → lead < 256 → 0 < lead / 64 → n < 256 ^ (lead / 64) → IsLen (long lead n)
long_is lead n small some fits = record { few = omega arith; fits = rw (limit_more (lead / 64) some) (below_limit (lead % 16) n (256 ^ (lead / 64)) (low_below lead) fits) }

long_spelled : (lead n : ℕ) → 0 < lead / 64 → lead / 16 % 4 ≡ 0 → len_bytes (long lead n) ≡ lead ∷ little_bytes (lead / 64) n
long_spelled lead n some clear = rw (spell_more (lead / 64) (lead % 16 + 16 * n) some, lead_is lead n clear, high_is lead n) refl

-- ---- what is read, case by case

read_short : (w : Window) (lead : ℕ) (rest : List ℕ) → lead / 64 ≡ 0 → spelled_len_at w (lead ∷ rest) ≡ Ok (record { value = lead; follow = 0 }, rest)
unfolding spelled_len_at
read_short w lead rest h = rw (eq-eqb (lead / 64) 0 h) refl

nonzero : (f n : ℕ) → n ≡ f → 0 < f → eqb n 0 ≡ false
nonzero f n e some = ne_eqb n 0 (λ h. omega arith)

read_long : (w : Window) (lead f : ℕ) (rest : List ℕ) → lead / 64 ≡ f → 0 < f → lead / 16 % 4 ≡ 0
    → spelled_len_at w (lead ∷ rest) ≡ (number_at f w rest >>= λ n. Ok (record { value = lead % 16 + 16 * n.0; follow = f }, n.1))
unfolding spelled_len_at
read_long w lead f rest e some clear = rw (nonzero f (lead / 64) e some, eq-eqb (lead / 16 % 4) 0 clear, e) refl

read_lead : (w : Window) (lead : ℕ) (rest : List ℕ) → 0 < lead / 64 → (lead / 16 % 4 ≡ 0 → ⊥)
    → spelled_len_at w (lead ∷ rest) ≡ Err (fault_at w (lead ∷ rest) BadLead)
unfolding spelled_len_at
read_lead w lead rest some clear = rw (nonzero (lead / 64) (lead / 64) refl some, ne_eqb (lead / 16 % 4) 0 clear) refl

-- which case a lead is
pub data Case (lead : ℕ) : Type 0 where
  IsShort : lead / 64 ≡ 0 → Case lead
  IsLong : 0 < lead / 64 → lead / 16 % 4 ≡ 0 → Case lead
  IsBad : 0 < lead / 64 → (lead / 16 % 4 ≡ 0 → ⊥) → Case lead

case_by : (lead : ℕ) (s t : Bool) → s ≡ eqb (lead / 64) 0 → t ≡ eqb (lead / 16 % 4) 0 → Case lead
case_by lead true t e d = IsShort (eqb-true _ _ (sym e))
case_by lead false true e d = let h = eqb-false (lead / 64) 0 (sym e) in IsLong (omega arith) (eqb-true _ _ (sym d))
case_by lead false false e d = let h = eqb-false (lead / 64) 0 (sym e) in IsBad (omega arith) (eqb-false (lead / 16 % 4) 0 (sym d))

case_of : (lead : ℕ) → Case lead
case_of lead = case_by lead (eqb (lead / 64) 0) (eqb (lead / 16 % 4) 0) refl refl

-- ---- a length, whatever its value

takes_by : (w : Window) (lead : ℕ) (rest : List ℕ) (x : Len × List ℕ) → IsBytes (lead ∷ rest) → Case lead → spelled_len_at w (lead ∷ rest) ≡ Ok x
    → Takes (lead ∷ rest) (len_bytes x.0) x.1 × IsLen x.0
takes_by w lead rest x fits (IsShort s) e =
    let made : Len × List ℕ = (record { value = lead; follow = 0 }, rest) in
    subst (λ (y : Len × List ℕ). Takes (lead ∷ rest) (len_bytes y.0) y.1 × IsLen y.0) (ok_is made x (sym (read_short w lead rest s) ∙ e))
    (record { parts = refl; fits = IsBytes-tail lead rest fits }, record { few = omega arith; fits = omega arith })
takes_by w lead rest x fits (IsLong s c) e =
    let n = bind_ok (number_at (lead / 64) w rest) (λ n. Ok (record { value = lead % 16 + 16 * n.0; follow = lead / 64 }, n.1)) x (sym (read_long w lead (lead / 64) rest refl s c) ∙ e) in
    let t = number_takes (lead / 64) w rest n.0 (IsBytes-tail lead rest fits) n.1 in
    let made : Len × List ℕ = (long lead n.0.0, n.0.1) in
    let spelled : lead ∷ rest ≡ len_bytes (long lead n.0.0) ++ n.0.1 = rw (long_spelled lead n.0.0 s c) (ap (λ (r : List ℕ). lead ∷ r) t.0.parts) in
    subst (λ (y : Len × List ℕ). Takes (lead ∷ rest) (len_bytes y.0) y.1 × IsLen y.0) (ok_is made x n.2) (record { parts = spelled; fits = t.0.fits }, long_is lead n.0.0 (fits.fits 0) s t.1)
takes_by w lead rest x fits (IsBad s c) e = ok_err x (fault_at w (lead ∷ rest) BadLead) (sym e ∙ read_lead w lead rest s c)

spelled_takes : (w : Window) (b : List ℕ) (x : Len × List ℕ) → IsBytes b → spelled_len_at w b ≡ Ok x → Takes b (len_bytes x.0) x.1 × IsLen x.0
unfolding spelled_len_at
spelled_takes w [] x fits e = ok_err x (ended w) (sym e)
spelled_takes w (lead ∷ rest) x fits e = takes_by w lead rest x fits (case_of lead) e

again_by : (w : Window) (f v : ℕ) (rest : List ℕ) → v < len_limit f → spelled_len_at w (len_spelling f v ++ rest) ≡ Ok (record { value = v; follow = f }, rest)
again_by w zero v rest h = read_short w v rest (omega arith)
again_by w (suc f) v rest h =
    let lead : ℕ = 64 * suc f + v % 16 in
    let n = number_again (suc f) w (v / 16) rest (high_below v (256 ^ suc f) h) in
    let more : ℕ × List ℕ → Result (Len × List ℕ) AmlFault = λ n. Ok (record { value = lead % 16 + 16 * n.0; follow = suc f }, n.1) in
    read_long w lead (suc f) (little_bytes (suc f) (v / 16) ++ rest) (lead_follow (suc f) v) (omega arith) (lead_clear (suc f) v)
    ∙ ap (λ (r : Result (ℕ × List ℕ) AmlFault). r >>= more) n
    ∙ ap (λ (y : ℕ). Ok (record { value = y; follow = suc f }, rest)) (lead_value (suc f) v)

spelled_again : (w : Window) (l : Len) (rest : List ℕ) → IsLen l → spelled_len_at w (len_bytes l ++ rest) ≡ Ok (l, rest)
spelled_again w l rest h = again_by w l.follow l.value rest h.fits

err_by : (w : Window) (lead : ℕ) (rest : List ℕ) (d : AmlFault) → IsBytes (lead ∷ rest) → Case lead → spelled_len_at w (lead ∷ rest) ≡ Err d
    → LenWrong w (lead ∷ rest) d
err_by w lead rest d fits (IsShort s) e = ok_err (record { value = lead; follow = 0 }, rest) d (sym (read_short w lead rest s) ∙ e)
err_by w lead rest d fits (IsLong s c) e =
    elim (bind_err (number_at (lead / 64) w rest) (λ n. Ok (record { value = lead % 16 + 16 * n.0; follow = lead / 64 }, n.1)) d (sym (read_long w lead (lead / 64) rest refl s c) ∙ e)) [
      | inl bad ↦
          let cut = number_err (lead / 64) w rest d bad in
          let m = begins (lead / 64) rest (IsBytes-tail lead rest fits) cut.0 in
          let whole : (lead ∷ rest) ++ m.more ≡ len_bytes (long lead m.v) = rw (long_spelled lead m.v s c, m.whole) refl in
          subst (λ (g : AmlFault). LenWrong w (lead ∷ rest) g) cut.1 (Cut (long lead m.v) m.more (long_is lead m.v (fits.fits 0) s m.small) m.some whole)
      | inr good ↦ ok_err _ d good.2
    ]
err_by w lead rest d fits (IsBad s c) e =
    subst (λ (g : AmlFault). LenWrong w (lead ∷ rest) g) (err_is {A = Len × List ℕ} _ _ (sym (read_lead w lead rest s c) ∙ e)) (Lead lead rest refl (omega arith) c)

spelled_err : (w : Window) (b : List ℕ) (d : AmlFault) → IsBytes b → spelled_len_at w b ≡ Err d → LenWrong w b d
unfolding spelled_len_at
spelled_err w [] d fits e = subst (λ (g : AmlFault). LenWrong w [] g) (err_is {A = Len × List ℕ} _ _ e) (Cut (record { value = 0; follow = 0 }) (0 ∷ []) (record { few = omega arith; fits = lit< tt }) (lit< tt) refl)
spelled_err w (lead ∷ rest) d fits e = err_by w lead rest d fits (case_of lead) e

cut_by : (w : Window) (f v : ℕ) (b more : List ℕ) → 0 < length more → b ++ more ≡ len_spelling f v → spelled_len_at w b ≡ Err (ended w)
unfolding spelled_len_at
cut_by w f v [] more some e = refl
cut_by w zero v (lead ∷ rest) more some e = absurd (omega (arith, ap length e, length-append rest more))
cut_by w (suc f) v (lead ∷ rest) more some e =
    let same : lead ≡ 64 * suc f + v % 16 = cc in
    let tail : rest ++ more ≡ little_bytes (suc f) (v / 16) = cc in
    let short = front_short (suc f) (v / 16) rest more some tail in
    let follow : lead / 64 ≡ suc f = ap (λ (y : ℕ). y / 64) same ∙ lead_follow (suc f) v in
    let clear : lead / 16 % 4 ≡ 0 = ap (λ (y : ℕ). y / 16 % 4) same ∙ lead_clear (suc f) v in
    read_long w lead (suc f) rest follow (omega arith) clear ∙ fails _ _ _ (number_cut (suc f) w rest short)

-- ---- a length that is right for its place

pub record Fits (b : List ℕ) (l : Len) (rest : List ℕ) : Type 0 where
  pub takes : Takes b (len_bytes l) rest
  pub is : IsLen l
  pub own : 1 + l.follow ≤ l.value
  pub within : l.value ≤ length b

pub len_takes : (w : Window) (b : List ℕ) (x : Len × List ℕ) → IsBytes b → len_at w b ≡ Ok x → Fits b x.0 x.1
unfolding len_at
len_takes w b x fits e =
    let l = bind_ok (spelled_len_at w b) (λ l. checked w b l.0 l.1) x e in
    let t = spelled_takes w b l.0 fits l.1 in
    elim (chosen (ltb l.0.0.value (1 + l.0.0.follow)) (Err (fault_at w b BadLength)) _ (Ok x) l.2) [
      | inl c ↦ ok_err x (fault_at w b BadLength) (sym c.1)
      | inr c ↦ elim (chosen (ltb (length b) l.0.0.value) (Err (ended w)) (Ok l.0) (Ok x) c.1) [
        | inl d ↦ ok_err x (ended w) (sym d.1)
        | inr d ↦ subst (λ (y : Len × List ℕ). Fits b y.0 y.1) (ok_is l.0 x d.1)
            (record { takes = t.0; is = t.1; own = ltb-false _ _ c.0; within = ltb-false _ _ d.0 })
      ]
    ]

pub len_again : (w : Window) (l : Len) (rest : List ℕ) → IsLen l → 1 + l.follow ≤ l.value → l.value ≤ length (len_bytes l ++ rest)
    → len_at w (len_bytes l ++ rest) ≡ Ok (l, rest)
unfolding len_at
len_again w l rest h own within =
    ap (λ (r : Result (Len × List ℕ) AmlFault). r >>= (λ l'. checked w (len_bytes l ++ rest) l'.0 l'.1)) (spelled_again w l rest h)
    ∙ rw (le-ltb _ _ own, le-ltb _ _ within) refl

pub len_err : (w : Window) (b : List ℕ) (d : AmlFault) → IsBytes b → len_at w b ≡ Err d → LenWrong w b d
unfolding len_at
len_err w b d fits e =
    elim (bind_err (spelled_len_at w b) (λ l. checked w b l.0 l.1) d e) [
      | inl bad ↦ spelled_err w b d fits bad
      | inr l ↦
          let t = spelled_takes w b l.0 fits l.1 in
          elim (chosen (ltb l.0.0.value (1 + l.0.0.follow)) (Err (fault_at w b BadLength)) _ (Err d) l.2) [
            | inl c ↦ subst (λ (g : AmlFault). LenWrong w b g) (err_is {A = Len × List ℕ} _ _ c.1) (Small l.0.0 l.0.1 t.1 t.0.parts (ltb-true _ _ c.0))
            | inr c ↦ elim (chosen (ltb (length b) l.0.0.value) (Err (ended w)) (Ok l.0) (Err d) c.1) [
              | inl p ↦ subst (λ (g : AmlFault). LenWrong w b g) (err_is {A = Len × List ℕ} _ _ p.1) (Past l.0.0 l.0.1 t.1 t.0.parts (ltb-true _ _ p.0))
              | inr p ↦ ok_err l.0 d p.1
            ]
          ]
    ]

pub len_wrong : (w : Window) (b : List ℕ) (d : AmlFault) → LenWrong w b d → len_at w b ≡ Err d
unfolding len_at
len_wrong w b d (Lead lead rest e some c) = ap (len_at w) e ∙ fails (spelled_len_at w (lead ∷ rest)) _ _ (read_lead w lead rest (omega arith) c) ∙ ap (λ (x : List ℕ). Err (fault_at w x BadLead)) (sym e)
len_wrong w b d (Cut l more is some e) = fails (spelled_len_at w b) _ _ (cut_by w l.follow l.value b more some e)
len_wrong w b d (Small l rest is e small) =
    let read : spelled_len_at w b ≡ Ok (l, rest) = ap (spelled_len_at w) e ∙ spelled_again w l rest is in
    rw (read, lt-ltb _ _ small) refl
len_wrong w b d (Past l rest is e past) =
    let read : spelled_len_at w b ≡ Ok (l, rest) = ap (spelled_len_at w) e ∙ spelled_again w l rest is in
    let own : 1 + l.follow ≤ l.value = omega (arith, ap length e, length-append (len_bytes l) rest, length-len_bytes l.follow l.value) in
    rw (read, le-ltb _ _ own, lt-ltb _ _ past) refl

-- ---- the body that a length counts, cut out of what is behind it

pub record Framed (b : List ℕ) (l : Len) (body rest : List ℕ) : Type 0 where
  pub counts : Counts l body
  pub parts : b ≡ len_bytes l ++ (body ++ rest)
  pub body_fits : IsBytes body
  pub fits : IsBytes rest

pub framed : (b : List ℕ) (l : Len) (rest : List ℕ) → Fits b l rest → Framed b l (take (body_len l) rest) (drop (body_len l) rest)
framed b l rest h =
    let n : ℕ = body_len l in
    let own : 1 + l.follow ≤ l.value = h.own in
    let within : l.value ≤ length b = h.within in
    let len : length b ≡ 1 + l.follow + length rest = omega (arith, ap length h.takes.parts, length-append (len_bytes l) rest, length-len_bytes l.follow l.value) in
    record {
      counts = record { is = h.is; whole = omega (arith, length-take n rest) };
      parts = h.takes.parts ∙ ap (λ (r : List ℕ). len_bytes l ++ r) (sym (take-append-drop n rest));
      body_fits = IsBytes-take n rest h.takes.fits;
      fits = IsBytes-drop n rest h.takes.fits;
    }

pub frame_again : (w : Window) (l : Len) (body rest : List ℕ) → Counts l body → len_at w (len_bytes l ++ (body ++ rest)) ≡ Ok (l, body ++ rest)
frame_again w l body rest h =
    let whole : l.value ≡ 1 + l.follow + length body = h.whole in
    len_again w l (body ++ rest) h.is (omega arith) (omega (arith, length-append (len_bytes l) (body ++ rest), length-append body rest, length-len_bytes l.follow l.value))

pub body_again : (l : Len) (body rest : List ℕ) → Counts l body → (take (body_len l) (body ++ rest) ≡ body) × (drop (body_len l) (body ++ rest) ≡ rest)
body_again l body rest h =
    let whole : l.value ≡ 1 + l.follow + length body = h.whole in
    (take_at body rest (body_len l) (omega arith), drop_at body rest (body_len l) (omega arith))
