-- Items: what is read is spelled so, what is spelled is read again, and each fault is of the wrong that it tells.
use Rattle.std.proofs.Common.{◌≡◌, inl, inr, ℕ, ◌<◌, Bool, true, false, eqb, List, [], ◌∷◌, ◌++◌, length, take, drop, Result, Ok, Err, refl, sym, ap, ◌∙◌, subst, arith}
use Rattle.std.specs.List.{flat_map, AllByRecursion}
use Rattle.std.proofs.lemmas.Bool.{eqb-true, eqb-false, ne_eqb}
use Rattle.std.proofs.lemmas.List.{append_assoc}
use Rattle.aml_pkg.specs.declared.item.Len.{Len}
use Rattle.aml_pkg.specs.declared.item.Element.{Element}
use Rattle.aml_pkg.specs.declared.item.Item.{Item}
use Rattle.aml_pkg.specs.declared.item.Item.TheVariants as item
use Rattle.aml_pkg.specs.declared.fault.AmlFault.{AmlFault}
use Rattle.aml_pkg.specs.declared.window.Window.{Window}
use Rattle.aml_pkg.specs.Spelling.{len_bytes, Counts, element_bytes, IsElement, package_body, IsPackage, item_bytes, IsItem}
use Rattle.aml_pkg.specs.Windows.{ended, inner, input}
use Rattle.aml_pkg.specs.Faults.{PackageWrong, InLen, NoNumber, Within, ItemWrong, InPackage, InElement}
use Rattle.aml_pkg.specs.Reading.{◌>>=◌, len_at, body_len, element_at, body_at, package_at, lone_at, front_at, item_at}
use Rattle.pcc_bytes.specs.Bytes.{IsBytes}
use Rattle.pcc_bytes.proofs.Bytes.{IsBytes-tail}
use Rattle.aml_pkg.proofs.Steps.{bind_ok, bind_err, fails, ok_is, err_is, ok_err, Takes}
use Rattle.aml_pkg.proofs.Lens.{len_takes, len_err, len_wrong, Framed, framed, frame_again, body_again}
use Rattle.aml_pkg.proofs.Elements.{element_takes, element_again, element_err, element_wrong, elements_take, elements_again, elements_err, elements_wrong}

-- ---- the body of a package

body_takes : (w : Window) (b : List ℕ) (es : List Element) → IsBytes b → body_at w b ≡ Ok es
    → (b ≡ package_body es) × (length es < 256) × AllByRecursion IsElement es
unfolding body_at
body_takes w [] es fits e = ok_err es (ended w) (sym e)
body_takes w (n ∷ rest) es fits e =
    let t = elements_take n w rest es (IsBytes-tail n rest fits) e in
    let small : n < 256 = fits.fits 0 in
    let count : length es ≡ n = t.1 in
    (ap (λ (y : List ℕ). n ∷ y) t.0 ∙ ap (λ (k : ℕ). k ∷ flat_map element_bytes es) (sym count), omega arith, t.2)

body_read : (w : Window) (es : List Element) → AllByRecursion IsElement es → body_at w (package_body es) ≡ Ok es
unfolding body_at
body_read w es h = elements_again es w h

-- ---- a package behind its op

package_takes : (w : Window) (b : List ℕ) (x : Item × List ℕ) → IsBytes b → package_at w b ≡ Ok x → Takes (0x12 ∷ b) (item_bytes x.0) x.1 × IsItem x.0
unfolding package_at
package_takes w b x fits e =
    let l = bind_ok (len_at w b) (λ l. body_at (inner w b l.0.value) (take (body_len l.0) l.1) >>= λ es. Ok (item.Package l.0 es, drop (body_len l.0) l.1)) x e in
    let f = framed b l.0.0 l.0.1 (len_takes w b l.0 fits l.1) in
    let body : List ℕ = take (body_len l.0.0) l.0.1 in
    let after : List ℕ = drop (body_len l.0.0) l.0.1 in
    let s = bind_ok (body_at (inner w b l.0.0.value) body) (λ es. Ok (item.Package l.0.0 es, after)) x l.2 in
    let t = body_takes (inner w b l.0.0.value) body s.0 f.body_fits s.1 in
    let made : Item × List ℕ = (item.Package l.0.0 s.0, after) in
    let parts : 0x12 ∷ b ≡ item_bytes made.0 ++ after =
    ap (λ (y : List ℕ). 0x12 ∷ y) (f.parts ∙ ap (λ (y : List ℕ). len_bytes l.0.0 ++ (y ++ after)) t.0 ∙ sym (append_assoc (len_bytes l.0.0) (package_body s.0) after)) in
    subst (λ (y : Item × List ℕ). Takes (0x12 ∷ b) (item_bytes y.0) y.1 × IsItem y.0) (ok_is made x s.2)
    (record { parts = parts; fits = f.fits }, record { few = t.1; counts = subst (λ (y : List ℕ). Counts l.0.0 y) t.0 f.counts; each = t.2 })

package_again : (w : Window) (l : Len) (es : List Element) (rest : List ℕ) → IsPackage l es
    → package_at w (len_bytes l ++ (package_body es ++ rest)) ≡ Ok (item.Package l es, rest)
unfolding package_at
package_again w l es rest h =
    let b : List ℕ = len_bytes l ++ (package_body es ++ rest) in
    let cut = body_again l (package_body es) rest h.counts in
    rw (frame_again w l (package_body es) rest h.counts, cut.0, cut.1, body_read (inner w b l.value) es h.each) refl

body_err : (w : Window) (l : Len) (b body after : List ℕ) (d : AmlFault) → Framed b l body after → body_at (inner w b l.value) body ≡ Err d → PackageWrong w b d
unfolding body_at
body_err w l b [] after d f e = NoNumber l after f.counts f.parts (sym (err_is {A = List Element} _ _ e))
body_err w l b (n ∷ rest) after d f e = Within l n rest after f.counts f.parts (elements_err n (inner w b l.value) rest d (IsBytes-tail n rest f.body_fits) e)

package_err : (w : Window) (b : List ℕ) (d : AmlFault) → IsBytes b → package_at w b ≡ Err d → PackageWrong w b d
unfolding package_at
package_err w b d fits e =
    elim (bind_err (len_at w b) (λ l. body_at (inner w b l.0.value) (take (body_len l.0) l.1) >>= λ es. Ok (item.Package l.0 es, drop (body_len l.0) l.1)) d e) [
      | inl bad ↦ InLen (len_err w b d fits bad)
      | inr l ↦
          let f = framed b l.0.0 l.0.1 (len_takes w b l.0 fits l.1) in
          let body : List ℕ = take (body_len l.0.0) l.0.1 in
          let after : List ℕ = drop (body_len l.0.0) l.0.1 in
          elim (bind_err (body_at (inner w b l.0.0.value) body) (λ es. Ok (item.Package l.0.0 es, after)) d l.2) [
            | inl bad ↦ body_err w l.0.0 b body after d f bad
            | inr good ↦ ok_err _ d good.2
          ]
    ]

body_fails : (w : Window) (l : Len) (b body rest : List ℕ) (d : AmlFault) → Counts l body → b ≡ len_bytes l ++ (body ++ rest)
    → body_at (inner w b l.value) body ≡ Err d → package_at w b ≡ Err d
unfolding package_at
body_fails w l b body rest d counts e bad =
    let read : len_at w b ≡ Ok (l, body ++ rest) = ap (len_at w) e ∙ frame_again w l body rest counts in
    let cut = body_again l body rest counts in
    rw (read, cut.0, bad) refl

package_wrong : (w : Window) (b : List ℕ) (d : AmlFault) → PackageWrong w b d → package_at w b ≡ Err d
unfolding package_at body_at
package_wrong w b d (InLen h) = fails (len_at w b) _ _ (len_wrong w b d h)
package_wrong w b d (NoNumber l rest counts e is) = body_fails w l b [] rest d counts e (ap (λ (g : AmlFault). Err g) (sym is))
package_wrong w b d (Within l n body rest counts e h) = body_fails w l b (n ∷ body) rest d counts e (elements_wrong n (inner w b l.value) body d h)

-- ---- an item at the front

pub data Front (b : List ℕ) : Type 0 where
  IsPackaged : (rest : List ℕ) → b ≡ 0x12 ∷ rest → Front b
  IsLone : ((rest : List ℕ) → b ≡ 0x12 ∷ rest → ⊥) → Front b

front_by : (op : ℕ) (rest : List ℕ) (t : Bool) → t ≡ eqb op 0x12 → Front (op ∷ rest)
front_by op rest true e = IsPackaged rest (ap (λ (o : ℕ). o ∷ rest) (eqb-true _ _ (sym e)))
front_by op rest false e = IsLone (λ r h. let same : op ≡ 0x12 = cc in eqb-false op 0x12 (sym e) same)

front_of : (b : List ℕ) → Front b
front_of [] = IsLone (λ r h. absurd cc)
front_of (op ∷ rest) = front_by op rest (eqb op 0x12) refl

front_lone : (w : Window) (b : List ℕ) → ((rest : List ℕ) → b ≡ 0x12 ∷ rest → ⊥) → front_at w b ≡ lone_at w b
front_lone w [] h = refl
front_lone w (op ∷ rest) h = rw (ne_eqb op 0x12 (λ e. h rest (ap (λ (o : ℕ). o ∷ rest) e))) refl

takes_by : (w : Window) (b : List ℕ) (x : Item × List ℕ) → IsBytes b → Front b → front_at w b ≡ Ok x → Takes b (item_bytes x.0) x.1 × IsItem x.0
takes_by w b x fits (IsPackaged rest e) read =
    let all : IsBytes (0x12 ∷ rest) = subst IsBytes e fits in
    subst (λ (c : List ℕ). Takes c (item_bytes x.0) x.1 × IsItem x.0) (sym e) (package_takes w rest x (IsBytes-tail 0x12 rest all) (ap (front_at w) (sym e) ∙ read))
takes_by w b x fits (IsLone h) read =
    let v = bind_ok (element_at w b) (λ e. Ok (item.Element e.0, e.1)) x (sym (front_lone w b h) ∙ read) in
    let t = element_takes w b v.0 fits v.1 in
    let made : Item × List ℕ = (item.Element v.0.0, v.0.1) in
    subst (λ (y : Item × List ℕ). Takes b (item_bytes y.0) y.1 × IsItem y.0) (ok_is made x v.2) t

pub item_takes : (b : List ℕ) (x : Item × List ℕ) → IsBytes b → item_at b ≡ Ok x → Takes b (item_bytes x.0) x.1 × IsItem x.0
unfolding item_at
item_takes b x fits e = takes_by (input b) b x fits (front_of b) e

no_deep : (w : Window) (v : Element) (rest after : List ℕ) → IsElement v → element_bytes v ++ rest ≡ 0x12 ∷ after → ⊥
unfolding element_at
no_deep w v rest after h e = ok_err (v, rest) _ (sym (element_again w v rest h) ∙ ap (element_at w) e)

again_by : (w : Window) (i : Item) (rest : List ℕ) → IsItem i → front_at w (item_bytes i ++ rest) ≡ Ok (i, rest)
again_by w (item.Element v) rest h =
    let more : Element × List ℕ → Result (Item × List ℕ) AmlFault = λ e. Ok (item.Element e.0, e.1) in
    front_lone w (element_bytes v ++ rest) (λ after e. no_deep w v rest after h e) ∙ ap (λ (r : Result (Element × List ℕ) AmlFault). r >>= more) (element_again w v rest h)
again_by w (item.Package l es) rest h = ap (package_at w) (append_assoc (len_bytes l) (package_body es) rest) ∙ package_again w l es rest h

pub item_again : (b : List ℕ) (i : Item) (rest : List ℕ) → IsItem i → b ≡ item_bytes i ++ rest → item_at b ≡ Ok (i, rest)
unfolding item_at
item_again b i rest h e = ap (front_at (input b)) e ∙ again_by (input b) i rest h

err_by : (b : List ℕ) (d : AmlFault) → IsBytes b → Front b → front_at (input b) b ≡ Err d → ItemWrong b d
err_by b d fits (IsPackaged rest e) read =
    let all : IsBytes (0x12 ∷ rest) = subst IsBytes e fits in
    InPackage rest e (package_err (input b) rest d (IsBytes-tail 0x12 rest all) (ap (front_at (input b)) (sym e) ∙ read))
err_by b d fits (IsLone h) read =
    elim (bind_err (element_at (input b) b) (λ e. Ok (item.Element e.0, e.1)) d (sym (front_lone (input b) b h) ∙ read)) [
      | inl bad ↦ InElement h (element_err (input b) b d fits bad)
      | inr good ↦ ok_err _ d good.2
    ]

pub item_err : (b : List ℕ) (d : AmlFault) → IsBytes b → item_at b ≡ Err d → ItemWrong b d
unfolding item_at
item_err b d fits e = err_by b d fits (front_of b) e

pub item_wrong : (b : List ℕ) (d : AmlFault) → ItemWrong b d → item_at b ≡ Err d
unfolding item_at
item_wrong b d (InPackage rest e h) = ap (front_at (input b)) e ∙ package_wrong (input b) rest d h
item_wrong b d (InElement h bad) = front_lone (input b) b h ∙ fails (element_at (input b) b) _ _ (element_wrong (input b) b d bad)
