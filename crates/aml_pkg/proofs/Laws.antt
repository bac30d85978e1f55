-- The laws of whole inputs.
use Rattle.std.proofs.Common.{◌≡◌, ◌⊎◌, inl, inr, ℕ, zero, suc, ◌-◌, ◌<◌, ◌≤◌, true, ltb, List, [], ◌∷◌, ◌++◌, length, take, slice_index, Result, Ok, Err, refl, sym, ap, ◌∙◌, subst, arith}
use Rattle.std.specs.Prelude.{IfOk, IfErr, MatchResult}
use Rattle.std.specs.List.{list_all}
use Rattle.std.proofs.lemmas.Bool.{and_parts, ltb-true}
use Rattle.std.proofs.lemmas.List.{length-append, take_all, take_at}
use Rattle.aml_pkg.specs.declared.item.Item.{Item}
use Rattle.aml_pkg.specs.declared.fault.AmlFault.{AmlFault}
use Rattle.aml_pkg.specs.declared.fault.ReadError.{ReadError}
use Rattle.aml_pkg.specs.declared.fault.ReadError.TheVariants as errors
use Rattle.aml_pkg.specs.Spelling.{item_bytes, AmlBytes}
use Rattle.aml_pkg.specs.Faults.{ItemWrong, HasItem, HasFault}
use Rattle.aml_pkg.specs.Answers.{OnFault}
use Rattle.aml_pkg.specs.Reading.{Gives, item_at, used_at}
use Rattle.pcc_bytes.specs.Bytes.{IsBytes}
use Rattle.aml_pkg.proofs.Steps.{bind_ok, bind_err, fails, ok_is, err_is, ok_err}
use Rattle.aml_pkg.proofs.Items.{item_takes, item_again, item_err, item_wrong}

pub record Found (b : List ℕ) (x : Item × ℕ) : Type 0 where
  pub within : x.1 ≤ length b
  pub spelled : AmlBytes (take x.1 b) x.0

pub used_found : (b : List ℕ) (x : Item × ℕ) → IsBytes b → used_at b ≡ Ok x → Found b x
unfolding used_at
used_found b x fits e =
    let v = bind_ok (item_at b) (λ x. Ok (x.0, length b - length x.1)) x e in
    let t = item_takes b v.0 fits v.1 in
    let len : length (item_bytes v.0.0) ≡ length b - length v.0.1 = omega (arith, ap length t.0.parts, length-append (item_bytes v.0.0) v.0.1) in
    let front : take (length b - length v.0.1) b ≡ item_bytes v.0.0 = ap (take (length b - length v.0.1)) t.0.parts ∙ take_at (item_bytes v.0.0) v.0.1 (length b - length v.0.1) len in
    subst (λ (y : Item × ℕ). Found b y) (ok_is (v.0.0, length b - length v.0.1) x v.2) (record { within = omega arith; spelled = record { is = t.1; spelled = front } })

pub used_again : (b x r : List ℕ) (i : Item) → AmlBytes x i → b ≡ x ++ r → used_at b ≡ Ok (i, length x)
unfolding used_at
used_again b x r i h e =
    let read : item_at b ≡ Ok (i, r) = item_again b i r h.is (e ∙ ap (λ (y : List ℕ). y ++ r) h.spelled) in
    let len : length b - length r ≡ length x = omega (arith, ap length e, length-append x r) in
    rw read (ap (λ (n : ℕ). Ok (i, n)) len)

pub used_err : (b : List ℕ) (d : AmlFault) → IsBytes b → used_at b ≡ Err d → ItemWrong b d
unfolding used_at
used_err b d fits e = elim (bind_err (item_at b) (λ x. Ok (x.0, length b - length x.1)) d e) [
  | inl bad ↦ item_err b d fits bad
  | inr good ↦ ok_err _ d good.2
]

pub used_wrong : (b : List ℕ) (d : AmlFault) → ItemWrong b d → used_at b ≡ Err d
unfolding used_at
used_wrong b d h = fails (item_at b) _ _ (item_wrong b d h)

pub is_found : (b : List ℕ) (r : Result (Item × ℕ) ReadError) → IsBytes b → Gives (λ x. x) r (used_at b)
    → IfOk r (λ x. (x.1 ≤ length b) × AmlBytes (take x.1 b) x.0)
is_found b (Ok x) fits e = let f = used_found b x fits e in (f.within, f.spelled)
is_found b (Err e) fits h = tt

pub is_wrong : (b : List ℕ) (r : Result (Item × ℕ) ReadError) → IsBytes b → Gives (λ x. x) r (used_at b) → IfErr r (λ e. OnFault e (ItemWrong b))
is_wrong b (Ok x) fits e = tt
is_wrong b (Err errors.NoMemory) fits h = tt
is_wrong b (Err (errors.Fault d)) fits h = used_err b d fits h

pub only_item : (b x r : List ℕ) (i : Item) (res : Result (Item × ℕ) ReadError) → AmlBytes x i → b ≡ x ++ r → Gives (λ x. x) res (used_at b)
    → MatchResult res (λ y. (y.0 ≡ i) × (y.1 ≡ length x)) (λ e. e ≡ errors.NoMemory)
only_item b x r i (Ok y) h e g =
    let same : y ≡ (i, length x) = ok_is y (i, length x) (sym g ∙ used_again b x r i h e) in
    (ap (λ (p : Item × ℕ). p.0) same, ap (λ (p : Item × ℕ). p.1) same)
only_item b x r i (Err errors.NoMemory) h e g = refl
only_item b x r i (Err (errors.Fault d)) h e g = ok_err (i, length x) d (sym (used_again b x r i h e) ∙ g)

pub exact_fault : (b : List ℕ) (d : AmlFault) (res : Result (Item × ℕ) ReadError) → ItemWrong b d → Gives (λ x. x) res (used_at b)
    → MatchResult res (λ y. ⊥) (λ e. OnFault e (λ f. f ≡ d))
exact_fault b d (Ok y) h g = ok_err y d (sym g ∙ used_wrong b d h)
exact_fault b d (Err errors.NoMemory) h g = tt
exact_fault b d (Err (errors.Fault f)) h g = err_is {A = Item × ℕ} f d (sym g ∙ used_wrong b d h)

-- ---- an item or a fault, and one of each

which : (b : List ℕ) (r : Result (Item × ℕ) AmlFault) → IsBytes b → used_at b ≡ r → HasItem b ⊎ HasFault b
unfolding used_at
which b (Ok x) fits e =
    let v = bind_ok (item_at b) (λ x. Ok (x.0, length b - length x.1)) x e in
    let t = item_takes b v.0 fits v.1 in
    inl (v.0.0, item_bytes v.0.0, v.0.1, record { is = t.1; spelled = refl }, t.0.parts)
which b (Err d) fits e = inr (d, used_err b d fits e)

pub item_or_fault : (b : List ℕ) → IsBytes b → HasItem b ⊎ HasFault b
item_or_fault b fits = which b (used_at b) fits refl

pub not_both : (b : List ℕ) → HasItem b → HasFault b → ⊥
not_both b h d = ok_err _ d.0 (sym (used_again b h.1 h.2 h.0 h.3 h.4) ∙ used_wrong b d.0 d.1)

pub one_item : (x r y s : List ℕ) (i j : Item) → AmlBytes x i → AmlBytes y j → x ++ r ≡ y ++ s → i ≡ j
one_item x r y s i j hx hy e = ap (λ (p : Item × ℕ). p.0) (ok_is (i, length x) (j, length y) (sym (used_again (x ++ r) x r i hx refl) ∙ used_again (x ++ r) y s j hy e))

pub one_fault : (b : List ℕ) (d e : AmlFault) → ItemWrong b d → ItemWrong b e → d ≡ e
one_fault b d e hd he = err_is {A = Item × ℕ} d e (sym (used_wrong b d hd) ∙ used_wrong b e he)

pub one_spelling : (x y : List ℕ) (i : Item) → AmlBytes x i → AmlBytes y i → x ≡ y
one_spelling x y i hx hy = hx.spelled ∙ sym hy.spelled

-- ---- worked cases

-- bytes by a test of each
pub tested_bytes : (bytes : List ℕ) → list_all (λ x. ltb x 256) bytes ≡ true → (place : ℕ) → slice_index bytes place < 256
tested_bytes [] h place = omega arith
tested_bytes (x ∷ xs) h zero = ltb-true x 256 (and_parts (ltb x 256) (list_all (λ x. ltb x 256) xs) h).0
tested_bytes (x ∷ xs) h (suc place) = tested_bytes xs (and_parts (ltb x 256) (list_all (λ x. ltb x 256) xs) h).1 place

pub wrong_by : (bytes : List ℕ) (fault : AmlFault) → list_all (λ x. ltb x 256) bytes ≡ true → used_at bytes ≡ Err fault → ItemWrong bytes fault
wrong_by bytes fault h e = used_err bytes fault (record { fits = tested_bytes bytes h }) e

pub spelled_by : (bytes : List ℕ) (i : Item) → list_all (λ x. ltb x 256) bytes ≡ true → used_at bytes ≡ Ok (i, length bytes) → AmlBytes bytes i
spelled_by bytes i h e =
    let found = used_found bytes (i, length bytes) (record { fits = tested_bytes bytes h }) e in
    subst (λ (front : List ℕ). AmlBytes front i) (take_all (length bytes) bytes (omega arith)) found.spelled
