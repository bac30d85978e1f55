-- As many journals as are opened are judged, in one way.
use Rattle.std.proofs.Common.{◌≡◌, inl, inr, ℕ, zero, suc, ◌<◌, Bool, true, false, List, [], ◌∷◌, length, take, refl, sym, ap, ◌∙◌, subst, arith}
use Rattle.std.specs.Prelude.{Some, None, slice_get}
use Rattle.std.specs.List.{AllZip}
use Rattle.std.proofs.lemmas.Bool.{cases_lt}
use Rattle.pcc_text.specs.Pieces.{spelled}
use Rattle.journal_reading.specs.declared.told.Told.{Told}
use Rattle.pcc_audit.specs.declared.verdict.Flaw.{Flaw}
use Rattle.pcc_audit.specs.declared.verdict.Flaw.TheVariants.{Head}
use Rattle.pcc_audit.specs.declared.verdict.Verdict.{Verdict}
use Rattle.pcc_audit.specs.declared.verdict.Verdict.TheVariants.{Yes, No}
use Rattle.pcc_audit.specs.Verdicts.{Board, HasVerdict, IsVerdict}
use Rattle.pcc_setup.specs.declared.opening.Opened.{Opened}
use Rattle.audit_run.specs.Audits.{AllRight, FirstWrong, IsAuditOf, IsJudged, IsRight, no_line, yes_text}
use Rattle.audit_run.specs.Boards.{board_of}
use Rattle.audit_run.specs.Journals.{AreJournals, HasJournals}

-- ---- what the laws of verdicts and of journals give

-- a journal has a verdict
abbrev pub SomeVerdict : Type 0
SomeVerdict = (b : Board) (t : Told) → HasVerdict b t

-- it has one at most
abbrev pub OneVerdict : Type 0
OneVerdict = (b : Board) (t : Told) (v w : Verdict) → IsVerdict b t v → IsVerdict b t w → v ≡ w

-- a text spells one list of journals at most
abbrev pub OneList : Type 0
OneList = (count : ℕ) (text : List ℕ) (ts us : List Told) → AreJournals count text ts → AreJournals count text us → ts ≡ us

-- ---- some way

record HasJudged (os : List Opened) (ts : List Told) : Type 0 where
  flawed : Bool
  written : List ℕ
  is : IsJudged os ts flawed written

-- with one more journal in front, which is right
right_first : (o : Opened) (t : Told) (os : List Opened) (ts : List Told) (flawed : Bool) (written : List ℕ) → IsRight o t
    → IsJudged os ts flawed written → HasJudged (o ∷ os) (t ∷ ts)
right_first o t os ts flawed written right (AllRight all) =
    record { flawed = false; written = yes_text (o ∷ os) (t ∷ ts); is = AllRight (right, all) }
right_first o t os ts flawed written right (FirstWrong k p u there told before number flaw wrong) =
    record { flawed = true; written = spelled (no_line p number flaw); is = FirstWrong (suc k) p u there told (right, before) number flaw wrong }

judged_first : (o : Opened) (t : Told) (os : List Opened) (ts : List Told) (v : Verdict) → IsVerdict (board_of o) t v → HasJudged os ts
    → HasJudged (o ∷ os) (t ∷ ts)
judged_first o t os ts Yes is rest = right_first o t os ts rest.flawed rest.written is rest.is
judged_first o t os ts (No number flaw) is rest =
    record { flawed = true; written = spelled (no_line o number flaw); is = FirstWrong 0 o t refl refl tt number flaw is }

some_judged : SomeVerdict → (os : List Opened) (ts : List Told) → length ts ≡ length os → HasJudged os ts
some_judged some_verdict [] [] e = record { flawed = false; written = []; is = AllRight tt }
some_judged some_verdict [] (t ∷ ts) e = absurd (omega (arith, e))
some_judged some_verdict (o ∷ os) [] e = absurd (omega (arith, e))
some_judged some_verdict (o ∷ os) (t ∷ ts) e =
    let v : HasVerdict (board_of o) t = some_verdict (board_of o) t in
    judged_first o t os ts v.verdict v.is (some_judged some_verdict os ts (omega (arith, e)))

pub some_audit : SomeVerdict → (opened : List Opened) (text : List ℕ) → HasJournals (length opened) text
    → (flawed : Bool) × (written : List ℕ) × IsAuditOf opened text flawed written
some_audit some_verdict opened text h =
    let j : HasJudged opened h.journals = some_judged some_verdict opened h.journals h.are.count_is in
    (j.flawed, j.written, record { journals = h.journals; are = h.are; judged = j.is })

-- ---- one way

same_some : {A : Type 0} (x y : A) → Some x ≡ Some y → x ≡ y
same_some x y h = cc

none_some : {A : Type 0} (x : A) → None ≡ Some x → ⊥
none_some x h = cc

right_as : (o p : Opened) (t u : Told) → Some o ≡ Some p → Some t ≡ Some u → IsRight o t → IsRight p u
right_as o p t u e f right =
    let same : o ≡ p = same_some o p e in
    let told : t ≡ u = same_some t u f in
    subst (λ (x : Told). IsRight p x) told (subst (λ (x : Opened). IsRight x t) same right)

right_at : (os : List Opened) (ts : List Told) (k : ℕ) (o : Opened) (t : Told) → AllZip IsRight os ts → slice_get os k ≡ Some o
    → slice_get ts k ≡ Some t → IsRight o t
right_at [] ts k o t all there told = absurd (none_some o there)
right_at (p ∷ os) [] k o t all there told = absurd (none_some t told)
right_at (p ∷ os) (u ∷ ts) zero o t all there told = right_as p o u t there told all.0
right_at (p ∷ os) (u ∷ ts) (suc k) o t all there told = right_at os ts k o t all.1 there told

right_below : (os : List Opened) (ts : List Told) (n k : ℕ) (o : Opened) (t : Told) → AllZip IsRight (take n os) (take n ts) → k < n
    → slice_get os k ≡ Some o → slice_get ts k ≡ Some t → IsRight o t
right_below os ts zero k o t all lt there told = absurd (omega (arith, lt))
right_below [] ts (suc n) k o t all lt there told = absurd (none_some o there)
right_below (p ∷ os) [] (suc n) k o t all lt there told = absurd (none_some t told)
right_below (p ∷ os) (u ∷ ts) (suc n) zero o t all lt there told = right_as p o u t there told all.0
right_below (p ∷ os) (u ∷ ts) (suc n) (suc k) o t all lt there told = right_below os ts n k o t all.1 (omega (arith, lt)) there told

right_or_wrong : OneVerdict → (o : Opened) (t : Told) (number : ℕ) (flaw : Flaw) → IsRight o t → IsVerdict (board_of o) t (No number flaw) → ⊥
right_or_wrong one_verdict o t number flaw right wrong =
    let e : Yes ≡ No number flaw = one_verdict (board_of o) t Yes (No number flaw) right wrong in
    absurd cc

number_of : Verdict → ℕ
number_of Yes = 0
number_of (No number flaw) = number

flaw_of : Verdict → Flaw
flaw_of Yes = Head
flaw_of (No number flaw) = flaw

one_no : (n m : ℕ) (f g : Flaw) → No n f ≡ No m g → (n ≡ m) × (f ≡ g)
unfolding number_of flaw_of
one_no n m f g e = (ap number_of e, ap flaw_of e)

-- the first wrong journal has one flaw, told in one line
one_line : OneVerdict → (o p : Opened) (t u : Told) (n m : ℕ) (f g : Flaw) → Some o ≡ Some p → Some t ≡ Some u → IsVerdict (board_of o) t (No n f)
    → IsVerdict (board_of p) u (No m g) → spelled (no_line o n f) ≡ spelled (no_line p m g)
one_line one_verdict o p t u n m f g e d wrong bad =
    let same : o ≡ p = same_some o p e in
    let told : t ≡ u = same_some t u d in
    let V : Opened → Told → Type 0 = λ x y. IsVerdict (board_of x) y (No m g) in
    let again : IsVerdict (board_of o) t (No m g) =
    subst (λ (x : Opened). V x t) (sym same) (subst (λ (y : Told). V p y) (sym told) bad) in
    let one = one_no n m f g (one_verdict (board_of o) t (No n f) (No m g) wrong again) in
    ap (λ (x : Opened). spelled (no_line x n f)) same ∙ ap (λ (k : ℕ). spelled (no_line p k f)) one.0
    ∙ ap (λ (x : Flaw). spelled (no_line p m x)) one.1

one_judged : OneVerdict → (os : List Opened) (ts : List Told) (flawed other : Bool) (written line : List ℕ) → IsJudged os ts flawed written
    → IsJudged os ts other line → (flawed ≡ other) × (written ≡ line)
one_judged one_verdict os ts flawed other written line (AllRight all) (AllRight again) = (refl, refl)
one_judged one_verdict os ts flawed other written line (AllRight all) (FirstWrong k o t there told before n f wrong) =
    absurd (right_or_wrong one_verdict o t n f (right_at os ts k o t all there told) wrong)
one_judged one_verdict os ts flawed other written line (FirstWrong k o t there told before n f wrong) (AllRight all) =
    absurd (right_or_wrong one_verdict o t n f (right_at os ts k o t all there told) wrong)
one_judged one_verdict os ts flawed other written line (FirstWrong k o t there told before n f wrong) (FirstWrong j p u at here front m g bad) =
    elim (cases_lt k j) [
      | inl less ↦ absurd (right_or_wrong one_verdict o t n f (right_below os ts j k o t front less there told) wrong)
      | inr more ↦ elim (cases_lt j k) [
        | inl less ↦ absurd (right_or_wrong one_verdict p u m g (right_below os ts k j p u before less at here) bad)
        | inr le ↦
            let same : j ≡ k = omega (arith, more, le) in
            let o_is : Some o ≡ Some p = sym there ∙ ap (λ (i : ℕ). slice_get os i) (sym same) ∙ at in
            let t_is : Some t ≡ Some u = sym told ∙ ap (λ (i : ℕ). slice_get ts i) (sym same) ∙ here in
            (refl, one_line one_verdict o p t u n m f g o_is t_is wrong bad)
      ]
    ]

pub one_audit : OneVerdict → OneList → (opened : List Opened) (text : List ℕ) (flawed other : Bool) (written line : List ℕ)
    → IsAuditOf opened text flawed written → IsAuditOf opened text other line → (flawed ≡ other) × (written ≡ line)
one_audit one_verdict one_list opened text flawed other written line a b =
    let same : b.journals ≡ a.journals = one_list (length opened) text b.journals a.journals b.are a.are in
    one_judged one_verdict opened a.journals flawed other written line a.judged (subst (λ (ts : List Told). IsJudged opened ts other line) same b.judged)
