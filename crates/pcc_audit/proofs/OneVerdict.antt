-- A journal has one verdict at most.
use Rattle.std.proofs.Common.{◌≡◌, inl, inr, ℕ, zero, suc, true, ◌<◌, ◌≤◌, [], length, refl, sym, ap, ◌∙◌, subst, arith}
use Rattle.std.specs.Prelude.{Option, Some, None, IfSome}
use Rattle.std.proofs.lemmas.Bool.{cases_lt}
use Rattle.pcc_journal.specs.declared.record.Record.{Record}
use Rattle.pcc_journal.specs.declared.record.Pending.{Pending}
use Rattle.journal_reading.specs.declared.told.Told.{Told}
use Rattle.pcc_audit.specs.declared.verdict.Flaw.{Flaw}
use Rattle.pcc_audit.specs.declared.verdict.Flaw.TheVariants.{Head, Size, Limits, Touched, Range, Legal as Reply}
use Rattle.pcc_audit.specs.declared.verdict.Verdict.{Verdict}
use Rattle.pcc_audit.specs.declared.verdict.Verdict.TheVariants.{No}
use Rattle.pcc_audit.specs.Verdicts.{AreFlawless, Board, FirstFlaw, FlawAt, Flawless, IsVerdict, PendingFlaw, WrongHead, WrongPending, WrongRecord}

same_some : {A : Type 0} (x y : A) → Some x ≡ Some y → x ≡ y
same_some x y h = cc

-- ---- one first flaw

-- the demands in their order
abbrev Demand : (size limits touched range legal : Type 0) → ℕ → Type 0
Demand size limits touched range legal zero = size
Demand size limits touched range legal (suc zero) = limits
Demand size limits touched range legal (suc (suc zero)) = touched
Demand size limits touched range legal (suc (suc (suc zero))) = range
Demand size limits touched range legal (suc (suc (suc (suc n)))) = legal

-- the first n of these hold
abbrev Held : (ℕ → Type 0) → ℕ → Type 0
Held demand zero = Unit {0}
Held demand (suc n) = Held demand n × demand n

held_at : (demand : ℕ → Type 0) (m n : ℕ) → Held demand m → n < m → demand n
held_at demand zero n h lt = absurd (omega arith)
held_at demand (suc m) n h lt = elim (cases_lt n m) [
  | inl below ↦ held_at demand m n h.0 below
  | inr top ↦ let same : m ≡ n = omega arith in subst demand same h.1
]

-- the number of the demand that isn't kept
abbrev rank : Option Flaw → ℕ
rank (Some Size) = 0
rank (Some Limits) = 1
rank (Some Touched) = 2
rank (Some Range) = 3
rank (Some Reply) = 4
rank None = 5
rank (Some Head) = 6

abbrev unrank : ℕ → Option Flaw
unrank zero = Some Size
unrank (suc zero) = Some Limits
unrank (suc (suc zero)) = Some Touched
unrank (suc (suc (suc zero))) = Some Range
unrank (suc (suc (suc (suc zero)))) = Some Reply
unrank (suc (suc (suc (suc (suc zero))))) = None
unrank (suc (suc (suc (suc (suc (suc n)))))) = Some Head

ranked : (f : Option Flaw) → unrank (rank f) ≡ f
ranked None = refl
ranked (Some Head) = refl
ranked (Some Size) = refl
ranked (Some Limits) = refl
ranked (Some Touched) = refl
ranked (Some Range) = refl
ranked (Some Reply) = refl

record First (demand : ℕ → Type 0) (n : ℕ) : Type 0 where
  held : Held demand n
  few : n ≤ 5
  broken : n < 5 → demand n → ⊥

first : (size limits touched range legal : Type 0) (f : Option Flaw) → FirstFlaw size limits touched range legal f
    → First (Demand size limits touched range legal) (rank f)
first size limits touched range legal None h = record {
  held = (((((tt, h.0), h.1), h.2), h.3), h.4);
  few = omega arith;
  broken = λ lt. absurd (omega arith);
}
first size limits touched range legal (Some Head) h = absurd h
first size limits touched range legal (Some Size) h = record { held = tt; few = omega arith; broken = λ lt. h }
first size limits touched range legal (Some Limits) h = record { held = (tt, h.0); few = omega arith; broken = λ lt. h.1 }
first size limits touched range legal (Some Touched) h = record { held = ((tt, h.0), h.1); few = omega arith; broken = λ lt. h.2 }
first size limits touched range legal (Some Range) h = record { held = (((tt, h.0), h.1), h.2); few = omega arith; broken = λ lt. h.3 }
first size limits touched range legal (Some Reply) h = record { held = ((((tt, h.0), h.1), h.2), h.3); few = omega arith; broken = λ lt. h.4 }

one_rank : (demand : ℕ → Type 0) (n m : ℕ) → First demand n → First demand m → n ≡ m
one_rank demand n m a b =
    let few_n : n ≤ 5 = a.few in
    let few_m : m ≤ 5 = b.few in
    elim (cases_lt n m) [
      | inl below ↦ absurd (a.broken (omega arith) (held_at demand m n b.held below))
      | inr high ↦ elim (cases_lt m n) [
        | inl above ↦ absurd (b.broken (omega arith) (held_at demand n m a.held above))
        | inr low ↦ omega arith
      ]
    ]

one_flaw : (size limits touched range legal : Type 0) (f g : Option Flaw) → FirstFlaw size limits touched range legal f
    → FirstFlaw size limits touched range legal g → f ≡ g
one_flaw size limits touched range legal f g h k =
    let same = one_rank (Demand size limits touched range legal) (rank f) (rank g) (first size limits touched range legal f h) (first size limits touched range legal g k) in
    sym (ranked f) ∙ ap unrank same ∙ ranked g

-- ---- one verdict

no_record : Record
no_record = record { caller = 0; code = 0; input = []; error = true; output = []; post = 0; done = 0; late = true }

one_flaw_at : (b : Board) (t : Told) (n : ℕ) (f g : Option Flaw) → FlawAt b t.records n f → FlawAt b t.records n g → f ≡ g
one_flaw_at b t n f g h k = one_flaw _ _ _ _ _ f g (h no_record) (k no_record)

flawed : (b : Board) (t : Told) (n m : ℕ) (flaw : Flaw) → FlawAt b t.records n (Some flaw) → AreFlawless b t.records m → n < m → ⊥
flawed b t n m flaw h none lt = let e : Some flaw ≡ None = one_flaw_at b t n (Some flaw) None h (none n lt) in cc

one_record : (b : Board) (t : Told) (n m : ℕ) (f g : Flaw) → AreFlawless b t.records n → FlawAt b t.records n (Some f) → AreFlawless b t.records m
    → FlawAt b t.records m (Some g) → No n f ≡ No m g
one_record b t n m f g hn hf hm hg = elim (cases_lt n m) [
  | inl below ↦ absurd (flawed b t n m f hf hm below)
  | inr high ↦ elim (cases_lt m n) [
    | inl above ↦ absurd (flawed b t m n g hg hn above)
    | inr low ↦
        let same : n ≡ m = omega arith in
        let G : ℕ → Type 0 = λ k. FlawAt b t.records k (Some g) in
        let one : f ≡ g = same_some f g (one_flaw_at b t n (Some f) (Some g) hf (subst G (sym same) hg)) in
        ap (λ (k : ℕ). No k f) same ∙ ap (λ (x : Flaw). No m x) one
  ]
]

one_pending : (b : Board) (t : Told) (p q : Pending) (f g : Option Flaw) → t.pending ≡ Some p → t.pending ≡ Some q → PendingFlaw b t.records p f
    → PendingFlaw b t.records q g → f ≡ g
one_pending b t p q f g hp hq hf hg =
    let same : p ≡ q = same_some p q (sym hp ∙ hq) in
    let G : Pending → Type 0 = λ x. PendingFlaw b t.records x g in
    one_flaw _ _ _ _ _ f g hf (subst G (sym same) hg)

pending_flawless : (b : Board) (t : Told) (p : Pending) (flaw : Flaw) → t.pending ≡ Some p → PendingFlaw b t.records p (Some flaw)
    → IfSome t.pending (λ x. PendingFlaw b t.records x None) → ⊥
pending_flawless b t p flaw e h none =
    let N : Option Pending → Type 0 = λ o. IfSome o (λ x. PendingFlaw b t.records x None) in
    let same : Some flaw ≡ None = one_pending b t p p (Some flaw) None e e h (subst N e none) in
    cc

pub one_verdict : (b : Board) (t : Told) (v w : Verdict) → IsVerdict b t v → IsVerdict b t w → v ≡ w
one_verdict b t v w (WrongHead h) (WrongHead k) = refl
one_verdict b t v w (WrongHead h) (WrongRecord e n f lt none flaw) = absurd (h e)
one_verdict b t v w (WrongHead h) (WrongPending e none p f is flaw) = absurd (h e)
one_verdict b t v w (WrongHead h) (Flawless e none pending) = absurd (h e)
one_verdict b t v w (WrongRecord e n f lt none flaw) (WrongHead h) = absurd (h e)
one_verdict b t v w (WrongRecord e n f lt none flaw) (WrongRecord d m g less nothing wrong) = one_record b t n m f g none flaw nothing wrong
one_verdict b t v w (WrongRecord e n f lt none flaw) (WrongPending d nothing p g is wrong) = absurd (flawed b t n (length t.records) f flaw nothing lt)
one_verdict b t v w (WrongRecord e n f lt none flaw) (Flawless d nothing pending) = absurd (flawed b t n (length t.records) f flaw nothing lt)
one_verdict b t v w (WrongPending e none p f is flaw) (WrongHead h) = absurd (h e)
one_verdict b t v w (WrongPending e none p f is flaw) (WrongRecord d n g lt nothing wrong) = absurd (flawed b t n (length t.records) g wrong none lt)
one_verdict b t v w (WrongPending e none p f is flaw) (WrongPending d nothing q g so wrong) =
    ap (λ (x : Flaw). No (length t.records) x) (same_some f g (one_pending b t p q (Some f) (Some g) is so flaw wrong))
one_verdict b t v w (WrongPending e none p f is flaw) (Flawless d nothing pending) = absurd (pending_flawless b t p f is flaw pending)
one_verdict b t v w (Flawless e none pending) (WrongHead h) = absurd (h e)
one_verdict b t v w (Flawless e none pending) (WrongRecord d n g lt nothing wrong) = absurd (flawed b t n (length t.records) g wrong none lt)
one_verdict b t v w (Flawless e none pending) (WrongPending d nothing p g is wrong) = absurd (pending_flawless b t p g is wrong pending)
one_verdict b t v w (Flawless e none pending) (Flawless d nothing also) = refl
