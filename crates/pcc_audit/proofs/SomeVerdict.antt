-- A journal has a verdict.
use Rattle.std.proofs.Common.{◌≡◌, ◌⊎◌, inl, inr, ℕ, zero, suc, ◌<◌, ◌≤◌, true, List, [], length, slice_index_or, take, refl, sym, subst, arith}
use Rattle.std.specs.Prelude.{Option, Some, None, IfSome}
use Rattle.std.proofs.lemmas.Bool.{cases_eq, cases_lt}
use Rattle.std.proofs.lemmas.List.{get_or_default}
use Rattle.pcc_history.specs.Histories.{space_after, state_after}
use Rattle.rate_limit.specs.RateLimits.{earliest_of}
use Rattle.pcc_journal.specs.Records.{exchange_of_record, exchanges_of, times_of}
use Rattle.pcc_journal.specs.declared.record.Record.{Record}
use Rattle.pcc_journal.specs.declared.record.Pending.{Pending}
use Rattle.journal_reading.specs.declared.told.Told.{Told}
use Rattle.pcc_audit.specs.declared.verdict.Flaw.{Flaw}
use Rattle.pcc_audit.specs.declared.verdict.Flaw.TheVariants.{Head, Size, Limits, Touched, Range, Legal as Reply}
use Rattle.pcc_audit.specs.declared.verdict.Verdict.TheVariants.{Yes, No}
use Rattle.pcc_audit.specs.Verdicts.{AreFlawless, Board, FirstFlaw, FlawAt, Flawless, HasRoom, HasVerdict, IsInTime, IsLegal, KeepsFields, KeepsRanges, PendingFlaw, RecordFlaw, WrongHead, WrongPending, WrongRecord}
use Rattle.pcc_audit.proofs.Deciding.{Decided, also, at_most, if_so, legal_decided, range_decided, same_head, same_truth, untouched_decided}

-- ---- the flaw of a command

-- there is no flaw, or a first one
abbrev NoneOrFirst : (Option Flaw → Type 0) → Type 0
NoneOrFirst FlawIs = FlawIs None ⊎ ((flaw : Flaw) × FlawIs (Some flaw))

first_flaw : (size limits touched range legal : Type 0) → Decided size → Decided limits → Decided touched → Decided range → Decided legal
    → NoneOrFirst (FirstFlaw size limits touched range legal)
first_flaw size limits touched range legal (inr s) l t r g = inr (Size, s)
first_flaw size limits touched range legal (inl s) (inr l) t r g = inr (Limits, (s, l))
first_flaw size limits touched range legal (inl s) (inl l) (inr t) r g = inr (Touched, (s, l, t))
first_flaw size limits touched range legal (inl s) (inl l) (inl t) (inr r) g = inr (Range, (s, l, t, r))
first_flaw size limits touched range legal (inl s) (inl l) (inl t) (inl r) (inr g) = inr (Reply, (s, l, t, r, g))
first_flaw size limits touched range legal (inl s) (inl l) (inl t) (inl r) (inl g) = inl (s, l, t, r, g)

room_decided : (b : Board) (space : List ℕ) → Decided (HasRoom b space)
room_decided b space = cases_eq (length space) b.head.room

time_decided : (b : Board) (before : List Record) (post : ℕ) → Decided (IsInTime b before post)
time_decided b before post = at_most (earliest_of b.head.limits (times_of before)) post

fields_decided : (b : Board) (before : List Record) (code : ℕ) (input : List ℕ) → Decided (KeepsFields b before code input)
fields_decided b before code input =
    if_so (same_truth b.head.cppc true) (untouched_decided b.cpus (space_after b.opening (exchanges_of before)) code input)

ranges_decided : (b : Board) (code : ℕ) (input : List ℕ) → Decided (KeepsRanges b code input)
ranges_decided b code input = if_so (same_truth b.head.cppc true) (if_so (cases_eq code 1) (range_decided b.cpus input))

reply_decided : (b : Board) (before : List Record) (r : Record) → Decided (IsLegal b before r)
reply_decided b before r = legal_decided b.exec b.head.reports (state_after b.exec b.start (exchanges_of before)) (exchange_of_record r)

record_flaw : (b : Board) (before : List Record) (r : Record) → NoneOrFirst (RecordFlaw b before r)
record_flaw b before r =
    first_flaw (HasRoom b r.input × HasRoom b r.output) (IsInTime b before r.post) (KeepsFields b before r.code r.input) (KeepsRanges b r.code r.input)
    (IsLegal b before r) (also (room_decided b r.input) (room_decided b r.output)) (time_decided b before r.post)
    (fields_decided b before r.code r.input) (ranges_decided b r.code r.input) (reply_decided b before r)

pending_flaw : (b : Board) (before : List Record) (p : Pending) → NoneOrFirst (PendingFlaw b before p)
pending_flaw b before p =
    first_flaw (HasRoom b p.input) (IsInTime b before p.post) (KeepsFields b before p.code p.input) (KeepsRanges b p.code p.input) (Unit {0})
    (room_decided b p.input) (time_decided b before p.post) (fields_decided b before p.code p.input) (ranges_decided b p.code p.input) (inl tt)

-- ---- the first record with a flaw

flaw_at : (b : Board) (rs : List Record) (k : ℕ) (d : Record) (flaw : Option Flaw) → k < length rs
    → RecordFlaw b (take k rs) (slice_index_or rs k d) flaw → FlawAt b rs k flaw
flaw_at b rs k d flaw lt h = λ e. subst (λ (r : Record). RecordFlaw b (take k rs) r flaw) (get_or_default rs k d e lt) h

flawless_more : (b : Board) (rs : List Record) (n : ℕ) → AreFlawless b rs n → FlawAt b rs n None → AreFlawless b rs (suc n)
flawless_more b rs n front here k lt = elim (cases_lt k n) [
  | inl below ↦ front k below
  | inr top ↦ let same : n ≡ k = omega (arith, lt, top) in subst (λ (i : ℕ). FlawAt b rs i None) same here
]

record FirstFlawed (b : Board) (rs : List Record) : Type 0 where
  number : ℕ
  flaw : Flaw
  within : number < length rs
  before : AreFlawless b rs number
  here : FlawAt b rs number (Some flaw)

flawless_to : (b : Board) (rs : List Record) (n : ℕ) → n ≤ length rs → AreFlawless b rs n ⊎ FirstFlawed b rs
flawless_to b rs zero le = inl (λ k lt. absurd (omega (arith, lt)))
flawless_to b rs (suc n) le =
    let d : Record = record { caller = 0; code = 0; input = []; error = true; output = []; post = 0; done = 0; late = true } in
    let lt : n < length rs = le in
    elim (flawless_to b rs n (omega (arith, le))) [
      | inr found ↦ inr found
      | inl front ↦ elim (record_flaw b (take n rs) (slice_index_or rs n d)) [
        | inl none ↦ inl (flawless_more b rs n front (flaw_at b rs n d None lt none))
        | inr x ↦ inr (record { number = n; flaw = x.0; within = lt; before = front; here = flaw_at b rs n d (Some x.0) lt x.1 })
      ]
    ]

-- ---- the law

pending_verdict : (b : Board) (t : Told) (o : Option Pending) → t.pending ≡ o → t.head ≡ b.head → AreFlawless b t.records (length t.records)
    → HasVerdict b t
pending_verdict b t None e head none =
    let P : Option Pending → Type 0 = λ o. IfSome o (λ p. PendingFlaw b t.records p None) in
    record { verdict = Yes; is = Flawless head none (subst P (sym e) tt) }
pending_verdict b t (Some p) e head none =
    let P : Option Pending → Type 0 = λ o. IfSome o (λ p. PendingFlaw b t.records p None) in
    elim (pending_flaw b t.records p) [
      | inl right ↦ record { verdict = Yes; is = Flawless head none (subst P (sym e) right) }
      | inr x ↦ record { verdict = No (length t.records) x.0; is = WrongPending head none p x.0 e x.1 }
    ]

pub some_verdict : (b : Board) (t : Told) → HasVerdict b t
some_verdict b t = elim (same_head t.head b.head) [
  | inr other ↦ record { verdict = No 0 Head; is = WrongHead other }
  | inl head ↦ elim (flawless_to b t.records (length t.records) (omega arith)) [
    | inl none ↦ pending_verdict b t t.pending refl head none
    | inr x ↦ record { verdict = No x.number x.flaw; is = WrongRecord head x.number x.flaw x.within x.before x.here }
  ]
]
