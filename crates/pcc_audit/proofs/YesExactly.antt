-- The verdict is yes exactly where the journal is good.
use Rattle.std.proofs.Common.{◌≡◌, ℕ, zero, suc, ◌+◌, ◌<◌, true, List, [], ◌∷◌, ◌++◌, length, take, refl, sym, subst, arith}
use Rattle.std.specs.Prelude.{Option, Some, None, IfSome, slice_index_or}
use Rattle.std.specs.List.{AllByRecursion}
use Rattle.std.proofs.lemmas.List.{append-nil, append_assoc, get_or_at, length-append, map-append, take_at}
use Rattle.pcc_history.specs.Devices.{Device}
use Rattle.pcc_history.specs.Histories.{Legal, space_after, state_after}
use Rattle.pcc_journal.specs.Records.{exchanges_of, times_of, times_of_record}
use Rattle.pcc_journal.specs.declared.record.Record.{Record}
use Rattle.pcc_journal.specs.declared.record.Pending.{Pending}
use Rattle.cppc_headline.specs.Journals.{InRangeAll, Untouched}
use Rattle.journal_reading.specs.declared.told.Told.{Told}
use Rattle.pcc_audit.specs.declared.verdict.Verdict.{Verdict}
use Rattle.pcc_audit.specs.declared.verdict.Verdict.TheVariants.{Yes}
use Rattle.pcc_audit.specs.Verdicts.{AreFlawless, Board, FlawAt, Flawless, HasRoom, IsVerdict, PendingFlaw, RecordFlaw}
use Rattle.pcc_audit.specs.Good.{IsGoodTold, post_of_pending}
use Rattle.pcc_audit.proofs.LimitsExactly.{Posted, limits_exactly}

-- ---- flawless commands, one after the other

-- these records and the pending command have no flaw, after the records before them
abbrev Walk : Board → List Record → List Record → Option Pending → Type 0
Walk b before [] None = Unit {0}
Walk b before [] (Some p) = PendingFlaw b before p None
Walk b before (r ∷ rs) pending = RecordFlaw b before r None × Walk b (before ++ r ∷ []) rs pending

-- the record after those before it
flaw_here : (b : Board) (before : List Record) (r : Record) (rs : List Record) → FlawAt b (before ++ r ∷ rs) (length before) None
    → RecordFlaw b before r None
flaw_here b before r rs h =
    let front : take (length before) (before ++ r ∷ rs) ≡ before = take_at before (r ∷ rs) (length before) refl in
    let here : slice_index_or (before ++ r ∷ rs) (length before) r ≡ r = get_or_at before r rs r (length before) refl in
    let F : List Record → Type 0 = λ x. RecordFlaw b x (slice_index_or (before ++ r ∷ rs) (length before) r) None in
    let R : Record → Type 0 = λ x. RecordFlaw b before x None in
    subst R here (subst F front (h r))

walk_from : (b : Board) (before rs : List Record) (pending : Option Pending) → AreFlawless b (before ++ rs) (length (before ++ rs))
    → IfSome pending (λ p. PendingFlaw b (before ++ rs) p None) → Walk b before rs pending
walk_from b before [] None h p = tt
walk_from b before [] (Some c) h p = let P : List Record → Type 0 = λ x. PendingFlaw b x c None in subst P (append-nil before) p
walk_from b before (r ∷ rs) pending h p =
    let long : length (before ++ r ∷ rs) ≡ length before + length (r ∷ rs) = length-append before (r ∷ rs) in
    let same : before ++ r ∷ rs ≡ (before ++ r ∷ []) ++ rs = sym (append_assoc before (r ∷ []) rs) in
    let A : List Record → Type 0 = λ x. AreFlawless b x (length x) in
    let P : List Record → Type 0 = λ x. IfSome pending (λ c. PendingFlaw b x c None) in
    (flaw_here b before r rs (h (length before) (omega arith)), walk_from b (before ++ r ∷ []) rs pending (subst A same h) (subst P same p))

walk_at : (b : Board) (before rs : List Record) (pending : Option Pending) → Walk b before rs pending → (k : ℕ) → k < length rs → (d : Record)
    → RecordFlaw b (before ++ take k rs) (slice_index_or rs k d) None
walk_at b before [] pending w k lt d = absurd (omega arith)
walk_at b before (r ∷ rs) pending w zero lt d =
    let R : List Record → Type 0 = λ x. RecordFlaw b x r None in
    subst R (sym (append-nil before)) w.0
walk_at b before (r ∷ rs) pending w (suc k) lt d =
    let R : List Record → Type 0 = λ x. RecordFlaw b x (slice_index_or rs k d) None in
    subst R (append_assoc before (r ∷ []) (take k rs)) (walk_at b (before ++ r ∷ []) rs pending w.1 k (omega arith) d)

walk_pending : (b : Board) (before rs : List Record) (pending : Option Pending) → Walk b before rs pending
    → IfSome pending (λ p. PendingFlaw b (before ++ rs) p None)
walk_pending b before [] None w = tt
walk_pending b before [] (Some p) w = let P : List Record → Type 0 = λ x. PendingFlaw b x p None in subst P (sym (append-nil before)) w
walk_pending b before (r ∷ rs) pending w =
    let P : List Record → Type 0 = λ x. IfSome pending (λ p. PendingFlaw b x p None) in
    subst P (append_assoc before (r ∷ []) rs) (walk_pending b (before ++ r ∷ []) rs pending w.1)

-- ---- what records leave

abbrev space_of : Board → List Record → List ℕ
space_of b before = space_after b.opening (exchanges_of before)

abbrev state_of : Board → List Record → List ℕ
state_of b before = state_after b.exec b.start (exchanges_of before)

space_push : (space : List ℕ) (before : List Record) (r : Record) → space_after space (exchanges_of (before ++ r ∷ [])) ≡ r.output
space_push space [] r = refl
space_push space (x ∷ before) r = space_push x.output before r

state_push : (exec : Device) (state : List ℕ) (before : List Record) (r : Record)
    → state_after exec state (exchanges_of (before ++ r ∷ [])) ≡ (exec (state_after exec state (exchanges_of before)) r.code r.input).state
state_push exec state [] r = refl
state_push exec state (x ∷ before) r = state_push exec (exec state x.code x.input).state before r

times_push : (before : List Record) (r : Record) → times_of (before ++ r ∷ []) ≡ times_of before ++ times_of_record r ∷ []
times_push before r = map-append times_of_record before (r ∷ [])

-- ---- the parts of a good journal, after some records

record Parts (b : Board) (before rs : List Record) (pending : Option Pending) : Type 0 where
  sizes : AllByRecursion (λ r. HasRoom b r.input × HasRoom b r.output) rs
  pending_size : IfSome pending (λ p. HasRoom b p.input)
  legal : Legal b.exec b.head.reports (state_of b before) (exchanges_of rs)
  posted : Posted b.head.limits (times_of before) (times_of rs) (post_of_pending pending)
  untouched : b.head.cppc ≡ true → Untouched b.cpus (space_of b before) rs pending
  ranges : b.head.cppc ≡ true → InRangeAll b.cpus rs pending

parts_of : (b : Board) (before rs : List Record) (pending : Option Pending) → Walk b before rs pending → Parts b before rs pending
parts_of b before [] None w = record {
  sizes = tt;
  pending_size = tt;
  legal = tt;
  posted = tt;
  untouched = λ e. tt;
  ranges = λ e. (tt, tt);
}
parts_of b before [] (Some p) w = record {
  sizes = tt;
  pending_size = w.0;
  legal = tt;
  posted = w.1;
  untouched = w.2;
  ranges = λ e. (tt, w.3 e);
}
parts_of b before (r ∷ rs) pending w =
    let m = parts_of b (before ++ r ∷ []) rs pending w.1 in
    let L : List ℕ → Type 0 = λ state. Legal b.exec b.head.reports state (exchanges_of rs) in
    let P : List _ → Type 0 = λ times. Posted b.head.limits times (times_of rs) (post_of_pending pending) in
    let U : List ℕ → Type 0 = λ space. Untouched b.cpus space rs pending in
    record {
      sizes = (w.0.0, m.sizes);
      pending_size = m.pending_size;
      legal = (w.0.4.0, w.0.4.1, subst L (state_push b.exec b.start before r) m.legal);
      posted = (w.0.1, subst P (times_push before r) m.posted);
      untouched = λ e. (w.0.2 e, subst U (space_push b.opening before r) (m.untouched e));
      ranges = λ e. let more = m.ranges e in ((w.0.3 e, more.0), more.1);
    }

walk_of : (b : Board) (before rs : List Record) (pending : Option Pending) → Parts b before rs pending → Walk b before rs pending
walk_of b before [] None m = tt
walk_of b before [] (Some p) m = (m.pending_size, m.posted, m.untouched, λ e. (m.ranges e).1, tt)
walk_of b before (r ∷ rs) pending m =
    let L : List ℕ → Type 0 = λ state. Legal b.exec b.head.reports state (exchanges_of rs) in
    let P : List _ → Type 0 = λ times. Posted b.head.limits times (times_of rs) (post_of_pending pending) in
    let U : List ℕ → Type 0 = λ space. Untouched b.cpus space rs pending in
    let legal : Legal b.exec b.head.reports (state_of b before) (exchanges_of (r ∷ rs)) = m.legal in
    let rest = walk_of b (before ++ r ∷ []) rs pending (record {
      sizes = m.sizes.1;
      pending_size = m.pending_size;
      legal = subst L (sym (state_push b.exec b.start before r)) legal.2;
      posted = subst P (sym (times_push before r)) m.posted.1;
      untouched = λ e. subst U (sym (space_push b.opening before r)) (m.untouched e).1;
      ranges = λ e. let more = m.ranges e in (more.0.1, more.1);
    }) in
    ((m.sizes.0, m.posted.0, λ e. (m.untouched e).0, λ e. (m.ranges e).0.0, (legal.0, legal.1, tt)), rest)

-- ---- the law

-- what a verdict of yes says
yes_walk : (b : Board) (t : Told) (v : Verdict) → v ≡ Yes → IsVerdict b t v → (t.head ≡ b.head) × Walk b [] t.records t.pending
yes_walk b t Yes e (Flawless head records pending) = (head, walk_from b [] t.records t.pending records pending)
yes_walk b t v e h = absurd (cc)

good_of : (b : Board) (t : Told) → (t.head ≡ b.head) × Walk b [] t.records t.pending → IsGoodTold b t
good_of b t h =
    let m = parts_of b [] t.records t.pending h.1 in
    record {
      head = h.0;
      sizes = m.sizes;
      pending_size = m.pending_size;
      legal = m.legal;
      limits = (limits_exactly b.head.limits (times_of t.records) (post_of_pending t.pending)).0 m.posted;
      untouched = m.untouched;
      ranges = m.ranges;
    }

yes_of : (b : Board) (t : Told) → IsGoodTold b t → IsVerdict b t Yes
yes_of b t g =
    let w = walk_of b [] t.records t.pending (record {
      sizes = g.sizes;
      pending_size = g.pending_size;
      legal = g.legal;
      posted = (limits_exactly b.head.limits (times_of t.records) (post_of_pending t.pending)).1 g.limits;
      untouched = g.untouched;
      ranges = g.ranges;
    }) in
    Flawless g.head (λ k lt d. walk_at b [] t.records t.pending w k lt d) (walk_pending b [] t.records t.pending w)

pub yes_exactly : (b : Board) (t : Told) → (IsVerdict b t Yes → IsGoodTold b t) × (IsGoodTold b t → IsVerdict b t Yes)
yes_exactly b t = (λ v. good_of b t (yes_walk b t Yes refl v), yes_of b t)
