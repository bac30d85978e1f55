-- The counts and the sums of a summary.
use Rattle.std.proofs.Common.{◌≡◌, ℕ, zero, suc, ◌+◌, ◌*◌, ◌^◌, ◌<◌, ◌≤◌, true, false, List, [], ◌∷◌, ◌++◌, length, get_or, take, refl, sym, ap, ◌∙◌, subst, arith}
use Rattle.std.specs.Prelude.{Option, Some, None, sum}
use Rattle.std.proofs.lemmas.List.{take_all}
use Rattle.std.proofs.lemmas.List.Sums.{fold_push, sum_by-cons, sum_by_more}
use Rattle.pcc_journal.specs.declared.record.Record.{Record}
use Rattle.pcc_script.specs.declared.scenario.Line.{Line}
use Rattle.cpc_package.specs.declared.binding.Binding.{Binding}
use Rattle.channel_turns.specs.ChannelRuns.{Channel}
use Rattle.channel_turns.specs.Replies.{Done, BadCode, TooLong, JournalFull, StillPending, TooSoon, TimedOut}
use Rattle.channel_headline.specs.Asked.{LineReply, Refused, Replied}
use Rattle.script_run.specs.Headlines.{own_reply}
use Rattle.script_run.specs.StepRun.{LineAsk, ShownReply, asks_by, step_run, turn_of}
use Rattle.script_run.specs.Summaries.{IsUnder, added, counted, counts_of, none_counted, output_sum}
use Rattle.script_run.specs.declared.counts.Counts.{Counts}
use Rattle.script_run.proofs.Steps.{Going, lines_ended, going_end, going_more, going_start}

-- ---- counts

-- the replies of the lines so far were counted
pub record Counting (lines : List LineAsk) (begin : List Channel) (i : ℕ) (now : List Channel) (counts : Counts) : Type 0 where
  pub shown : List (Option ShownReply)
  pub going : Going lines begin i now shown
  pub counts_are : counts ≡ counts_of shown
  pub under : IsUnder i counts

pub counting_start : (lines : List LineAsk) (begin : List Channel) → Counting lines begin 0 begin none_counted
counting_start lines begin = record { shown = []; going = going_start lines begin; counts_are = refl; under = record { ok = omega arith; error = omega arith; timed_out = omega arith; still_pending = omega arith; other = omega arith } }

-- a count grows by one at most
one_more : (i : ℕ) (c : Counts) (r : Option ShownReply) → IsUnder i c → IsUnder (i + 1) (counted c r)
one_more i c r h = all r (record { ok = omega (arith, ok); error = omega (arith, error); timed_out = omega (arith, timed_out); still_pending = omega (arith, still_pending); other = omega (arith, other) })
  where
    ok : c.ok ≤ i
    ok = h.ok

    error : c.error ≤ i
    error = h.error

    timed_out : c.timed_out ≤ i
    timed_out = h.timed_out

    still_pending : c.still_pending ≤ i
    still_pending = h.still_pending

    other : c.other ≤ i
    other = h.other

    grows : (r : LineReply) → IsUnder (i + 1) c → IsUnder (i + 1) (added c r)
    grows (Replied (Done false output)) w = record { ok = omega (arith, ok); error = w.error; timed_out = w.timed_out; still_pending = w.still_pending; other = w.other }
    grows (Replied (Done true output)) w = record { ok = w.ok; error = omega (arith, error); timed_out = w.timed_out; still_pending = w.still_pending; other = w.other }
    grows (Replied (TimedOut looks)) w = record { ok = w.ok; error = w.error; timed_out = omega (arith, timed_out); still_pending = w.still_pending; other = w.other }
    grows (Replied (StillPending looks)) w = record { ok = w.ok; error = w.error; timed_out = w.timed_out; still_pending = omega (arith, still_pending); other = w.other }
    grows (Replied (BadCode code)) w = record { ok = w.ok; error = w.error; timed_out = w.timed_out; still_pending = w.still_pending; other = omega (arith, other) }
    grows (Replied (TooLong len room)) w = record { ok = w.ok; error = w.error; timed_out = w.timed_out; still_pending = w.still_pending; other = omega (arith, other) }
    grows (Replied JournalFull) w = record { ok = w.ok; error = w.error; timed_out = w.timed_out; still_pending = w.still_pending; other = omega (arith, other) }
    grows (Replied (TooSoon reading earliest)) w = record { ok = w.ok; error = w.error; timed_out = w.timed_out; still_pending = w.still_pending; other = omega (arith, other) }
    grows (Refused why) w = record { ok = w.ok; error = w.error; timed_out = w.timed_out; still_pending = w.still_pending; other = omega (arith, other) }

    all : (r : Option ShownReply) → IsUnder (i + 1) c → IsUnder (i + 1) (counted c r)
    all None w = w
    all (Some reply) w = grows (own_reply reply) w

pub counting_more : (lines : List LineAsk) (begin now next : List Channel) (i : ℕ) (l : LineAsk) (counts counts' : Counts) → i < length lines → l ≡ get_or lines i l → counts' ≡ counted counts (turn_of l now).reply → (turn_of l now).channels ≡ next
    → Counting lines begin i now counts → Counting lines begin (i + 1) next counts'
counting_more lines begin now next i l counts counts' lt is more left h =
    let reply : Option ShownReply = (turn_of l now).reply in
    record {
      shown = h.shown ++ reply ∷ [];
      going = going_more lines begin now next h.shown i l lt is left h.going;
      counts_are = more ∙ ap (λ (c : Counts). counted c reply) h.counts_are ∙ sym (fold_push counted none_counted h.shown reply);
      under = subst (IsUnder (i + 1)) (sym more) (one_more i counts reply h.under);
    }

pub counting_end : (lines : List LineAsk) (begin now : List Channel) (i : ℕ) (counts : Counts) → length lines ≤ i → Counting lines begin i now counts
    → (counts ≡ counts_of (step_run lines begin).replies) × ((step_run lines begin).channels ≡ now)
counting_end lines begin now i counts le h =
    let all = going_end lines begin now h.shown i le h.going in
    (h.counts_are ∙ ap counts_of all.0, all.1)

pub counting_lines_end : (cpus : List Binding) (lines : List Line) (begin now : List Channel) (i : ℕ) (counts : Counts) → length lines ≤ i → Counting (asks_by cpus lines) begin i now counts
    → (counts ≡ counts_of (step_run (asks_by cpus lines) begin).replies) × ((step_run (asks_by cpus lines) begin).channels ≡ now)
counting_lines_end cpus lines begin now i counts le h = counting_end (asks_by cpus lines) begin now i counts (lines_ended cpus lines i le) h

pub wider : (i limit : ℕ) (c : Counts) → i ≤ limit → IsUnder i c → IsUnder limit c
wider i limit c le h =
    let a = h.ok in
    let b = h.error in
    let d = h.timed_out in
    let e = h.still_pending in
    let f = h.other in
    record { ok = omega (arith, le, a); error = omega (arith, le, b); timed_out = omega (arith, le, d); still_pending = omega (arith, le, e); other = omega (arith, le, f) }

-- ---- sums

-- the sum of bytes
pub bytes_bound : (bytes : List ℕ) → ((i : ℕ) → get_or bytes i 0 < 2 ^ 8) → sum bytes ≤ length bytes * 2 ^ 8
bytes_bound [] h = omega arith
bytes_bound (x ∷ xs) h =
    let one : x < 2 ^ 8 = h zero in
    let rest : sum xs ≤ length xs * 2 ^ 8 = bytes_bound xs (λ i. h (suc i)) in
    let more : sum (x ∷ xs) ≡ x + sum xs = sum_by-cons (λ (v : ℕ). v) x xs in
    omega (arith, one, rest, more)

-- the sum over the records so far
pub record Summed (records : List Record) (i total : ℕ) : Type 0 where
  pub sum_is : total ≡ output_sum (take i records)
  pub bound : total ≤ i * 2 ^ 72

pub sum_start : (records : List Record) → Summed records 0 0
sum_start records = record { sum_is = refl; bound = omega arith }

pub sum_more : (records : List Record) (i total one : ℕ) (r : Record) → i < length records → r ≡ get_or records i r → one ≡ sum r.output → one ≤ 2 ^ 72 → Summed records i total → Summed records (i + 1) (total + one)
sum_more records i total one r lt is e le h =
    let b = h.bound in
    let now : one ≡ sum (get_or records i r).output = e ∙ ap (λ (x : Record). sum x.output) is in
    record { sum_is = (λ k. h.sum_is k + now k) ∙ sym (sum_by_more (λ (x : Record). sum x.output) records i r lt); bound = omega (arith, b, le) }

pub sum_end : (records : List Record) (i total : ℕ) → length records ≤ i → Summed records i total → total ≡ output_sum records
sum_end records i total le h = h.sum_is ∙ ap output_sum (take_all i records le)
