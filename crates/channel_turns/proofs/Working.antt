-- What a call does, and how long it takes.
use Rattle.std.proofs.Common.{◌≡◌, ℕ, ◌+◌, ◌*◌, ◌<◌, ◌≤◌, Bool, true, false, List, refl, sym, ap, ◌∙◌, subst, arith}
use Rattle.std.specs.Prelude.{Option, Some, None, Ok}
use Rattle.std.specs.Option.{is_some}
use Rattle.pcc_history.specs.Devices.{Device}
use Rattle.pcc_steps.specs.Wires.{block_of}
use Rattle.channel_core.specs.Readying.{ReadyCommand}
use Rattle.channel_core.specs.Sendings.{is_flying}
use Rattle.channel_core.specs.declared.sent.Sent.{Sent}
use Rattle.channel_turns.specs.declared.outcome.Outcome.{Outcome}
use Rattle.channel_turns.specs.declared.outcome.Outcome.TheVariants as outcome
use Rattle.channel_turns.specs.ChannelRuns.{Call, InFlight, call_by}
use Rattle.channel_turns.specs.EndsStates.{Awaited, EndsState, awaited}
use Rattle.channel_turns.specs.Counts.{Counts, Spent, SpentByPolls}
use Rattle.channel_turns.specs.Seeing.{EndsSeen}
use Rattle.channel_turns.specs.Calls.{EndsByPost, HasPolled, HasPosted, HasWorked, MakesReady, OpenChannel, SpentByEarlier, WorksEarlier, clear_looks, earlier_looks, earlier_turns, flight_of, open_channel, own_looks, own_turns, ready_for, turns_made}
use Rattle.channel_turns.proofs.Calls.{free_sent, kept_on, made_of}
use Rattle.channel_turns.proofs.Counting.{spent_again, spent_as, spent_none}
use Rattle.channel_turns.proofs.Polls.{below_polls}

-- ---- a whole call

-- an earlier command's polls, and then the post
joined : (earlier : Option InFlight) (call call' : Call) (m : ℕ) (a b : Counts) (new : Counts) (o : Outcome) → call'.polls ≡ call.polls → call'.hold ≡ call.hold
    → Spent (earlier_looks earlier) (earlier_turns earlier) (call.polls + (m + 6)) a b
    → Spent (own_looks call' o) (own_turns call' o) (call'.polls + 2 * m + 13) b new → EndsByPost o
    → Spent (clear_looks earlier call o) (turns_made earlier call o) (2 * call.polls + 3 * m + 24) a new
joined earlier call call' m a b new o same_polls same_hold h k = by o k
  where
    le : call.polls + (m + 6) + (call'.polls + 2 * m + 13) ≤ 2 * call.polls + 3 * m + 24
    le = omega (arith, same_polls)

    sum : (l t l' t' : ℕ) → l' ≡ l → t' ≡ t → Spent l' t' (call'.polls + 2 * m + 13) b new
        → Spent (earlier_looks earlier + l) (earlier_turns earlier + t) (2 * call.polls + 3 * m + 24) a new
    sum l t l' t' el et q = spent_as (earlier_looks earlier + l') (earlier_turns earlier + t') (call.polls + (m + 6) + (call'.polls + 2 * m + 13)) (earlier_looks earlier + l) (earlier_turns earlier + t) (2 * call.polls + 3 * m + 24) a new (ap (λ (n : ℕ). earlier_looks earlier + n) el) (ap (λ (n : ℕ). earlier_turns earlier + n) et) le
        (spent_again (earlier_looks earlier) (earlier_turns earlier) (call.polls + (m + 6)) l' t' (call'.polls + 2 * m + 13) a b new h q)

    by : (o : Outcome) → Spent (own_looks call' o) (own_turns call' o) (call'.polls + 2 * m + 13) b new → EndsByPost o
        → Spent (clear_looks earlier call o) (turns_made earlier call o) (2 * call.polls + 3 * m + 24) a new
    by (outcome.Done place) q e = sum call.hold (call.hold + 1) call'.hold (call'.hold + 1) same_hold (ap (λ (n : ℕ). n + 1) same_hold) q
    by (outcome.TimedOut looks) q e = sum call.polls call.polls call'.polls call'.polls same_polls same_polls q
    by (outcome.TooSoon now earliest) q e = sum 0 0 0 0 refl refl q
    by (outcome.BadCode c) q e = absurd e
    by (outcome.TooLong l n) q e = absurd e
    by outcome.JournalFull q e = absurd e
    by (outcome.StillPending looks) q e = absurd e

module _ (c : OpenChannel) (caller code polls hold : ℕ) (bytes : List ℕ) where
  abbrev asked : Call
  asked = call_by caller code bytes polls hold

  -- the polls for an earlier command, and then the post
  pub post_works : (exec : Device) (ready mid new : OpenChannel) (r : ReadyCommand) (free : Bool) (o : Outcome) → MakesReady c (ready_for c code bytes) ready (Ok r)
      → HasPolled exec polls ready mid free → WorksEarlier polls ready mid free → free ≡ true → EndsByPost o
      → HasPosted (call_by caller r.code r.bytes polls hold) mid new o → HasWorked asked c new o
  post_works exec ready mid new r free o made w works is ends h = let k = made_of c ready code bytes r made in let m : ℕ = block_of c.wiring in
      let wired : block_of mid.wiring ≡ m = ap (λ (z : OpenChannel). block_of z.wiring) w.left ∙ ap (λ (z : OpenChannel). block_of z.wiring) k.memory in
      let call' : Call = call_by caller r.code r.bytes polls hold in
      let before : Spent (earlier_looks c.now.in_flight) (earlier_turns c.now.in_flight) (polls + (m + 6)) c.efforts.counts mid.efforts.counts = subst (λ (z : OpenChannel × Bool). SpentByEarlier z.1 z.0.now.in_flight polls (block_of z.0.wiring) z.0.efforts.counts mid.efforts.counts) (λ i. (k.memory i, is i)) works.counts in
      record {
        counts = joined c.now.in_flight asked call' m c.efforts.counts mid.efforts.counts new.efforts.counts o refl refl before (subst (λ (n : ℕ). Spent (own_looks call' o) (own_turns call' o) (polls + 2 * n + 13) mid.efforts.counts new.efforts.counts) wired h.counts) ends;
        looks = h.looks;
      }

  -- the earlier command stays in flight
  pub still_works : (ready new : OpenChannel) (r : ReadyCommand) (free : Bool) → MakesReady c (ready_for c code bytes) ready (Ok r)
      → WorksEarlier polls ready new free → free ≡ false → HasWorked asked c new (outcome.StillPending polls)
  still_works ready new r free made works is = let k = made_of c ready code bytes r made in let m : ℕ = block_of c.wiring in
      let spent : Spent polls polls polls c.efforts.counts new.efforts.counts = subst (λ (z : OpenChannel × Bool). SpentByEarlier z.1 z.0.now.in_flight polls (block_of z.0.wiring) z.0.efforts.counts new.efforts.counts) (λ i. (k.memory i, is i)) works.counts in
      record {
        counts = spent_as polls polls polls polls polls (2 * polls + 3 * m + 24) c.efforts.counts new.efforts.counts refl refl (omega arith) spent;
        looks = works.looks is;
      }

-- ---- the polls for an earlier command

-- nothing was in flight
pub free_spends : (polls : ℕ) (s : EndsSeen) → is_flying s.state.history.sent ≡ false → WorksEarlier polls (open_channel s) (open_channel s) true
free_spends polls s e = let block : ℕ = block_of s.state.wiring in record {
  counts = subst (λ (o : Option Sent). SpentByEarlier true (flight_of o s.state.hold) polls block s.counts s.counts) (sym (free_sent s.state.history.sent e)) (spent_as 0 0 0 0 0 (polls + (block + 6)) s.counts s.counts refl refl (omega arith) (spent_none s.counts));
  looks = λ q. absurd (cc q);
}

pub polls_spend : (exec : Device) (polls : ℕ) (s t : EndsSeen) (place : Option ℕ) → is_flying s.state.history.sent ≡ true → s.state.looks ≡ 0
    → s.state.budget ≡ polls → record { now = t.state; place = place } ≡ awaited exec polls s.state
    → SpentByPolls (block_of s.state.wiring) polls s.state.hold place s.counts t.counts → WorksEarlier polls (open_channel s) (open_channel t) (is_some place)
polls_spend exec polls s t place flies none budget ew h = by s.state.history.sent place refl flies ew h
  where
    block : ℕ
    block = block_of s.state.wiring

    by : (sent : Option Sent) (p : Option ℕ) → s.state.history.sent ≡ sent → is_flying sent ≡ true
        → record { now = t.state; place = p } ≡ awaited exec polls s.state
        → SpentByPolls block polls s.state.hold p s.counts t.counts → WorksEarlier polls (open_channel s) (open_channel t) (is_some p)
    by None p e f w k = absurd (cc f)
    by (Some d) None e f w k = let is = (kept_on exec polls s.state t.state d e w).1 in
        let looked : t.state.looks ≡ s.state.looks + polls = ap (λ (z : EndsState). z.looks) is in record {
          counts = k;
          looks = λ q. (omega (arith, looked, none), ap (λ (z : EndsState). z.budget) is ∙ budget);
        }
    by (Some d) (Some n) e f w k = let hold : ℕ = s.state.hold in
        let lt : hold < polls = below_polls exec s.state d polls n e (ap (λ (a : Awaited exec). a.place) (sym w)) in record {
          counts = subst (λ (o : Option Sent). SpentByEarlier true (flight_of o hold) polls block s.counts t.counts) (sym e)
              (spent_as hold (hold + 1) (hold + (block + 6)) hold (hold + 1) (polls + (block + 6)) s.counts t.counts refl refl (omega (arith, lt)) k);
          looks = λ q. absurd (cc q);
        }
