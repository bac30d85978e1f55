-- What a call is answered.
use Rattle.std.proofs.Common.{◌≡◌, ℕ, ◌+◌, ◌-◌, ◌^◌, ◌<◌, ◌≤◌, Bool, true, false, List, [], ◌∷◌, ◌++◌, length, refl, sym, ap, ◌∙◌, subst, arith, length-append}
use Rattle.std.specs.Prelude.{Option, Some, None, Result, Ok, Err, max, nat_lt, slice_get}
use Rattle.std.specs.Option.{is_some}
use Rattle.std.proofs.lemmas.Bool.Decides.{nat_tests}
use Rattle.std.proofs.lemmas.Grind.{common_steps}
use Rattle.std.proofs.lemmas.Option.{slice_get-get_or}
use Rattle.std.proofs.Math.Seq.{get_or-append_seam}
use Rattle.pcc_causes.specs.Clock.{line_reading}
use Rattle.pcc_history.specs.Devices.{Device}
use Rattle.pcc_history.specs.Channel.{Exchange, object_after}
use Rattle.rate_limit.specs.RateLimits.{earliest_of}
use Rattle.pcc_journal.specs.declared.record.Record.{Record}
use Rattle.pcc_journal.specs.declared.record.Pending.{Pending}
use Rattle.pcc_journal.specs.Records.{times_of}
use Rattle.channel_core.specs.CommandHistory.{CommandHistory, drained_by, posts_of, reserved}
use Rattle.channel_core.specs.Readings.{counted}
use Rattle.channel_core.specs.Readying.{IsReadied, ReadiedBy, ReadyCommand}
use Rattle.channel_core.specs.Refusals as refusals
use Rattle.channel_core.specs.Sendings.{count_flying, is_flying, is_late, note_of, record_of, recorded}
use Rattle.channel_core.specs.declared.answers.CallRefusal.{CallRefusal}
use Rattle.channel_core.specs.declared.answers.CallRefusal.TheVariants as refusal
use Rattle.channel_core.specs.declared.sent.Sent.{Sent}
use Rattle.channel_turns.specs.declared.outcome.Outcome.{Outcome}
use Rattle.channel_turns.specs.declared.outcome.Outcome.TheVariants as outcome
use Rattle.channel_turns.specs.Replies.{Done, StillPending, TimedOut, TooSoon}
use Rattle.channel_turns.specs.Outcomes.{IsPlaced, StandsFor}
use Rattle.channel_turns.specs.ChannelRuns.{Answered, Call, ChannelStart, ChannelState, after_polls, answer_call, answer_unless, call_by, completed, count_in_flight, next_reading, polled, polled_for, post_call, replied}
use Rattle.channel_turns.specs.EndsStates.{Awaited, EndsState, awaited, earliest_post, exchange_in, gave_up, next_sent, posted, read_once, reading_of, start_of}
use Rattle.channel_turns.specs.Calls.{EndsByPost, HasMemory, HasPolled, IsAnswered, IsLate, IsPosted, MakesReady, MakesReadyBy, Noted, OpenChannel, efforts_of, flight_of, note_in, noted_after, noted_earlier, noted_if, noted_of, noted_post, now_of, open_channel, posts_in, ready_for, start_by, with_memory}
use Rattle.channel_turns.specs.Seeing.{EndsSeen}
use Rattle.channel_turns.proofs.Polls.{above_polls, at_once, below_polls, completes, held_on}

-- ---- counts of readings

counts : (n : ℕ) → n + 1 < 2 ^ 64 → counted n ≡ n + 1
counts n h = omega arith

-- ---- a call that posts

same_place : (p q : ℕ) → Some p ≡ Some q → p ≡ q
same_place p q e = cc

-- ---- what calls make of the ends, and so of the channel

abbrev pub noted_in : EndsState → Noted
noted_in s = record { notes = s.history.notes; flight = note_in s.history.sent; taken = s.taken }

-- what stays
pub record Stays (old new : EndsState) : Type 0 where
  pub head : new.head ≡ old.head
  pub wiring : new.wiring ≡ old.wiring
  pub clock : new.clock ≡ old.clock
  pub first : new.first ≡ old.first
  pub opening : new.opening ≡ old.opening

-- the polls leave the ends as they are now
pub record Awaits (exec : Device) (polls : ℕ) (old new : EndsState) (free : Bool) : Type 0 where
  pub polls_leave : polled (start_of exec old) polls (now_of old) ≡ record { free = free; now = now_of new }
  pub stays : Stays old new
  pub noted : noted_in new ≡ noted_if free (noted_in old)
  pub readings : new.taken ≤ old.taken + 1

-- the outcome of a post, and the ends after it
pub record Posts (exec : Device) (old : EndsState) (call : Call) (new : EndsState) (outcome : Outcome) : Type 0 where
  pub told : let a = post_call (start_of exec old) call (now_of old) in StandsFor a.now.records outcome a.reply
  pub left : now_of new ≡ (post_call (start_of exec old) call (now_of old)).now
  pub stays : Stays old new
  pub placed : IsPlaced (length new.history.records) outcome
  pub readings : new.taken ≤ old.taken + 2
  pub noted : noted_in new ≡ noted_post outcome (noted_in old)
  pub ends : EndsByPost outcome

stays_open : (s t : EndsSeen) (now : ChannelState) → Stays s.state t.state → now_of t.state ≡ now
    → open_channel t ≡ record (open_channel s) { now = now; efforts = efforts_of t }
stays_open s t now h e = λ i. record { head = h.head i; wiring = h.wiring i; clock = h.clock i; state = h.first i; opening = h.opening i; now = e i; efforts = efforts_of t }

pub polled_by : (exec : Device) (polls : ℕ) (s t : EndsSeen) (free : Bool) → Awaits exec polls s.state t.state free
    → HasPolled exec polls (open_channel s) (open_channel t) free
polled_by exec polls s t free h = record { polls_leave = h.polls_leave; left = stays_open s t (now_of t.state) h.stays refl; noted = h.noted }

pub posted_by : (exec : Device) (s t : EndsSeen) (call : Call) (o : Outcome) → Posts exec s.state call t.state o
    → IsPosted exec (open_channel s) call (open_channel t) o
posted_by exec s t call o h = record { told = h.told; left = stays_open s t (post_call (start_of exec s.state) call (now_of s.state)).now h.stays h.left; noted = h.noted; ends = h.ends }

stays_for : (s w t : EndsState) → w ≡ t → Stays s t → Stays s w
stays_for s w t e h = subst (Stays s) (sym e) h

-- the command is drained in its call
pub post_done : (exec : Device) (s t u w : EndsState) (caller polls hold place : ℕ) (r : ReadyCommand) → s.history.sent ≡ None → s.taken + 2 < 2 ^ 64
    → earliest_post s ≤ reading_of s → t ≡ posted caller r s → u ≡ record t { hold = hold } → record { now = w; place = Some place } ≡ awaited exec polls u
    → Posts exec s (record { caller = caller; code = r.code; bytes = r.bytes; polls = polls; hold = hold }) w (outcome.Done place)
post_done exec s t u w caller polls hold place r free early in_time et eu ew =
    let call : Call = record { caller = caller; code = r.code; bytes = r.bytes; polls = polls; hold = hold } in
    let c : Sent = next_sent caller r s in let p : Pending = c.command in let x : Exchange = exchange_in exec s p in
    let big : EndsState = record (posted caller r s) { hold = hold } in
    let eb : u ≡ big = eu ∙ ap (λ (z : EndsState). record z { hold = hold }) et in
    let aw : record { now = w; place = Some place } ≡ awaited exec polls big = ew ∙ ap (awaited exec polls) eb in
    let lt : hold < polls = below_polls exec big c polls place refl (ap (λ (a : Awaited exec). a.place) (sym aw)) in
    let all : record { now = w; place = Some place } ≡ completes exec c big = aw ∙ at_once exec big c polls refl lt in
    let is : w ≡ (completes exec c big).now = ap (λ (a : Awaited exec). a.now) all in
    let at_place : place ≡ length s.history.records = same_place place (length s.history.records) (ap (λ (a : Awaited exec). a.place) all) in
    let start : ChannelStart = start_of exec s in let now : ChannelState = now_of s in let later : ChannelState = record now { taken = now.taken + 1 } in
    let n : counted s.taken ≡ s.taken + 1 = counts s.taken (omega (arith, early)) in
    let m : counted (s.taken + 1) ≡ s.taken + 2 = omega (arith, early) in
    let k : counted (counted s.taken) ≡ s.taken + 2 = ap counted n ∙ m in
    let two : s.taken + 2 ≡ s.taken + 1 + 1 = omega arith in
    let next : ChannelState = completed start p false later in
    let e : Record = recorded p x.error x.output (next_reading start later) false in
    let left : now_of w ≡ next = ap now_of is ∙ (λ i. record {
      object = next.object;
      records = s.history.records ++ recorded p x.error x.output (line_reading s.clock.start s.clock.step s.added (n i)) false ∷ [];
      in_flight = None;
      taken = (k ∙ two) i;
      added = s.added;
    }) in
    let noted : noted_in w ≡ noted_post (outcome.Done place) (noted_in s) = ap noted_in is ∙ (λ i. record {
      notes = s.history.notes ++ record { post_at = s.taken; done_at = n i; looks = 0 } ∷ [];
      flight = note_in (sym free i);
      taken = k i;
    }) in
    let reading : ℕ = next_reading start now in let earliest : ℕ = earliest_of start.head.limits (times_of now.records) in
    let not_soon : nat_lt reading earliest ≡ false = grind (arith, nat_tests) in
    let in_call : nat_lt hold polls ≡ true = grind (arith, nat_tests) in
    let a : post_call start call now ≡ record { reply = Done e.error e.output; now = next } = rw (not_soon, in_call) refl in
    let placed : slice_get (s.history.records ++ e ∷ []) (length s.history.records) ≡ Some e = slice_get-get_or (s.history.records ++ e ∷ []) (length s.history.records) e (grind (arith, common_steps)) ∙ ap Some (get_or-append_seam s.history.records e [] e) in
    let P : Answered → Type 0 = λ x. StandsFor x.now.records (outcome.Done place) x.reply in
    let long = length-append s.history.records (recorded p x.error x.output (line_reading s.clock.start s.clock.step s.added (counted s.taken)) false ∷ []) in
    let more : length w.history.records ≡ length s.history.records + 1 = ap (λ (z : EndsState). length z.history.records) is ∙ long in
    let read : w.taken ≡ s.taken + 2 = ap (λ (z : EndsState). z.taken) is ∙ k in
    record {
      told = subst P (sym a) (e, ap (slice_get (s.history.records ++ e ∷ [])) at_place ∙ placed, refl);
      left = left ∙ ap (λ (x : Answered). x.now) (sym a);
      stays = stays_for s w (completes exec c big).now is (record { head = refl; wiring = refl; clock = refl; first = refl; opening = refl });
      placed = omega (arith, at_place, more);
      readings = omega (arith, read);
      noted = noted;
      ends = tt;
    }

-- a call that is given up
pub post_lost : (exec : Device) (s t u w v : EndsState) (caller polls hold : ℕ) (place : Option ℕ) (r : ReadyCommand) → place ≡ None
    → s.history.sent ≡ None → s.taken + 2 < 2 ^ 64 → earliest_post s ≤ reading_of s → t ≡ posted caller r s → u ≡ record t { hold = hold }
    → record { now = w; place = place } ≡ awaited exec polls u → v ≡ gave_up w
    → Posts exec s (record { caller = caller; code = r.code; bytes = r.bytes; polls = polls; hold = hold }) v (outcome.TimedOut polls)
post_lost exec s t u w v caller polls hold place r none free early in_time et eu ew ev =
    let call : Call = record { caller = caller; code = r.code; bytes = r.bytes; polls = polls; hold = hold } in
    let c : Sent = next_sent caller r s in let p : Pending = c.command in
    let big : EndsState = record (posted caller r s) { hold = hold } in
    let eb : u ≡ big = eu ∙ ap (λ (z : EndsState). record z { hold = hold }) et in
    let aw : record { now = w; place = None } ≡ awaited exec polls big = (λ i. record { now = w; place = sym none i }) ∙ (ew ∙ ap (awaited exec polls) eb) in
    let above : polls ≤ hold = above_polls exec big c polls refl (ap (λ (a : Awaited exec). a.place) (sym aw)) in
    let held : nat_lt hold polls ≡ false = grind (arith, nat_tests) in
    let on : EndsState = record big { hold = hold - polls; looks = 0 + polls } in
    let is : v ≡ gave_up on = ev ∙ ap gave_up (ap (λ (a : Awaited exec). a.now) (aw ∙ held_on exec big c polls refl above)) in
    let start : ChannelStart = start_of exec s in let now : ChannelState = now_of s in
    let next : ChannelState = record now { taken = now.taken + 1; in_flight = Some (record { command = p; left = hold - polls }) } in
    let n : counted s.taken ≡ s.taken + 1 = counts s.taken (omega (arith, early)) in
    let looks : 0 + polls ≡ polls = omega arith in
    let reading : ℕ = next_reading start now in let earliest : ℕ = earliest_of start.head.limits (times_of now.records) in
    let not_soon : nat_lt reading earliest ≡ false = grind (arith, nat_tests) in
    let a : post_call start call now ≡ record { reply = TimedOut polls; now = next } = rw (not_soon, held) refl in
    let left : now_of v ≡ next = ap now_of is ∙ (λ i. record { object = s.object; records = s.history.records; in_flight = Some (record { command = p; left = hold - polls }); taken = n i; added = s.added }) in
    let noted : noted_in v ≡ noted_post (outcome.TimedOut polls) (noted_in s) = ap noted_in is ∙ (λ i. record {
      notes = s.history.notes;
      flight = Some (record { post_at = s.taken; done_at = 0; looks = looks i });
      taken = n i;
    }) in
    let read : v.taken ≡ s.taken + 1 = ap (λ (z : EndsState). z.taken) is ∙ n in
    record {
      told = ap (λ (x : Answered). x.reply) a;
      left = left ∙ ap (λ (x : Answered). x.now) (sym a);
      stays = stays_for s v (gave_up on) is (record { head = refl; wiring = refl; clock = refl; first = refl; opening = refl });
      placed = tt;
      readings = omega (arith, read);
      noted = noted;
      ends = tt;
    }

-- a reading that is too soon
same_soon : (now earliest n e : ℕ) → refusal.TooSoon now earliest ≡ refusal.TooSoon n e → (now ≡ n) × (earliest ≡ e)
same_soon now earliest n e q = (cc, cc)

pub post_soon : (exec : Device) (s t : EndsState) (caller polls hold now earliest : ℕ) (r : ReadyCommand) → s.taken + 2 < 2 ^ 64
    → reading_of s < earliest_post s → refusal.TooSoon now earliest ≡ refusal.TooSoon (reading_of s) (earliest_post s) → t ≡ read_once s
    → Posts exec s (record { caller = caller; code = r.code; bytes = r.bytes; polls = polls; hold = hold }) t (outcome.TooSoon now earliest)
post_soon exec s t caller polls hold at least r early below q et =
    let call : Call = record { caller = caller; code = r.code; bytes = r.bytes; polls = polls; hold = hold } in
    let start : ChannelStart = start_of exec s in let now : ChannelState = now_of s in
    let reading : ℕ = next_reading start now in let earliest : ℕ = earliest_of start.head.limits (times_of now.records) in
    let next : ChannelState = record now { taken = now.taken + 1 } in
    let n : counted s.taken ≡ s.taken + 1 = counts s.taken (omega (arith, early)) in
    let soon : nat_lt reading earliest ≡ true = grind (arith, nat_tests) in
    let a : post_call start call now ≡ record { reply = TooSoon reading earliest; now = next } = rw soon refl in
    let same = same_soon at least reading earliest q in
    let left : now_of t ≡ next = ap now_of et ∙ (λ i. record now { taken = n i }) in
    let read : t.taken ≡ s.taken + 1 = ap (λ (z : EndsState). z.taken) et ∙ n in
    record {
      told = ap (λ (x : Answered). x.reply) a ∙ (λ i. TooSoon (sym same.0 i) (sym same.1 i));
      left = left ∙ ap (λ (x : Answered). x.now) (sym a);
      stays = stays_for s t (read_once s) et (record { head = refl; wiring = refl; clock = refl; first = refl; opening = refl });
      placed = tt;
      readings = omega (arith, read);
      noted = ap noted_in et ∙ (λ i. record { notes = s.history.notes; flight = note_in s.history.sent; taken = n i });
      ends = tt;
    }

-- ---- a call is made ready

same_count : (sent : Option Sent) (hold : ℕ) → count_flying sent ≡ count_in_flight (flight_of sent hold)
same_count None hold = refl
same_count (Some c) hold = refl

same_posts : (s : EndsState) → posts_of s.history ≡ posts_in (now_of s)
same_posts s = ap (λ (n : ℕ). length s.history.records + n) (same_count s.history.sent s.hold)

module _ (s t : EndsSeen) (r : ReadyCommand) (rest : t.state ≡ record s.state { history = t.state.history }) (counts_are : t.counts ≡ s.counts) where
  with_history : (h : CommandHistory) → t.state.history ≡ h → open_channel t ≡ open_channel (record s { state = record s.state { history = h } })
  with_history h e = ap open_channel (λ i. record { state = (rest ∙ ap (λ (z : CommandHistory). record s.state { history = z }) e) i; counts = counts_are i })

  readied_by : (o : Option CallRefusal) (result : Result ReadyCommand CallRefusal) → ReadiedBy o s.state.history r t.state.history result
      → MakesReadyBy o (open_channel s) r (open_channel t) result
  readied_by (Some e) result h = (h.0, with_history s.state.history h.1)
  readied_by None (Err e) h = (h.0, with_history s.state.history h.1)
  readied_by None (Ok made) h = (
    h.0,
    with_history (reserved s.state.history) h.1
        ∙ ap (λ (n : ℕ). record (open_channel s) { efforts = record (efforts_of s) { spare = max s.state.history.spare (n + 1) } }) (same_count s.state.history.sent s.state.hold),
  )

  pub makes_ready : (result : Result ReadyCommand CallRefusal) → IsReadied s.state.history r t.state.history result
      → MakesReady (open_channel s) r (open_channel t) result
  makes_ready result h = subst (λ (n : ℕ). MakesReadyBy (refusals.refusal_of r.kind r.room r.code (length r.bytes) n) (open_channel s) r (open_channel t) result) (same_posts s.state)
      (readied_by (refusals.refusal_of r.kind r.room r.code (length r.bytes) (posts_of s.state.history)) result h)

-- a command was made ready: nothing refused it, and the memory for it was taken
pub record IsMade (o : Option CallRefusal) (old new : OpenChannel) (r made : ReadyCommand) : Type 0 where
  pub unrefused : o ≡ None
  pub command : made ≡ r
  pub memory : new ≡ with_memory old

made_by : (o : Option CallRefusal) (old new : OpenChannel) (r made : ReadyCommand) → MakesReadyBy o old r new (Ok made) → IsMade o old new r made
made_by None old new r made h = record { unrefused = refl; command = h.0; memory = h.1 }
made_by (Some e) old new r made h = absurd (cc (h.0))

-- what refuses a command of this code with these bytes
abbrev pub refused_by : OpenChannel → ℕ → List ℕ → Option CallRefusal
refused_by c code bytes = refusals.refusal_of c.head.kind c.head.room code (length bytes) (posts_in c.now)

pub made_of : (c new : OpenChannel) (code : ℕ) (bytes : List ℕ) (r : ReadyCommand) → MakesReady c (ready_for c code bytes) new (Ok r)
    → IsMade (refused_by c code bytes) c new (ready_for c code bytes) r
made_of c new code bytes r h = made_by (refused_by c code bytes) c new (ready_for c code bytes) r h

-- the memory that is taken
pub has_memory : (c new : OpenChannel) → new ≡ with_memory c → length new.now.records + new.efforts.spare ≤ 4096 → HasMemory new
has_memory c new e few = record {
  taken = subst (λ (z : OpenChannel). count_in_flight z.now.in_flight < z.efforts.spare) (sym e) (omega arith);
  few = few;
}

-- ---- the polls for an earlier command

pub free_sent : (sent : Option Sent) → is_flying sent ≡ false → sent ≡ None
free_sent None e = refl
free_sent (Some c) e = absurd (cc e)

module _ (exec : Device) (polls : ℕ) (s : EndsState) where
  -- nothing was in flight
  pub free_awaited : is_flying s.history.sent ≡ false → Awaits exec polls s s true
  free_awaited e = let free : s.history.sent ≡ None = free_sent s.history.sent e in let start : ChannelStart = start_of exec s in
      record {
        polls_leave = ap (λ (o : Option Sent). polled_for start polls (now_of s) (flight_of o s.hold)) free;
        stays = record { head = refl; wiring = refl; clock = refl; first = refl; opening = refl };
        noted = ap (λ (o : Option Sent). noted_earlier (note_in o) (noted_in s)) (sym free);
        readings = omega arith;
      }

  -- the earlier command is drained
  drained_awaited : (t : EndsState) (d : Sent) (place : ℕ) → s.history.sent ≡ Some d → is_late d ≡ true → s.taken + 1 < 2 ^ 64
      → record { now = t; place = Some place } ≡ awaited exec polls s → Awaits exec polls s t true
  drained_awaited t d place e lost early ew =
      let x : Exchange = exchange_in exec s d.command in
      let lt : s.hold < polls = below_polls exec s d polls place e (ap (λ (a : Awaited exec). a.place) (sym ew)) in
      let mid : EndsState = (completes exec d s).now in
      let em : t ≡ mid = ap (λ (a : Awaited exec). a.now) (ew ∙ at_once exec s d polls e lt) in
      let start : ChannelStart = start_of exec s in let now : ChannelState = now_of s in
      let n : counted s.taken ≡ s.taken + 1 = counts s.taken early in
      let history : CommandHistory = record {
        records = s.history.records ++ record_of d x.error x.output (reading_of s) ∷ [];
        notes = s.history.notes ++ note_of d s.taken ∷ [];
        sent = None;
        spare = s.history.spare - 1;
      } in
      let eh : mid.history ≡ history = ap (λ (o : Option Sent). drained_by o x.error x.output (reading_of s) s.taken s.history) e in
      let drained_now : completed start d.command true now ≡ now_of mid = (λ i. record {
        object = object_after exec s.object.state d.command.code d.command.input;
        records = s.history.records ++ recorded d.command x.error x.output (reading_of s) (sym lost i) ∷ [];
        in_flight = None;
        taken = sym n i;
        added = s.added;
      }) ∙ ap (λ (z : CommandHistory). now_of (record mid { history = z })) (sym eh) in
      let noted : noted_in mid ≡ noted_earlier (note_in s.history.sent) (noted_in s) = ap (λ (z : CommandHistory). noted_in (record mid { history = z })) eh
      ∙ ((λ i. record { notes = s.history.notes ++ note_of d s.taken ∷ []; flight = None; taken = n i })
      ∙ ap (λ (o : Option Sent). noted_earlier (note_in o) (noted_in s)) (sym e)) in
      let below : nat_lt s.hold polls ≡ true = grind (arith, nat_tests) in
      let read : t.taken ≡ s.taken + 1 = ap (λ (z : EndsState). z.taken) em ∙ n in
      let by : polled_for start polls now (flight_of (Some d) s.hold) ≡ record { free = true; now = completed start d.command true now } = rw below refl in
      record {
        polls_leave = ap (λ (o : Option Sent). polled_for start polls now (flight_of o s.hold)) e
            ∙ (by ∙ ap (λ (z : ChannelState). record { free = true; now = z }) (drained_now ∙ ap now_of (sym em)));
        stays = stays_for s t mid em (record { head = refl; wiring = refl; clock = refl; first = refl; opening = refl });
        noted = ap noted_in em ∙ noted;
        readings = omega (arith, read);
      }

  -- it stays in flight
  pub kept_on : (t : EndsState) (d : Sent) → s.history.sent ≡ Some d → record { now = t; place = None } ≡ awaited exec polls s
      → (polls ≤ s.hold) × (t ≡ record s { hold = s.hold - polls; looks = s.looks + polls })
  kept_on t d e ew = let above : polls ≤ s.hold = above_polls exec s d polls e (ap (λ (a : Awaited exec). a.place) (sym ew)) in
      (above, ap (λ (a : Awaited exec). a.now) (ew ∙ held_on exec s d polls e above))

  kept_awaited : (t : EndsState) (d : Sent) → s.history.sent ≡ Some d → record { now = t; place = None } ≡ awaited exec polls s
      → Awaits exec polls s t false
  kept_awaited t d e ew = let k = kept_on t d e ew in let above = k.0 in let start : ChannelStart = start_of exec s in let now : ChannelState = now_of s in
      let held : nat_lt s.hold polls ≡ false = grind (arith, nat_tests) in
      let on : EndsState = record s { hold = s.hold - polls; looks = s.looks + polls } in
      let left : ChannelState = record now { in_flight = Some (record { command = d.command; left = s.hold - polls }) } in
      let by : polled_for start polls now (flight_of (Some d) s.hold) ≡ record { free = false; now = left } = rw held refl in
      let now_is : left ≡ now_of t = ap (λ (o : Option Sent). record now { in_flight = flight_of o (s.hold - polls) }) (sym e) ∙ ap now_of (sym k.1) in
      let read : t.taken ≡ s.taken = ap (λ (z : EndsState). z.taken) k.1 in
      record {
        polls_leave = ap (λ (o : Option Sent). polled_for start polls now (flight_of o s.hold)) e
            ∙ (by ∙ ap (λ (z : ChannelState). record { free = false; now = z }) now_is);
        stays = stays_for s t on k.1 (record { head = refl; wiring = refl; clock = refl; first = refl; opening = refl });
        noted = ap noted_in k.1;
        readings = omega (arith, read);
      }

  -- what polls for a command in flight leave, by whether it was drained
  pub polls_awaited : (t : EndsState) (place : Option ℕ) → IsLate s.history.sent s.executed → is_flying s.history.sent ≡ true → s.taken + 1 < 2 ^ 64
      → record { now = t; place = place } ≡ awaited exec polls s → Awaits exec polls s t (is_some place)
  polls_awaited t place late flies early ew = by s.history.sent place refl late flies ew
    where
      by : (sent : Option Sent) (p : Option ℕ) → s.history.sent ≡ sent → IsLate sent s.executed → is_flying sent ≡ true
          → record { now = t; place = p } ≡ awaited exec polls s → Awaits exec polls s t (is_some p)
      by None p e l f w = absurd (cc f)
      by (Some d) None e l f w = kept_awaited t d e w
      by (Some d) (Some n) e l f w = drained_awaited t d n e l.1 early w

  -- what they leave in the history
  pub record Left (t : EndsState) (free : Bool) : Type 0 where
    pub none : free ≡ true → t.history.sent ≡ None
    pub late : IsLate t.history.sent t.executed
    pub memory : count_flying t.history.sent < t.history.spare
    pub few : length t.history.records + t.history.spare ≤ 4096
    pub budget : t.budget ≡ s.budget

  pub polls_left : (t : EndsState) (place : Option ℕ) → IsLate s.history.sent s.executed → is_flying s.history.sent ≡ true
      → count_flying s.history.sent < s.history.spare → length s.history.records + s.history.spare ≤ 4096
      → record { now = t; place = place } ≡ awaited exec polls s → Left t (is_some place)
  polls_left t place late flies memory few ew = by s.history.sent place refl late flies memory ew
    where
      by : (sent : Option Sent) (p : Option ℕ) → s.history.sent ≡ sent → IsLate sent s.executed → is_flying sent ≡ true → count_flying sent < s.history.spare
          → record { now = t; place = p } ≡ awaited exec polls s → Left t (is_some p)
      by None p e l f m w = absurd (cc f)
      by (Some d) None e l f m w = let k = (kept_on t d e w).1 in record {
        none = λ q. absurd (cc q);
        late = subst (λ (z : EndsState). IsLate z.history.sent z.executed) (sym k) late;
        memory = subst (λ (z : EndsState). count_flying z.history.sent < z.history.spare) (sym k) memory;
        few = subst (λ (z : EndsState). length z.history.records + z.history.spare ≤ 4096) (sym k) few;
        budget = ap (λ (z : EndsState). z.budget) k;
      }
      by (Some d) (Some n) e l f m w = let x : Exchange = exchange_in exec s d.command in
          let lt : s.hold < polls = below_polls exec s d polls n e (ap (λ (a : Awaited exec). a.place) (sym w)) in
          let mid : EndsState = (completes exec d s).now in
          let em : t ≡ mid = ap (λ (a : Awaited exec). a.now) (w ∙ at_once exec s d polls e lt) in
          let r : Record = record_of d x.error x.output (reading_of s) in
          let history : CommandHistory = record {
            records = s.history.records ++ r ∷ [];
            notes = s.history.notes ++ note_of d s.taken ∷ [];
            sent = None;
            spare = s.history.spare - 1;
          } in
          let eh : t.history ≡ history = ap (λ (z : EndsState). z.history) em ∙ ap (λ (o : Option Sent). drained_by o x.error x.output (reading_of s) s.taken s.history) e in
          let none : t.history.sent ≡ None = ap (λ (z : CommandHistory). z.sent) eh in
          let spare : t.history.spare ≡ s.history.spare - 1 = ap (λ (z : CommandHistory). z.spare) eh in
          let long : length t.history.records ≡ length s.history.records + 1 = ap (λ (z : CommandHistory). length z.records) eh ∙ length-append s.history.records (r ∷ []) in
          record {
            none = λ q. none;
            late = subst (λ (o : Option Sent). IsLate o t.executed) (sym none) tt;
            memory = subst (λ (o : Option Sent). count_flying o < t.history.spare) (sym none) (omega (arith, spare, m));
            few = omega (arith, spare, long, few, m);
            budget = ap (λ (z : EndsState). z.budget) em;
          }

-- ---- the call is answered by its post

noted_by_post : (o : Outcome) (n : Noted) → EndsByPost o → noted_post o (noted_earlier n.flight n) ≡ noted_after o n
noted_by_post (outcome.Done place) n e = refl
noted_by_post (outcome.TimedOut looks) n e = refl
noted_by_post (outcome.TooSoon now earliest) n e = refl
noted_by_post (outcome.BadCode c) n e = absurd e
noted_by_post (outcome.TooLong l m) n e = absurd e
noted_by_post outcome.JournalFull n e = absurd e
noted_by_post (outcome.StillPending looks) n e = absurd e

module _ (exec : Device) (c : OpenChannel) (caller code polls hold : ℕ) (bytes : List ℕ) where
  abbrev asked : Call
  asked = call_by caller code bytes polls hold

  -- an answer after the polls for an earlier command
  answered_from : (mid : OpenChannel) (free : Bool) → refused_by c code bytes ≡ None → HasPolled exec polls (with_memory c) mid free
      → answer_call (start_by exec c) asked c.now ≡ after_polls (start_by exec c) asked (record { free = free; now = mid.now })
  answered_from mid free e h = ap (λ (o : Option CallRefusal). answer_unless (start_by exec c) asked c.now (replied o)) e ∙ ap (after_polls (start_by exec c) asked) h.polls_leave

  -- where nothing is in flight then, it is that of the post
  through : (mid new : OpenChannel) (o : Outcome) → refused_by c code bytes ≡ None → HasPolled exec polls (with_memory c) mid true
      → IsPosted exec mid asked new o → IsAnswered exec c asked new o
  through mid new o refused w h = let P : Answered → Type 0 = λ x. StandsFor x.now.records o x.reply in
      let start : start_by exec c ≡ start_by exec mid = ap (start_by exec) (sym w.left) in
      let e : answer_call (start_by exec c) asked c.now ≡ post_call (start_by exec mid) asked mid.now = answered_from mid true refused w ∙ ap (λ (z : ChannelStart). post_call z asked mid.now) start in
      let kept : record mid { now = (post_call (start_by exec mid) asked mid.now).now; efforts = new.efforts } ≡ record c { now = (post_call (start_by exec mid) asked mid.now).now; efforts = new.efforts } = ap (λ (z : OpenChannel). record z { now = (post_call (start_by exec mid) asked mid.now).now; efforts = new.efforts }) w.left in
      record {
        told = subst P (sym e) h.told;
        left = h.left ∙ (kept ∙ ap (λ (x : Answered). record c { now = x.now; efforts = new.efforts }) (sym e));
        noted = h.noted ∙ (ap (noted_post o) w.noted ∙ noted_by_post o (noted_of c) h.ends);
      }

  pub post_answered : (ready mid new : OpenChannel) (r : ReadyCommand) (free : Bool) (o : Outcome) → MakesReady c (ready_for c code bytes) ready (Ok r)
      → HasPolled exec polls ready mid free → free ≡ true → IsPosted exec mid (call_by caller r.code r.bytes polls hold) new o
      → IsAnswered exec c asked new o
  post_answered ready mid new r free o m w is h = let k = made_of c ready code bytes r m in
      through mid new o k.unrefused (subst (λ (z : OpenChannel × Bool). HasPolled exec polls z.0 mid z.1) (λ i. (k.memory i, is i)) w)
      (subst (λ (z : ReadyCommand). IsPosted exec mid (call_by caller z.code z.bytes polls hold) new o) k.command h)

  -- where the earlier command stays in flight, it is still pending
  pub still_answered : (ready new : OpenChannel) (r : ReadyCommand) (free : Bool) → MakesReady c (ready_for c code bytes) ready (Ok r)
      → HasPolled exec polls ready new free → free ≡ false → IsAnswered exec c asked new (outcome.StillPending polls)
  still_answered ready new r free m w is = let k = made_of c ready code bytes r m in
      let awaits : HasPolled exec polls (with_memory c) new false = subst (λ (z : OpenChannel × Bool). HasPolled exec polls z.0 new z.1) (λ i. (k.memory i, is i)) w in
      let e : answer_call (start_by exec c) asked c.now ≡ record { reply = StillPending polls; now = new.now } = answered_from new false k.unrefused awaits in
      record {
        told = ap (λ (x : Answered). x.reply) e;
        left = awaits.left ∙ ap (λ (x : Answered). record c { now = x.now; efforts = new.efforts }) (sym e);
        noted = awaits.noted;
      }
