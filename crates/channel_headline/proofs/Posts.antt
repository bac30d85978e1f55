-- What holds at a point of a run in one thread stays when a call is answered.
use Rattle.std.proofs.Common.{◌≡◌, ◌≤◌, ◌<◌, ℕ, ◌+◌, ◌*◌, ◌-◌, Bool, true, false, cond, List, [], ◌∷◌, ◌++◌, length, refl, sym, ap, ◌∙◌, subst, arith}
use Rattle.std.specs.Prelude.{IfSome, Option, Some, None, ◌==◌, ◌&&◌, nat_lt, nat_le}
use Rattle.std.proofs.lemmas.Bool.{leb-false, leb-true, ltb-true}
use Rattle.std.proofs.lemmas.List.{append-nil, length-append, map-append}
use Rattle.pcc_history.specs.Channel.{Exchange, over}
use Rattle.rate_limit.specs.declared.Times.{Times}
use Rattle.rate_limit.specs.RateLimits.{earliest_of}
use Rattle.pcc_causes.specs.Clock.{line_reading}
use Rattle.pcc_journal.specs.declared.reserved.TheConstants.{MAX_ITEMS}
use Rattle.pcc_journal.specs.declared.record.Record.{Record}
use Rattle.pcc_journal.specs.declared.record.Pending.{Pending}
use Rattle.pcc_journal.specs.declared.note.Note.{Note}
use Rattle.pcc_journal.specs.Records.{times_of, times_of_record}
use Rattle.pcc_journal.specs.Events.{Event, Answered as AnsweredEvent, Drained, Lost, Noted, NotedPending, completed_of, events_of, noted, post_count, posted_of, posted_of_pending}
use Rattle.pcc_journal.proofs.EventsGrow.{last as events_last, noted_last, posted as events_posted, post_count-append}
use Rattle.channel_core.specs.Refusals as refusals
use Rattle.channel_core.specs.Sendings.{recorded}
use Rattle.channel_core.specs.declared.answers.CallRefusal.TheVariants as refusal
use Rattle.cppc_calls.specs.Wishes.{wish_fault}
use Rattle.cppc_calls.specs.declared.wish.SetRefusal.{SetRefusal}
use Rattle.channel_turns.specs.Replies.{Reply, Done, BadCode, TooLong, JournalFull, StillPending, TooSoon, TimedOut}
use Rattle.channel_turns.specs.ChannelRuns.{Answered, Call, ChannelStart, ChannelState, InFlight, Polled, after_polls, answer_call, answer_unless, completed, count_in_flight, exchange_with, journal_limit, next_reading, polled, polled_for, post_call, refusal_of, replied}
use Rattle.channel_headline.specs.After.{After, IsReading, after_event, after_events, before_all, numbers_in}
use Rattle.channel_headline.specs.Causes.{AllCaused, IsBlocked, IsFull, IsTooSoon, IsUnfit, Past, Terms}
use Rattle.channel_headline.specs.Asked.{Asked, LineReply, Refused, Replied, These, asked_bytes, asked_fault, asked_length}
use Rattle.channel_headline.specs.ChannelLog.{ChannelLog, LineCall, drained, line_of, logged, of_call, of_wish, reading_at, with_drained, with_reply}
use Rattle.channel_headline.specs.Lines.{CallLine, mine_of, soon_lines, soon_numbers}
use Rattle.channel_headline.specs.Matches.{Placed, own_calls, placed}
use Rattle.channel_headline.specs.Runs.{terms_of}
use Rattle.channel_headline.specs.WishCalls.{LineAnswer, WishCall, answer_wish, post_wish, whole_call, wish_after, wish_refusal, wish_unless}
use Rattle.channel_headline.proofs.Growing.{after-append, all_last, all_read, match_more, match_quiet, one_match, reading_first, reading_second, rise_events, rise_higher, soon_count, soon_more, soon_other}
use Rattle.channel_headline.proofs.Histories.{choose, decide, refusal_is, wish_asked}
use Rattle.channel_headline.proofs.Owned.{own_length}
use Rattle.channel_headline.proofs.Points.{Point, both_none, both_some, causes_last, causes_more, drained_at, ends_last, from_zero, line_point, next_is, rest_point}

-- the command of a call that is posted now
abbrev command_of : ChannelStart → Call → ChannelState → Pending
command_of start call now = record { caller = call.caller; code = call.code; input = over now.object.space call.bytes; post = next_reading start now }

-- a call as its line says it, by what the line asks
abbrev says : Call → Asked → LineCall
says call asked = record { caller = call.caller; code = call.code; asked = asked; polls = call.polls }

-- no call line of this kind is refused by itself
abbrev Passes : ChannelStart → Call → Asked → Type 0
Passes start call asked = refusals.refusal_of start.head.kind start.head.room call.code (asked_length start.head.room asked) 0 ≡ None

-- the bytes of the call are what its line asks of this space
record Makes (call : Call) (asked : Asked) (space : List ℕ) : Type 0 where
  bytes : call.bytes ≡ asked_bytes asked space
  fits : asked_fault asked space ≡ None

-- some events are those of the log and the channel
pub record Reached (start : ChannelStart) (s : ChannelLog) (now : ChannelState) (o : Option InFlight) : Type 0 where
  pub events : List Event
  pub point : Point start s now o events

input_is : (call : Call) (asked : Asked) (space : List ℕ) (before : After) → call.bytes ≡ asked_bytes asked space → before.space ≡ space
    → over space call.bytes ≡ over before.space (asked_bytes asked before.space)
input_is call asked space before bytes same = ap (λ (v : List ℕ). over space v) bytes ∙ ap (λ (v : List ℕ). over v (asked_bytes asked v)) (sym same)

answered_point : (start : ChannelStart) (call : Call) (asked : Asked) (now : ChannelState) (s : ChannelLog) (events : List Event) → Passes start call asked → Makes call asked now.object.space → post_count events < MAX_ITEMS → Point start s now None events
    → let command = command_of start call now in
    let later = record now { taken = now.taken + 1 } in
    let x = exchange_with start command later in
    Reached start (with_reply start.clock (says call asked) (Replied (Done x.error x.output)) s) (completed start command false later) None
answered_point start call asked now s events passes makes room h =
    let command : Pending = command_of start call now in
    let later : ChannelState = record now { taken = now.taken + 1 } in
    let x : Exchange = exchange_with start command later in
    let reply : LineReply = Replied (Done x.error x.output) in
    let l : CallLine = line_of (says call asked) reply 0 in
    let t : Terms = terms_of start in
    let k : ℕ = length s.readings in
    let v : ℕ = reading_at start.clock s k in
    let w : ℕ = reading_at start.clock s (k + 1) in
    let r : Record = recorded command x.error x.output (next_reading start later) false in
    let note : Note = record { post_at = k; done_at = k + 1; looks = 0 } in
    let en : Noted = record { entry = r; note = note } in
    let ns : List Noted = noted now.records s.notes in
    let e : Event = AnsweredEvent (posted_of 0 r note) (completed_of 0 r note) in
    let rs : List ℕ = s.readings ++ v ∷ w ∷ [] in
    let is : v ≡ next_reading start now = next_is start s now h.added h.taken in
    let is_too : w ≡ next_reading start later =
    ap (λ (a : ℕ). line_reading start.clock.start start.clock.step a (k + 1)) h.added ∙ ap (λ (j : ℕ). line_reading start.clock.start start.clock.step now.added (j + 1)) h.taken in
    let R : ℕ → Type 0 = IsReading rs (0 + k) in
    let S : ℕ → Type 0 = λ j. IsReading rs j v in
    let Q : ℕ → Type 0 = IsReading rs (0 + (k + 1)) in
    let U : ℕ → Type 0 = λ j. IsReading rs j w in
    let long : length rs ≡ k + 2 = length-append s.readings (v ∷ w ∷ []) in
    let le : k ≤ length rs = omega (arith, long) in
    let more : length (now.records ++ r ∷ []) ≡ length now.records + 1 = length-append now.records (r ∷ []) in
    let counted : post_count (events ++ e ∷ []) ≡ post_count events + 1 = post_count-append events (e ∷ []) in
    let old_posts : post_count events ≡ length now.records + 0 = h.posts in
    let old_count : length s.readings ≡ 2 * length now.records + 0 + length (soon_lines s.calls) = h.count in
    let soons : length (soon_lines (s.calls ++ l ∷ [])) ≡ length (soon_lines s.calls) + 0 = soon_count s.calls l in
    let A : List Times → After = λ ts. record { space = x.output; flight = None; times = ts } in
    let before : After = after_events start.opening events in
    let p : Placed = record { event = e; before = before.space } in
    let input : over now.object.space call.bytes ≡ over before.space (asked_bytes asked before.space) = input_is call asked now.object.space before makes.bytes (ap (λ (a : After). a.space) h.after) in
    let fits : asked_fault asked before.space ≡ None = ap (λ (a : After). asked_fault asked a.space) h.after ∙ makes.fits in
    record {
      events = events ++ e ∷ [];
      point = record {
        are = ap (λ (n : List Noted). events_of 0 n None) (noted_last now.records s.notes r note h.notes) ∙ events_last 0 ns en ∙ ap (λ (n : List Event). n ++ e ∷ []) h.are;
        notes = length-append s.notes (note ∷ []) ∙ ap (λ (m : ℕ). m + 1) h.notes ∙ sym more;
        taken = let old : length s.readings ≡ now.taken = h.taken in omega (arith, long, old);
        added = h.added;
        pair = h.pair;
        after = after-append (before_all start.opening) events (e ∷ []) ∙ ap (λ (a : After). after_event a e) h.after ∙ ap A (sym (map-append times_of_record now.records (r ∷ [])));
        posts = omega (arith, counted, old_posts, more);
        few = omega (arith, counted, room);
        read = all_last rs events e (all_read s.readings (v ∷ w ∷ []) events h.read)
            (subst R is (subst S (from_zero k) (reading_first s.readings v (w ∷ []))), subst Q is_too (subst U (from_zero (k + 1)) (reading_second s.readings v w [])));
        rise = rise_events 0 events e k (length rs) h.rise (omega arith, (omega arith, omega (arith, long)));
        ended = ends_last s.calls l h.ended tt;
        own = λ caller. match_more caller (before_all start.opening) s.calls events l e (h.own caller) (one_match (call.caller == caller) l p ((refl, refl, input, fits), refl, refl));
        soon = λ caller. soon_other caller s.calls l k (length rs) refl le (h.soon caller);
        causes = causes_last t rs (events ++ e ∷ []) s.calls l (causes_more t s.readings (v ∷ w ∷ []) events (e ∷ []) s.calls h.causes) passes;
        count = omega (arith, long, old_count, more, soons);
      };
    }

timed_out_point : (start : ChannelStart) (call : Call) (asked : Asked) (now : ChannelState) (left : ℕ) (s : ChannelLog) (events : List Event) → Passes start call asked → Makes call asked now.object.space → post_count events < MAX_ITEMS → Point start s now None events
    → let later = record now { taken = now.taken + 1 } in
    let flight : InFlight = record { command = command_of start call now; left = left } in
    Reached start (with_reply start.clock (says call asked) (Replied (TimedOut call.polls)) s) (record later { in_flight = Some flight }) (Some flight)
timed_out_point start call asked now left s events passes makes room h =
    let command : Pending = command_of start call now in
    let reply : LineReply = Replied (TimedOut call.polls) in
    let l : CallLine = line_of (says call asked) reply 0 in
    let t : Terms = terms_of start in
    let k : ℕ = length s.readings in
    let v : ℕ = reading_at start.clock s k in
    let note : Note = record { post_at = k; done_at = 0; looks = call.polls } in
    let pn : NotedPending = record { command = command; note = note } in
    let ns : List Noted = noted now.records s.notes in
    let e : Event = Lost (posted_of_pending 0 pn) call.polls in
    let rs : List ℕ = s.readings ++ v ∷ [] in
    let is : v ≡ next_reading start now = next_is start s now h.added h.taken in
    let R : ℕ → Type 0 = IsReading rs (0 + k) in
    let S : ℕ → Type 0 = λ j. IsReading rs j v in
    let long : length rs ≡ k + 1 = length-append s.readings (v ∷ []) in
    let le : k ≤ length rs = omega (arith, long) in
    let counted : post_count (events ++ e ∷ []) ≡ post_count events + 1 = post_count-append events (e ∷ []) in
    let old_posts : post_count events ≡ length now.records + 0 = h.posts in
    let old_count : length s.readings ≡ 2 * length now.records + 0 + length (soon_lines s.calls) = h.count in
    let soons : length (soon_lines (s.calls ++ l ∷ [])) ≡ length (soon_lines s.calls) + 0 = soon_count s.calls l in
    let before : After = after_events start.opening events in
    let p : Placed = record { event = e; before = before.space } in
    let input : over now.object.space call.bytes ≡ over before.space (asked_bytes asked before.space) = input_is call asked now.object.space before makes.bytes (ap (λ (a : After). a.space) h.after) in
    let fits : asked_fault asked before.space ≡ None = ap (λ (a : After). asked_fault asked a.space) h.after ∙ makes.fits in
    record {
      events = events ++ e ∷ [];
      point = record {
        are = events_posted 0 ns (Some pn) ∙ ap (λ (n : List Event). n ++ e ∷ []) h.are;
        notes = h.notes;
        taken = long ∙ ap (λ (m : ℕ). m + 1) h.taken;
        added = h.added;
        pair = tt;
        after = after-append (before_all start.opening) events (e ∷ []) ∙ ap (λ (a : After). after_event a e) h.after;
        posts = omega (arith, counted, old_posts);
        few = omega (arith, counted, room);
        read = all_last rs events e (all_read s.readings (v ∷ []) events h.read) (subst R is (subst S (from_zero k) (reading_first s.readings v [])));
        rise = rise_events 0 events e k (length rs) h.rise (omega arith, omega (arith, long));
        ended = ends_last s.calls l h.ended tt;
        own = λ caller. match_more caller (before_all start.opening) s.calls events l e (h.own caller) (one_match (call.caller == caller) l p ((refl, refl, input, fits), refl, refl));
        soon = λ caller. soon_other caller s.calls l k (length rs) refl le (h.soon caller);
        causes = causes_last t rs (events ++ e ∷ []) s.calls l (causes_more t s.readings (v ∷ []) events (e ∷ []) s.calls h.causes) passes;
        count = omega (arith, long, old_count, soons);
      };
    }

-- the events until now, when the caller's earlier lines had been posted
abbrev now_past : (start : ChannelStart) (s : ChannelLog) (now : ChannelState) (o : Option InFlight) (events : List Event) (l : CallLine) → Point start s now o events → Past events s.calls l
now_past start s now o events l h =
    record { past = events; later = []; parts = sym (append-nil events); own = own_length l.caller (before_all start.opening) events (mine_of l.caller s.calls) (h.own l.caller) }

too_soon_point : (start : ChannelStart) (call : Call) (asked : Asked) (now : ChannelState) (s : ChannelLog) (events : List Event) → Passes start call asked → Makes call asked now.object.space
    → next_reading start now < earliest_of start.head.limits (times_of now.records) → Point start s now None events
    → Reached start (with_reply start.clock (says call asked) (Replied (TooSoon (next_reading start now) (earliest_of start.head.limits (times_of now.records)))) s) (record now { taken = now.taken + 1 }) None
too_soon_point start call asked now s events passes makes below h =
    let reading : ℕ = next_reading start now in
    let earliest : ℕ = earliest_of start.head.limits (times_of now.records) in
    let t : Terms = terms_of start in
    let k : ℕ = length s.readings in
    let reply : LineReply = Replied (TooSoon reading earliest) in
    let l : CallLine = line_of (says call asked) reply k in
    let v : ℕ = reading_at start.clock s k in
    let rs : List ℕ = s.readings ++ v ∷ [] in
    let is : v ≡ reading = next_is start s now h.added h.taken in
    let R : ℕ → Type 0 = IsReading rs k in
    let long : length rs ≡ k + 1 = length-append s.readings (v ∷ []) in
    let le : k ≤ length rs = omega (arith, long) in
    let to : k + 1 ≤ length rs = omega (arith, long) in
    let old_count : length s.readings ≡ 2 * length now.records + 0 + length (soon_lines s.calls) = h.count in
    let soons : length (soon_lines (s.calls ++ l ∷ [])) ≡ length (soon_lines s.calls) + 1 = soon_count s.calls l in
    let C : List Event → Type 0 = λ es. AllCaused t rs es s.calls in
    let causes : AllCaused t rs events s.calls = subst C (append-nil events) (causes_more t s.readings (v ∷ []) events [] s.calls h.causes) in
    let cause : IsTooSoon t rs events s.calls l reading earliest = record {
      moment = now_past start s now None events l h;
      quiet = ap (λ (a : After). a.flight) h.after;
      fits = ap (λ (a : After). asked_fault asked a.space) h.after ∙ makes.fits;
      earliest_is = ap (λ (a : After). earliest_of start.head.limits a.times) (sym h.after);
      soon = below;
      read = subst R is (reading_first s.readings v []);
      above = h.rise;
    } in
    record {
      events = events;
      point = record {
        are = h.are;
        notes = h.notes;
        taken = long ∙ ap (λ (m : ℕ). m + 1) h.taken;
        added = h.added;
        pair = h.pair;
        after = h.after;
        posts = h.posts;
        few = h.few;
        read = all_read s.readings (v ∷ []) events h.read;
        rise = rise_higher 0 (numbers_in events) k (length rs) h.rise le;
        ended = ends_last s.calls l h.ended tt;
        own = λ caller. match_quiet caller s.calls l (own_calls caller (placed (before_all start.opening) events)) refl (h.own caller);
        soon = λ caller. rise_higher 0 (soon_numbers caller (s.calls ++ l ∷ [])) (k + 1) (length rs) (soon_more caller s.calls l k refl refl (h.soon caller)) to;
        causes = causes_last t rs events s.calls l causes (passes, cause);
        count = omega (arith, long, old_count, soons);
      };
    }

-- ---- a call that may be posted

post_reached : (start : ChannelStart) (call : Call) (asked : Asked) (now : ChannelState) (s : ChannelLog) (events : List Event) → now.in_flight ≡ None
    → Passes start call asked → Makes call asked now.object.space → post_count events < MAX_ITEMS → Point start (drained start.clock s) now None events
    → let a = post_call start call now in Reached start (logged start.clock (says call asked) (Replied a.reply) s) a.now a.now.in_flight
post_reached start call asked now s events none passes makes room h =
    let reading : ℕ = next_reading start now in
    let earliest : ℕ = earliest_of start.head.limits (times_of now.records) in
    let Good : Answered → Type 0 = λ a. Reached start (logged start.clock (says call asked) (Replied a.reply) s) a.now a.now.in_flight in
    let later : ChannelState = record now { taken = now.taken + 1 } in
    let P : Option InFlight → Type 0 = λ o. Reached start (logged start.clock (says call asked) (Replied (TooSoon reading earliest)) s) later o in
    let d : ChannelLog = drained start.clock s in
    decide Good (nat_lt reading earliest) _ _
    (λ soon. subst P (sym none) (too_soon_point start call asked now d events passes makes (ltb-true reading earliest soon) h))
    (λ _. choose Good (nat_lt call.hold call.polls) _ _ (answered_point start call asked now d events passes makes room h) (timed_out_point start call asked now (call.hold - call.polls) d events passes makes room h))

-- ---- polls for an earlier command

-- nothing is in flight after them, or the events are the same and a command is in flight
record AfterPolls (start : ChannelStart) (s : ChannelLog) (events : List Event) (e : Polled) : Type 0 where
  free : e.free ≡ true → (grown : List Event) × (e.now.in_flight ≡ None) × (post_count grown < MAX_ITEMS) × Point start (drained start.clock s) e.now None grown
  blocked : e.free ≡ false → (post : ℕ) × ((after_events start.opening events).flight ≡ Some post) × Point start s e.now e.now.in_flight events

polls_reached : (start : ChannelStart) (polls : ℕ) (now : ChannelState) (o : Option InFlight) (s : ChannelLog) (events : List Event) → now.in_flight ≡ o → post_count events < MAX_ITEMS
    → Point start s now o events → AfterPolls start s events (polled_for start polls now o)
polls_reached start polls now None s events is room h =
    let P : Option Note → Type 0 = λ f. Point start (with_drained start.clock s f) now None events in
    let none : s.flight ≡ None = both_none s.flight h.pair in
    record { free = λ _. (events, is, room, subst P (sym none) h); blocked = λ no. absurd cc }
polls_reached start polls now (Some p) s events is room h =
    let some : (n : Note) × (s.flight ≡ Some n) = both_some p s.flight h.pair in
    let next : ChannelState = completed start p.command true now in
    let all = drained_at start s now p some.0 events some.1 h in
    let grown : List Event = events ++ Drained all.0 ∷ [] in
    let P : Option Note → Type 0 = λ f. Point start (with_drained start.clock s f) next None grown in
    let counted : post_count grown ≡ post_count events + 0 = post_count-append events (Drained all.0 ∷ []) in
    let fits : post_count grown < MAX_ITEMS = omega (arith, counted, room) in
    let q : InFlight = record p { left = p.left - polls } in
    choose (AfterPolls start s events) (nat_lt p.left polls) (record { free = true; now = next }) (record { free = false; now = record now { in_flight = Some q } })
    (record { free = λ _. (grown, refl, fits, subst P (sym some.1) all.1); blocked = λ no. absurd cc })
    (record { free = λ no. absurd cc; blocked = λ _. (p.command.post, ap (λ (a : After). a.flight) h.after, rest_point start now p (p.left - polls) s events h) })

-- the earlier command is still pending
blocked_reached : (start : ChannelStart) (call : Call) (asked : Asked) (now : ChannelState) (s : ChannelLog) (events : List Event) → Passes start call asked
    → (post : ℕ) × ((after_events start.opening events).flight ≡ Some post) × Point start s now now.in_flight events
    → Reached start (logged start.clock (says call asked) (Replied (StillPending call.polls)) s) now now.in_flight
blocked_reached start call asked now s events passes b =
    let l : CallLine = line_of (says call asked) (Replied (StillPending call.polls)) 0 in
    let cause : IsBlocked start.opening events s.calls l = record { moment = now_past start s now now.in_flight events l b.2; post = b.0; flies = b.1 } in
    record { events = events; point = line_point start (says call asked) (Replied (StillPending call.polls)) now now.in_flight s events refl refl (passes, refl, cause) b.2 }

after_reached : (start : ChannelStart) (call : Call) (e : Polled) (s : ChannelLog) (events : List Event) → Passes start call (These call.bytes) → AfterPolls start s events e
    → let a = after_polls start call e in Reached start (logged start.clock (of_call call) (Replied a.reply) s) a.now a.now.in_flight
after_reached start call e s events passes p =
    let Good : Answered → Type 0 = λ a. Reached start (logged start.clock (of_call call) (Replied a.reply) s) a.now a.now.in_flight in
    decide Good e.free _ _
    (λ free. let f = p.free free in post_reached start call (These call.bytes) e.now s f.0 f.1 passes (record { bytes = refl; fits = refl }) f.2 f.3)
    (λ no. blocked_reached start call (These call.bytes) e.now s events passes (p.blocked no))

-- ---- a call that may be refused

-- what the tests say of a line: it is refused by a code, by too many bytes, or by a full journal; or it passes
record Tested (start : ChannelStart) (c : LineCall) (now : ChannelState) (s : ChannelLog) (events : List Event) (o : Option Reply) : Type 0 where
  refused : IfSome o (λ reply. Reached start (logged start.clock c (Replied reply) s) now now.in_flight)
  passes : o ≡ None → refusals.refusal_of start.head.kind start.head.room c.code (asked_length start.head.room c.asked) 0 ≡ None
  room : o ≡ None → post_count events < MAX_ITEMS

some_reply : (r : Reply) → Some r ≡ None → ⊥
some_reply r e = cc

by_tests : (start : ChannelStart) (c : LineCall) (now : ChannelState) (s : ChannelLog) (events : List Event) (bad long full : Bool) (len : ℕ)
    → refusals.refusal_of start.head.kind start.head.room c.code (asked_length start.head.room c.asked) 0 ≡ cond bad (Some (refusal.BadCode c.code)) (cond long (Some (refusal.TooLong len start.head.room)) None)
    → (full ≡ true → MAX_ITEMS ≤ post_count events) → (full ≡ false → post_count events < MAX_ITEMS) → Point start s now now.in_flight events
    → Tested start c now s events (cond bad (Some (BadCode c.code)) (cond long (Some (TooLong len start.head.room)) (cond full (Some JournalFull) None)))
by_tests start c now s events true long full len by most room h = record {
  refused = record { events = events; point = line_point start c (Replied (BadCode c.code)) now now.in_flight s events refl refl by h };
  passes = λ e. absurd (some_reply _ e);
  room = λ e. absurd (some_reply _ e);
}
by_tests start c now s events false true full len by most room h = record {
  refused = record { events = events; point = line_point start c (Replied (TooLong len start.head.room)) now now.in_flight s events refl refl by h };
  passes = λ e. absurd (some_reply _ e);
  room = λ e. absurd (some_reply _ e);
}
by_tests start c now s events false false true len by most room h =
    let l : CallLine = line_of c (Replied JournalFull) 0 in
    let at_least : MAX_ITEMS ≤ post_count events = most refl in
    let at_most : post_count events ≤ MAX_ITEMS = h.few in
    let cause : IsFull events s.calls l = record { moment = now_past start s now now.in_flight events l h; full = omega (arith, at_least, at_most) } in
    record {
      refused = record { events = events; point = line_point start c (Replied JournalFull) now now.in_flight s events refl refl (by, cause) h };
      passes = λ e. absurd (some_reply _ e);
      room = λ e. absurd (some_reply _ e);
    }
by_tests start c now s events false false false len by most room h = record { refused = tt; passes = λ _. by; room = λ _. room refl }

-- the tests of a line of so many bytes
tested : (start : ChannelStart) (c : LineCall) (now : ChannelState) (s : ChannelLog) (events : List Event) → Point start s now now.in_flight events
    → Tested start c now s events (replied (refusals.refusal_of start.head.kind start.head.room c.code (asked_length start.head.room c.asked) (length now.records + count_in_flight now.in_flight)))
tested start c now s events h =
    let len : ℕ = asked_length start.head.room c.asked in
    let bad : Bool = refusals.has_byte_codes start.head.kind && nat_lt 255 c.code in
    let long : Bool = nat_lt start.head.room len in
    let posts : ℕ = length now.records + count_in_flight now.in_flight in
    let full : Bool = nat_le journal_limit posts in
    let are : post_count events ≡ posts = h.posts in
    subst (Tested start c now s events) (sym (refusal_is start c.code len posts))
    (by_tests start c now s events bad long full len refl (λ e. at_least posts (post_count events) are e) (λ e. below posts (post_count events) are e) h)
  where
    at_least : (posts count : ℕ) → count ≡ posts → nat_le journal_limit posts ≡ true → MAX_ITEMS ≤ count
    at_least posts count are e = let le : MAX_ITEMS ≤ posts = leb-true MAX_ITEMS posts e in omega (arith, le, are)

    below : (posts count : ℕ) → count ≡ posts → nat_le journal_limit posts ≡ false → count < MAX_ITEMS
    below posts count are e = let lt : posts < MAX_ITEMS = leb-false MAX_ITEMS posts e in omega (arith, lt, are)

unless_reached : (start : ChannelStart) (call : Call) (now : ChannelState) (s : ChannelLog) (events : List Event) (o : Option Reply) → Tested start (of_call call) now s events o
    → Point start s now now.in_flight events
    → let a = answer_unless start call now o in Reached start (logged start.clock (of_call call) (Replied a.reply) s) a.now a.now.in_flight
unless_reached start call now s events (Some reply) t h = t.refused
unless_reached start call now s events None t h =
    after_reached start call (polled start call.polls now) s events (t.passes refl) (polls_reached start call.polls now now.in_flight s events refl (t.room refl) h)

pub call_reached : (start : ChannelStart) (call : Call) (now : ChannelState) (s : ChannelLog) → Reached start s now now.in_flight
    → let a = answer_call start call now in Reached start (logged start.clock (of_call call) (Replied a.reply) s) a.now a.now.in_flight
call_reached start call now s h =
    unless_reached start call now s h.events (refusal_of start.head call now) (tested start (of_call call) now s h.events h.point) h.point

-- ---- a wish

-- a wish that can't be put is refused
put_reached : (start : ChannelStart) (w : WishCall) (now : ChannelState) (s : ChannelLog) (events : List Event) (o : Option SetRefusal) → wish_fault w.binding now.object.space w.wish ≡ o
    → now.in_flight ≡ None → Passes start (whole_call w now.object.space) (wish_asked w) → post_count events < MAX_ITEMS → Point start (drained start.clock s) now None events
    → let a = post_wish start w now o in Reached start (logged start.clock (of_wish w) a.reply s) a.now a.now.in_flight
put_reached start w now s events (Some why) fault none passes room h =
    let d : ChannelLog = drained start.clock s in
    let l : CallLine = line_of (of_wish w) (Refused why) 0 in
    let cause : IsUnfit start.opening events d.calls l why = record {
      moment = now_past start d now None events l h;
      quiet = ap (λ (a : After). a.flight) h.after;
      fault = ap (λ (a : After). wish_fault w.binding a.space w.wish) h.after ∙ fault;
    } in
    let P : Option InFlight → Type 0 = λ o. Reached start (record d { calls = d.calls ++ l ∷ [] }) now o in
    subst P (sym none) (record { events = events; point = line_point start (of_wish w) (Refused why) now None d events refl refl (passes, cause) h })
put_reached start w now s events None fault none passes room h =
    post_reached start (whole_call w now.object.space) (wish_asked w) now s events none passes (record { bytes = refl; fits = fault }) room h

wish_after_reached : (start : ChannelStart) (w : WishCall) (e : Polled) (s : ChannelLog) (events : List Event) → Passes start (whole_call w e.now.object.space) (wish_asked w) → AfterPolls start s events e
    → let a = wish_after start w e in Reached start (logged start.clock (of_wish w) a.reply s) a.now a.now.in_flight
wish_after_reached start w e s events passes p =
    let Good : LineAnswer → Type 0 = λ a. Reached start (logged start.clock (of_wish w) a.reply s) a.now a.now.in_flight in
    decide Good e.free _ _
    (λ free. let f = p.free free in put_reached start w e.now s f.0 (wish_fault w.binding e.now.object.space w.wish) refl f.1 passes f.2 f.3)
    (λ no. blocked_reached start (whole_call w e.now.object.space) (wish_asked w) e.now s events passes (p.blocked no))

wish_unless_reached : (start : ChannelStart) (w : WishCall) (now : ChannelState) (s : ChannelLog) (events : List Event) (o : Option Reply) → Tested start (of_wish w) now s events o
    → Point start s now now.in_flight events → let a = wish_unless start w now o in Reached start (logged start.clock (of_wish w) a.reply s) a.now a.now.in_flight
wish_unless_reached start w now s events (Some reply) t h = t.refused
wish_unless_reached start w now s events None t h =
    wish_after_reached start w (polled start w.polls now) s events (t.passes refl) (polls_reached start w.polls now now.in_flight s events refl (t.room refl) h)

pub wish_reached : (start : ChannelStart) (w : WishCall) (now : ChannelState) (s : ChannelLog) → Reached start s now now.in_flight
    → let a = answer_wish start w now in Reached start (logged start.clock (of_wish w) a.reply s) a.now a.now.in_flight
wish_reached start w now s h =
    wish_unless_reached start w now s h.events (wish_refusal start.head now) (tested start (of_wish w) now s h.events h.point) h.point
