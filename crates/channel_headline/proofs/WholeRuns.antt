-- The headline of a channel that is called in one thread.
use Rattle.std.proofs.Common.{◌≡◌, ◌≤◌, ℕ, ◌+◌, ◌*◌, Bool, true, false, cond, List, [], ◌∷◌, ◌++◌, length, map, refl, sym, ap, ◌∙◌, subst, arith}
use Rattle.std.specs.Prelude.{Option, Some, None}
use Rattle.std.specs.List.{AllByRecursion, filter}
use Rattle.std.proofs.lemmas.List.{length-map, map-append}
use Rattle.std.proofs.lemmas.List.Elements.{filter-append}
use Rattle.pcc_history.specs.Histories.{Legal, WholeHistory}
use Rattle.rate_limit.specs.RateLimits.{WithinLimits}
use Rattle.pcc_journal.specs.declared.reserved.TheConstants.{MAX_ITEMS}
use Rattle.pcc_journal.specs.declared.record.Record.{Record}
use Rattle.pcc_journal.specs.declared.note.Note.{Note}
use Rattle.pcc_journal.specs.Records.{exchanges_of, times_of}
use Rattle.pcc_journal.specs.Events.{Event, Noted, noted, noted_pending, post_count, records_of}
use Rattle.pcc_journal.proofs.EventsGrow.{noted_records}
use Rattle.channel_turns.specs.Replies.{Done, BadCode, TooLong, JournalFull, StillPending, TooSoon, TimedOut}
use Rattle.channel_turns.specs.ChannelRuns.{Answered, ChannelStart, ChannelState, InFlight, answer_call, count_in_flight, fresh, pending_of, post_of}
use Rattle.channel_headline.specs.After.{IsRead, Rise, numbers_in}
use Rattle.channel_headline.specs.Asked.{Asked, LineReply, Refused, Replied}
use Rattle.channel_headline.specs.Causes.{AllCaused, Terms}
use Rattle.channel_headline.specs.ChannelLog.{ChannelLog, LineCall, drained, empty_log, line_of, log_from, log_of, logged, of_call, of_wish, with_drained}
use Rattle.channel_headline.specs.Headline.{Headline, NotedJournal, journal_events, pending_count, pending_post}
use Rattle.channel_headline.specs.Lines.{AreEnded, CallLine, HasReply, asked_along, asked_by, soon_lines, was_posted}
use Rattle.channel_headline.specs.Matches.{Tied}
use Rattle.channel_headline.specs.Runs.{Calls, ChannelRun, ChannelStep, HeadlineOf, Sets, Waits, journal_of, run_from, terms_of}
use Rattle.channel_headline.specs.WishCalls.{LineAnswer, answer_wish}
use Rattle.channel_headline.proofs.Histories.{Kept, added_by, asked_whole, call_keeps, nothing_kept, wait_keeps, wish_keeps}
use Rattle.channel_headline.proofs.Points.{Point, wait_point}
use Rattle.channel_headline.proofs.Posts.{Reached, call_reached, wish_reached}

-- ---- what the lines ask

one_asked : (b : Bool) (l : CallLine) → map (λ (x : CallLine). x.asked) (cond b (l ∷ []) []) ≡ cond b (l.asked ∷ []) []
one_asked true l = refl
one_asked false l = refl

pub asked_more : (lines : List CallLine) (l : CallLine) → asked_by (lines ++ l ∷ []) ≡ asked_by lines ++ cond (was_posted l.reply) (l.asked ∷ []) []
asked_more lines l =
    let posted : CallLine → Bool = λ x. was_posted x.reply in
    ap (λ (v : List CallLine). map (λ (x : CallLine). x.asked) v) (filter-append posted lines (l ∷ []))
    ∙ map-append (λ (x : CallLine). x.asked) (filter posted lines) (filter posted (l ∷ []))
    ∙ ap (λ (v : List Asked). asked_by lines ++ v) (one_asked (was_posted l.reply) l)

-- a completion leaves the lines
drained_calls : (start : ChannelStart) (s : ChannelLog) (f : Option Note) → (with_drained start.clock s f).calls ≡ s.calls
drained_calls start s None = refl
drained_calls start s (Some n) = refl

-- after a completion too, a reply adds what its line asks, if that was posted
asked_drained : (start : ChannelStart) (c : LineCall) (reply : LineReply) (number : ℕ) (s : ChannelLog)
    → asked_by ((drained start.clock s).calls ++ line_of c reply number ∷ []) ≡ asked_by s.calls ++ added_by reply c.asked
asked_drained start c reply number s =
    asked_more (drained start.clock s).calls (line_of c reply number) ∙ ap (λ (v : List CallLine). asked_by v ++ added_by reply c.asked) (drained_calls start s s.flight)

asked_logged : (start : ChannelStart) (c : LineCall) (reply : LineReply) (s : ChannelLog) → asked_by (logged start.clock c reply s).calls ≡ asked_by s.calls ++ added_by reply c.asked
asked_logged start c (Replied (Done error output)) s = asked_drained start c (Replied (Done error output)) 0 s
asked_logged start c (Replied (BadCode code)) s = asked_more s.calls (line_of c (Replied (BadCode code)) 0)
asked_logged start c (Replied (TooLong len room)) s = asked_more s.calls (line_of c (Replied (TooLong len room)) 0)
asked_logged start c (Replied JournalFull) s = asked_more s.calls (line_of c (Replied JournalFull) 0)
asked_logged start c (Replied (StillPending looks)) s = asked_more s.calls (line_of c (Replied (StillPending looks)) 0)
asked_logged start c (Replied (TooSoon now earliest)) s = asked_drained start c (Replied (TooSoon now earliest)) (length (drained start.clock s).readings) s
asked_logged start c (Replied (TimedOut looks)) s = asked_drained start c (Replied (TimedOut looks)) 0 s
asked_logged start c (Refused why) s = asked_drained start c (Refused why) 0 s

-- ---- over all steps

kept_run : (start : ChannelStart) (steps : List ChannelStep) (now : ChannelState) (s : ChannelLog) → Kept start now (asked_by s.calls)
    → let r = run_from start now steps in Kept start r.now (asked_by (log_from start.clock s r.lines).calls)
kept_run start [] now s h = h
kept_run start (Waits n ∷ steps) now s h =
    kept_run start steps (record now { added = now.added + n }) (record s { added = s.added + n }) (wait_keeps start now (asked_by s.calls) n h)
kept_run start (Calls c ∷ steps) now s h =
    let a : Answered = answer_call start c now in
    let Q : List Asked → Type 0 = Kept start a.now in
    kept_run start steps a.now (logged start.clock (of_call c) (Replied a.reply) s) (subst Q (sym (asked_logged start (of_call c) (Replied a.reply) s)) (call_keeps start c now (asked_by s.calls) h))
kept_run start (Sets w ∷ steps) now s h =
    let a : LineAnswer = answer_wish start w now in
    let Q : List Asked → Type 0 = Kept start a.now in
    kept_run start steps a.now (logged start.clock (of_wish w) a.reply s) (subst Q (sym (asked_logged start (of_wish w) a.reply s)) (wish_keeps start w now (asked_by s.calls) h))

reached_run : (start : ChannelStart) (steps : List ChannelStep) (now : ChannelState) (s : ChannelLog) → Reached start s now now.in_flight
    → let r = run_from start now steps in Reached start (log_from start.clock s r.lines) r.now r.now.in_flight
reached_run start [] now s h = h
reached_run start (Waits n ∷ steps) now s h =
    reached_run start steps (record now { added = now.added + n }) (record s { added = s.added + n }) (record { events = h.events; point = wait_point start now now.in_flight n s h.events h.point })
reached_run start (Calls c ∷ steps) now s h =
    let a : Answered = answer_call start c now in reached_run start steps a.now (logged start.clock (of_call c) (Replied a.reply) s) (call_reached start c now s h)
reached_run start (Sets w ∷ steps) now s h =
    let a : LineAnswer = answer_wish start w now in reached_run start steps a.now (logged start.clock (of_wish w) a.reply s) (wish_reached start w now s h)

nothing_reached : (start : ChannelStart) → Reached start empty_log (fresh start) None
nothing_reached start = record {
  events = [];
  point = record { are = refl; notes = refl; taken = refl; added = refl; pair = tt; after = refl; posts = refl; few = omega arith; read = tt; rise = omega arith; ended = tt; own = λ caller. tt; soon = λ caller. omega arith; causes = tt; count = refl };
}

-- ---- from what holds to the headline

kept_post : (o : Option InFlight) (f : Option Note) → pending_post (noted_pending (pending_of o) f) ≡ post_of o
kept_post None f = refl
kept_post (Some p) None = refl
kept_post (Some p) (Some n) = refl

kept_count : (o : Option InFlight) (f : Option Note) → pending_count (noted_pending (pending_of o) f) ≡ count_in_flight o
kept_count None f = refl
kept_count (Some p) None = refl
kept_count (Some p) (Some n) = refl

pub kept_length : (rs : List Record) (ns : List Note) → length (noted rs ns) ≡ length rs
kept_length rs ns = sym (length-map (noted rs ns) (λ (n : Noted). n.entry)) ∙ ap (λ (v : List Record). length v) (noted_records rs ns)

pub all_ended : (ls : List CallLine) → AllByRecursion (λ l. HasReply l.reply) ls → AreEnded ls
all_ended [] h = tt
all_ended (l ∷ []) h = tt
all_ended (l ∷ m ∷ ls) h = (h.0, all_ended (m ∷ ls) h.1)

headline_is : (start : ChannelStart) (now : ChannelState) (s : ChannelLog) → Kept start now (asked_by s.calls) → Reached start s now now.in_flight
    → Headline (terms_of start) s.readings (asked_along start.opening (exchanges_of now.records) (asked_by s.calls)) s.calls (journal_of s now)
headline_is start now s k h =
    let t : Terms = terms_of start in
    let j : NotedJournal = journal_of s now in
    let p : Point start s now now.in_flight h.events = h.point in
    let records : records_of (noted now.records s.notes) ≡ now.records = noted_records now.records s.notes in
    let asked : List (List ℕ) = asked_along start.opening (exchanges_of now.records) (asked_by s.calls) in
    let W : List Asked → Type 0 = λ v. WholeHistory start.opening (exchanges_of now.records) (asked_along start.opening (exchanges_of now.records) v) in
    let whole : WholeHistory start.opening (exchanges_of now.records) asked = subst W (sym k.parts) (asked_whole start.opening (exchanges_of now.records) k.answered k.waiting k.recorded.whole) in
    let L : List Record → Type 0 = λ v. Legal start.device start.head.reports start.state (exchanges_of v) in
    let V : List Record → Type 0 = λ v. WholeHistory start.opening (exchanges_of v) asked in
    let R : List Record → Type 0 = λ v. WithinLimits start.head.limits (times_of v) (pending_post (noted_pending (pending_of now.in_flight) s.flight)) in
    let O : Option ℕ → Type 0 = WithinLimits start.head.limits (times_of now.records) in
    let are : journal_events t j ≡ h.events = p.are in
    let count : length s.readings ≡ 2 * length now.records + count_in_flight now.in_flight + length (soon_lines s.calls) = p.count in
    let entries : length j.entries ≡ length now.records = kept_length now.records s.notes in
    let flight : pending_count j.pending ≡ count_in_flight now.in_flight = kept_count now.in_flight s.flight in
    let Most : List Event → Type 0 = λ v. post_count v ≤ MAX_ITEMS in
    let Causes : List Event → Type 0 = λ v. AllCaused t s.readings v s.calls in
    let Read : List Event → Type 0 = AllByRecursion (IsRead s.readings) in
    let Rises : List Event → Type 0 = λ v. Rise 0 (numbers_in v) (length s.readings) in
    let Ties : List Event → Type 0 = Tied start.opening s.calls in
    record {
      legal = subst L (sym records) k.recorded.legal;
      whole = subst V (sym records) whole;
      within = subst R (sym records) (subst O (sym (kept_post now.in_flight s.flight)) k.limits);
      most = subst Most (sym are) p.few;
      ended = all_ended s.calls p.ended;
      tied = subst Ties (sym are) (record { own = p.own });
      causes = subst Causes (sym are) p.causes;
      read = subst Read (sym are) p.read;
      rise = subst Rises (sym are) p.rise;
      soon_rise = p.soon;
      count = omega (arith, count, entries, flight);
    }

pub headline_of_runs : (start : ChannelStart) (steps : List ChannelStep) → let r = run_from start (fresh start) steps in HeadlineOf start r.lines r.now
headline_of_runs start steps =
    let r : ChannelRun = run_from start (fresh start) steps in
    headline_is start r.now (log_of start.clock r.lines) (kept_run start steps (fresh start) empty_log (nothing_kept start)) (reached_run start steps (fresh start) empty_log (nothing_reached start))
