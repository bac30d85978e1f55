-- What holds of the log and the channel at each point of a run in one thread, and that it stays when a command completes.
use Rattle.std.proofs.Common.{◌≡◌, ◌≤◌, ℕ, ◌+◌, ◌*◌, true, false, List, [], ◌∷◌, ◌++◌, length, refl, sym, ap, ◌∙◌, subst, arith}
use Rattle.std.specs.Prelude.{Option, Some, None}
use Rattle.std.specs.List.{AllByRecursion}
use Rattle.std.proofs.lemmas.List.{length-append, map-append}
use Rattle.pcc_causes.specs.Clock.{line_reading}
use Rattle.rate_limit.specs.declared.Times.{Times}
use Rattle.pcc_journal.specs.declared.reserved.TheConstants.{MAX_ITEMS}
use Rattle.pcc_journal.specs.declared.record.Record.{Record}
use Rattle.pcc_journal.specs.declared.note.Note.{Note}
use Rattle.pcc_journal.specs.Records.{times_of, times_of_record}
use Rattle.pcc_journal.specs.Events.{Event, Drained, Completed, Noted, NotedPending, completed_of, events_of, noted, noted_pending, post_count}
use Rattle.pcc_journal.proofs.EventsGrow.{drained as events_drained, noted_last, post_count-append}
use Rattle.pcc_history.specs.Channel.{Exchange}
use Rattle.channel_core.specs.Sendings.{recorded}
use Rattle.channel_turns.specs.ChannelRuns.{ChannelStart, ChannelState, InFlight, completed, count_in_flight, exchange_with, next_reading, pending_of, post_of}
use Rattle.channel_headline.specs.After.{After, IsRead, IsReading, Rise, after_event, after_events, before_all, numbers_in}
use Rattle.channel_headline.specs.Asked.{LineReply}
use Rattle.channel_headline.specs.Causes.{AllCaused, HasCause, Terms}
use Rattle.channel_headline.specs.ChannelLog.{ChannelLog, LineCall, line_of, reading_at, with_drained}
use Rattle.channel_headline.specs.Lines.{CallLine, HasReply, mine_of, posts_line, soon_lines, soon_numbers, was_too_soon}
use Rattle.channel_headline.specs.Matches.{AllMatch, own_calls, placed}
use Rattle.channel_headline.specs.Runs.{terms_of}
use Rattle.channel_headline.proofs.Growing.{after-append, all_last, all_read, cause-append, each_as, each_last, match_drained, match_quiet, reading_first, rise_events, rise_higher, soon_count, soon_other}

-- a command in flight has its note
abbrev pub AreBoth : Option InFlight → Option Note → Type 0
AreBoth None None = Unit {0}
AreBoth (Some p) (Some n) = Unit {0}
AreBoth _ _ = ⊥

pub both_none : (f : Option Note) → AreBoth None f → f ≡ None
both_none None h = refl
both_none (Some n) h = absurd h

pub both_some : (p : InFlight) (f : Option Note) → AreBoth (Some p) f → (n : Note) × (f ≡ Some n)
both_some p None h = absurd h
both_some p (Some n) h = (n, refl)

both_rest : (p q : InFlight) (f : Option Note) → AreBoth (Some p) f → AreBoth (Some q) f
both_rest p q None h = absurd h
both_rest p q (Some n) h = tt

-- the events of a log and a channel, and all that is said of them
pub record Point (start : ChannelStart) (s : ChannelLog) (now : ChannelState) (o : Option InFlight) (events : List Event) : Type 0 where
  pub are : events_of 0 (noted now.records s.notes) (noted_pending (pending_of o) s.flight) ≡ events
  pub notes : length s.notes ≡ length now.records
  pub taken : length s.readings ≡ now.taken
  pub added : s.added ≡ now.added
  pub pair : AreBoth o s.flight
  pub after : after_events start.opening events ≡ record { space = now.object.space; flight = post_of o; times = times_of now.records }
  pub posts : post_count events ≡ length now.records + count_in_flight o
  pub few : post_count events ≤ MAX_ITEMS
  pub read : AllByRecursion (IsRead s.readings) events
  pub rise : Rise 0 (numbers_in events) (length s.readings)
  pub ended : AllByRecursion (λ l. HasReply l.reply) s.calls
  pub own : (caller : ℕ) → AllMatch (mine_of caller s.calls) (own_calls caller (placed (before_all start.opening) events))
  pub soon : (caller : ℕ) → Rise 0 (soon_numbers caller s.calls) (length s.readings)
  pub causes : AllCaused (terms_of start) s.readings events s.calls
  pub count : length s.readings ≡ 2 * length now.records + count_in_flight o + length (soon_lines s.calls)

-- a note counts from the start of its end, before which no reading was given
pub from_zero : (k : ℕ) → k ≡ 0 + k
from_zero k = omega arith

-- the log's next reading is the clock's
pub next_is : (start : ChannelStart) (s : ChannelLog) (now : ChannelState) → s.added ≡ now.added → length s.readings ≡ now.taken → reading_at start.clock s (length s.readings) ≡ next_reading start now
next_is start s now added taken =
    ap (λ (a : ℕ). line_reading start.clock.start start.clock.step a (length s.readings)) added ∙ ap (λ (k : ℕ). line_reading start.clock.start start.clock.step now.added k) taken

-- more readings and events leave the causes
pub causes_more : (t : Terms) (rs qs : List ℕ) (es fs : List Event) (ls : List CallLine) → AllCaused t rs es ls → AllCaused t (rs ++ qs) (es ++ fs) ls
causes_more t rs qs es fs ls h =
    each_as (λ (b : List CallLine) (l : CallLine). HasCause t rs es b l l.reply) (λ (b : List CallLine) (l : CallLine). HasCause t (rs ++ qs) (es ++ fs) b l l.reply)
    (λ (b : List CallLine) (l : CallLine) x. cause-append t rs qs es fs b l l.reply x) [] ls h

pub causes_last : (t : Terms) (rs : List ℕ) (es : List Event) (ls : List CallLine) (l : CallLine) → AllCaused t rs es ls → HasCause t rs es ls l l.reply → AllCaused t rs es (ls ++ l ∷ [])
causes_last t rs es ls l h k = each_last (λ (b : List CallLine) (x : CallLine). HasCause t rs es b x x.reply) [] ls l h k

pub ends_last : (ls : List CallLine) (l : CallLine) → AllByRecursion (λ x. HasReply x.reply) ls → HasReply l.reply → AllByRecursion (λ x. HasReply x.reply) (ls ++ l ∷ [])
ends_last [] l h k = (k, tt)
ends_last (x ∷ ls) l h k = (h.0, ends_last ls l h.1 k)

-- ---- a command in flight completes

pub drained_at : (start : ChannelStart) (s : ChannelLog) (now : ChannelState) (p : InFlight) (n : Note) (events : List Event) → s.flight ≡ Some n → Point start s now (Some p) events
    → (c : Completed) × Point start (with_drained start.clock s (Some n)) (completed start p.command true now) None (events ++ Drained c ∷ [])
drained_at start s now p n events flight h =
    let k : ℕ = length s.readings in
    let v : ℕ = reading_at start.clock s k in
    let t : Terms = terms_of start in
    let x : Exchange = exchange_with start p.command now in
    let r : Record = recorded p.command x.error x.output (next_reading start now) true in
    let note : Note = record n { done_at = k } in
    let en : Noted = record { entry = r; note = note } in
    let pn : NotedPending = record { command = p.command; note = n } in
    let c : Completed = completed_of 0 r note in
    let ns : List Noted = noted now.records s.notes in
    let rs : List ℕ = s.readings ++ v ∷ [] in
    let F : Option Note → Type 0 = λ f. events_of 0 ns (noted_pending (Some p.command) f) ≡ events in
    let before : events_of 0 ns (Some pn) ≡ events = subst F flight h.are in
    let is : v ≡ next_reading start now = next_is start s now h.added h.taken in
    let R : ℕ → Type 0 = IsReading rs (0 + k) in
    let S : ℕ → Type 0 = λ j. IsReading rs j v in
    let long : length rs ≡ k + 1 = length-append s.readings (v ∷ []) in
    let le : k ≤ length rs = omega (arith, long) in
    let more : length (now.records ++ r ∷ []) ≡ length now.records + 1 = length-append now.records (r ∷ []) in
    let counted : post_count (events ++ Drained c ∷ []) ≡ post_count events + 0 = post_count-append events (Drained c ∷ []) in
    let old_posts : post_count events ≡ length now.records + 1 = h.posts in
    let old_few : post_count events ≤ MAX_ITEMS = h.few in
    let old_count : length s.readings ≡ 2 * length now.records + 1 + length (soon_lines s.calls) = h.count in
    let A : List Times → After = λ ts. record { space = c.output; flight = None; times = ts } in (
      c,
      record {
        are = ap (λ (x : List Noted). events_of 0 x None) (noted_last now.records s.notes r note h.notes) ∙ events_drained 0 ns pn en refl refl refl ∙ ap (λ (x : List Event). x ++ Drained c ∷ []) before;
        notes = length-append s.notes (note ∷ []) ∙ ap (λ (m : ℕ). m + 1) h.notes ∙ sym more;
        taken = long ∙ ap (λ (m : ℕ). m + 1) h.taken;
        added = h.added;
        pair = tt;
        after = after-append (before_all start.opening) events (Drained c ∷ []) ∙ ap (λ (a : After). after_event a (Drained c)) h.after ∙ ap A (sym (map-append times_of_record now.records (r ∷ [])));
        posts = omega (arith, counted, old_posts, more);
        few = omega (arith, counted, old_few);
        read = all_last rs events (Drained c) (all_read s.readings (v ∷ []) events h.read) (subst R is (subst S (from_zero k) (reading_first s.readings v [])));
        rise = rise_events 0 events (Drained c) k (length rs) h.rise (omega arith, omega (arith, long));
        ended = h.ended;
        own = λ caller. match_drained caller (before_all start.opening) (mine_of caller s.calls) events c (h.own caller);
        soon = λ caller. rise_higher 0 (soon_numbers caller s.calls) k (length rs) (h.soon caller) le;
        causes = causes_more t s.readings (v ∷ []) events (Drained c ∷ []) s.calls h.causes;
        count = omega (arith, long, old_count, more);
      },
    )

-- ---- nothing was posted and no reading was taken

pub line_point : (start : ChannelStart) (call : LineCall) (reply : LineReply) (now : ChannelState) (o : Option InFlight) (s : ChannelLog) (events : List Event)
    → posts_line reply ≡ false → was_too_soon (Some reply) ≡ false → HasCause (terms_of start) s.readings events s.calls (line_of call reply 0) (Some reply) → Point start s now o events
    → Point start (record s { calls = s.calls ++ line_of call reply 0 ∷ [] }) now o events
line_point start call reply now o s events unposted unsoon cause h =
    let l : CallLine = line_of call reply 0 in
    let one : length (soon_lines (l ∷ [])) ≡ 0 = none_soon reply l unsoon in
    let same : length (soon_lines (s.calls ++ l ∷ [])) ≡ length (soon_lines s.calls) = soon_count s.calls l ∙ ap (λ (m : ℕ). length (soon_lines s.calls) + m) one ∙ omega arith in
    record {
      are = h.are;
      notes = h.notes;
      taken = h.taken;
      added = h.added;
      pair = h.pair;
      after = h.after;
      posts = h.posts;
      few = h.few;
      read = h.read;
      rise = h.rise;
      ended = ends_last s.calls l h.ended tt;
      own = λ caller. match_quiet caller s.calls l (own_calls caller (placed (before_all start.opening) events)) unposted (h.own caller);
      soon = λ caller. soon_other caller s.calls l (length s.readings) (length s.readings) unsoon (omega arith) (h.soon caller);
      causes = causes_last (terms_of start) s.readings events s.calls l h.causes cause;
      count = h.count ∙ ap (λ (m : ℕ). 2 * length now.records + count_in_flight o + m) (sym same);
    }
  where
    none_soon : (r : LineReply) (l : CallLine) → was_too_soon (Some r) ≡ false → length (soon_lines (record l { reply = Some r } ∷ [])) ≡ 0
    none_soon r l e = rw e refl

-- less is left of the hold of a command in flight
pub rest_point : (start : ChannelStart) (now : ChannelState) (p : InFlight) (left : ℕ) (s : ChannelLog) (events : List Event) → Point start s now (Some p) events
    → let q : InFlight = record p { left = left } in Point start s (record now { in_flight = Some q }) (Some q) events
rest_point start now p left s events h =
    let q : InFlight = record p { left = left } in
    record { are = h.are; notes = h.notes; taken = h.taken; added = h.added; pair = both_rest p q s.flight h.pair; after = h.after; posts = h.posts; few = h.few; read = h.read; rise = h.rise; ended = h.ended; own = h.own; soon = h.soon; causes = h.causes; count = h.count }

-- the clock is moved up
pub wait_point : (start : ChannelStart) (now : ChannelState) (o : Option InFlight) (n : ℕ) (s : ChannelLog) (events : List Event) → Point start s now o events
    → Point start (record s { added = s.added + n }) (record now { added = now.added + n }) o events
wait_point start now o n s events h =
    record { are = h.are; notes = h.notes; taken = h.taken; added = ap (λ (a : ℕ). a + n) h.added; pair = h.pair; after = h.after; posts = h.posts; few = h.few; read = h.read; rise = h.rise; ended = h.ended; own = h.own; soon = h.soon; causes = h.causes; count = h.count }
