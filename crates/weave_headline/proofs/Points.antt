-- What holds of the lines and the journal between two events of a trace, and that it stays with each event and each line.
use Rattle.std.proofs.Common.{◌≡◌, ◌≤◌, ◌<◌, ℕ, ◌+◌, ◌*◌, Bool, true, false, cond, List, [], ◌∷◌, ◌++◌, length, refl, sym, ap, ◌∙◌, subst, arith}
use Rattle.std.specs.Prelude.{◌==◌, ◌&&◌, Option, Some, None}
use Rattle.std.specs.List.{AllByRecursion}
use Rattle.std.proofs.lemmas.List.{append-nil, length-append, map-append}
use Rattle.pcc_history.specs.Devices.{Device}
use Rattle.pcc_history.specs.Channel.{Exchange, over}
use Rattle.pcc_history.specs.Histories.{Legal, WholeHistory, space_after}
use Rattle.rate_limit.specs.declared.Limits.{Limits}
use Rattle.rate_limit.specs.declared.Times.{Times}
use Rattle.rate_limit.specs.RateLimits.{WithinLimits, earliest_of}
use Rattle.rate_limit.proofs.Law.{exact as post_exact, completed as completion_keeps}
use Rattle.pcc_journal.specs.declared.reserved.TheConstants.{MAX_ITEMS}
use Rattle.pcc_journal.specs.declared.record.Record.{Record}
use Rattle.pcc_journal.specs.declared.record.Pending.{Pending}
use Rattle.pcc_journal.specs.declared.note.Note.{Note}
use Rattle.pcc_journal.specs.Records.{exchange_of_record, exchanges_of, times_of, times_of_record}
use Rattle.pcc_journal.specs.Events.{Event, Answered, Drained, Lost, Completed, Noted, NotedPending, Posted, completed_of, events_of, noted, post_count, posted_of, posted_of_pending, records_of}
use Rattle.pcc_journal.proofs.EventsGrow.{drained as events_drained, last as events_last, noted_last, noted_records, posted as events_posted, post_count-append}
use Rattle.pcc_steps.specs.declared.wiring.Wiring.{Wiring}
use Rattle.channel_turns.specs.Replies.{Done, TooSoon}
use Rattle.channel_headline.specs.After.{After, IsRead, IsReading, Rise, after_event, after_events, before_all, numbers_in}
use Rattle.channel_headline.specs.Asked.{Asked, LineReply, Replied, asked_bytes, asked_fault}
use Rattle.channel_headline.specs.Causes.{AllCaused, HasCause, IsTooSoon, Past, Terms, own_refusal}
use Rattle.channel_headline.specs.Headline.{Headline, pending_count, pending_post}
use Rattle.channel_headline.specs.Lines.{AreEnded, CallLine, asked_along, asked_by, mine_of, soon_lines, soon_numbers, was_posted, was_too_soon}
use Rattle.channel_headline.specs.Matches.{AllMatch, Matches, Placed, Tied, own_calls, placed}
use Rattle.channel_headline.proofs.Histories.{IsAsked, IsAsked-more, asked_whole, space_after-more}
use Rattle.channel_headline.proofs.WholeRuns.{asked_more, kept_length}
use Rattle.channel_headline.proofs.Growing.{after-append, all_last, all_read, match_drained, match_more, match_quiet, one_match, reading_first, reading_second, rise_events, rise_higher, soon_count, soon_more, soon_other}
use Rattle.channel_headline.proofs.Owned.{own_length}
use Rattle.channel_headline.proofs.Points.{causes_last, causes_more, from_zero}
use Rattle.weave_headline.specs.WordHeadline.{terms_of}

-- ---- lists that grow

asked_posted : (lines : List CallLine) (l : CallLine) → was_posted l.reply ≡ true → asked_by (lines ++ l ∷ []) ≡ asked_by lines ++ l.asked ∷ []
asked_posted lines l e = asked_more lines l ∙ ap (λ (b : Bool). asked_by lines ++ cond b (l.asked ∷ []) []) e

asked_other : (lines : List CallLine) (l : CallLine) → was_posted l.reply ≡ false → asked_by (lines ++ l ∷ []) ≡ asked_by lines
asked_other lines l e = asked_more lines l ∙ ap (λ (b : Bool). asked_by lines ++ cond b (l.asked ∷ []) []) e ∙ append-nil (asked_by lines)

none_soon : (l : CallLine) → was_too_soon l.reply ≡ false → length (soon_lines (l ∷ [])) ≡ 0
none_soon l e = ap (λ (b : Bool). length (cond b (l ∷ []) [])) e

soons_same : (lines : List CallLine) (l : CallLine) → was_too_soon l.reply ≡ false → length (soon_lines (lines ++ l ∷ [])) ≡ length (soon_lines lines)
soons_same lines l e = soon_count lines l ∙ ap (λ (m : ℕ). length (soon_lines lines) + m) (none_soon l e) ∙ plus_none (length (soon_lines lines))
  where
    plus_none : (n : ℕ) → n + 0 ≡ n
    plus_none n = omega arith

-- ---- what was asked

-- what the command in flight was asked
abbrev pub IsWaiting : List ℕ → Option NotedPending → List Asked → Type 0
IsWaiting space None waiting = waiting ≡ []
IsWaiting space (Some p) waiting = (a : Asked) × (waiting ≡ a ∷ []) × (p.command.input ≡ over space (asked_bytes a space))

-- what was asked so far is recorded, but for the command in flight
pub record Asks (opening space : List ℕ) (records : List Record) (pending : Option NotedPending) (lines : List CallLine) : Type 0 where
  pub answered : List Asked
  pub waiting : List Asked
  pub parts : asked_by lines ≡ answered ++ waiting
  pub whole : IsAsked opening (exchanges_of records) answered
  pub last : space_after opening (exchanges_of records) ≡ space
  pub waits : IsWaiting space pending waiting

asks_recorded : (opening space : List ℕ) (records : List Record) (lines lines' : List CallLine) (answered : List Asked) (a : Asked) (r : Record)
    → IsAsked opening (exchanges_of records) answered
    → space_after opening (exchanges_of records) ≡ space → r.input ≡ over space (asked_bytes a space) → asked_by lines' ≡ answered ++ a ∷ []
    → Asks opening r.output (records ++ r ∷ []) None lines'
asks_recorded opening space records lines lines' answered a r whole last input parts =
    let more : exchanges_of (records ++ r ∷ []) ≡ exchanges_of records ++ exchange_of_record r ∷ [] = map-append exchange_of_record records (r ∷ []) in
    let V : List Exchange → Type 0 = λ v. IsAsked opening v (answered ++ a ∷ []) in
    record {
      answered = answered ++ a ∷ [];
      waiting = [];
      parts = parts ∙ sym (append-nil (answered ++ a ∷ []));
      whole = subst V (sym more) (IsAsked-more opening (exchanges_of records) answered (exchange_of_record r) a whole (input ∙ ap (λ (s : List ℕ). over s (asked_bytes a s)) (sym last)));
      last = ap (space_after opening) more ∙ space_after-more opening (exchanges_of records) (exchange_of_record r);
      waits = refl;
    }

times_more : (records : List Record) (r : Record) → times_of (records ++ r ∷ []) ≡ times_of records ++ times_of_record r ∷ []
times_more records r = map-append times_of_record records (r ∷ [])

within_more : (l : Limits) (records : List Record) (r : Record) → WithinLimits l (times_of records) (Some r.post)
    → WithinLimits l (times_of (records ++ r ∷ [])) None
within_more l records r w =
    let P : List Times → Type 0 = λ v. WithinLimits l v None in
    subst P (sym (times_more records r)) (completion_keeps l (times_of records) (times_of_record r) w)

-- the command of a line that is posted at a reading
abbrev pub command_of : CallLine → List ℕ → ℕ → Pending
command_of l space r = record { caller = l.caller; code = l.code; input = over space (asked_bytes l.asked space); post = r }

abbrev pub note_of : ℕ → ℕ → ℕ → Note
note_of post done looks = record { post_at = post; done_at = done; looks = looks }

abbrev pub lost_note : Pending → ℕ → ℕ → NotedPending
lost_note p post looks = record { command = p; note = note_of post 0 looks }

abbrev pub record_for : Pending → Bool → List ℕ → ℕ → Bool → Record
record_for p error output done late = record { caller = p.caller; code = p.code; input = p.input; error = error; output = output; post = p.post; done = done; late = late }

module _ (exec : Device) (w : Wiring) (limits : Limits) (start opening : List ℕ) where
  abbrev pub T : Terms
  T = terms_of exec w limits start opening

  -- the events of the lines and the journal, and all that is said of them
  pub record Point (space readings : List ℕ) (records : List Record) (notes : List Note) (pending : Option NotedPending) (lines : List CallLine) : Type 0 where
    pub events : List Event
    pub are : events_of 0 (noted records notes) pending ≡ events
    pub long : length notes ≡ length records
    pub after : after_events opening events ≡ record { space = space; flight = pending_post pending; times = times_of records }
    pub posts : post_count events ≡ length records + pending_count pending
    pub few : post_count events ≤ MAX_ITEMS
    pub read : AllByRecursion (IsRead readings) events
    pub rise : Rise 0 (numbers_in events) (length readings)
    pub own : (caller : ℕ) → AllMatch (mine_of caller lines) (own_calls caller (placed (before_all opening) events))
    pub soon : (caller : ℕ) → Rise 0 (soon_numbers caller lines) (length readings)
    pub causes : AllCaused T readings events lines
    pub count : length readings ≡ 2 * length records + pending_count pending + length (soon_lines lines)
    pub within : WithinLimits limits (times_of records) (pending_post pending)
    pub asks : Asks opening space records pending lines

  abbrev Passes : CallLine → Type 0
  Passes l = own_refusal T l ≡ None

  -- ---- a command is lost, or is in flight

  -- a line that was posted, as far as its event is
  pub record IsLost (l : CallLine) (looks : ℕ) : Type 0 where
    pub posted : was_posted l.reply ≡ true
    pub unsoon : was_too_soon l.reply ≡ false
    pub matches : (before : List ℕ) (post number : ℕ) → let p : Posted = record { caller = l.caller; code = l.code; input = over before (asked_bytes l.asked before); post = post; post_number = number } in
        AllMatch (l ∷ []) (record { event = Lost p looks; before = before } ∷ [])
    pub cause : (rs : List ℕ) (es : List Event) (ls : List CallLine) → Passes l → HasCause T rs es ls l l.reply

  pub lost : (space rs : List ℕ) (records : List Record) (notes : List Note) (lines : List CallLine) (l : CallLine) (looks r : ℕ) → IsLost l looks → Passes l
      → length records < MAX_ITEMS
      → earliest_of limits (times_of records) ≤ r → Point space rs records notes None lines
      → Point space (rs ++ r ∷ []) records notes (Some (lost_note (command_of l space r) (length rs) looks)) (lines ++ l ∷ [])
  lost space rs records notes lines l looks r is passes room le h =
      let command : Pending = command_of l space r in
      let k : ℕ = length rs in
      let pn : NotedPending = lost_note command k looks in
      let ns : List Noted = noted records notes in
      let es : List Event = h.events in
      let e : Event = Lost (posted_of_pending 0 pn) looks in
      let qs : List ℕ = rs ++ r ∷ [] in
      let S : ℕ → Type 0 = λ j. IsReading qs j r in
      let long : length qs ≡ k + 1 = length-append rs (r ∷ []) in
      let low : k ≤ length qs = omega (arith, long) in
      let counted : post_count (es ++ e ∷ []) ≡ post_count es + 1 = post_count-append es (e ∷ []) in
      let old_posts : post_count es ≡ length records + 0 = h.posts in
      let old_count : length rs ≡ 2 * length records + 0 + length (soon_lines lines) = h.count in
      let soons : length (soon_lines (lines ++ l ∷ [])) ≡ length (soon_lines lines) = soons_same lines l is.unsoon in
      let before : After = after_events opening es in
      let M : List ℕ → Type 0 = λ b. AllMatch (l ∷ []) (record { event = Lost (posted_of_pending 0 pn) looks; before = b } ∷ []) in
      let matched : AllMatch (l ∷ []) (record { event = Lost (posted_of_pending 0 pn) looks; before = before.space } ∷ []) = subst M (sym (ap (λ (a : After). a.space) h.after)) (is.matches space r (0 + k)) in
      let asks = h.asks in
      let none : asks.waiting ≡ [] = asks.waits in
      record {
        events = es ++ e ∷ [];
        are = events_posted 0 ns (Some pn) ∙ ap (λ (n : List Event). n ++ e ∷ []) h.are;
        long = h.long;
        after = after-append (before_all opening) es (e ∷ []) ∙ ap (λ (a : After). after_event a e) h.after;
        posts = omega (arith, counted, old_posts);
        few = omega (arith, counted, old_posts, room);
        read = all_last qs es e (all_read rs (r ∷ []) es h.read) (subst S (from_zero k) (reading_first rs r []));
        rise = rise_events 0 es e k (length qs) h.rise (omega arith, omega (arith, long));
        own = λ caller. match_more caller (before_all opening) lines es l e (h.own caller) (mine (l.caller == caller) (was_posted l.reply) l (record { event = e; before = before.space }) is.posted matched);
        soon = λ caller. soon_other caller lines l k (length qs) is.unsoon low (h.soon caller);
        causes = causes_last T qs (es ++ e ∷ []) lines l (causes_more T rs (r ∷ []) es (e ∷ []) lines h.causes) (is.cause qs (es ++ e ∷ []) lines passes);
        count = omega (arith, long, old_count, soons);
        within = (post_exact limits (times_of records) r h.within).1 le;
        asks = record {
          answered = asks.answered;
          waiting = l.asked ∷ [];
          parts = asked_posted lines l is.posted ∙ ap (λ (v : List Asked). v ++ l.asked ∷ []) (asks.parts ∙ ap (λ (v : List Asked). asks.answered ++ v) none ∙ append-nil asks.answered);
          whole = asks.whole;
          last = asks.last;
          waits = (l.asked, refl, refl);
        };
      }
    where
      mine : (b c : Bool) (l : CallLine) (p : Placed) → c ≡ true → AllMatch (l ∷ []) (p ∷ []) → AllMatch (cond (c && b) (l ∷ []) []) (cond b (p ∷ []) [])
      mine true true l p e m = m
      mine false true l p e m = tt
      mine b false l p e m = absurd (cc e)

  -- ---- a command is answered

  pub answered : (space rs : List ℕ) (records : List Record) (notes : List Note) (lines : List CallLine) (l : CallLine) (error : Bool) (output : List ℕ) (r d : ℕ)
      → l.reply ≡ Some (Replied (Done error output)) → ((before : List ℕ) → asked_fault l.asked before ≡ None) → Passes l
      → length records < MAX_ITEMS → earliest_of limits (times_of records) ≤ r → Point space rs records notes None lines
      → Point output (rs ++ r ∷ d ∷ []) (records ++ record_for (command_of l space r) error output d false ∷ []) (notes ++ note_of (length rs) (length rs + 1) 0 ∷ []) None (lines ++ l ∷ [])
  answered space rs records notes lines l error output r d is fits passes room le h =
      let command : Pending = command_of l space r in
      let k : ℕ = length rs in
      let x : Record = record_for command error output d false in
      let note : Note = note_of k (k + 1) 0 in
      let en : Noted = record { entry = x; note = note } in
      let ns : List Noted = noted records notes in
      let es : List Event = h.events in
      let e : Event = Answered (posted_of 0 x note) (completed_of 0 x note) in
      let qs : List ℕ = rs ++ r ∷ d ∷ [] in
      let S : ℕ → Type 0 = λ j. IsReading qs j r in
      let U : ℕ → Type 0 = λ j. IsReading qs j d in
      let long : length qs ≡ k + 2 = length-append rs (r ∷ d ∷ []) in
      let low : k ≤ length qs = omega (arith, long) in
      let more : length (records ++ x ∷ []) ≡ length records + 1 = length-append records (x ∷ []) in
      let counted : post_count (es ++ e ∷ []) ≡ post_count es + 1 = post_count-append es (e ∷ []) in
      let old_posts : post_count es ≡ length records + 0 = h.posts in
      let old_count : length rs ≡ 2 * length records + 0 + length (soon_lines lines) = h.count in
      let unsoon : was_too_soon l.reply ≡ false = ap was_too_soon is in
      let posted : was_posted l.reply ≡ true = ap was_posted is in
      let soons : length (soon_lines (lines ++ l ∷ [])) ≡ length (soon_lines lines) = soons_same lines l unsoon in
      let A : List Times → After = λ ts. record { space = output; flight = None; times = ts } in
      let before : After = after_events opening es in
      let p : Placed = record { event = e; before = before.space } in
      let input : over space (asked_bytes l.asked space) ≡ over before.space (asked_bytes l.asked before.space) = ap (λ (a : After). over a.space (asked_bytes l.asked a.space)) (sym h.after) in
      let C : Option LineReply → Type 0 = λ o. HasCause T qs (es ++ e ∷ []) lines l o in
      let M : CallLine → Type 0 = λ c. AllMatch (c ∷ []) (p ∷ []) in
      let asks = h.asks in
      let none : asks.waiting ≡ [] = asks.waits in
      record {
        events = es ++ e ∷ [];
        are = ap (λ (n : List Noted). events_of 0 n None) (noted_last records notes x note h.long) ∙ events_last 0 ns en ∙ ap (λ (n : List Event). n ++ e ∷ []) h.are;
        long = length-append notes (note ∷ []) ∙ ap (λ (m : ℕ). m + 1) h.long ∙ sym more;
        after = after-append (before_all opening) es (e ∷ []) ∙ ap (λ (a : After). after_event a e) h.after ∙ ap A (sym (times_more records x));
        posts = omega (arith, counted, old_posts, more);
        few = omega (arith, counted, old_posts, room);
        read = all_last qs es e (all_read rs (r ∷ d ∷ []) es h.read) (subst S (from_zero k) (reading_first rs r (d ∷ [])), subst U (from_zero (k + 1)) (reading_second rs r d []));
        rise = rise_events 0 es e k (length qs) h.rise (omega arith, (omega arith, omega (arith, long)));
        own = λ caller. match_more caller (before_all opening) lines es l e (h.own caller) (mine (l.caller == caller) l p is ((refl, refl, input, fits before.space), refl, refl));
        soon = λ caller. soon_other caller lines l k (length qs) unsoon low (h.soon caller);
        causes = causes_last T qs (es ++ e ∷ []) lines l (causes_more T rs (r ∷ d ∷ []) es (e ∷ []) lines h.causes) (subst C (sym is) passes);
        count = omega (arith, long, old_count, more, soons);
        within = within_more limits records x ((post_exact limits (times_of records) r h.within).1 le);
        asks = asks_recorded opening space records lines (lines ++ l ∷ []) asks.answered l.asked x asks.whole asks.last refl
            (asked_posted lines l posted ∙ ap (λ (v : List Asked). v ++ l.asked ∷ []) (asks.parts ∙ ap (λ (v : List Asked). asks.answered ++ v) none ∙ append-nil asks.answered));
      }
    where
      mine : (b : Bool) (l : CallLine) (p : Placed) → l.reply ≡ Some (Replied (Done error output)) → Matches l p.before (Some (Replied (Done error output))) p.event
          → AllMatch (cond (was_posted l.reply && b) (l ∷ []) []) (cond b (p ∷ []) [])
      mine b l p e m =
          let M : Option LineReply → Type 0 = λ o. Matches l p.before o p.event in
          let one : AllMatch (cond b (l ∷ []) []) (cond b (p ∷ []) []) = one_match b l p (subst M (sym e) m) in
          let G : Bool → Type 0 = λ c. AllMatch (cond (c && b) (l ∷ []) []) (cond b (p ∷ []) []) in
          subst G (sym (ap was_posted e)) one

  -- ---- a command that was given up completes

  pub drained : (space rs : List ℕ) (records : List Record) (notes : List Note) (lines : List CallLine) (pn : NotedPending) (error : Bool) (output : List ℕ) (d : ℕ)
      → Point space rs records notes (Some pn) lines
      → Point output (rs ++ d ∷ []) (records ++ record_for pn.command error output d true ∷ []) (notes ++ record pn.note { done_at = length rs } ∷ []) None lines
  drained space rs records notes lines pn error output d h =
      let k : ℕ = length rs in
      let x : Record = record_for pn.command error output d true in
      let note : Note = record pn.note { done_at = k } in
      let en : Noted = record { entry = x; note = note } in
      let c : Completed = completed_of 0 x note in
      let ns : List Noted = noted records notes in
      let es : List Event = h.events in
      let qs : List ℕ = rs ++ d ∷ [] in
      let S : ℕ → Type 0 = λ j. IsReading qs j d in
      let long : length qs ≡ k + 1 = length-append rs (d ∷ []) in
      let low : k ≤ length qs = omega (arith, long) in
      let more : length (records ++ x ∷ []) ≡ length records + 1 = length-append records (x ∷ []) in
      let counted : post_count (es ++ Drained c ∷ []) ≡ post_count es + 0 = post_count-append es (Drained c ∷ []) in
      let old_posts : post_count es ≡ length records + 1 = h.posts in
      let old_few : post_count es ≤ MAX_ITEMS = h.few in
      let old_count : length rs ≡ 2 * length records + 1 + length (soon_lines lines) = h.count in
      let A : List Times → After = λ ts. record { space = output; flight = None; times = ts } in
      let asks = h.asks in
      let waits : (a : Asked) × (asks.waiting ≡ a ∷ []) × (pn.command.input ≡ over space (asked_bytes a space)) = asks.waits in
      record {
        events = es ++ Drained c ∷ [];
        are = ap (λ (n : List Noted). events_of 0 n None) (noted_last records notes x note h.long) ∙ events_drained 0 ns pn en refl refl refl ∙ ap (λ (n : List Event). n ++ Drained c ∷ []) h.are;
        long = length-append notes (note ∷ []) ∙ ap (λ (m : ℕ). m + 1) h.long ∙ sym more;
        after = after-append (before_all opening) es (Drained c ∷ []) ∙ ap (λ (a : After). after_event a (Drained c)) h.after ∙ ap A (sym (times_more records x));
        posts = omega (arith, counted, old_posts, more);
        few = omega (arith, counted, old_few);
        read = all_last qs es (Drained c) (all_read rs (d ∷ []) es h.read) (subst S (from_zero k) (reading_first rs d []));
        rise = rise_events 0 es (Drained c) k (length qs) h.rise (omega arith, omega (arith, long));
        own = λ caller. match_drained caller (before_all opening) (mine_of caller lines) es c (h.own caller);
        soon = λ caller. rise_higher 0 (soon_numbers caller lines) k (length qs) (h.soon caller) low;
        causes = causes_more T rs (d ∷ []) es (Drained c ∷ []) lines h.causes;
        count = omega (arith, long, old_count, more);
        within = within_more limits records x h.within;
        asks = asks_recorded opening space records lines lines asks.answered waits.0 x asks.whole asks.last waits.2
            (asks.parts ∙ ap (λ (v : List Asked). asks.answered ++ v) waits.1);
      }

  -- ---- nothing was posted and no reading was taken

  -- the events until now, when the caller's earlier lines had been posted
  abbrev pub now_past : (space rs : List ℕ) (records : List Record) (notes : List Note) (pending : Option NotedPending) (lines : List CallLine) (l : CallLine) (h : Point space rs records notes pending lines)
      → Past h.events lines l
  now_past space rs records notes pending lines l h =
      record { past = h.events; later = []; parts = sym (append-nil h.events); own = own_length l.caller (before_all opening) h.events (mine_of l.caller lines) (h.own l.caller) }

  waits_still : (space : List ℕ) (lines : List CallLine) (l : CallLine) (records : List Record) (pending : Option NotedPending) → was_posted l.reply ≡ false
      → Asks opening space records pending lines → Asks opening space records pending (lines ++ l ∷ [])
  waits_still space lines l records pending e a =
      record { answered = a.answered; waiting = a.waiting; parts = asked_other lines l e ∙ a.parts; whole = a.whole; last = a.last; waits = a.waits }

  pub refused : (space rs : List ℕ) (records : List Record) (notes : List Note) (pending : Option NotedPending) (lines : List CallLine) (l : CallLine)
      → was_posted l.reply ≡ false → was_too_soon l.reply ≡ false
      → (h : Point space rs records notes pending lines) → HasCause T rs h.events lines l l.reply → Point space rs records notes pending (lines ++ l ∷ [])
  refused space rs records notes pending lines l unposted unsoon h cause =
      let soons : length (soon_lines (lines ++ l ∷ [])) ≡ length (soon_lines lines) = soons_same lines l unsoon in
      let high : length rs ≤ length rs = omega arith in
      record {
        events = h.events;
        are = h.are;
        long = h.long;
        after = h.after;
        posts = h.posts;
        few = h.few;
        read = h.read;
        rise = h.rise;
        own = λ caller. match_quiet caller lines l (own_calls caller (placed (before_all opening) h.events)) unposted (h.own caller);
        soon = λ caller. soon_other caller lines l (length rs) (length rs) unsoon high (h.soon caller);
        causes = causes_last T rs h.events lines l h.causes cause;
        count = h.count ∙ ap (λ (m : ℕ). 2 * length records + pending_count pending + m) (sym soons);
        within = h.within;
        asks = waits_still space lines l records pending unposted h.asks;
      }

  -- ---- a call was too soon

  pub too_soon : (space rs : List ℕ) (records : List Record) (notes : List Note) (lines : List CallLine) (l : CallLine) (r : ℕ)
      → l.reply ≡ Some (Replied (TooSoon r (earliest_of limits (times_of records)))) → ((before : List ℕ) → asked_fault l.asked before ≡ None) → l.number ≡ length rs
      → Passes l → r < earliest_of limits (times_of records) → Point space rs records notes None lines
      → Point space (rs ++ r ∷ []) records notes None (lines ++ l ∷ [])
  too_soon space rs records notes lines l r is fits at passes below h =
      let earliest : ℕ = earliest_of limits (times_of records) in
      let k : ℕ = length rs in
      let es : List Event = h.events in
      let qs : List ℕ = rs ++ r ∷ [] in
      let long : length qs ≡ k + 1 = length-append rs (r ∷ []) in
      let low : k ≤ length qs = omega (arith, long) in
      let to : k + 1 ≤ length qs = omega (arith, long) in
      let old_count : length rs ≡ 2 * length records + 0 + length (soon_lines lines) = h.count in
      let soon : was_too_soon l.reply ≡ true = ap was_too_soon is in
      let one : length (soon_lines (l ∷ [])) ≡ 1 = ap (λ (b : Bool). length (cond b (l ∷ []) [])) soon in
      let soons : length (soon_lines (lines ++ l ∷ [])) ≡ length (soon_lines lines) + length (soon_lines (l ∷ [])) = soon_count lines l in
      let C : List Event → Type 0 = λ v. AllCaused T qs v lines in
      let causes : AllCaused T qs es lines = subst C (append-nil es) (causes_more T rs (r ∷ []) es [] lines h.causes) in
      let R : ℕ → Type 0 = λ j. IsReading qs j r in
      let N : ℕ → Type 0 = λ j. Rise 0 (numbers_in es) j in
      let cause : IsTooSoon T qs es lines l r earliest = record {
        moment = now_past space rs records notes None lines l h;
        quiet = ap (λ (a : After). a.flight) h.after;
        fits = fits (after_events opening es).space;
        earliest_is = ap (λ (a : After). earliest_of limits a.times) (sym h.after);
        soon = below;
        read = subst R (sym at) (reading_first rs r []);
        above = subst N (sym at) h.rise;
      } in
      let K : Option LineReply → Type 0 = λ o. HasCause T qs es lines l o in
      record {
        events = es;
        are = h.are;
        long = h.long;
        after = h.after;
        posts = h.posts;
        few = h.few;
        read = all_read rs (r ∷ []) es h.read;
        rise = rise_higher 0 (numbers_in es) k (length qs) h.rise low;
        own = λ caller. match_quiet caller lines l (own_calls caller (placed (before_all opening) es)) (ap was_posted is) (h.own caller);
        soon = λ caller. rise_higher 0 (soon_numbers caller (lines ++ l ∷ [])) (k + 1) (length qs) (soon_more caller lines l k soon at (h.soon caller)) to;
        causes = causes_last T qs es lines l causes (subst K (sym is) (passes, cause));
        count = omega (arith, long, old_count, soons, one);
        within = h.within;
        asks = waits_still space lines l records None (ap was_posted is) h.asks;
      }

  -- ---- nothing was done, and all was

  pub nothing : Point opening [] [] [] None []
  nothing = record {
    events = [];
    are = refl;
    long = refl;
    after = refl;
    posts = refl;
    few = omega arith;
    read = tt;
    rise = omega arith;
    own = λ caller. tt;
    soon = λ caller. omega arith;
    causes = tt;
    count = refl;
    within = record { turnaround = λ i lt. absurd (omega arith); rate = λ i some lt. absurd (omega arith) };
    asks = record { answered = []; waiting = []; parts = refl; whole = tt; last = refl; waits = refl };
  }

  pub headline_at : (space rs : List ℕ) (records : List Record) (notes : List Note) (pending : Option NotedPending) (lines : List CallLine)
      → Legal exec w.reports start (exchanges_of records) → AreEnded lines
      → Point space rs records notes pending lines
      → Headline T rs (asked_along opening (exchanges_of records) (asked_by lines)) lines (record { entries = noted records notes; pending = pending })
  headline_at space rs records notes pending lines legal ended p =
      let asks = p.asks in
      let asked : List (List ℕ) = asked_along opening (exchanges_of records) (asked_by lines) in
      let W : List Asked → Type 0 = λ v. WholeHistory opening (exchanges_of records) (asked_along opening (exchanges_of records) v) in
      let whole : WholeHistory opening (exchanges_of records) asked = subst W (sym asks.parts) (asked_whole opening (exchanges_of records) asks.answered asks.waiting asks.whole) in
      let recs : records_of (noted records notes) ≡ records = noted_records records notes in
      let L : List Record → Type 0 = λ v. Legal exec w.reports start (exchanges_of v) in
      let V : List Record → Type 0 = λ v. WholeHistory opening (exchanges_of v) asked in
      let R : List Record → Type 0 = λ v. WithinLimits limits (times_of v) (pending_post pending) in
      let count : length rs ≡ 2 * length records + pending_count pending + length (soon_lines lines) = p.count in
      let entries : length (noted records notes) ≡ length records = kept_length records notes in
      let Most : List Event → Type 0 = λ v. post_count v ≤ MAX_ITEMS in
      let Causes : List Event → Type 0 = λ v. AllCaused T rs v lines in
      let Read : List Event → Type 0 = AllByRecursion (IsRead rs) in
      let Rises : List Event → Type 0 = λ v. Rise 0 (numbers_in v) (length rs) in
      let Ties : List Event → Type 0 = Tied opening lines in
      record {
        legal = subst L (sym recs) legal;
        whole = subst V (sym recs) whole;
        within = subst R (sym recs) p.within;
        most = subst Most (sym p.are) p.few;
        ended = ended;
        tied = subst Ties (sym p.are) (record { own = p.own });
        causes = subst Causes (sym p.are) p.causes;
        read = subst Read (sym p.are) p.read;
        rise = subst Rises (sym p.are) p.rise;
        soon_rise = p.soon;
        count = omega (arith, count, entries);
      }
