-- What was asked so far is recorded, but for the command in flight, as a legal and whole history within the limits.
use Rattle.std.proofs.Common.{◌≡◌, ℕ, ◌+◌, ◌≤◌, Bool, true, false, cond, List, [], ◌∷◌, ◌++◌, length, refl, sym, ap, ◌∙◌, subst, arith}
use Rattle.std.specs.Prelude.{Option, Some, None, IfSome, ◌&&◌, ◌-◌, nat_lt, nat_le}
use Rattle.std.proofs.lemmas.List.{append-nil, map-append}
use Rattle.pcc_history.specs.Devices.{Device}
use Rattle.pcc_history.specs.Channel.{Exchange, Object, both, over}
use Rattle.pcc_history.specs.Histories.{Legal, WholeHistory, space_after, state_after}
use Rattle.pcc_journal.specs.declared.record.Record.{Record}
use Rattle.pcc_journal.specs.declared.record.Pending.{Pending}
use Rattle.pcc_journal.specs.Records.{exchange_of_record, exchanges_of, times_of, times_of_record}
use Rattle.rate_limit.specs.declared.Limits.{Limits}
use Rattle.rate_limit.specs.declared.Times.{Times}
use Rattle.rate_limit.specs.RateLimits.{WithinLimits, earliest_of}
use Rattle.rate_limit.proofs.Law.{exact as post_exact, completed as completion_keeps}
use Rattle.std.proofs.lemmas.Bool.{ltb-false}
use Rattle.channel_core.specs.Refusals as refusals
use Rattle.channel_core.specs.Sendings.{recorded}
use Rattle.channel_core.specs.declared.answers.CallRefusal.TheVariants as refusal
use Rattle.cppc_calls.specs.Wishes.{wish_fault}
use Rattle.cppc_calls.specs.declared.wish.SetRefusal.{SetRefusal}
use Rattle.channel_turns.specs.Replies.{Reply, BadCode, TooLong, JournalFull, StillPending}
use Rattle.channel_turns.specs.ChannelRuns.{Answered, Call, ChannelStart, ChannelState, InFlight, Polled, after_polls, after_post, answer_call, answer_unless, completed, count_in_flight, exchange_with, fresh, journal_limit, next_reading, polled, polled_for, post_call, post_of, refusal_of, replied}
use Rattle.channel_headline.specs.Asked.{Asked, LineReply, Refused, Replied, These, Wishes, asked_bytes}
use Rattle.channel_headline.specs.Lines.{asked_along, is_post, posts_line}
use Rattle.channel_headline.specs.WishCalls.{LineAnswer, WishCall, answer_wish, post_wish, whole_call, wish_after, wish_refusal, wish_unless, write_code}

-- ---- histories that grow

Legal-more : (exec : Device) (reports : Bool) (state : List ℕ) (xs : List Exchange) (c : Exchange) → Legal exec reports state xs
    → c.error ≡ both reports (exec (state_after exec state xs) c.code c.input).bad → c.output ≡ (exec (state_after exec state xs) c.code c.input).space
    → Legal exec reports state (xs ++ c ∷ [])
Legal-more exec reports state [] c h e o = (e, o, tt)
Legal-more exec reports state (x ∷ xs) c h e o = (h.0, h.1, Legal-more exec reports (exec state x.code x.input).state xs c h.2 e o)

state_after-more : (exec : Device) (state : List ℕ) (xs : List Exchange) (c : Exchange) → state_after exec state (xs ++ c ∷ []) ≡ (exec (state_after exec state xs) c.code c.input).state
state_after-more exec state [] c = refl
state_after-more exec state (x ∷ xs) c = state_after-more exec (exec state x.code x.input).state xs c

pub space_after-more : (space : List ℕ) (xs : List Exchange) (c : Exchange) → space_after space (xs ++ c ∷ []) ≡ c.output
space_after-more space [] c = refl
space_after-more space (x ∷ xs) c = space_after-more x.output xs c

-- each input is what was asked of the space before it, laid over that
abbrev pub IsAsked : List ℕ → List Exchange → List Asked → Type 0
IsAsked space [] [] = Unit {0}
IsAsked space (c ∷ cs) (a ∷ asked) = (c.input ≡ over space (asked_bytes a space)) × IsAsked c.output cs asked
IsAsked space _ _ = ⊥

pub IsAsked-more : (space : List ℕ) (xs : List Exchange) (asked : List Asked) (c : Exchange) (a : Asked) → IsAsked space xs asked
    → c.input ≡ over (space_after space xs) (asked_bytes a (space_after space xs)) → IsAsked space (xs ++ c ∷ []) (asked ++ a ∷ [])
IsAsked-more space [] [] c a h e = (e, tt)
IsAsked-more space [] (b ∷ asked) c a h e = absurd h
IsAsked-more space (x ∷ xs) [] c a h e = absurd h
IsAsked-more space (x ∷ xs) (b ∷ asked) c a h e = (h.0, IsAsked-more x.output xs asked c a h.1 e)

-- the bytes of what was asked, and of what is asked beyond, are those of a whole history
pub asked_whole : (space : List ℕ) (xs : List Exchange) (asked more : List Asked) → IsAsked space xs asked
    → WholeHistory space xs (asked_along space xs (asked ++ more))
asked_whole space [] [] more h = tt
asked_whole space [] (a ∷ asked) more h = absurd h
asked_whole space (x ∷ xs) [] more h = absurd h
asked_whole space (x ∷ xs) (a ∷ asked) more h = (h.0, asked_whole x.output xs asked more h.1)

-- ---- one channel

-- the records are a history of what was asked, and leave the channel as it is
pub record Recorded (start : ChannelStart) (records : List Record) (object : Object) (asked : List Asked) : Type 0 where
  pub legal : Legal start.device start.head.reports start.state (exchanges_of records)
  pub state : state_after start.device start.state (exchanges_of records) ≡ object.state
  pub space : space_after start.opening (exchanges_of records) ≡ object.space
  pub whole : IsAsked start.opening (exchanges_of records) asked

-- what the command in flight was asked
abbrev pub IsWaiting : List ℕ → Option InFlight → List Asked → Type 0
IsWaiting space None waiting = waiting ≡ []
IsWaiting space (Some p) waiting = (a : Asked) × (waiting ≡ a ∷ []) × (p.command.input ≡ over space (asked_bytes a space))

-- what was asked so far is recorded, but for the command in flight, and the posts keep the limits
pub record Kept (start : ChannelStart) (now : ChannelState) (asked : List Asked) : Type 0 where
  pub limits : WithinLimits start.head.limits (times_of now.records) (post_of now.in_flight)
  pub answered : List Asked
  pub waiting : List Asked
  pub parts : asked ≡ answered ++ waiting
  pub recorded : Recorded start now.records now.object answered
  pub flight : IsWaiting now.object.space now.in_flight waiting

-- what a reply adds to what was asked
abbrev pub added_by : LineReply → Asked → List Asked
added_by reply a = cond (posts_line reply) (a ∷ []) []

pub decide : {A : Type 0} (P : A → Type 0) (b : Bool) (x y : A) → (b ≡ true → P x) → (b ≡ false → P y) → P (cond b x y)
decide P true x y h k = h refl
decide P false x y h k = k refl

pub choose : {A : Type 0} (P : A → Type 0) (b : Bool) (x y : A) → P x → P y → P (cond b x y)
choose P true x y h k = h
choose P false x y h k = k

exchanges_of-more : (records : List Record) (r : Record) → exchanges_of (records ++ r ∷ []) ≡ exchanges_of records ++ exchange_of_record r ∷ []
exchanges_of-more records r = map-append exchange_of_record records (r ∷ [])

completed_records : (start : ChannelStart) (command : Pending) (late : Bool) (now : ChannelState) (asked : List Asked) (a : Asked) → Recorded start now.records now.object asked
    → command.input ≡ over now.object.space (asked_bytes a now.object.space)
    → let next = completed start command late now in Recorded start next.records next.object (asked ++ a ∷ [])
completed_records start command late now asked a h e =
    let x : Exchange = exchange_with start command now in
    let r : Record = recorded command x.error x.output (next_reading start now) late in
    let xs : List Exchange = exchanges_of now.records in
    let c : Exchange = exchange_of_record r in
    let more : exchanges_of (now.records ++ r ∷ []) ≡ xs ++ c ∷ [] = exchanges_of-more now.records r in
    let at : state_after start.device start.state xs ≡ now.object.state = h.state in
    let Error : List ℕ → Type 0 = λ s. c.error ≡ both start.head.reports (start.device s c.code c.input).bad in
    let Output : List ℕ → Type 0 = λ s. c.output ≡ (start.device s c.code c.input).space in
    let P : List Exchange → Type 0 = Legal start.device start.head.reports start.state in
    let Q : List Exchange → Type 0 = λ v. IsAsked start.opening v (asked ++ a ∷ []) in
    let legal : Legal start.device start.head.reports start.state (xs ++ c ∷ []) = Legal-more start.device start.head.reports start.state xs c h.legal (subst Error (sym at) refl) (subst Output (sym at) refl) in
    let whole : IsAsked start.opening (xs ++ c ∷ []) (asked ++ a ∷ []) = IsAsked-more start.opening xs asked c a h.whole (e ∙ ap (λ (s : List ℕ). over s (asked_bytes a s)) (sym h.space)) in
    record {
      legal = subst P (sym more) legal;
      state = ap (state_after start.device start.state) more ∙ state_after-more start.device start.state xs c ∙ ap (λ (s : List ℕ). (start.device s c.code c.input).state) at;
      space = ap (space_after start.opening) more ∙ space_after-more start.opening xs c;
      whole = subst Q (sym more) whole;
    }

-- a posted command keeps the limits when it is complete
completed_within : (start : ChannelStart) (command : Pending) (late : Bool) (now : ChannelState) → WithinLimits start.head.limits (times_of now.records) (Some command.post)
    → WithinLimits start.head.limits (times_of (completed start command late now).records) None
completed_within start command late now w =
    let x : Exchange = exchange_with start command now in
    let r : Record = recorded command x.error x.output (next_reading start now) late in
    let same : times_of (now.records ++ r ∷ []) ≡ times_of now.records ++ times_of_record r ∷ [] = map-append times_of_record now.records (r ∷ []) in
    let P : List Times → Type 0 = λ v. WithinLimits start.head.limits v None in
    subst P (sym same) (completion_keeps start.head.limits (times_of now.records) (times_of_record r) w)

-- ---- a call

-- a posted command
after_post_keeps : (start : ChannelStart) (call : Call) (command : Pending) (now : ChannelState) (asked : List Asked) (a : Asked) → Recorded start now.records now.object asked
    → command.input ≡ over now.object.space (asked_bytes a now.object.space) → WithinLimits start.head.limits (times_of now.records) (Some command.post)
    → let r = after_post start call command now in Kept start r.now (asked ++ added_by (Replied r.reply) a)
after_post_keeps start call command now asked a h e w =
    choose (λ (r : Answered). Kept start r.now (asked ++ added_by (Replied r.reply) a)) (nat_lt call.hold call.polls) _ _
    (record { limits = completed_within start command false now w; answered = asked ++ a ∷ []; waiting = []; parts = sym (append-nil (asked ++ a ∷ [])); recorded = completed_records start command false now asked a h e; flight = refl })
    (record { limits = w; answered = asked; waiting = a ∷ []; parts = refl; recorded = h; flight = (a, refl, e) })

-- nothing is in flight
post_call_keeps : (start : ChannelStart) (call : Call) (now : ChannelState) (asked : List Asked) (a : Asked) → call.bytes ≡ asked_bytes a now.object.space
    → now.in_flight ≡ None → Kept start now asked → let r = post_call start call now in Kept start r.now (asked ++ added_by (Replied r.reply) a)
post_call_keeps start call now asked a bytes none k =
    let P : Option InFlight → Type 0 = λ o. IsWaiting now.object.space o k.waiting in
    let Q : Option InFlight → Type 0 = λ o. WithinLimits start.head.limits (times_of now.records) (post_of o) in
    let R : List Asked → Type 0 = Recorded start now.records now.object in
    let all : asked ≡ k.answered = k.parts ∙ ap (λ (v : List Asked). k.answered ++ v) (subst P none k.flight) ∙ append-nil k.answered in
    let h : Recorded start now.records now.object asked = subst R (sym all) k.recorded in
    let w : WithinLimits start.head.limits (times_of now.records) None = subst Q none k.limits in
    let later : ChannelState = record now { taken = now.taken + 1 } in
    let reading : ℕ = next_reading start now in
    let earliest : ℕ = earliest_of start.head.limits (times_of now.records) in
    let command : Pending = record { caller = call.caller; code = call.code; input = over now.object.space call.bytes; post = reading } in
    let K : List Asked → Type 0 = Kept start later in
    decide (λ (r : Answered). Kept start r.now (asked ++ added_by (Replied r.reply) a)) (nat_lt reading earliest) _ _
    (λ soon. subst K (sym (append-nil asked)) (record { limits = k.limits; answered = k.answered; waiting = k.waiting; parts = k.parts; recorded = k.recorded; flight = k.flight }))
    (λ allowed.
    let in_time : earliest ≤ reading = ltb-false reading earliest allowed in
    after_post_keeps start call command later asked a h (ap (over now.object.space) bytes) ((post_exact start.head.limits (times_of now.records) reading w).1 in_time))

-- polls for an earlier command
polls_keep : (start : ChannelStart) (polls : ℕ) (now : ChannelState) (o : Option InFlight) (asked : List Asked) → now.in_flight ≡ o → Kept start now asked
    → let e = polled_for start polls now o in Kept start e.now asked × (e.free ≡ true → e.now.in_flight ≡ None)
polls_keep start polls now None asked e h = (h, λ _. e)
polls_keep start polls now (Some p) asked e h =
    let P : Option InFlight → Type 0 = λ o. IsWaiting now.object.space o h.waiting in
    let flight : IsWaiting now.object.space (Some p) h.waiting = subst P e h.flight in
    let all : asked ≡ h.answered ++ flight.0 ∷ [] = h.parts ∙ ap (λ (v : List Asked). h.answered ++ v) flight.1 in
    let next : ChannelState = completed start p.command true now in
    let W : Option InFlight → Type 0 = λ o. WithinLimits start.head.limits (times_of now.records) (post_of o) in
    let w : WithinLimits start.head.limits (times_of now.records) (Some p.command.post) = subst W e h.limits in
    let rest : ChannelState = record now { in_flight = Some (record p { left = p.left - polls }) } in
    let G : Polled → Type 0 = λ r. Kept start r.now asked × (r.free ≡ true → r.now.in_flight ≡ None) in
    choose G (nat_lt p.left polls) (record { free = true; now = next }) (record { free = false; now = rest })
    (record { limits = completed_within start p.command true now w; answered = h.answered ++ flight.0 ∷ []; waiting = []; parts = all ∙ sym (append-nil (h.answered ++ flight.0 ∷ [])); recorded = completed_records start p.command true now h.answered flight.0 h.recorded flight.2; flight = refl }, λ _. refl)
    (record { limits = w; answered = h.answered; waiting = flight.0 ∷ []; parts = all; recorded = h.recorded; flight = (flight.0, refl, flight.2) }, λ no. absurd cc)

-- no post adds nothing
unposted_keeps : (start : ChannelStart) (now : ChannelState) (asked : List Asked) (reply : LineReply) (a : Asked) → posts_line reply ≡ false → Kept start now asked
    → Kept start now (asked ++ added_by reply a)
unposted_keeps start now asked reply a e h =
    let P : Bool → Type 0 = λ b. Kept start now (asked ++ cond b (a ∷ []) []) in
    let Q : List Asked → Type 0 = Kept start now in
    subst P (sym e) (subst Q (sym (append-nil asked)) h)

after_keeps : (start : ChannelStart) (call : Call) (e : Polled) (asked : List Asked) → Kept start e.now asked → (e.free ≡ true → e.now.in_flight ≡ None)
    → let r = after_polls start call e in Kept start r.now (asked ++ added_by (Replied r.reply) (These call.bytes))
after_keeps start call e asked h none =
    let G : Answered → Type 0 = λ r. Kept start r.now (asked ++ added_by (Replied r.reply) (These call.bytes)) in
    decide G e.free _ _ (λ free. post_call_keeps start call e.now asked (These call.bytes) refl (none free) h)
    (λ _. unposted_keeps start e.now asked (Replied (StillPending call.polls)) (These call.bytes) refl h)

unless_keeps : (start : ChannelStart) (call : Call) (now : ChannelState) (o : Option Reply) (asked : List Asked) → IfSome o (λ r. is_post r ≡ false) → Kept start now asked
    → let r = answer_unless start call now o in Kept start r.now (asked ++ added_by (Replied r.reply) (These call.bytes))
unless_keeps start call now (Some r) asked e h = unposted_keeps start now asked (Replied r) (These call.bytes) e h
unless_keeps start call now None asked e h =
    let k = polls_keep start call.polls now now.in_flight asked refl h in after_keeps start call (polled start call.polls now) asked k.0 k.1

pub no_post : (a b c : Bool) (code len room : ℕ) → IfSome (cond a (Some (BadCode code)) (cond b (Some (TooLong len room)) (cond c (Some JournalFull) None))) (λ r. is_post r ≡ false)
no_post true b c code len room = refl
no_post false true c code len room = refl
no_post false false true code len room = refl
no_post false false false code len room = tt

-- a refusal, as the reply to its call
replied_is : (a b c : Bool) (code len room : ℕ)
    → replied (cond a (Some (refusal.BadCode code)) (cond b (Some (refusal.TooLong len room)) (cond c (Some refusal.JournalFull) None))) ≡ cond a (Some (BadCode code)) (cond b (Some (TooLong len room)) (cond c (Some JournalFull) None))
replied_is true b c code len room = refl
replied_is false true c code len room = refl
replied_is false false true code len room = refl
replied_is false false false code len room = refl

-- the tests of a call of so many bytes, one after the other
pub refusal_is : (start : ChannelStart) (code len posts : ℕ)
    → replied (refusals.refusal_of start.head.kind start.head.room code len posts) ≡ cond (refusals.has_byte_codes start.head.kind && nat_lt 255 code) (Some (BadCode code))
    (cond (nat_lt start.head.room len) (Some (TooLong len start.head.room))
    (cond (nat_le journal_limit posts) (Some JournalFull) None))
refusal_is start code len posts =
    replied_is (refusals.has_byte_codes start.head.kind && nat_lt 255 code) (nat_lt start.head.room len) (nat_le journal_limit posts) code len start.head.room

refusals_post_nothing : (start : ChannelStart) (code len posts : ℕ) → IfSome (replied (refusals.refusal_of start.head.kind start.head.room code len posts)) (λ r. is_post r ≡ false)
refusals_post_nothing start code len posts =
    let P : Option Reply → Type 0 = λ o. IfSome o (λ r. is_post r ≡ false) in
    subst P (sym (refusal_is start code len posts)) (no_post _ _ _ code len start.head.room)

pub call_keeps : (start : ChannelStart) (call : Call) (now : ChannelState) (asked : List Asked) → Kept start now asked
    → let r = answer_call start call now in Kept start r.now (asked ++ added_by (Replied r.reply) (These call.bytes))
call_keeps start call now asked h =
    unless_keeps start call now (refusal_of start.head call now) asked (refusals_post_nothing start call.code (length call.bytes) (length now.records + count_in_flight now.in_flight)) h

-- ---- a wish

-- what a wish asks
abbrev pub wish_asked : WishCall → Asked
wish_asked w = Wishes w.binding w.wish

put_keeps : (start : ChannelStart) (w : WishCall) (now : ChannelState) (o : Option SetRefusal) (asked : List Asked) → now.in_flight ≡ None → Kept start now asked
    → let r = post_wish start w now o in Kept start r.now (asked ++ added_by r.reply (wish_asked w))
put_keeps start w now (Some why) asked none h = unposted_keeps start now asked (Refused why) (wish_asked w) refl h
put_keeps start w now None asked none h = post_call_keeps start (whole_call w now.object.space) now asked (wish_asked w) refl none h

wish_after_keeps : (start : ChannelStart) (w : WishCall) (e : Polled) (asked : List Asked) → Kept start e.now asked → (e.free ≡ true → e.now.in_flight ≡ None)
    → let r = wish_after start w e in Kept start r.now (asked ++ added_by r.reply (wish_asked w))
wish_after_keeps start w e asked h none =
    let G : LineAnswer → Type 0 = λ r. Kept start r.now (asked ++ added_by r.reply (wish_asked w)) in
    decide G e.free _ _ (λ free. put_keeps start w e.now (wish_fault w.binding e.now.object.space w.wish) asked (none free) h)
    (λ _. unposted_keeps start e.now asked (Replied (StillPending w.polls)) (wish_asked w) refl h)

wish_unless_keeps : (start : ChannelStart) (w : WishCall) (now : ChannelState) (o : Option Reply) (asked : List Asked) → IfSome o (λ r. is_post r ≡ false) → Kept start now asked
    → let r = wish_unless start w now o in Kept start r.now (asked ++ added_by r.reply (wish_asked w))
wish_unless_keeps start w now (Some r) asked e h = unposted_keeps start now asked (Replied r) (wish_asked w) e h
wish_unless_keeps start w now None asked e h =
    let k = polls_keep start w.polls now now.in_flight asked refl h in wish_after_keeps start w (polled start w.polls now) asked k.0 k.1

pub wish_keeps : (start : ChannelStart) (w : WishCall) (now : ChannelState) (asked : List Asked) → Kept start now asked
    → let r = answer_wish start w now in Kept start r.now (asked ++ added_by r.reply (wish_asked w))
wish_keeps start w now asked h =
    wish_unless_keeps start w now (wish_refusal start.head now) asked (refusals_post_nothing start write_code start.head.room (length now.records + count_in_flight now.in_flight)) h

-- ---- waits, and the beginning

-- no post
pub none_within : (l : Limits) → WithinLimits l [] None
none_within l = record { turnaround = λ i lt. absurd (omega arith); rate = λ i some lt. absurd (omega arith) }

pub nothing_kept : (start : ChannelStart) → Kept start (fresh start) []
nothing_kept start = record { limits = none_within start.head.limits; answered = []; waiting = []; parts = refl; recorded = record { legal = tt; state = refl; space = refl; whole = tt }; flight = refl }

-- the clock is moved up
pub wait_keeps : (start : ChannelStart) (now : ChannelState) (asked : List Asked) (n : ℕ) → Kept start now asked → Kept start (record now { added = now.added + n }) asked
wait_keeps start now asked n h = record { limits = h.limits; answered = h.answered; waiting = h.waiting; parts = h.parts; recorded = h.recorded; flight = h.flight }
