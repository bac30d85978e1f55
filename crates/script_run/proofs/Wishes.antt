-- Wishes that are set on a channel, as asks of a run.
use Rattle.std.proofs.Common.{◌≡◌, ◌≤◌, ◌+◌, ◌++◌, ℕ, Bool, true, false, List, drop, length, take, refl, sym, ap, ◌∙◌, subst, arith}
use Rattle.std.specs.Prelude.{Option, Some, None, Result, Ok, Err}
use Rattle.std.proofs.lemmas.List.{append-nil, drop_all, take_all}
use Rattle.pcc_history.specs.Devices.{Device}
use Rattle.pcc_io.specs.declared.items.NoMemory.{NoMemory}
use Rattle.cppc_calls.specs.Wishes.{wish_fault, with_wish}
use Rattle.cppc_calls.specs.declared.wish.SetRefusal.{SetRefusal}
use Rattle.channel_core.specs.Readying.{ReadyCommand}
use Rattle.channel_core.specs.Refusals as refusals
use Rattle.channel_core.specs.declared.answers.CallRefusal.{CallRefusal}
use Rattle.channel_core.specs.declared.answers.CallRefusal.TheVariants as refusal
use Rattle.channel_turns.specs.Calls.{HasPolled, IsPosted, IsRefused, MakesReady, MakesReadyBy, OpenChannel, posts_in, ready_for, start_by, with_memory}
use Rattle.channel_turns.specs.ChannelRuns.{Answered, Call, Channel, ChannelStart, call_by, post_call, replied, reply_to}
use Rattle.channel_turns.specs.Outcomes.{StandsFor}
use Rattle.channel_turns.specs.Replies.{Reply, BadCode, TooLong, JournalFull, StillPending, TooSoon, TimedOut}
use Rattle.channel_turns.specs.declared.outcome.Outcome.{Outcome}
use Rattle.channel_turns.specs.declared.outcome.Outcome.TheVariants as outcome
use Rattle.channel_headline.specs.Asked.{Refused, Replied}
use Rattle.channel_headline.specs.WishCalls.{LineAnswer as AnsweredLine, WishCall, answer_wish, post_wish, whole_call, wish_after, wish_unless}
use Rattle.script_run.specs.Channels.{IsAnsweredBy}
use Rattle.script_run.specs.DeviceChannels.{channel_by}
use Rattle.script_run.specs.LineOutcomes.{IsShownAs}
use Rattle.script_run.specs.StepRun.{ByChannel, OfWish}
use Rattle.script_run.specs.declared.outcome.LineAnswer.{LineAnswer}
use Rattle.script_run.specs.declared.outcome.LineAnswer.TheVariants as line_answer

-- what refuses a command of the whole space
abbrev refused_by : OpenChannel → ℕ → Option CallRefusal
refused_by c len = refusals.refusal_of c.head.kind c.head.room 1 len (posts_in c.now)

-- a command that was made ready: nothing refused it, and its memory was taken
record IsMade (o : Option CallRefusal) (old new : OpenChannel) (r made : ReadyCommand) : Type 0 where
  unrefused : o ≡ None
  command : made ≡ r
  memory : new ≡ with_memory old

made_by : (o : Option CallRefusal) (old new : OpenChannel) (r made : ReadyCommand) → MakesReadyBy o old r new (Ok made) → IsMade o old new r made
made_by None old new r made h = record { unrefused = refl; command = h.0; memory = h.1 }
made_by (Some e) old new r made h = absurd (cc (h.0))

-- bytes that were lent out whole come back whole
pub written_back : (put items : List ℕ) (len : ℕ) → length put ≡ len → length items ≡ len → take len (put ++ drop (length put) items) ≡ put
written_back put items len e f =
    let le : length items ≤ length put = omega (arith, e, f) in
    let all : length put ≤ len = omega (arith, e) in
    ap (λ (v : List ℕ). take len (put ++ v)) (drop_all (length put) items le) ∙ ap (take len) (append-nil put) ∙ take_all len put all

abbrev same_result : Outcome → Outcome → Type 0
same_result o p = let r : Result Outcome NoMemory = Ok o in let q : Result Outcome NoMemory = Ok p in r ≡ q

same_outcome : (o p : Outcome) → same_result o p → o ≡ p
same_outcome o p e = cc

abbrev same_error : CallRefusal → CallRefusal → Type 0
same_error e f = let r : Result ReadyCommand CallRefusal = Err e in let q : Result ReadyCommand CallRefusal = Err f in r ≡ q

same_refusal : (e f : CallRefusal) → same_error e f → e ≡ f
same_refusal e f q = cc

module _ (exec : Device) (c : OpenChannel) (w : WishCall) where
  abbrev start : ChannelStart
  start = start_by exec c

  -- an answer of the channel, by which it is left
  abbrev IsWishAnswer : OpenChannel → LineAnswer → AnsweredLine → Type 0
  IsWishAnswer new answer a = IsShownAs a.now.records answer (ByChannel a.reply) × (channel_by exec new ≡ record { start = start; now = a.now })

  answered_wish : (new : OpenChannel) (answer : LineAnswer) (a : AnsweredLine) → answer_wish start w c.now ≡ a → IsWishAnswer new answer a
      → IsAnsweredBy (channel_by exec c) (OfWish w) (channel_by exec new) answer
  answered_wish new answer a e h = let k : IsWishAnswer new answer (answer_wish start w c.now) = subst (IsWishAnswer new answer) (sym e) h in record { reply = k.0; left = k.1 }

  -- ---- what refuses a call

  stands_as : (o p : Outcome) (reply : Reply) → same_result o p → StandsFor c.now.records p reply → StandsFor c.now.records o reply
  stands_as o p reply e h = subst (λ (x : Outcome). StandsFor c.now.records x reply) (sym (same_outcome o p e)) h

  refused_as : (e : CallRefusal) (o : Outcome) → IsRefused e (Ok o) → (reply : Reply) × (reply_to e ≡ Some reply) × StandsFor c.now.records o reply
  refused_as (refusal.BadCode code) o h = (BadCode code, refl, stands_as o (outcome.BadCode code) (BadCode code) h refl)
  refused_as (refusal.TooLong len room) o h = (TooLong len room, refl, stands_as o (outcome.TooLong len room) (TooLong len room) h refl)
  refused_as refusal.JournalFull o h = (JournalFull, refl, stands_as o outcome.JournalFull JournalFull h refl)
  refused_as refusal.NoMemory o h = absurd h
  refused_as (refusal.StillPending looks) o h = (StillPending looks, refl, stands_as o (outcome.StillPending looks) (StillPending looks) h refl)
  refused_as (refusal.TooSoon now earliest) o h = (TooSoon now earliest, refl, stands_as o (outcome.TooSoon now earliest) (TooSoon now earliest) h refl)
  refused_as (refusal.TimedOut looks) o h = (TimedOut looks, refl, stands_as o (outcome.TimedOut looks) (TimedOut looks) h refl)

  refused_with : (x : Option CallRefusal) (new : OpenChannel) (r : ReadyCommand) (e : CallRefusal) (o : Outcome) → refused_by c c.head.room ≡ x → MakesReadyBy x c r new (Err e) → IsRefused e (Ok o)
      → IsAnsweredBy (channel_by exec c) (OfWish w) (channel_by exec new) (line_answer.Called o)
  refused_with None new r e o refused h k = absurd (subst (λ (x : CallRefusal). IsRefused x (Ok o)) h.0 k)
  refused_with (Some f) new r e o refused h k =
      let is : f ≡ e = sym (same_refusal e f h.0) in
      let t = refused_as e o k in
      answered_wish new (line_answer.Called o) (record { reply = Replied t.0; now = c.now })
      (ap (λ (x : Option CallRefusal). wish_unless start w c.now (replied x)) (refused ∙ ap Some is) ∙ ap (wish_unless start w c.now) t.1)
      ((t.0, refl, t.2), ap (channel_by exec) h.1)

  pub set_refused : (new : OpenChannel) (zeros : List ℕ) (e : CallRefusal) (o : Outcome) → length zeros ≡ c.head.room → MakesReady c (ready_for c 1 zeros) new (Err e) → IsRefused e (Ok o)
      → IsAnsweredBy (channel_by exec c) (OfWish w) (channel_by exec new) (line_answer.Called o)
  set_refused new zeros e o long h k =
      refused_with (refused_by c c.head.room) new (ready_for c 1 zeros) e o refl (subst (λ (n : ℕ). MakesReadyBy (refused_by c n) c (ready_for c 1 zeros) new (Err e)) long h) k

  -- ---- after the polls

  -- a command was made ready, and the polls left the channel so
  pub record Begun (zeros : List ℕ) (r : ReadyCommand) (ready mid : OpenChannel) (free : Bool) : Type 0 where
    pub long : length zeros ≡ c.head.room
    pub made : MakesReady c (ready_for c 1 zeros) ready (Ok r)
    pub polled : HasPolled exec w.polls ready mid free

  module _ (zeros : List ℕ) (r : ReadyCommand) (ready mid : OpenChannel) (free : Bool) (b : Begun zeros r ready mid free) where
    made : IsMade (refused_by c (length zeros)) c ready (ready_for c 1 zeros) r
    made = made_by (refused_by c (length zeros)) c ready (ready_for c 1 zeros) r b.made

    polls : HasPolled exec w.polls (with_memory c) mid free
    polls = subst (λ (z : OpenChannel). HasPolled exec w.polls z mid free) made.memory b.polled

    -- what the wish is answered after them
    after : answer_wish start w c.now ≡ wish_after start w (record { free = free; now = mid.now })
    after = ap (λ (x : Option CallRefusal). wish_unless start w c.now (replied x)) (ap (refused_by c) (sym b.long) ∙ made.unrefused) ∙ ap (wish_after start w) polls.polls_leave

    -- what the polls left
    left : channel_by exec mid ≡ record { start = start; now = mid.now }
    left = ap (channel_by exec) polls.left

    pub set_pending : free ≡ false → IsAnsweredBy (channel_by exec c) (OfWish w) (channel_by exec mid) (line_answer.Called (outcome.StillPending w.polls))
    set_pending e = answered_wish mid (line_answer.Called (outcome.StillPending w.polls)) (record { reply = Replied (StillPending w.polls); now = mid.now })
        (after ∙ ap (λ (x : Bool). wish_after start w (record { free = x; now = mid.now })) e) ((StillPending w.polls, refl, refl), left)

    -- where nothing is in flight
    free_after : (o : Option SetRefusal) → free ≡ true → wish_fault w.binding mid.now.object.space w.wish ≡ o → answer_wish start w c.now ≡ post_wish start w mid.now o
    free_after o e fault = after ∙ ap (λ (x : Bool). wish_after start w (record { free = x; now = mid.now })) e ∙ ap (post_wish start w mid.now) fault

    pub wish_refused : (space : List ℕ) (why : SetRefusal) → free ≡ true → space ≡ mid.now.object.space → wish_fault w.binding space w.wish ≡ Some why
        → IsAnsweredBy (channel_by exec c) (OfWish w) (channel_by exec mid) (line_answer.Refused why)
    wish_refused space why e at fault = answered_wish mid (line_answer.Refused why) (record { reply = Refused why; now = mid.now })
        (free_after (Some why) e (ap (λ (s : List ℕ). wish_fault w.binding s w.wish) (sym at) ∙ fault)) (refl, left)

    -- the command that is posted, with the bytes that were filled in
    pub wish_posted : (space put : List ℕ) (filled : ReadyCommand) (new : OpenChannel) (o : Outcome) → free ≡ true → space ≡ mid.now.object.space → wish_fault w.binding space w.wish ≡ None
        → put ≡ with_wish w.binding w.wish space → filled ≡ record r { bytes = put } → IsPosted exec mid (call_by w.caller filled.code filled.bytes w.polls w.hold) new o
        → IsAnsweredBy (channel_by exec c) (OfWish w) (channel_by exec new) (line_answer.Called o)
    wish_posted space put filled new o e at fault is fill h =
        let call : Call = whole_call w mid.now.object.space in
        let coded : filled.code ≡ 1 = ap (λ (z : ReadyCommand). z.code) fill ∙ ap (λ (z : ReadyCommand). z.code) made.command in
        let bytes : filled.bytes ≡ with_wish w.binding w.wish mid.now.object.space = ap (λ (z : ReadyCommand). z.bytes) fill ∙ is ∙ ap (with_wish w.binding w.wish) at in
        let k : IsPosted exec mid call new o = subst (λ (z : ℕ × List ℕ). IsPosted exec mid (call_by w.caller z.0 z.1 w.polls w.hold) new o) (λ i. (coded i, bytes i)) h in
        let same : start_by exec mid ≡ start = ap (λ (x : Channel). x.start) left in
        let a : post_call (start_by exec mid) call mid.now ≡ post_call start call mid.now = ap (λ (z : ChannelStart). post_call z call mid.now) same in
        let P : Answered → Type 0 = λ x. StandsFor x.now.records o x.reply in
        let x : Answered = post_call start call mid.now in
        answered_wish new (line_answer.Called o) (record { reply = Replied x.reply; now = x.now })
        (free_after None e (ap (λ (s : List ℕ). wish_fault w.binding s w.wish) (sym at) ∙ fault))
        ((x.reply, refl, subst P a k.told), ap (channel_by exec) k.left ∙ (λ i. record { start = same i; now = (a i).now }))

    -- the readings of the whole
    pub wish_readings : (new : OpenChannel) → mid.now.taken ≤ ready.now.taken + 1 → new.now.taken ≤ mid.now.taken + 2 → new.now.taken ≤ c.now.taken + 3
    wish_readings new before after = let same : ready.now.taken ≡ c.now.taken = ap (λ (z : OpenChannel). z.now.taken) made.memory in omega (arith, same, before, after)
