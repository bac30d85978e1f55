-- Calls and reads of a channel, as asks of a run.
use Rattle.std.proofs.Common.{◌≡◌, ℕ, Bool, true, false, cond, List, refl, sym, ap, ◌∙◌, subst}
use Rattle.std.specs.Prelude.{Option, Some, None, nat_lt}
use Rattle.pcc_history.specs.Devices.{Device}
use Rattle.cpc_package.specs.declared.binding.Binding.{Binding}
use Rattle.cpc_package.specs.Bindings.{CanRead, IsRight, LiesIn, source_at}
use Rattle.cpc_package.specs.declared.binding.Source1.{Source1}
use Rattle.cpc_package.specs.declared.binding.Source1.TheVariants.{Missing, Number, At}
use Rattle.cppc_device.specs.Ranges.{Fits, values_in}
use Rattle.cppc_device.specs.declared.values.Values as values
use Rattle.rate_limit.specs.RateLimits.{earliest_of}
use Rattle.pcc_journal.specs.Records.{times_of}
use Rattle.channel_turns.specs.Calls.{IsAnswered, OpenChannel, start_by}
use Rattle.channel_turns.specs.ChannelRuns.{Answered, Call, ChannelStart, ChannelState, Polled, after_polls, answer_call, answer_unless, next_reading, polled, post_call, refusal_of, replied}
use Rattle.channel_core.specs.declared.answers.CallRefusal.{CallRefusal}
use Rattle.channel_core.specs.declared.answers.CallRefusal.TheVariants as refusal
use Rattle.channel_turns.specs.Outcomes.{StandsFor}
use Rattle.channel_turns.specs.Replies.{Reply, Done, BadCode, TooLong, JournalFull, StillPending, TooSoon, TimedOut}
use Rattle.channel_turns.specs.declared.outcome.Outcome.{Outcome}
use Rattle.channel_headline.specs.Asked.{Replied}
use Rattle.script_run.specs.Channels.{IsAnsweredBy}
use Rattle.script_run.specs.DeviceChannels.{channel_by}
use Rattle.script_run.specs.StepRun.{ByChannel, OfCall, OfRead, ReadCall, ShownReply, call_of, is_good, shown_read}
use Rattle.script_run.specs.StepRun as run
use Rattle.script_run.specs.declared.outcome.LineAnswer.TheVariants as line_answer

module _ (exec : Device) (old new : OpenChannel) where
  pub answered_call : (call : Call) (o : Outcome) → IsAnswered exec old call new o → IsAnsweredBy (channel_by exec old) (OfCall call) (channel_by exec new) (line_answer.Called o)
  answered_call call o h = record {
    reply = ((answer_call (start_by exec old) call old.now).reply, refl, h.told);
    left = ap (channel_by exec) h.left;
  }

  -- the reply of a call, by the records that it left
  stands : (call : Call) (o : Outcome) → IsAnswered exec old call new o → StandsFor new.now.records o (answer_call (start_by exec old) call old.now).reply
  stands call o h = subst (λ (now : ChannelState). StandsFor now.records o (answer_call (start_by exec old) call old.now).reply) (sym (ap (λ (c : OpenChannel). c.now) h.left)) h.told

  -- a read that shows no numbers
  pub read_called : (r : ReadCall) (o : Outcome) (good : Bool) → IsAnswered exec old (call_of r) new o
      → ((reply : Reply) → StandsFor new.now.records o reply → good ≡ is_good reply) → good ≡ false
      → IsAnsweredBy (channel_by exec old) (OfRead r) (channel_by exec new) (line_answer.Called o)
  read_called r o good h k bad = let reply : Reply = (answer_call (start_by exec old) (call_of r) old.now).reply in record {
    reply = (reply, plain reply (sym (k reply (stands (call_of r) o h)) ∙ bad), h.told);
    left = ap (channel_by exec) h.left;
  }
    where
      plain : (x : Reply) → is_good x ≡ false → shown_read r.binding x ≡ ByChannel (Replied x)
      plain (Done false output) e = absurd (cc e)
      plain (Done true output) e = refl
      plain (BadCode c) e = refl
      plain (TooLong l m) e = refl
      plain JournalFull e = refl
      plain (StillPending n) e = refl
      plain (TooSoon n m) e = refl
      plain (TimedOut n) e = refl

-- ---- the space that comes back

-- a command that is done leaves its output as the space
abbrev pub LeavesOutput : Reply → ChannelState → Type 0
LeavesOutput (Done error output) now = now.object.space ≡ output
LeavesOutput _ now = Unit {0}

choose : (b : Bool) (x y : Answered) → LeavesOutput x.reply x.now → LeavesOutput y.reply y.now → LeavesOutput (cond b x y).reply (cond b x y).now
choose true x y h k = h
choose false x y h k = k

refusal_leaves : (o : Option CallRefusal) (now : ChannelState) → (reply : Reply) → replied o ≡ Some reply → LeavesOutput reply now
refusal_leaves o now (Done error output) e = never o e
  where
    never : (o : Option CallRefusal) → replied o ≡ Some (Done error output) → now.object.space ≡ output
    never None e = absurd (cc e)
    never (Some (refusal.BadCode c)) e = absurd (cc e)
    never (Some (refusal.TooLong l m)) e = absurd (cc e)
    never (Some refusal.JournalFull) e = absurd (cc e)
    never (Some refusal.NoMemory) e = absurd (cc e)
    never (Some (refusal.StillPending n)) e = absurd (cc e)
    never (Some (refusal.TooSoon n m)) e = absurd (cc e)
    never (Some (refusal.TimedOut n)) e = absurd (cc e)
refusal_leaves o now (BadCode c) e = tt
refusal_leaves o now (TooLong l m) e = tt
refusal_leaves o now JournalFull e = tt
refusal_leaves o now (StillPending n) e = tt
refusal_leaves o now (TooSoon n m) e = tt
refusal_leaves o now (TimedOut n) e = tt

posts_leave : (start : ChannelStart) (call : Call) (now : ChannelState) → let a = post_call start call now in LeavesOutput a.reply a.now
posts_leave start call now = choose (nat_lt (next_reading start now) (earliest_of start.head.limits (times_of now.records))) _ _ tt (choose (nat_lt call.hold call.polls) _ _ refl tt)

polls_leave : (start : ChannelStart) (call : Call) (p : Polled) → let a = after_polls start call p in LeavesOutput a.reply a.now
polls_leave start call p = choose p.free _ _ (posts_leave start call p.now) tt

pub answers_leave : (start : ChannelStart) (call : Call) (now : ChannelState) → let a = answer_call start call now in LeavesOutput a.reply a.now
answers_leave start call now = by (refusal_of start.head call now) refl
  where
    by : (o : Option Reply) → refusal_of start.head call now ≡ o → let a = answer_unless start call now o in LeavesOutput a.reply a.now
    by (Some reply) e = refusal_leaves _ now reply e
    by None e = polls_leave start call (polled start call.polls now)

-- ---- a read that shows numbers

shows : (b : Binding) (reply : Reply) (now : ChannelState) → is_good reply ≡ true → LeavesOutput reply now → shown_read b reply ≡ run.Values b now.object.space
shows b (Done false output) now e h = ap (run.Values b) (sym h)
shows b (Done true output) now e h = absurd (cc e)
shows b (BadCode c) now e h = absurd (cc e)
shows b (TooLong l m) now e h = absurd (cc e)
shows b JournalFull now e h = absurd (cc e)
shows b (StillPending n) now e h = absurd (cc e)
shows b (TooSoon n m) now e h = absurd (cc e)
shows b (TimedOut n) now e h = absurd (cc e)

pub read_values : (exec : Device) (old new : OpenChannel) (r : ReadCall) (o : Outcome) (good : Bool) (space : List ℕ) (v : values.Values) → IsAnswered exec old (call_of r) new o
    → ((reply : Reply) → StandsFor new.now.records o reply → good ≡ is_good reply) → good ≡ true → space ≡ new.now.object.space → v.entries ≡ values_in r.binding space
    → IsAnsweredBy (channel_by exec old) (OfRead r) (channel_by exec new) (line_answer.Read v)
read_values exec old new r o good space v h k is at e =
    let a : Answered = answer_call (start_by exec old) (call_of r) old.now in
    let now_is : new.now ≡ a.now = ap (λ (c : OpenChannel). c.now) h.left in
    let shown = shows r.binding a.reply a.now (sym (k a.reply (stands exec old new (call_of r) o h)) ∙ is) (answers_leave (start_by exec old) (call_of r) old.now) in
    record {
      reply = (r.binding, a.now.object.space, shown, e ∙ ap (values_in r.binding) (at ∙ ap (λ (n : ChannelState). n.object.space) now_is));
      left = ap (channel_by exec) h.left;
    }

-- the fields of a right binding can be read in a space that they lie in
pub fits_in : (b : Binding) (len : ℕ) → IsRight b → LiesIn len b → Fits len b
fits_in b len right inside n = by (source_at b n) refl
  where
    by : (s : Source1) → source_at b n ≡ s → CanRead len s
    by Missing e = tt
    by (Number v) e = tt
    by (At f) e = (right.widths n f e, inside n f e)
