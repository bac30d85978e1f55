-- A channel in the run of `step`: what it is, as one thread sees it, and what a call is answered and how it leaves the channel.
-- There is no machine, no word and no look in it.
use Rattle.std.specs.Prelude.{ℕ, ◌+◌, ◌-◌, nat_lt, Bool, true, false, if◌then◌else◌, List, [], ◌∷◌, ◌++◌, length, Option, Some, None}
use Rattle.pcc_causes.specs.Clock.{line_reading}
use Rattle.pcc_history.specs.Devices.{Device}
use Rattle.pcc_history.specs.Channel.{Exchange, Object, exchange_of, object_after, over}
use Rattle.rate_limit.specs.RateLimits.{earliest_of}
use Rattle.pcc_journal.specs.declared.reserved.TheConstants.{MAX_ITEMS}
use Rattle.pcc_journal.specs.declared.record.Record.{Record}
use Rattle.pcc_journal.specs.declared.record.Pending.{Pending}
use Rattle.pcc_journal.specs.declared.text.JournalHead.{JournalHead}
use Rattle.pcc_journal.specs.Records.{times_of}
use Rattle.channel_core.specs.Refusals as refusals
use Rattle.channel_core.specs.Sendings.{posted_at, recorded}
use Rattle.channel_core.specs.declared.answers.CallRefusal.{CallRefusal}
use Rattle.channel_core.specs.declared.answers.CallRefusal.TheVariants as refusal
use Rattle.channel_turns.specs.Replies.{Reply, Done, BadCode, TooLong, JournalFull, StillPending, TooSoon, TimedOut}

-- ---- an opened subspace

-- the start and the step of a clock, in microseconds
pub record ScriptClock : Type 0 where
  pub start : ℕ
  pub step : ℕ

-- what stays: the head of its journal, its clock, its device with the state at the start, and the communication space at the start
pub record ChannelStart : Type 0 where
  pub head : JournalHead
  pub clock : ScriptClock
  pub device : Device
  pub state : List ℕ
  pub opening : List ℕ

-- a command in flight, and what is left of its hold
pub record InFlight : Type 0 where
  pub command : Pending
  pub left : ℕ

abbrev pub pending_of : Option InFlight → Option Pending
pending_of None = None
pending_of (Some p) = Some p.command

-- the reading at which the command in flight was posted
abbrev pub post_of : Option InFlight → Option ℕ
post_of in_flight = posted_at (pending_of in_flight)

-- what changes: the channel, the records, the command in flight, how many readings its clock gave, and the time that was added to the clock
pub record ChannelState : Type 0 where
  pub object : Object
  pub records : List Record
  pub in_flight : Option InFlight
  pub taken : ℕ
  pub added : ℕ

pub record Channel : Type 0 where
  pub start : ChannelStart
  pub now : ChannelState

-- nothing was asked yet
abbrev pub fresh : ChannelStart → ChannelState
fresh start = record { object = record { state = start.state; space = start.opening }; records = []; in_flight = None; taken = 0; added = 0 }

-- the next reading
abbrev pub next_reading : ChannelStart → ChannelState → ℕ
next_reading start now = line_reading start.clock.start start.clock.step now.added now.taken

-- the records of a journal at most
abbrev pub journal_limit : ℕ
journal_limit = MAX_ITEMS

abbrev pub count_in_flight : Option InFlight → ℕ
count_in_flight None = 0
count_in_flight (Some p) = 1

-- ---- a call

pub record Call : Type 0 where
  pub caller : ℕ
  pub code : ℕ
  pub bytes : List ℕ
  pub polls : ℕ
  pub hold : ℕ

abbrev pub call_by : ℕ → ℕ → List ℕ → ℕ → ℕ → Call
call_by caller code bytes polls hold = record { caller = caller; code = code; bytes = bytes; polls = polls; hold = hold }

-- what a line is answered, and how it leaves the channel
pub record Answered : Type 0 where
  pub reply : Reply
  pub now : ChannelState

-- what is answered where a call is refused
abbrev pub reply_to : CallRefusal → Option Reply
reply_to (refusal.BadCode code) = Some (BadCode code)
reply_to (refusal.TooLong len room) = Some (TooLong len room)
reply_to refusal.JournalFull = Some JournalFull
reply_to refusal.NoMemory = None
reply_to (refusal.StillPending looks) = Some (StillPending looks)
reply_to (refusal.TooSoon now earliest) = Some (TooSoon now earliest)
reply_to (refusal.TimedOut looks) = Some (TimedOut looks)

abbrev pub replied : Option CallRefusal → Option Reply
replied None = None
replied (Some e) = reply_to e

-- a call that is refused by itself, or by a full journal
abbrev pub refusal_of : JournalHead → Call → ChannelState → Option Reply
refusal_of head call now = replied (refusals.refusal_of head.kind head.room call.code (length call.bytes) (length now.records + count_in_flight now.in_flight))

abbrev pub exchange_with : ChannelStart → Pending → ChannelState → Exchange
exchange_with start command now = exchange_of start.device start.head.reports now.object.state command.code command.input

-- the device executes a posted command; the next reading is its completion, and it is recorded
abbrev pub completed : ChannelStart → Pending → Bool → ChannelState → ChannelState
completed start command late now = let x = exchange_with start command now in record {
  object = object_after start.device now.object.state command.code command.input;
  records = now.records ++ recorded command x.error x.output (next_reading start now) late ∷ [];
  in_flight = None;
  taken = now.taken + 1;
  added = now.added;
}

-- a posted command is executed in its call exactly when its hold is below the polls
abbrev pub after_post : ChannelStart → Call → Pending → ChannelState → Answered
after_post start call command now =
    if nat_lt call.hold call.polls then (
    let x = exchange_with start command now in
    record { reply = Done x.error x.output; now = completed start command false now }
    ) else record { reply = TimedOut call.polls; now = record now { in_flight = Some (record { command = command; left = call.hold - call.polls }) } }

-- nothing is in flight: the next reading is taken, and where the limits allow it, it is the post of this call
abbrev pub post_call : ChannelStart → Call → ChannelState → Answered
post_call start call now =
    let reading = next_reading start now in
    let earliest = earliest_of start.head.limits (times_of now.records) in
    let later = record now { taken = now.taken + 1 } in
    if nat_lt reading earliest then record { reply = TooSoon reading earliest; now = later }
    else after_post start call (record { caller = call.caller; code = call.code; input = over now.object.space call.bytes; post = reading }) later

-- what the polls for an earlier command leave: whether nothing is in flight after them, and the channel then
pub record Polled : Type 0 where
  pub free : Bool
  pub now : ChannelState

-- An earlier command is completed exactly when the rest of its hold is below the polls. Else it stays in flight, and the polls are taken off its hold.
abbrev pub polled_for : ChannelStart → ℕ → ChannelState → Option InFlight → Polled
polled_for start polls now None = record { free = true; now = now }
polled_for start polls now (Some p) =
    if nat_lt p.left polls then record { free = true; now = completed start p.command true now }
    else record { free = false; now = record now { in_flight = Some (record p { left = p.left - polls }) } }

abbrev pub polled : ChannelStart → ℕ → ChannelState → Polled
polled start polls now = polled_for start polls now now.in_flight

-- once nothing is in flight, a call is answered by its post; until then the earlier command is still pending
abbrev pub after_polls : ChannelStart → Call → Polled → Answered
after_polls start call p =
    if p.free then post_call start call p.now
    else record { reply = StillPending call.polls; now = p.now }

abbrev pub answer_unless : ChannelStart → Call → ChannelState → Option Reply → Answered
answer_unless start call now (Some refusal) = record { reply = refusal; now = now }
answer_unless start call now None = after_polls start call (polled start call.polls now)

-- what refuses a call comes first, then the polls for an earlier command, and then the post
abbrev pub answer_call : ChannelStart → Call → ChannelState → Answered
answer_call start call now = answer_unless start call now (refusal_of start.head call now)
