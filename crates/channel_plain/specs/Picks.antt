-- A channel on a plain list of words, and what a pick of one of its ends makes of it.
use Rattle.std.specs.Prelude.{◌&&◌, nat_lt, ◌==◌, ℕ, ◌+◌, not, Bool, true, false, List, [], ◌∷◌, ◌++◌, length, map, Option, Some, None}
use Rattle.std.specs.List.{slice_get}
use Rattle.pcc_history.specs.Devices.{Device}
use Rattle.rate_limit.specs.declared.Limits.{Limits}
use Rattle.pcc_journal.specs.declared.note.Note.{Note}
use Rattle.pcc_journal.specs.declared.record.Record.{Record}
use Rattle.pcc_journal.specs.declared.record.Pending.{Pending}
use Rattle.pcc_journal.specs.declared.command.Command.{Command}
use Rattle.pcc_journal.specs.Records.{times_of}
use Rattle.pcc_steps.specs.declared.wiring.Wiring.{Wiring}
use Rattle.pcc_steps.specs.declared.wiring.Action.{Action}
use Rattle.pcc_steps.specs.declared.wiring.Action.TheVariants.{Rest}
use Rattle.pcc_steps.specs.declared.ask.AskStage.{AskStage}
use Rattle.pcc_steps.specs.declared.ask.AskStage.TheVariants.{AskRest}
use Rattle.pcc_steps.specs.declared.ask.AskOutcome.{AskOutcome}
use Rattle.pcc_steps.specs.declared.ask.AskOutcome.TheVariants.{Posted, Clear, Drained}
use Rattle.pcc_steps.specs.declared.answer.AnswerStage.{AnswerStage}
use Rattle.pcc_steps.specs.declared.answer.AnswerStage.TheVariants.{AnswerRest}
use Rattle.pcc_steps.specs.declared.answer.AnswerOutcome.{AnswerOutcome}
use Rattle.pcc_steps.specs.declared.answer.AnswerOutcome.TheVariants.{Idle, Served}
use Rattle.pcc_steps.specs.Asking.{Ask, ask_next, ask_fed, ask_told, ask_begun, ask_looking, ask_budgeted}
use Rattle.pcc_steps.specs.Answering.{Answer, answer_next, answer_told, answer_begun}
use Rattle.pcc_steps.specs.Agree.{act, Answerer, answerer_fed, flying, found}
use Rattle.pcc_steps.specs.Kinds.{is_responder}
use Rattle.channel_core.specs.declared.answers.CallRefusal.{CallRefusal}
use Rattle.channel_core.specs.declared.answers.CallRefusal.TheVariants as refusal
use Rattle.channel_core.specs.declared.refusals.TheConstants.{GREATEST_CODE}
use Rattle.channel_core.specs.Refusals.{has_byte_codes, refusal_of as call_refusal, soon_of}
use Rattle.channel_core.specs.Readings.{counted}
use Rattle.channel_core.specs.Sendings.{command_of, given_up_after, is_given_up, note_of, record_of, sent_at}
use Rattle.channel_core.specs.declared.caller.Reading.{Reading}
use Rattle.channel_core.specs.declared.sent.Sent.{Sent}
use Rattle.channel_core.specs.Executions.{command_by}
use Rattle.channel_plain.specs.declared.trace.Side.{Side}
use Rattle.channel_plain.specs.declared.trace.Side.TheVariants.{System, Platform}
use Rattle.channel_plain.specs.declared.trace.Asked.{Asked}
use Rattle.channel_plain.specs.declared.trace.TraceEnd.{TraceEnd}
use Rattle.channel_plain.specs.declared.trace.TraceEnd.TheVariants as end
use Rattle.channel_plain.specs.declared.trace.TraceLine.{TraceLine}

-- the calls, and what came of their commands
pub record CallsState : Type 0 where
  pub limits : Limits
  pub records : List Record
  -- beside each record
  pub notes : List Note
  -- the command that is posted or in flight
  pub sent : Option Sent
  -- how many readings were taken
  pub readings : ℕ
  -- the calls that have ended, and whether the one after them is begun
  pub ended : ℕ
  pub begun : Bool

pub record PlainState : Type 0 where
  pub words : List ℕ
  -- both machines, and the device with the state from which it began
  pub ask : Ask
  pub answer : Answer
  pub device : List ℕ
  pub start : List ℕ
  pub calls : CallsState
  pub executed : List Command

-- what a pick makes of the channel, its word step with the value that this found, what ended with it, and whether it took a reading
pub record Picked : Type 0 where
  pub state : PlainState
  pub action : Action
  pub value : ℕ
  pub end : TraceEnd
  pub reads : Bool

-- the side that asks: the platform on type 4, the operating system on the other types
abbrev pub asks_by : ℕ → Side → Bool
asks_by kind System = not (is_responder kind)
asks_by kind Platform = is_responder kind

-- ---- the calls

abbrev pub call_ended : CallsState → CallsState
call_ended b = record b { ended = b.ended + 1; begun = false }

abbrev pub call_begun : CallsState → CallsState
call_begun b = record b { begun = true }

-- the command in flight, if one is
abbrev pub pending_by : Bool → Option Sent → Option Pending
pending_by true sent = command_of sent
pending_by false sent = None

-- a reading was taken
abbrev pub read_once : CallsState → CallsState
read_once b = record b { readings = counted b.readings }

-- how an end of a run leaves the calls, and what ended with it
pub record Ended : Type 0 where
  pub calls : CallsState
  pub end : TraceEnd

-- the command in flight was an earlier one, or that of the call itself
abbrev pub given_up_end : Bool → ℕ → TraceEnd
given_up_end true looks = end.StillPending looks
given_up_end false looks = end.TimedOut looks

-- a look saw the command incomplete, after N looks: was it the last that the call has?
abbrev pub clear_ended : Bool → ℕ → CallsState → Ended
clear_ended true looks b = record { calls = call_ended (record b { sent = given_up_after looks b.sent }); end = given_up_end (is_given_up b.sent) looks }
clear_ended false looks b = record { calls = b; end = end.Clear looks }

abbrev pub recorded : Option Sent → Bool → List ℕ → ℕ → List Record
recorded None error output done = []
recorded (Some c) error output done = record_of c error output done ∷ []

abbrev pub noted_done : Option Sent → ℕ → List Note
noted_done None number = []
noted_done (Some c) number = note_of c number ∷ []

-- was the command given up before?
abbrev pub drained_calls : Bool → CallsState → CallsState
drained_calls true b = b
drained_calls false b = call_ended b

abbrev pub drained_end : Bool → Bool → TraceEnd
drained_end true error = end.Late error
drained_end false error = end.Done error

-- the command in flight is recorded, with the reading of its completion
abbrev pub drained : Bool → List ℕ → Reading → CallsState → CallsState
drained error output done b = record b {
  records = b.records ++ recorded b.sent error output done.at;
  notes = b.notes ++ noted_done b.sent done.number;
  sent = None;
}

abbrev pub drained_at : Bool → List ℕ → Reading → CallsState → Ended
drained_at error output done b = record {
  calls = drained_calls (is_given_up b.sent) (drained error output done b);
  end = drained_end (is_given_up b.sent) error;
}

-- the next reading
abbrev pub next_reading : ℕ → CallsState → Reading
next_reading at b = record { at = at; number = b.readings }

-- the reply was taken, at the next reading
abbrev pub drain_ended : Bool → List ℕ → ℕ → CallsState → Ended
drain_ended error output done b = drained_at error output (next_reading done b) (read_once b)

-- the command of a call that is posted at a reading, over the space that was drained last
abbrev pub sent_by : Asked → List ℕ → Reading → Sent
sent_by c space reading = sent_at c.caller c.code c.bytes reading space

abbrev pub call_posted : Asked → List ℕ → ℕ → CallsState → CallsState
call_posted c space reading b = record (read_once b) { sent = Some (sent_by c space (next_reading reading b)) }

-- the code doesn't fit the header of types 0 to 2
abbrev pub is_wide : Wiring → Asked → Bool
is_wide w c = has_byte_codes w.kind && nat_lt GREATEST_CODE c.code

-- what a trace says of a refused call; want of memory ends no call
abbrev pub refused_end : Option CallRefusal → Option TraceEnd
refused_end None = None
refused_end (Some (refusal.BadCode code)) = Some (end.BadCode code)
refused_end (Some (refusal.TooLong len room)) = Some (end.TooLong len room)
refused_end (Some refusal.JournalFull) = Some end.JournalFull
refused_end (Some refusal.NoMemory) = None
refused_end (Some (refusal.StillPending looks)) = Some (end.StillPending looks)
refused_end (Some (refusal.TooSoon now earliest)) = Some (end.TooSoon now earliest)
refused_end (Some (refusal.TimedOut looks)) = Some (end.TimedOut looks)

-- what refuses a post at a reading
abbrev pub soon_end : ℕ → CallsState → Option TraceEnd
soon_end reading b = refused_end (soon_of b.limits (times_of b.records) reading)

-- what refuses a call before it is begun
abbrev pub refusal_of : Wiring → Asked → ℕ → ℕ → Option TraceEnd
refusal_of w c records flights = refused_end (call_refusal w.kind w.room c.code (length c.bytes) (records + flights))

-- ---- the asking side

-- how a run ended, if it did: the reading is that of a completion
abbrev pub ask_ended : Option AskOutcome → ℕ → Ask → CallsState → Ended
ask_ended None reading a b = record { calls = b; end = end.Open }
ask_ended (Some Posted) reading a b = record { calls = b; end = end.Posted }
ask_ended (Some Clear) reading a b = clear_ended (a.looks == a.budget) a.looks b
ask_ended (Some (Drained error)) reading a b = drain_ended error a.space reading b

abbrev pub takes_reading : Option AskOutcome → Bool
takes_reading (Some (Drained error)) = true
takes_reading (Some Posted) = false
takes_reading (Some Clear) = false
takes_reading None = false

-- one word step of the run that is under way
abbrev pub ask_stepped : ℕ → PlainState → Picked
ask_stepped reading s = let action = ask_next s.ask in let value : ℕ = found action s.words in
    let told = ask_told s.ask value in let a : Ask = ask_fed s.ask value in
    let e = ask_ended told reading a s.calls in
    record {
      state = record s { words = act action s.words; ask = a; calls = e.calls };
      action = action;
      value = value;
      end = e.end;
      reads = takes_reading told;
    }

-- no word step
abbrev pub rested : PlainState → CallsState → TraceEnd → Bool → Picked
rested s b e reads = record { state = record s { calls = b }; action = Rest; value = 0; end = e; reads = reads }

-- a run that posts the call's command begins, at a reading
abbrev pub posting : Asked → ℕ → PlainState → PlainState
posting c reading s = record s { ask = ask_begun s.ask c.code c.bytes; calls = call_posted c s.ask.space reading s.calls }

-- is the reading below the earliest?
abbrev pub post_or_soon : Option TraceEnd → Asked → ℕ → PlainState → Picked
post_or_soon (Some e) c reading s = rested s (call_ended (read_once s.calls)) e true
post_or_soon None c reading s = record (ask_stepped reading (posting c reading s)) { reads = true }

-- a call is begun and no run is under way: is a command in flight?
abbrev pub served : Bool → Asked → ℕ → PlainState → Picked
served true c reading s = ask_stepped reading (record s { ask = ask_looking s.ask })
served false c reading s = post_or_soon (soon_end reading s.calls) c reading s

-- a call is next: is it refused?
abbrev pub begins : Option TraceEnd → Asked → ℕ → PlainState → Picked
begins (Some e) c reading s = rested s (call_ended s.calls) e false
begins None c reading s = served s.ask.in_flight c reading (record s { ask = ask_budgeted s.ask c.polls; calls = call_begun s.calls })

-- no run is under way: is a call begun, and which call is it, or is next?
abbrev pub from_rest : Bool → Option Asked → ℕ → PlainState → Picked
from_rest b None reading s = rested s s.calls end.Open false
from_rest true (Some c) reading s = served s.ask.in_flight c reading s
from_rest false (Some c) reading s = begins (refusal_of s.ask.wiring c (length s.calls.records) (flying s.ask.in_flight)) c reading s

abbrev pub ask_picked_at : AskStage → List Asked → ℕ → PlainState → Picked
ask_picked_at AskRest calls reading s = from_rest s.calls.begun (slice_get calls s.calls.ended) reading s
ask_picked_at _ calls reading s = ask_stepped reading s

-- ---- the answering side

abbrev pub answer_end : Option AnswerOutcome → TraceEnd
answer_end None = end.Open
answer_end (Some Served) = end.Served
answer_end (Some Idle) = end.Idle

-- a run begins where none is under way
abbrev pub started_at : AnswerStage → Answer → Answer
started_at AnswerRest b = answer_begun b
started_at _ b = b

module _ (exec : Device) where
  -- one word step; a command that is loaded by it is executed
  abbrev pub answer_picked : PlainState → Picked
  answer_picked s = let b : Answer = started_at s.answer.stage s.answer in let action = answer_next b in let value : ℕ = found action s.words in
      let y : Answerer = answerer_fed exec (record { m = b; device = s.device; done = [] }) value in
      record {
        state = record s { words = act action s.words; answer = y.m; device = y.device; executed = s.executed ++ map command_by y.done };
        action = action;
        value = value;
        end = answer_end (answer_told b value);
        reads = false;
      }

  abbrev pub picked_by : Bool → List Asked → ℕ → PlainState → Picked
  picked_by true calls reading s = ask_picked_at s.ask.stage calls reading s
  picked_by false calls reading s = answer_picked s

  -- what a pick of a side makes of the channel; where it takes a reading, that is the one given
  abbrev pub picked : List Asked → Side → ℕ → PlainState → Picked
  picked calls side reading s = picked_by (asks_by s.ask.wiring.kind side) calls reading s

abbrev pub line_of : Side → Picked → TraceLine
line_of side p = record { side = side; action = p.action; value = p.value; end = p.end }
