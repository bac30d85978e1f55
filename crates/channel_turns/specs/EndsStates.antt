-- Both ends of a channel in one thread that calls them in turn, and what each call makes of them. There is no machine and no word in it.
use Rattle.std.specs.Prelude.{◌==◌, ℕ, ◌+◌, ◌-◌, nat_lt, Bool, true, false, not, if◌then◌else◌, List, length, Option, Some, None}
use Rattle.pcc_causes.specs.Clock.{line_reading}
use Rattle.pcc_history.specs.Devices.{Device}
use Rattle.pcc_history.specs.Channel.{Exchange, Object, exchange_of, object_after}
use Rattle.rate_limit.specs.RateLimits.{earliest_of}
use Rattle.pcc_journal.specs.declared.record.Pending.{Pending}
use Rattle.pcc_journal.specs.declared.text.JournalHead.{JournalHead}
use Rattle.pcc_journal.specs.Records.{times_of}
use Rattle.pcc_steps.specs.Agree.{flying}
use Rattle.pcc_steps.specs.declared.wiring.Wiring.{Wiring}
use Rattle.channel_core.specs.CommandHistory.{CommandHistory, marked_done, marked_late, marked_post, no_commands}
use Rattle.channel_core.specs.Readings.{counted, more_time}
use Rattle.channel_core.specs.Readying.{ReadyCommand, sent_by}
use Rattle.channel_core.specs.Sendings.{command_of, is_given_up}
use Rattle.channel_core.specs.declared.answers.Look.{Look}
use Rattle.channel_core.specs.declared.answers.Look.TheVariants as look
use Rattle.channel_core.specs.declared.answers.Turn.{Turn}
use Rattle.channel_core.specs.declared.answers.Turn.TheVariants as turn
use Rattle.channel_core.specs.declared.sent.Sent.{Sent}
use Rattle.channel_turns.specs.ChannelRuns.{ChannelStart, ScriptClock, journal_limit}

pub record EndsState : Type 0 where
  -- what stays: the head of the journal, the wiring, the clock, the device's state at the start and the communication space at the start
  pub head : JournalHead
  pub wiring : Wiring
  pub clock : ScriptClock
  pub first : List ℕ
  pub opening : List ℕ
  -- the channel after the recorded commands: a command in flight is not in it, executed or not
  pub object : Object
  -- the commands that were drained, and the one in flight, with their notes
  pub history : CommandHistory
  -- the device has executed the command in flight, and its reply waits: false where nothing is in flight
  pub executed : Bool
  -- the readings that the clock gave, and the time that was added to it
  pub taken : ℕ
  pub added : ℕ
  -- the turns for which the next command is held
  pub hold : ℕ
  -- the looks that are allowed, and those that were made
  pub budget : ℕ
  pub looks : ℕ

-- nothing was asked yet
abbrev pub new_ends : JournalHead → Wiring → ℕ → ℕ → List ℕ → List ℕ → EndsState
new_ends head wiring start step state opening = record {
  head = head;
  wiring = wiring;
  clock = record { start = start; step = step };
  first = state;
  opening = opening;
  object = record { state = state; space = opening };
  history = no_commands;
  executed = false;
  taken = 0;
  added = 0;
  hold = 0;
  budget = 0;
  looks = 0;
}

-- ---- what can be read off

-- the next reading
abbrev pub reading_of : EndsState → ℕ
reading_of s = line_reading s.clock.start s.clock.step s.added s.taken

-- the least reading for the next post
abbrev pub earliest_post : EndsState → ℕ
earliest_post s = earliest_of s.head.limits (times_of s.history.records)

-- the doorbell line is up: a command is in flight, and not executed
abbrev pub rings_for : Option Pending → Bool → Bool
rings_for None executed = false
rings_for (Some p) executed = not executed

abbrev pub rings : EndsState → Bool
rings s = rings_for (command_of s.history.sent) s.executed

-- a command is made ready for these ends
abbrev pub ready_with : EndsState → ℕ → List ℕ → ReadyCommand
ready_with s code bytes = record { kind = s.head.kind; room = s.head.room; code = code; bytes = bytes }

-- ---- what the calls make of it

abbrev pub budgeted : ℕ → EndsState → EndsState
budgeted polls s = record s { budget = polls; looks = 0 }

abbrev pub read_once : EndsState → EndsState
read_once s = record s { taken = counted s.taken }

-- the command as it is posted at the next reading
abbrev pub next_sent : ℕ → ReadyCommand → EndsState → Sent
next_sent caller r s = sent_by caller r (record { at = reading_of s; number = s.taken }) s.object.space

abbrev pub posted : ℕ → ReadyCommand → EndsState → EndsState
posted caller r s = record s { history = marked_post (next_sent caller r s) s.history; executed = false; taken = counted s.taken; looks = 0 }

abbrev pub gave_up : EndsState → EndsState
gave_up s = record s { history = marked_late s.looks s.history }

abbrev pub waited : ℕ → EndsState → EndsState
waited n s = record s { added = more_time n s.added }

pub record Turned : Type 0 where
  pub now : EndsState
  pub told : Turn

-- a turn of the answering end: held, full, and then by the command in flight
abbrev pub turned : EndsState → Turned
turned s =
    if nat_lt 0 s.hold then record { now = record s { hold = s.hold - 1 }; told = turn.Held (s.hold - 1) }
    else if length s.history.records + flying s.executed == journal_limit then record { now = s; told = turn.JournalFull }
    else if rings s then record { now = record s { executed = true }; told = turn.Served }
    else record { now = s; told = turn.Idle }

pub record Looked : Type 0 where
  pub now : EndsState
  pub told : Look

module _ (exec : Device) where
  abbrev pub start_of : EndsState → ChannelStart
  start_of s = record { head = s.head; clock = s.clock; device = exec; state = s.first; opening = s.opening }

  -- the exchange of the command in flight, executed or not
  abbrev pub exchange_in : EndsState → Pending → Exchange
  exchange_in s p = exchange_of exec s.head.reports s.object.state p.code p.input

  -- the reply is taken: the next reading is the completion, and the command is recorded
  abbrev pub drained : Pending → EndsState → EndsState
  drained p s = let x = exchange_in s p in record s {
    object = object_after exec s.object.state p.code p.input;
    history = marked_done x.error x.output (reading_of s) s.taken s.history;
    executed = false;
    taken = counted s.taken;
  }

  -- a look of the asking end for the command in flight
  abbrev pub looked_for : Option Sent → EndsState → Looked
  looked_for None s = record { now = s; told = look.Clear s.looks }
  looked_for (Some c) s =
      if s.executed then record { now = drained c.command s; told = look.Drained (length s.history.records) (is_given_up s.history.sent) }
      else record { now = record s { looks = s.looks + 1 }; told = look.Clear (s.looks + 1) }

  abbrev pub looked : EndsState → Looked
  looked s = looked_for s.history.sent s

  -- ---- polls

  pub record Awaited : Type 0 where
    pub now : EndsState
    -- the place of the record, where the reply was taken
    pub place : Option ℕ

  -- N polls, each a turn and a look, for a command that isn't executed: it is executed and drained exactly when its hold is below N
  abbrev pub awaited_for : Option Sent → ℕ → EndsState → Awaited
  awaited_for None polls s = record { now = s; place = None }
  awaited_for (Some c) polls s =
      if nat_lt s.hold polls then record { now = record (drained c.command s) { hold = 0; looks = s.looks + s.hold }; place = Some (length s.history.records) }
      else record { now = record s { hold = s.hold - polls; looks = s.looks + polls }; place = None }

  abbrev pub awaited : ℕ → EndsState → Awaited
  awaited polls s = awaited_for s.history.sent polls s
