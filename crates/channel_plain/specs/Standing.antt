-- What holds of a channel on plain words between two picks.
use Rattle.std.specs.Prelude.{◌≡◌, ◌<◌, ◌≤◌, ◌+◌, ℕ, Bool, true, false, not, List, length, Option, Some, None}
use Rattle.std.specs.List.{slice_get}
use Rattle.pcc_history.specs.Devices.{Device}
use Rattle.pcc_history.specs.Channel.{both}
use Rattle.pcc_journal.specs.Records.{exchanges_of, exchanges_of_commands}
use Rattle.pcc_steps.specs.declared.wiring.Wiring.{Wiring}
use Rattle.pcc_journal.specs.declared.command.Command.{Command}
use Rattle.pcc_steps.specs.Answering.{Answer}
use Rattle.pcc_steps.specs.Asking.{Ask}
use Rattle.pcc_steps.specs.Carrying.{carried, is_rest}
use Rattle.pcc_steps.specs.Wires.{block_of}
use Rattle.pcc_steps.specs.Agree.{Asker, Answerer, Agree, flying}
use Rattle.channel_core.specs.Sendings.{is_late}
use Rattle.channel_core.specs.declared.sent.Sent.{Sent}
use Rattle.channel_plain.specs.declared.trace.Asked.{Asked}
use Rattle.channel_plain.specs.Picks.{CallsState, PlainState, is_wide}
use Rattle.channel_plain.specs.News.{opening_of}

-- what the asking end has done that the channel doesn't keep: the looks that saw the command incomplete, and the bytes of each command that was
-- posted or is being posted
pub record Unkept : Type 0 where
  pub clears : ℕ
  pub asked : List (List ℕ)

-- both ends with their histories: what was drained is in the records, what was executed is in the commands
abbrev pub asker_of : PlainState → Unkept → Asker
asker_of s u = record { m = s.ask; done = exchanges_of s.calls.records; clears = u.clears; opening = opening_of s.ask.wiring; asked = u.asked }

abbrev pub answerer_of : PlainState → Answerer
answerer_of s = record { m = s.answer; device = s.device; done = exchanges_of_commands s.executed }

-- a channel by its parts
abbrev pub channel_of : List ℕ → Ask → Answer → List ℕ → List ℕ → CallsState → List Command → PlainState
channel_of words ask answer device start calls executed = record {
  words = words;
  ask = ask;
  answer = answer;
  device = device;
  start = start;
  calls = calls;
  executed = executed;
}

-- the command of the calls is the one that the asking machine has
abbrev pub IsCarried : Bool → Option Sent → ℕ → List ℕ → Type 0
IsCarried false sent code input = sent ≡ None
IsCarried true None code input = ⊥
IsCarried true (Some c) code input = (c.command.code ≡ code) × (c.command.input ≡ input)

-- a call that is begun has looks left, where no run is under way and a command is in flight
abbrev pub LooksBegun : Bool → ℕ → ℕ → Type 0
LooksBegun true looks budget = looks < budget
LooksBegun false looks budget = 0 < budget

-- the command of the call that is begun is posted
abbrev pub owns : Option Sent → Bool
owns None = false
owns (Some c) = not (is_late c)

-- the call that is begun: nothing refuses it
pub record Serving (calls : List Asked) (w : Wiring) (budget records flights : ℕ) (b : CallsState) : Type 0 where
  pub call : Asked
  pub at : slice_get calls b.ended ≡ Some call
  pub code : is_wide w call ≡ false
  pub fits : length call.bytes ≤ w.room
  pub polls : budget ≡ call.polls
  -- as long as its command isn't posted, there is room for one more
  pub room : owns b.sent ≡ false → records + flights < 4096

-- a call that is begun is one of these, and nothing refuses it
abbrev pub IsServing : List Asked → PlainState → Type 0
IsServing calls s = s.calls.begun ≡ true → Serving calls s.ask.wiring s.ask.budget (length s.calls.records) (flying s.ask.in_flight) s.calls

-- each call has a look at least
pub record HavePolls (calls : List Asked) : Type 0 where
  pub least : (i : ℕ) (c : Asked) → slice_get calls i ≡ Some c → 0 < c.polls

-- a command that is being posted or in flight, and isn't executed yet, has the memory for that
pub record IsReady (s : PlainState) (ready : Bool) (room : ℕ) : Type 0 where
  pub fits : room ≡ s.ask.wiring.room
  pub taken : carried s.ask ≡ true → length s.executed ≡ length s.calls.records → ready ≡ true

module _ (exec : Device) (is_state : List ℕ → Type 0) (room_of : List ℕ → ℕ) where
  pub record Stands (s : PlainState) : Type 0 where
    -- the relation of the words with both ends
    pub unkept : Unkept
    pub agree : Agree exec s.start s.words (asker_of s unkept) (answerer_of s)
    pub long : length s.words ≡ 8 + block_of s.ask.wiring
    pub start : is_state s.start
    pub room : room_of s.start ≡ s.ask.wiring.room
    pub carries : IsCarried (carried s.ask) s.calls.sent s.ask.code s.ask.input
    -- a run of the asking side belongs to a call that is begun
    pub runs : is_rest s.ask.stage ≡ false → s.calls.begun ≡ true
    pub looks : s.calls.begun ≡ true → LooksBegun (both (is_rest s.ask.stage) s.ask.in_flight) s.ask.looks s.ask.budget
    -- a command that is being posted is that of the call
    pub own : carried s.ask ≡ true → s.ask.in_flight ≡ false → owns s.calls.sent ≡ true

  abbrev pub Holds : PlainState → Bool → ℕ → Type 0
  Holds s ready room = Stands s × IsReady s ready room
