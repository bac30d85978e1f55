-- What contracts see of both ends: what their calls depend on, and what they have done.
use Rattle.std.specs.Prelude.{◌≡◌, ℕ, ◌+◌, Bool, List}
use Rattle.pcc_history.specs.Devices.{Device}
use Rattle.pcc_io.specs.LineClocks.{LineState}
use Rattle.pcc_journal.specs.declared.text.JournalHead.{JournalHead}
use Rattle.rate_limit.specs.declared.Limits.{Limits}
use Rattle.channel_core.specs.CommandHistory.{CommandHistory}
use Rattle.channel_core.specs.Sendings.{command_of}
use Rattle.channel_core.specs.declared.answers.Look.{Look}
use Rattle.channel_core.specs.declared.answers.Look.TheVariants as look
use Rattle.channel_turns.specs.EndsStates.{EndsState}
use Rattle.channel_turns.specs.Counts.{Counts, Spent}
use Rattle.channel_turns.specs.Standing.{LinkState, Stands, seen}

pub record EndsSeen : Type 0 where
  pub state : EndsState
  pub counts : Counts

-- what is seen of both ends, by their start and by what they are now
abbrev pub ends_seen : Device → JournalHead → LineState → LinkState → LinkState → CommandHistory → Bool → ℕ → ℕ → ℕ → EndsSeen
ends_seen exec head clock start link h executed hold clears turns = record {
  state = seen exec head clock start.device start.ask.space link h executed hold;
  counts = record { clears = clears; turns = turns; steps = link.ask.steps };
}

-- the words and both machines are right for the history
abbrev pub IsConnected : Device → (List ℕ → Type 0) → (List ℕ → ℕ) → JournalHead → LinkState → LinkState → CommandHistory → Bool → Type 0
IsConnected exec is_state room_of head start link h executed =
    Stands exec head start.device start.ask.space is_state room_of link h.records (command_of h.sent) executed

abbrev pub nothing_spent : Counts
nothing_spent = record { clears = 0; turns = 0; steps = 0 }

-- a look that saw clear takes one word step, and one that took the reply all steps of a look at most
abbrev pub SpentByLook : ℕ → Look → Counts → Counts → Type 0
SpentByLook block (look.Clear looks) = Spent 1 0 1
SpentByLook block (look.Drained place late) = Spent 0 0 (block + 6)

-- the limits are those of the head, and the readings are counted as the clock counts them
pub record IsKept (head : JournalHead) (limits : Limits) (clock : LineState) (readings : ℕ) : Type 0 where
  pub limited : limits ≡ head.limits
  pub counted : readings ≡ clock.taken
