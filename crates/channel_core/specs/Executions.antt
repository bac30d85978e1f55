-- The commands that an answering end has executed, and memory that was taken ahead.
use Rattle.std.specs.Prelude.{◌≡◌, ◌<◌, ℕ, Bool, true, false, List, [], ◌∷◌, ◌++◌, length, Option, Some, None}
use Rattle.pcc_history.specs.Channel.{Exchange}
use Rattle.pcc_journal.specs.declared.command.Command.{Command}
use Rattle.channel_core.specs.declared.executed.Ahead.{Ahead}

-- the commands, and whether the memory for one more is there, with a space of this room
pub record Executions : Type 0 where
  pub commands : List Command
  pub ready : Bool
  pub room : ℕ

abbrev pub command_by : Exchange → Command
command_by x = record { code = x.code; input = x.input; error = x.error; output = x.output }

-- one more command was executed, into the memory that was taken
abbrev pub executed_by : Exchange → Executions → Executions
executed_by x e = record e { commands = e.commands ++ command_by x ∷ []; ready = false }

abbrev pub is_ready : Option Ahead → Bool
is_ready None = false
is_ready (Some a) = true

abbrev pub HasAhead : Option Ahead → ℕ → ℕ → Type 0
HasAhead None room spare = Unit {0}
HasAhead (Some a) room spare = (length a.input.items ≡ room) × (length a.output.items ≡ room) × (0 < spare)
