-- What becomes of an input: a command makes something of it, or refuses it, by one line.
use Rattle.std.specs.Prelude.{◌≡◌, ◌≤◌, ◌<◌, ℕ, List, length, Option, Some}
use Rattle.pcc_setup.specs.declared.refusal.Refusal.{Refusal}
use Rattle.pcc_setup.specs.declared.refusal.Refusal.TheVariants as refusal
use Rattle.pccrun_core.specs.declared.command.Command.{Command}
use Rattle.pccrun_core.specs.Answers.{AsksFor, IsMade, input_limit}
use Rattle.pccrun_core.specs.Refusals.{Refuses}

-- the input isn't too long, and the command makes something of it
pub record IsAccepted (c : Command) (input : List ℕ) : Type 0 where
  pub short : length input ≤ input_limit
  pub made : IsMade c input

-- the input is too long, or the command refuses it
pub data Rejects (c : Command) (input : List ℕ) : Refusal → Type 0 where
  Exceeds : input_limit < length input → Rejects c input refusal.Long
  Within : length input ≤ input_limit → (r : Refusal) → Refuses c input r → Rejects c input r

-- the input is refused
pub record IsRejected (c : Command) (input : List ℕ) : Type 0 where
  pub cause : Refusal
  pub rejects : Rejects c input cause

-- words that ask for a command, and an input that is refused with this cause
pub record IsRefusedInput (words : List (List ℕ)) (left : Option (List ℕ)) (cause : Refusal) : Type 0 where
  pub command : Command
  pub asked : AsksFor words command
  pub input : List ℕ
  pub whole : left ≡ Some input
  pub rejects : Rejects command input cause
