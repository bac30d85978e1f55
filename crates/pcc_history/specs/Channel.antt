-- The channel as one thread sees it: a device and a space, with no words, wires, masks or ownership (after ACPI 6.5, chapter 14).
use Rattle.std.specs.Prelude.{ℕ, Bool, true, false, List, ◌++◌, length, drop}
use Rattle.pcc_history.specs.Devices.{Device}

-- the bytes laid over the front of a space
abbrev pub over : List ℕ → List ℕ → List ℕ
over space bytes = bytes ++ drop (length bytes) space

pub record Object : Type 0 where
  pub state : List ℕ
  pub space : List ℕ

-- a command and its outcome: the space that was sent, whether an error was reported, and the space that was returned
pub record Exchange : Type 0 where
  pub code : ℕ
  pub input : List ℕ
  pub error : Bool
  pub output : List ℕ

-- both tests hold
abbrev pub both : Bool → Bool → Bool
both true b = b
both false b = false

-- the exchange that a code and its input make with a device in this state; a bad command is reported as an error if errors are reported
abbrev pub exchange_of : Device → Bool → List ℕ → ℕ → List ℕ → Exchange
exchange_of exec reports state code input =
    let x = exec state code input in record { code = code; input = input; error = both reports x.bad; output = x.space }

-- the channel after a code with its input
abbrev pub object_after : Device → List ℕ → ℕ → List ℕ → Object
object_after exec state code input = let x = exec state code input in record { state = x.state; space = x.space }
