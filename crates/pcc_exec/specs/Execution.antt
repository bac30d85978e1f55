-- What an execution leaves, by the meaning of its device.
use Rattle.std.specs.Prelude.{◌≡◌, ℕ, ◌-◌, Bool, true, false, List, ◌∷◌, length}
use Rattle.pcc_bytes.specs.Bytes.{IsBytes}
use Rattle.pcc_history.specs.Devices.{Device, Executed}
use Rattle.pcc_exec.specs.declared.executor.ExecStatus.{ExecStatus}
use Rattle.pcc_exec.specs.declared.executor.ExecStatus.TheVariants.{Good, Bad}

abbrev pub is_bad : ExecStatus → Bool
is_bad Good = false
is_bad Bad = true

-- the new state, the status and the new space are those that the device gives for the state, the code and the space before
abbrev pub Executes : Device → List ℕ → ℕ → List ℕ → ExecStatus → List ℕ → List ℕ → Type 0
Executes exec_of state code space status state' space' =
    exec_of state code space ≡ record { state = state'; bad = is_bad status; space = space' }

-- a communication space: this many bytes
pub record IsSpace (room : ℕ) (bytes : List ℕ) : Type 0 where
  pub long : length bytes ≡ room
  pub fits : IsBytes bytes

-- a command leaves a space of the same room, and a state that the device can be in, for the same room
pub record Leaves (is_state : List ℕ → Type 0) (room_of : List ℕ → ℕ) (before : List ℕ) (left : Executed) : Type 0 where
  pub space : IsSpace (room_of before) left.space
  pub state : is_state left.state
  pub room : room_of left.state ≡ room_of before

-- the state of a Bank: its mark, and the bytes that it holds
pub record IsBank (state : List ℕ) : Type 0 where
  pub held : List ℕ
  pub spelled : state ≡ 0 ∷ held
  pub bytes : IsBytes held

-- a Bank holds one space; the first number of its state is its mark
abbrev pub bank_room : List ℕ → ℕ
bank_room state = length state - 1
