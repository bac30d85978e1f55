-- What the journal of an opened subspace is judged by: the device and the communication space with which its channel begins.
use Rattle.std.specs.Prelude.{◌≡◌, ◌<◌, ◌^◌, if◌then◌else◌, [], ◌∷◌, length}
use Rattle.pcc_history.specs.Devices.{bank_exec}
use Rattle.cppc_device.specs.Openings.{new_device, opening}
use Rattle.cppc_device.specs.States.{cppc_exec, cppc_state}
use Rattle.pcc_audit.specs.Verdicts.{Board}
use Rattle.pcc_setup.specs.Equipment.{CanBegin}
use Rattle.pcc_setup.specs.Openings.{zeros_in}
use Rattle.pcc_setup.specs.declared.opening.Opened.{Opened}

-- a Bank and a communication space of zeros
abbrev pub bank_board : Opened → Board
bank_board o = record { head = o.head; exec = bank_exec; start = 0 ∷ zeros_in o.head; opening = zeros_in o.head; cpus = [] }

-- a controller of performance, whose registers are in its communication space at first
abbrev pub controller_board : Opened → Board
controller_board o = record {
  head = o.head;
  exec = cppc_exec;
  start = cppc_state (new_device o.wiring.room o.image o.cpus o.caps);
  opening = opening o.wiring.room o.image;
  cpus = o.cpus;
}

abbrev pub board_of : Opened → Board
board_of o = if o.head.cppc then controller_board o else bank_board o

-- a journal can be judged by what is opened
pub record CanJudge (o : Opened) : Type 0 where
  pub begins : CanBegin o
  pub room : o.head.room ≡ o.wiring.room
  pub small : o.head.room < 2 ^ 32
  pub few : length o.caps < 2 ^ 32
