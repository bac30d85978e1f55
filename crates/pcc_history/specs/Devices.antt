-- Devices of a channel: what a command makes of a device's state and of the communication space.
use Rattle.std.specs.Prelude.{ℕ, ◌==◌, Bool, true, false, if◌then◌else◌, List, ◌∷◌, drop}

-- what is left by a command: the device's new state, whether it found the command bad, and the new space
pub record Executed : Type 0 where
  pub state : List ℕ
  pub bad : Bool
  pub space : List ℕ

-- the meaning of a device, by its state, the command's code and the space
abbrev pub Device : Type 0
Device = List ℕ → ℕ → List ℕ → Executed

-- A Bank is a store of one space; its state is a 0, which marks it, and then the bytes that it holds.
-- Code 16 takes the space in and gives the held bytes out; code 17 gives them out and keeps them; others are bad and change nothing.
abbrev pub bank_exec : Device
bank_exec state code space =
    if code == 16 then record { state = 0 ∷ space; bad = false; space = drop 1 state }
    else if code == 17 then record { state = state; bad = false; space = drop 1 state }
    else record { state = state; bad = true; space = space }
