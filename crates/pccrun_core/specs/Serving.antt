-- A text that spells a script, which a command serves.
use Rattle.std.specs.Prelude.{◌≡◌, ℕ, List, None}
use Rattle.pcc_script.specs.Text.{IsScenario, script_text}
use Rattle.pcc_script.specs.declared.scenario.Scenario.{Scenario}
use Rattle.pcc_setup.specs.SetUps.{IsSetUpOf, Opens}
use Rattle.pcc_setup.specs.declared.opening.Opened.{Opened}
use Rattle.pcc_setup.specs.declared.setup.SetUp.{SetUp}
use Rattle.pccrun_core.specs.declared.command.Command.{Command}
use Rattle.pccrun_core.specs.Uses.{use_fault}

-- a text spells a scenario
pub record IsSpelled (text : List ℕ) (s : Scenario) : Type 0 where
  pub spelled : text ≡ script_text s
  pub scenario : IsScenario s

-- this is the set-up of a script, and the command can be used with it
pub record IsSetUpFor (c : Command) (s : Scenario) (u : SetUp) : Type 0 where
  pub set_up : IsSetUpOf s u
  pub used : use_fault c s ≡ None

-- a text spells a script, these subspaces are what the script opens, and the command can be used with it
pub record Serves (c : Command) (input : List ℕ) (s : Scenario) (opened : List Opened) : Type 0 where
  pub spells : IsSpelled input s
  pub opens : Opens s opened
  pub used : use_fault c s ≡ None
