-- What one word step needs, and what the device's turn leaves.
use Rattle.std.specs.Prelude.{◌≡◌, ◌++◌, ℕ, Bool, true, false, List, map, Option}
use Rattle.pcc_steps.specs.declared.answer.AnswerStage.{AnswerStage}
use Rattle.pcc_steps.specs.declared.answer.AnswerStage.TheVariants.{RunDevice}
use Rattle.pcc_steps.specs.Asking.{Ask, ask_budgeted, ask_looking}
use Rattle.pcc_steps.specs.Answering.{Answer}
use Rattle.pcc_steps.specs.Agree.{Answerer}
use Rattle.channel_core.specs.Executions.{Executions, command_by}
use Rattle.channel_plain.specs.declared.pick.Pick.{Pick}
use Rattle.channel_plain.specs.Picks.{CallsState, PlainState, Picked, call_begun}
use Rattle.channel_plain.specs.Holding.{Takes}

-- the memory for an executed command is there, where one is to be executed
abbrev pub SettlesIf : AnswerStage → Bool → Type 0
SettlesIf RunDevice ready = ready ≡ true
SettlesIf _ ready = Unit {0}

-- that memory is used up where a command was executed
abbrev pub ready_after : AnswerStage → Bool → Bool
ready_after RunDevice ready = false
ready_after _ ready = ready

-- the answering end and the list of the executed commands, after the device's turn
pub record IsSettled (y : Answerer) (stage : AnswerStage) (before : Executions) (b : Answer) (d : List ℕ) (after : Executions) : Type 0 where
  pub answer : b ≡ y.m
  pub device : d ≡ y.device
  pub executed : after ≡ record before { commands = before.commands ++ map command_by y.done; ready = ready_after stage before.ready }

-- a pick of an end did what is said, and left this
abbrev pub IsPick : Picked → PlainState → Pick → Type 0
IsPick p s pick = (s ≡ p.state) × (pick ≡ record { action = p.action; value = p.value; end = p.end })

-- it did so at a reading, which the clock gave where it took one
abbrev pub IsPickAt : {K : Type 0} → (K → ℕ) → (K → ℕ → Option ℕ) → K → K → (ℕ → Picked) → PlainState → Pick → Type 0
IsPickAt taken reports old new at s pick = (r : ℕ) × Takes taken reports old new (at r).reads r × IsPick (at r) s pick

-- a call begins: its looks are counted
abbrev pub budget_by : Bool → ℕ → Ask → Ask
budget_by true polls a = ask_budgeted a polls
budget_by false polls a = a

abbrev pub begun_by : Bool → CallsState → CallsState
begun_by true b = call_begun b
begun_by false b = b

abbrev pub begun_with : Bool → ℕ → PlainState → PlainState
begun_with begins polls s = record s { ask = budget_by begins polls s.ask; calls = begun_by begins s.calls }

abbrev pub looking : PlainState → PlainState
looking s = record s { ask = ask_looking s.ask }
