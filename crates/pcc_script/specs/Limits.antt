-- The limits of a scenario, as facts of its fields alone.
use Rattle.std.specs.Prelude.{ℕ, ◌≤◌, ◌-◌, ◌^◌, length, IfSome}
use Rattle.std.specs.List.{AllByRecursion}
use Rattle.pcc_bytes.specs.Bytes.{IsBytes}
use Rattle.pcc_script.specs.declared.limits.TheConstants.{MAX_CODE, MAX_CPU, MAX_HOLD, MAX_ID, MAX_POLLS, MAX_WORKER}
use Rattle.pcc_script.specs.declared.limits.TheConstants.{MAX_ACTIONS, MAX_CAPS, MAX_CPUS, MAX_LETTERS, MAX_OPENS}
use Rattle.pcc_script.specs.declared.scenario.Device.{Device}
use Rattle.pcc_script.specs.declared.scenario.Device.TheVariants.{Bank, Cppc}
use Rattle.pcc_script.specs.declared.scenario.Line.{Line}
use Rattle.pcc_script.specs.declared.scenario.Line.TheVariants as line
use Rattle.pcc_script.specs.declared.scenario.OpenLine.{OpenLine}
use Rattle.pcc_script.specs.declared.scenario.CapLine.{CapLine}
use Rattle.pcc_script.specs.declared.scenario.Scenario.{Scenario}

-- the image of a device is bytes
abbrev pub IsDevice : Device → Type 0
IsDevice Bank = Unit {0}
IsDevice (Cppc image) = IsBytes image

-- an `open` line within the limits
pub record IsOpen (o : OpenLine) : Type 0 where
  pub id : o.id ≤ MAX_ID
  pub device : IsDevice o.device

-- a number of 64 bits
abbrev pub IsU64 : ℕ → Type 0
IsU64 n = n ≤ 2 ^ 64 - 1

-- a `cap` line within the limits
pub record IsCap (c : CapLine) : Type 0 where
  pub id : c.id ≤ MAX_ID
  pub count : IsU64 c.count
  pub value : IsU64 c.value

-- the polls and the hold of an action
pub record IsBudget (polls hold : ℕ) : Type 0 where
  pub some : 1 ≤ polls
  pub few : polls ≤ MAX_POLLS
  pub held : hold ≤ MAX_HOLD

-- an action within the limits
abbrev pub IsAction : Line → Type 0
IsAction (line.Call worker subspace code bytes polls hold) =
    (worker ≤ MAX_WORKER) × (subspace ≤ MAX_ID) × (code ≤ MAX_CODE) × IsBytes bytes × IsBudget polls hold
IsAction (line.Read worker cpu polls hold) = (worker ≤ MAX_WORKER) × (cpu ≤ MAX_CPU) × IsBudget polls hold
IsAction (line.Set worker wish polls hold) =
    (worker ≤ MAX_WORKER) × (wish.cpu ≤ MAX_CPU) × IfSome wish.min IsU64 × IsU64 wish.desired × IfSome wish.max IsU64 × IsBudget polls hold
IsAction (line.Wait n) = IsU64 n

-- each number, the number of lines of each kind and the number of letters are within their limits
pub record IsWithin (s : Scenario) : Type 0 where
  pub table : IsBytes s.table
  pub start : IsU64 s.start
  pub step : IsU64 s.step
  pub opens : AllByRecursion IsOpen s.opens
  pub some_opens : 1 ≤ length s.opens
  pub few_opens : length s.opens ≤ MAX_OPENS
  pub cpus : AllByRecursion IsBytes s.cpus
  pub few_cpus : length s.cpus ≤ MAX_CPUS
  pub caps : AllByRecursion IsCap s.caps
  pub few_caps : length s.caps ≤ MAX_CAPS
  pub actions : AllByRecursion IsAction s.actions
  pub few_actions : length s.actions ≤ MAX_ACTIONS
  pub picks : IfSome s.picks (λ letters. (1 ≤ length letters) × (length letters ≤ MAX_LETTERS))
