-- What a command can be used with.
use Rattle.std.specs.Prelude.{◌==◌, ◌&&◌, not, is_none, is_some, Bool, true, false, if◌then◌else◌, length, Option, Some, None}
use Rattle.std.specs.List.{list_all, list_any}
use Rattle.pcc_script.specs.declared.scenario.Line.{Line}
use Rattle.pcc_script.specs.declared.scenario.Line.TheVariants as line
use Rattle.pcc_script.specs.declared.scenario.Scenario.{Scenario}
use Rattle.pcc_setup.specs.declared.refusal.UseFault.{UseFault}
use Rattle.pcc_setup.specs.declared.refusal.UseFault.TheVariants.{Audit, Bank, Many, Pick, Wait}
use Rattle.pcc_setup.specs.SetUps.{is_bank}
use Rattle.pccrun_core.specs.declared.command.Command.{Command}
use Rattle.pccrun_core.specs.declared.command.Command.TheVariants as command

abbrev pub is_wait : Line → Bool
is_wait (line.Wait n) = true
is_wait _ = false

-- `weave` wants one subspace, which is a Bank, letters, and no `wait` line
abbrev pub weave_fault : Scenario → Option UseFault
weave_fault s =
    if not (length s.opens == 1) then Some Many
    else if not (list_all (λ o. is_bank o.device) s.opens) then Some Bank
    else if is_none s.picks then Some Pick
    else if list_any is_wait s.actions then Some Wait
    else None

-- `audit` wants no action and no letters
abbrev pub audit_fault : Scenario → Option UseFault
audit_fault s = if length s.actions == 0 && is_none s.picks then None else Some Audit

-- `step` wants no letters
abbrev pub use_fault : Command → Scenario → Option UseFault
use_fault command.Step s = if is_some s.picks then Some Pick else None
use_fault command.Weave s = weave_fault s
use_fault command.Show s = None
use_fault command.Build s = None
use_fault command.Cpc s = None
use_fault command.Raise s = None
use_fault command.Audit s = audit_fault s
