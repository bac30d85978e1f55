-- What the error of a command reports.
use Rattle.pcc_setup.specs.declared.refusal.Refusal.{Refusal}
use Rattle.pcc_setup.specs.RefusalText.{IsRefusedFor}
use Rattle.pcc_setup.specs.SetUps.{IfLine}
use Rattle.pccrun_core.specs.declared.error.CommandError.{CommandError}
use Rattle.pccrun_core.specs.declared.error.CommandError.TheVariants as error

-- its refusal, or its line, if it has one, is one of these
abbrev pub IsRefusedBy : (Refusal → Type 0) → CommandError → Type 0
IsRefusedBy cause (error.Input e) = IsRefusedFor cause e
IsRefusedBy cause (error.SetUp e) = IfLine cause e
