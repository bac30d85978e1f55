-- Why an input is refused.
use Rattle.std.specs.Prelude.{◌≡◌, ◌+◌, ℕ, List, length, Some}
use Rattle.pcc_bytes.specs.Fields.{lines_of}
use Rattle.journal_reading.specs.declared.told.AuditKind.{AuditKind}
use Rattle.audit_run.specs.Cuts.{IsCut}
use Rattle.audit_run.specs.Journals.{JournalsWrong}
use Rattle.pcc_script.specs.Faults.{TextWrong as ScriptWrong}
use Rattle.pcc_script.specs.declared.fault.ScriptKind.{ScriptKind}
use Rattle.pcc_script.specs.declared.scenario.Scenario.{Scenario}
use Rattle.pcct_table.specs.declared.build.BuildKind.{BuildKind}
use Rattle.pcct_table.specs.declared.table.Table.{Table}
use Rattle.pcct_table.specs.ShowFaults.{TextWrong}
use Rattle.pcct_table.specs.ShowText.{HasText, show_text}
use Rattle.pcc_setup.specs.declared.refusal.Refusal.{Refusal}
use Rattle.pcc_setup.specs.declared.refusal.Refusal.TheVariants as refusal
use Rattle.pcc_setup.specs.declared.refusal.UseFault.{UseFault}
use Rattle.pcc_setup.specs.SetUps.{IsSetUp, SetUpRefused, TableRefused}
use Rattle.pcc_setup.specs.declared.opening.Opened.{Opened}
use Rattle.pccrun_core.specs.declared.command.Command.{Command}
use Rattle.pccrun_core.specs.declared.command.Command.TheVariants as command
use Rattle.pccrun_core.specs.Packages.{PackageRefused}
use Rattle.pccrun_core.specs.Serving.{IsSpelled, Serves}
use Rattle.pccrun_core.specs.Uses.{use_fault}

-- a text is no table's, with its first fault
pub data TextRefused (text : List ℕ) : Refusal → Type 0 where
  WrongLine : ((t : Table) → HasText t → text ≡ show_text t → ⊥) → (line : ℕ) → (wrong : BuildKind) → TextWrong text line wrong
      → TextRefused text (refusal.TableText line wrong)

-- what a command refuses a scenario for
pub data NotServed (c : Command) (s : Scenario) : Refusal → Type 0 where
  BySetUp : (r : Refusal) → SetUpRefused s r → NotServed c s r
  ByUse : (t : Table) → IsSetUp s t → (fault : UseFault) → use_fault c s ≡ Some fault → NotServed c s (refusal.Use fault)

-- a text is that of no scenario, with its first fault; or a check of its set-up fails; or the command can't be used with it
pub data ScriptRefused (c : Command) (text : List ℕ) : Refusal → Type 0 where
  WrongScript : ((s : Scenario) → IsSpelled text s → ⊥) → (line : ℕ) → (wrong : ScriptKind) → ScriptWrong text line wrong
      → ScriptRefused c text (refusal.Script line wrong)
  Unserved : (s : Scenario) → IsSpelled text s → (r : Refusal) → NotServed c s r → ScriptRefused c text r

-- the script part of an input is refused; or it is served, and the journals have this first fault
pub data AuditRefused (input : List ℕ) : Refusal → Type 0 where
  WrongPart : (script journals : List ℕ) → IsCut input script journals → (r : Refusal) → ScriptRefused command.Audit script r → AuditRefused input r
  WrongJournals : (script journals : List ℕ) → IsCut input script journals → (s : Scenario) → (opened : List Opened)
      → Serves command.Audit script s opened → (line : ℕ) → (wrong : AuditKind)
      → JournalsWrong (length (lines_of script) + 1) (length opened) journals line wrong → AuditRefused input (refusal.JournalText line wrong)

-- what a command refuses its whole input for
abbrev pub Refuses : Command → List ℕ → Refusal → Type 0
Refuses command.Step text r = ScriptRefused command.Step text r
Refuses command.Weave text r = ScriptRefused command.Weave text r
Refuses command.Show bytes r = TableRefused bytes r
Refuses command.Build text r = TextRefused text r
Refuses command.Cpc bytes r = PackageRefused bytes r
Refuses command.Raise bytes r = PackageRefused bytes r
Refuses command.Audit input r = AuditRefused input r
