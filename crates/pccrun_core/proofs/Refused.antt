-- Why inputs are refused, and that no served input is.
use Rattle.std.proofs.Common.{◌≡◌, ℕ, List, subst, Ok, Err}
use Rattle.std.specs.Prelude.{Some, None}
use Rattle.pcc_script.specs.Faults.{IsReadAs}
use Rattle.pcc_script.specs.Text.{IsScenario, script_text, statements_of}
use Rattle.pcc_script.specs.declared.scenario.Scenario.{Scenario}
use Rattle.pcc_script.proofs.Public.{is_only}
use Rattle.pcc_script.proofs.Script.{reads_again}
use Rattle.pcc_script.specs.declared.fault.ScriptError.TheVariants as script
use Rattle.pcc_script.specs.declared.fault.ScriptKind.{ScriptKind}
use Rattle.pcct_table.specs.declared.build.BuildError.TheVariants.{Fault, NoMemory as OutOfMemory}
use Rattle.pcct_table.specs.declared.build.BuildKind.{BuildKind}
use Rattle.pcct_table.specs.declared.table.Table.{Table}
use Rattle.pcct_table.specs.ShowFaults.{IsReadAs as TableReadAs, TextWrong}
use Rattle.pcct_table.specs.ShowText.{HasText, show_text}
use Rattle.pccrun_core.specs.declared.command.Command.{Command}
use Rattle.pcc_setup.specs.declared.refusal.InputError.TheVariants as input
use Rattle.pcc_setup.specs.declared.setup.SetUpError.{SetUpError}
use Rattle.pcc_setup.specs.declared.setup.SetUpError.TheVariants as setup
use Rattle.pccrun_core.specs.declared.error.CommandError.{CommandError}
use Rattle.pccrun_core.specs.declared.error.CommandError.TheVariants as error
use Rattle.pcc_setup.specs.declared.refusal.Refusal.{Refusal}
use Rattle.pcc_setup.specs.declared.refusal.Refusal.TheVariants as refusal
use Rattle.pcc_script.specs.Faults.{TextWrong as ScriptWrong}
use Rattle.pcc_setup.specs.SetUps.{IfLine, IsSetUpOf, SetUpRefused}
use Rattle.pcc_setup.specs.declared.setup.SetUp.{SetUp}
use Rattle.pcc_setup.proofs.OneFault.{set_up_kept}
use Rattle.pcc_setup.specs.declared.opening.Opened.{Opened}
use Rattle.pcc_setup.specs.declared.refusal.UseFault.{UseFault}
use Rattle.pccrun_core.specs.Serving.{IsSetUpFor, IsSpelled, Serves}
use Rattle.pccrun_core.specs.CommandErrors.{IsRefusedBy}
use Rattle.pccrun_core.specs.Refusals.{BySetUp, ByUse, NotServed, ScriptRefused, TextRefused, Unserved, WrongLine, WrongScript}
use Rattle.pccrun_core.specs.Uses.{use_fault}

-- ---- texts of tables

-- a text with a fault is no table's
pub text_wrong : (text : List ℕ) (line : ℕ) (kind : BuildKind) → ((t : Table) → HasText t → text ≡ show_text t → TableReadAs t (Err (Fault line kind))) → TextWrong text line kind → TextRefused text (refusal.TableText line kind)
text_wrong text line kind only h = WrongLine (λ t has is. never line kind (only t has is)) line kind h
  where
    never : (line : ℕ) (kind : BuildKind) → Fault line kind ≡ OutOfMemory → ⊥
    never line kind e = absurd cc

-- ---- scripts

-- a text with a fault is no scenario's
pub no_script : (cmd : Command) (text : List ℕ) (line : ℕ) (kind : ScriptKind) → ((u : Scenario) → IsScenario u → text ≡ script_text u → IsReadAs u (Err (script.Fault line kind))) → ScriptWrong text line kind → ScriptRefused cmd text (refusal.Script line kind)
no_script cmd text line kind only wrong = WrongScript (λ u h. never line kind (only u h.scenario h.spelled)) line kind wrong
  where
    never : (line : ℕ) (kind : ScriptKind) → script.Fault line kind ≡ script.NoMemory → ⊥
    never line kind e = absurd cc

-- a text spells one scenario at most
pub one_scenario : (text : List ℕ) (s u : Scenario) → IsSpelled text s → IsSpelled text u → s ≡ u
unfolding script_text
one_scenario text s u h k =
    is_only text (Ok s) u (reads_again text (statements_of s) h.scenario.right h.scenario.whole h.spelled) k.scenario k.spelled

-- a scenario that isn't served
pub not_served : (cmd : Command) (text : List ℕ) (s : Scenario) (e : CommandError) → IsSpelled text s → IsRefusedBy (NotServed cmd s) e → IsRefusedBy (ScriptRefused cmd text) e
not_served cmd text s (error.Input (input.Refused r)) h k = (Unserved s h r k.0, k.1)
not_served cmd text s (error.Input input.NoMemory) h k = tt
not_served cmd text s (error.SetUp (setup.Refused line)) h k = (k.0, Unserved s h k.0 k.1, k.2, k.3)
not_served cmd text s (error.SetUp setup.NoMemory) h k = tt

pub used_by : (cmd : Command) (s : Scenario) (u : SetUp) → IsSetUpOf s u → use_fault cmd s ≡ None → IsSetUpFor cmd s u
used_by cmd s u h none = record { set_up = h; used = none }

pub not_used : (cmd : Command) (s : Scenario) (u : SetUp) (fault : UseFault) → IsSetUpOf s u → use_fault cmd s ≡ Some fault → NotServed cmd s (refusal.Use fault) × Unit {0}
not_used cmd s u fault h is = (ByUse h.opens.table h.opens.checked fault is, tt)

pub is_served : (cmd : Command) (text : List ℕ) (s : Scenario) (u : SetUp) → IsSpelled text s → IsSetUpFor cmd s u → Serves cmd text s u.opened
is_served cmd text s u h k = record { spells = h; opens = k.set_up.opens; used = k.used }

pub has_set_up : (cmd : Command) (s : Scenario) (u : SetUp) → IsSetUpFor cmd s u → IsSetUpOf s u
has_set_up cmd s u h = h.set_up

pub not_set_up : (cmd : Command) (s : Scenario) (e : SetUpError) → IfLine (SetUpRefused s) e → IfLine (NotServed cmd s) e
not_set_up cmd s (setup.Refused line) k = (k.0, BySetUp k.0 k.1, k.2, k.3)
not_set_up cmd s setup.NoMemory k = tt

-- a served script is not refused
pub script_kept : (cmd : Command) (text : List ℕ) (s : Scenario) (os : List Opened) (r : Refusal) → Serves cmd text s os → ScriptRefused cmd text r → ⊥
script_kept cmd text s os r h (WrongScript none line kind wrong) = none s h.spells
script_kept cmd text s os r h (Unserved u k q (BySetUp p refused)) =
    let same : u ≡ s = one_scenario text u s k h.spells in
    let P : Scenario → Type 0 = λ v. SetUpRefused v p in
    set_up_kept s h.opens.table p h.opens.checked (subst P same refused)
script_kept cmd text s os r h (Unserved u k q (ByUse v set fault is)) =
    let same : u ≡ s = one_scenario text u s k h.spells in
    let used : use_fault cmd s ≡ None = h.used in
    let not_ : use_fault cmd s ≡ Some fault = subst (λ (w : Scenario). use_fault cmd w ≡ Some fault) same is in
    absurd cc

-- what becomes of a script that a command is given
pub ruleset serving = (not_served, is_served, has_set_up)
