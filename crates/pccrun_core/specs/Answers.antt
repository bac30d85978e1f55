-- What the program writes, and its status, by its words and by the bytes that it read.
use Rattle.std.specs.Prelude.{◌≡◌, ◌≤◌, ◌⊎◌, ℕ, ◌+◌, Bool, true, false, List, [], ◌∷◌, length, codes, decimal, Option, Some}
use Rattle.std.specs.Io.KnownBytes.{Consumes, IsAtEnd}
use Rattle.pcc_bytes.specs.Bytes.{IsBytes}
use Rattle.audit_run.specs.Audits.{IsAuditOf}
use Rattle.audit_run.specs.Cuts.{IsCut}
use Rattle.audit_run.specs.Journals.{HasJournals}
use Rattle.aml_pkg.specs.declared.item.Item.{Item}
use Rattle.cpc_package.specs.Packages.{CpcBytes}
use Rattle.cpc_package.specs.PackageText.{package_text}
use Rattle.cpc_package.specs.Raising.{raised}
use Rattle.pcc_script.specs.declared.limits.TheConstants.{MAX_MADE_CALLS}
use Rattle.pcc_script.specs.declared.scenario.Scenario.{Scenario}
use Rattle.pcct_table.specs.declared.table.Table.{Table}
use Rattle.pcct_table.specs.ShowText.{show_text}
use Rattle.pcct_codec.specs.Tables.{IsTableValue, TableBytes}
use Rattle.pccrun_core.specs.declared.command.Command.{Command}
use Rattle.pccrun_core.specs.declared.command.Command.TheVariants as command
use Rattle.pccrun_core.specs.declared.command.Request.{Request}
use Rattle.pccrun_core.specs.declared.command.Request.TheVariants as request
use Rattle.pcc_setup.specs.declared.refusal.Refusal.{Refusal}
use Rattle.pcc_setup.specs.declared.refusal.Refusal.TheVariants as refusal
use Rattle.pcc_setup.specs.RefusalText.{refused_line}
use Rattle.pcc_setup.specs.declared.opening.Opened.{Opened}
use Rattle.pccrun_core.specs.Refusals.{Refuses}
use Rattle.pccrun_core.specs.Serving.{Serves}
use Rattle.script_run.specs.ScriptRuns.{IsStepText}
use Rattle.script_run.specs.Summaries.{IsSummary}
use Rattle.pccrun_core.specs.Weaving.{IsWoven}

-- ---- words

-- the word of a command
abbrev pub word_of : Command → List ℕ
word_of command.Step = codes "step"
word_of command.Weave = codes "weave"
word_of command.Show = codes "show"
word_of command.Build = codes "build"
word_of command.Cpc = codes "cpc"
word_of command.Raise = codes "raise"
word_of command.Audit = codes "audit"

-- the words ask for a command on the whole input that is built
abbrev pub AsksFor : List (List ℕ) → Command → Type 0
AsksFor words c = words ≡ word_of c ∷ []

-- the words ask for a made-up script of so many calls
pub record AsksToMake (words : List (List ℕ)) (n : ℕ) : Type 0 where
  pub some : 1 ≤ n
  pub few : n ≤ MAX_MADE_CALLS
  pub words_are : words ≡ codes "make" ∷ decimal n ∷ []

-- what the words ask for
abbrev pub Asks : List (List ℕ) → Request → Type 0
Asks words (request.Run c) = AsksFor words c
Asks words (request.Make n) = AsksToMake words n

abbrev pub usage_line : List ℕ
usage_line = codes "usage: pccrun show|build|cpc|step|weave|threads|audit|make N|raise\n"

-- ---- what was read

-- so many bytes are read at most
abbrev pub input_limit : ℕ
input_limit = 4194304

-- the text is all that the source had, and isn't too long
pub record ReadWhole (left left' : Option (List ℕ)) (text : List ℕ) : Type 0 where
  pub read : Consumes left left' text
  pub end : IsAtEnd left'
  pub short : length text ≤ input_limit

-- more than the greatest input was read
pub record ReadMore (left left' : Option (List ℕ)) : Type 0 where
  pub text : List ℕ
  pub read : Consumes left left' text
  pub more : length text ≡ input_limit + 1

-- ---- what is made of it

-- a text is that of a table
pub record IsTextOf (t : Table) (text : List ℕ) : Type 0 where
  pub value : IsTableValue t
  pub text_is : text ≡ show_text t

-- The script part of an input is served, the rest of it spells one journal for each subspace that the script opens, and of these journals this is
-- written, which tells a flaw or not.
pub record AuditGives (input : List ℕ) (flawed : Bool) (text : List ℕ) : Type 0 where
  pub script : List ℕ
  pub journals : List ℕ
  pub cut : IsCut input script journals
  pub scenario : Scenario
  pub opened : List Opened
  pub served : Serves command.Audit script scenario opened
  pub audited : IsAuditOf opened journals flawed text

-- What a command makes of its whole input: of a served script the text of its run; of the bytes of a table its text; of the text of
-- a table its bytes; of the bytes of a package its text, or the bytes of that package as one of revision 3; of journals without a flaw one line each.
abbrev pub Makes : Command → List ℕ → List ℕ → Type 0
Makes command.Step input text = (s : Scenario) × (opened : List Opened) × (h : Serves command.Step input s opened)
    × IsStepText s opened h.opens.checked.cpus text
Makes command.Weave input text = (s : Scenario) × (opened : List Opened) × (h : Serves command.Weave input s opened) × IsWoven s h.opens.table text
Makes command.Show input text = (t : Table) × TableBytes input t × (text ≡ show_text t)
Makes command.Build input bytes = (t : Table) × (input ≡ show_text t) × IsBytes bytes × TableBytes bytes t
Makes command.Cpc input text = (c : Item) × CpcBytes input c × (text ≡ package_text c)
Makes command.Raise input bytes = (c : Item) × CpcBytes input c × CpcBytes bytes (raised c)
Makes command.Audit input text = AuditGives input false text

-- What a command writes of its whole input, and its status: 0 after what it makes of it; 1 after the flaw that `audit` tells.
pub data Yields (c : Command) (input : List ℕ) : ℕ → List ℕ → Type 0 where
  MakesText : (text : List ℕ) → Makes c input text → Yields c input 0 text
  TellsFlaw : c ≡ command.Audit → (text : List ℕ) → AuditGives input true text → Yields c input 1 text

-- the script part of an input is served, and the rest of it spells one journal for each subspace that the script opens
pub record IsAudited (input : List ℕ) : Type 0 where
  pub script : List ℕ
  pub journals : List ℕ
  pub cut : IsCut input script journals
  pub scenario : Scenario
  pub opened : List Opened
  pub served : Serves command.Audit script scenario opened
  pub told : HasJournals (length opened) journals

-- a command makes something of this input
abbrev pub IsMade : Command → List ℕ → Type 0
IsMade command.Step input = (s : Scenario) × (opened : List Opened) × Serves command.Step input s opened
IsMade command.Weave input = (s : Scenario) × (opened : List Opened) × Serves command.Weave input s opened
IsMade command.Show input = (t : Table) × TableBytes input t
IsMade command.Build input = (t : Table) × IsTextOf t input
IsMade command.Cpc input = (c : Item) × CpcBytes input c
IsMade command.Raise input = (c : Item) × CpcBytes input c
IsMade command.Audit input = IsAudited input

-- the statuses with which a command ends that is served
abbrev pub IsDone : Command → ℕ → Type 0
IsDone command.Audit status = (status ≡ 0) ⊎ (status ≡ 1)
IsDone c status = status ≡ 0

-- ---- what is written

-- The status, and the text that is to be written. 0: what the command makes of its input, or the summary of a made-up script. 1: the flaw that
-- `audit` tells. 2: the words ask for nothing that is built. 3: the input is refused.
pub data Answers (words : List (List ℕ)) (left left' : Option (List ℕ)) : ℕ → List ℕ → Type 0 where
  Made : (c : Command) → AsksFor words c → (input : List ℕ) → ReadWhole left left' input → (status : ℕ) → (text : List ℕ)
      → Yields c input status text → Answers words left left' status text
  Summed : (n : ℕ) → AsksToMake words n → (text : List ℕ) → IsSummary n text → Answers words left left' 0 text
  Usage : ((r : Request) → Asks words r → ⊥) → Answers words left left' 2 usage_line
  TooLong : (c : Command) → AsksFor words c → ReadMore left left' → Answers words left left' 3 (refused_line refusal.Long)
  Refused : (c : Command) → AsksFor words c → (input : List ℕ) → ReadWhole left left' input → (r : Refusal) → Refuses c input r
      → Answers words left left' 3 (refused_line r)

-- words that ask for a command, and an input of its grammar that is served and isn't too long
pub record IsServedInput (words : List (List ℕ)) (left : Option (List ℕ)) : Type 0 where
  pub command : Command
  pub asked : AsksFor words command
  pub input : List ℕ
  pub told : left ≡ Some input
  pub short : length input ≤ input_limit
  pub made : IsMade command input
