-- Each input is made or refused by a command, by one line.
use Rattle.std.proofs.Common.{◌≡◌, ◌≢◌, ◌⊎◌, inl, inr, ℕ, ◌≤◌, List, [], length, refl, sym, ap, ◌∙◌, subst, arith, Bool, true, false}
use Rattle.std.proofs.lemmas.Bool.{cases_lt}
use Rattle.aml_pkg.specs.declared.item.Item.{Item}
use Rattle.aml_pkg.specs.Spelling.{item_bytes}
use Rattle.cpc_package.specs.Packages.{CpcBytes}
use Rattle.cpc_package.specs.PackageText.{package_text}
use Rattle.cpc_package.specs.Raising.{raised}
use Rattle.cpc_package.proofs.Raised.{raised_cpc, raised_is}
use Rattle.pcc_bytes.specs.Bytes.{IsBytes}
use Rattle.pcc_script.specs.declared.scenario.Scenario.{Scenario}
use Rattle.pcct_table.specs.declared.table.Table.{Table}
use Rattle.pcct_table.specs.ShowText.{show_text}
use Rattle.pcct_table.proofs.Telling.{text_one_table, text_not_both as table_not_both, text_one_fault as table_one_fault, text_some as table_some}
use Rattle.pcct_codec.specs.Tables.{IsTableValue, TableBytes}
use Rattle.pcct_codec.proofs.Headers.{one_table}
use Rattle.pcct_codec.proofs.Texts.{has_spelling, has_text}
use Rattle.pcct_codec.proofs.Writing.{one_table_spelling}
use Rattle.pcc_setup.specs.declared.refusal.Refusal.{Refusal}
use Rattle.pcc_setup.specs.declared.refusal.Refusal.TheVariants as refusal
use Rattle.pcc_setup.specs.SetUps.{Opens}
use Rattle.cpc_package.specs.declared.binding.Binding.{Binding}
use Rattle.pcc_setup.specs.declared.opening.Opened.{Opened}
use Rattle.pcc_setup.proofs.OneFault.{one_set_up, one_set_up_cpus}
use Rattle.pcc_setup.proofs.WholeTables.{one_table_refusal, whole_or_refused}
use Rattle.script_run.specs.ScriptRuns.{step_text}
use Rattle.script_run.proofs.Starting.{set_up_headlines}
use Rattle.pccrun_core.specs.declared.command.Command.{Command}
use Rattle.pccrun_core.specs.declared.command.Command.TheVariants as command
use Rattle.pccrun_core.specs.Answers.{AuditGives, IsMade, IsTextOf, Makes, MakesText, TellsFlaw, Yields, input_limit}
use Rattle.pccrun_core.specs.Inputs.{Exceeds, IsAccepted, IsRejected, Rejects, Within}
use Rattle.pccrun_core.specs.Refusals.{Refuses, TextRefused, WrongLine}
use Rattle.pccrun_core.proofs.Packaged.{NotBoth, OneFault, OnePackage, OneSpelling, SomePackage, one_package_refusal, package_or_refused}
use Rattle.pccrun_core.proofs.OneScript.{one_script_refusal, script_or_refused}
use Rattle.pccrun_core.proofs.Audits.{audit_gives, audited_or_refused, is_audited, one_audit_refusal, one_audit_text}
use Rattle.pccrun_core.proofs.Refused.{one_scenario}
use Rattle.pccrun_core.proofs.Tops.{kept}

-- ---- texts of tables

abbrev TextOr : List ℕ → Type 0
TextOr text = ((t : Table) × IsTextOf t text) ⊎ ((r : Refusal) × TextRefused text r)

text_or_refused : (text : List ℕ) → TextOr text
text_or_refused text = elim (table_some text) [
  | inl h ↦ inl (h.table, record { value = has_spelling h.table h.right; text_is = h.spelled })
  | inr f ↦ inr (refusal.TableText f.line f.kind, WrongLine (λ t has is. table_not_both text (record { table = t; right = has; spelled = is }) f) f.line f.kind f.wrong)
]

one_text_refusal : (text : List ℕ) (r q : Refusal) → TextRefused text r → TextRefused text q → r ≡ q
one_text_refusal text r q (WrongLine none l k a) (WrongLine no_one m d b) =
    let same = table_one_fault text l m k d a b in λ i. refusal.TableText (same.0 i) (same.1 i)

-- ---- one line

pub one_command_refusal : OnePackage → OneSpelling → OneFault → (c : Command) (input : List ℕ) (r q : Refusal) → Refuses c input r → Refuses c input q → r ≡ q
one_command_refusal one spelling single command.Step input r q h k = one_script_refusal command.Step input r q h k
one_command_refusal one spelling single command.Weave input r q h k = one_script_refusal command.Weave input r q h k
one_command_refusal one spelling single command.Show input r q h k = one_table_refusal input r q h k
one_command_refusal one spelling single command.Build input r q h k = one_text_refusal input r q h k
one_command_refusal one spelling single command.Cpc input r q h k = one_package_refusal one spelling single input r q h k
one_command_refusal one spelling single command.Raise input r q h k = one_package_refusal one spelling single input r q h k
one_command_refusal one spelling single command.Audit input r q h k = one_audit_refusal input r q h k

pub one_rejection : OnePackage → OneSpelling → OneFault → (c : Command) (input : List ℕ) (r q : Refusal) → Rejects c input r → Rejects c input q → r ≡ q
one_rejection one spelling single c input r q (Exceeds more) (Exceeds also) = refl
one_rejection one spelling single c input r q (Exceeds more) (Within few _ k) = absurd (omega (arith, more, few))
one_rejection one spelling single c input r q (Within few _ h) (Exceeds more) = absurd (omega (arith, more, few))
one_rejection one spelling single c input r q (Within few _ h) (Within less _ k) = one_command_refusal one spelling single c input r q h k

-- ---- made or refused

abbrev pub MadeOr : Command → List ℕ → Type 0
MadeOr c input = IsMade c input ⊎ ((r : Refusal) × Refuses c input r)

made_or_refused : SomePackage → NotBoth → OnePackage → OneSpelling → (c : Command) (input : List ℕ) → IsBytes input → MadeOr c input
made_or_refused some apart one spelling command.Step input fit = script_or_refused command.Step input
made_or_refused some apart one spelling command.Weave input fit = script_or_refused command.Weave input
made_or_refused some apart one spelling command.Show input fit = elim (whole_or_refused input) [
  | inl h ↦ inl (h.table, h.spelled)
  | inr h ↦ inr (h.cause, h.refused)
]
made_or_refused some apart one spelling command.Build input fit = text_or_refused input
made_or_refused some apart one spelling command.Cpc input fit = package_or_refused some apart one spelling input fit
made_or_refused some apart one spelling command.Raise input fit = package_or_refused some apart one spelling input fit
made_or_refused some apart one spelling command.Audit input fit = audited_or_refused input

pub accepted_or_rejected : SomePackage → NotBoth → OnePackage → OneSpelling → (c : Command) (input : List ℕ) → IsBytes input → IsAccepted c input ⊎ IsRejected c input
accepted_or_rejected some apart one spelling c input fit = elim (cases_lt input_limit (length input)) [
  | inl more ↦ inr (record { cause = refusal.Long; rejects = Exceeds more })
  | inr few ↦ elim (made_or_refused some apart one spelling c input fit) [
    | inl made ↦ inl (record { short = few; made = made })
    | inr failed ↦ inr (record { cause = failed.0; rejects = Within few failed.0 failed.1 })
  ]
]

-- what is accepted is not rejected
pub accepted_kept : (c : Command) (input : List ℕ) (r : Refusal) → IsAccepted c input → Rejects c input r → ⊥
accepted_kept c input r h (Exceeds more) = let few : length input ≤ input_limit = h.short in absurd (omega (arith, more, few))
accepted_kept c input r h (Within few _ refuses) = kept c input r h.made refuses

pub not_both : (c : Command) (input : List ℕ) → IsAccepted c input → IsRejected c input → ⊥
not_both c input h k = accepted_kept c input k.cause h k.rejects

-- ---- what is made

makes_of : (c : Command) (input text : List ℕ) → Makes c input text → IsMade c input
makes_of command.Step input text h = (h.0, h.1, h.2)
makes_of command.Weave input text h = (h.0, h.1, h.2)
makes_of command.Show input text h = (h.0, h.1)
makes_of command.Build input bytes h = (h.0, record { value = record { bytes = bytes; fit = h.2; spell = h.3 }; text_is = h.1 })
makes_of command.Cpc input text h = (h.0, h.1)
makes_of command.Raise input text h = (h.0, h.1)
makes_of command.Audit input text h = is_audited input false text h

pub is_made : (c : Command) (input text : List ℕ) (status : ℕ) → Yields c input status text → IsMade c input
is_made c input text status (MakesText _ h) = makes_of c input text h
is_made c input text status (TellsFlaw is _ h) = subst (λ (d : Command). IsMade d input) (sym is) (is_audited input true text h)

-- what `audit` writes, and its status
by_flaw : (input : List ℕ) (flawed : Bool) (text : List ℕ) → AuditGives input flawed text → (status : ℕ) × (written : List ℕ) × Yields command.Audit input status written
by_flaw input false text h = (0, text, MakesText text h)
by_flaw input true text h = (1, text, TellsFlaw refl text h)

makes_some : (c : Command) (input text : List ℕ) → Makes c input text → (status : ℕ) × (written : List ℕ) × Yields c input status written
makes_some c input text h = (0, text, MakesText text h)

pub some_text : (c : Command) (input : List ℕ) → c ≢ command.Weave → IsMade c input → (status : ℕ) × (text : List ℕ) × Yields c input status text
some_text command.Step input other h =
    let cpus : List Binding = h.2.opens.checked.cpus in
    makes_some command.Step input (step_text h.0 h.1 cpus) (h.0, h.1, h.2, record { text_is = refl; headline = set_up_headlines h.0 h.1 cpus h.2.opens })
some_text command.Weave input other h = absurd (other refl)
some_text command.Show input other h = makes_some command.Show input (show_text h.0) (h.0, h.1, refl)
some_text command.Build input other h = makes_some command.Build input h.1.value.bytes (h.0, h.1.text_is, h.1.value.fit, h.1.value.spell)
some_text command.Cpc input other h = makes_some command.Cpc input (package_text h.0) (h.0, h.1, refl)
some_text command.Raise input other h =
    let right : CpcBytes (item_bytes (raised h.0)) (raised h.0) = record {
      item = record { is = raised_is h.0 h.1.item.is h.1.right; spelled = refl };
      right = raised_cpc h.0 h.1.right;
    } in
    makes_some command.Raise input (item_bytes (raised h.0)) (h.0, h.1, right)
some_text command.Audit input other h = let found = audit_gives input h in by_flaw input found.0 found.1 found.2

-- a command serves one script, which opens one list of subspaces and has one list of processors
one_cpus : (s u : Scenario) (os other : List Opened) → s ≡ u → (h : Opens s os) → (k : Opens u other) → h.checked.cpus ≡ k.checked.cpus
one_cpus s u os other same h =
    let P : Scenario → Type 0 = λ v. (k : Opens v other) → h.checked.cpus ≡ k.checked.cpus in
    subst P same (λ k. one_set_up_cpus s h.table k.table h.checked k.checked)

one_step : (input text other : List ℕ) → Makes command.Step input text → Makes command.Step input other → text ≡ other
one_step input text other h k =
    let same : h.0 ≡ k.0 = one_scenario input h.0 k.0 h.2.spells k.2.spells in
    let opens : Opens k.0 h.1 = subst (λ (s : Scenario). Opens s h.1) same h.2.opens in
    let opened : h.1 ≡ k.1 = one_set_up k.0 h.1 k.1 opens k.2.opens in
    let cpus : h.2.opens.checked.cpus ≡ k.2.opens.checked.cpus = one_cpus h.0 k.0 h.1 k.1 same h.2.opens k.2.opens in
    h.3.text_is ∙ (λ i. step_text (same i) (opened i) (cpus i)) ∙ sym k.3.text_is

one_build : (input bytes other : List ℕ) → Makes command.Build input bytes → Makes command.Build input other → bytes ≡ other
one_build input bytes other h k =
    let left : IsTableValue h.0 = record { bytes = bytes; fit = h.2; spell = h.3 } in
    let right : IsTableValue k.0 = record { bytes = other; fit = k.2; spell = k.3 } in
    let same : h.0 ≡ k.0 = text_one_table h.0 k.0 (has_text h.0 left) (has_text k.0 right) (sym h.1 ∙ k.1) in
    one_table_spelling bytes other k.0 h.2 k.2 (subst (TableBytes bytes) same h.3) k.3

one_makes : OnePackage → (c : Command) (input text other : List ℕ) → c ≢ command.Weave → Makes c input text → Makes c input other → text ≡ other
one_makes one command.Step input text other differs h k = one_step input text other h k
one_makes one command.Weave input text other differs h k = absurd (differs refl)
one_makes one command.Show input text other differs h k = h.2 ∙ ap show_text (one_table input h.0 k.0 h.1 k.1) ∙ sym k.2
one_makes one command.Build input text other differs h k = one_build input text other h k
one_makes one command.Cpc input text other differs h k =
    h.2 ∙ ap package_text (one input [] input [] h.0 k.0 h.1 k.1 refl) ∙ sym k.2
one_makes one command.Raise input bytes other differs h k =
    h.2.item.spelled ∙ ap (λ (c : Item). item_bytes (raised c)) (one input [] input [] h.0 k.0 h.1 k.1 refl) ∙ sym k.2.item.spelled
one_makes one command.Audit input text other differs h k = (one_audit_text input false false text other h k).1

-- the texts of an audit differ where one tells a flaw
flaw_or_not : (c : Command) (input text other : List ℕ) → c ≡ command.Audit → Makes c input text → AuditGives input true other → ⊥
flaw_or_not c input text other is h k =
    let made : AuditGives input false text = subst (λ (d : Command). Makes d input text) is h in
    let same : false ≡ true = (one_audit_text input false true text other made k).0 in
    absurd cc

pub same_status : (c : Command) (input text other : List ℕ) (status another : ℕ) → Yields c input status text → Yields c input another other → status ≡ another
same_status c input text other status another (MakesText _ h) (MakesText _ k) = refl
same_status c input text other status another (MakesText _ h) (TellsFlaw is _ k) = absurd (flaw_or_not c input text other is h k)
same_status c input text other status another (TellsFlaw is _ h) (MakesText _ k) = absurd (flaw_or_not c input other text is k h)
same_status c input text other status another (TellsFlaw is _ h) (TellsFlaw also _ k) = refl

one_yield : OnePackage → (c : Command) (input text other : List ℕ) (status another : ℕ) → c ≢ command.Weave → Yields c input status text → Yields c input another other → text ≡ other
one_yield one c input text other status another differs (MakesText _ h) (MakesText _ k) = one_makes one c input text other differs h k
one_yield one c input text other status another differs (MakesText _ h) (TellsFlaw is _ k) = absurd (flaw_or_not c input text other is h k)
one_yield one c input text other status another differs (TellsFlaw is _ h) (MakesText _ k) = absurd (flaw_or_not c input other text is k h)
one_yield one c input text other status another differs (TellsFlaw is _ h) (TellsFlaw also _ k) = (one_audit_text input true true text other h k).1

pub one_text : OnePackage → (c : Command) (input text other : List ℕ) (status another : ℕ) → c ≢ command.Weave → Yields c input status text → Yields c input another other
    → (status ≡ another) × (text ≡ other)
one_text one c input text other status another differs h k =
    (same_status c input text other status another h k, one_yield one c input text other status another differs h k)

-- `weave` tells no flaw
pub weave_status : (c : Command) (input text : List ℕ) (status : ℕ) → c ≡ command.Weave → Yields c input status text → status ≡ 0
weave_status c input text status is (MakesText _ h) = refl
weave_status c input text status is (TellsFlaw also _ h) = absurd (apart (sym also ∙ is))
  where
    apart : command.Audit ≡ command.Weave → ⊥
    apart e = absurd cc
