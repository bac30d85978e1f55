-- Journals are judged or refused, in one way.
use Rattle.std.proofs.Common.{◌≡◌, ◌⊎◌, inl, inr, ℕ, ◌+◌, List, length, subst, Bool}
use Rattle.pcc_bytes.specs.Fields.{lines_of}
use Rattle.journal_reading.specs.declared.told.AuditError.{AuditError}
use Rattle.journal_reading.specs.declared.told.AuditError.TheVariants as audit
use Rattle.journal_reading.specs.declared.told.AuditKind.{AuditKind}
use Rattle.journal_reading.specs.Faults.{HoldsOf}
use Rattle.pcc_script.specs.declared.scenario.Scenario.{Scenario}
use Rattle.pcc_setup.specs.declared.opening.Opened.{Opened}
use Rattle.pcc_setup.specs.declared.refusal.InputError.TheVariants as input_error
use Rattle.pcc_setup.specs.declared.setup.SetUpError.TheVariants as set_up
use Rattle.pcc_setup.specs.declared.refusal.Refusal.{Refusal}
use Rattle.pcc_setup.specs.declared.refusal.Refusal.TheVariants as refusal
use Rattle.audit_run.specs.Audits.{IsAuditOf}
use Rattle.audit_run.specs.Cuts.{HasCut, IsCut}
use Rattle.audit_run.specs.Journals.{HasJournals, HasWrong, JournalsWrong}
use Rattle.audit_run.proofs.OneCut.{one_cut, some_cut}
use Rattle.audit_run.proofs.OneReading.{journals_or_wrong, not_both as journals_not_both, one_fault as journals_one_fault, one_list}
use Rattle.audit_run.proofs.OneAudit.{one_audit, some_audit}
use Rattle.pcc_audit.proofs.OneVerdict.{one_verdict}
use Rattle.pcc_audit.proofs.SomeVerdict.{some_verdict}
use Rattle.pccrun_core.specs.declared.command.Command.TheVariants as command
use Rattle.pccrun_core.specs.declared.error.CommandError.{CommandError}
use Rattle.pccrun_core.specs.declared.error.CommandError.TheVariants as error
use Rattle.pccrun_core.specs.Answers.{AuditGives, IsAudited}
use Rattle.pccrun_core.specs.CommandErrors.{IsRefusedBy}
use Rattle.pccrun_core.specs.Refusals.{AuditRefused, ScriptRefused, WrongJournals, WrongPart}
use Rattle.pccrun_core.specs.Serving.{Serves}
use Rattle.pccrun_core.proofs.OneScript.{one_script_refusal, one_served, script_or_refused}
use Rattle.pccrun_core.proofs.Refused.{script_kept}

-- the script part of one cut is that of the other
same_part : (input script journals other another : List ℕ) → IsCut input script journals → IsCut input other another → (s : Scenario) (os : List Opened)
    → Serves command.Audit script s os → Serves command.Audit other s os
same_part input script journals other another cut also s os h =
    subst (λ (v : List ℕ). Serves command.Audit v s os) (one_cut input script journals other another cut also).0 h

-- ---- refused

-- the script part is refused
pub part_refused : (input script journals : List ℕ) (e : CommandError) → IsCut input script journals → IsRefusedBy (ScriptRefused command.Audit script) e
    → IsRefusedBy (AuditRefused input) e
part_refused input script journals (error.Input (input_error.Refused r)) cut k = (WrongPart script journals cut r k.0, k.1)
part_refused input script journals (error.Input input_error.NoMemory) cut k = tt
part_refused input script journals (error.SetUp (set_up.Refused line)) cut k = (k.0, WrongPart script journals cut k.0 k.1, k.2, k.3)
part_refused input script journals (error.SetUp set_up.NoMemory) cut k = tt

-- the journals are wrong
pub journals_refused : (input script journals : List ℕ) (s : Scenario) (os : List Opened) (first : ℕ) (e : AuditError) → IsCut input script journals
    → Serves command.Audit script s os → first ≡ length (lines_of script) → HoldsOf e (JournalsWrong (first + 1) (length os) journals)
    → HoldsOf e (λ line kind. AuditRefused input (refusal.JournalText line kind))
journals_refused input script journals s os first (audit.Fault line kind) cut served is h =
    WrongJournals script journals cut s os served line kind (subst (λ (n : ℕ). JournalsWrong (n + 1) (length os) journals line kind) is h)
journals_refused input script journals s os first audit.NoMemory cut served is h = tt

-- ---- judged or refused

-- what is judged is not refused
pub audit_kept : (input : List ℕ) (r : Refusal) → IsAudited input → AuditRefused input r → ⊥
audit_kept input r h (WrongPart script journals cut _ refused) =
    script_kept command.Audit script h.scenario h.opened r (same_part input h.script h.journals script journals h.cut cut h.scenario h.opened h.served) refused
audit_kept input r h (WrongJournals script journals cut s os served line wrong fault) =
    let part = same_part input h.script h.journals script journals h.cut cut h.scenario h.opened h.served in
    let opened : h.opened ≡ os = one_served command.Audit script h.scenario s h.opened os part served in
    let told : HasJournals (length os) h.journals = subst (λ (v : List Opened). HasJournals (length v) h.journals) opened h.told in
    let here : HasJournals (length os) journals = subst (λ (v : List ℕ). HasJournals (length os) v) (one_cut input h.script h.journals script journals h.cut cut).1 told in
    journals_not_both (length (lines_of script) + 1) (length os) journals here (record { line = line; kind = wrong; wrong = fault })

by_journals : (input script journals : List ℕ) → IsCut input script journals → (s : Scenario) (os : List Opened) → Serves command.Audit script s os
    → HasJournals (length os) journals ⊎ HasWrong (length (lines_of script) + 1) (length os) journals → IsAudited input ⊎ ((r : Refusal) × AuditRefused input r)
by_journals input script journals cut s os served (inl told) =
    inl (record { script = script; journals = journals; cut = cut; scenario = s; opened = os; served = served; told = told })
by_journals input script journals cut s os served (inr f) =
    inr (refusal.JournalText f.line f.kind, WrongJournals script journals cut s os served f.line f.kind f.wrong)

by_cut : (input : List ℕ) → HasCut input → IsAudited input ⊎ ((r : Refusal) × AuditRefused input r)
by_cut input h = elim (script_or_refused command.Audit h.script) [
  | inl k ↦ by_journals input h.script h.journals h.cut k.0 k.1 k.2 (journals_or_wrong (length (lines_of h.script) + 1) (length k.1) h.journals)
  | inr k ↦ inr (k.0, WrongPart h.script h.journals h.cut k.0 k.1)
]

pub audited_or_refused : (input : List ℕ) → IsAudited input ⊎ ((r : Refusal) × AuditRefused input r)
audited_or_refused input = by_cut input (some_cut input)

-- the fault of the journals behind a script part
same_fault : (input script journals other another : List ℕ) → IsCut input script journals → IsCut input other another → (os more : List Opened) → os ≡ more
    → (line : ℕ) (wrong : AuditKind) → JournalsWrong (length (lines_of script) + 1) (length os) journals line wrong
    → JournalsWrong (length (lines_of other) + 1) (length more) another line wrong
same_fault input script journals other another cut also os more same line wrong h =
    let cuts = one_cut input script journals other another cut also in
    let first = subst (λ (v : List ℕ). JournalsWrong (length (lines_of v) + 1) (length os) journals line wrong) cuts.0 h in
    let second = subst (λ (v : List ℕ). JournalsWrong (length (lines_of other) + 1) (length os) v line wrong) cuts.1 first in
    subst (λ (v : List Opened). JournalsWrong (length (lines_of other) + 1) (length v) another line wrong) same second

pub one_audit_refusal : (input : List ℕ) (r q : Refusal) → AuditRefused input r → AuditRefused input q → r ≡ q
one_audit_refusal input r q (WrongPart script journals cut _ h) (WrongPart other another also _ k) =
    let same = (one_cut input script journals other another cut also).0 in
    one_script_refusal command.Audit other r q (subst (λ (v : List ℕ). ScriptRefused command.Audit v r) same h) k
one_audit_refusal input r q (WrongPart script journals cut _ h) (WrongJournals other another also s os served l k f) =
    absurd (script_kept command.Audit script s os r (same_part input other another script journals also cut s os served) h)
one_audit_refusal input r q (WrongJournals other another also s os served l k f) (WrongPart script journals cut _ h) =
    absurd (script_kept command.Audit script s os q (same_part input other another script journals also cut s os served) h)
one_audit_refusal input r q (WrongJournals script journals cut s os served l k f) (WrongJournals other another also u more is m d g) =
    let here = same_part input script journals other another cut also s os served in
    let opened : os ≡ more = one_served command.Audit other s u os more here is in
    let fault = same_fault input script journals other another cut also os more opened l k f in
    let same = journals_one_fault (length (lines_of other) + 1) (length more) another l m k d fault g in
    λ i. refusal.JournalText (same.0 i) (same.1 i)

-- ---- what is written

pub is_audited : (input : List ℕ) (flawed : Bool) (text : List ℕ) → AuditGives input flawed text → IsAudited input
is_audited input flawed text h = record {
  script = h.script;
  journals = h.journals;
  cut = h.cut;
  scenario = h.scenario;
  opened = h.opened;
  served = h.served;
  told = record { journals = h.audited.journals; are = h.audited.are };
}

pub audit_gives : (input : List ℕ) → IsAudited input → (flawed : Bool) × (text : List ℕ) × AuditGives input flawed text
audit_gives input h =
    let found = some_audit some_verdict h.opened h.journals h.told in
    (found.0, found.1, record { script = h.script; journals = h.journals; cut = h.cut; scenario = h.scenario; opened = h.opened; served = h.served; audited = found.2 })

pub one_audit_text : (input : List ℕ) (flawed other : Bool) (text line : List ℕ) → AuditGives input flawed text → AuditGives input other line
    → (flawed ≡ other) × (text ≡ line)
one_audit_text input flawed other text line h k =
    let cuts = one_cut input h.script h.journals k.script k.journals h.cut k.cut in
    let part = same_part input h.script h.journals k.script k.journals h.cut k.cut h.scenario h.opened h.served in
    let opened : h.opened ≡ k.opened = one_served command.Audit k.script h.scenario k.scenario h.opened k.opened part k.served in
    let first : IsAuditOf h.opened k.journals flawed text = subst (λ (v : List ℕ). IsAuditOf h.opened v flawed text) cuts.1 h.audited in
    let second : IsAuditOf k.opened k.journals flawed text = subst (λ (v : List Opened). IsAuditOf v k.journals flawed text) opened first in
    one_audit one_verdict one_list k.opened k.journals flawed other text line second k.audited
