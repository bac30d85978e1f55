-- What `step` and `weave` print is audited as yes, by the lines of the script before its actions.
use Rattle.std.proofs.Common.{◌≡◌, ℕ, ◌≤◌, not, Bool, true, false, if◌then◌else◌, List, [], ◌∷◌, ◌++◌, length, get_or, map, refl, sym, ap, ◌∙◌, subst, arith}
use Rattle.std.specs.Prelude.{◌==◌, Option, Some, None, flat_map, is_none, codes, ◌≢◌}
use Rattle.std.specs.List.{AllZip, list_all, list_any}
use Rattle.std.proofs.lemmas.List.{append-nil}
use Rattle.pcc_script.specs.Limits.{IsWithin}
use Rattle.pcc_script.specs.Text.{IsScenario, script_text}
use Rattle.pcc_script.specs.declared.scenario.Scenario.{Scenario}
use Rattle.pcc_script.proofs.Within.{is_within, within_is}
use Rattle.pcc_journal.specs.JournalText.{journal_text}
use Rattle.journal_reading.specs.Told.{IsTold, told_text}
use Rattle.journal_reading.specs.declared.told.Told.{Told}
use Rattle.pcc_setup.specs.SetUps.{Opens, is_bank}
use Rattle.pcc_setup.specs.declared.opening.Opened.{Opened}
use Rattle.pcc_setup.specs.declared.refusal.UseFault.TheVariants as unused
use Rattle.channel_core.specs.Sendings.{command_of}
use Rattle.channel_turns.specs.ChannelRuns.{Channel, pending_of}
use Rattle.script_run.specs.ScriptRuns.{channel_journal, run_of}
use Rattle.audit_run.specs.Audits.{IsAuditOf, yes_text}
use Rattle.audit_run.specs.Journals.{journals_text}
use Rattle.pccrun_core.specs.declared.command.Command.TheVariants as command
use Rattle.pccrun_core.specs.Answers.{Answers, AsksFor, AuditGives, Made, MakesText, Yields, input_limit}
use Rattle.pccrun_core.specs.Serving.{Serves}
use Rattle.pccrun_core.specs.Uses.{is_wait}
use Rattle.pccrun_core.specs.Weaving.{IsWoven}
use Rattle.audited_runs.specs.Audited.{IsAuditedAsYes, IsAuditedAlone, told_of, told_on, without_actions}
use Rattle.audited_runs.proofs.Again.{bare_opens, bare_within, cut_again, some_opened}
use Rattle.audited_runs.proofs.Heads.{all_shown}
use Rattle.audited_runs.proofs.Stepped.{CanBeginAll, step_audit, step_audited, step_heads, texts, told_is}
use Rattle.audited_runs.proofs.Woven.{woven_audited}

-- ---- weave

-- a script that `weave` serves opens Banks alone
banks_of : (one banks none waits : Bool)
    → (if not one then Some unused.Many else if not banks then Some unused.Bank else if none then Some unused.Pick else if waits then Some unused.Wait else None) ≡ None → banks ≡ true
banks_of false banks none waits e = absurd cc
banks_of true false none waits e = absurd cc
banks_of true true none waits e = refl

pub weave_audited : (input : List ℕ) (s : Scenario) (opened : List Opened) (text : List ℕ) → (h : Serves command.Weave input s opened) → (w : IsWoven s h.opens.table text)
    → IsAuditedAlone opened text w.trace w.records (command_of w.sent)
weave_audited input s opened text h w =
    let within : IsWithin s = is_within s h.spells.scenario in
    let banks : list_all (λ o. is_bank o.device) s.opens ≡ true =
    banks_of (length s.opens == 1) (list_all (λ o. is_bank o.device) s.opens) (is_none s.picks) (list_any is_wait s.actions) h.used in
    woven_audited s opened text within (all_shown s opened within h.opens) banks h.opens w

-- ---- the command `audit`

-- some journals behind the script, which are audited so
given : (s : Scenario) (opened : List Opened) (t : Told) (ts : List Told) (flawed : Bool) (written : List ℕ) → IsScenario s → Opens s opened → IsTold t
    → IsAuditOf opened (journals_text (t ∷ ts)) flawed written → AuditGives (script_text (without_actions s) ++ journals_text (t ∷ ts)) flawed written
given s opened t ts flawed written is opens right audit =
    let bare : IsScenario (without_actions s) = within_is (without_actions s) (bare_within s (is_within s is)) in
    record {
      script = script_text (without_actions s);
      journals = journals_text (t ∷ ts);
      cut = cut_again (without_actions s) t ts bare right;
      scenario = without_actions s;
      opened = opened;
      served = record { spells = record { spelled = refl; scenario = bare }; opens = bare_opens s opened opens; used = refl };
      audited = audit;
    }

step_given : (s : Scenario) (os : List Opened) (cs : List Channel) (flawed : Bool) (written : List ℕ) → IsScenario s → Opens s os → 1 ≤ length os
    → AllZip (λ o c. c.start.head ≡ o.head) os cs → AllZip (λ o c. IsAuditedAsYes o c.now.records (pending_of c.now.in_flight)) os cs → IsAuditOf os (flat_map channel_journal cs) flawed written
    → AuditGives (script_text (without_actions s) ++ flat_map channel_journal cs) flawed written
step_given s [] cs flawed written is opens some heads audited audit = absurd (omega (arith, some))
step_given s (o ∷ os) [] flawed written is opens some heads audited audit = absurd audited
step_given s (o ∷ os) (c ∷ cs) flawed written is opens some heads audited audit =
    let same : flat_map channel_journal (c ∷ cs) ≡ journals_text (told_of c ∷ map told_of cs) = texts (c ∷ cs) in
    let right : IsTold (told_of c) = subst IsTold (told_is o c heads.0) audited.0.told in
    subst (λ (v : List ℕ). AuditGives (script_text (without_actions s) ++ v) flawed written) (sym same)
    (given s (o ∷ os) (told_of c) (map told_of cs) flawed written is opens right (subst (λ (v : List ℕ). IsAuditOf (o ∷ os) v flawed written) same audit))

pub step_again : CanBeginAll → (s : Scenario) (opened : List Opened) → IsScenario s → (h : Opens s opened)
    → Yields command.Audit (script_text (without_actions s) ++ flat_map channel_journal (run_of s opened h.checked.cpus).channels) 0
    (yes_text opened (map told_of (run_of s opened h.checked.cpus).channels))
step_again can s opened is h =
    let cs : List Channel = (run_of s opened h.checked.cpus).channels in
    let some : 1 ≤ length opened = some_opened s opened h (is_within s is).some_opens in
    MakesText (yes_text opened (map told_of cs))
    (step_given s opened cs false (yes_text opened (map told_of cs)) is h some (step_heads can s opened is h) (step_audited can s opened is h) (step_audit can s opened is h))

pub weave_again : (input : List ℕ) (s : Scenario) (opened : List Opened) (text : List ℕ) → (h : Serves command.Weave input s opened) → (w : IsWoven s h.opens.table text)
    → (o : Opened) → opened ≡ o ∷ []
    → Yields command.Audit (script_text (without_actions s) ++ journal_text o.head w.records (command_of w.sent)) 0 (yes_text opened (told_on o w.records (command_of w.sent) ∷ []))
weave_again input s opened text h w o is =
    let a = weave_audited input s opened text h w in
    let one : a.subspace ≡ o = ap (λ (v : List Opened). get_or v 0 o) (sym a.alone ∙ is) in
    let t : Told = told_on a.subspace w.records (command_of w.sent) in
    let written : List ℕ = yes_text opened (t ∷ []) in
    let same : journals_text (t ∷ []) ≡ told_text t = append-nil (told_text t) in
    subst (λ (x : Opened). Yields command.Audit (script_text (without_actions s) ++ journal_text x.head w.records (command_of w.sent)) 0 (yes_text opened (told_on x w.records (command_of w.sent) ∷ []))) one
    (MakesText written
    (subst (λ (v : List ℕ). AuditGives (script_text (without_actions s) ++ v) false written) same
    (given s opened t [] false written h.spells.scenario h.opens a.audited.told (subst (λ (v : List ℕ). IsAuditOf opened v false written) (sym same) a.written))))

-- ---- what the program answers

abbrev pub OneStatus : Type 0
OneStatus = (words : List (List ℕ)) (input : List ℕ) (left other : Option (List ℕ)) (status another : ℕ) (text line : List ℕ)
    → Answers words (Some input) left status text → Answers words (Some input) other another line → status ≡ another

abbrev pub OneAnswer : Type 0
OneAnswer = (words : List (List ℕ)) (input : List ℕ) (left other : Option (List ℕ)) (status another : ℕ) (text line : List ℕ)
    → Answers words (Some input) left status text → Answers words (Some input) other another line → (AsksFor words command.Weave → status ≢ 0) → text ≡ line

no_weave : (words : List (List ℕ)) → AsksFor words command.Audit → AsksFor words command.Weave → ⊥
no_weave words a w =
    let both : codes "audit" ∷ [] ≡ codes "weave" ∷ [] = sym a ∙ w in
    let first : 97 ≡ 119 = ap (λ (v : List (List ℕ)). get_or (get_or v 0 []) 0 0) both in
    omega (arith, first)

-- it answers what the command yields of an input that isn't too long
pub answered : OneStatus → OneAnswer → (words : List (List ℕ)) (input line : List ℕ) (rest : Option (List ℕ)) (status : ℕ) (text : List ℕ) → Yields command.Audit input 0 line
    → AsksFor words command.Audit → length input ≤ input_limit → Answers words (Some input) rest status text → (status ≡ 0) × (text ≡ line)
answered one_status one_answer words input line rest status text yields asked short a =
    let b : Answers words (Some input) (Some []) 0 line = Made command.Audit asked input (record { read = sym (append-nil input); end = refl; short = short }) 0 line yields in
    (one_status words input rest (Some []) status 0 text line a b, one_answer words input rest (Some []) status 0 text line a b (λ w. absurd (no_weave words asked w)))
