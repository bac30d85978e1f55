-- The journal of a woven trace is audited as yes.
use Rattle.std.proofs.Common.{◌≡◌, ℕ, zero, suc, ◌+◌, ◌*◌, ◌-◌, ◌^◌, ◌<◌, ◌≤◌, ◌&&◌, cond, Bool, true, false, List, [], ◌∷◌, ◌++◌, length, get_or, map, replicate, refl, sym, ap, ◌∙◌, subst, arith}
use Rattle.std.specs.Prelude.{Option, Some, None}
use Rattle.std.specs.List.{AllByRecursion, filter, list_all}
use Rattle.std.proofs.Math.Nat.{min-le_right}
use Rattle.std.proofs.lemmas.List.{append-nil, length-replicate}
use Rattle.pcc_bytes.proofs.Bytes.{IsBytes-nil}
use Rattle.pcc_causes.specs.Clock.{line_reading}
use Rattle.rate_limit.specs.RateLimits.{WithinLimits}
use Rattle.pcc_journal.specs.declared.text.JournalHead.{JournalHead}
use Rattle.pcc_journal.specs.Records.{times_of}
use Rattle.pcc_journal.specs.Events.{noted, noted_pending}
use Rattle.pcc_journal.proofs.EventsGrow.{posts}
use Rattle.journal_reading.specs.Told.{most_64, told_text}
use Rattle.journal_reading.specs.declared.told.Told.{Told}
use Rattle.pcc_audit.specs.Good.{IsGoodTold, post_of_pending}
use Rattle.pcc_audit.specs.Verdicts.{Board}
use Rattle.pcct_table.specs.declared.subspace.Subspace.{Subspace}
use Rattle.pcct_table.specs.declared.table.Table.{Table}
use Rattle.pcc_script.specs.Limits.{IsAction, IsWithin}
use Rattle.pcc_script.specs.declared.scenario.Device.{Device}
use Rattle.pcc_script.specs.declared.scenario.Device.TheVariants.{Bank, Cppc}
use Rattle.pcc_script.specs.declared.scenario.Line.{Line}
use Rattle.pcc_script.specs.declared.scenario.Line.TheVariants as line
use Rattle.pcc_script.specs.declared.scenario.OpenLine.{OpenLine}
use Rattle.pcc_script.specs.declared.scenario.Scenario.{Scenario}
use Rattle.pcc_steps.specs.declared.wiring.Wiring.{Wiring}
use Rattle.pcc_wiring.specs.Wirings.{wiring_with}
use Rattle.cpc_package.specs.declared.binding.Binding.{Binding}
use Rattle.pcc_setup.specs.Equipment.{equipped}
use Rattle.pcc_setup.specs.Openings.{head_on, image_of, is_cppc, opened_by, opened_with, zeros_in}
use Rattle.pcc_setup.specs.SetUps.{Opens, is_bank}
use Rattle.pcc_setup.specs.declared.opening.Opened.{Opened}
use Rattle.channel_core.specs.Sendings.{command_of, post_of}
use Rattle.channel_core.specs.declared.sent.Sent.{Sent}
use Rattle.channel_plain.specs.WordRuns.{asked_line}
use Rattle.channel_turns.specs.ChannelRuns.{ScriptClock}
use Rattle.channel_headline.proofs.WholeRuns.{kept_length}
use Rattle.weave_headline.specs.WordHeadline.{trace_log}
use Rattle.script_run.specs.Channels.{bank_start}
use Rattle.audit_run.specs.Audits.{IsAuditOf, yes_text}
use Rattle.audit_run.specs.Boards.{bank_board, board_of, controller_board}
use Rattle.pccrun_core.specs.Weaving.{AreReadings, IsWoven, asked_by}
use Rattle.audited_runs.specs.Audited.{IsAuditedAsYes, IsAuditedAlone, told_on}
use Rattle.audited_runs.proofs.Heads.{IsShown}
use Rattle.audited_runs.proofs.Stepped.{IsKeptBy, audit_of, audited_by, good_told, zeros_bytes}
use Rattle.audited_runs.proofs.Walked.{AreSmall, IsAsked, IsLeft, walked}

-- ---- the lines and the readings

asked_right : (ls : List Line) → AllByRecursion IsAction ls → AllByRecursion IsAsked (map asked_by ls)
asked_right [] h = tt
asked_right (line.Call worker subspace code bytes polls hold ∷ ls) h =
    let caller = h.0.0 in
    let small = h.0.2 in
    (record { caller = omega (arith, caller); code = omega (arith, small); bytes = h.0.3 }, asked_right ls h.1)
asked_right (line.Read worker cpu polls hold ∷ ls) h = (record { caller = omega arith; code = omega arith; bytes = IsBytes-nil }, asked_right ls h.1)
asked_right (line.Set worker wish polls hold ∷ ls) h = (record { caller = omega arith; code = omega arith; bytes = IsBytes-nil }, asked_right ls h.1)
asked_right (line.Wait n ∷ ls) h = (record { caller = omega arith; code = omega arith; bytes = IsBytes-nil }, asked_right ls h.1)

all_small : (readings : List ℕ) → ((k : ℕ) → k < length readings → get_or readings k 0 ≤ most_64) → AreSmall readings
all_small [] h = tt
all_small (r ∷ rs) h = (h zero (omega arith), all_small rs (λ k lt. h (suc k) (omega (arith, lt))))

readings_small : (s : Scenario) (readings : List ℕ) → AreReadings s readings → AreSmall readings
readings_small s readings h =
    all_small readings (λ k lt.
    let is : get_or readings k 0 ≡ line_reading s.start s.step 0 k = h k lt in
    let le = min-le_right (s.start + k * s.step + 0) (2 ^ 64 - 1) in
    omega (arith, is, le))

-- ---- the journal

post_same : (o : Option Sent) → post_of o ≡ post_of_pending (command_of o)
post_same None = refl
post_same (Some c) = refl

few_records : (s : Scenario) (t : Table) (text : List ℕ) → (w : IsWoven s t text) → length w.records ≤ 4096
few_records s t text w =
    let g = trace_log (wiring_with w.open_line.id t.flags w.subspace) (map asked_by s.actions) w.trace in
    let all = posts 0 (noted w.records g.notes) (noted_pending (command_of w.sent) g.flight) in
    let long : length (noted w.records g.notes) ≡ length w.records = kept_length w.records g.notes in
    let most = w.headline.kept.most in
    omega (arith, all, long, most)

no_controller : (d : Device) → is_bank d ≡ true → is_cppc d ≡ false
no_controller Bank h = refl
no_controller (Cppc image) h = absurd cc

-- by the head of the subspace that the trace is on
woven_on : (s : Scenario) (t : Table) (text : List ℕ) (o : Opened) → (w : IsWoven s t text) → IsWithin s → IsShown o → is_bank w.open_line.device ≡ true
    → o.head ≡ head_on w.open_line w.subspace → IsAuditedAsYes o w.records (command_of w.sent)
woven_on s t text o w within shown bank same =
    let head : JournalHead = head_on w.open_line w.subspace in
    let room : ℕ = head.room in
    let wires : Wiring = wiring_with w.open_line.id t.flags w.subspace in
    let long : length (replicate room 0) ≡ room = length-replicate room 0 in
    let clock : ScriptClock = record { start = 0; step = 0 } in
    let left : IsLeft room w.records w.sent =
    walked wires head.limits (map asked_by s.actions) (0 ∷ zeros_in head) (zeros_in head) (filter (asked_line wires.kind) w.trace) w.readings w.records w.sent
    (asked_right s.actions within.actions) w.run.asking (readings_small s w.readings w.read) (record { held = zeros_in head; spelled = refl; bytes = zeros_bytes room }) (omega (arith, long))
    (record { long = long; fits = zeros_bytes room }) w.legal in
    let kept : IsKeptBy (bank_start head clock) w.records (command_of w.sent) = record {
      legal = w.legal;
      within = subst (WithinLimits head.limits (times_of w.records)) (post_same w.sent) w.limits;
      few = few_records s t text w;
    } in
    let none : o.head.cppc ≡ false = (λ i. (same i).cppc) ∙ no_controller w.open_line.device bank in
    let board : board_of o ≡ bank_board o = ap (λ (b : Bool). cond b (controller_board o) (bank_board o)) none in
    let good : IsGoodTold (bank_board o) (told_on o w.records (command_of w.sent)) =
    good_told (bank_board o) (bank_start head clock) (told_on o w.records (command_of w.sent)) refl same refl (λ i. 0 ∷ zeros_in (same i)) left.kept left.flies kept
    (λ e. absurd (not_both o none e)) (λ e. absurd (not_both o none e)) in
    audited_by o w.records (command_of w.sent) room shown.head kept.few left.kept left.flies (subst (λ (b : Board). IsGoodTold b (told_on o w.records (command_of w.sent))) (sym board) good)
  where
    not_both : (o : Opened) → o.head.cppc ≡ false → o.head.cppc ≡ true → ⊥
    not_both o f e = let q : false ≡ true = sym f ∙ e in absurd cc

-- ---- the subspace

one_bank : (opens : List OpenLine) (o : OpenLine) → opens ≡ o ∷ [] → list_all (λ p. is_bank p.device) opens ≡ true → is_bank o.device ≡ true
one_bank opens o e banks =
    let all : (is_bank o.device && true) ≡ true = ap (list_all (λ (p : OpenLine). is_bank p.device)) (sym e) ∙ banks in
    by (is_bank o.device) all
  where
    by : (b : Bool) → (b && true) ≡ true → b ≡ true
    by true h = refl
    by false h = absurd cc

pub woven_audited : (s : Scenario) (opened : List Opened) (text : List ℕ) → IsWithin s → AllByRecursion IsShown opened → list_all (λ p. is_bank p.device) s.opens ≡ true
    → (h : Opens s opened) → (w : IsWoven s h.table text) → IsAuditedAlone opened text w.trace w.records (command_of w.sent)
woven_audited s opened text within shown banks h w =
    let cpus : List Binding = h.checked.cpus in
    let bare : Opened = record {
      head = head_on w.open_line w.subspace;
      wiring = wiring_with w.open_line.id h.table.flags w.subspace;
      image = image_of w.open_line.device;
      cpus = [];
      caps = [];
    } in
    let o : Opened = equipped cpus s.caps bare in
    let alone : opened ≡ o ∷ [] =
    h.list_is ∙ ap (λ (v : List OpenLine). map (equipped cpus s.caps) (opened_by h.table v)) w.opens
    ∙ ap (λ (m : Option Subspace). map (equipped cpus s.caps) (opened_with w.open_line.device w.open_line.id h.table.flags m ++ [])) w.structure in
    let here : AllByRecursion IsShown (o ∷ []) = subst (AllByRecursion IsShown) alone shown in
    let audited : IsAuditedAsYes o w.records (command_of w.sent) = woven_on s h.table text o w within here.0 (one_bank s.opens w.open_line w.opens banks) refl in
    let told : Told = told_on o w.records (command_of w.sent) in
    let one : IsAuditOf (o ∷ []) (told_text told ++ []) false (yes_text (o ∷ []) (told ∷ [])) = audit_of (o ∷ []) (told ∷ []) ((audited.told, audited.yes), tt) in
    record {
      subspace = o;
      alone = alone;
      text_is = w.text_is;
      audited = audited;
      written = subst (λ (os : List Opened). IsAuditOf os (told_text told) false (yes_text os (told ∷ []))) (sym alone)
          (subst (λ (v : List ℕ). IsAuditOf (o ∷ []) v false (yes_text (o ∷ []) (told ∷ []))) (append-nil (told_text told)) one);
    }
