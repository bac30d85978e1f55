-- A made-up script passes all checks of its set-up, and its summary is that of its run.
use Rattle.std.proofs.Common.{◌≡◌, ◌<◌, ◌^◌, ℕ, zero, suc, Bool, true, false, List, [], ◌∷◌, ◌++◌, length, get_or, map, refl, sym, ap, ◌∙◌, subst, arith}
use Rattle.std.specs.Prelude.{Option, Some, None, Result, Ok, Err, IfOk, slice_get}
use Rattle.std.specs.List.{AllByRecursion, list_all, range_with_len}
use Rattle.std.proofs.lemmas.List.{append-nil, length-map}
use Rattle.std.proofs.lemmas.List.FromFn.{length-map-range_with_len}
use Rattle.std.proofs.lemmas.Option.{same_Some}
use Rattle.pcc_script.specs.Made.{made_call, made_calls, made_scenario_of, one_generic_subspace}
use Rattle.pcc_script.specs.declared.scenario.Device.TheVariants.{Bank}
use Rattle.pcc_script.specs.declared.scenario.Line.{Line}
use Rattle.pcc_script.specs.declared.scenario.OpenLine.{OpenLine}
use Rattle.pcc_script.specs.declared.scenario.Scenario.{Scenario}
use Rattle.pcc_setup.specs.declared.opening.Opened.{Opened}
use Rattle.pcc_setup.specs.Equipment.{equipped}
use Rattle.pcc_setup.specs.Openings.{AllOpen, line_fault, opened_by, opened_with}
use Rattle.pcc_setup.specs.SetUps.{IfLine, IsSetUp, Opens, SetUpRefused, action_fault}
use Rattle.pcc_setup.specs.declared.setup.SetUpError.TheVariants as error
use Rattle.pcc_setup.proofs.OneFault.{set_up_kept}
use Rattle.pcc_text.specs.Pieces.{spelled}
use Rattle.pcct_codec.specs.Tables.{TableBytes}
use Rattle.pcct_codec.specs.Worked.{one_generic}
use Rattle.pcct_codec.specs.declared.worked.TheConstants.{ONE_GENERIC_SUBSPACE}
use Rattle.pcct_table.specs.declared.subspace.Subspace.{Subspace}
use Rattle.channel_turns.specs.ChannelRuns.{Channel, count_in_flight}
use Rattle.script_run.specs.DeviceChannels.{channel_of, channels_by}
use Rattle.script_run.specs.declared.channel.DeviceChannel.{DeviceChannel}
use Rattle.script_run.specs.ScriptRuns.{asks_of, clock_of, run_of, set_up_of, start_of}
use Rattle.script_run.specs.StepRun.{Run, step_run}
use Rattle.script_run.specs.Summaries.{IsSummary, count_pending, counts_of, records_of, summary_pieces, summary_text}
use Rattle.script_run.specs.declared.counts.Counts.{Counts}
use Rattle.script_run.proofs.Several.{has_structure, run_length}
use Rattle.script_run.proofs.Starting.{cpus_count, set_up_headlines}
use Rattle.script_run.specs.Channels.{fresh_channel}
use Rattle.cpc_package.specs.declared.binding.Binding.{Binding}

-- ---- the summary

pub if_ok_more : {T E : Type 0} (r : Result T E) (P Q : T → Type 0) → ((x : T) → P x → Q x) → IfOk r P → IfOk r Q
if_ok_more (Ok x) P Q f h = f x h
if_ok_more (Err e) P Q f h = tt

-- it leaves one channel
pub some_device : (s : Scenario) (os : List Opened) (cs : List Channel) (after : List DeviceChannel) → length os ≡ 1 → cs ≡ set_up_of s os → (step_run (asks_of s []) cs).channels ≡ channels_by after → length after ≡ 1
some_device s os cs after alone opened left =
    sym (length-map after channel_of) ∙ ap length (sym left) ∙ run_length (asks_of s []) cs ∙ ap length opened ∙ length-map os (λ (o : Opened). fresh_channel (start_of (clock_of s) o)) ∙ alone

-- the summary of the one channel of a run
pub summary_is : (s : Scenario) (os : List Opened) (cs : List Channel) (after : List DeviceChannel) (d : DeviceChannel) (counts : Counts) (n : ℕ) (text : List ℕ) → length os ≡ 1 → cs ≡ set_up_of s os → n ≡ length s.actions
    → counts ≡ counts_of (step_run (asks_of s []) cs).replies → (step_run (asks_of s []) cs).channels ≡ channels_by after → d ≡ get_or after 0 d
    → text ≡ spelled (summary_pieces n counts (channel_of d).now.records (count_in_flight (channel_of d).now.in_flight)) → text ≡ summary_text (length s.actions) (run_of s os [])
unfolding summary_text
summary_is s os cs after d counts n text alone opened calls are left first e =
    let c : Channel = channel_of d in
    let r : Run = step_run (asks_of s []) cs in
    let one : after ≡ d ∷ [] = only after (some_device s os cs after alone opened left) first in
    let is : r.channels ≡ c ∷ [] = left ∙ ap channels_by one in
    let records : c.now.records ≡ records_of r.channels = sym (append-nil c.now.records) ∙ ap records_of (sym is) in
    let alone_is : count_in_flight c.now.in_flight ≡ count_pending (c ∷ []) = omega arith in
    let pending : count_in_flight c.now.in_flight ≡ count_pending r.channels = alone_is ∙ ap count_pending (sym is) in
    e ∙ (λ k. spelled (summary_pieces (calls k) (are k) (records k) (pending k))) ∙ ap (λ (v : List Channel). summary_text (length s.actions) (step_run (asks_of s []) v)) opened
  where
    only : (xs : List DeviceChannel) → length xs ≡ 1 → d ≡ get_or xs 0 d → xs ≡ d ∷ []
    only [] l f = absurd (omega (arith, l))
    only (x ∷ []) l f = ap (λ (y : DeviceChannel). y ∷ []) (sym f)
    only (x ∷ y ∷ xs) l f = absurd (omega (arith, l))

-- ---- a made-up script

each_call : (P : Line → Type 0) (places : List ℕ) → ((place : ℕ) → P (made_call place)) → (i : ℕ) (l : Line) → slice_get (map made_call places) i ≡ Some l → P l
each_call P [] h i l e = absurd cc
each_call P (x ∷ xs) h zero l e = subst P (same_Some (made_call x) l e) (h x)
each_call P (x ∷ xs) h (suc i) l e = each_call P xs h i l e

all_calls : (p : Line → Bool) (places : List ℕ) → ((place : ℕ) → p (made_call place) ≡ true) → list_all p (map made_call places) ≡ true
all_calls p [] h = refl
all_calls p (x ∷ xs) h = rw (h x) (all_calls p xs h)

-- it has no processors
pub made_packages : (n : ℕ) (s : Scenario) → s ≡ made_scenario_of n → AllByRecursion (λ bytes. length bytes < 2 ^ 32) s.cpus
unfolding made_scenario_of
made_packages n s is = subst (λ (u : Scenario). AllByRecursion (λ bytes. length bytes < 2 ^ 32) u.cpus) (sym is) tt

made_length : (n : ℕ) → length (made_scenario_of n).actions ≡ n
unfolding made_scenario_of made_calls
made_length n = length-map-range_with_len made_call 0 n

-- its one line opens one subspace
pub made_alone : (n : ℕ) (s : Scenario) (os : List Opened) → s ≡ made_scenario_of n → Opens s os → length os ≡ 1
unfolding made_scenario_of
made_alone n s os is h =
    let set_up : IsSetUp (made_scenario_of n) h.table = subst (λ (u : Scenario). IsSetUp u h.table) is h.checked in
    let there : (u : Subspace) × (slice_get h.table.subspaces 0 ≡ Some u) = has_structure Bank false (slice_get h.table.subspaces 0) (set_up.all_open 0 _ (omega arith) refl) in
    ap length h.list_is ∙ length-map (opened_by h.table s.opens) (equipped h.checked.cpus s.caps)
    ∙ ap length (ap (λ (u : Scenario). opened_by h.table u.opens) is ∙ ap (λ (o : Option Subspace). opened_with Bank 0 h.table.flags o ++ []) there.1)

abbrev made_opens : List OpenLine
made_opens = record { id = 0; device = Bank } ∷ []

only_line : AllOpen one_generic made_opens 1
only_line zero o lt at = subst (λ (x : OpenLine). line_fault one_generic [] x ≡ None) (same_Some _ o at) refl
only_line (suc i) o lt at = absurd (omega (arith, lt))

table_is : ONE_GENERIC_SUBSPACE ≡ one_generic_subspace
unfolding one_generic_subspace
table_is = refl

-- it passes all checks
made_set_up : (n : ℕ) → TableBytes one_generic_subspace one_generic → IsSetUp (made_scenario_of n) one_generic
unfolding made_scenario_of made_calls
made_set_up n table = record { table = table; all_open = only_line; apart = λ i j lt within meet. absurd (omega (arith, lt, within)); cpus = []; bound = record { each = tt; apart = λ i j d lt within. absurd (omega (arith, within)) }; capped = λ i c lt at. absurd (omega (arith, lt)); inside = λ i b lt at. absurd (omega (arith, lt)); named = λ i l lt at. each_call (λ (x : Line). action_fault (made_scenario_of n) x ≡ None) (range_with_len 0 n) (λ place. refl) i l at }

-- and so it is refused for none
pub made_kept : (n : ℕ) (s : Scenario) (text : List ℕ) → s ≡ made_scenario_of n → TableBytes ONE_GENERIC_SUBSPACE one_generic → IfLine (SetUpRefused s) (error.Refused text) → ⊥
made_kept n s text is table h =
    set_up_kept (made_scenario_of n) one_generic h.0 (made_set_up n (subst (λ (v : List ℕ). TableBytes v one_generic) table_is table)) (subst (λ (u : Scenario). SetUpRefused u h.0) is h.1)

pub made_text : (n : ℕ) (s : Scenario) (os : List Opened) (text : List ℕ) → s ≡ made_scenario_of n → Opens s os → text ≡ summary_text (length s.actions) (run_of s os []) → IsSummary n text
made_text n s os text is h e =
    let k : Opens (made_scenario_of n) os = subst (λ (u : Scenario). Opens u os) is h in
    record {
      opened = os;
      opens = k;
      headline = set_up_headlines (made_scenario_of n) os [] k;
      text_is = e ∙ (λ i. summary_text (length (is i).actions) (run_of (is i) os [])) ∙ ap (λ (m : ℕ). summary_text m (run_of (made_scenario_of n) os [])) (made_length n);
    }

-- it has no processors
pub made_cpus : (n : ℕ) (s : Scenario) (os : List Opened) → s ≡ made_scenario_of n → (h : Opens s os) → h.checked.cpus ≡ []
unfolding made_scenario_of
made_cpus n s os is h = none h.checked.cpus (sym (cpus_count s os h) ∙ ap (λ (u : Scenario). length u.cpus) is)
  where
    none : (cpus : List Binding) → length cpus ≡ 0 → cpus ≡ []
    none [] e = refl
    none (b ∷ bs) e = absurd (cc e)
