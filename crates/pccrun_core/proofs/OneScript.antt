-- Each text is a script that is served, or is refused, by one line.
use Rattle.std.proofs.Common.{◌≡◌, ◌⊎◌, inl, inr, ℕ, List, map, refl, ap, subst}
use Rattle.std.specs.Prelude.{Option, Some, None}
use Rattle.pcc_script.specs.Faults.{HasFault as ScriptFault}
use Rattle.pcc_script.specs.declared.scenario.Scenario.{Scenario}
use Rattle.pcc_script.proofs.Within.{is_within}
use Rattle.pcc_script.proofs.Telling.{text_not_both, text_one_fault, text_some}
use Rattle.pcct_table.specs.declared.table.Table.{Table}
use Rattle.pcc_setup.specs.declared.refusal.Refusal.{Refusal}
use Rattle.pcc_setup.specs.declared.refusal.Refusal.TheVariants as refusal
use Rattle.pcc_setup.specs.declared.refusal.UseFault.{UseFault}
use Rattle.pcc_setup.specs.SetUps.{HasRefusal, HasSetUp, IsSetUp, Opens}
use Rattle.pcc_setup.specs.Equipment.{equipped}
use Rattle.pcc_setup.specs.Openings.{opened_by}
use Rattle.pcc_setup.specs.declared.opening.Opened.{Opened}
use Rattle.pcc_setup.proofs.OneFault.{one_refusal, one_set_up, set_up_kept, set_up_or_refused}
use Rattle.pccrun_core.specs.declared.command.Command.{Command}
use Rattle.pccrun_core.specs.Refusals.{BySetUp, ByUse, NotServed, ScriptRefused, Unserved, WrongScript}
use Rattle.pccrun_core.specs.Serving.{IsSpelled, Serves}
use Rattle.pccrun_core.specs.Uses.{use_fault}
use Rattle.pccrun_core.proofs.Refused.{one_scenario}

abbrev pub ScriptOr : Command → List ℕ → Type 0
ScriptOr c text = ((s : Scenario) × (opened : List Opened) × Serves c text s opened) ⊎ ((r : Refusal) × ScriptRefused c text r)

by_use : (c : Command) (text : List ℕ) (s : Scenario) (t : Table) → IsSpelled text s → IsSetUp s t → (o : Option UseFault) → use_fault c s ≡ o → ScriptOr c text
by_use c text s t h set (Some fault) is = inr (refusal.Use fault, Unserved s h (refusal.Use fault) (ByUse t set fault is))
by_use c text s t h set None none =
    let opens : Opens s (map (equipped set.cpus s.caps) (opened_by t s.opens)) = record { table = t; checked = set; list_is = refl } in
    inl (s, map (equipped set.cpus s.caps) (opened_by t s.opens), record { spells = h; opens = opens; used = none })

by_set_up : (c : Command) (text : List ℕ) (s : Scenario) → IsSpelled text s → HasSetUp s ⊎ HasRefusal s → ScriptOr c text
by_set_up c text s h (inl set) = by_use c text s set.table h set.checked (use_fault c s) refl
by_set_up c text s h (inr failed) = inr (failed.cause, Unserved s h failed.cause (BySetUp failed.cause failed.refused))

by_spelled : (c : Command) (text : List ℕ) (s : Scenario) → IsSpelled text s → ScriptOr c text
by_spelled c text s h = by_set_up c text s h (set_up_or_refused s (is_within s h.scenario).cpus)

no_scenario : (text : List ℕ) → ScriptFault text → (s : Scenario) → IsSpelled text s → ⊥
no_scenario text f s h = text_not_both text (record { scenario = s; right = h.scenario; spelled = h.spelled }) f

pub script_or_refused : (c : Command) (text : List ℕ) → ScriptOr c text
script_or_refused c text = elim (text_some text) [
  | inl h ↦ by_spelled c text h.scenario (record { spelled = h.spelled; scenario = h.right })
  | inr f ↦ inr (refusal.Script f.line f.kind, WrongScript (no_scenario text f) f.line f.kind f.wrong)
]

same_some : {X : Type 0} (o : Option X) (x y : X) → o ≡ Some x → o ≡ Some y → x ≡ y
same_some o x y e f = cc

one_not_served : (c : Command) (s : Scenario) (r q : Refusal) → NotServed c s r → NotServed c s q → r ≡ q
one_not_served c s r q (BySetUp _ h) (BySetUp _ k) = one_refusal s r q h k
one_not_served c s r q (BySetUp _ h) (ByUse t set fault is) = absurd (set_up_kept s t r set h)
one_not_served c s r q (ByUse t set fault is) (BySetUp _ k) = absurd (set_up_kept s t q set k)
one_not_served c s r q (ByUse t set fault is) (ByUse u up other also) = ap refusal.Use (same_some (use_fault c s) fault other is also)

pub one_script_refusal : (c : Command) (text : List ℕ) (r q : Refusal) → ScriptRefused c text r → ScriptRefused c text q → r ≡ q
one_script_refusal c text r q (WrongScript none l k a) (WrongScript no_one m d b) =
    let same = text_one_fault text l m k d a b in λ i. refusal.Script (same.0 i) (same.1 i)
one_script_refusal c text r q (WrongScript none l k a) (Unserved s h _ b) = absurd (none s h)
one_script_refusal c text r q (Unserved s h _ a) (WrongScript none l k b) = absurd (none s h)
one_script_refusal c text r q (Unserved s h _ a) (Unserved u k _ b) =
    let same : s ≡ u = one_scenario text s u h k in
    one_not_served c u r q (subst (λ (v : Scenario). NotServed c v r) same a) b

-- a command serves one script, which opens one list of subspaces
pub one_served : (c : Command) (text : List ℕ) (s u : Scenario) (os other : List Opened) → Serves c text s os → Serves c text u other → os ≡ other
one_served c text s u os other h k =
    let same : s ≡ u = one_scenario text s u h.spells k.spells in
    let opens : Opens u os = subst (λ (v : Scenario). Opens v os) same h.opens in
    one_set_up u os other opens k.opens
