-- Judging the journals of the opened subspaces, one after the other; and that what a script opens can judge journals.
use Rattle.std.proofs.Common.{◌≡◌, ℕ, zero, suc, ◌+◌, ◌-◌, ◌*◌, ◌/◌, ◌^◌, ◌<◌, ◌≤◌, true, false, List, [], ◌∷◌, ◌++◌, length, get_or, map, take, refl, sym, ap, ◌∙◌, subst, arith}
use Rattle.std.specs.Prelude.{Option, Some, None, slice_get}
use Rattle.std.specs.List.{AllByRecursion, AllZip}
use Rattle.std.proofs.Math.Nat.{min-le_left}
use Rattle.std.proofs.lemmas.List.{append-nil, append_assoc, take_all}
use Rattle.std.proofs.lemmas.Option.{slice_get-get_or}
use Rattle.pcc_text.specs.Pieces.{spelled}
use Rattle.journal_reading.specs.Told.{IsTold}
use Rattle.journal_reading.specs.declared.told.Told.{Told}
use Rattle.pcc_audit.specs.Verdicts.{IsVerdict}
use Rattle.pcc_audit.specs.declared.verdict.Flaw.{Flaw}
use Rattle.pcc_audit.specs.declared.verdict.Verdict.TheVariants.{Yes, No}
use Rattle.pcc_script.specs.Limits.{IsWithin}
use Rattle.pcc_script.specs.declared.scenario.CapLine.{CapLine}
use Rattle.pcc_script.specs.declared.scenario.OpenLine.{OpenLine}
use Rattle.pcc_script.specs.declared.scenario.Scenario.{Scenario}
use Rattle.cpc_package.specs.declared.binding.Binding.{Binding}
use Rattle.pcct_table.specs.Subspaces.{kind_of, memory_len_of}
use Rattle.pcct_table.specs.declared.subspace.Subspace.{Subspace}
use Rattle.pcct_table.specs.declared.table.Table.{Table}
use Rattle.pcc_wiring.specs.Wirings.{header_len, room_limit}
use Rattle.pcc_setup.specs.Equipment.{CanBegin, equipped}
use Rattle.pcc_setup.specs.Openings.{opened_by, opened_with}
use Rattle.pcc_setup.specs.SetUps.{Opens}
use Rattle.pcc_setup.specs.declared.opening.Opened.{Opened}
use Rattle.audit_run.specs.Audits.{IsJudged, IsRight, no_line, yes_line, yes_text}
use Rattle.audit_run.specs.Boards.{CanJudge, board_of}
use Rattle.audit_run.specs.Journals.{AreJournals}

-- ---- one journal more

-- the first journals are right, and their lines are written
pub record IsJudgedTo (os : List Opened) (ts : List Told) (n : ℕ) (out : List ℕ) : Type 0 where
  pub right : AllZip IsRight (take n os) (take n ts)
  pub text : out ≡ yes_text (take n os) (take n ts)

right_more : (os : List Opened) (ts : List Told) (i : ℕ) (o : Opened) (t : Told) → i < length os → i < length ts → o ≡ get_or os i o → t ≡ get_or ts i t → IsRight o t
    → AllZip IsRight (take i os) (take i ts) → AllZip IsRight (take (suc i) os) (take (suc i) ts)
right_more [] ts i o t lt less is told right h = absurd (omega (arith, lt))
right_more (x ∷ os) [] i o t lt less is told right h = absurd (omega (arith, less))
right_more (x ∷ os) (y ∷ ts) zero o t lt less is told right h = (subst (λ (z : Told). IsRight x z) told (subst (λ (z : Opened). IsRight z t) is right), tt)
right_more (x ∷ os) (y ∷ ts) (suc i) o t lt less is told right h = (h.0, right_more os ts i o t (omega (arith, lt)) (omega (arith, less)) is told right h.1)

text_more : (os : List Opened) (ts : List Told) (i : ℕ) (o : Opened) (t : Told) → i < length os → i < length ts → o ≡ get_or os i o → t ≡ get_or ts i t
    → yes_text (take (suc i) os) (take (suc i) ts) ≡ yes_text (take i os) (take i ts) ++ spelled (yes_line o t)
text_more [] ts i o t lt less is told = absurd (omega (arith, lt))
text_more (x ∷ os) [] i o t lt less is told = absurd (omega (arith, less))
text_more (x ∷ os) (y ∷ ts) zero o t lt less is told = append-nil (spelled (yes_line x y)) ∙ (λ k. spelled (yes_line (sym is k) (sym told k)))
text_more (x ∷ os) (y ∷ ts) (suc i) o t lt less is told =
    ap (λ (v : List ℕ). spelled (yes_line x y) ++ v) (text_more os ts i o t (omega (arith, lt)) (omega (arith, less)) is told)
    ∙ sym (append_assoc (spelled (yes_line x y)) (yes_text (take i os) (take i ts)) (spelled (yes_line o t)))

next_place : (i : ℕ) → suc i ≡ i + 1
next_place i = omega arith

pub judged_start : (os : List Opened) (ts : List Told) (out : List ℕ) → out ≡ [] → IsJudgedTo os ts 0 out
judged_start os ts out e = record { right = tt; text = e }

pub judged_more : (os : List Opened) (ts : List Told) (out next : List ℕ) (i : ℕ) (o : Opened) (t : Told) → i < length os → length ts ≡ length os → o ≡ get_or os i o → t ≡ get_or ts i t
    → IsVerdict (board_of o) t Yes → next ≡ out ++ spelled (yes_line o t) → IsJudgedTo os ts i out → IsJudgedTo os ts (i + 1) next
judged_more os ts out next i o t lt count is told right e h =
    let less : i < length ts = omega (arith, lt, count) in
    let here : IsJudgedTo os ts (suc i) next = record {
      right = right_more os ts i o t lt less is told right h.right;
      text = e ∙ ap (λ (v : List ℕ). v ++ spelled (yes_line o t)) h.text ∙ sym (text_more os ts i o t lt less is told);
    } in
    subst (λ (n : ℕ). IsJudgedTo os ts n next) (next_place i) here

pub judged_end : (os : List Opened) (ts : List Told) (out : List ℕ) (i : ℕ) → length os ≤ i → length ts ≡ length os → IsJudgedTo os ts i out → IsJudged os ts false out
judged_end os ts out i le count h =
    let first : take i os ≡ os = take_all i os le in
    let second : take i ts ≡ ts = take_all i ts (omega (arith, le, count)) in
    let right : AllZip IsRight os ts = subst (λ (v : List Told). AllZip IsRight os v) second (subst (λ (v : List Opened). AllZip IsRight v (take i ts)) first h.right) in
    let text : out ≡ yes_text os ts = h.text ∙ (λ k. yes_text (first k) (second k)) in
    subst (IsJudged os ts false) (sym text) (IsJudged.AllRight right)

at_place : {X : Type 0} (xs : List X) (i : ℕ) (x : X) → i < length xs → x ≡ get_or xs i x → slice_get xs i ≡ Some x
at_place xs i x lt e = slice_get-get_or xs i x lt ∙ ap Some (sym e)

pub judged_wrong : (os : List Opened) (ts : List Told) (out none line : List ℕ) (i : ℕ) (o : Opened) (t : Told) (number : ℕ) (flaw : Flaw) → i < length os → length ts ≡ length os
    → o ≡ get_or os i o → t ≡ get_or ts i t → IsVerdict (board_of o) t (No number flaw) → none ≡ [] → line ≡ none ++ spelled (no_line o number flaw) → IsJudgedTo os ts i out
    → IsJudged os ts true line
judged_wrong os ts out none line i o t number flaw lt count is told wrong empty e h =
    let text : line ≡ spelled (no_line o number flaw) = e ∙ ap (λ (v : List ℕ). v ++ spelled (no_line o number flaw)) empty in
    subst (IsJudged os ts true) (sym text)
    (IsJudged.FirstWrong i o t (at_place os i o lt is) (at_place ts i t (omega (arith, lt, count)) told) h.right number flaw wrong)

-- ---- told journals

few_records : (ts : List Told) → AllByRecursion IsTold ts → AllByRecursion (λ t. length t.records < 2 ^ 32) ts
few_records [] h = tt
few_records (t ∷ ts) h = let few = h.0.few in (omega (arith, few), few_records ts h.1)

pub journals_few : (count : ℕ) (text : List ℕ) (ts : List Told) → AreJournals count text ts → AllByRecursion (λ t. length t.records < 2 ^ 32) ts
journals_few count text ts h = few_records ts h.right

-- ---- what a script opens

-- the head has the room of the wiring
record HasRoom (o : Opened) : Type 0 where
  pub same : o.head.room ≡ o.wiring.room
  pub small : o.head.room < 2 ^ 32

opened_rooms : (t : Table) (opens : List OpenLine) → AllByRecursion HasRoom (opened_by t opens)
opened_rooms t [] = tt
opened_rooms t (o ∷ os) = by (slice_get t.subspaces o.id) (opened_rooms t os)
  where
    by : (m : Option Subspace) → AllByRecursion HasRoom (opened_by t os) → AllByRecursion HasRoom (opened_with o.device o.id t.flags m ++ opened_by t os)
    by None h = h
    by (Some s) h =
        let few = min-le_left room_limit ((memory_len_of s - header_len (kind_of s)) / 8 * 8) in
        (record { same = refl; small = omega (arith, few) }, h)

equipped_rooms : (cpus : List Binding) (caps : List CapLine) (os : List Opened) → AllByRecursion HasRoom os → AllByRecursion HasRoom (map (equipped cpus caps) os)
equipped_rooms cpus caps [] h = tt
equipped_rooms cpus caps (o ∷ os) h = (record { same = h.0.same; small = h.0.small }, equipped_rooms cpus caps os h.1)

can_judge : (most : ℕ) (os : List Opened) → most < 2 ^ 32 → AllByRecursion CanBegin os → AllByRecursion (λ o. length o.caps ≤ most) os → AllByRecursion HasRoom os → AllByRecursion CanJudge os
can_judge most [] lt begins few rooms = tt
can_judge most (o ∷ os) lt begins few rooms =
    let le = few.0 in
    (record { begins = begins.0; room = rooms.0.same; small = rooms.0.small; few = omega (arith, lt, le) }, can_judge most os lt begins.1 few.1 rooms.1)

pub judges : (s : Scenario) (os : List Opened) → IsWithin s → Opens s os → AllByRecursion CanBegin os → AllByRecursion (λ o. length o.caps ≤ length s.caps) os → AllByRecursion CanJudge os
judges s os within h begins few =
    let most = within.few_caps in
    can_judge (length s.caps) os (omega (arith, most)) begins few
    (subst (AllByRecursion HasRoom) (sym h.list_is) (equipped_rooms h.checked.cpus s.caps (opened_by h.table s.opens) (opened_rooms h.table s.opens)))
