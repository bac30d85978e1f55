-- What a pick of the asking side keeps.
use Rattle.std.proofs.Common.{◌≡◌, ◌≢◌, ℕ, ◌+◌, ◌^◌, ◌<◌, ◌≤◌, Bool, true, false, nat_eq, List, [], ◌∷◌, ◌++◌, length, take, drop, refl, sym, ap, ◌∙◌, subst, arith}
use Rattle.std.specs.Prelude.{Option, Some, None, ltb}
use Rattle.std.proofs.lemmas.List.{map-append, append-nil, drop_all, take_all}
use Rattle.std.proofs.lemmas.Bool.{lt-ltb}
use Rattle.pcc_bytes.specs.Bytes.{IsBytes}
use Rattle.pcc_history.specs.Devices.{Device}
use Rattle.pcc_history.specs.Channel.{Exchange, both}
use Rattle.pcc_journal.specs.declared.record.Record.{Record}
use Rattle.pcc_journal.specs.Records.{exchanges_of, exchange_of_record}
use Rattle.pcc_steps.specs.declared.wiring.Wiring.{Wiring}
use Rattle.pcc_steps.specs.declared.wiring.Action.{Action}
use Rattle.pcc_steps.specs.declared.wiring.Style.{Style}
use Rattle.pcc_steps.specs.declared.wiring.Style.TheVariants.{Headed, Joined3, Separate3, Joined4, Separate4, Reduced5}
use Rattle.pcc_steps.specs.declared.ask.AskStage.{AskStage}
use Rattle.pcc_steps.specs.declared.ask.AskStage.TheVariants.{AskRest, LookWord}
use Rattle.pcc_steps.specs.declared.ask.AskOutcome.{AskOutcome}
use Rattle.pcc_steps.specs.declared.ask.AskOutcome.TheVariants.{Posted, Clear, Drained}
use Rattle.pcc_steps.specs.Wires.{style_of, block_of}
use Rattle.pcc_steps.specs.Asking.{Ask, LooksLeft, CodeFits, ask_next, ask_fed, ask_told, ask_fed_at, ask_begun, ask_looking, ask_budgeted}
use Rattle.pcc_steps.specs.Agree.{act, Finds, Asker, Answerer, Agree, done_after, clears_after, found}
use Rattle.pcc_steps.specs.Laws.{AskStepAgrees, PostBeginAgrees, LookBeginAgrees, BudgetAgrees}
use Rattle.channel_core.specs.declared.sent.Sent.{Sent}
use Rattle.channel_plain.specs.declared.trace.Asked.{Asked}
use Rattle.channel_plain.specs.Picks.{CallsState, PlainState, Ended, ask_ended, call_begun, call_posted, clear_ended, drained, drained_calls, next_reading, read_once, recorded}
use Rattle.channel_core.specs.Sendings.{FliesWith, given_up_after, is_given_up}
use Rattle.channel_plain.specs.Holding.{FliesIf}
use Rattle.pcc_steps.proofs.WordSteps.{long_act, finds_found}
use Rattle.channel_plain.specs.News.{opening_of}
use Rattle.pcc_steps.specs.Carrying.{carried, carried_at, is_rest}
use Rattle.channel_plain.specs.Standing.{asker_of, answerer_of, IsCarried, LooksBegun, Holds, owns}
use Rattle.channel_plain.specs.Steps.{budget_by}
use Rattle.pcc_steps.proofs.AskFeeds.{Fed, done_same, fed, stepped, not_rest}
use Rattle.channel_plain.proofs.Bools.{below, not_false}
use Rattle.channel_plain.proofs.PostStages.{begun_runs, posted_carries}

-- ---- small facts

above_none : (n b : ℕ) → n < b → 0 < b
above_none n b h = omega (arith, h)

begun_looks : (w : Bool) (n b : ℕ) → LooksBegun w n b → 0 < b
begun_looks true n b h = above_none n b h
begun_looks false n b h = h

-- ---- what a step of a run makes of the calls

pub record After (a : Ask) (c : CallsState) (done : List Exchange) : Type 0 where
  pub list : exchanges_of c.records ≡ done
  pub carries : IsCarried (carried a) c.sent a.code a.input
  pub runs : is_rest a.stage ≡ false → c.begun ≡ true
  pub looks : c.begun ≡ true → LooksBegun (both (is_rest a.stage) a.in_flight) a.looks a.budget
  pub own : carried a ≡ true → a.in_flight ≡ false → owns c.sent ≡ true

carry : (b b' : Bool) (sent : Option Sent) (code code' : ℕ) (input input' : List ℕ) → b' ≡ b → code' ≡ code → input' ≡ input → IsCarried b sent code input
    → IsCarried b' sent code' input'
carry b b' sent code code' input input' e k i h = subst (λ (z : Bool × (ℕ × List ℕ)). IsCarried z.0 sent z.1.0 z.1.1) (λ j. (sym e j, (sym k j, sym i j))) h

carry_late : (b : Bool) (looks : ℕ) (sent : Option Sent) (code : ℕ) (input : List ℕ) → IsCarried b sent code input
    → IsCarried b (given_up_after looks sent) code input
carry_late true looks None code input h = absurd h
carry_late true looks (Some c) code input h = h
carry_late false looks None code input h = refl
carry_late false looks (Some c) code input h = absurd (cc h)

rested_waits : (r f : Bool) → r ≡ true → both r f ≡ f
rested_waits true f e = refl
rested_waits false f e = absurd (cc e)

runs_on : (r f : Bool) → r ≡ false → both r f ≡ false
runs_on true f e = absurd (cc e)
runs_on false f e = refl

drained_list : (sent : Option Sent) (rs : List Record) (a : Ask) (e : Bool) (r : ℕ) → IsCarried true sent a.code a.input → exchanges_of (rs ++ recorded sent e a.space r) ≡ exchanges_of rs ++ record { code = a.code; input = a.input; error = e; output = a.space } ∷ []
drained_list None rs a e r h = absurd h
drained_list (Some c) rs a e r h = map-append exchange_of_record rs (recorded (Some c) e a.space r) ∙ ap (λ (x : ℕ × List ℕ). exchanges_of rs ++ record { code = x.0; input = x.1; error = e; output = a.space } ∷ []) (λ i. (h.0 i, h.1 i))

late_records : (l : Bool) (c : CallsState) → (drained_calls l c).records ≡ c.records
late_records true c = refl
late_records false c = refl

late_sent : (l : Bool) (c : CallsState) → (drained_calls l c).sent ≡ c.sent
late_sent true c = refl
late_sent false c = refl

late_begun : (l : Bool) (c : CallsState) → (drained_calls l c).begun ≡ true → l ≡ true
late_begun true c e = refl
late_begun false c e = absurd (cc e)

cleared : (last : Bool) (st : AskStage) (a b : Ask) (c : CallsState) → nat_eq b.looks b.budget ≡ last → Fed st a b (Some Clear) → b.looks ≤ b.budget
    → IsCarried (carried_at st a.in_flight) c.sent a.code a.input → c.begun ≡ true → After b (clear_ended last b.looks c).calls (exchanges_of c.records)
cleared true st a b c test f left h begun = record {
  list = refl;
  carries = carry_late (carried b) b.looks c.sent b.code b.input (carry (carried_at st a.in_flight) (carried b) c.sent a.code b.code a.input b.input f.carried f.code f.input h);
  runs = λ e. absurd (not_false (is_rest b.stage) f.rests e);
  looks = λ e. absurd (cc e);
  own = λ q e. absurd (not_false b.in_flight (f.flies ∙ f.sure.1) e);
}
cleared false st a b c test f left h begun = record {
  list = refl;
  carries = carry (carried_at st a.in_flight) (carried b) c.sent a.code b.code a.input b.input f.carried f.code f.input h;
  runs = λ e. begun;
  looks = λ e. subst (λ (w : Bool). LooksBegun w b.looks b.budget) (sym (rested_waits (is_rest b.stage) b.in_flight f.rests ∙ (f.flies ∙ f.sure.1))) (below b.looks b.budget left test);
  own = λ q e. absurd (not_false b.in_flight (f.flies ∙ f.sure.1) e);
}

pub told_on : (st : AskStage) (a b : Ask) (told : Option AskOutcome) (r : ℕ) (c : CallsState) → Fed st a b told → b.looks ≤ b.budget
    → IsCarried (carried_at st a.in_flight) c.sent a.code a.input → c.begun ≡ true → 0 < a.budget
    → (carried_at st a.in_flight ≡ true → a.in_flight ≡ false → owns c.sent ≡ true)
    → After b (ask_ended told r b c).calls (done_after told (exchanges_of c.records) b)
told_on st a b None r c f left h begun least own = record {
  list = refl;
  carries = carry (carried_at st a.in_flight) (carried b) c.sent a.code b.code a.input b.input f.carried f.code f.input h;
  runs = λ e. begun;
  looks = λ e. subst (λ (w : Bool). LooksBegun w b.looks b.budget) (sym (runs_on (is_rest b.stage) b.in_flight f.rests)) (subst (λ (n : ℕ). 0 < n) (sym f.budget) least);
  own = λ q e. own (sym f.carried ∙ q) (sym f.flies ∙ e);
}
told_on st a b (Some Posted) r c f left h begun least own = record {
  list = refl;
  carries = carry (carried_at st a.in_flight) (carried b) c.sent a.code b.code a.input b.input (f.carried ∙ sym f.sure.0) f.code f.input h;
  runs = λ e. begun;
  looks = λ e. subst (λ (z : Bool × (ℕ × ℕ)). LooksBegun z.0 z.1.0 z.1.1) (λ i. (sym (rested_waits (is_rest b.stage) b.in_flight f.rests ∙ f.flies) i, (sym f.looks i, sym f.budget i))) least;
  own = λ q e. absurd (not_false b.in_flight f.flies e);
}
told_on st a b (Some Clear) r c f left h begun least own = cleared (nat_eq b.looks b.budget) st a b c refl f left h begun
told_on st a b (Some (Drained e)) r c f left h begun least own =
    let l : Bool = is_given_up c.sent in let d : CallsState = drained e b.space (next_reading r c) (read_once c) in
    let k : IsCarried true c.sent b.code b.input = carry (carried_at st a.in_flight) true c.sent a.code b.code a.input b.input (sym f.sure.0) f.code f.input h in record {
      list = ap exchanges_of (late_records l d) ∙ drained_list c.sent c.records b e r k;
      carries = subst (λ (z : Bool × Option Sent). IsCarried z.0 z.1 b.code b.input) (λ i. (sym f.carried i, sym (late_sent l d) i)) refl;
      runs = λ e. absurd (not_false (is_rest b.stage) f.rests e);
      looks = λ e. subst (λ (w : Bool). LooksBegun w b.looks b.budget) (sym (rested_waits (is_rest b.stage) b.in_flight f.rests ∙ f.flies)) (subst (λ (n : ℕ). 0 < n) (sym f.budget) least);
      own = λ q e. absurd (not_false (carried b) q f.carried);
    }

-- the memory for an executed command stays where it was
clear_records : (last : Bool) (looks : ℕ) (c : CallsState) → (clear_ended last looks c).calls.records ≡ c.records
clear_records true looks c = refl
clear_records false looks c = refl

taken_on : (st : AskStage) (a b : Ask) (told : Option AskOutcome) (r : ℕ) (c : CallsState) (n : ℕ) (ready : Bool) → Fed st a b told
    → (carried_at st a.in_flight ≡ true → n ≡ length c.records → ready ≡ true)
    → carried b ≡ true → n ≡ length (ask_ended told r b c).calls.records → ready ≡ true
taken_on st a b None r c n ready f h q e = h (sym f.carried ∙ q) e
taken_on st a b (Some Posted) r c n ready f h q e = h f.sure.0 e
taken_on st a b (Some Clear) r c n ready f h q e = h f.sure.0 (e ∙ ap (λ (l : List Record). length l) (clear_records (nat_eq b.looks b.budget) b.looks c))
taken_on st a b (Some (Drained e)) r c n ready f h q e' = absurd (not_false (carried b) q f.carried)

left_most : (st : AskStage) (l b : ℕ) → LooksLeft st l b → l ≤ b
left_most LookWord l b h = omega (arith, h)
left_most _ l b h = h

-- ---- the state with the value that the step found

abbrev pub stepped_with : ℕ → ℕ → PlainState → PlainState
stepped_with v r s = record s { words = act (ask_next s.ask) s.words; ask = ask_fed s.ask v; calls = (ask_ended (ask_told s.ask v) r (ask_fed s.ask v) s.calls).calls }

at_rest : (st : AskStage) → st ≡ AskRest → is_rest st ≡ true
at_rest st e = ap is_rest e

budgeted_carried : (b : Bool) (p : ℕ) (a : Ask) → carried (budget_by b p a) ≡ carried a
budgeted_carried true p a = refl
budgeted_carried false p a = refl

-- a code that fits the header of its style
narrow : (w : Wiring) (code : ℕ) → CodeFits (style_of w) code → w.kind ≤ 2 → code < 256
narrow w code fits le =
    let low : ltb w.kind 3 ≡ true = lt-ltb w.kind 3 (omega arith) in
    let headed : style_of w ≡ Headed = rw low refl in
    subst (λ (s : Style). CodeFits s code) headed fits

small : (s : Style) (code : ℕ) → CodeFits s code → code < 2 ^ 32
small Headed code fits = omega arith
small Joined3 code fits = fits
small Separate3 code fits = fits
small Joined4 code fits = fits
small Separate4 code fits = fits
small Reduced5 code fits = fits

module _ (exec : Device) (is_state : List ℕ → Type 0) (room_of : List ℕ → ℕ) where
  pub step_holds : AskStepAgrees → (r v : ℕ) (s : PlainState) (ready : Bool) (room : ℕ) → v ≡ found (ask_next s.ask) s.words → v < 2 ^ 64
      → s.ask.stage ≢ AskRest → Holds exec is_state room_of s ready room → Holds exec is_state room_of (stepped_with v r s) ready room
  step_holds law r v s ready room e small runs h = let k = h.0 in let a : Ask = s.ask in let st : AskStage = a.stage in let ok = k.agree.1.2.ask_ok in let told : Option AskOutcome = ask_told a v in
      let z : Ask = ask_fed_at st a v in let b : Ask = ask_fed a v in let f : Fed st a b told = stepped st a z told b.steps (fed st a v (not_rest st runs) ok.flies) in
      let x : Asker = asker_of s k.unkept in let y : Answerer = answerer_of s in let ws : List ℕ = act (ask_next a) s.words in let c : CallsState = (ask_ended told r b s.calls).calls in
      let g = law exec s.start s.words x y v k.agree (subst (λ (n : ℕ). Finds (ask_next a) s.words n) (sym e) (finds_found (ask_next a) s.words)) small in
      let begun : s.calls.begun ≡ true = k.runs (not_rest st runs) in
      let t : After b c (done_after told (exchanges_of s.calls.records) b) = told_on st a b told r s.calls f (left_most b.stage b.looks b.budget g.1.2.ask_ok.looks) k.carries begun (begun_looks (both (is_rest st) a.in_flight) a.looks a.budget (k.looks begun)) k.own in (
        record {
          unkept = record k.unkept { clears = clears_after told k.unkept.clears };
          agree = subst (λ (p : List Exchange × List ℕ). Agree exec s.start ws (record { m = b; done = p.0; clears = clears_after told k.unkept.clears; opening = p.1; asked = k.unkept.asked }) y)
              (λ i. (sym (t.list ∙ done_same told (exchanges_of s.calls.records) z b.steps) i, ap opening_of (sym f.wiring) i)) g;
          long = long_act (ask_next a) s.words ∙ (k.long ∙ ap (λ (w : Wiring). 8 + block_of w) (sym f.wiring));
          start = k.start;
          room = k.room ∙ ap (λ (w : Wiring). w.room) (sym f.wiring);
          carries = t.carries;
          runs = t.runs;
          looks = t.looks;
          own = t.own;
        },
        record { fits = h.1.fits ∙ ap (λ (w : Wiring). w.room) (sym f.wiring); taken = λ q n. taken_on st a b told r s.calls (length s.executed) ready f h.1.taken q n },
      )

  -- a look begins
  pub look_holds : LookBeginAgrees → (s : PlainState) (ready : Bool) (room : ℕ) → s.ask.stage ≡ AskRest → s.ask.in_flight ≡ true → s.calls.begun ≡ true → Holds exec is_state room_of s ready room → Holds exec is_state room_of (record s { ask = ask_looking s.ask }) ready room
  look_holds law s ready room rest flies begun h = let k = h.0 in let a : Ask = s.ask in
      let left : a.looks < a.budget = subst (λ (z : Bool). LooksBegun z a.looks a.budget) (rested_waits (is_rest a.stage) a.in_flight (at_rest a.stage rest) ∙ flies) (k.looks begun) in
      let same : a.in_flight ≡ carried a = sym (ap (λ (st : AskStage). carried_at st a.in_flight) rest) in (
        record {
          unkept = k.unkept;
          agree = law exec s.start s.words (asker_of s k.unkept) (answerer_of s) rest flies left k.agree;
          long = k.long;
          start = k.start;
          room = k.room;
          carries = subst (λ (z : Bool). IsCarried z s.calls.sent a.code a.input) (sym same) k.carries;
          runs = λ e. begun;
          looks = λ e. above_none a.looks a.budget left;
          own = λ q e. absurd (not_false a.in_flight flies e);
        },
        record { fits = h.1.fits; taken = λ q n. h.1.taken (sym same ∙ q) n },
      )

  -- what is asked of the calls where no run is under way
  pub rest_holds : BudgetAgrees → (s : PlainState) (ready : Bool) (room : ℕ) (begins : Bool) (polls : ℕ) (c : CallsState) → s.ask.stage ≡ AskRest
      → c.records ≡ s.calls.records → c.sent ≡ s.calls.sent → (c.begun ≡ true → (begins ≡ true) × (0 < polls)) → Holds exec is_state room_of s ready room
      → Holds exec is_state room_of (record s { ask = budget_by begins polls s.ask; calls = c }) ready room
  rest_holds law s ready room true polls c rest rs sent begins h = let k = h.0 in let a : Ask = s.ask in (
    record {
      unkept = k.unkept;
      agree = subst (λ (l : List Record). Agree exec s.start s.words (record { m = ask_budgeted a polls; done = exchanges_of l; clears = k.unkept.clears; opening = opening_of a.wiring; asked = k.unkept.asked }) (answerer_of s)) (sym rs) (law exec s.start s.words (asker_of s k.unkept) (answerer_of s) polls rest k.agree);
      long = k.long;
      start = k.start;
      room = k.room;
      carries = subst (λ (z : Option Sent). IsCarried (carried a) z a.code a.input) (sym sent) k.carries;
      runs = λ e. absurd (not_false (is_rest a.stage) (at_rest a.stage rest) e);
      looks = λ e. polled (both (is_rest a.stage) a.in_flight) polls (begins e).1;
      own = λ q e. subst (λ (z : Option Sent). owns z ≡ true) (sym sent) (k.own q e);
    },
    record { fits = h.1.fits; taken = λ q n. h.1.taken q (n ∙ ap (λ (l : List Record). length l) rs) },
  )
    where
      polled : (w : Bool) (p : ℕ) → 0 < p → LooksBegun w 0 p
      polled true p l = l
      polled false p l = l
  rest_holds law s ready room false polls c rest rs sent begins h = let k = h.0 in let a : Ask = s.ask in (
    record {
      unkept = k.unkept;
      agree = subst (λ (l : List Record). Agree exec s.start s.words (record { m = a; done = exchanges_of l; clears = k.unkept.clears; opening = opening_of a.wiring; asked = k.unkept.asked }) (answerer_of s)) (sym rs) k.agree;
      long = k.long;
      start = k.start;
      room = k.room;
      carries = subst (λ (z : Option Sent). IsCarried (carried a) z a.code a.input) (sym sent) k.carries;
      runs = λ e. absurd (not_false (is_rest a.stage) (at_rest a.stage rest) e);
      looks = λ e. absurd (not_false false (begins e).0 refl);
      own = λ q e. subst (λ (z : Option Sent). owns z ≡ true) (sym sent) (k.own q e);
    },
    record { fits = h.1.fits; taken = λ q n. h.1.taken q (n ∙ ap (λ (l : List Record). length l) rs) },
  )

  -- a post begins, of a machine whose looks are counted
  pub post_holds : PostBeginAgrees → (s : PlainState) (ready : Bool) (room : ℕ) (c : Asked) (r : ℕ) → s.ask.stage ≡ AskRest → s.ask.in_flight ≡ false
      → length c.bytes ≤ s.ask.wiring.room → s.ask.posts < 4096 → CodeFits (style_of s.ask.wiring) c.code → IsBytes c.bytes → 0 < s.ask.budget
      → Holds exec is_state room_of s ready room
      → Holds exec is_state room_of (record s { ask = ask_begun s.ask c.code c.bytes; calls = call_posted c s.ask.space r (call_begun s.calls) }) true room
  post_holds law s ready room c r rest free fits posts code bytes least h = let k = h.0 in let a : Ask = s.ask in (
    record {
      unkept = record k.unkept { asked = k.unkept.asked ++ c.bytes ∷ [] };
      agree = law exec s.start s.words (asker_of s k.unkept) (answerer_of s) c.code c.bytes rest free fits posts (narrow s.ask.wiring c.code code) (small (style_of s.ask.wiring) c.code code) bytes k.agree;
      long = k.long;
      start = k.start;
      room = k.room;
      carries = posted_carries c r (record s { calls = call_begun s.calls });
      runs = λ e. refl;
      looks = λ e. subst (λ (b : Bool). LooksBegun (both b a.in_flight) a.looks a.budget) (sym (begun_runs a c.code c.bytes)) least;
      own = λ q e. refl;
    },
    record { fits = h.1.fits; taken = λ q n. refl },
  )

-- ---- in the words of the code

flies_fed : (st : AskStage) (a b : Ask) (told : Option AskOutcome) (sent : Option Sent) (n : ℕ) → Fed st a b told
    → IsCarried (carried_at st a.in_flight) sent a.code a.input → length a.input ≡ n → length b.space ≡ n → FliesIf told sent (length b.space)
flies_fed st a b None sent n f h i o = tt
flies_fed st a b (Some Posted) sent n f h i o = tt
flies_fed st a b (Some Clear) sent n f h i o = tt
flies_fed st a b (Some (Drained e)) sent n f h i o = has (carried_at st a.in_flight) sent f.sure.0 h
  where
    has : (w : Bool) (sent : Option Sent) → w ≡ true → IsCarried w sent a.code a.input → FliesWith sent (length b.space)
    has true None q h = absurd h
    has true (Some c) q h = ap (λ (l : List ℕ). length l) h.1 ∙ (i ∙ sym o)
    has false sent q h = absurd (cc q)

-- a slice of the whole list
pub whole : (n : ℕ) (t : Action) (new now items : List ℕ) → new ≡ act t now → now ≡ items → n ≡ length items
    → take n (new ++ drop (length new) items) ≡ act t items
whole n t new now items e q l = let same : new ≡ act t items = e ∙ ap (act t) q in let long : length new ≡ length items = ap (λ (x : List ℕ). length x) same ∙ long_act t items in
    ap (λ (k : ℕ). take n (new ++ drop k items)) long ∙ (ap (λ (x : List ℕ). take n (new ++ x)) (drop_all (length items) items (same_least (length items))) ∙ (ap (take n) (append-nil new) ∙ (take_all n new (below_long n (length new) (l ∙ sym long)) ∙ same)))
  where
    same_least : (k : ℕ) → k ≤ k
    same_least k = omega arith

    below_long : (n k : ℕ) → n ≡ k → k ≤ n
    below_long n k e = omega (arith, e)

module _ (exec : Device) (is_state : List ℕ → Type 0) (room_of : List ℕ → ℕ) where
  pub told_flies : AskStepAgrees → (s : PlainState) (ready : Bool) (room : ℕ) (t : Action) (v : ℕ) (b : Ask) (told : Option AskOutcome) → t ≡ ask_next s.ask
      → v ≡ found t s.words → v < 2 ^ 64 → s.ask.stage ≢ AskRest → b ≡ ask_fed s.ask v → told ≡ ask_told s.ask v
      → Holds exec is_state room_of s ready room → FliesIf told s.calls.sent (length b.space)
  told_flies law s ready room t v b told e q small runs fb ft h = let k = h.0 in let a : Ask = s.ask in let st : AskStage = a.stage in let z : Ask = ask_fed_at st a v in
      let f : Fed st a (ask_fed a v) (ask_told a v) = stepped st a z (ask_told a v) (ask_fed a v).steps (fed st a v (not_rest st runs) k.agree.1.2.ask_ok.flies) in
      let g = law exec s.start s.words (asker_of s k.unkept) (answerer_of s) v k.agree (subst (λ (n : ℕ). Finds (ask_next a) s.words n) (sym (q ∙ ap (λ (t : Action). found t s.words) e)) (finds_found (ask_next a) s.words)) small in
      let i : length a.input ≡ a.wiring.room = k.agree.1.2.ask_ok.sized.input in
      let o : length (ask_fed a v).space ≡ a.wiring.room = g.1.2.ask_ok.sized.space ∙ ap (λ (w : Wiring). w.room) f.wiring in
      subst (λ (p : Option AskOutcome × Ask). FliesIf p.0 s.calls.sent (length p.1.space)) (λ i. (sym ft i, sym fb i)) (flies_fed st a (ask_fed a v) (ask_told a v) s.calls.sent a.wiring.room f k.carries i o)

  pub told_holds : AskStepAgrees
      → (s : PlainState) (ready : Bool) (room r : ℕ) (t : Action) (v : ℕ) (b : Ask) (told : Option AskOutcome) (ws : List ℕ) (d : Ended) → t ≡ ask_next s.ask
      → v ≡ found t s.words → v < 2 ^ 64 → s.ask.stage ≢ AskRest → b ≡ ask_fed s.ask v → told ≡ ask_told s.ask v
      → ws ≡ act t s.words → d ≡ ask_ended told r b s.calls → Holds exec is_state room_of s ready room
      → Holds exec is_state room_of (record s { words = ws; ask = b; calls = d.calls }) ready room
  told_holds law s ready room r t v b told ws d e q small runs fb ft w c h =
      let l : (record s { words = ws; ask = b; calls = d.calls }) ≡ stepped_with v r s = ap (λ (p : List ℕ × Ask × CallsState). record s { words = p.0; ask = p.1; calls = p.2 }) (λ i. ((w ∙ ap (λ (t : Action). act t s.words) e) i, fb i, (ap (λ (d : Ended). d.calls) c ∙ ap (λ (p : Option AskOutcome × Ask). (ask_ended p.0 r p.1 s.calls).calls) (λ i. (ft i, fb i))) i)) in
      subst (λ (s' : PlainState). Holds exec is_state room_of s' ready room) (sym l) (step_holds exec is_state room_of law r v s ready room (q ∙ ap (λ (t : Action). found t s.words) e) small runs h)

  -- the memory for one more command is taken
  pub ready_more : (s : PlainState) (ready : Bool) (room : ℕ) → Holds exec is_state room_of s ready room → Holds exec is_state room_of s true room
  ready_more s ready room h = (h.0, record { fits = h.1.fits; taken = λ q n. refl })

  -- a post begins, whether the call begins with it or was begun before
  pub posted_holds : BudgetAgrees → PostBeginAgrees → (begins : Bool) (polls : ℕ) (s : PlainState) (ready : Bool) (room : ℕ) (c : Asked) (r : ℕ)
      → s.ask.stage ≡ AskRest → s.ask.in_flight ≡ false → length c.bytes ≤ s.ask.wiring.room → s.ask.posts < 4096 → CodeFits (style_of s.ask.wiring) c.code
      → IsBytes c.bytes → 0 < (budget_by begins polls s.ask).budget
      → Holds exec is_state room_of s ready room
      → Holds exec is_state room_of (record s { ask = ask_begun (budget_by begins polls s.ask) c.code c.bytes; calls = call_posted c s.ask.space r (call_begun s.calls) }) true room
  posted_holds law law' true polls s ready room c r rest free fits posts code bytes least h = post_holds exec is_state room_of law' (record s { ask = ask_budgeted s.ask polls }) ready room c r rest free fits posts code bytes least (rest_holds exec is_state room_of law s ready room true polls s.calls rest refl refl (λ e. (refl, least)) h)
  posted_holds law law' false polls s ready room c r rest free fits posts code bytes least h = post_holds exec is_state room_of law' s ready room c r rest free fits posts code bytes least h
