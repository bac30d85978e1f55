-- A pick of the asking side adds a run of the tables to a trace, or a part of one.
use Rattle.std.proofs.Common.{◌≡◌, ℕ, ◌+◌, ◌/◌, ◌<◌, ◌≤◌, Bool, true, false, eqb, List, [], ◌∷◌, ◌++◌, length, refl, sym, ap, ◌∙◌, subst, arith}
use Rattle.std.specs.Prelude.{Option, Some, None}
use Rattle.std.specs.List.{slice_get}
use Rattle.std.proofs.lemmas.List.{append-nil, append_assoc}
use Rattle.pcc_history.specs.Devices.{Device}
use Rattle.pcc_history.specs.Channel.{both, over}
use Rattle.rate_limit.specs.declared.Limits.{Limits}
use Rattle.rate_limit.specs.RateLimits.{earliest_of}
use Rattle.pcc_journal.specs.Records.{times_of}
use Rattle.shmem_header.specs.Spelling.{words_of}
use Rattle.pcc_steps.specs.declared.wiring.Wiring.{Wiring}
use Rattle.pcc_steps.specs.declared.wiring.Style.{Style}
use Rattle.pcc_steps.specs.declared.wiring.Style.TheVariants.{Headed, Joined3, Separate3, Joined4, Separate4, Reduced5}
use Rattle.pcc_steps.specs.declared.wiring.Action.{Action}
use Rattle.pcc_steps.specs.declared.wiring.Action.TheVariants.{Rest}
use Rattle.pcc_steps.specs.declared.ask.AskStage.{AskStage}
use Rattle.pcc_steps.specs.declared.ask.AskStage.TheVariants.{AskRest, PostBlock, PostHeader, PostUpdateLoad, PostUpdateStore, PostMarkLoad, PostMarkStore, PostBellLoad, PostBellStore, PostLine, LookWord, LookError, LookBlock, LookLine, LookLineStore, LookAckLoad, LookAckStore}
use Rattle.pcc_steps.specs.declared.ask.AskOutcome.{AskOutcome}
use Rattle.pcc_steps.specs.Wires.{style_of, heads_of, block_header, sees_done, acknowledges}
use Rattle.pcc_steps.specs.Runs.{Run, post_run, look_run}
use Rattle.pcc_steps.specs.Walk.{ask_left, ask_after}
use Rattle.pcc_steps.specs.Asking.{Ask, AskOk, LooksLeft, PostsLeft, ask_begun, ask_stepped as stepped_on, has_more, look_on, read_on, block_on, line_on, lowered_on, ask_next, ask_fed, ask_told, ask_fed_at, ask_looking, ask_budgeted}
use Rattle.pcc_steps.specs.Agree.{act, flying, found}
use Rattle.pcc_steps.specs.Laws.{PostsByTable, LooksByTable, AsksByTable}
use Rattle.channel_core.specs.declared.sent.Sent.{Sent}
use Rattle.channel_plain.specs.declared.trace.Asked.{Asked}
use Rattle.channel_plain.specs.declared.trace.Side.{Side}
use Rattle.channel_plain.specs.declared.trace.TraceEnd.{TraceEnd}
use Rattle.channel_plain.specs.declared.trace.TraceEnd.TheVariants as end
use Rattle.channel_plain.specs.declared.trace.TraceLine.{TraceLine}
use Rattle.channel_plain.specs.Picks.{PlainState, Picked, ask_picked_at, ask_stepped, begins, call_begun, call_ended, from_rest, line_of, post_or_soon, posting, read_once, refusal_of, sent_by, served, soon_end}
use Rattle.pcc_steps.specs.Carrying.{carried, carried_at, is_rest}
use Rattle.channel_plain.specs.Standing.{HavePolls, IsCarried, IsServing, LooksBegun, Stands}
use Rattle.channel_plain.specs.Weaving.{reading_of}
use Rattle.channel_plain.specs.WordRuns.{Calls, Serves, goes_on, begins as begins_now, Turns, idles, refuses, delays, end_call, take_reading, block_after, posts_call, reading_at, replied, earliest_at, refusal_at}
use Rattle.channel_core.specs.Readings.{count_of}
use Rattle.channel_core.specs.Sendings.{count_flying}
use Rattle.pcc_steps.proofs.AskFeeds.{Fed, fed, stepped, rest_is}
use Rattle.pcc_steps.proofs.PostStages.{posted_ok}
use Rattle.channel_plain.proofs.Blocks.{blocks_kept, blocks_stepped, shown_space}
use Rattle.channel_plain.proofs.PostStages.{First, begun_first, begun_runs}
use Rattle.channel_plain.proofs.Posts.{no_reading}
use Rattle.channel_plain.proofs.Readied.{late_enough, soon_is}
use Rattle.channel_plain.proofs.AskPicks.{running as runs_on}
use Rattle.channel_plain.proofs.Bools.{not_false}
use Rattle.channel_plain.proofs.WordSteps.{AskTie, resting, running, Running, posts_run, looks_run, calls_at, run_turn, takes_next, takes_rest, turned}

-- ---- the looks stay within the budget

look_left : (b : Bool) (v : ℕ) (a : Ask) → a.looks < a.budget → (look_on b v a).looks ≤ (look_on b v a).budget
look_left true v a h = omega (arith, h)
look_left false v a h = omega (arith, h)

block_left : (n : Bool) (a : Ask) → a.looks ≤ a.budget → (block_on n a).looks ≤ (block_on n a).budget
block_left true a h = h
block_left false a h = h

read_left : (m : Bool) (j v : ℕ) (a : Ask) → a.looks ≤ a.budget → (read_on m j v a).looks ≤ (read_on m j v a).budget
read_left true j v a h = h
read_left false j v a h = block_left a.wiring.notify (record a { loaded = (read_on true j v a).loaded }) h

line_left : (b : Bool) (a : Ask) → a.looks ≤ a.budget → (line_on b a).looks ≤ (line_on b a).budget
line_left true a h = h
line_left false a h = h

lowered_left : (b : Bool) (a : Ask) → a.looks ≤ a.budget → (lowered_on b a).looks ≤ (lowered_on b a).budget
lowered_left true a h = h
lowered_left false a h = h

none_left : (b : ℕ) → 0 ≤ b
none_left b = omega arith

left_fed : (st : AskStage) (a : Ask) (v : ℕ) → is_rest st ≡ false → LooksLeft st a.looks a.budget → (ask_fed_at st a v).looks ≤ (ask_fed_at st a v).budget
left_fed AskRest a v e h = h
left_fed (PostBlock j) a v e h = h
left_fed PostHeader a v e h = h
left_fed PostUpdateLoad a v e h = h
left_fed PostUpdateStore a v e h = h
left_fed PostMarkLoad a v e h = h
left_fed PostMarkStore a v e h = h
left_fed PostBellLoad a v e h = h
left_fed PostBellStore a v e h = h
left_fed PostLine a v e h = none_left a.budget
left_fed LookWord a v e h = look_left (sees_done a.wiring v) v a h
left_fed LookError a v e h = h
left_fed (LookBlock j) a v e h = read_left (has_more j a.wiring) j v a h
left_fed LookLine a v e h = line_left (eqb v 0) a h
left_fed LookLineStore a v e h = lowered_left (acknowledges a.wiring) a h
left_fed LookAckLoad a v e h = h
left_fed LookAckStore a v e h = h

-- ---- the machine that begins a post, by the machine after its first step

some_block : (h r : ℕ) → 8 ≤ r → 0 < h + r / 8
some_block h r l = omega (arith, l)

begun_back : (a : Ask) (code : ℕ) (bytes : List ℕ) (v : ℕ) → a.stage ≡ AskRest → a.in_flight ≡ false → AskOk a → AskOk (ask_fed (ask_begun a code bytes) v)
    → AskOk (ask_begun a code bytes)
begun_back a code bytes v rest free old ok = let b : Ask = ask_begun a code bytes in let f : First b.stage b v = begun_first a code bytes v in
    let good : AskOk (stepped_on (record b { stage = f.next; kept = f.kept })) = subst AskOk (ap stepped_on f.fed) ok in
    posted_ok 0 0 b (record {
      wired = good.wired;
      sized = good.sized;
      place = some_block (heads_of (style_of a.wiring)) a.wiring.room old.wired.least;
      flies = free;
      looks = subst (λ (st : AskStage). LooksLeft st a.looks a.budget) rest old.looks;
      posts = f.posts a.posts good.posts;
      kept = old.kept;
      mask = good.mask;
      id = good.id;
      code = good.code;
    })

looking_ok : (a : Ask) → a.stage ≡ AskRest → a.in_flight ≡ true → a.looks < a.budget → AskOk a → AskOk (ask_looking a)
looking_ok a rest flies left ok = record { wired = ok.wired; sized = ok.sized; place = tt; flies = flies; looks = left; posts = subst (λ (st : AskStage). PostsLeft st a.posts) rest ok.posts; kept = ok.kept; mask = ok.mask; id = ok.id; code = ok.code }

budget_ok : (a : Ask) (polls : ℕ) → a.stage ≡ AskRest → AskOk a → AskOk (ask_budgeted a polls)
budget_ok a polls rest ok = record { wired = ok.wired; sized = ok.sized; place = ok.place; flies = ok.flies; looks = subst (λ (st : AskStage). LooksLeft st 0 polls) (sym rest) (none_left polls); posts = ok.posts; kept = ok.kept; mask = ok.mask; id = ok.id; code = ok.code }

both_rest : (r f : Bool) → r ≡ true → both r f ≡ f
both_rest true f e = refl
both_rest false f e = absurd (cc e)

same_call : (x y : Asked) → Some x ≡ Some y → x ≡ y
same_call x y e = cc

-- ---- the command in flight

carried_some : (sent : Option Sent) (code : ℕ) (input : List ℕ) → IsCarried true sent code input → (p : Sent) × (sent ≡ Some p)
carried_some None code input h = absurd h
carried_some (Some p) code input h = (p, refl)

in_flight_is : (f : Bool) (sent : Option Sent) (code : ℕ) (input : List ℕ) → IsCarried f sent code input → count_flying sent ≡ flying f
in_flight_is true None code input h = absurd h
in_flight_is true (Some p) code input h = refl
in_flight_is false None code input h = refl
in_flight_is false (Some p) code input h = absurd (cc h)

module _ (w : Wiring) (limits : Limits) (calls : List Asked) where
  step_tie : AsksByTable → (s : PlainState) (side : Side) (r : ℕ) → AskOk s.ask → is_rest s.ask.stage ≡ false → s.ask.wiring ≡ w
      → (from x : Calls) (past ls : List TraceLine) (taken : List ℕ) → Turns w limits calls from past x → Running w limits calls s x ls taken
      → AskTie w limits calls from (ask_stepped r s).state (past ++ (ls ++ line_of side (ask_stepped r s) ∷ [])) ((x.readings ++ taken) ++ reading_of (ask_stepped r s).reads r)
  step_tie law s side r ok runs wired from x past ls taken before run =
      let a : Ask = s.ask in let st : AskStage = a.stage in let t : Action = ask_next a in let v : ℕ = found t s.words in let z : Ask = ask_fed_at st a v in let b : Ask = ask_fed a v in let told : Option AskOutcome = ask_told a v in
      let f : Fed st a b told = stepped st a z told b.steps (fed st a v runs ok.flies) in
      let next : ℕ → Run _ = λ v. ask_after (ask_told a v) (ask_fed a v) in
      let tk = law a ok (λ e. not_false (is_rest st) (ap is_rest e) runs) in
      run_turn w limits calls told st s b (act t s.words) side t v r f (blocks_stepped told a z b.steps (blocks_kept st a v)) (left_fed st a v runs ok.looks) (f.wiring ∙ wired) (takes_next (ask_left a) t next tk) (takes_rest (ask_left a) t next v tk) from x past ls taken before run

  -- a call is served, and no run is under way
  soon_tie : PostsByTable → AsksByTable → (o : Option TraceEnd) (s : PlainState) (side : Side) (r : ℕ) (c : Asked) (from x : Calls) (lines : List TraceLine)
      → soon_end r s.calls ≡ o → s.ask.stage ≡ AskRest → s.ask.in_flight ≡ false → s.calls.sent ≡ None → s.ask.wiring ≡ w → s.calls.limits ≡ limits
      → s.ask.budget ≡ c.polls
      → s.calls.readings ≡ count_of (length x.readings) → replied w s.ask.shown ≡ s.ask.space → AskOk s.ask → AskOk (post_or_soon o c r s).state.ask
      → Turns w limits calls from lines x → Serves w limits calls x c (calls_at s s.calls.sent x.readings)
      → AskTie w limits calls from (post_or_soon o c r s).state (lines ++ line_of side (post_or_soon o c r s) ∷ []) (x.readings ++ reading_of (post_or_soon o c r s).reads r)
  soon_tie posts law (Some e) s side r c from x lines test rest free empty wired lim polls num spelled old ok before sv =
      let y : Calls = calls_at s s.calls.sent x.readings in let n : ℕ = earliest_of s.calls.limits (times_of s.calls.records) in let l : TraceLine = record { side = side; action = Rest; value = 0; end = e } in
      let same : n ≡ earliest_at w limits calls y = ap (λ (m : Limits). earliest_of m (times_of s.calls.records)) lim in
      let soon = soon_is s.calls.limits (times_of s.calls.records) r e test in
      turned w limits calls from x (end_call (take_reading y r)) (record s { calls = call_ended (read_once s.calls) }) lines (l ∷ []) (lines ++ l ∷ []) (x.readings ++ r ∷ []) (ap is_rest rest) before
      (delays x y c r l sv empty (subst (λ (n : ℕ). r < n) same soon.0) (refl, sym soon.1 ∙ ap (λ (n : ℕ). end.TooSoon r n) same)) refl refl
  soon_tie posts law None s side r c from x lines test rest free empty wired lim polls num spelled old ok before sv =
      let n : ℕ = earliest_of s.calls.limits (times_of s.calls.records) in let t : PlainState = posting c r s in let a : Ask = t.ask in let v : ℕ = found (ask_next a) t.words in
      let same : n ≡ earliest_at w limits calls (calls_at t None x.readings) = ap (λ (m : Limits). earliest_of m (times_of s.calls.records)) lim in
      let good : AskOk a = begun_back s.ask c.code c.bytes v rest free old ok in
      let block : a.sent ≡ block_after w c s.ask.shown = ap (λ (z : Wiring × List ℕ). block_header (style_of z.0) z.0 c.code (length c.bytes) ++ words_of (over z.1 c.bytes)) (λ i. (wired i, sym spelled i)) in
      let left : posts_call w c s.ask.shown ≡ ask_left a = ap (λ (b : List ℕ). post_run w c.code b s.ask.shown) (sym block) ∙ (ap (λ (w : Wiring). post_run w c.code a.sent s.ask.shown) (sym wired) ∙ sym (posts s.ask c.code c.bytes)) in
      let sent : t.calls.sent ≡ Some (sent_by c s.ask.space (reading_at x.readings r)) = ap (λ (n : ℕ). Some (sent_by c s.ask.space (record { at = r; number = n }))) num in
      let run : Running w limits calls t x [] (r ∷ []) = posts_run c r free (subst (λ (o : Option Sent). Serves w limits calls x c (calls_at s o x.readings)) empty sv) sent block (subst (λ (n : ℕ). n ≤ r) same (late_enough s.calls.limits (times_of s.calls.records) r test)) left polls in
      subst (λ (rs : List ℕ). AskTie w limits calls from (ask_stepped r t).state (lines ++ line_of side (ask_stepped r t) ∷ []) rs) (ap (λ (b : Bool). (x.readings ++ r ∷ []) ++ reading_of b r) (no_reading t r s.ask c.code c.bytes refl) ∙ append-nil (x.readings ++ r ∷ []))
      (step_tie law t side r good (begun_runs s.ask c.code c.bytes) wired from x lines [] (r ∷ []) before run)

  served_tie : PostsByTable → LooksByTable → AsksByTable
      → (f : Bool) (s : PlainState) (side : Side) (r : ℕ) (c : Asked) (from x : Calls) (lines : List TraceLine) → s.ask.in_flight ≡ f → s.ask.stage ≡ AskRest
      → AskOk s.ask → IsCarried s.ask.in_flight s.calls.sent s.ask.code s.ask.input → (f ≡ true → s.ask.looks < s.ask.budget)
      → s.ask.wiring ≡ w → s.calls.limits ≡ limits → s.ask.budget ≡ c.polls → s.calls.readings ≡ count_of (length x.readings)
      → replied w s.ask.shown ≡ s.ask.space → AskOk (served f c r s).state.ask → Turns w limits calls from lines x
      → Serves w limits calls x c (calls_at s s.calls.sent x.readings)
      → AskTie w limits calls from (served f c r s).state (lines ++ line_of side (served f c r s) ∷ []) (x.readings ++ reading_of (served f c r s).reads r)
  served_tie posts looks law true s side r c from x lines flies rest ok has left wired lim polls num spelled ok' before sv =
      let t : PlainState = record s { ask = ask_looking s.ask } in let p = carried_some s.calls.sent s.ask.code s.ask.input (subst (λ (f : Bool). IsCarried f s.calls.sent s.ask.code s.ask.input) flies has) in
      let run : Running w limits calls t x [] [] = looks_run c p.0 flies sv p.1 (ap look_run (sym wired) ∙ sym (looks s.ask)) polls in
      subst (λ (rs : List ℕ). AskTie w limits calls from (ask_stepped r t).state (lines ++ line_of side (ask_stepped r t) ∷ []) (rs ++ reading_of (ask_stepped r t).reads r)) (append-nil x.readings)
      (step_tie law t side r (looking_ok s.ask rest flies (left refl) ok) refl wired from x lines [] [] before run)
  served_tie posts looks law false s side r c from x lines free rest ok has left wired lim polls num spelled ok' before sv =
      soon_tie posts law (soon_end r s.calls) s side r c from x lines refl rest free (subst (λ (f : Bool). IsCarried f s.calls.sent s.ask.code s.ask.input) free has) wired lim polls num spelled ok ok' before sv

  begins_tie : PostsByTable → LooksByTable → AsksByTable
      → (o : Option TraceEnd) (s : PlainState) (side : Side) (r : ℕ) (c : Asked) (from : Calls) (lines : List TraceLine) (rs : List ℕ)
      → refusal_of s.ask.wiring c (length s.calls.records) (flying s.ask.in_flight) ≡ o → s.ask.stage ≡ AskRest → AskOk s.ask
      → AskOk (ask_budgeted s.ask c.polls) → IsCarried s.ask.in_flight s.calls.sent s.ask.code s.ask.input
      → 0 < c.polls → s.ask.wiring ≡ w → s.calls.limits ≡ limits → s.calls.readings ≡ count_of (length rs) → replied w s.ask.shown ≡ s.ask.space
      → s.calls.begun ≡ false → slice_get calls s.calls.ended ≡ Some c → AskOk (begins o c r s).state.ask
      → Turns w limits calls from lines (calls_at s s.calls.sent rs)
      → AskTie w limits calls from (begins o c r s).state (lines ++ line_of side (begins o c r s) ∷ []) (rs ++ reading_of (begins o c r s).reads r)
  begins_tie posts looks law (Some e) s side r c from lines rs q rest ok ok1 has least wired lim num spelled idle at ok' before =
      let x : Calls = calls_at s s.calls.sent rs in let l : TraceLine = record { side = side; action = Rest; value = 0; end = e } in
      let no : refusal_at w c x ≡ Some e = ap (λ (z : Wiring × ℕ). refusal_of z.0 c (length s.calls.records) z.1) (λ i. (sym wired i, in_flight_is s.ask.in_flight s.calls.sent s.ask.code s.ask.input has i)) ∙ q in
      turned w limits calls from x (end_call x) (record s { calls = call_ended s.calls }) lines (l ∷ []) (lines ++ l ∷ []) (rs ++ []) (ap is_rest rest) before (refuses x c e l idle at no (refl, refl))
      (λ i. record (end_call x) { readings = sym (append-nil rs) i }) refl
  begins_tie posts looks law None s side r c from lines rs q rest ok ok1 has least wired lim num spelled idle at ok' before =
      let x : Calls = calls_at s s.calls.sent rs in let t : PlainState = record s { ask = ask_budgeted s.ask c.polls; calls = call_begun s.calls } in
      let no : refusal_at w c x ≡ None = ap (λ (z : Wiring × ℕ). refusal_of z.0 c (length s.calls.records) z.1) (λ i. (sym wired i, in_flight_is s.ask.in_flight s.calls.sent s.ask.code s.ask.input has i)) ∙ q in
      served_tie posts looks law s.ask.in_flight t side r c from x lines refl rest ok1 has (λ e. least) wired lim refl num spelled ok' before (begins_now x c idle at no)

  idle_tie : (s : PlainState) (side : Side) (from : Calls) (lines : List TraceLine) (rs : List ℕ) → slice_get calls s.calls.ended ≡ None
      → s.ask.stage ≡ AskRest → Turns w limits calls from lines (calls_at s s.calls.sent rs)
      → AskTie w limits calls from s (lines ++ record { side = side; action = Rest; value = 0; end = end.Open } ∷ []) (rs ++ [])
  idle_tie s side from lines rs at rest before = let x : Calls = calls_at s s.calls.sent rs in let l : TraceLine = record { side = side; action = Rest; value = 0; end = end.Open } in
      turned w limits calls from x x s lines (l ∷ []) (lines ++ l ∷ []) (rs ++ []) (ap is_rest rest) before (idles x l at (refl, refl)) (λ i. record x { readings = sym (append-nil rs) i }) refl

  rest_tie : PostsByTable → LooksByTable → AsksByTable
      → (b : Bool) (o : Option Asked) (s : PlainState) (side : Side) (r : ℕ) (from : Calls) (lines : List TraceLine) (rs : List ℕ) → s.calls.begun ≡ b
      → slice_get calls s.calls.ended ≡ o → s.ask.stage ≡ AskRest → AskOk s.ask → IsCarried s.ask.in_flight s.calls.sent s.ask.code s.ask.input
      → (s.calls.begun ≡ true → LooksBegun s.ask.in_flight s.ask.looks s.ask.budget) → IsServing calls s → HavePolls calls → s.ask.wiring ≡ w
      → s.calls.limits ≡ limits → s.calls.readings ≡ count_of (length rs) → replied w s.ask.shown ≡ s.ask.space → AskOk (from_rest b o r s).state.ask
      → Turns w limits calls from lines (calls_at s s.calls.sent rs)
      → AskTie w limits calls from (from_rest b o r s).state (lines ++ line_of side (from_rest b o r s) ∷ []) (rs ++ reading_of (from_rest b o r s).reads r)
  rest_tie posts looks law true None s side r from lines rs eb at rest ok has left serving polls wired lim num spelled ok' before = idle_tie s side from lines rs at rest before
  rest_tie posts looks law false None s side r from lines rs eb at rest ok has left serving polls wired lim num spelled ok' before = idle_tie s side from lines rs at rest before
  rest_tie posts looks law true (Some c) s side r from lines rs eb at rest ok has left serving polls wired lim num spelled ok' before = let v = serving eb in
      served_tie posts looks law s.ask.in_flight s side r c from (calls_at s s.calls.sent rs) lines refl rest ok has (λ e. subst (λ (f : Bool). LooksBegun f s.ask.looks s.ask.budget) e (left eb)) wired lim (v.polls ∙ ap (λ (c : Asked). c.polls) (same_call v.call c (sym v.at ∙ at))) num spelled ok' before
      (goes_on (calls_at s s.calls.sent rs) c eb at)
  rest_tie posts looks law false (Some c) s side r from lines rs eb at rest ok has left serving polls wired lim num spelled ok' before =
      begins_tie posts looks law (refusal_of s.ask.wiring c (length s.calls.records) (flying s.ask.in_flight)) s side r c from lines rs refl rest ok (budget_ok s.ask c.polls rest ok) has (polls.least s.calls.ended c at) wired lim num spelled eb at ok' before

  -- ---- a pick

  tie_by : PostsByTable → LooksByTable → AsksByTable → (b : Bool) (s : PlainState) (side : Side) (r : ℕ) (from : Calls) (lines : List TraceLine) (rs : List ℕ)
      → is_rest s.ask.stage ≡ b → AskOk s.ask → IsCarried (carried s.ask) s.calls.sent s.ask.code s.ask.input
      → (s.calls.begun ≡ true → LooksBegun (both (is_rest s.ask.stage) s.ask.in_flight) s.ask.looks s.ask.budget) → IsServing calls s → HavePolls calls
      → s.ask.wiring ≡ w → s.calls.limits ≡ limits → s.calls.readings ≡ count_of (length rs) → replied w s.ask.shown ≡ s.ask.space
      → AskOk (ask_picked_at s.ask.stage calls r s).state.ask → AskTie w limits calls from s lines rs
      → AskTie w limits calls from (ask_picked_at s.ask.stage calls r s).state (lines ++ line_of side (ask_picked_at s.ask.stage calls r s) ∷ []) (rs ++ reading_of (ask_picked_at s.ask.stage calls r s).reads r)
  tie_by posts looks law true s side r from lines rs e ok has left serving polls wired lim num spelled ok' (running past ls l x taken n before run el er) = absurd (not_false (is_rest s.ask.stage) e n)
  tie_by posts looks law true s side r from lines rs e ok has left serving polls wired lim num spelled ok' (resting n before) = let rest : s.ask.stage ≡ AskRest = rest_is s.ask.stage e in
      let same : ask_picked_at s.ask.stage calls r s ≡ from_rest s.calls.begun (slice_get calls s.calls.ended) r s = ap (λ (st : AskStage). ask_picked_at st calls r s) rest in
      subst (λ (p : Picked). AskTie w limits calls from p.state (lines ++ line_of side p ∷ []) (rs ++ reading_of p.reads r)) (sym same)
      (rest_tie posts looks law s.calls.begun (slice_get calls s.calls.ended) s side r from lines rs refl refl rest ok (subst (λ (f : Bool). IsCarried f s.calls.sent s.ask.code s.ask.input) (ap (λ (st : AskStage). carried_at st s.ask.in_flight) rest) has)
      (λ b. subst (λ (f : Bool). LooksBegun f s.ask.looks s.ask.budget) (both_rest (is_rest s.ask.stage) s.ask.in_flight e) (left b)) serving polls wired lim num spelled (subst (λ (p : Picked). AskOk p.state.ask) same ok') before)
  tie_by posts looks law false s side r from lines rs e ok has left serving polls wired lim num spelled ok' (resting n before) = absurd (not_false (is_rest s.ask.stage) n e)
  tie_by posts looks law false s side r from lines rs e ok has left serving polls wired lim num spelled ok' (running past ls l x taken n before run el er) =
      let same : ask_picked_at s.ask.stage calls r s ≡ ask_stepped r s = runs_on s.ask.stage (λ q. not_false (is_rest s.ask.stage) (ap is_rest q) e) calls r s in let p : Picked = ask_stepped r s in
      subst (λ (p : Picked). AskTie w limits calls from p.state (lines ++ line_of side p ∷ []) (rs ++ reading_of p.reads r)) (sym same)
      (subst (λ (z : List TraceLine × List ℕ). AskTie w limits calls from p.state z.0 z.1)
      (λ i. (sym (ap (λ (x : List TraceLine). x ++ line_of side p ∷ []) el ∙ append_assoc past (ls ++ l ∷ []) (line_of side p ∷ [])) i, sym (ap (λ (x : List ℕ). x ++ reading_of p.reads r) er) i))
      (step_tie law s side r ok n wired from x past (ls ++ l ∷ []) taken before run))

  pub pick_tie : PostsByTable → LooksByTable → AsksByTable
      → (exec : Device) (is_state : List ℕ → Type 0) (room_of : List ℕ → ℕ) (s : PlainState) (side : Side) (r : ℕ) (from : Calls) (lines : List TraceLine) (rs : List ℕ)
      → Stands exec is_state room_of s → Stands exec is_state room_of (ask_picked_at s.ask.stage calls r s).state → IsServing calls s → HavePolls calls
      → s.ask.wiring ≡ w → s.calls.limits ≡ limits → s.calls.readings ≡ count_of (length rs) → AskTie w limits calls from s lines rs
      → AskTie w limits calls from (ask_picked_at s.ask.stage calls r s).state (lines ++ line_of side (ask_picked_at s.ask.stage calls r s) ∷ []) (rs ++ reading_of (ask_picked_at s.ask.stage calls r s).reads r)
  pick_tie posts looks law exec is_state room_of s side r from lines rs k k' serving polls wired lim num t = tie_by posts looks law (is_rest s.ask.stage) s side r from lines rs refl k.agree.1.2.ask_ok k.carries k.looks serving polls wired lim num (subst (λ (z : Wiring). replied z s.ask.shown ≡ s.ask.space) wired (shown_space s.ask k.agree.1.2.ask_ok k.agree.1.2.shown)) k'.agree.1.2.ask_ok t
