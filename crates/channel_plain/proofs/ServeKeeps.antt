-- The call that is begun stays one of the calls, which nothing refuses.
use Rattle.std.proofs.Common.{◌≡◌, ℕ, ◌+◌, ◌<◌, ◌≤◌, Bool, true, false, not, nat_eq, if◌then◌else◌, List, ◌++◌, length, refl, sym, ap, ◌∙◌, subst, arith, length-append}
use Rattle.std.specs.Prelude.{Option, Some, None}
use Rattle.std.specs.List.{slice_get}
use Rattle.std.proofs.lemmas.Bool.Decides.{nat_tests}
use Rattle.pcc_history.specs.Devices.{Device}
use Rattle.pcc_journal.specs.declared.record.Record.{Record}
use Rattle.std.proofs.lemmas.List.{length-map}
use Rattle.pcc_journal.specs.Records.{exchange_of_record}
use Rattle.pcc_steps.specs.declared.wiring.Wiring.{Wiring}
use Rattle.pcc_steps.specs.declared.ask.AskStage.{AskStage}
use Rattle.pcc_steps.specs.declared.ask.AskStage.TheVariants.{AskRest, PostBlock, PostHeader, PostUpdateLoad, PostUpdateStore, PostMarkLoad, PostMarkStore, PostBellLoad, PostBellStore, PostLine, LookWord, LookError, LookBlock, LookLine, LookLineStore, LookAckLoad, LookAckStore}
use Rattle.pcc_steps.specs.declared.ask.AskOutcome.{AskOutcome}
use Rattle.pcc_steps.specs.declared.ask.AskOutcome.TheVariants.{Posted, Clear, Drained}
use Rattle.pcc_steps.specs.Asking.{Ask, Flies, PostsLeft, ask_next, ask_fed, ask_told, ask_fed_at, ask_looking, ask_budgeted}
use Rattle.pcc_steps.specs.Agree.{flying, found}
use Rattle.channel_core.specs.declared.sent.Sent.{Sent}
use Rattle.channel_plain.specs.declared.trace.Asked.{Asked}
use Rattle.channel_plain.specs.declared.trace.Side.{Side}
use Rattle.channel_plain.specs.declared.trace.TraceEnd.{TraceEnd}
use Rattle.std.specs.Prelude.{nat_lt, nat_le}
use Rattle.pcc_journal.specs.declared.reserved.TheConstants.{MAX_ITEMS}
use Rattle.channel_core.specs.declared.answers.CallRefusal.TheVariants as refusal
use Rattle.channel_core.specs.Sendings.{is_given_up}
use Rattle.channel_plain.specs.Picks.{refused_end, CallsState, PlainState, asks_by, ask_ended, ask_stepped, ask_picked_at, begins, call_begun, clear_ended, drained, drained_calls, from_rest, is_wide, next_reading, picked, picked_by, post_or_soon, posting, read_once, recorded, refusal_of, served, soon_end}
use Rattle.pcc_steps.specs.Carrying.{carried, carried_at, is_rest}
use Rattle.channel_plain.specs.Standing.{IsServing, Serving, Stands, owns}
use Rattle.pcc_steps.proofs.AskFeeds.{Fed, fed, stepped}
use Rattle.channel_plain.proofs.Bools.{not_false}
use Rattle.channel_plain.proofs.PostStages.{begun_flies, begun_runs}

serving_as : (calls : List Asked) (w w' : Wiring) (u u' n n' f f' : ℕ) (b : CallsState) → w' ≡ w → u' ≡ u → n' ≡ n → f' ≡ f → Serving calls w u n f b
    → Serving calls w' u' n' f' b
serving_as calls w w' u u' n n' f f' b ew eu en ef h = subst (λ (z : Wiring × ℕ × ℕ × ℕ). Serving calls z.0 z.1 z.2 z.3 b) (λ i. (sym ew i, sym eu i, sym en i, sym ef i)) h

late_room : (sent : Option Sent) (rs : List Record) (e : Bool) (o : List ℕ) (r : ℕ) → is_given_up sent ≡ true → (owns sent ≡ false → length rs + 1 < 4096)
    → length (rs ++ recorded sent e o r) + 0 < 4096
late_room None rs e o r h room = absurd (cc h)
late_room (Some c) rs e o r h room = let k = room (ap not h) in let l = length-append rs (recorded (Some c) e o r) in omega (arith, k, l)

late_on : (l : Bool) (calls : List Asked) (w : Wiring) (u f : ℕ) (b d : CallsState) (n : ℕ) → is_given_up b.sent ≡ l → d.begun ≡ b.begun
    → (l ≡ true → d.begun ≡ true → Serving calls w u n f d) → (drained_calls l d).begun ≡ true → Serving calls w u n f (drained_calls l d)
late_on true calls w u f b d n e q h begun = h refl begun
late_on false calls w u f b d n e q h begun = absurd (cc begun)

lates : (l : Bool) (d : CallsState) → (drained_calls l d).records ≡ d.records
lates true d = refl
lates false d = refl

clears : (last : Bool) (calls : List Asked) (w w' : Wiring) (u u' f f' looks : ℕ) (c : CallsState) → w' ≡ w → u' ≡ u → f' ≡ f
    → (c.begun ≡ true → Serving calls w u (length c.records) f c) → (clear_ended last looks c).calls.begun ≡ true
    → Serving calls w' u' (length (clear_ended last looks c).calls.records) f' (clear_ended last looks c).calls
clears true calls w w' u u' f f' looks c ew eu ef h begun = absurd (cc begun)
clears false calls w w' u u' f f' looks c ew eu ef h begun = serving_as calls w w' u u' (length c.records) (length c.records) f f' c ew eu refl ef (h begun)

told_serving : (told : Option AskOutcome) (st : AskStage) (calls : List Asked) (a b : Ask) (r : ℕ) (c : CallsState) → Fed st a b told
    → (carried_at st a.in_flight ≡ true → a.in_flight ≡ false → owns c.sent ≡ true)
    → (c.begun ≡ true → Serving calls a.wiring a.budget (length c.records) (flying a.in_flight) c) → (ask_ended told r b c).calls.begun ≡ true
    → Serving calls b.wiring b.budget (length (ask_ended told r b c).calls.records) (flying b.in_flight) (ask_ended told r b c).calls
told_serving None st calls a b r c f own h begun = serving_as calls a.wiring b.wiring a.budget b.budget (length c.records) (length c.records) (flying a.in_flight) (flying b.in_flight) c f.wiring f.budget refl (ap flying f.flies) (h begun)
told_serving (Some Posted) st calls a b r c f own h begun = let v = h begun in
    serving_as calls a.wiring b.wiring a.budget b.budget (length c.records) (length c.records) (flying b.in_flight) (flying b.in_flight) c f.wiring f.budget refl refl
    (record { call = v.call; at = v.at; code = v.code; fits = v.fits; polls = v.polls; room = λ e. absurd (not_false (owns c.sent) (own f.sure.0 f.sure.1) e) })
told_serving (Some Clear) st calls a b r c f own h begun = clears (nat_eq b.looks b.budget) calls a.wiring b.wiring a.budget b.budget (flying a.in_flight) (flying b.in_flight) b.looks c f.wiring f.budget (ap flying f.flies) h begun
told_serving (Some (Drained e)) st calls a b r c f own h begun = let d : CallsState = drained e b.space (next_reading r c) (read_once c) in let l : Bool = is_given_up c.sent in
    serving_as calls b.wiring b.wiring b.budget b.budget (length d.records) (length (drained_calls l d).records) 0 (flying b.in_flight) (drained_calls l d) refl refl (ap (λ (x : List Record). length x) (lates l d)) (ap flying f.flies)
    (late_on l calls b.wiring b.budget 0 c d (length d.records) refl refl (λ late begun. let v = h begun in
    serving_as calls a.wiring b.wiring a.budget b.budget (length d.records) (length d.records) 0 0 d f.wiring f.budget refl refl
    (record { call = v.call; at = v.at; code = v.code; fits = v.fits; polls = v.polls; room = λ q. late_room c.sent c.records e b.space r late (λ o. subst (λ (x : Bool). length c.records + flying x < 4096) f.sure.1 (v.room o)) })) begun)

step_serving : (calls : List Asked) (r : ℕ) (s : PlainState) → is_rest s.ask.stage ≡ false → Flies s.ask.stage s.ask.in_flight
    → (carried s.ask ≡ true → s.ask.in_flight ≡ false → owns s.calls.sent ≡ true) → IsServing calls s → IsServing calls (ask_stepped r s).state
step_serving calls r s runs flies own h = let a : Ask = s.ask in let v : ℕ = found (ask_next a) s.words in let z : Ask = ask_fed_at a.stage a v in let b : Ask = ask_fed a v in
    told_serving (ask_told a v) a.stage calls a b r s.calls (stepped a.stage a z (ask_told a v) b.steps (fed a.stage a v runs flies)) own h

-- ---- a call that begins

soon_serving : (o : Option TraceEnd) (calls : List Asked) (c : Asked) (r : ℕ) (s : PlainState) → s.ask.in_flight ≡ false → IsServing calls s
    → IsServing calls (post_or_soon o c r s).state
soon_serving (Some x) calls c r s free h = λ e. absurd (cc e)
soon_serving None calls c r s free h = step_serving calls r (posting c r s) (begun_runs s.ask c.code c.bytes) (begun_flies s.ask c.code c.bytes free) (λ q e. refl)
    (λ begun. let v = h begun in record { call = v.call; at = v.at; code = v.code; fits = v.fits; polls = v.polls; room = λ e. absurd (cc e) })

served_serving : (f : Bool) (calls : List Asked) (c : Asked) (r : ℕ) (s : PlainState) → s.ask.in_flight ≡ f → IsServing calls s
    → IsServing calls (served f c r s).state
served_serving true calls c r s flies h = step_serving calls r (record s { ask = ask_looking s.ask }) refl flies (λ q e. absurd (not_false s.ask.in_flight flies e)) h
served_serving false calls c r s free h = soon_serving (soon_end r s.calls) calls c r s free h

-- nothing refuses the call
pub record Passes (w : Wiring) (c : Asked) (n : ℕ) : Type 0 where
  pub code : is_wide w c ≡ false
  pub fits : length c.bytes ≤ w.room
  pub room : n < 4096

passes_by : (a b d : Bool) (w : Wiring) (c : Asked) (n : ℕ) → is_wide w c ≡ a → nat_lt w.room (length c.bytes) ≡ b → nat_le MAX_ITEMS n ≡ d
    → refused_end (if a then Some (refusal.BadCode c.code) else if b then Some (refusal.TooLong (length c.bytes) w.room) else if d then Some refusal.JournalFull else None) ≡ None
    → Passes w c n
passes_by true b d w c n e f g h = absurd (cc h)
passes_by false true d w c n e f g h = absurd (cc h)
passes_by false false true w c n e f g h = absurd (cc h)
passes_by false false false w c n e f g h = record { code = e; fits = not_above w.room (length c.bytes) f; room = not_most n g }
  where
    not_above : (x y : ℕ) → nat_lt x y ≡ false → y ≤ x
    not_above x y h = grind (arith, nat_tests)

    not_most : (n : ℕ) → nat_le MAX_ITEMS n ≡ false → n < 4096
    not_most n h = grind (arith, nat_tests)

begins_serving : (o : Option TraceEnd) (calls : List Asked) (c : Asked) (r : ℕ) (s : PlainState)
    → refusal_of s.ask.wiring c (length s.calls.records) (flying s.ask.in_flight) ≡ o → length s.calls.records + flying s.ask.in_flight ≤ 4096
    → slice_get calls s.calls.ended ≡ Some c → IsServing calls (begins o c r s).state
begins_serving (Some e) calls c r s q most at = λ e. absurd (cc e)
begins_serving None calls c r s q most at = let n : ℕ = length s.calls.records + flying s.ask.in_flight in
    let p = passes_by (is_wide s.ask.wiring c) (nat_lt s.ask.wiring.room (length c.bytes)) (nat_le MAX_ITEMS n) s.ask.wiring c n refl refl refl q in
    served_serving s.ask.in_flight calls c r (record s { ask = ask_budgeted s.ask c.polls; calls = call_begun s.calls }) refl (λ b. record { call = c; at = at; code = p.code; fits = p.fits; polls = refl; room = λ e. p.room })

rest_serving : (b : Bool) (o : Option Asked) (calls : List Asked) (r : ℕ) (s : PlainState) → s.calls.begun ≡ b → slice_get calls s.calls.ended ≡ o
    → length s.calls.records + flying s.ask.in_flight ≤ 4096 → IsServing calls s → IsServing calls (from_rest b o r s).state
rest_serving true None calls r s e at most h = h
rest_serving false None calls r s e at most h = h
rest_serving true (Some c) calls r s e at most h = served_serving s.ask.in_flight calls c r s refl h
rest_serving false (Some c) calls r s e at most h = begins_serving (refusal_of s.ask.wiring c (length s.calls.records) (flying s.ask.in_flight)) calls c r s refl most at

module _ (exec : Device) (is_state : List ℕ → Type 0) (room_of : List ℕ → ℕ) where
  most_posts : (s : PlainState) → s.ask.stage ≡ AskRest → Stands exec is_state room_of s → length s.calls.records + flying s.ask.in_flight ≤ 4096
  most_posts s rest k = let p = k.agree.1.2.posts in let l : s.ask.posts ≤ 4096 = subst (λ (st : AskStage). PostsLeft st s.ask.posts) rest k.agree.1.2.ask_ok.posts in let q = length-map s.calls.records exchange_of_record in omega (arith, p, l, q)

  runs_serving : (calls : List Asked) (r : ℕ) (s : PlainState) (st : AskStage) → s.ask.stage ≡ st → is_rest st ≡ false → Stands exec is_state room_of s
      → IsServing calls s → IsServing calls (ask_stepped r s).state
  runs_serving calls r s st e n k h = step_serving calls r s (ap is_rest e ∙ n) k.agree.1.2.ask_ok.flies k.own h

  at_serving : (st : AskStage) (calls : List Asked) (r : ℕ) (s : PlainState) → s.ask.stage ≡ st → Stands exec is_state room_of s → IsServing calls s
      → IsServing calls (ask_picked_at st calls r s).state
  at_serving AskRest calls r s e k h = rest_serving s.calls.begun (slice_get calls s.calls.ended) calls r s refl refl (most_posts s e k) h
  at_serving (PostBlock j) calls r s e k h = runs_serving calls r s (PostBlock j) e refl k h
  at_serving PostHeader calls r s e k h = runs_serving calls r s PostHeader e refl k h
  at_serving PostUpdateLoad calls r s e k h = runs_serving calls r s PostUpdateLoad e refl k h
  at_serving PostUpdateStore calls r s e k h = runs_serving calls r s PostUpdateStore e refl k h
  at_serving PostMarkLoad calls r s e k h = runs_serving calls r s PostMarkLoad e refl k h
  at_serving PostMarkStore calls r s e k h = runs_serving calls r s PostMarkStore e refl k h
  at_serving PostBellLoad calls r s e k h = runs_serving calls r s PostBellLoad e refl k h
  at_serving PostBellStore calls r s e k h = runs_serving calls r s PostBellStore e refl k h
  at_serving PostLine calls r s e k h = runs_serving calls r s PostLine e refl k h
  at_serving LookWord calls r s e k h = runs_serving calls r s LookWord e refl k h
  at_serving LookError calls r s e k h = runs_serving calls r s LookError e refl k h
  at_serving (LookBlock j) calls r s e k h = runs_serving calls r s (LookBlock j) e refl k h
  at_serving LookLine calls r s e k h = runs_serving calls r s LookLine e refl k h
  at_serving LookLineStore calls r s e k h = runs_serving calls r s LookLineStore e refl k h
  at_serving LookAckLoad calls r s e k h = runs_serving calls r s LookAckLoad e refl k h
  at_serving LookAckStore calls r s e k h = runs_serving calls r s LookAckStore e refl k h

  pub picked_serving : (calls : List Asked) (side : Side) (r : ℕ) (s : PlainState) → Stands exec is_state room_of s → IsServing calls s
      → IsServing calls (picked exec calls side r s).state
  picked_serving calls side r s k h = by_side (asks_by s.ask.wiring.kind side)
    where
      by_side : (b : Bool) → IsServing calls (picked_by exec b calls r s).state
      by_side true = at_serving s.ask.stage calls r s refl k h
      by_side false = h
