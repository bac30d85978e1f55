-- What each pick keeps, and how it moves the words.
use Rattle.std.proofs.Common.{◌≡◌, ℕ, Bool, true, false, nat_eq, List, length, refl, sym, ap, ◌∙◌, subst}
use Rattle.std.specs.Prelude.{Option, Some, None}
use Rattle.std.specs.List.{slice_get}
use Rattle.pcc_history.specs.Devices.{Device}
use Rattle.pcc_steps.specs.declared.ask.AskStage.{AskStage}
use Rattle.pcc_steps.specs.declared.ask.AskOutcome.{AskOutcome}
use Rattle.pcc_steps.specs.declared.ask.AskOutcome.TheVariants.{Posted, Clear, Drained}
use Rattle.pcc_steps.specs.Asking.{Ask, Flies, ask_next, ask_fed, ask_told, ask_fed_at, ask_looking, ask_budgeted}
use Rattle.pcc_steps.specs.Agree.{act, flying, found}
use Rattle.channel_core.specs.Readings.{counted}
use Rattle.channel_core.specs.Sendings.{is_given_up}
use Rattle.channel_plain.specs.declared.trace.Asked.{Asked}
use Rattle.channel_plain.specs.declared.trace.TraceEnd.{TraceEnd}
use Rattle.channel_plain.specs.Picks.{CallsState, PlainState, Picked, ask_ended, ask_picked_at, ask_stepped, begins, call_begun, clear_ended, drained, drained_calls, from_rest, next_reading, picked_by, post_or_soon, posting, read_once, refusal_of, served, soon_end, takes_reading}
use Rattle.pcc_steps.specs.Carrying.{is_rest}
use Rattle.channel_plain.specs.Standing.{Stands}
use Rattle.pcc_steps.proofs.AskFeeds.{Fed, fed, stepped, rest_is}
use Rattle.channel_plain.proofs.AskPicks.{running}
use Rattle.channel_plain.proofs.PostStages.{begun_flies, begun_runs, begun_told}

-- the count of the readings, with the one that was taken
abbrev pub counted_if : Bool → ℕ → ℕ
counted_if true n = counted n
counted_if false n = n

pub record Kept (s : PlainState) (p : Picked) : Type 0 where
  pub value : p.value ≡ found p.action s.words
  pub words : p.state.words ≡ act p.action s.words
  pub limits : p.state.calls.limits ≡ s.calls.limits
  pub wiring : p.state.ask.wiring ≡ s.ask.wiring
  pub start : p.state.start ≡ s.start
  pub readings : p.state.calls.readings ≡ counted_if p.reads s.calls.readings

-- the asking side leaves the answering side as it was
abbrev pub with_asking : PlainState → PlainState → PlainState
with_asking s t = record s { words = t.words; ask = t.ask; calls = t.calls }

pub record AskKept (s : PlainState) (p : Picked) : Type 0 where
  pub value : p.value ≡ found p.action s.words
  pub words : p.state.words ≡ act p.action s.words
  pub limits : p.state.calls.limits ≡ s.calls.limits
  pub wiring : p.state.ask.wiring ≡ s.ask.wiring
  pub readings : p.state.calls.readings ≡ counted_if p.reads s.calls.readings
  pub rest : p.state ≡ with_asking s p.state

clear_limits : (last : Bool) (n : ℕ) (c : CallsState) → (clear_ended last n c).calls.limits ≡ c.limits
clear_limits true n c = refl
clear_limits false n c = refl

drained_limits : (late : Bool) (c : CallsState) → (drained_calls late c).limits ≡ c.limits
drained_limits true c = refl
drained_limits false c = refl

clear_readings : (last : Bool) (n : ℕ) (c : CallsState) → (clear_ended last n c).calls.readings ≡ c.readings
clear_readings true n c = refl
clear_readings false n c = refl

drained_readings : (late : Bool) (c : CallsState) → (drained_calls late c).readings ≡ c.readings
drained_readings true c = refl
drained_readings false c = refl

told_readings : (told : Option AskOutcome) (r : ℕ) (b : Ask) (c : CallsState)
    → (ask_ended told r b c).calls.readings ≡ counted_if (takes_reading told) c.readings
told_readings None r b c = refl
told_readings (Some Posted) r b c = refl
told_readings (Some Clear) r b c = clear_readings (nat_eq b.looks b.budget) b.looks c
told_readings (Some (Drained e)) r b c = drained_readings (is_given_up c.sent) (drained e b.space (next_reading r c) (read_once c))

told_limits : (told : Option AskOutcome) (r : ℕ) (b : Ask) (c : CallsState) → (ask_ended told r b c).calls.limits ≡ c.limits
told_limits None r b c = refl
told_limits (Some Posted) r b c = refl
told_limits (Some Clear) r b c = clear_limits (nat_eq b.looks b.budget) b.looks c
told_limits (Some (Drained e)) r b c = drained_limits (is_given_up c.sent) (drained e b.space (next_reading r c) (read_once c))

step_kept : (s t : PlainState) (r : ℕ) → t.words ≡ s.words → t.calls.limits ≡ s.calls.limits → t.calls.readings ≡ s.calls.readings
    → t.ask.wiring ≡ s.ask.wiring → t ≡ with_asking s t → is_rest t.ask.stage ≡ false → Flies t.ask.stage t.ask.in_flight → AskKept s (ask_stepped r t)
step_kept s t r ws ls rs w st runs flies = let a : Ask = t.ask in let v : ℕ = found (ask_next a) t.words in let z : Ask = ask_fed_at a.stage a v in
    let f : Fed a.stage a (ask_fed a v) (ask_told a v) = stepped a.stage a z (ask_told a v) (ask_fed a v).steps (fed a.stage a v runs flies) in
    record { value = ap (found (ask_next a)) ws; words = ap (act (ask_next a)) ws; limits = told_limits (ask_told a v) r (ask_fed a v) t.calls ∙ ls; wiring = f.wiring ∙ w; readings = told_readings (ask_told a v) r (ask_fed a v) t.calls ∙ ap (counted_if (takes_reading (ask_told a v))) rs; rest = ap (λ (z : PlainState). with_asking z (ask_stepped r t).state) st }

soon_kept : (o : Option TraceEnd) (s t : PlainState) (r : ℕ) (c : Asked) → t.words ≡ s.words → t.calls.limits ≡ s.calls.limits
    → t.calls.readings ≡ s.calls.readings → t.ask.wiring ≡ s.ask.wiring → t ≡ with_asking s t
    → t.ask.in_flight ≡ false → AskKept s (post_or_soon o c r t)
soon_kept (Some e) s t r c ws ls rs w st free =
    record { value = refl; words = ws; limits = ls; wiring = w; readings = ap counted rs; rest = ap (λ (z : PlainState). with_asking z (post_or_soon (Some e) c r t).state) st }
soon_kept None s t r c ws ls rs w st free = let a : Ask = (posting c r t).ask in let v : ℕ = found (ask_next a) t.words in let z : Ask = ask_fed_at a.stage a v in let told : Option AskOutcome = ask_told a v in let k : CallsState = (posting c r t).calls in
    let f : Fed a.stage a (ask_fed a v) told = stepped a.stage a z told (ask_fed a v).steps (fed a.stage a v (begun_runs t.ask c.code c.bytes) (begun_flies t.ask c.code c.bytes free)) in record {
      value = ap (found (ask_next a)) ws;
      words = ap (act (ask_next a)) ws;
      limits = told_limits told r (ask_fed a v) k ∙ ls;
      wiring = f.wiring ∙ w;
      readings = told_readings told r (ask_fed a v) k ∙ (ap (λ (o : Option AskOutcome). counted_if (takes_reading o) k.readings) (begun_told t.ask c.code c.bytes v) ∙ ap counted rs);
      rest = ap (λ (z : PlainState). with_asking z (post_or_soon None c r t).state) st;
    }

served_kept : (f : Bool) (s t : PlainState) (r : ℕ) (c : Asked) → t.words ≡ s.words → t.calls.limits ≡ s.calls.limits → t.calls.readings ≡ s.calls.readings
    → t.ask.wiring ≡ s.ask.wiring → t ≡ with_asking s t
    → t.ask.in_flight ≡ f → AskKept s (served f c r t)
served_kept true s t r c ws ls rs w st flies = step_kept s (record t { ask = ask_looking t.ask }) r ws ls rs w (ap (λ (z : PlainState). with_asking z (record t { ask = ask_looking t.ask })) st) refl flies
served_kept false s t r c ws ls rs w st free = soon_kept (soon_end r t.calls) s t r c ws ls rs w st free

begins_kept : (o : Option TraceEnd) (s : PlainState) (r : ℕ) (c : Asked) → AskKept s (begins o c r s)
begins_kept (Some e) s r c = record { value = refl; words = refl; limits = refl; wiring = refl; readings = refl; rest = refl }
begins_kept None s r c = served_kept s.ask.in_flight s (record s { ask = ask_budgeted s.ask c.polls; calls = call_begun s.calls }) r c refl refl refl refl refl refl

rest_kept : (b : Bool) (o : Option Asked) (s : PlainState) (r : ℕ) → AskKept s (from_rest b o r s)
rest_kept true None s r = record { value = refl; words = refl; limits = refl; wiring = refl; readings = refl; rest = refl }
rest_kept false None s r = record { value = refl; words = refl; limits = refl; wiring = refl; readings = refl; rest = refl }
rest_kept true (Some c) s r = served_kept s.ask.in_flight s s r c refl refl refl refl refl refl
rest_kept false (Some c) s r = begins_kept (refusal_of s.ask.wiring c (length s.calls.records) (flying s.ask.in_flight)) s r c

ask_kept : (b : Bool) (calls : List Asked) (s : PlainState) (r : ℕ) → is_rest s.ask.stage ≡ b → Flies s.ask.stage s.ask.in_flight
    → AskKept s (ask_picked_at s.ask.stage calls r s)
ask_kept true calls s r e flies = subst (λ (p : Picked). AskKept s p) (sym (ap (λ (st : AskStage). ask_picked_at st calls r s) (rest_is s.ask.stage e))) (rest_kept s.calls.begun (slice_get calls s.calls.ended) s r)
ask_kept false calls s r e flies = subst (λ (p : Picked). AskKept s p) (sym (running s.ask.stage (λ q. both_ways (is_rest s.ask.stage) (ap is_rest q) e) calls r s)) (step_kept s s r refl refl refl refl refl e flies)
  where
    both_ways : (b : Bool) → b ≡ true → b ≡ false → ⊥
    both_ways b t f = cc

pub asks_kept : (exec : Device) (is_state : List ℕ → Type 0) (room_of : List ℕ → ℕ) (calls : List Asked) (s : PlainState) (r : ℕ)
    → Stands exec is_state room_of s → AskKept s (ask_picked_at s.ask.stage calls r s)
asks_kept exec is_state room_of calls s r k = ask_kept (is_rest s.ask.stage) calls s r refl k.agree.1.2.ask_ok.flies

pub picked_kept : (exec : Device) (is_state : List ℕ → Type 0) (room_of : List ℕ → ℕ) (b : Bool) (calls : List Asked) (s : PlainState) (r : ℕ)
    → Stands exec is_state room_of s → Kept s (picked_by exec b calls r s)
picked_kept exec is_state room_of true calls s r k = let h = asks_kept exec is_state room_of calls s r k in record { value = h.value; words = h.words; limits = h.limits; wiring = h.wiring; start = ap (λ (z : PlainState). z.start) h.rest; readings = h.readings }
picked_kept exec is_state room_of false calls s r k = record { value = refl; words = refl; limits = refl; wiring = refl; start = refl; readings = refl }
