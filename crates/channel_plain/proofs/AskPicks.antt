-- A pick of the asking side, by the run that is under way and by the call that is served.
use Rattle.std.proofs.Common.{◌≡◌, ℕ, ◌<◌, ◌^◌, Bool, true, false, ltb, if◌then◌else◌, ◌==◌, List, length, refl, sym, ap, ◌∙◌, subst, arith}
use Rattle.std.specs.Prelude.{Option, Some, None}
use Rattle.std.specs.List.{slice_get}
use Rattle.std.proofs.lemmas.Bool.Decides.{nat_tests}
use Rattle.pcc_steps.specs.declared.wiring.Wiring.{Wiring}
use Rattle.pcc_steps.specs.declared.ask.AskStage.{AskStage}
use Rattle.pcc_steps.specs.declared.ask.AskStage.TheVariants.{AskRest}
use Rattle.pcc_steps.specs.declared.wiring.Style.{Style}
use Rattle.pcc_steps.specs.declared.wiring.Style.TheVariants.{Headed, Joined3, Separate3, Joined4, Separate4, Reduced5}
use Rattle.pcc_steps.specs.Wires.{style_of}
use Rattle.pcc_steps.specs.Asking.{CodeFits}
use Rattle.pcc_steps.specs.Agree.{flying}
use Rattle.channel_plain.specs.declared.trace.Asked.{Asked}
use Rattle.std.specs.Prelude.{◌&&◌, nat_lt}
use Rattle.channel_core.specs.declared.answers.CallRefusal.{CallRefusal}
use Rattle.channel_core.specs.declared.answers.CallRefusal.TheVariants as refusal
use Rattle.channel_core.specs.declared.refusals.TheConstants.{GREATEST_CODE}
use Rattle.channel_core.specs.Refusals.{has_byte_codes}
use Rattle.channel_plain.specs.declared.trace.TraceEnd.{TraceEnd}
use Rattle.channel_plain.specs.Picks.{PlainState, ask_picked_at, ask_stepped, begins, from_rest, is_wide, refusal_of, refused_end}
use Rattle.channel_plain.specs.Standing.{IsServing}

pub running : (st : AskStage) → (st ≡ AskRest → ⊥) → (calls : List Asked) (r : ℕ) (s : PlainState) → ask_picked_at st calls r s ≡ ask_stepped r s
running AskRest n calls r s = absurd (n refl)
running _ n calls r s = refl

-- no run is under way and no call is begun: the next one begins, where nothing refuses it
pub begins_next : (calls : List Asked) (s : PlainState) (c : Asked) (r : ℕ) → s.calls.begun ≡ false → slice_get calls s.calls.ended ≡ Some c
    → refusal_of s.ask.wiring c (length s.calls.records) (flying s.ask.in_flight) ≡ None
    → from_rest s.calls.begun (slice_get calls s.calls.ended) r s ≡ begins None c r s
begins_next calls s c r idle at free = ap (λ (z : Bool × Option Asked). from_rest z.0 z.1 r s) (λ i. (idle i, at i)) ∙ ap (λ (o : Option TraceEnd). begins o c r s) free

-- ---- what is known of a call that nothing refuses

not_wide : (b : Bool) (code : ℕ) (o : Option CallRefusal) → refused_end (if b then Some (refusal.BadCode code) else o) ≡ None → b ≡ false
not_wide true code o h = absurd (cc h)
not_wide false code o h = refl

headed_or : (b k : Bool) (t : Style) (code : ℕ) → k ≡ b → CodeFits t code → (k && nat_lt GREATEST_CODE code) ≡ false → CodeFits (if b then Headed else t) code
headed_or true true t code e l h = low h
  where
    low : nat_lt GREATEST_CODE code ≡ false → code < 256
    low h = grind (arith, nat_tests)
headed_or true false t code e l h = absurd (cc e)
headed_or false k t code e l h = l

same_test : (kind : ℕ) → has_byte_codes kind ≡ ltb kind 3
same_test kind = grind (arith, nat_tests)

other : (a b j : Bool) (code : ℕ) → code < 2 ^ 32
    → CodeFits (if a then (if j then Joined3 else Separate3) else if b then (if j then Joined4 else Separate4) else Reduced5) code
other true b true code h = h
other true b false code h = h
other false true true code h = h
other false true false code h = h
other false false j code h = h

pub code_fits : (w : Wiring) (c : Asked) → c.code < 2 ^ 32 → is_wide w c ≡ false → CodeFits (style_of w) c.code
code_fits w c small h = headed_or (ltb w.kind 3) (has_byte_codes w.kind) (if w.kind == 3 then (if w.joined then Joined3 else Separate3) else if w.kind == 4 then (if w.joined then Joined4 else Separate4) else Reduced5) c.code
    (same_test w.kind) (other (w.kind == 3) (w.kind == 4) w.joined c.code small) h

pub code_ok : (w : Wiring) (c : Asked) (n f : ℕ) → c.code < 2 ^ 32 → refusal_of w c n f ≡ None → CodeFits (style_of w) c.code
code_ok w c n f small h = code_fits w c small (not_wide (is_wide w c) c.code _ h)

same_call : (x y : Asked) → Some x ≡ Some y → x ≡ y
same_call x y e = cc

-- a call that is begun is the one that is looked up
pub code_serving : (calls : List Asked) (s : PlainState) (c : Asked) → IsServing calls s → s.calls.begun ≡ true → slice_get calls s.calls.ended ≡ Some c
    → c.code < 2 ^ 32 → CodeFits (style_of s.ask.wiring) c.code
code_serving calls s c h begun at small = let v = h begun in code_fits s.ask.wiring c small (subst (λ (x : Asked). is_wide s.ask.wiring x ≡ false) (same_call v.call c (sym v.at ∙ at)) v.code)
