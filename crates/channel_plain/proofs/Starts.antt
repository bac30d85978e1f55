-- A new channel stands.
use Rattle.std.proofs.Common.{◌≡◌, ℕ, ◌+◌, Bool, true, false, List, [], ◌++◌, length, refl, sym, ap, ◌∙◌, subst}
use Rattle.std.specs.Prelude.{None}
use Rattle.pcc_bytes.specs.Bytes.{IsBytes}
use Rattle.pcc_history.specs.Devices.{Device}
use Rattle.shmem_header.specs.Spelling.{words_of}
use Rattle.rate_limit.specs.declared.Limits.{Limits}
use Rattle.pcc_steps.specs.declared.wiring.Wiring.{Wiring}
use Rattle.pcc_steps.specs.declared.ask.AskStage.{AskStage}
use Rattle.pcc_steps.specs.Wires.{style_of, opening_word, opening_header, opening_words}
use Rattle.pcc_steps.specs.Asking.{Ask, AskOk, IsNewAsk}
use Rattle.pcc_steps.specs.Answering.{Answer, AnswerOk, IsNewAnswer}
use Rattle.pcc_steps.specs.Laws.{StartsAgreed}
use Rattle.pcc_steps.specs.Agree.{Agree}
use Rattle.pcc_steps.proofs.Lists.{eight_more}
use Rattle.channel_core.specs.Executions.{Executions}
use Rattle.channel_plain.specs.Picks.{CallsState}
use Rattle.channel_plain.specs.News.{no_calls, opening_of}
use Rattle.pcc_steps.specs.Carrying.{carried_at, is_rest}
use Rattle.channel_plain.specs.Standing.{Holds, IsCarried}

module _ (exec : Device) (is_state : List ℕ → Type 0) (room_of : List ℕ → ℕ) where
  pub new_holds : StartsAgreed → (w : Wiring) (l : Limits) (d d' opening ws : List ℕ) (a : Ask) (b : Answer) (k : CallsState) (reg : Executions)
      → IsNewAsk a w opening → AskOk a → IsNewAnswer b w → AnswerOk b → IsBytes opening → opening ≡ opening_of w → ws ≡ opening_words w (words_of opening)
      → is_state d → room_of d ≡ w.room → d' ≡ d
      → k ≡ no_calls l → reg ≡ record { commands = []; ready = false; room = w.room }
      → Holds exec is_state room_of (record { words = ws; ask = a; answer = b; device = d; start = d'; calls = k; executed = reg.commands }) reg.ready reg.room
  new_holds law w l d d' opening ws a b k reg new ok new' ok' bytes eo ew is room ed ek er =
      let none : CallsState = no_calls l in let empty : Executions = record { commands = []; ready = false; room = w.room } in
      let rest : carried_at a.stage a.in_flight ≡ false = ap (λ (z : AskStage × Bool). carried_at z.0 z.1) (λ i. (new.1 i, new.2 i)) in
      subst (λ (z : List ℕ × List ℕ × CallsState × Executions). Holds exec is_state room_of (record { words = z.0; ask = a; answer = b; device = d; start = z.1; calls = z.2; executed = z.3.commands }) z.3.ready z.3.room) (λ i. (sym ew i, sym ed i, sym ek i, sym er i)) (
        record {
          unkept = record { clears = 0; asked = [] };
          agree = subst (λ (o : List ℕ). Agree exec d (opening_words w (words_of opening)) (record { m = a; done = []; clears = 0; opening = o; asked = [] }) (record { m = b; device = d; done = [] })) (eo ∙ ap opening_of (sym new.0)) (law exec d w opening a b new new' ok ok' bytes);
          long = eight_more (opening_word (style_of w) w) 0 0 0 0 0 0 0 (opening_header (style_of w) w ++ words_of opening) ∙ ap (λ (n : ℕ). 8 + n) (ap (λ (x : List ℕ). length x) (sym new.3) ∙ ok.sized.shown);
          start = is;
          room = room ∙ ap (λ (w : Wiring). w.room) (sym new.0);
          carries = subst (λ (f : Bool). IsCarried f None a.code a.input) (sym rest) refl;
          runs = λ e. absurd (both_ways (is_rest a.stage) (ap is_rest new.1) e);
          looks = λ e. absurd (cc e);
          own = λ q e. absurd (both_ways (carried_at a.stage a.in_flight) q rest);
        },
        record { fits = ap (λ (w : Wiring). w.room) (sym new.0); taken = λ q n. absurd (both_ways (carried_at a.stage a.in_flight) q rest) },
      )
    where
      both_ways : (b : Bool) → b ≡ true → b ≡ false → ⊥
      both_ways b t f = cc
