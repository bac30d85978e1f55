-- Every state that is reached is sound.
use Rattle.std.proofs.Common.{◌≡◌, ◌⊎◌, ℕ, Bool, true, false, List, [], ◌∷◌, ◌++◌, length, take, refl, sym, ap, ◌∙◌, subst, inl, inr}
use Rattle.std.proofs.lemmas.List.{append-nil}
use Rattle.pcc_bytes.specs.Bytes.{IsBytes}
use Rattle.pcc_exec.specs.Execution.{IsSpace, Leaves}
use Rattle.pcc_history.specs.Devices.{Device}
use Rattle.pcc_history.specs.Channel.{Exchange, over}
use Rattle.pcc_history.specs.Histories.{Legal, WholeHistory}
use Rattle.pcc_steps.specs.declared.wiring.Wiring.{Wiring}
use Rattle.pcc_steps.specs.declared.wiring.Action.{Action}
use Rattle.pcc_steps.specs.declared.ask.AskStage.{AskStage}
use Rattle.pcc_steps.specs.declared.ask.AskStage.TheVariants.{AskRest}
use Rattle.pcc_steps.specs.Asking.{Ask, ask_next}
use Rattle.pcc_steps.specs.Answering.{answer_next}
use Rattle.pcc_steps.specs.Agree.{Core, found, Asker, Answerer, Pose, free, writing, cleared, waiting, reading, resting, pose, pose_at, Turn, quiet, taken, replying, turn, flight, answered, Fits, Trail, trail, HasAskedBy, is_pending_at, is_pending, Agree}
use Rattle.pcc_steps.specs.Reached.{State, Reached, at_first, sets_budget, begins_post, begins_look, begins_answer, steps_ask, steps_answer, IsSound}
use Rattle.pcc_steps.proofs.Headers.{whole_more}
use Rattle.pcc_steps.proofs.Trails.{waits_pends}
use Rattle.pcc_steps.proofs.WordSteps.{finds_found}
use Rattle.pcc_steps.proofs.Wired.{ask_wired}
use Rattle.pcc_steps.proofs.Agreement.{starts_agreed, ask_step_agrees, post_begin_agrees, look_begin_agrees, budget_agrees, answer_begin_agrees, answer_step_agrees, histories_agree}

-- ---- the inputs of both histories

whole_front : (opening : List ℕ) (h : List Exchange) (before more : List (List ℕ)) → WholeHistory opening h before
    → WholeHistory opening h (take (length h) (before ++ more))
whole_front opening [] [] more w = tt
whole_front opening [] (b ∷ before) more w = absurd w
whole_front opening (c ∷ h) [] more w = absurd w
whole_front opening (c ∷ h) (b ∷ before) more w = (w.0, whole_front c.output h before more w.1)

drained_by : (b : Bool) (t : Trail) → HasAskedBy b t → WholeHistory t.opening t.done (take (length t.done) t.asked)
drained_by false t h = subst (λ (l : List (List ℕ)). WholeHistory t.opening t.done (take (length t.done) l)) (append-nil t.asked) (whole_front t.opening t.done t.asked [] h.inputs)
drained_by true t h = subst (λ (l : List (List ℕ)). WholeHistory t.opening t.done (take (length t.done) l)) (sym h.1.1) (whole_front t.opening t.done h.0 (h.1.0 ∷ []) h.1.2.inputs)

-- a command that is executed and not drained is the pending one
executed_by : (t : Trail) (e : Exchange) → e.input ≡ t.input → HasAskedBy true t
    → WholeHistory t.opening (t.done ++ e ∷ []) (take (length (t.done ++ e ∷ [])) t.asked)
executed_by t e i h = let d = h.1.2 in let q = h.1.3 in let all : List (List ℕ) = h.0 ++ h.1.0 ∷ [] in
    let w : WholeHistory t.opening (t.done ++ e ∷ []) all = whole_more t.opening t.done h.0 e h.1.0 d.inputs (i ∙ q.input ∙ ap (λ (s : List ℕ). over s h.1.0) d.output) in
    subst (λ (l : List (List ℕ)). WholeHistory t.opening (t.done ++ e ∷ []) (take (length (t.done ++ e ∷ [])) l)) (append-nil all ∙ sym h.1.1) (whole_front t.opening (t.done ++ e ∷ []) all [] w)

rests_not : (f : Bool) (j : ℕ) → resting f ≡ reading j → ⊥
rests_not true j e = cc
rests_not false j e = cc

reads_pends : (st : AskStage) (a : Ask) (j : ℕ) → pose_at st a ≡ reading j → is_pending_at st a.in_flight ≡ true
reads_pends AskRest a j e = absurd (rests_not a.in_flight j e)
reads_pends _ a j e = refl

-- the answering end's history, and where it is one longer
Executed : Asker → Answerer → Type 0
Executed x y = (y.done ≡ x.done) ⊎ ((is_pending x.m ≡ true) × ((o : Bool × List ℕ) × (y.done ≡ x.done ++ answered (flight x) o.0 o.1 ∷ [])))

histories_at : (q : Pose) (t : Turn) (x : Asker) (y : Answerer) (c : Core) → pose x.m ≡ q → Fits q t x y c → Executed x y
unfolding Executed
histories_at free t x y c e f = inl f.1.done
histories_at (writing j) t x y c e f = inl f.1.done
histories_at cleared t x y c e f = inl f.1.done
histories_at waiting quiet x y c e (inl r) = inl r.done
histories_at waiting quiet x y c e (inr d) = inr (waits_pends x.m.stage x.m e, (d.0, d.1.row.done))
histories_at waiting (taken j) x y c e f = inl f.row.done
histories_at waiting (replying j) x y c e f = inr (waits_pends x.m.stage x.m e, (_, f.row.done))
histories_at (reading j) t x y c e f = inr (reads_pends x.m.stage x.m j e, (_, f.1.is.row.done))

module _ (exec : Device) (start : List ℕ) where
  pub inputs_drained : (ws : List ℕ) (x : Asker) (y : Answerer) → Agree exec start ws x y → WholeHistory x.opening x.done (take (length x.done) x.asked)
  inputs_drained ws x y g = drained_by (is_pending x.m) (trail x) g.1.2.asked

  executed_at : (ws : List ℕ) (x : Asker) (y : Answerer) → Agree exec start ws x y → Executed x y → WholeHistory x.opening y.done (take (length y.done) x.asked)
  unfolding Executed
  executed_at ws x y g (inl e) = subst (λ (h : List Exchange). WholeHistory x.opening h (take (length h) x.asked)) (sym e) (inputs_drained ws x y g)
  executed_at ws x y g (inr e) = subst (λ (h : List Exchange). WholeHistory x.opening h (take (length h) x.asked)) (sym e.1.1)
      (executed_by (trail x) (answered (flight x) e.1.0.0 e.1.0.1) refl (subst (λ (b : Bool). HasAskedBy b (trail x)) e.0 g.1.2.asked))

  pub inputs_executed : (ws : List ℕ) (x : Asker) (y : Answerer) → Agree exec start ws x y → WholeHistory x.opening y.done (take (length y.done) x.asked)
  inputs_executed ws x y g = executed_at ws x y g (histories_at (pose x.m) (turn y.m) x y g.0 refl g.1.2.fits)

module _ (exec : Device) (is_state : List ℕ → Type 0) (room_of : List ℕ → ℕ) (keeps : (before : List ℕ) (code : ℕ) (space : List ℕ) → is_state before → IsSpace (room_of before) space → Leaves is_state room_of before (exec before code space)) (w : Wiring) (start opening : List ℕ) (sound : is_state start) (room : room_of start ≡ w.room) (bytes : IsBytes opening) where
  -- the relation, and what no step changes
  pub record Stands (s : State) : Type 0 where
    pub agree : Agree exec start s.words s.asker s.answerer
    pub wiring : s.asker.m.wiring ≡ w
    pub opened : s.asker.opening ≡ opening

  pub stands : (s : State) → Reached exec w start opening s → Stands s
  stands _ (at_first a b new ok new' ok') = record { agree = starts_agreed exec start w opening a b new new' ok ok' bytes; wiring = new.0; opened = refl }
  stands _ (sets_budget s polls r rest) = let h = stands s r in record { agree = budget_agrees exec start s.words s.asker s.answerer polls rest h.agree; wiring = h.wiring; opened = h.opened }
  stands _ (begins_post s code asked r may) = let h = stands s r in record { agree = post_begin_agrees exec start s.words s.asker s.answerer code asked may.rests may.free may.fits may.posts may.byte may.word may.bytes h.agree; wiring = h.wiring; opened = h.opened }
  stands _ (begins_look s r may) = let h = stands s r in record { agree = look_begin_agrees exec start s.words s.asker s.answerer may.rests may.flies may.left h.agree; wiring = h.wiring; opened = h.opened }
  stands _ (begins_answer s r rest) = let h = stands s r in record { agree = answer_begin_agrees exec start s.words s.asker s.answerer rest h.agree; wiring = h.wiring; opened = h.opened }
  stands _ (steps_ask s r small) = let h = stands s r in let a : Ask = s.asker.m in let t : Action = ask_next a in record {
    agree = ask_step_agrees exec start s.words s.asker s.answerer (found t s.words) h.agree (finds_found t s.words) small;
    wiring = ask_wired a.stage a (found t s.words) ∙ h.wiring;
    opened = h.opened;
  }
  stands _ (steps_answer s r small) = let h = stands s r in let t : Action = answer_next s.answerer.m in record {
    agree = answer_step_agrees exec is_state room_of keeps start s.words s.asker s.answerer (found t s.words) sound (room ∙ sym (ap (λ (w : Wiring). w.room) h.wiring)) h.agree (finds_found t s.words) small;
    wiring = h.wiring;
    opened = h.opened;
  }

  pub is_sound : (s : State) → Reached exec w start opening s → IsSound exec w start opening s
  is_sound s r = let h = stands s r in let hs = histories_agree exec start s.words s.asker s.answerer h.agree in record {
    agree = h.agree;
    histories = hs.0;
    legal = subst (λ (w : Wiring). Legal exec w.reports start s.answerer.done) h.wiring hs.1;
    drained = subst (λ (o : List ℕ). WholeHistory o s.asker.done (take (length s.asker.done) s.asker.asked)) h.opened (inputs_drained exec start s.words s.asker s.answerer h.agree);
    executed = subst (λ (o : List ℕ). WholeHistory o s.answerer.done (take (length s.answerer.done) s.asker.asked)) h.opened (inputs_executed exec start s.words s.asker s.answerer h.agree);
  }
