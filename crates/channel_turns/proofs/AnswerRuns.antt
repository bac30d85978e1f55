-- The answering machine's word steps, one after the other, with the device's turn.
use Rattle.std.proofs.Common.{◌≡◌, ◌≢◌, ℕ, zero, suc, ◌+◌, ◌-◌, ◌*◌, ◌/◌, ◌%◌, ◌^◌, ◌<◌, ◌≤◌, Bool, true, false, eqb, ltb, List, [], ◌++◌, length, drop, refl, sym, ap, ◌∙◌, subst, arith, length-drop}
use Rattle.std.specs.Prelude.{Option, Some, None}
use Rattle.std.proofs.lemmas.List.{append-nil}
use Rattle.pcc_history.specs.Devices.{Device}
use Rattle.pcc_history.specs.Channel.{Exchange}
use Rattle.shmem_header.specs.Spelling.{bytes_of}
use Rattle.shmem_header.proofs.Places.{length-bytes_of}
use Rattle.pcc_steps.specs.declared.wiring.Wiring.{Wiring}
use Rattle.pcc_steps.specs.declared.wiring.Style.{Style}
use Rattle.pcc_steps.specs.declared.wiring.Style.TheVariants.{Headed, Joined3, Separate3, Joined4, Separate4, Reduced5}
use Rattle.pcc_steps.specs.declared.wiring.Action.{Action}
use Rattle.pcc_steps.specs.declared.answer.AnswerStage.{AnswerStage}
use Rattle.pcc_steps.specs.declared.answer.AnswerStage.TheVariants.{AnswerRest, TakeLine, TakeAckLoad, TakeAckStore, TakeHeader, TakeBlock, RunDevice, ReplyBlock, ReplyError, ReplyHeader, ReplyUpdateLoad, ReplyUpdateStore, ReplyMarkLoad, ReplyMarkStore, CloseBellLoad, CloseBellStore, CloseLine}
use Rattle.pcc_steps.specs.declared.answer.AnswerOutcome.{AnswerOutcome}
use Rattle.pcc_steps.specs.declared.answer.AnswerOutcome.TheVariants.{Idle, Served}
use Rattle.pcc_steps.specs.Changes.{next_changed}
use Rattle.pcc_steps.specs.Wires.{style_of, heads_of, block_of, tells_error, four_by}
use Rattle.pcc_steps.specs.Runs.{Run, ends, loads, stores, swaps, executes, Within, AnswerEnd}
use Rattle.pcc_steps.specs.Walk.{answer_left, answer_after, Gives}
use Rattle.pcc_steps.specs.Asking.{has_more}
use Rattle.pcc_steps.specs.Answering.{Answer, AnswerOk, IsAnswerStepping, answer_begun, answer_next, answer_fed, answer_told, answer_fed_at, answer_told_at, after_ack, after_take, after_error, after_reply, after_close, after_done, done_stage, update_stage, asks_notify, take_on, take_told, load_on, reply_on, ran_with, answer_code}
use Rattle.pcc_steps.specs.Moves.{AnswerMoves}
use Rattle.pcc_steps.specs.Agree.{act, found, Finds, Core, Asker, Answerer, Agree, Pose, free, writing, cleared, waiting, reading, replying, Fits, pose, turn_at, settle, settle_at, answerer_fed}
use Rattle.pcc_steps.specs.Laws.{AnswerBeginAgrees, AnswerStepAgrees}
use Rattle.pcc_steps.proofs.AnswerWalks.{answers_by_table, answer_steps_by_table, executes_by_table}
use Rattle.pcc_steps.proofs.Bounds.{answers_within}
use Rattle.pcc_steps.proofs.Nexts.{idle_told}
use Rattle.pcc_steps.proofs.Wired.{answer_wired}
use Rattle.pcc_steps.proofs.WordSteps.{long_act, finds_found}
use Rattle.pcc_steps.proofs.AnswerFeeds.{counted, framed, is_rest, is_run, rest_is, run_is, not_rest, not_run, ends_run, fed_rests, reply_rests, unsettled, settled_wired}
use Rattle.pcc_steps.proofs.Lists.{one_more}
use Rattle.channel_turns.specs.WordRuns.{AnswerStep, AnswerStride, AnswerKeeps, HasExecuted, HistoryIs}
use Rattle.pcc_steps.proofs.Lengths.{one_less}

-- ---- stages

-- the command is executed
abbrev pub is_past : AnswerStage → Bool
is_past AnswerRest = false
is_past TakeLine = false
is_past TakeAckLoad = false
is_past TakeAckStore = false
is_past TakeHeader = false
is_past (TakeBlock j) = false
is_past RunDevice = false
is_past (ReplyBlock j) = true
is_past ReplyError = true
is_past ReplyHeader = true
is_past ReplyUpdateLoad = true
is_past ReplyUpdateStore = true
is_past ReplyMarkLoad = true
is_past ReplyMarkStore = true
is_past CloseBellLoad = true
is_past CloseBellStore = true
is_past CloseLine = true

not_false : (b : Bool) → b ≡ true → b ≡ false → ⊥
not_false b t f = cc

ack_early : (s : Style) → is_past (after_ack s) ≡ false
ack_early Headed = refl
ack_early Joined3 = refl
ack_early Separate3 = refl
ack_early Joined4 = refl
ack_early Separate4 = refl
ack_early Reduced5 = refl

take_early : (b : Bool) (s : Style) → is_past (after_take b s) ≡ false
take_early true s = refl
take_early false s = ack_early s

takes_early : (b : Bool) (a : Answer) → is_past (take_on b a).stage ≡ false
takes_early true a = refl
takes_early false a = take_early (four_by (style_of a.wiring) a.wiring.has_ack) (style_of a.wiring)

loads_early : (b : Bool) (j v : ℕ) (a : Answer) → is_past (load_on b j v a).stage ≡ false
loads_early true j v a = refl
loads_early false j v a = refl

-- the step before the command is executed is none behind
early : (st : AnswerStage) (a : Answer) (v : ℕ) → is_past st ≡ false → is_rest st ≡ false → is_run st ≡ false → is_past (answer_fed_at st a v).stage ≡ false
early AnswerRest a v e r f = absurd (cc r)
early TakeLine a v e r f = takes_early (eqb v 0) a
early TakeAckLoad a v e r f = refl
early TakeAckStore a v e r f = ack_early (style_of a.wiring)
early TakeHeader a v e r f = refl
early (TakeBlock j) a v e r f = loads_early (has_more j a.wiring) j v a
early RunDevice a v e r f = absurd (cc f)
early (ReplyBlock j) a v e r f = absurd (cc e)
early ReplyError a v e r f = absurd (cc e)
early ReplyHeader a v e r f = absurd (cc e)
early ReplyUpdateLoad a v e r f = absurd (cc e)
early ReplyUpdateStore a v e r f = absurd (cc e)
early ReplyMarkLoad a v e r f = absurd (cc e)
early ReplyMarkStore a v e r f = absurd (cc e)
early CloseBellLoad a v e r f = absurd (cc e)
early CloseBellStore a v e r f = absurd (cc e)
early CloseLine a v e r f = absurd (cc e)

take_unserved : (b : Bool) → take_told b ≡ Some Served → ⊥
take_unserved true e = cc
take_unserved false e = cc

unserved : (st : AnswerStage) (a : Answer) (v : ℕ) → is_past st ≡ false → answer_told_at st a v ≡ Some Served → ⊥
unserved AnswerRest a v e t = cc
unserved TakeLine a v e t = take_unserved (eqb v 0) t
unserved TakeAckLoad a v e t = cc
unserved TakeAckStore a v e t = cc
unserved TakeHeader a v e t = cc
unserved (TakeBlock j) a v e t = cc
unserved RunDevice a v e t = cc
unserved (ReplyBlock j) a v e t = absurd (cc e)
unserved ReplyError a v e t = absurd (cc e)
unserved ReplyHeader a v e t = absurd (cc e)
unserved ReplyUpdateLoad a v e t = absurd (cc e)
unserved ReplyUpdateStore a v e t = absurd (cc e)
unserved ReplyMarkLoad a v e t = absurd (cc e)
unserved ReplyMarkStore a v e t = absurd (cc e)
unserved CloseBellLoad a v e t = absurd (cc e)
unserved CloseBellStore a v e t = absurd (cc e)
unserved CloseLine a v e t = absurd (cc e)

error_walks : (s : Style) → is_run (after_error s) ≡ false
error_walks Headed = refl
error_walks Joined3 = refl
error_walks Separate3 = refl
error_walks Joined4 = refl
error_walks Separate4 = refl
error_walks Reduced5 = refl

reply_walks : (b : Bool) (s : Style) → is_run (after_reply b s) ≡ false
reply_walks true s = refl
reply_walks false s = error_walks s

replies_walk : (b : Bool) (n : ℕ) (w : Wiring) → is_run (reply_on b n w) ≡ false
replies_walk true n w = refl
replies_walk false n w = reply_walks (tells_error w) (style_of w)

close_walks : (b : Bool) → is_run (after_close b) ≡ false
close_walks true = refl
close_walks false = refl

done_walks : (b c : Bool) → is_run (after_done b c) ≡ false
done_walks true c = refl
done_walks false c = close_walks c

update_walks : (s : Style) (st : AnswerStage) → is_run st ≡ false → is_run (update_stage s st) ≡ false
update_walks Separate4 st e = refl
update_walks Headed st e = e
update_walks Joined3 st e = e
update_walks Separate3 st e = e
update_walks Joined4 st e = e
update_walks Reduced5 st e = e

-- a reply that is under way is not closed
error_executed : (s : Style) (hp ha : ℕ) → HasExecuted (after_error s) hp ha
error_executed Headed hp ha = tt
error_executed Joined4 hp ha = tt
error_executed Separate4 hp ha = tt
error_executed _ hp ha = tt

reply_executed : (b : Bool) (s : Style) (hp ha : ℕ) → HasExecuted (after_reply b s) hp ha
reply_executed true s hp ha = tt
reply_executed false s hp ha = error_executed s hp ha

replied_executed : (b : Bool) (n : ℕ) (w : Wiring) (hp ha : ℕ) → HasExecuted (reply_on b n w) hp ha
replied_executed true n w hp ha = tt
replied_executed false n w hp ha = reply_executed (tells_error w) (style_of w) hp ha

-- the device runs once
once : (st : AnswerStage) (a : Answer) (v : ℕ) → is_past st ≡ true → is_run (answer_fed_at st a v).stage ≡ false
once AnswerRest a v e = absurd (cc e)
once TakeLine a v e = absurd (cc e)
once TakeAckLoad a v e = absurd (cc e)
once TakeAckStore a v e = absurd (cc e)
once TakeHeader a v e = absurd (cc e)
once (TakeBlock j) a v e = absurd (cc e)
once RunDevice a v e = absurd (cc e)
once (ReplyBlock j) a v e = let n : ℕ = next_changed (j + 1) a.out a.loaded in replies_walk (ltb n (length a.out)) n a.wiring
once ReplyError a v e = error_walks (style_of a.wiring)
once ReplyHeader a v e = done_walks (four_by (style_of a.wiring) a.wiring.has_bell) (asks_notify a)
once ReplyUpdateLoad a v e = refl
once ReplyUpdateStore a v e = update_walks (style_of a.wiring) (done_stage a) (done_walks (four_by (style_of a.wiring) a.wiring.has_bell) (asks_notify a))
once ReplyMarkLoad a v e = refl
once ReplyMarkStore a v e = done_walks (four_by (style_of a.wiring) a.wiring.has_bell) (asks_notify a)
once CloseBellLoad a v e = refl
once CloseBellStore a v e = close_walks (asks_notify a)
once CloseLine a v e = refl

-- the line is taken once
abbrev is_line : AnswerStage → Bool
is_line TakeLine = true
is_line _ = false

behind_ack : (s : Style) → is_line (after_ack s) ≡ false
behind_ack Headed = refl
behind_ack Joined3 = refl
behind_ack Separate3 = refl
behind_ack Joined4 = refl
behind_ack Separate4 = refl
behind_ack Reduced5 = refl

behind_take : (b : Bool) (s : Style) → is_line (after_take b s) ≡ false
behind_take true s = refl
behind_take false s = behind_ack s

takes_behind : (b : Bool) (a : Answer) → is_line (take_on b a).stage ≡ false
takes_behind true a = refl
takes_behind false a = behind_take (four_by (style_of a.wiring) a.wiring.has_ack) (style_of a.wiring)

loads_behind : (b : Bool) (j v : ℕ) (a : Answer) → is_line (load_on b j v a).stage ≡ false
loads_behind true j v a = refl
loads_behind false j v a = refl

behind_error : (s : Style) → is_line (after_error s) ≡ false
behind_error Headed = refl
behind_error Joined3 = refl
behind_error Separate3 = refl
behind_error Joined4 = refl
behind_error Separate4 = refl
behind_error Reduced5 = refl

behind_reply : (b : Bool) (s : Style) → is_line (after_reply b s) ≡ false
behind_reply true s = refl
behind_reply false s = behind_error s

replies_behind : (b : Bool) (n : ℕ) (w : Wiring) → is_line (reply_on b n w) ≡ false
replies_behind true n w = refl
replies_behind false n w = behind_reply (tells_error w) (style_of w)

behind_close : (b : Bool) → is_line (after_close b) ≡ false
behind_close true = refl
behind_close false = refl

behind_done : (b c : Bool) → is_line (after_done b c) ≡ false
behind_done true c = refl
behind_done false c = behind_close c

behind_update : (s : Style) (st : AnswerStage) → is_line st ≡ false → is_line (update_stage s st) ≡ false
behind_update Separate4 st e = refl
behind_update Headed st e = e
behind_update Joined3 st e = e
behind_update Separate3 st e = e
behind_update Joined4 st e = e
behind_update Reduced5 st e = e

behind_at : (st : AnswerStage) (a : Answer) (v : ℕ) → is_rest st ≡ false → is_run st ≡ false → is_line (answer_fed_at st a v).stage ≡ false
behind_at AnswerRest a v e f = absurd (cc e)
behind_at TakeLine a v e f = takes_behind (eqb v 0) a
behind_at TakeAckLoad a v e f = refl
behind_at TakeAckStore a v e f = behind_ack (style_of a.wiring)
behind_at TakeHeader a v e f = refl
behind_at (TakeBlock j) a v e f = loads_behind (has_more j a.wiring) j v a
behind_at RunDevice a v e f = absurd (cc f)
behind_at (ReplyBlock j) a v e f = let n : ℕ = next_changed (j + 1) a.out a.loaded in replies_behind (ltb n (length a.out)) n a.wiring
behind_at ReplyError a v e f = behind_error (style_of a.wiring)
behind_at ReplyHeader a v e f = behind_done (four_by (style_of a.wiring) a.wiring.has_bell) (asks_notify a)
behind_at ReplyUpdateLoad a v e f = refl
behind_at ReplyUpdateStore a v e f = behind_update (style_of a.wiring) (done_stage a) (behind_done (four_by (style_of a.wiring) a.wiring.has_bell) (asks_notify a))
behind_at ReplyMarkLoad a v e f = refl
behind_at ReplyMarkStore a v e f = behind_done (four_by (style_of a.wiring) a.wiring.has_bell) (asks_notify a)
behind_at CloseBellLoad a v e f = refl
behind_at CloseBellStore a v e f = behind_close (asks_notify a)
behind_at CloseLine a v e f = refl

served_only : (o : AnswerOutcome) → o ≡ Served → Some o ≡ Some Idle → ⊥
served_only Idle e q = cc
served_only Served e q = cc

-- ---- a command that is executed is one more

executed_more : (stage : AnswerStage) (hp ha : ℕ) → hp ≡ ha + 1 → HasExecuted stage hp ha
executed_more CloseBellLoad hp ha e = e
executed_more CloseBellStore hp ha e = e
executed_more CloseLine hp ha e = e
executed_more AnswerRest hp ha e = tt
executed_more TakeLine hp ha e = tt
executed_more TakeAckLoad hp ha e = tt
executed_more TakeAckStore hp ha e = tt
executed_more TakeHeader hp ha e = tt
executed_more (TakeBlock j) hp ha e = tt
executed_more RunDevice hp ha e = tt
executed_more (ReplyBlock j) hp ha e = tt
executed_more ReplyError hp ha e = tt
executed_more ReplyHeader hp ha e = tt
executed_more ReplyUpdateLoad hp ha e = tt
executed_more ReplyUpdateStore hp ha e = tt
executed_more ReplyMarkLoad hp ha e = tt
executed_more ReplyMarkStore hp ha e = tt

executed_early : (stage : AnswerStage) (hp ha : ℕ) → is_past stage ≡ false → HasExecuted stage hp ha
executed_early CloseBellLoad hp ha e = absurd (cc e)
executed_early CloseBellStore hp ha e = absurd (cc e)
executed_early CloseLine hp ha e = absurd (cc e)
executed_early AnswerRest hp ha e = tt
executed_early TakeLine hp ha e = tt
executed_early TakeAckLoad hp ha e = tt
executed_early TakeAckStore hp ha e = tt
executed_early TakeHeader hp ha e = tt
executed_early (TakeBlock j) hp ha e = tt
executed_early RunDevice hp ha e = tt
executed_early (ReplyBlock j) hp ha e = tt
executed_early ReplyError hp ha e = tt
executed_early ReplyHeader hp ha e = tt
executed_early ReplyUpdateLoad hp ha e = tt
executed_early ReplyUpdateStore hp ha e = tt
executed_early ReplyMarkLoad hp ha e = tt
executed_early ReplyMarkStore hp ha e = tt

replying_more : (p : Pose) (j : ℕ) (x : Asker) (y : Answerer) (c : Core) → Fits p (replying j) x y c → length y.done ≡ length x.done + 1
replying_more free j x y c f = absurd (cc (f.0))
replying_more (writing i) j x y c f = absurd (cc (f.0))
replying_more cleared j x y c f = absurd (cc (f.0))
replying_more waiting j x y c f = one_more x.done y.done _ f.row.done
replying_more (reading i) j x y c f = absurd (cc (f.0))

pub moves_step : (n : ℕ) (ws ws' : List ℕ) (a b : Answer) → AnswerMoves n ws a ws' b → IsAnswerStepping a → IsAnswerStepping b
moves_step zero ws ws' a b m runs = subst (λ (x : Answer). IsAnswerStepping x) (sym m.1) runs
moves_step (suc n) ws ws' a b m runs = let v : ℕ = found (answer_next a) ws in let c : Answer = answer_fed a v in
    let on : is_rest c.stage ≡ false = fed_rests a.stage a v (not_rest a.stage runs.0) (not_run a.stage runs.1) ∙ ap ends_run m.3 in
    moves_step n (act (answer_next a) ws) ws' c b m.6 (λ q. not_false (is_rest c.stage) (ap is_rest q) on, m.5)

pub moves_long : (n : ℕ) (ws ws' : List ℕ) (a b : Answer) → AnswerMoves n ws a ws' b → length ws ≡ 8 + block_of a.wiring → length ws' ≡ 8 + block_of b.wiring
moves_long zero ws ws' a b m long = subst (λ (z : List ℕ × Answer). length z.0 ≡ 8 + block_of z.1.wiring) (λ i. (sym m.0 i, sym m.1 i)) long
moves_long (suc n) ws ws' a b m long = let v : ℕ = found (answer_next a) ws in let on : List ℕ = act (answer_next a) ws in
    moves_long n on ws' (answer_fed a v) b m.6 (long_act (answer_next a) ws ∙ long ∙ ap (λ (w : Wiring). 8 + block_of w) (sym (answer_wired a.stage a v)))

pub moves_wired : (n : ℕ) (ws ws' : List ℕ) (a b : Answer) → AnswerMoves n ws a ws' b → b.wiring ≡ a.wiring
moves_wired zero ws ws' a b m = ap (λ (x : Answer). x.wiring) m.1
moves_wired (suc n) ws ws' a b m = let v : ℕ = found (answer_next a) ws in moves_wired n (act (answer_next a) ws) ws' (answer_fed a v) b m.6 ∙ answer_wired a.stage a v

module _ (exec : Device) where
  has_more_by : (st : AnswerStage) (start ws : List ℕ) (x : Asker) (y : Answerer) → y.m.stage ≡ st → is_past st ≡ true → Agree exec start ws x y
      → HasExecuted st (length y.done) (length x.done) → length y.done ≡ length x.done + 1
  has_more_by AnswerRest start ws x y e p g h = absurd (cc p)
  has_more_by TakeLine start ws x y e p g h = absurd (cc p)
  has_more_by TakeAckLoad start ws x y e p g h = absurd (cc p)
  has_more_by TakeAckStore start ws x y e p g h = absurd (cc p)
  has_more_by TakeHeader start ws x y e p g h = absurd (cc p)
  has_more_by (TakeBlock j) start ws x y e p g h = absurd (cc p)
  has_more_by RunDevice start ws x y e p g h = absurd (cc p)
  has_more_by (ReplyBlock j) start ws x y e p g h = replying_more (pose x.m) j x y g.0 (subst (λ (t : AnswerStage). Fits (pose x.m) (turn_at t y.m) x y g.0) e g.1.2.fits)
  has_more_by ReplyError start ws x y e p g h = replying_more (pose x.m) (block_of y.m.wiring) x y g.0 (subst (λ (t : AnswerStage). Fits (pose x.m) (turn_at t y.m) x y g.0) e g.1.2.fits)
  has_more_by ReplyHeader start ws x y e p g h = replying_more (pose x.m) (block_of y.m.wiring) x y g.0 (subst (λ (t : AnswerStage). Fits (pose x.m) (turn_at t y.m) x y g.0) e g.1.2.fits)
  has_more_by ReplyUpdateLoad start ws x y e p g h = replying_more (pose x.m) (block_of y.m.wiring) x y g.0 (subst (λ (t : AnswerStage). Fits (pose x.m) (turn_at t y.m) x y g.0) e g.1.2.fits)
  has_more_by ReplyUpdateStore start ws x y e p g h = replying_more (pose x.m) (block_of y.m.wiring) x y g.0 (subst (λ (t : AnswerStage). Fits (pose x.m) (turn_at t y.m) x y g.0) e g.1.2.fits)
  has_more_by ReplyMarkLoad start ws x y e p g h = replying_more (pose x.m) (block_of y.m.wiring) x y g.0 (subst (λ (t : AnswerStage). Fits (pose x.m) (turn_at t y.m) x y g.0) e g.1.2.fits)
  has_more_by ReplyMarkStore start ws x y e p g h = replying_more (pose x.m) (block_of y.m.wiring) x y g.0 (subst (λ (t : AnswerStage). Fits (pose x.m) (turn_at t y.m) x y g.0) e g.1.2.fits)
  has_more_by CloseBellLoad start ws x y e p g h = h
  has_more_by CloseBellStore start ws x y e p g h = h
  has_more_by CloseLine start ws x y e p g h = h

  -- ---- the device's turn

  -- the stage behind the device's turn: a stage by itself, but where the device ran
  settled_stage : (P : AnswerStage → Type 0) (st : AnswerStage) (y : Answerer) → y.m.stage ≡ st → (st ≢ RunDevice → P st) → ((b : Bool) (n : ℕ) (w : Wiring) → P (reply_on b n w))
      → P (settle_at exec st y).m.stage
  settled_stage P RunDevice y e h k = let w = y.m.wiring in let out : List ℕ = (settle_at exec RunDevice y).m.out in let n : ℕ = next_changed (heads_of (style_of w)) out y.m.loaded in
      k (ltb n (length out)) n w
  settled_stage P AnswerRest y e h k = subst P (sym e) (h (λ q. cc))
  settled_stage P TakeLine y e h k = subst P (sym e) (h (λ q. cc))
  settled_stage P TakeAckLoad y e h k = subst P (sym e) (h (λ q. cc))
  settled_stage P TakeAckStore y e h k = subst P (sym e) (h (λ q. cc))
  settled_stage P TakeHeader y e h k = subst P (sym e) (h (λ q. cc))
  settled_stage P (TakeBlock j) y e h k = subst P (sym e) (h (λ q. cc))
  settled_stage P (ReplyBlock j) y e h k = subst P (sym e) (h (λ q. cc))
  settled_stage P ReplyError y e h k = subst P (sym e) (h (λ q. cc))
  settled_stage P ReplyHeader y e h k = subst P (sym e) (h (λ q. cc))
  settled_stage P ReplyUpdateLoad y e h k = subst P (sym e) (h (λ q. cc))
  settled_stage P ReplyUpdateStore y e h k = subst P (sym e) (h (λ q. cc))
  settled_stage P ReplyMarkLoad y e h k = subst P (sym e) (h (λ q. cc))
  settled_stage P ReplyMarkStore y e h k = subst P (sym e) (h (λ q. cc))
  settled_stage P CloseBellLoad y e h k = subst P (sym e) (h (λ q. cc))
  settled_stage P CloseBellStore y e h k = subst P (sym e) (h (λ q. cc))
  settled_stage P CloseLine y e h k = subst P (sym e) (h (λ q. cc))

  -- the machine and the device behind a step that found this value, and what was executed
  abbrev pub behind : Answer → List ℕ → ℕ → Answerer
  behind b d v = settle exec (record { m = answer_fed b v; device = d; done = [] })

  pub behind_wired : (b : Answer) (d : List ℕ) (v : ℕ) → (behind b d v).m.wiring ≡ b.wiring
  behind_wired b d v = settled_wired exec (answer_fed b v).stage (record { m = answer_fed b v; device = d; done = [] }) ∙ answer_wired b.stage b v

  same_step : (b : Answer) (d : List ℕ) (done : List Exchange) (v : ℕ)
      → answerer_fed exec (record { m = b; device = d; done = done }) v ≡ (let y = behind b d v in record { m = y.m; device = y.device; done = done ++ y.done })
  same_step b d done v = let st : AnswerStage = (answer_fed b v).stage in
      sym (counted exec st (record { m = answer_fed_at b.stage b v; device = d; done = done })) ∙ framed exec st (answer_fed b v) d done

  -- what it leaves of the history, by what it told
  history : (told : Option AnswerOutcome) (start ws : List ℕ) (x : Asker) (b : Answer) (d : List ℕ) (done : List Exchange) (v : ℕ) → told ≡ answer_told b v
      → is_rest b.stage ≡ false → is_run b.stage ≡ false
      → Agree exec start ws x (record { m = b; device = d; done = done }) → HasExecuted b.stage (length done) (length x.done) → HistoryIs told (behind b d v).m.stage x.done done (done ++ (behind b d v).done)
  history told start ws x b d done v t rests runs g h = by_past (is_past b.stage) told refl t
    where
      y : Answerer
      y = record { m = b; device = d; done = done }

      m : Answer
      m = answer_fed b v

      from : Answerer
      from = record { m = m; device = d; done = [] }

      -- nothing is executed
      still : is_run m.stage ≡ false → done ++ (behind b d v).done ≡ done
      still e = ap (λ (z : Answerer). done ++ z.done) (unsettled exec m.stage from e) ∙ append-nil done

      late : length done ≡ length x.done + 1 → is_run m.stage ≡ false → length (done ++ (behind b d v).done) ≡ length x.done + 1
      late e r = ap (λ (l : List Exchange). length l) (still r) ∙ e

      rest_still : Some Idle ≡ answer_told b v → is_run m.stage ≡ false
      rest_still e = ap is_run (rest_is m.stage (fed_rests b.stage b v rests runs ∙ ap ends_run (sym e)))

      by_past : (p : Bool) (told : Option AnswerOutcome) → is_past b.stage ≡ p → told ≡ answer_told b v
          → HistoryIs told (behind b d v).m.stage x.done done (done ++ (behind b d v).done)
      by_past true None e t = executed_more (behind b d v).m.stage _ _ (late (has_more_by b.stage start ws x y refl e g h) (once b.stage b v e))
      by_past true (Some Idle) e t = still (rest_still t)
      by_past true (Some Served) e t = late (has_more_by b.stage start ws x y refl e g h) (once b.stage b v e)
      by_past false None e t = settled_stage (λ (s : AnswerStage). HasExecuted s (length (done ++ (behind b d v).done)) (length x.done)) m.stage from refl (λ q. executed_early m.stage _ _ (early b.stage b v e rests runs)) (λ t n w. replied_executed t n w (length (done ++ (behind b d v).done)) (length x.done))
      by_past false (Some Idle) e t = still (rest_still t)
      by_past false (Some Served) e t = absurd (unserved b.stage b v e (sym t))

  -- ---- one step

  module _ (is_state : List ℕ → Type 0) (room_of : List ℕ → ℕ) where
    -- by the value that it finds
    stepped : AnswerStepAgrees exec is_state room_of → (ws : List ℕ) (b : Answer) (d : List ℕ) (v : ℕ) → IsAnswerStepping b → v ≡ found (answer_next b) ws
        → v < 2 ^ 64
        → AnswerKeeps exec is_state room_of ws b d (act (answer_next b) ws) (behind b d v).m (behind b d v).device (answer_told b v)
    stepped law ws b d v runs e small start x done is same g h = let y : Answerer = record { m = b; device = d; done = done } in
        let f : Finds (answer_next b) ws v = subst (λ (n : ℕ). Finds (answer_next b) ws n) (sym e) (finds_found (answer_next b) ws) in
        let rests : is_rest b.stage ≡ false = not_rest b.stage runs.0 in let walks : is_run b.stage ≡ false = not_run b.stage runs.1 in (
          done ++ (behind b d v).done,
          subst (λ (z : Answerer). Agree exec start (act (answer_next b) ws) x z) (same_step b d done v) (law start ws x y v is same g f small),
          history (answer_told b v) start ws x b d done v refl rests walks g h,
        )

    pub step_keeps : AnswerStepAgrees exec is_state room_of
        → (ws : List ℕ) (b : Answer) (d : List ℕ) (ws' : List ℕ) (b' : Answer) (d' : List ℕ) (told : Option AnswerOutcome) → IsAnswerStepping b
        → AnswerStep exec ws b d ws' b' d' told → AnswerKeeps exec is_state room_of ws b d ws' b' d' told
    step_keeps law ws b d ws' b' d' told runs s = let v : ℕ = found (answer_next b) ws in
        subst (λ (z : (List ℕ × Answer) × (List ℕ × Option AnswerOutcome)). AnswerKeeps exec is_state room_of ws b d z.0.0 z.0.1 z.1.0 z.1.1) (λ i. ((sym s.words i, sym s.machine i), (sym s.device i, sym s.told_is i)))
        (stepped law ws b d v runs refl s.small)

    -- behind the first step a run doesn't find the line down
    more_keeps : (ws ws1 ws2 : List ℕ) (b b1 b2 : Answer) (d d1 d2 : List ℕ) (told : Option AnswerOutcome) → (told ≡ Some Idle → ⊥)
        → AnswerKeeps exec is_state room_of ws b d ws1 b1 d1 None → AnswerKeeps exec is_state room_of ws1 b1 d1 ws2 b2 d2 told
        → AnswerKeeps exec is_state room_of ws b d ws2 b2 d2 told
    more_keeps ws ws1 ws2 b b1 b2 d d1 d2 told n h k start x done is same g e = let p = h start x done is same g e in let q = k start x p.0 is same p.1 p.2 in (q.0, q.1, other told n x.done done p.0 q.0 b2.stage q.2)
      where
        other : (told : Option AnswerOutcome) → (told ≡ Some Idle → ⊥) → (ha before between now : List Exchange) (st : AnswerStage)
            → HistoryIs told st ha between now → HistoryIs told st ha before now
        other None n ha before between now st h = h
        other (Some Idle) n ha before between now st h = absurd (n refl)
        other (Some Served) n ha before between now st h = h

  -- ---- the run ends

  none_less : (n : ℕ) (r : Run AnswerEnd) (x : Action) (space : List ℕ) (next : Bool → List ℕ → Run AnswerEnd) → Gives r x space next → Within n r
      → (bad : Bool) (reply : List ℕ) → length reply ≡ length space → Within n (next bad reply)
  none_less n (ends e) x space next t w bad reply long = absurd t
  none_less n (loads p f) x space next t w bad reply long = absurd t
  none_less n (stores p u r) x space next t w bad reply long = absurd t
  none_less n (swaps p u f) x space next t w bad reply long = absurd t
  none_less n (executes code s f) x space next t w bad reply long = subst (Within n) (sym (t.2 bad reply)) (w bad reply (long ∙ ap (λ (l : List ℕ). length l) t.1))

  room_found : (k room : ℕ) (loaded : List ℕ) → length loaded ≡ k + room / 8 → room % 8 ≡ 0 → length (bytes_of (drop k loaded)) ≡ room
  room_found k room loaded e whole = let a = length-bytes_of (drop k loaded) in let d = length-drop k loaded in omega (arith, a, d)

  -- the device's turn takes no word step
  settled_within : (b : Bool) (n : ℕ) (m : Answer) (d : List ℕ) → is_run m.stage ≡ b → AnswerOk m
      → AnswerOk (settle exec (record { m = m; device = d; done = [] })).m → Within n (answer_left m)
      → Within n (answer_left (settle exec (record { m = m; device = d; done = [] })).m)
  settled_within false n m d e ok ok' w = subst (λ (y : Answerer). Within n (answer_left y.m)) (sym (unsettled exec m.stage (record { m = m; device = d; done = [] }) e)) w
  settled_within true n m d e ok ok' w = let st : m.stage ≡ RunDevice = run_is m.stage e in let from : Answerer = record { m = m; device = d; done = [] } in
      let x = exec d (answer_code m) m.space in let k : ℕ = heads_of (style_of m.wiring) in let ran : Answer = ran_with (record m { space = x.space }) x.bad in
      let same : settle exec from ≡ settle_at exec RunDevice from = ap (λ (s : AnswerStage). settle_at exec s from) st in
      let fits : length x.space ≡ m.wiring.room = (subst (λ (y : Answerer). AnswerOk y.m) same ok').sized.space in
      let long : length x.space ≡ length (bytes_of (drop k m.loaded)) = fits ∙ sym (room_found k m.wiring.room m.loaded ok.sized.loaded ok.wired.whole) in
      subst (λ (y : Answerer). Within n (answer_left y.m)) (sym same)
      (none_less n (answer_left m) (answer_next m) (bytes_of (drop k m.loaded)) (λ bad reply. answer_left (ran_with (record m { space = reply }) bad)) (executes_by_table m ok st) w x.bad x.space long)

  least : (n : ℕ) (b : Answer) → AnswerOk b → IsAnswerStepping b → Within n (answer_left b) → 0 < n
  least n b ok runs w = (one_less n (answer_left b) (answer_next b) (λ v. answer_after (answer_told b v) (answer_fed b v)) (answer_steps_by_table b ok runs) w).0

  rest_of : (n : ℕ) (b : Answer) (v : ℕ) → AnswerOk b → IsAnswerStepping b → answer_told b v ≡ None → Within n (answer_left b)
      → Within (n - 1) (answer_left (answer_fed b v))
  rest_of n b v ok runs e w = subst (λ (told : Option AnswerOutcome). Within (n - 1) (answer_after told (answer_fed b v))) e ((one_less n (answer_left b) (answer_next b) (λ v. answer_after (answer_told b v) (answer_fed b v)) (answer_steps_by_table b ok runs) w).1 v)

  module _ (is_state : List ℕ → Type 0) (room_of : List ℕ → ℕ) where
    -- a run of so many steps at most
    pub record AnswerGoing (ws : List ℕ) (b : Answer) (d : List ℕ) (most i : ℕ) (ws' : List ℕ) (b' : Answer) (d' : List ℕ) : Type 0 where
      pub keeps : AnswerKeeps exec is_state room_of ws b d ws' b' d' None
      pub long : length ws' ≡ length ws
      pub wiring : b'.wiring ≡ b.wiring
      pub runs : IsAnswerStepping b'
      pub behind_line : b'.stage ≢ TakeLine
      pub within : AnswerOk b' → Within (most - i) (answer_left b')

    going_start : (ws : List ℕ) (b : Answer) (d : List ℕ) (most : ℕ) → IsAnswerStepping b → b.stage ≢ TakeLine → (AnswerOk b → Within most (answer_left b))
        → AnswerGoing ws b d most 0 ws b d
    going_start ws b d most runs line w = record {
      keeps = λ start x done is same g e. (done, g, e);
      long = refl;
      wiring = refl;
      runs = runs;
      behind_line = line;
      within = λ ok. let e : most ≡ most - 0 = omega arith in subst (λ (n : ℕ). Within n (answer_left b)) e (w ok);
    }

    -- the stage behind a step that goes on
    goes_on : (b : Answer) (d : List ℕ) (v : ℕ) → IsAnswerStepping b → answer_told b v ≡ None
        → ((behind b d v).m.stage ≢ AnswerRest) × ((behind b d v).m.stage ≢ RunDevice) × ((behind b d v).m.stage ≢ TakeLine)
    goes_on b d v runs e = let m : Answer = answer_fed b v in
        settled_stage (λ (s : AnswerStage). (s ≢ AnswerRest) × (s ≢ RunDevice) × (s ≢ TakeLine)) m.stage (record { m = m; device = d; done = [] }) refl
        (λ q. (λ r. not_false (is_rest m.stage) (ap is_rest r) (fed_rests b.stage b v (not_rest b.stage runs.0) (not_run b.stage runs.1) ∙ ap ends_run e), q, λ r. not_false (is_line m.stage) (ap is_line r) (behind_at b.stage b v (not_rest b.stage runs.0) (not_run b.stage runs.1))))
        (λ t n w. (λ r. not_false (is_rest (reply_on t n w)) (ap is_rest r) (reply_rests t n w), λ r. not_false (is_run (reply_on t n w)) (ap is_run r) (replies_walk t n w), λ r. not_false (is_line (reply_on t n w)) (ap is_line r) (replies_behind t n w)))

    going_more : AnswerStepAgrees exec is_state room_of
        → (ws : List ℕ) (b : Answer) (d : List ℕ) (most i : ℕ) (ws1 ws2 : List ℕ) (b1 b2 : Answer) (d1 d2 : List ℕ) → AnswerGoing ws b d most i ws1 b1 d1
        → AnswerStep exec ws1 b1 d1 ws2 b2 d2 None → AnswerGoing ws b d most (i + 1) ws2 b2 d2
    going_more law ws b d most i ws1 ws2 b1 b2 d1 d2 h s = let v : ℕ = found (answer_next b1) ws1 in let y : Answerer = behind b1 d1 v in let on = goes_on b1 d1 v h.runs (sym s.told_is) in record {
      keeps = more_keeps is_state room_of ws ws1 ws2 b b1 b2 d d1 d2 None (λ q. cc) h.keeps (step_keeps is_state room_of law ws1 b1 d1 ws2 b2 d2 None h.runs s);
      long = ap (λ (l : List ℕ). length l) s.words ∙ long_act (answer_next b1) ws1 ∙ h.long;
      wiring = ap (λ (a : Answer). a.wiring) s.machine ∙ behind_wired b1 d1 v ∙ h.wiring;
      runs = subst (λ (a : Answer). IsAnswerStepping a) (sym s.machine) (on.0, on.1);
      behind_line = subst (λ (a : Answer). a.stage ≢ TakeLine) (sym s.machine) on.2;
      within = λ ok. let e : most - i - 1 ≡ most - (i + 1) = omega arith in
          subst (λ (z : ℕ × Answer). Within z.0 (answer_left z.1)) (λ j. (e j, sym s.machine j))
          (settled_within (is_run (answer_fed b1 v).stage) (most - i - 1) (answer_fed b1 v) d1 refl s.fed (subst AnswerOk s.machine ok) (rest_of (most - i) b1 v s.right h.runs (sym s.told_is) (h.within s.right)));
    }

    -- the last step of a run
    rests_at : (b : Answer) (d : List ℕ) (v : ℕ) (o : AnswerOutcome) → IsAnswerStepping b → answer_told b v ≡ Some o → (behind b d v).m.stage ≡ AnswerRest
    rests_at b d v o runs e = let m : Answer = answer_fed b v in let r : m.stage ≡ AnswerRest = rest_is m.stage (fed_rests b.stage b v (not_rest b.stage runs.0) (not_run b.stage runs.1) ∙ ap ends_run e) in
        ap (λ (y : Answerer). y.m.stage) (unsettled exec m.stage (record { m = m; device = d; done = [] }) (ap is_run r)) ∙ r

    step_rests : (ws : List ℕ) (b : Answer) (d : List ℕ) (ws' : List ℕ) (b' : Answer) (d' : List ℕ) (o : AnswerOutcome) → IsAnswerStepping b
        → AnswerStep exec ws b d ws' b' d' (Some o) → b'.stage ≡ AnswerRest
    step_rests ws b d ws' b' d' o runs s = ap (λ (a : Answer). a.stage) s.machine ∙ rests_at b d (found (answer_next b) ws) o runs (sym s.told_is)

    step_serves : (ws : List ℕ) (b : Answer) (d : List ℕ) (ws' : List ℕ) (b' : Answer) (d' : List ℕ) (o : AnswerOutcome) → b.stage ≢ TakeLine
        → AnswerStep exec ws b d ws' b' d' (Some o) → o ≡ Served
    step_serves ws b d ws' b' d' Idle n s = absurd (n ((idle_told b (found (answer_next b) ws)).0 (sym s.told_is)).0)
    step_serves ws b d ws' b' d' Served n s = refl

    going_ends : AnswerStepAgrees exec is_state room_of
        → (ws : List ℕ) (b : Answer) (d : List ℕ) (most i : ℕ) (ws1 ws2 : List ℕ) (b1 b2 : Answer) (d1 d2 : List ℕ) (o : AnswerOutcome)
        → AnswerGoing ws b d most i ws1 b1 d1 → AnswerStep exec ws1 b1 d1 ws2 b2 d2 (Some o) → AnswerKeeps exec is_state room_of ws b d ws2 b2 d2 (Some o)
    going_ends law ws b d most i ws1 ws2 b1 b2 d1 d2 o h s = let e : o ≡ Served = step_serves ws1 b1 d1 ws2 b2 d2 o h.behind_line s in
        more_keeps is_state room_of ws ws1 ws2 b b1 b2 d d1 d2 (Some o) (served_only o e) h.keeps (step_keeps is_state room_of law ws1 b1 d1 ws2 b2 d2 (Some o) h.runs s)

    -- it isn't longer
    going_stops : (ws : List ℕ) (b : Answer) (d : List ℕ) (most i : ℕ) (ws' : List ℕ) (b' : Answer) (d' : List ℕ) → AnswerGoing ws b d most i ws' b' d'
        → AnswerOk b' → most ≤ i → ⊥
    going_stops ws b d most i ws' b' d' h ok le = let p : 0 < most - i = least (most - i) b' ok h.runs (h.within ok) in omega (arith, p, le)

    -- ---- a run whose block is moved at once

    -- a step that the device doesn't follow
    step_of : (ws : List ℕ) (b : Answer) (d : List ℕ) → let v = found (answer_next b) ws in AnswerOk b → v < 2 ^ 64 → answer_told b v ≡ None
        → AnswerOk (answer_fed b v) → (answer_fed b v).stage ≢ RunDevice
        → AnswerStep exec ws b d (act (answer_next b) ws) (answer_fed b v) d None
    step_of ws b d ok small told fed plain = let v : ℕ = found (answer_next b) ws in let m : Answer = answer_fed b v in
        let e : settle exec (record { m = m; device = d; done = [] }) ≡ record { m = m; device = d; done = [] } = unsettled exec m.stage (record { m = m; device = d; done = [] }) (not_run m.stage plain) in
        record { right = ok; fed = fed; small = small; words = refl; machine = ap (λ (y : Answerer). y.m) (sym e); device = ap (λ (y : Answerer). y.device) (sym e); told_is = sym told }

    -- so many steps more
    going_moves : AnswerStepAgrees exec is_state room_of
        → (n : ℕ) (ws : List ℕ) (b : Answer) (d : List ℕ) (most i : ℕ) (ws1 ws2 : List ℕ) (b1 b2 : Answer) (d1 : List ℕ) → AnswerGoing ws b d most i ws1 b1 d1
        → AnswerMoves n ws1 b1 ws2 b2 → AnswerGoing ws b d most (i + n) ws2 b2 d1
    going_moves law zero ws b d most i ws1 ws2 b1 b2 d1 h m = let e : i ≡ i + zero = omega arith in
        subst (λ (z : ℕ × List ℕ × Answer). AnswerGoing ws b d most z.0 z.1 z.2 d1) (λ j. (e j, sym m.0 j, sym m.1 j)) h
    going_moves law (suc n) ws b d most i ws1 ws2 b1 b2 d1 h m = let v : ℕ = found (answer_next b1) ws1 in let on : List ℕ = act (answer_next b1) ws1 in let e : i + 1 + n ≡ i + suc n = omega arith in
        subst (λ (k : ℕ). AnswerGoing ws b d most k ws2 b2 d1) e
        (going_moves law n ws b d most (i + 1) on ws2 (answer_fed b1 v) b2 d1 (going_more law ws b d most i ws1 on b1 (answer_fed b1 v) d1 d1 h (step_of ws1 b1 d1 m.0 m.2 m.3 m.4 m.5)) m.6)

    -- after i turns of the loop so many steps are taken
    pub record AnswerWent (ws : List ℕ) (b : Answer) (d : List ℕ) (most i : ℕ) (ws' : List ℕ) (b' : Answer) (d' : List ℕ) : Type 0 where
      pub taken : ℕ
      pub least_taken : i ≤ taken
      pub going : AnswerGoing ws b d most taken ws' b' d'

    pub went_start : (ws : List ℕ) (b : Answer) (d : List ℕ) (most : ℕ) → IsAnswerStepping b → b.stage ≢ TakeLine → (AnswerOk b → Within most (answer_left b))
        → AnswerWent ws b d most 0 ws b d
    went_start ws b d most runs line w = record { taken = 0; least_taken = omega arith; going = going_start ws b d most runs line w }

    -- the state after the words that are moved at once
    after_moves : AnswerStepAgrees exec is_state room_of
        → (ws : List ℕ) (b : Answer) (d : List ℕ) (most i : ℕ) (ws1 ws2 : List ℕ) (b1 b2 : Answer) (d1 d2 : List ℕ) (told : Option AnswerOutcome) (h : AnswerWent ws b d most i ws1 b1 d1) (s : AnswerStride exec ws1 b1 d1 ws2 b2 d2 told)
        → AnswerGoing ws b d most (h.taken + s.count) s.words s.answer d1
    after_moves law ws b d most i ws1 ws2 b1 b2 d1 d2 told h s = going_moves law s.count ws b d most h.taken ws1 s.words b1 s.answer d1 h.going s.moves

    pub went_more : AnswerStepAgrees exec is_state room_of
        → (ws : List ℕ) (b : Answer) (d : List ℕ) (most i : ℕ) (ws1 ws2 : List ℕ) (b1 b2 : Answer) (d1 d2 : List ℕ) → AnswerWent ws b d most i ws1 b1 d1
        → AnswerStride exec ws1 b1 d1 ws2 b2 d2 None → AnswerWent ws b d most (i + 1) ws2 b2 d2
    went_more law ws b d most i ws1 ws2 b1 b2 d1 d2 h s = record {
      taken = h.taken + s.count + 1;
      least_taken = let l = h.least_taken in omega (arith, l);
      going = going_more law ws b d most (h.taken + s.count) s.words ws2 s.answer b2 d1 d2 (after_moves law ws b d most i ws1 ws2 b1 b2 d1 d2 None h s) s.step;
    }

    pub went_rests : AnswerStepAgrees exec is_state room_of
        → (ws : List ℕ) (b : Answer) (d : List ℕ) (most i : ℕ) (ws1 ws2 : List ℕ) (b1 b2 : Answer) (d1 d2 : List ℕ) (o : AnswerOutcome)
        → AnswerWent ws b d most i ws1 b1 d1 → AnswerStride exec ws1 b1 d1 ws2 b2 d2 (Some o) → b2.stage ≡ AnswerRest
    went_rests law ws b d most i ws1 ws2 b1 b2 d1 d2 o h s = step_rests s.words s.answer d1 ws2 b2 d2 o (after_moves law ws b d most i ws1 ws2 b1 b2 d1 d2 (Some o) h s).runs s.step

    pub went_serves : AnswerStepAgrees exec is_state room_of
        → (ws : List ℕ) (b : Answer) (d : List ℕ) (most i : ℕ) (ws1 ws2 : List ℕ) (b1 b2 : Answer) (d1 d2 : List ℕ) (o : AnswerOutcome)
        → AnswerWent ws b d most i ws1 b1 d1 → AnswerStride exec ws1 b1 d1 ws2 b2 d2 (Some o) → o ≡ Served
    went_serves law ws b d most i ws1 ws2 b1 b2 d1 d2 o h s = step_serves s.words s.answer d1 ws2 b2 d2 o (after_moves law ws b d most i ws1 ws2 b1 b2 d1 d2 (Some o) h s).behind_line s.step

    pub went_ends : AnswerStepAgrees exec is_state room_of
        → (ws : List ℕ) (b : Answer) (d : List ℕ) (most i : ℕ) (ws1 ws2 : List ℕ) (b1 b2 : Answer) (d1 d2 : List ℕ) (o : AnswerOutcome)
        → AnswerWent ws b d most i ws1 b1 d1 → AnswerStride exec ws1 b1 d1 ws2 b2 d2 (Some o) → AnswerKeeps exec is_state room_of ws b d ws2 b2 d2 (Some o)
    went_ends law ws b d most i ws1 ws2 b1 b2 d1 d2 o h s = going_ends law ws b d most (h.taken + s.count) s.words ws2 s.answer b2 d1 d2 o (after_moves law ws b d most i ws1 ws2 b1 b2 d1 d2 (Some o) h s) s.step

    pub went_stops : (ws : List ℕ) (b : Answer) (d : List ℕ) (most i : ℕ) (ws' : List ℕ) (b' : Answer) (d' : List ℕ) → AnswerWent ws b d most i ws' b' d'
        → AnswerOk b' → most ≤ i → ⊥
    went_stops ws b d most i ws' b' d' h ok le = going_stops ws b d most h.taken ws' b' d' h.going ok (let l = h.least_taken in omega (arith, l, le))

    -- ---- whole runs

    first_keeps : AnswerBeginAgrees → (ws ws' : List ℕ) (b b0 b' : Answer) (d d' : List ℕ) (told : Option AnswerOutcome) → b.stage ≡ AnswerRest
        → b0 ≡ answer_begun b → AnswerKeeps exec is_state room_of ws b0 d ws' b' d' told → AnswerKeeps exec is_state room_of ws b d ws' b' d' told
    first_keeps law ws ws' b b0 b' d d' told rests e k = λ start x done is same g h.
        subst (λ (z : Answer). AnswerKeeps exec is_state room_of ws z d ws' b' d' told) e k start x done is same (law exec start ws x (record { m = b; device = d; done = done }) rests g) tt

    begun_steps : (b b0 : Answer) → b0 ≡ answer_begun b → IsAnswerStepping b0
    begun_steps b b0 e = subst (λ (z : Answer). IsAnswerStepping z) (sym e) (λ q. cc, λ q. cc)

    -- the line was down
    pub run_idle : AnswerBeginAgrees → AnswerStepAgrees exec is_state room_of → (ws ws' : List ℕ) (b b0 b' : Answer) (d d' : List ℕ) (o : AnswerOutcome)
        → b.stage ≡ AnswerRest → b0 ≡ answer_begun b → AnswerStep exec ws b0 d ws' b' d' (Some o) → AnswerKeeps exec is_state room_of ws b d ws' b' d' (Some o)
    run_idle begin step ws ws' b b0 b' d d' o rests e s = first_keeps begin ws ws' b b0 b' d d' (Some o) rests e (step_keeps is_state room_of step ws b0 d ws' b' d' (Some o) (begun_steps b b0 e) s)

    -- the line was up
    pub run_served : AnswerBeginAgrees → AnswerStepAgrees exec is_state room_of
        → (ws ws1 ws2 : List ℕ) (b b0 b1 b2 : Answer) (d d1 d2 : List ℕ) (o : AnswerOutcome) → b.stage ≡ AnswerRest → b0 ≡ answer_begun b
        → AnswerStep exec ws b0 d ws1 b1 d1 None → o ≡ Served
        → AnswerKeeps exec is_state room_of ws1 b1 d1 ws2 b2 d2 (Some o) → AnswerKeeps exec is_state room_of ws b d ws2 b2 d2 (Some o)
    run_served begin step ws ws1 ws2 b b0 b1 b2 d d1 d2 o rests e s is k =
        first_keeps begin ws ws2 b b0 b2 d d2 (Some o) rests e (more_keeps is_state room_of ws ws1 ws2 b0 b1 b2 d d1 d2 (Some o) (served_only o is) (step_keeps is_state room_of step ws b0 d ws1 b1 d1 None (begun_steps b b0 e) s) k)

    pub run_goes_on : (ws ws' : List ℕ) (b b0 b' : Answer) (d d' : List ℕ) → b0 ≡ answer_begun b → AnswerStep exec ws b0 d ws' b' d' None
        → IsAnswerStepping b' × (b'.stage ≢ TakeLine)
    run_goes_on ws ws' b b0 b' d d' e s = let on = goes_on b0 d (found (answer_next b0) ws) (begun_steps b b0 e) (sym s.told_is) in
        subst (λ (z : Answer). IsAnswerStepping z × (z.stage ≢ TakeLine)) (sym s.machine) ((on.0, on.1), on.2)

    pub run_long : (ws ws' : List ℕ) (b b0 b' : Answer) (d d' : List ℕ) (o : Option AnswerOutcome) → b0 ≡ answer_begun b → AnswerStep exec ws b0 d ws' b' d' o
        → length ws ≡ 8 + block_of b.wiring → length ws' ≡ 8 + block_of b'.wiring
    run_long ws ws' b b0 b' d d' o e s long = let v : ℕ = found (answer_next b0) ws in
        ap (λ (l : List ℕ). length l) s.words ∙ long_act (answer_next b0) ws ∙ long ∙ ap (λ (w : Wiring). 8 + block_of w) (sym (ap (λ (a : Answer). a.wiring) s.machine ∙ behind_wired b0 d v ∙ ap (λ (a : Answer). a.wiring) e))

    pub run_within : (ws ws' : List ℕ) (b b0 b' : Answer) (d d' : List ℕ) (n : ℕ) → b0 ≡ answer_begun b → AnswerStep exec ws b0 d ws' b' d' None
        → n ≡ block_of b.wiring → AnswerOk b' → Within (2 * n + 10) (answer_left b')
    run_within ws ws' b b0 b' d d' n e s k ok = let v : ℕ = found (answer_next b0) ws in let m : ℕ = block_of b.wiring in
        let whole : Within (2 * m + 11) (answer_left b0) = subst (λ (z : Answer). Within (2 * m + 11) (answer_left z)) (sym e) (subst (Within (2 * m + 11)) (sym (answers_by_table b)) (answers_within b.wiring)) in
        let i : 2 * m + 11 - 1 ≡ 2 * n + 10 = omega (arith, k) in
        subst (λ (z : ℕ × Answer). Within z.0 (answer_left z.1)) (λ j. (i j, sym s.machine j))
        (settled_within (is_run (answer_fed b0 v).stage) (2 * m + 11 - 1) (answer_fed b0 v) d refl s.fed (subst AnswerOk s.machine ok) (rest_of (2 * m + 11) b0 v s.right (begun_steps b b0 e) (sym s.told_is) whole))
