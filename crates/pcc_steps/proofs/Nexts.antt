-- What the next actions are.
use Rattle.std.specs.Prelude.{Some}
use borrow.Author.Tests.{eqb-true}
use Rattle.pcc_steps.specs.declared.ask.AskOutcome.TheVariants.{Clear}
use Rattle.pcc_steps.specs.declared.answer.AnswerOutcome.TheVariants.{Idle}
use Rattle.std.proofs.Common.{ap, Bool, true, false, eqb, ◌≡◌, ◌↔◌, ℕ, ◌+◌, ◌<◌, ◌≤◌, refl, sym, subst, arith, ◌≢◌}
use Rattle.pcc_steps.specs.declared.wiring.Style.{Style}
use Rattle.pcc_steps.specs.declared.wiring.Style.TheVariants.{Headed, Joined3}
use Rattle.pcc_steps.specs.declared.wiring.Action.TheVariants.{Rest}
use Rattle.pcc_steps.specs.declared.ask.AskStage.{AskStage}
use Rattle.pcc_steps.specs.declared.ask.AskStage.TheVariants.{AskRest, PostBlock, PostHeader, PostUpdateLoad, PostUpdateStore, PostMarkLoad, PostMarkStore, PostBellLoad, PostBellStore, PostLine, LookWord, LookError, LookBlock, LookLine, LookLineStore, LookAckLoad, LookAckStore}
use Rattle.pcc_steps.specs.declared.answer.AnswerStage.{AnswerStage}
use Rattle.pcc_steps.specs.declared.answer.AnswerStage.TheVariants.{AnswerRest, TakeLine, TakeAckLoad, TakeAckStore, TakeHeader, TakeBlock, RunDevice, ReplyBlock, ReplyError, ReplyHeader, ReplyUpdateLoad, ReplyUpdateStore, ReplyMarkLoad, ReplyMarkStore, CloseBellLoad, CloseBellStore, CloseLine}
use Rattle.pcc_steps.specs.Wires.{style_of, block_of, update_place, sees_done, acknowledges}
use Rattle.pcc_steps.specs.Asking.{Ask, AskOk, IsWithin, has_more, ask_next_at, ask_next, ask_told_at, ask_told, look_told, read_told, end_told, line_told}
use Rattle.pcc_steps.specs.Answering.{Answer, AnswerOk, IsExecute, answer_next_at, answer_next, answer_told_at, answer_told, take_told, served_at, done_stage, after_update, after_close, asks_notify}

register_place : (s : Style) (n : ℕ) → update_place s < 8 + n
register_place Headed n = omega arith
register_place Joined3 n = omega arith
register_place _ n = omega arith

block_place : (j n : ℕ) → j < n → 8 + j < 8 + n
block_place j n h = omega arith

low_place : (p n : ℕ) → p ≤ 7 → p < 8 + n
low_place p n h = omega arith

-- ---- the asking machine

pub ask_rest : (st : AskStage) (a : Ask) → ask_next_at st a ≡ Rest → st ≡ AskRest
ask_rest AskRest a e = refl
ask_rest _ a e = cc

pub ask_rests : (a : Ask) → (ask_next a ≡ Rest) ↔ (a.stage ≡ AskRest)
ask_rests a = (ask_rest a.stage a, λ e. subst (λ (st : AskStage). ask_next_at st a ≡ Rest) (sym e) refl)

within : (st : AskStage) (a : Ask) → AskOk (record a { stage = st }) → IsWithin (8 + block_of a.wiring) (ask_next_at st a)
within AskRest a ok = tt
within (PostBlock j) a ok = block_place j (block_of a.wiring) ok.place
within PostHeader a ok = low_place 0 (block_of a.wiring) (omega arith)
within PostUpdateLoad a ok = register_place (style_of a.wiring) (block_of a.wiring)
within PostUpdateStore a ok = register_place (style_of a.wiring) (block_of a.wiring)
within PostMarkLoad a ok = low_place 0 (block_of a.wiring) (omega arith)
within PostMarkStore a ok = low_place 0 (block_of a.wiring) (omega arith)
within PostBellLoad a ok = low_place 1 (block_of a.wiring) (omega arith)
within PostBellStore a ok = low_place 1 (block_of a.wiring) (omega arith)
within PostLine a ok = low_place 2 (block_of a.wiring) (omega arith)
within LookWord a ok = low_place 0 (block_of a.wiring) (omega arith)
within LookError a ok = low_place 3 (block_of a.wiring) (omega arith)
within (LookBlock j) a ok = block_place j (block_of a.wiring) ok.place
within LookLine a ok = low_place 4 (block_of a.wiring) (omega arith)
within LookLineStore a ok = low_place 4 (block_of a.wiring) (omega arith)
within LookAckLoad a ok = low_place 5 (block_of a.wiring) (omega arith)
within LookAckStore a ok = low_place 5 (block_of a.wiring) (omega arith)

pub ask_within : (a : Ask) → AskOk a → IsWithin (8 + block_of a.wiring) (ask_next a)
ask_within a ok = within a.stage a ok

-- ---- the answering machine

pub answer_rest : (st : AnswerStage) (a : Answer) → answer_next_at st a ≡ Rest → st ≡ AnswerRest
answer_rest AnswerRest a e = refl
answer_rest _ a e = cc

pub answer_rests : (a : Answer) → (answer_next a ≡ Rest) ↔ (a.stage ≡ AnswerRest)
answer_rests a = (answer_rest a.stage a, λ e. subst (λ (st : AnswerStage). answer_next_at st a ≡ Rest) (sym e) refl)

executes_at : (st : AnswerStage) (a : Answer) → IsExecute (answer_next_at st a) → st ≡ RunDevice
executes_at RunDevice a e = refl
executes_at _ a e = absurd e

pub answer_executes : (a : Answer) → IsExecute (answer_next a) ↔ (a.stage ≡ RunDevice)
answer_executes a = (executes_at a.stage a, λ e. subst (λ (st : AnswerStage). IsExecute (answer_next_at st a)) (sym e) tt)

within' : (st : AnswerStage) (a : Answer) → AnswerOk (record a { stage = st }) → IsWithin (8 + block_of a.wiring) (answer_next_at st a)
within' AnswerRest a ok = tt
within' TakeLine a ok = low_place 2 (block_of a.wiring) (omega arith)
within' TakeAckLoad a ok = low_place 5 (block_of a.wiring) (omega arith)
within' TakeAckStore a ok = low_place 5 (block_of a.wiring) (omega arith)
within' TakeHeader a ok = low_place 0 (block_of a.wiring) (omega arith)
within' (TakeBlock j) a ok = block_place j (block_of a.wiring) ok.place
within' RunDevice a ok = tt
within' (ReplyBlock j) a ok = block_place j (block_of a.wiring) ok.place.1
within' ReplyError a ok = low_place 3 (block_of a.wiring) (omega arith)
within' ReplyHeader a ok = low_place 0 (block_of a.wiring) (omega arith)
within' ReplyUpdateLoad a ok = register_place (style_of a.wiring) (block_of a.wiring)
within' ReplyUpdateStore a ok = register_place (style_of a.wiring) (block_of a.wiring)
within' ReplyMarkLoad a ok = low_place 0 (block_of a.wiring) (omega arith)
within' ReplyMarkStore a ok = low_place 0 (block_of a.wiring) (omega arith)
within' CloseBellLoad a ok = low_place 1 (block_of a.wiring) (omega arith)
within' CloseBellStore a ok = low_place 1 (block_of a.wiring) (omega arith)
within' CloseLine a ok = low_place 4 (block_of a.wiring) (omega arith)

pub answer_within : (a : Answer) → AnswerOk a → IsWithin (8 + block_of a.wiring) (answer_next a)
answer_within a ok = within' a.stage a ok

-- ---- what is told

ended_clear : (b e : Bool) → end_told b e ≢ Some Clear
ended_clear true e h = cc
ended_clear false e h = cc

read_clear : (b n e : Bool) → read_told b n e ≢ Some Clear
read_clear true n e h = cc
read_clear false n e h = ended_clear n e h

lined_clear : (b e : Bool) → line_told b e ≢ Some Clear
lined_clear true e h = cc
lined_clear false e h = cc

looked_clear : (b : Bool) → look_told b ≡ Some Clear → b ≡ false
looked_clear true h = cc
looked_clear false h = refl

clear_at : (st : AskStage) (a : Ask) (v : ℕ) → ask_told_at st a v ≡ Some Clear → (st ≡ LookWord) × (sees_done a.wiring v ≡ false)
clear_at LookWord a v h = (refl, looked_clear (sees_done a.wiring v) h)
clear_at (LookBlock j) a v h = absurd (read_clear (has_more j a.wiring) a.wiring.notify a.error h)
clear_at LookLine a v h = absurd (lined_clear (eqb v 0) a.error h)
clear_at LookLineStore a v h = absurd (ended_clear (acknowledges a.wiring) a.error h)
clear_at _ a v h = cc

pub clear_told : (a : Ask) (v : ℕ) → (ask_told a v ≡ Some Clear) ↔ ((a.stage ≡ LookWord) × (sees_done a.wiring v ≡ false))
clear_told a v = (clear_at a.stage a v, λ h. subst (λ (st : AskStage). ask_told_at st a v ≡ Some Clear) (sym h.0) (ap look_told h.1))

served_idle : (st : AnswerStage) → served_at st ≢ Some Idle
served_idle AnswerRest h = cc
served_idle _ h = cc

taken_idle : (v : ℕ) (b : Bool) → eqb v 0 ≡ b → take_told b ≡ Some Idle → v ≡ 0
taken_idle v true e h = eqb-true v 0 e
taken_idle v false e h = cc

idle_at : (st : AnswerStage) (a : Answer) (v : ℕ) → answer_told_at st a v ≡ Some Idle → (st ≡ TakeLine) × (v ≡ 0)
idle_at TakeLine a v h = (refl, taken_idle v (eqb v 0) refl h)
idle_at ReplyHeader a v h = absurd (served_idle (done_stage a) h)
idle_at ReplyUpdateStore a v h = absurd (served_idle (after_update (style_of a.wiring) a) h)
idle_at ReplyMarkStore a v h = absurd (served_idle (done_stage a) h)
idle_at CloseBellStore a v h = absurd (served_idle (after_close (asks_notify a)) h)
idle_at _ a v h = cc

pub idle_told : (a : Answer) (v : ℕ) → (answer_told a v ≡ Some Idle) ↔ ((a.stage ≡ TakeLine) × (v ≡ 0))
idle_told a v = (idle_at a.stage a v, λ h. subst (λ (st : AnswerStage). answer_told_at st a v ≡ Some Idle) (sym h.0) (ap (λ (n : ℕ). take_told (eqb n 0)) h.1))
