-- The laws of both ends, put together from their stages.
use Rattle.std.proofs.Common.{◌≡◌, ℕ, List, sym, ◌∙◌, subst}
use Rattle.pcc_history.specs.Devices.{Device}
use Rattle.pcc_exec.specs.Execution.{IsSpace, Leaves}
use Rattle.pcc_steps.specs.Agree.{asker_fed_at, answerer_fed_at, act, pose, turn}
use Rattle.pcc_steps.specs.Asking.{ask_next}
use Rattle.pcc_steps.specs.Answering.{answer_next}
use Rattle.pcc_steps.specs.Laws.{StartsAgreed, AskStepAgrees, PostBeginAgrees, LookBeginAgrees, BudgetAgrees, AnswerBeginAgrees, AnswerStepAgrees, DeviceStays, HistoriesAgree}
use Rattle.pcc_steps.proofs.Bits.{code_fits}
use Rattle.pcc_steps.proofs.AskLooks.{ask_keeps}
use Rattle.pcc_steps.proofs.AnswerReplies.{answer_keeps}
use Rattle.pcc_steps.proofs.AskBegins as asks
use Rattle.pcc_steps.proofs.AnswerBegins as answers
use Rattle.pcc_steps.proofs.Starts as first
use Rattle.pcc_steps.proofs.Legality.{state_kept}

pub starts_agreed : StartsAgreed
starts_agreed exec start w opening a b new new' ok ok' bytes = first.starts exec w opening a b start new new' ok ok' bytes

pub ask_step_agrees : AskStepAgrees
ask_step_agrees exec start ws x y v g f small = asks.steps exec start (asker_fed_at x.m.stage x v) y (act (ask_next x.m) ws) (ask_keeps exec start x.m.stage x y ws v g f small)

pub post_begin_agrees : PostBeginAgrees
post_begin_agrees exec start ws x y code bytes rest unflown short left byte word fits g = asks.begins exec start x code bytes rest unflown short left (code_fits x.m.wiring code byte word) fits ws y g

pub look_begin_agrees : LookBeginAgrees
look_begin_agrees exec start ws x y rest flies left g = asks.looks_begin exec start x rest flies left ws y g

pub budget_agrees : BudgetAgrees
budget_agrees exec start ws x y polls rest g = asks.budgets exec start x polls rest ws y g

pub answer_begin_agrees : AnswerBeginAgrees
answer_begin_agrees exec start ws x y rest g = answers.begins exec start y rest ws x g

module _ (exec : Device) (is_state : List ℕ → Type 0) (room_of : List ℕ → ℕ) (keeps : (before : List ℕ) (code : ℕ) (space : List ℕ) → is_state before → IsSpace (room_of before) space → Leaves is_state room_of before (exec before code space)) where
  -- a state that the device can be in, for this room
  IsAt : ℕ → List ℕ → Type 0
  IsAt room d = is_state d × (room_of d ≡ room)

  at_room : (room : ℕ) (d : List ℕ) → is_state d → room_of d ≡ room → IsAt room d
  unfolding IsAt
  at_room room d is same = (is, same)

  of_room : (room : ℕ) (d : List ℕ) → IsAt room d → is_state d × (room_of d ≡ room)
  unfolding IsAt
  of_room room d is = is

  keeps_room : (room : ℕ) (d : List ℕ) (code : ℕ) (s : List ℕ) → IsAt room d → IsSpace room s
      → IsAt room (exec d code s).state × IsSpace room (exec d code s).space
  unfolding IsAt
  keeps_room room d code s is space = let k = keeps d code s is.0 (subst (λ (n : ℕ). IsSpace n s) (sym is.1) space) in ((k.state, k.room ∙ is.1), subst (λ (n : ℕ). IsSpace n (exec d code s).space) is.1 k.space)

  pub answer_step_agrees : AnswerStepAgrees exec is_state room_of
  answer_step_agrees start ws x y v is same g f small = let room : ℕ = room_of start in let e : room_of start ≡ room_of start = (λ i. room_of start) in
      answers.steps exec start x (answerer_fed_at exec y.m.stage y v) (act (answer_next y.m) ws) (answer_keeps exec (IsAt room) room (keeps_room room) start (at_room room start is e) y.m.stage x y ws v (sym same) g f small)

  pub device_stays : DeviceStays exec is_state room_of
  device_stays start ws x y is same g = let room : ℕ = x.m.wiring.room in let h = g.1.2 in
      of_room room y.device (subst (IsAt room) (sym h.device) (state_kept exec (IsAt room) room (keeps_room room) start y.done (at_room room start is same) h.room))

pub histories_agree : HistoriesAgree
histories_agree exec start ws x y g = let h = g.1.2 in (first.histories (pose x.m) (turn y.m) x y g.0 h.fits, h.legal, h.device)
