-- The machines as cursors over their runs: what is left of the run at each stage.
use Rattle.std.specs.Prelude.{◌≡◌, ℕ, bit_or, ◌+◌, ◌-◌, ◌==◌, Bool, false, if◌then◌else◌, List, [], ◌∷◌, get_or, take, drop, Option, Some, None}
use Rattle.pcc_steps.specs.declared.wiring.Action.{Action}
use Rattle.pcc_steps.specs.declared.wiring.Action.TheVariants.{Load, Store, Swap, Execute}
use Rattle.pcc_steps.specs.declared.ask.AskStage.{AskStage}
use Rattle.pcc_steps.specs.declared.ask.AskStage.TheVariants.{AskRest, PostBlock, PostHeader, PostUpdateLoad, PostUpdateStore, PostMarkLoad, PostMarkStore, PostBellLoad, PostBellStore, PostLine, LookWord, LookError, LookBlock, LookLine, LookLineStore, LookAckLoad, LookAckStore}
use Rattle.pcc_steps.specs.declared.ask.AskOutcome.{AskOutcome}
use Rattle.pcc_steps.specs.declared.ask.AskOutcome.TheVariants.{Posted, Clear, Drained}
use Rattle.pcc_steps.specs.declared.answer.AnswerStage.{AnswerStage}
use Rattle.pcc_steps.specs.declared.answer.AnswerStage.TheVariants.{AnswerRest, TakeLine, TakeAckLoad, TakeAckStore, TakeHeader, TakeBlock, RunDevice, ReplyBlock, ReplyError, ReplyHeader, ReplyUpdateLoad, ReplyUpdateStore, ReplyMarkLoad, ReplyMarkStore, CloseBellLoad, CloseBellStore, CloseLine}
use Rattle.pcc_steps.specs.declared.answer.AnswerOutcome.{AnswerOutcome}
use Rattle.pcc_steps.specs.declared.answer.AnswerOutcome.TheVariants.{Idle, Served}
use Rattle.pcc_steps.specs.Wires.{style_of, block_of, masked_by, without, update_place}
use Rattle.pcc_steps.specs.Runs.{Run, ends, loads, stores, swaps, executes, store_changed, load_words, masked_write, PostStep, stores_block, stores_header, writes_update, clears_completion, writes_bell, raises_bell, post_steps, posting, AskEnd, posts, sees_clear, drains, LookStep, looks_at_completion, looks_at_error, looks_at_block, lowers_interrupt, look_steps, looking, acknowledging, AnswerStep, takes_bell, acknowledges_bell, takes_header, takes_block, executes_command, replies_space, replies_error, replies_status, replies_update, replies_completion, rings_bell, raises_interrupt, answer_steps, answering, AnswerEnd, finds_none, serves, Got}
use Rattle.pcc_steps.specs.Asking.{Ask}
use Rattle.pcc_steps.specs.Answering.{Answer}

-- ---- places in a table

abbrev pub post_number : PostStep → ℕ
post_number stores_block = 0
post_number stores_header = 1
post_number writes_update = 2
post_number clears_completion = 3
post_number writes_bell = 4
post_number raises_bell = 5

abbrev pub look_number : LookStep → ℕ
look_number looks_at_completion = 0
look_number looks_at_error = 1
look_number looks_at_block = 2
look_number lowers_interrupt = 3

abbrev pub answer_number : AnswerStep → ℕ
answer_number takes_bell = 0
answer_number acknowledges_bell = 1
answer_number takes_header = 2
answer_number takes_block = 3
answer_number executes_command = 4
answer_number replies_space = 5
answer_number replies_error = 6
answer_number replies_status = 7
answer_number replies_update = 8
answer_number replies_completion = 9
answer_number rings_bell = 10
answer_number raises_interrupt = 11

-- the steps of a table from the one of this number on, and those after it
abbrev pub from : {S : Type 0} → (S → ℕ) → ℕ → List S → List S
from number n [] = []
from number n (s ∷ ss) = if number s == n then s ∷ ss else from number n ss

abbrev pub behind : {S : Type 0} → (S → ℕ) → ℕ → List S → List S
behind number n ss = drop 1 (from number n ss)

-- ---- the asking machine

module _ (post : List PostStep) (look : List LookStep) where
  abbrev pub ask_left_by : AskStage → Ask → Run AskEnd
  ask_left_by AskRest a = ends posts
  ask_left_by (PostBlock j) a = stores (8 + j) (get_or a.sent j 0) (store_changed (8 + j + 1) (drop (j + 1) a.sent) (drop (j + 1) a.shown)
      (posting (behind post_number 0 post) a.wiring a.code a.sent a.shown))
  ask_left_by PostHeader a = posting (from post_number 1 post) a.wiring a.code a.sent a.shown
  ask_left_by PostUpdateLoad a = posting (from post_number 2 post) a.wiring a.code a.sent a.shown
  ask_left_by PostUpdateStore a = stores (update_place (style_of a.wiring)) (masked_by a.wiring.update a.kept)
      (posting (behind post_number 2 post) a.wiring a.code a.sent a.shown)
  ask_left_by PostMarkLoad a = posting (from post_number 3 post) a.wiring a.code a.sent a.shown
  ask_left_by PostMarkStore a = stores 0 (without a.wiring.check_mask a.kept) (posting (behind post_number 3 post) a.wiring a.code a.sent a.shown)
  ask_left_by PostBellLoad a = posting (from post_number 4 post) a.wiring a.code a.sent a.shown
  ask_left_by PostBellStore a = stores 1 (masked_by a.wiring.bell a.kept) (posting (behind post_number 4 post) a.wiring a.code a.sent a.shown)
  ask_left_by PostLine a = posting (from post_number 5 post) a.wiring a.code a.sent a.shown
  ask_left_by LookWord a = looking (from look_number 0 look) a.wiring (record { error = false; block = [] })
  ask_left_by LookError a = looking (from look_number 1 look) a.wiring (record { error = a.error; block = [] })
  ask_left_by (LookBlock j) a = load_words (8 + j) (block_of a.wiring - j) (take j a.loaded)
      (λ b. looking (behind look_number 2 look) a.wiring (record { error = a.error; block = b }))
  ask_left_by LookLine a = looking (from look_number 3 look) a.wiring (record { error = a.error; block = a.loaded })
  ask_left_by LookLineStore a = stores 4 0 (acknowledging a.wiring (looking (behind look_number 3 look) a.wiring
      (record { error = a.error; block = a.loaded })))
  ask_left_by LookAckLoad a = masked_write 5 a.wiring.ack (looking (behind look_number 3 look) a.wiring (record { error = a.error; block = a.loaded }))
  ask_left_by LookAckStore a = stores 5 (masked_by a.wiring.ack a.kept) (looking (behind look_number 3 look) a.wiring
      (record { error = a.error; block = a.loaded }))

-- what is left of the run under way
abbrev pub ask_left : Ask → Run AskEnd
ask_left a = ask_left_by (post_steps (style_of a.wiring)) (look_steps a.wiring) a.stage a

-- what is left after a step, by its outcome
abbrev pub ask_after : Option AskOutcome → Ask → Run AskEnd
ask_after None a = ask_left a
ask_after (Some Posted) a = ends posts
ask_after (Some Clear) a = ends sees_clear
ask_after (Some (Drained e)) a = ends (drains e a.shown)

-- a machine that takes this action goes on so after each value that it finds
abbrev pub Takes : {E : Type 0} → Run E → Action → (ℕ → Run E) → Type 0
Takes (ends e) x next = ⊥
Takes (loads p f) x next = (x ≡ Load p) × ((v : ℕ) → next v ≡ f v)
Takes (stores p u r) x next = (x ≡ Store p u) × ((v : ℕ) → next v ≡ r)
Takes (swaps p u f) x next = (x ≡ Swap p u) × ((v : ℕ) → next v ≡ f v)
Takes (executes code s f) x next = ⊥

-- ---- the answering machine

-- what the answering machine has found
abbrev pub got : Answer → Got
got a = record { header = a.header; block = a.loaded; bad = a.bad; reply = a.space }

module _ (steps : List AnswerStep) where
  abbrev pub answer_left_by : AnswerStage → Answer → Run AnswerEnd
  answer_left_by AnswerRest a = ends serves
  answer_left_by TakeLine a = answering (from answer_number 0 steps) a.wiring (got a)
  answer_left_by TakeAckLoad a = answering (from answer_number 1 steps) a.wiring (got a)
  answer_left_by TakeAckStore a = stores 5 (masked_by a.wiring.ack a.kept) (answering (behind answer_number 1 steps) a.wiring (got a))
  answer_left_by TakeHeader a = answering (from answer_number 2 steps) a.wiring (got a)
  answer_left_by (TakeBlock j) a = load_words (8 + j) (block_of a.wiring - j) (take j a.loaded)
      (λ b. answering (behind answer_number 3 steps) a.wiring (record (got a) { block = b }))
  answer_left_by RunDevice a = answering (from answer_number 4 steps) a.wiring (got a)
  answer_left_by (ReplyBlock j) a = stores (8 + j) (get_or a.out j 0) (store_changed (8 + j + 1) (drop (j + 1) a.out) (drop (j + 1) a.loaded)
      (answering (behind answer_number 5 steps) a.wiring (got a)))
  answer_left_by ReplyError a = answering (from answer_number 6 steps) a.wiring (got a)
  answer_left_by ReplyHeader a = answering (from answer_number 7 steps) a.wiring (got a)
  answer_left_by ReplyUpdateLoad a = answering (from answer_number 8 steps) a.wiring (got a)
  answer_left_by ReplyUpdateStore a = stores (update_place (style_of a.wiring)) (masked_by a.wiring.update a.kept)
      (answering (behind answer_number 8 steps) a.wiring (got a))
  answer_left_by ReplyMarkLoad a = answering (from answer_number 9 steps) a.wiring (got a)
  answer_left_by ReplyMarkStore a = stores 0 (bit_or a.kept a.wiring.check_mask) (answering (behind answer_number 9 steps) a.wiring (got a))
  answer_left_by CloseBellLoad a = answering (from answer_number 10 steps) a.wiring (got a)
  answer_left_by CloseBellStore a = stores 1 (masked_by a.wiring.bell a.kept) (answering (behind answer_number 10 steps) a.wiring (got a))
  answer_left_by CloseLine a = stores 4 1 (ends serves)

abbrev pub answer_left : Answer → Run AnswerEnd
answer_left a = answer_left_by (answer_steps a.wiring) a.stage a

abbrev pub answer_after : Option AnswerOutcome → Answer → Run AnswerEnd
answer_after None a = answer_left a
answer_after (Some Idle) a = ends finds_none
answer_after (Some Served) a = ends serves

-- the device is to run: it finds this code and this space, and the machine goes on with what it leaves
abbrev pub Gives : Run AnswerEnd → Action → List ℕ → (Bool → List ℕ → Run AnswerEnd) → Type 0
Gives (executes code s f) x space next = (x ≡ Execute code) × (space ≡ s) × ((bad : Bool) (reply : List ℕ) → next bad reply ≡ f bad reply)
Gives _ x space next = ⊥
