-- Word steps of a run, one after the other, and how many of them move words of the block before its last one.
use Rattle.std.specs.Prelude.{◌≡◌, ◌≢◌, ℕ, zero, suc, ◌+◌, ◌-◌, ◌^◌, ◌<◌, List, get_or, set, None}
use Rattle.pcc_steps.specs.declared.ask.AskStage.{AskStage}
use Rattle.pcc_steps.specs.declared.ask.AskStage.TheVariants.{PostBlock, LookBlock}
use Rattle.pcc_steps.specs.declared.answer.AnswerStage.{AnswerStage}
use Rattle.pcc_steps.specs.declared.answer.AnswerStage.TheVariants.{RunDevice, TakeBlock, ReplyBlock}
use Rattle.pcc_steps.specs.Changes.{changes_from}
use Rattle.pcc_steps.specs.Wires.{block_of}
use Rattle.pcc_steps.specs.Asking.{Ask, AskOk, IsAskRunning, ask_next, ask_fed, ask_told, rose}
use Rattle.pcc_steps.specs.Answering.{Answer, AnswerOk, IsAnswerStepping, answer_next, answer_fed, answer_told}
use Rattle.pcc_steps.specs.Agree.{act, found}

-- n word steps of the asking end on these words, none of which ends its run
abbrev pub AskMoves : ℕ → List ℕ → Ask → List ℕ → Ask → Type 0
AskMoves zero ws a ws' a' = (ws' ≡ ws) × (a' ≡ a)
AskMoves (suc n) ws a ws' a' = let v = found (ask_next a) ws in AskOk a × IsAskRunning a × (v < 2 ^ 64) × (ask_told a v ≡ None)
    × AskMoves n (act (ask_next a) ws) (ask_fed a v) ws' a'

-- n word steps of the answering end, none of which ends its run or loads the last word of a command
abbrev pub AnswerMoves : ℕ → List ℕ → Answer → List ℕ → Answer → Type 0
AnswerMoves zero ws b ws' b' = (ws' ≡ ws) × (b' ≡ b)
AnswerMoves (suc n) ws b ws' b' = let v = found (answer_next b) ws in AnswerOk b × IsAnswerStepping b × (v < 2 ^ 64) × (answer_told b v ≡ None)
    × AnswerOk (answer_fed b v) × ((answer_fed b v).stage ≢ RunDevice) × AnswerMoves n (act (answer_next b) ws) (answer_fed b v) ws' b'

-- ---- how many

-- the words that the asking end stores or loads before the last one
abbrev pub ask_moves : AskStage → Ask → ℕ
ask_moves (PostBlock j) a = changes_from (j + 1) a.sent a.shown
ask_moves (LookBlock j) a = block_of a.wiring - 1 - j
ask_moves _ a = 0

-- the words that the answering end loads or stores before the last one
abbrev pub answer_moves : AnswerStage → Answer → ℕ
answer_moves (TakeBlock j) b = block_of b.wiring - 1 - j
answer_moves (ReplyBlock j) b = changes_from (j + 1) b.out b.loaded
answer_moves _ b = 0

-- ---- what they leave

-- the block after n of its words were loaded, from the word j on
abbrev pub with_loaded : ℕ → ℕ → List ℕ → List ℕ → List ℕ
with_loaded zero j ws block = block
with_loaded (suc n) j ws block = with_loaded n (j + 1) ws (set block j (get_or ws (8 + j) 0))

-- the count of steps after n more
abbrev pub risen : ℕ → ℕ → ℕ
risen zero steps = steps
risen (suc n) steps = risen n (rose steps)
