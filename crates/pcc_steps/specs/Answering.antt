-- The answering machine as data, and what one word step makes of it.
use Rattle.std.specs.Prelude.{◌≡◌, ◌≢◌, ℕ, ◌+◌, ◌^◌, ◌<◌, ◌≤◌, Bool, true, false, eqb, ltb, List, ◌++◌, length, get_or, set, take, drop, bit_or, Option, Some, None}
use Rattle.pcc_exec.specs.declared.executor.ExecStatus.{ExecStatus}
use Rattle.pcc_steps.specs.declared.wiring.Wiring.{Wiring}
use Rattle.pcc_steps.specs.declared.wiring.Style.{Style}
use Rattle.pcc_steps.specs.declared.wiring.Style.TheVariants.{Headed, Joined4, Separate4}
use Rattle.pcc_steps.specs.declared.wiring.Action.{Action}
use Rattle.pcc_steps.specs.declared.wiring.Action.TheVariants.{Load, Store, Swap, Execute, Rest}
use Rattle.pcc_steps.specs.declared.answer.AnswerStage.{AnswerStage}
use Rattle.pcc_steps.specs.declared.answer.AnswerStage.TheVariants.{AnswerRest, TakeLine, TakeAckLoad, TakeAckStore, TakeHeader, TakeBlock, RunDevice, ReplyBlock, ReplyError, ReplyHeader, ReplyUpdateLoad, ReplyUpdateStore, ReplyMarkLoad, ReplyMarkStore, CloseBellLoad, CloseBellStore, CloseLine}
use Rattle.pcc_steps.specs.declared.answer.AnswerOutcome.{AnswerOutcome}
use Rattle.pcc_steps.specs.declared.answer.AnswerOutcome.TheVariants.{Idle, Served}
use Rattle.pcc_exec.specs.Execution.{is_bad}
use Rattle.shmem_header.specs.HeaderBits.{with_status}
use Rattle.shmem_header.specs.Spelling.{words_of, bytes_of}
use Rattle.pcc_steps.specs.Wires.{style_of, heads_of, block_of, IsRight, status_of, tells_error, code_by, asks_by, four_by, masked_by, update_place}
use Rattle.pcc_steps.specs.Runs.{error_word}
use Rattle.pcc_steps.specs.Changes.{next_changed}
use Rattle.pcc_steps.specs.Asking.{has_more, rose}

pub record Answer : Type 0 where
  pub wiring : Wiring
  -- the next step
  pub stage : AnswerStage
  -- the register word that was loaded last
  pub kept : ℕ
  -- the header of the command (types 0 to 2)
  pub header : ℕ
  pub bad : Bool
  -- the words of the block: those that were loaded, and those that are stored
  pub loaded : List ℕ
  pub out : List ℕ
  -- the bytes of the space, for the device
  pub space : List ℕ
  pub steps : ℕ

abbrev pub answer_code : Answer → ℕ
answer_code a = code_by (style_of a.wiring) a.header a.loaded

-- ---- the next word step

abbrev pub answer_next_at : AnswerStage → Answer → Action
answer_next_at AnswerRest a = Rest
answer_next_at TakeLine a = Swap 2 0
answer_next_at TakeAckLoad a = Load 5
answer_next_at TakeAckStore a = Store 5 (masked_by a.wiring.ack a.kept)
answer_next_at TakeHeader a = Load 0
answer_next_at (TakeBlock j) a = Load (8 + j)
answer_next_at RunDevice a = Execute (answer_code a)
answer_next_at (ReplyBlock j) a = Store (8 + j) (get_or a.out j 0)
answer_next_at ReplyError a = Store 3 (error_word a.wiring a.bad)
answer_next_at ReplyHeader a = Store 0 (with_status a.header (status_of a.bad))
answer_next_at ReplyUpdateLoad a = Load (update_place (style_of a.wiring))
answer_next_at ReplyUpdateStore a = Store (update_place (style_of a.wiring)) (masked_by a.wiring.update a.kept)
answer_next_at ReplyMarkLoad a = Load 0
answer_next_at ReplyMarkStore a = Store 0 (bit_or a.kept a.wiring.check_mask)
answer_next_at CloseBellLoad a = Load 1
answer_next_at CloseBellStore a = Store 1 (masked_by a.wiring.bell a.kept)
answer_next_at CloseLine a = Store 4 1

abbrev pub answer_next : Answer → Action
answer_next a = answer_next_at a.stage a

-- the device is to run
abbrev pub IsExecute : Action → Type 0
IsExecute (Execute code) = Unit {0}
IsExecute (Load p) = ⊥
IsExecute (Store p v) = ⊥
IsExecute (Swap p v) = ⊥
IsExecute Rest = ⊥

-- ---- the stage after a step

abbrev pub after_ack : Style → AnswerStage
after_ack Headed = TakeHeader
after_ack _ = TakeBlock 0

-- is the doorbell acknowledged?
abbrev pub after_take : Bool → Style → AnswerStage
after_take true s = TakeAckLoad
after_take false s = after_ack s

abbrev pub after_error : Style → AnswerStage
after_error Headed = ReplyHeader
after_error Joined4 = ReplyUpdateLoad
after_error Separate4 = ReplyUpdateLoad
after_error _ = ReplyMarkLoad

-- does a register report errors?
abbrev pub after_reply : Bool → Style → AnswerStage
after_reply true s = ReplyError
after_reply false s = after_error s

-- has a word of the space changed, at the place n?
abbrev pub reply_on : Bool → ℕ → Wiring → AnswerStage
reply_on true n w = ReplyBlock n
reply_on false n w = after_reply (tells_error w) (style_of w)

-- the next word of the block that is stored, from the place j on, is the first that differs from the one that was loaded
abbrev pub reply_stage : ℕ → Wiring → List ℕ → List ℕ → AnswerStage
reply_stage j w out loaded = let n : ℕ = next_changed j out loaded in reply_on (ltb n (length out)) n w

-- was a notification asked for?
abbrev pub after_close : Bool → AnswerStage
after_close true = CloseLine
after_close false = AnswerRest

-- is a doorbell rung?
abbrev pub after_done : Bool → Bool → AnswerStage
after_done true asks = CloseBellLoad
after_done false asks = after_close asks

abbrev pub asks_notify : Answer → Bool
asks_notify a = asks_by (style_of a.wiring) a.header a.loaded

-- the command is complete
abbrev pub done_stage : Answer → AnswerStage
done_stage a = after_done (four_by (style_of a.wiring) a.wiring.has_bell) (asks_notify a)

-- the update register was written: completion is set besides, where that is another register
abbrev pub update_stage : Style → AnswerStage → AnswerStage
update_stage Separate4 after = ReplyMarkLoad
update_stage _ after = after

abbrev pub after_update : Style → Answer → AnswerStage
after_update s a = update_stage s (done_stage a)

-- ---- what a step leaves

-- the doorbell line was taken: was it down?
abbrev pub take_on : Bool → Answer → Answer
take_on true a = record a { stage = AnswerRest }
take_on false a = record a { stage = after_take (four_by (style_of a.wiring) a.wiring.has_ack) (style_of a.wiring) }

-- a word of the block was loaded: are there more?
abbrev pub load_on : Bool → ℕ → ℕ → Answer → Answer
load_on true j v a = record a { stage = TakeBlock (j + 1); loaded = set a.loaded j v }
load_on false j v a = record a { stage = RunDevice; loaded = set a.loaded j v; space = bytes_of (drop (heads_of (style_of a.wiring)) (set a.loaded j v)) }

abbrev pub answer_fed_at : AnswerStage → Answer → ℕ → Answer
answer_fed_at AnswerRest a v = a
answer_fed_at TakeLine a v = take_on (eqb v 0) a
answer_fed_at TakeAckLoad a v = record a { stage = TakeAckStore; kept = v }
answer_fed_at TakeAckStore a v = record a { stage = after_ack (style_of a.wiring) }
answer_fed_at TakeHeader a v = record a { stage = TakeBlock 0; header = v }
answer_fed_at (TakeBlock j) a v = load_on (has_more j a.wiring) j v a
answer_fed_at RunDevice a v = a
answer_fed_at (ReplyBlock j) a v = record a { stage = reply_stage (j + 1) a.wiring a.out a.loaded }
answer_fed_at ReplyError a v = record a { stage = after_error (style_of a.wiring) }
answer_fed_at ReplyHeader a v = record a { stage = done_stage a }
answer_fed_at ReplyUpdateLoad a v = record a { stage = ReplyUpdateStore; kept = v }
answer_fed_at ReplyUpdateStore a v = record a { stage = after_update (style_of a.wiring) a }
answer_fed_at ReplyMarkLoad a v = record a { stage = ReplyMarkStore; kept = v }
answer_fed_at ReplyMarkStore a v = record a { stage = done_stage a }
answer_fed_at CloseBellLoad a v = record a { stage = CloseBellStore; kept = v }
answer_fed_at CloseBellStore a v = record a { stage = after_close (asks_notify a) }
answer_fed_at CloseLine a v = record a { stage = AnswerRest }

abbrev pub answer_stepped : Answer → Answer
answer_stepped a = record a { steps = rose a.steps }

abbrev pub answer_fed : Answer → ℕ → Answer
answer_fed a v = answer_stepped (answer_fed_at a.stage a v)

-- ---- the outcome of a step

abbrev pub take_told : Bool → Option AnswerOutcome
take_told true = Some Idle
take_told false = None

-- the command is served where the run is over
abbrev pub served_at : AnswerStage → Option AnswerOutcome
served_at AnswerRest = Some Served
served_at _ = None

abbrev pub answer_told_at : AnswerStage → Answer → ℕ → Option AnswerOutcome
answer_told_at TakeLine a v = take_told (eqb v 0)
answer_told_at ReplyHeader a v = served_at (done_stage a)
answer_told_at ReplyUpdateStore a v = served_at (after_update (style_of a.wiring) a)
answer_told_at ReplyMarkStore a v = served_at (done_stage a)
answer_told_at CloseBellStore a v = served_at (after_close (asks_notify a))
answer_told_at CloseLine a v = Some Served
answer_told_at _ a v = None

abbrev pub answer_told : Answer → ℕ → Option AnswerOutcome
answer_told a v = answer_told_at a.stage a v

-- ---- what begins a run, and the device's turn

abbrev pub answer_begun : Answer → Answer
answer_begun a = record a { stage = TakeLine; header = 0 }

-- the device left its reply in the space
abbrev pub ran_with : Answer → Bool → Answer
ran_with a bad = let heads : ℕ = heads_of (style_of a.wiring) in let out : List ℕ = take heads a.loaded ++ words_of a.space in record a {
  stage = reply_stage heads a.wiring out a.loaded;
  bad = bad;
  out = out;
}

abbrev pub answer_ran : Answer → ExecStatus → Answer
answer_ran a status = ran_with a (is_bad status)

abbrev pub IsNewAnswer : Answer → Wiring → Type 0
IsNewAnswer a w = (a.wiring ≡ w) × (a.stage ≡ AnswerRest) × (a.steps ≡ 0)

-- ---- what holds between two calls

-- the styles with an update register that the answering side writes, and those whose completion bits it sets by itself
abbrev pub AnswerUpdates : Style → Type 0
AnswerUpdates Joined4 = Unit {0}
AnswerUpdates Separate4 = Unit {0}
AnswerUpdates _ = ⊥

abbrev pub AnswerSets : Style → Type 0
AnswerSets Headed = ⊥
AnswerSets Joined4 = ⊥
AnswerSets _ = Unit {0}

-- what makes this step the next one
abbrev pub AnswerPlace : AnswerStage → Wiring → Type 0
AnswerPlace TakeAckLoad w = four_by (style_of w) w.has_ack ≡ true
AnswerPlace TakeAckStore w = four_by (style_of w) w.has_ack ≡ true
AnswerPlace TakeHeader w = style_of w ≡ Headed
AnswerPlace (TakeBlock j) w = j < block_of w
AnswerPlace (ReplyBlock j) w = (heads_of (style_of w) ≤ j) × (j < block_of w)
AnswerPlace ReplyError w = tells_error w ≡ true
AnswerPlace ReplyHeader w = style_of w ≡ Headed
AnswerPlace ReplyUpdateLoad w = AnswerUpdates (style_of w)
AnswerPlace ReplyUpdateStore w = AnswerUpdates (style_of w)
AnswerPlace ReplyMarkLoad w = AnswerSets (style_of w)
AnswerPlace ReplyMarkStore w = AnswerSets (style_of w)
AnswerPlace CloseBellLoad w = four_by (style_of w) w.has_bell ≡ true
AnswerPlace CloseBellStore w = four_by (style_of w) w.has_bell ≡ true
AnswerPlace _ w = Unit {0}

pub record AnswerSized (w : Wiring) (l o b : List ℕ) : Type 0 where
  pub loaded : length l ≡ block_of w
  pub out : length o ≡ block_of w
  pub space : length b ≡ w.room

pub record AnswerOk (a : Answer) : Type 0 where
  pub wired : IsRight a.wiring
  pub sized : AnswerSized a.wiring a.loaded a.out a.space
  pub place : AnswerPlace a.stage a.wiring
  pub kept : a.kept < 2 ^ 64
  pub header : a.header < 2 ^ 64

abbrev pub IsAnswerStepping : Answer → Type 0
IsAnswerStepping a = (a.stage ≢ AnswerRest) × (a.stage ≢ RunDevice)

-- a step that takes the command
abbrev pub IsTaking : AnswerStage → Type 0
IsTaking TakeLine = Unit {0}
IsTaking TakeAckLoad = Unit {0}
IsTaking TakeAckStore = Unit {0}
IsTaking TakeHeader = Unit {0}
IsTaking (TakeBlock j) = Unit {0}
IsTaking _ = ⊥

-- a step that stores the reply
abbrev pub IsReplying : AnswerStage → Type 0
IsReplying (ReplyBlock j) = Unit {0}
IsReplying ReplyError = Unit {0}
IsReplying _ = ⊥

-- a step that completes the command, or closes the run
abbrev pub IsCompleting : AnswerStage → Type 0
IsCompleting ReplyHeader = Unit {0}
IsCompleting ReplyUpdateLoad = Unit {0}
IsCompleting ReplyUpdateStore = Unit {0}
IsCompleting ReplyMarkLoad = Unit {0}
IsCompleting ReplyMarkStore = Unit {0}
IsCompleting CloseBellLoad = Unit {0}
IsCompleting CloseBellStore = Unit {0}
IsCompleting CloseLine = Unit {0}
IsCompleting _ = ⊥
