-- What word steps and whole runs of the machines on a plain list of words keep, and what they leave.
use Rattle.std.specs.Prelude.{◌≡◌, ◌≢◌, ℕ, ◌+◌, ◌^◌, ◌<◌, Bool, true, false, List, [], length, get_or, Option, Some, None}
use Rattle.pcc_history.specs.Devices.{Device}
use Rattle.pcc_history.specs.Channel.{Exchange}
use Rattle.pcc_steps.specs.declared.ask.AskStage.TheVariants.{AskRest}
use Rattle.pcc_steps.specs.declared.ask.AskOutcome.{AskOutcome}
use Rattle.pcc_steps.specs.declared.ask.AskOutcome.TheVariants.{Posted, Clear, Drained}
use Rattle.pcc_steps.specs.declared.answer.AnswerStage.{AnswerStage}
use Rattle.pcc_steps.specs.declared.answer.AnswerStage.TheVariants.{CloseBellLoad, CloseBellStore, CloseLine}
use Rattle.pcc_steps.specs.declared.answer.AnswerOutcome.{AnswerOutcome}
use Rattle.pcc_steps.specs.declared.answer.AnswerOutcome.TheVariants.{Idle, Served}
use Rattle.pcc_steps.specs.Asking.{Ask, AskOk, ask_next, ask_fed, ask_told}
use Rattle.pcc_steps.specs.Answering.{Answer, AnswerOk, answer_next, answer_fed, answer_told}
use Rattle.pcc_steps.specs.Carrying.{looks_after, flies_after}
use Rattle.pcc_steps.specs.Moves.{AskMoves, AnswerMoves}
use Rattle.pcc_steps.specs.Agree.{act, found, Asker, Answerer, Agree, clears_after, done_after, settle}

-- ---- the asking end

-- one word step, and its outcome
pub record AskStep (ws : List ℕ) (a : Ask) (ws' : List ℕ) (b : Ask) (told : Option AskOutcome) : Type 0 where
  pub right : AskOk a
  pub small : found (ask_next a) ws < 2 ^ 64
  pub words : ws' ≡ act (ask_next a) ws
  pub machine : b ≡ ask_fed a (found (ask_next a) ws)
  pub told_is : told ≡ ask_told a (found (ask_next a) ws)

-- words of the block but the last one at once, and then one word step
pub record AskStride (ws : List ℕ) (a : Ask) (ws' : List ℕ) (b : Ask) (told : Option AskOutcome) : Type 0 where
  pub count : ℕ
  pub words : List ℕ
  pub ask : Ask
  pub moves : AskMoves count ws a words ask
  pub step : AskStep words ask ws' b told

-- a run that looks is for a command in flight
abbrev pub IsFor : Option AskOutcome → Bool → Type 0
IsFor None f = Unit {0}
IsFor (Some Posted) f = f ≡ false
IsFor (Some Clear) f = f ≡ true
IsFor (Some (Drained e)) f = f ≡ true

-- the space that is shown stays until a reply is drained
abbrev pub KeepsSpace : Option AskOutcome → List ℕ → List ℕ → Type 0
KeepsSpace (Some (Drained e)) old new = Unit {0}
KeepsSpace None old new = new ≡ old
KeepsSpace (Some Posted) old new = new ≡ old
KeepsSpace (Some Clear) old new = new ≡ old

abbrev pub Stops : Option AskOutcome → Ask → Type 0
Stops None a = a.stage ≢ AskRest
Stops (Some o) a = a.stage ≡ AskRest

-- some word steps of a run, and the outcome of the last one
pub record AskSteps (ws : List ℕ) (a : Ask) (ws' : List ℕ) (b : Ask) (told : Option AskOutcome) : Type 0 where
  -- whatever the other end did, the relation is kept
  pub keeps : (exec : Device) (start : List ℕ) (x : Asker) (y : Answerer) → x.m ≡ a → Agree exec start ws x y
      → Agree exec start ws' (record x { m = b; done = done_after told x.done b; clears = clears_after told x.clears }) y
  pub long : length ws' ≡ length ws
  pub wiring : b.wiring ≡ a.wiring
  pub code : b.code ≡ a.code
  pub input : b.input ≡ a.input
  pub budget : b.budget ≡ a.budget
  pub looks : b.looks ≡ looks_after told a.looks
  pub flies : b.in_flight ≡ flies_after told a.in_flight
  pub space : KeepsSpace told a.space b.space
  pub stops : Stops told b
  pub is_for : IsFor told a.in_flight

-- the word steps of a look at most, for a block of so many words
abbrev pub look_most : ℕ → AskOutcome → ℕ
look_most block Clear = 1
look_most block Posted = block + 6
look_most block (Drained e) = block + 6

-- ---- the answering end

module _ (exec : Device) where
  -- one word step, and its outcome; a command that is loaded by it is executed
  pub record AnswerStep (ws : List ℕ) (b : Answer) (d : List ℕ) (ws' : List ℕ) (b' : Answer) (d' : List ℕ) (told : Option AnswerOutcome) : Type 0 where
    pub right : AnswerOk b
    pub fed : AnswerOk (answer_fed b (found (answer_next b) ws))
    pub small : found (answer_next b) ws < 2 ^ 64
    pub words : ws' ≡ act (answer_next b) ws
    pub machine : b' ≡ (settle exec (record { m = answer_fed b (found (answer_next b) ws); device = d; done = [] })).m
    pub device : d' ≡ (settle exec (record { m = answer_fed b (found (answer_next b) ws); device = d; done = [] })).device
    pub told_is : told ≡ answer_told b (found (answer_next b) ws)

  -- words of the block but the last one at once, and then one word step
  pub record AnswerStride (ws : List ℕ) (b : Answer) (d : List ℕ) (ws' : List ℕ) (b' : Answer) (d' : List ℕ) (told : Option AnswerOutcome) : Type 0 where
    pub count : ℕ
    pub words : List ℕ
    pub answer : Answer
    pub moves : AnswerMoves count ws b words answer
    pub step : AnswerStep words answer d ws' b' d' told

-- a run that is closing has executed a command, which is not drained
abbrev pub HasExecuted : AnswerStage → ℕ → ℕ → Type 0
HasExecuted CloseBellLoad hp ha = hp ≡ ha + 1
HasExecuted CloseBellStore hp ha = hp ≡ ha + 1
HasExecuted CloseLine hp ha = hp ≡ ha + 1
HasExecuted _ hp ha = Unit {0}

-- the history of the answering end, by the outcome
abbrev pub HistoryIs : Option AnswerOutcome → AnswerStage → List Exchange → List Exchange → List Exchange → Type 0
HistoryIs None stage ha before now = HasExecuted stage (length now) (length ha)
HistoryIs (Some Idle) stage ha before now = now ≡ before
HistoryIs (Some Served) stage ha before now = length now ≡ length ha + 1

module _ (exec : Device) (is_state : List ℕ → Type 0) (room_of : List ℕ → ℕ) where
  -- whatever the other end did, the relation is kept
  abbrev pub AnswerKeeps : List ℕ → Answer → List ℕ → List ℕ → Answer → List ℕ → Option AnswerOutcome → Type 0
  AnswerKeeps ws b d ws' b' d' told = (start : List ℕ) (x : Asker) (done : List Exchange) → is_state start → room_of start ≡ x.m.wiring.room
      → Agree exec start ws x (record { m = b; device = d; done = done }) → HasExecuted b.stage (length done) (length x.done)
      → (now : List Exchange) × Agree exec start ws' x (record { m = b'; device = d'; done = now }) × HistoryIs told b'.stage x.done done now

-- the line that the run takes was down, or up
abbrev pub LineWas : AnswerOutcome → List ℕ → Type 0
LineWas Idle ws = get_or ws 2 0 ≡ 0
LineWas Served ws = get_or ws 2 0 ≢ 0
