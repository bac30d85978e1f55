-- What the word steps of both ends keep, from any state that has the relation.
use Rattle.std.specs.Prelude.{◌≢◌, ◌≡◌, ◌↔◌, ◌⊎◌, ℕ, ◌+◌, ◌-◌, ◌*◌, ◌≤◌, ◌<◌, ◌^◌, Bool, true, false, not, List, [], ◌∷◌, ◌++◌, length, drop, None}
use Rattle.pcc_bytes.specs.Bytes.{IsBytes}
use Rattle.pcc_history.specs.Devices.{Device}
use Rattle.pcc_history.specs.Channel.{Exchange, over, exchange_of}
use Rattle.pcc_history.specs.Histories.{Legal, state_after}
use Rattle.shmem_header.specs.Spelling.{words_of, bytes_of}
use Rattle.pcc_steps.specs.declared.wiring.Wiring.{Wiring}
use Rattle.pcc_steps.specs.declared.ask.AskStage.TheVariants.{AskRest}
use Rattle.pcc_steps.specs.declared.answer.AnswerStage.TheVariants.{AnswerRest, RunDevice}
use Rattle.pcc_steps.specs.declared.wiring.Style.TheVariants.{Headed}
use Rattle.pcc_steps.specs.Kinds.{IsHeaded}
use Rattle.pcc_steps.specs.Wires.{style_of, heads_of, block_of, block_header, opening_words}
use Rattle.pcc_steps.specs.Asking.{Ask, AskOk, IsNewAsk, IsAskRunning, ask_next, ask_fed, ask_told, ask_begun, ask_looking, ask_budgeted, rose}
use Rattle.pcc_steps.specs.Answering.{Answer, AnswerOk, IsNewAnswer, IsAnswerStepping, answer_next, answer_fed, answer_told, answer_begun, answer_code, ran_with}
use Rattle.pcc_steps.specs.Runs.{Within, post_run, look_run, answer_run}
use Rattle.pcc_steps.specs.Walk.{ask_left, ask_after, answer_left, answer_after, Takes, Gives}
use Rattle.pcc_steps.specs.Agree.{act, Finds, Asker, Answerer, new_asker, asker_fed, asker_begun, answerer_fed, is_pending, Agree}

-- two new machines, over the opening content
abbrev pub StartsAgreed : Type 0
StartsAgreed = (exec : Device) (start : List ℕ) (w : Wiring) (opening : List ℕ) (a : Ask) (b : Answer) → IsNewAsk a w opening
    → IsNewAnswer b w → AskOk a → AnswerOk b → IsBytes opening
    → Agree exec start (opening_words w (words_of opening)) (new_asker a opening) (record { m = b; device = start; done = [] })

-- a word step of the asking end, whatever it finds in its word
abbrev pub AskStepAgrees : Type 0
AskStepAgrees = (exec : Device) (start ws : List ℕ) (x : Asker) (y : Answerer) (v : ℕ) → Agree exec start ws x y → Finds (ask_next x.m) ws v
    → v < 2 ^ 64 → Agree exec start (act (ask_next x.m) ws) (asker_fed x v) y

-- a post is begun
abbrev pub PostBeginAgrees : Type 0
PostBeginAgrees = (exec : Device) (start ws : List ℕ) (x : Asker) (y : Answerer) (code : ℕ) (bytes : List ℕ) → x.m.stage ≡ AskRest
    → x.m.in_flight ≡ false → length bytes ≤ x.m.wiring.room → x.m.posts < 4096 → (IsHeaded x.m.wiring.kind → code < 256) → code < 2 ^ 32 → IsBytes bytes
    → Agree exec start ws x y → Agree exec start ws (asker_begun x code bytes) y

-- a look is begun
abbrev pub LookBeginAgrees : Type 0
LookBeginAgrees = (exec : Device) (start ws : List ℕ) (x : Asker) (y : Answerer) → x.m.stage ≡ AskRest → x.m.in_flight ≡ true → x.m.looks < x.m.budget
    → Agree exec start ws x y → Agree exec start ws (record x { m = ask_looking x.m }) y

-- a budget is set
abbrev pub BudgetAgrees : Type 0
BudgetAgrees = (exec : Device) (start ws : List ℕ) (x : Asker) (y : Answerer) (polls : ℕ) → x.m.stage ≡ AskRest → Agree exec start ws x y
    → Agree exec start ws (record x { m = ask_budgeted x.m polls }) y

-- an answering run is begun
abbrev pub AnswerBeginAgrees : Type 0
AnswerBeginAgrees = (exec : Device) (start ws : List ℕ) (x : Asker) (y : Answerer) → y.m.stage ≡ AnswerRest → Agree exec start ws x y
    → Agree exec start ws x (record y { m = answer_begun y.m })

-- a word step of the answering end, whatever it finds in its word; the step that loads the last word of the block executes too
abbrev pub AnswerStepAgrees : Device → (List ℕ → Type 0) → (List ℕ → ℕ) → Type 0
AnswerStepAgrees exec is_state room_of = (start ws : List ℕ) (x : Asker) (y : Answerer) (v : ℕ) → is_state start → room_of start ≡ x.m.wiring.room
    → Agree exec start ws x y → Finds (answer_next y.m) ws v → v < 2 ^ 64 → Agree exec start (act (answer_next y.m) ws) x (answerer_fed exec y v)

-- the device stays in a state that it can be in, for the same room
abbrev pub DeviceStays : Device → (List ℕ → Type 0) → (List ℕ → ℕ) → Type 0
DeviceStays exec is_state room_of = (start ws : List ℕ) (x : Asker) (y : Answerer) → is_state start → room_of start ≡ x.m.wiring.room
    → Agree exec start ws x y → is_state y.device × (room_of y.device ≡ x.m.wiring.room)

-- the asking end's history is the answering end's, or all of it but the last exchange; the answering end's is legal
abbrev pub HistoriesAgree : Type 0
HistoriesAgree = (exec : Device) (start ws : List ℕ) (x : Asker) (y : Answerer) → Agree exec start ws x y →
    ((y.done ≡ x.done) ⊎ ((e : Exchange) × (y.done ≡ x.done ++ e ∷ []))) × Legal exec x.m.wiring.reports start y.done ×
    (y.device ≡ state_after exec start y.done)

-- ---- what the relation refuses of the command that is pending

-- header words of another identity (types 3 to 5)
abbrev pub RefusesIdentity : Type 0
RefusesIdentity = (exec : Device) (start ws : List ℕ) (x : Asker) (y : Answerer) (id code asked : ℕ) (rest : List ℕ)
    → Agree exec start ws x y → is_pending x.m ≡ true → style_of x.m.wiring ≢ Headed → id < 256 → id ≢ x.m.wiring.id
    → x.m.sent ≢ block_header (style_of x.m.wiring) (record x.m.wiring { id = id }) code asked ++ rest

-- header words of another notify flag (types 3 and 4)
abbrev pub RefusesFlag : Type 0
RefusesFlag = (exec : Device) (start ws : List ℕ) (x : Asker) (y : Answerer) (code asked : ℕ) (rest : List ℕ)
    → Agree exec start ws x y → is_pending x.m ≡ true → heads_of (style_of x.m.wiring) ≡ 2
    → x.m.sent ≢ block_header (style_of x.m.wiring) (record x.m.wiring { notify = not x.m.wiring.notify }) code asked ++ rest

-- header words of another length than that of the bytes that were asked last (types 3 and 4)
abbrev pub RefusesLength : Type 0
RefusesLength = (exec : Device) (start ws : List ℕ) (x : Asker) (y : Answerer) (before : List (List ℕ)) (bytes : List ℕ) (code asked : ℕ) (rest : List ℕ)
    → Agree exec start ws x y → is_pending x.m ≡ true → heads_of (style_of x.m.wiring) ≡ 2
    → x.asked ≡ before ++ bytes ∷ [] → asked ≤ 4096 → asked ≢ length bytes
    → x.m.sent ≢ block_header (style_of x.m.wiring) x.m.wiring code asked ++ rest

-- an input that isn't the space that came back last with the bytes that were asked last over its front
abbrev pub RefusesInput : Type 0
RefusesInput = (exec : Device) (start ws : List ℕ) (x : Asker) (y : Answerer) (before : List (List ℕ)) (bytes : List ℕ)
    → Agree exec start ws x y → is_pending x.m ≡ true → x.asked ≡ before ++ bytes ∷ [] → x.m.input ≢ over x.m.space bytes → ⊥

-- ---- and of what is shown

-- another space than the last output
abbrev pub RefusesSpace : Type 0
RefusesSpace = (exec : Device) (start ws : List ℕ) (x : Asker) (y : Answerer) (history : List Exchange) (last : Exchange)
    → Agree exec start ws x y → x.done ≡ history ++ last ∷ [] → x.m.space ≢ last.output → ⊥

-- at first, another space than that of the opening
abbrev pub RefusesOpening : Type 0
RefusesOpening = (exec : Device) (start ws : List ℕ) (x : Asker) (y : Answerer) → Agree exec start ws x y → x.done ≡ [] → x.m.space ≢ x.opening → ⊥

-- ---- the device's turn

-- where the step loaded the last word of the block, the answering end goes on with what the device leaves
abbrev pub DeviceTurns : Type 0
DeviceTurns = (exec : Device) (y : Answerer) (v : ℕ) → let a : Answer = answer_fed y.m v in a.stage ≡ RunDevice → let e = exec y.device
    (answer_code a) a.space in
    answerer_fed exec y v ≡ record {
      m = ran_with (record a { space = e.space }) e.bad;
      device = e.state;
      done = y.done
          ++ exchange_of exec a.wiring.reports y.device (answer_code a) a.space ∷ [];
    }

-- else the device does nothing
abbrev pub DeviceRests : Type 0
DeviceRests = (exec : Device) (y : Answerer) (v : ℕ) → (answer_fed y.m v).stage ≢ RunDevice → answerer_fed exec y v ≡ record y { m = answer_fed y.m v }

-- ---- the machines and their tables

-- a run that posts begins as its table does, with the header words and the space with the bytes laid over its front, and with the block as it was
-- last loaded
abbrev pub PostsByTable : Type 0
PostsByTable = (a : Ask) (code : ℕ) (bytes : List ℕ) → ask_left (ask_begun a code bytes) ≡ post_run a.wiring code
    (block_header (style_of a.wiring) a.wiring code (length bytes) ++ words_of (over a.space bytes)) a.shown

-- a look begins as its table does
abbrev pub LooksByTable : Type 0
LooksByTable = (a : Ask) → ask_left (ask_looking a) ≡ look_run a.wiring

-- each step of the asking machine is the next one of its run; a run ends exactly when a step has an outcome
abbrev pub AsksByTable : Type 0
AsksByTable = (a : Ask) → AskOk a → IsAskRunning a → Takes (ask_left a) (ask_next a) (λ v. ask_after (ask_told a v) (ask_fed a v))

-- an answering run begins as its table does
abbrev pub AnswersByTable : Type 0
AnswersByTable = (a : Answer) → answer_left (answer_begun a) ≡ answer_run a.wiring

-- each step of the answering machine is the next one of its run
abbrev pub AnswerStepsByTable : Type 0
AnswerStepsByTable = (a : Answer) → AnswerOk a → IsAnswerStepping a → Takes (answer_left a) (answer_next a)
    (λ v. answer_after (answer_told a v) (answer_fed a v))

-- where the device is to run, it finds the space that was loaded, and the run goes on with what it leaves
abbrev pub ExecutesByTable : Type 0
ExecutesByTable = (a : Answer) → AnswerOk a → a.stage ≡ RunDevice → Gives (answer_left a) (answer_next a)
    (bytes_of (drop (heads_of (style_of a.wiring)) a.loaded)) (λ bad reply. answer_left (ran_with (record a { space = reply }) bad))

-- ---- where runs end

-- a step of a run has an outcome exactly when it leaves the machine at rest
abbrev pub AskTellsEnds : Type 0
AskTellsEnds = (a : Ask) (v : ℕ) → AskOk a → IsAskRunning a → (ask_told a v ≡ None) ↔ IsAskRunning (ask_fed a v)

abbrev pub AnswerTellsEnds : Type 0
AnswerTellsEnds = (a : Answer) (v : ℕ) → AnswerOk a → IsAnswerStepping a → (answer_told a v ≡ None) ↔ ((answer_fed a v).stage ≢ AnswerRest)

-- ---- how long runs are

-- each step is counted, until the count has its greatest value
abbrev pub AskStepsCount : Type 0
AskStepsCount = (a : Ask) (v : ℕ) → (ask_fed a v).steps ≡ rose a.steps

abbrev pub AnswerStepsCount : Type 0
AnswerStepsCount = (a : Answer) (v : ℕ) → (answer_fed a v).steps ≡ rose a.steps

-- below 2^64 - 1 the count rises by one, then it stays
abbrev pub CountRises : Type 0
CountRises = (n : ℕ) → (n < 2 ^ 64 - 1 → rose n ≡ n + 1) × (2 ^ 64 - 1 ≤ n → rose n ≡ n)

abbrev pub PostsWithin : Type 0
PostsWithin = (w : Wiring) (code : ℕ) (block old : List ℕ) → length block ≡ block_of w → Within (block_of w + 7) (post_run w code block old)

abbrev pub LooksWithin : Type 0
LooksWithin = (w : Wiring) → Within (block_of w + 6) (look_run w)

abbrev pub AnswersWithin : Type 0
AnswersWithin = (w : Wiring) → Within (2 * block_of w + 11) (answer_run w)

-- so many steps of one run of the asking machine, which found these values
abbrev pub IsAskRun : Ask → List ℕ → Type 0
IsAskRun a [] = Unit {0}
IsAskRun a (v ∷ vs) = AskOk a × IsAskRunning a × IsAskRun (ask_fed a v) vs

-- the machine after these steps
abbrev pub ask_ran : Ask → List ℕ → Ask
ask_ran a [] = a
ask_ran a (v ∷ vs) = ask_ran (ask_fed a v) vs

-- what happens to the answering machine: a word step finds a value, or the device leaves a reply
pub data Event : Type 0 where
  finds : ℕ → Event
  replies : Bool → List ℕ → Event

abbrev pub IsAnswerRun : Answer → List Event → Type 0
IsAnswerRun a [] = Unit {0}
IsAnswerRun a (finds v ∷ es) = AnswerOk a × IsAnswerStepping a × IsAnswerRun (answer_fed a v) es
IsAnswerRun a (replies bad reply ∷ es) = AnswerOk a × (a.stage ≡ RunDevice) × (length reply ≡ a.wiring.room) × IsAnswerRun
    (ran_with (record a { space = reply }) bad) es

abbrev pub word_steps : List Event → ℕ
word_steps [] = 0
word_steps (finds v ∷ es) = word_steps es + 1
word_steps (replies bad reply ∷ es) = word_steps es

-- a run of a machine is no longer than its table says
abbrev pub AskRunsWithin : Type 0
AskRunsWithin = (n : ℕ) (a : Ask) (vs : List ℕ) → Within n (ask_left a) → IsAskRun a vs → length vs ≤ n

abbrev pub AnswerRunsWithin : Type 0
AnswerRunsWithin = (n : ℕ) (a : Answer) (es : List Event) → Within n (answer_left a) → IsAnswerRun a es → word_steps es ≤ n

-- the machine after these events
abbrev pub answer_came : Answer → List Event → Answer
answer_came a [] = a
answer_came a (finds v ∷ es) = answer_came (answer_fed a v) es
answer_came a (replies bad reply ∷ es) = answer_came (ran_with (record a { space = reply }) bad) es

-- a run raises the count by no more than its table has steps
abbrev pub AskCountWithin : Type 0
AskCountWithin = (n : ℕ) (a : Ask) (vs : List ℕ) → Within n (ask_left a) → IsAskRun a vs → (ask_ran a vs).steps ≤ a.steps + n

abbrev pub AnswerCountWithin : Type 0
AnswerCountWithin = (n : ℕ) (a : Answer) (es : List Event) → Within n (answer_left a) → IsAnswerRun a es → (answer_came a es).steps ≤ a.steps + n

-- one step of a run leaves a table with one step less
abbrev pub AskStepWithin : Type 0
AskStepWithin = (n : ℕ) (a : Ask) (v : ℕ) → AskOk a → IsAskRunning a → Within n (ask_left a) → (0 < n) ×
    (ask_told a v ≡ None → Within (n - 1) (ask_left (ask_fed a v)))
