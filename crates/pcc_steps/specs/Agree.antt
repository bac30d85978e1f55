-- What the words and the two ends of a channel have to do with one another between any two word steps.
use Rattle.std.specs.Prelude.{◌≡◌, ◌⊎◌, ℕ, ◌+◌, ◌<◌, Bool, true, false, List, [], ◌∷◌, ◌++◌, length, get_or, set, take, drop, Option, Some, None}
use Rattle.pcc_bytes.specs.Bytes.{IsBytes}
use Rattle.pcc_exec.specs.Execution.{IsSpace}
use Rattle.pcc_history.specs.Devices.{Device, Executed}
use Rattle.pcc_history.specs.Channel.{Exchange, both, exchange_of, over}
use Rattle.pcc_history.specs.Histories.{Legal, WholeHistory, state_after, space_after}
use Rattle.pcc_steps.specs.declared.wiring.Wiring.{Wiring}
use Rattle.pcc_steps.specs.declared.wiring.Style.{Style}
use Rattle.pcc_steps.specs.declared.wiring.Style.TheVariants.{Headed, Reduced5}
use Rattle.pcc_steps.specs.declared.wiring.Action.{Action}
use Rattle.pcc_steps.specs.declared.wiring.Action.TheVariants.{Load, Store, Swap, Execute, Rest}
use Rattle.pcc_steps.specs.declared.ask.AskStage.{AskStage}
use Rattle.pcc_steps.specs.declared.ask.AskStage.TheVariants.{AskRest, PostBlock, PostHeader, PostUpdateLoad, PostUpdateStore, PostMarkLoad, PostMarkStore, PostBellLoad, PostBellStore, PostLine, LookWord, LookError, LookBlock, LookLine, LookLineStore, LookAckLoad, LookAckStore}
use Rattle.pcc_steps.specs.declared.ask.AskOutcome.{AskOutcome}
use Rattle.pcc_steps.specs.declared.ask.AskOutcome.TheVariants.{Posted, Clear, Drained}
use Rattle.pcc_steps.specs.declared.answer.AnswerStage.{AnswerStage}
use Rattle.pcc_steps.specs.declared.answer.AnswerStage.TheVariants.{AnswerRest, TakeLine, TakeAckLoad, TakeAckStore, TakeHeader, TakeBlock, RunDevice, ReplyBlock, ReplyError, ReplyHeader, ReplyUpdateLoad, ReplyUpdateStore, ReplyMarkLoad, ReplyMarkStore, CloseBellLoad, CloseBellStore, CloseLine}
use Rattle.shmem_header.specs.Spelling.{words_of}
use Rattle.pcc_steps.specs.Wires.{style_of, heads_of, block_of, sent_header, block_header, opening_header, status_of, meets, is_complete}
use Rattle.pcc_steps.specs.Asking.{Ask, AskOk, ask_fed_at, ask_told_at, ask_stepped, ask_begun}
use Rattle.pcc_steps.specs.Answering.{Answer, AnswerOk, answer_code, answer_fed_at, answer_stepped, ran_with}

-- ---- the words

-- the words of which something is said
pub record Core : Type 0 where
  pub completion : ℕ
  pub line : ℕ
  pub error : ℕ
  pub irq : ℕ
  pub block : List ℕ

-- the registers of which nothing is said
pub record Others : Type 0 where
  pub bell : ℕ
  pub ack : ℕ
  pub update : ℕ
  pub spare : ℕ

-- all words, in order of their places
abbrev pub listed : Core → Others → List ℕ
listed c o = c.completion ∷ o.bell ∷ c.line ∷ c.error ∷ c.irq ∷ o.ack ∷ o.update ∷ o.spare ∷ c.block

-- what a step makes of the words
abbrev pub act : Action → List ℕ → List ℕ
act (Load p) ws = ws
act (Store p v) ws = set ws p v
act (Swap p v) ws = set ws p v
act (Execute code) ws = ws
act Rest ws = ws

-- what a step finds
abbrev pub Finds : Action → List ℕ → ℕ → Type 0
Finds (Load p) ws v = v ≡ get_or ws p 0
Finds (Store p x) ws v = Unit {0}
Finds (Swap p x) ws v = v ≡ get_or ws p 0
Finds (Execute code) ws v = Unit {0}
Finds Rest ws v = Unit {0}

-- the value that a step loads or finds, 0 where there is none
abbrev pub found : Action → List ℕ → ℕ
found (Load p) ws = get_or ws p 0
found (Swap p v) ws = get_or ws p 0
found (Store p v) ws = 0
found (Execute code) ws = 0
found Rest ws = 0

-- the first j words of the new list, then those of the old one
abbrev pub mix : ℕ → List ℕ → List ℕ → List ℕ
mix j new old = take j new ++ drop j old

-- ---- the two ends, each with its history

pub record Asker : Type 0 where
  pub m : Ask
  -- the commands that were drained
  pub done : List Exchange
  -- the looks that saw completion clear
  pub clears : ℕ
  -- the space before the first command
  pub opening : List ℕ
  -- the bytes of each command that was posted or is being posted
  pub asked : List (List ℕ)

pub record Answerer : Type 0 where
  pub m : Answer
  pub device : List ℕ
  pub done : List Exchange

-- a new machine has asked nothing
abbrev pub new_asker : Ask → List ℕ → Asker
new_asker a opening = record { m = a; done = []; clears = 0; opening = opening; asked = [] }

-- a drained command joins the history
abbrev pub done_after : Option AskOutcome → List Exchange → Ask → List Exchange
done_after (Some (Drained e)) done a = done ++ record { code = a.code; input = a.input; error = e; output = a.space } ∷ []
done_after (Some Posted) done a = done
done_after (Some Clear) done a = done
done_after None done a = done

abbrev pub clears_after : Option AskOutcome → ℕ → ℕ
clears_after (Some Clear) n = n + 1
clears_after (Some Posted) n = n
clears_after (Some (Drained e)) n = n
clears_after None n = n

-- the asking end after a step that found this value
abbrev pub asker_fed_at : AskStage → Asker → ℕ → Asker
asker_fed_at st x v = let told = ask_told_at st x.m v in let a : Ask = ask_fed_at st x.m v in
    record x { m = a; done = done_after told x.done a; clears = clears_after told x.clears }

abbrev pub asker_stepped : Asker → Asker
asker_stepped x = record x { m = ask_stepped x.m }

abbrev pub asker_fed : Asker → ℕ → Asker
asker_fed x v = asker_stepped (asker_fed_at x.m.stage x v)

-- the asking end after a post that is begun
abbrev pub asker_begun : Asker → ℕ → List ℕ → Asker
asker_begun x code bytes = record x { m = ask_begun x.m code bytes; asked = x.asked ++ bytes ∷ [] }

abbrev pub answerer_stepped : Answerer → Answerer
answerer_stepped y = record y { m = answer_stepped y.m }

module _ (exec : Device) where
  -- the device executes a command as soon as its block is loaded
  abbrev pub executed : Executed → Answerer → Answerer
  executed e y = record {
    m = ran_with (record y.m { space = e.space }) e.bad;
    device = e.state;
    done = y.done
        ++ exchange_of exec y.m.wiring.reports y.device (answer_code y.m) y.m.space ∷ [];
  }

  abbrev pub settle_at : AnswerStage → Answerer → Answerer
  settle_at RunDevice y = executed (exec y.device (answer_code y.m) y.m.space) y
  settle_at _ y = y

  abbrev pub settle : Answerer → Answerer
  settle y = settle_at y.m.stage y

  -- the answering end after a step that found this value
  abbrev pub answerer_fed_at : AnswerStage → Answerer → ℕ → Answerer
  answerer_fed_at st y v = settle (record y { m = answer_fed_at st y.m v })

  abbrev pub answerer_fed : Answerer → ℕ → Answerer
  answerer_fed y v = answerer_stepped (answerer_fed_at y.m.stage y v)

-- ---- where the two ends stand

-- the asking end
pub data Pose : Type 0 where
  -- nothing is in flight
  free : Pose
  -- it has stored the first j words of the block
  writing : ℕ → Pose
  -- it has cleared completion, and not yet raised the line
  cleared : Pose
  -- a command is in flight
  waiting : Pose
  -- a command is in flight; it saw completion, and has loaded the first j words of the block
  reading : ℕ → Pose

abbrev pub resting : Bool → Pose
resting true = waiting
resting false = free

-- the doorbell of type 5 is rung before completion is cleared
abbrev pub bell_pose : Style → ℕ → Pose
bell_pose Reduced5 n = writing n
bell_pose _ n = cleared

abbrev pub pose_at : AskStage → Ask → Pose
pose_at AskRest a = resting a.in_flight
pose_at (PostBlock j) a = writing j
pose_at PostHeader a = writing (block_of a.wiring)
pose_at PostUpdateLoad a = writing (block_of a.wiring)
pose_at PostUpdateStore a = writing (block_of a.wiring)
pose_at PostMarkLoad a = writing (block_of a.wiring)
pose_at PostMarkStore a = writing (block_of a.wiring)
pose_at PostBellLoad a = bell_pose (style_of a.wiring) (block_of a.wiring)
pose_at PostBellStore a = bell_pose (style_of a.wiring) (block_of a.wiring)
pose_at PostLine a = cleared
pose_at LookWord a = waiting
pose_at LookError a = reading 0
pose_at (LookBlock j) a = reading j
pose_at LookLine a = reading (block_of a.wiring)
pose_at LookLineStore a = reading (block_of a.wiring)
pose_at LookAckLoad a = reading (block_of a.wiring)
pose_at LookAckStore a = reading (block_of a.wiring)

abbrev pub pose : Ask → Pose
pose a = pose_at a.stage a

-- the answering end
pub data Turn : Type 0 where
  -- at rest, about to begin, or closing a run
  quiet : Turn
  -- it has taken the line, and loaded the first j words of the block
  taken : ℕ → Turn
  -- the command is executed; the first j words of the block are those of the reply
  replying : ℕ → Turn

abbrev pub turn_at : AnswerStage → Answer → Turn
turn_at AnswerRest a = quiet
turn_at TakeLine a = quiet
turn_at TakeAckLoad a = taken 0
turn_at TakeAckStore a = taken 0
turn_at TakeHeader a = taken 0
turn_at (TakeBlock j) a = taken j
turn_at RunDevice a = taken (block_of a.wiring)
turn_at (ReplyBlock j) a = replying j
turn_at ReplyError a = replying (block_of a.wiring)
turn_at ReplyHeader a = replying (block_of a.wiring)
turn_at ReplyUpdateLoad a = replying (block_of a.wiring)
turn_at ReplyUpdateStore a = replying (block_of a.wiring)
turn_at ReplyMarkLoad a = replying (block_of a.wiring)
turn_at ReplyMarkStore a = replying (block_of a.wiring)
turn_at CloseBellLoad a = quiet
turn_at CloseBellStore a = quiet
turn_at CloseLine a = quiet

abbrev pub turn : Answer → Turn
turn a = turn_at a.stage a

-- ---- one row for each phase

pub data Mark : Type 0 where
  opened : Mark
  closed : Mark
  finished : Bool → Mark

-- what word 0 is: of types 0 to 2 the header that was sent, with status 0 while the command is in flight
abbrev pub Marked : Style → Wiring → ℕ → Mark → ℕ → Type 0
Marked Headed w code opened word = is_complete Headed w.check_mask word ≡ true
Marked Headed w code closed word = word ≡ sent_header w code 0
Marked Headed w code (finished e) word = word ≡ sent_header w code (status_of e)
Marked s w code opened word = is_complete s w.check_mask word ≡ true
Marked s w code closed word = is_complete s w.check_mask word ≡ false
Marked s w code (finished e) word = is_complete s w.check_mask word ≡ true

-- word 0, the doorbell line, the block and the answering end's history
pub record Row (w : Wiring) (code : ℕ) (hp : List Exchange) (c : Core) (mark : Mark) (l : ℕ) (b : List ℕ) (h : List Exchange) : Type 0 where
  pub completion : Marked (style_of w) w code mark c.completion
  pub line : c.line ≡ l
  pub block : c.block ≡ b
  pub done : hp ≡ h

-- what the asking end has in flight, or is about to post
pub record Flight : Type 0 where
  pub wiring : Wiring
  pub code : ℕ
  pub sent : List ℕ
  pub input : List ℕ
  pub done : List Exchange

abbrev pub flight : Asker → Flight
flight x = record { wiring = x.m.wiring; code = x.m.code; sent = x.m.sent; input = x.m.input; done = x.done }

-- the exchange of the command in flight
abbrev pub answered : Flight → Bool → List ℕ → Exchange
answered f e output = record { code = f.code; input = f.input; error = e; output = output }

-- the header words of the block that was sent, then the words of the reply
abbrev pub reply_block : Flight → List ℕ → List ℕ
reply_block f output = take (heads_of (style_of f.wiring)) f.sent ++ words_of output

-- the header that was loaded is the one that was sent (types 0 to 2), from this stage on
abbrev pub HasHeader : AnswerStage → Style → Wiring → ℕ → ℕ → Type 0
HasHeader (TakeBlock j) Headed w code header = header ≡ sent_header w code 0
HasHeader _ s w code header = Unit {0}

pub record IsTaken (f : Flight) (y : Answerer) (c : Core) (j : ℕ) : Type 0 where
  pub row : Row f.wiring f.code y.done c closed 0 f.sent f.done
  pub loaded : take j y.m.loaded ≡ take j f.sent
  pub header : HasHeader y.m.stage (style_of f.wiring) f.wiring f.code y.m.header

-- the error register shows the error (types 3 to 5 that report errors)
abbrev pub ShowsBy : Style → Bool → ℕ → ℕ → Bool → Type 0
ShowsBy Headed reports mask word e = Unit {0}
ShowsBy _ true mask word e = meets word mask ≡ e
ShowsBy _ false mask word e = e ≡ false

abbrev pub Shows : Wiring → ℕ → Bool → Type 0
Shows w word e = ShowsBy (style_of w) w.reports w.error_mask word e

-- the error register is stored before completion
abbrev pub Told : AnswerStage → Wiring → ℕ → Bool → Type 0
Told (ReplyBlock j) w word e = Unit {0}
Told ReplyError w word e = Unit {0}
Told _ w word e = Shows w word e

pub record IsReplying (f : Flight) (y : Answerer) (c : Core) (j : ℕ) : Type 0 where
  pub row : Row f.wiring f.code y.done c closed 0 (mix j y.m.out f.sent) (f.done ++ answered f (both f.wiring.reports y.m.bad) y.m.space ∷ [])
  pub header : HasHeader (TakeBlock 0) (style_of f.wiring) f.wiring f.code y.m.header
  pub loaded : y.m.loaded ≡ f.sent
  pub out : y.m.out ≡ reply_block f y.m.space
  pub bytes : IsBytes y.m.space
  pub told : Told y.m.stage f.wiring c.error (both f.wiring.reports y.m.bad)

pub record IsDone (f : Flight) (hp : List Exchange) (c : Core) (e : Bool) (output : List ℕ) : Type 0 where
  pub row : Row f.wiring f.code hp c (finished e) 0 (reply_block f output) (f.done ++ answered f e output ∷ [])
  pub long : length output ≡ f.wiring.room
  pub bytes : IsBytes output
  pub shows : Shows f.wiring c.error e

-- a command is in flight, and no look has seen completion
abbrev pub Waits : Turn → Flight → Answerer → Core → Type 0
Waits quiet f y c = Row f.wiring f.code y.done c closed 1 f.sent f.done ⊎ ((o : Bool × List ℕ) × IsDone f y.done c o.0 o.1)
Waits (taken j) f y c = IsTaken f y c j
Waits (replying j) f y c = IsReplying f y c j

-- the asking machine knows the error, once that is read
abbrev pub Knows : AskStage → Bool → Bool → Type 0
Knows LookError e e' = Unit {0}
Knows _ e e' = e' ≡ e

pub record IsReading (x : Asker) (hp : List Exchange) (c : Core) (j : ℕ) : Type 0 where
  pub error : Bool
  pub output : List ℕ
  pub is : IsDone (flight x) hp c error output
  pub loaded : take j x.m.loaded ≡ take j (reply_block (flight x) output)
  pub knows : Knows x.m.stage error x.m.error

-- The phases. In "done" a look that saw completion may be reading the reply. A quiet answering end is at rest, about to begin, or closing a
-- run.
--
--   phase       word 0  line  block                          asking end                     answering end                 histories
--   free        set     0     as before                      at rest, nothing in flight     quiet                         equal
--   writing j   set     0     j words sent, then as before   posts, past j words            quiet                         equal
--   cleared     clear   0     sent                           posts, line not yet raised     quiet                         equal
--   rung        clear   1     sent                           in flight                      quiet                         equal
--   taken j     clear   0     sent                           in flight                      has loaded j words            equal
--   replying j  clear   0     j words of the reply, sent     in flight                      has executed, past j words    one more
--   done        set     0     the reply                      in flight, or reading it       quiet                         one more
abbrev pub Fits : Pose → Turn → Asker → Answerer → Core → Type 0
Fits free t x y c = (t ≡ quiet) × Row x.m.wiring x.m.code y.done c opened 0 x.m.shown x.done
Fits (writing j) t x y c = (t ≡ quiet) × Row x.m.wiring x.m.code y.done c opened 0 (mix j x.m.sent x.m.shown) x.done
Fits cleared t x y c = (t ≡ quiet) × Row x.m.wiring x.m.code y.done c closed 0 x.m.sent x.done
Fits waiting t x y c = Waits t (flight x) y c
Fits (reading j) t x y c = (t ≡ quiet) × IsReading x y.done c j

-- ---- what was asked

-- a command is being posted, or is in flight
abbrev pub is_pending_at : AskStage → Bool → Bool
is_pending_at AskRest flies = flies
is_pending_at _ flies = true

abbrev pub is_pending : Ask → Bool
is_pending a = is_pending_at a.stage a.in_flight

-- the header words of the block after these commands: those that were sent last, at first those that stood there
abbrev pub header_after : Wiring → List ℕ → List Exchange → List (List ℕ) → List ℕ
header_after w header [] asked = header
header_after w header (e ∷ es) [] = header
header_after w header (e ∷ es) (bytes ∷ asked) = header_after w (block_header (style_of w) w e.code (length bytes)) es asked

-- what the asking end has sent, and what came back
pub record Trail : Type 0 where
  pub wiring : Wiring
  pub opening : List ℕ
  pub done : List Exchange
  pub asked : List (List ℕ)
  pub space : List ℕ
  pub shown : List ℕ
  pub code : ℕ
  pub input : List ℕ
  pub sent : List ℕ

abbrev pub trail : Asker → Trail
trail x = record {
  wiring = x.m.wiring;
  opening = x.opening;
  done = x.done;
  asked = x.asked;
  space = x.m.space;
  shown = x.m.shown;
  code = x.m.code;
  input = x.m.input;
  sent = x.m.sent;
}

-- what was drained, with the bytes that each command asked
pub record IsDrained (t : Trail) (asked : List (List ℕ)) : Type 0 where
  -- each input is the output before it with the asked bytes over its front
  pub inputs : WholeHistory t.opening t.done asked
  -- the space that came back last is the last output, at first the opening space
  pub output : t.space ≡ space_after t.opening t.done
  -- its block has the header words that were sent last, at first those of the opening
  pub block : t.shown ≡ header_after t.wiring (opening_header (style_of t.wiring) t.wiring) t.done asked ++ words_of t.space

-- the command that is pending, with the bytes that it asks
pub record IsAsking (t : Trail) (bytes : List ℕ) : Type 0 where
  -- its input is the space that came back last with the asked bytes over its front
  pub input : t.input ≡ over t.space bytes
  -- its block has the header words of its code, the identity, the notify flag and the length (types 3 to 5), then the words of the input
  pub block : t.sent ≡ block_header (style_of t.wiring) t.wiring t.code (length bytes) ++ words_of t.input

-- the asked bytes are those of the drained commands, and last those of the command that is pending
abbrev pub HasAskedBy : Bool → Trail → Type 0
HasAskedBy false t = IsDrained t t.asked
HasAskedBy true t = (before : List (List ℕ)) × ((bytes : List ℕ) × (t.asked ≡ before ++ bytes ∷ []) × IsDrained t before × IsAsking t bytes)

abbrev pub HasAsked : Asker → Type 0
HasAsked x = HasAskedBy (is_pending x.m) (trail x)

-- ---- what holds in every phase

-- the words of a block after its header words spell the bytes of a space
pub record Spells (w : Wiring) (block bytes : List ℕ) : Type 0 where
  pub words : drop (heads_of (style_of w)) block ≡ words_of bytes
  pub fits : IsBytes bytes

-- every space of the history has the room
abbrev pub HasRoom : ℕ → List Exchange → Type 0
HasRoom room [] = Unit {0}
HasRoom room (e ∷ es) = IsSpace room e.input × IsSpace room e.output × HasRoom room es

abbrev pub flying : Bool → ℕ
flying true = 1
flying false = 0

-- the device's turn is part of the step that loads the last word of the block
abbrev pub IsBetween : AnswerStage → Type 0
IsBetween RunDevice = ⊥
IsBetween _ = Unit {0}

module _ (exec : Device) where
  pub record Agreed (start : List ℕ) (x : Asker) (y : Answerer) (c : Core) : Type 0 where
    pub ask_ok : AskOk x.m
    pub answer_ok : AnswerOk y.m
    pub between : IsBetween y.m.stage
    pub same : y.m.wiring ≡ x.m.wiring
    -- the answering end's history is legal, and leaves the device as it is
    pub legal : Legal exec x.m.wiring.reports start y.done
    pub device : y.device ≡ state_after exec start y.done
    pub room : HasRoom x.m.wiring.room y.done
    pub sent : Spells x.m.wiring x.m.sent x.m.input
    pub shown : Spells x.m.wiring x.m.shown x.m.space
    pub asked : HasAsked x
    pub posts : x.m.posts ≡ length x.done + flying x.m.in_flight
    pub irq : c.irq < 2
    pub fits : Fits (pose x.m) (turn y.m) x y c

  abbrev pub Agree : List ℕ → List ℕ → Asker → Answerer → Type 0
  Agree start ws x y = (c : Core) × ((o : Others) × (ws ≡ listed c o) × Agreed start x y c)
