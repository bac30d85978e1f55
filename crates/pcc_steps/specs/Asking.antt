-- The asking machine as data, and what one word step makes of it.
use Rattle.std.specs.Prelude.{◌≡◌, ◌≢◌, ℕ, ◌+◌, ◌-◌, ◌^◌, ◌<◌, ◌≤◌, Bool, true, false, cond, eqb, ltb, List, ◌++◌, length, get_or, set, drop, Option, Some, None}
use Rattle.pcc_history.specs.Channel.{over}
use Rattle.pcc_steps.specs.declared.wiring.Wiring.{Wiring}
use Rattle.pcc_steps.specs.declared.wiring.Style.{Style}
use Rattle.pcc_steps.specs.declared.wiring.Style.TheVariants.{Headed, Joined3, Separate3, Joined4, Separate4, Reduced5}
use Rattle.pcc_steps.specs.declared.wiring.Action.{Action}
use Rattle.pcc_steps.specs.declared.wiring.Action.TheVariants.{Load, Store, Swap, Execute, Rest}
use Rattle.pcc_steps.specs.declared.ask.AskStage.{AskStage}
use Rattle.pcc_steps.specs.declared.ask.AskStage.TheVariants.{AskRest, PostBlock, PostHeader, PostUpdateLoad, PostUpdateStore, PostMarkLoad, PostMarkStore, PostBellLoad, PostBellStore, PostLine, LookWord, LookError, LookBlock, LookLine, LookLineStore, LookAckLoad, LookAckStore}
use Rattle.pcc_steps.specs.declared.ask.AskOutcome.{AskOutcome}
use Rattle.pcc_steps.specs.declared.ask.AskOutcome.TheVariants.{Posted, Clear, Drained}
use Rattle.shmem_header.specs.Spelling.{words_of, bytes_of}
use Rattle.pcc_steps.specs.Changes.{next_changed}
use Rattle.pcc_steps.specs.Wires.{style_of, heads_of, block_of, IsRight, sent_header, block_header, opening_header, meets, sees_done, tells_error, header_error, acknowledges, masked_by, without, update_place}

pub record Ask : Type 0 where
  pub wiring : Wiring
  -- the next step
  pub stage : AskStage
  -- the register word that was loaded last
  pub kept : ℕ
  -- the command that is posted or in flight
  pub code : ℕ
  -- the error that the look has found
  pub error : Bool
  -- the words of the block: those that are sent, those that were there when nothing was in flight, those that the look has loaded
  pub sent : List ℕ
  pub shown : List ℕ
  pub loaded : List ℕ
  -- the bytes of the space that is sent, and of the last reply
  pub input : List ℕ
  pub space : List ℕ
  pub in_flight : Bool
  pub looks : ℕ
  pub budget : ℕ
  pub posts : ℕ
  pub steps : ℕ

-- the block has more words after this one
abbrev pub has_more : ℕ → Wiring → Bool
has_more j w = ltb (j + 1) (block_of w)

-- ---- the next word step

abbrev pub ask_next_at : AskStage → Ask → Action
ask_next_at AskRest a = Rest
ask_next_at (PostBlock j) a = Store (8 + j) (get_or a.sent j 0)
ask_next_at PostHeader a = Store 0 (sent_header a.wiring a.code 0)
ask_next_at PostUpdateLoad a = Load (update_place (style_of a.wiring))
ask_next_at PostUpdateStore a = Store (update_place (style_of a.wiring)) (masked_by a.wiring.update a.kept)
ask_next_at PostMarkLoad a = Load 0
ask_next_at PostMarkStore a = Store 0 (without a.wiring.check_mask a.kept)
ask_next_at PostBellLoad a = Load 1
ask_next_at PostBellStore a = Store 1 (masked_by a.wiring.bell a.kept)
ask_next_at PostLine a = Store 2 1
ask_next_at LookWord a = Load 0
ask_next_at LookError a = Load 3
ask_next_at (LookBlock j) a = Load (8 + j)
ask_next_at LookLine a = Load 4
ask_next_at LookLineStore a = Store 4 0
ask_next_at LookAckLoad a = Load 5
ask_next_at LookAckStore a = Store 5 (masked_by a.wiring.ack a.kept)

abbrev pub ask_next : Ask → Action
ask_next a = ask_next_at a.stage a

-- the action's place is one of so many words
abbrev pub IsWithin : ℕ → Action → Type 0
IsWithin n (Load p) = p < n
IsWithin n (Store p v) = p < n
IsWithin n (Swap p v) = p < n
IsWithin n (Execute code) = Unit {0}
IsWithin n Rest = Unit {0}

-- ---- the stage after a step

abbrev pub after_block : Style → AskStage
after_block Headed = PostHeader
after_block Joined3 = PostUpdateLoad
after_block Separate3 = PostUpdateLoad
after_block Joined4 = PostMarkLoad
after_block Separate4 = PostMarkLoad
after_block Reduced5 = PostBellLoad

abbrev pub after_update : Style → AskStage
after_update Separate3 = PostMarkLoad
after_update _ = PostBellLoad

abbrev pub after_mark : Style → AskStage
after_mark Separate3 = PostBellLoad
after_mark _ = PostLine

abbrev pub after_bell : Style → AskStage
after_bell Reduced5 = PostMarkLoad
after_bell _ = PostLine

-- does a register report errors?
abbrev pub after_look : Bool → AskStage
after_look true = LookError
after_look false = LookBlock 0

-- has a word of the block changed, at the place n?
abbrev pub post_on : Bool → ℕ → Style → AskStage
post_on true n s = PostBlock n
post_on false n s = after_block s

-- the next word of the block that is stored, from the place j on, is the first that differs from the old one
abbrev pub block_stage : ℕ → Wiring → List ℕ → List ℕ → AskStage
block_stage j w block old = let n : ℕ = next_changed j block old in post_on (ltb n (length block)) n (style_of w)

-- ---- what a step leaves

-- word 0 was loaded: does it say that the command is complete?
abbrev pub look_on : Bool → ℕ → Ask → Ask
look_on true v a = record a { stage = after_look (tells_error a.wiring); error = header_error (style_of a.wiring) v }
look_on false v a = record a { stage = AskRest; looks = a.looks + 1 }

-- the look has loaded the whole block, and ends
abbrev pub drained : Ask → Ask
drained a = record a { stage = AskRest; shown = a.loaded; loaded = a.shown; space = bytes_of (drop (heads_of (style_of a.wiring)) a.loaded); in_flight = false }

-- the whole block was loaded: did the command ask for a notification?
abbrev pub block_on : Bool → Ask → Ask
block_on true a = record a { stage = LookLine }
block_on false a = drained a

-- a word of the block was loaded: are there more?
abbrev pub read_on : Bool → ℕ → ℕ → Ask → Ask
read_on true j v a = record a { stage = LookBlock (j + 1); loaded = set a.loaded j v }
read_on false j v a = block_on a.wiring.notify (record a { loaded = set a.loaded j v })

-- the interrupt line was loaded: is it down?
abbrev pub line_on : Bool → Ask → Ask
line_on true a = drained a
line_on false a = record a { stage = LookLineStore }

-- the interrupt line was lowered: is it acknowledged?
abbrev pub lowered_on : Bool → Ask → Ask
lowered_on true a = record a { stage = LookAckLoad }
lowered_on false a = drained a

abbrev pub ask_fed_at : AskStage → Ask → ℕ → Ask
ask_fed_at AskRest a v = a
ask_fed_at (PostBlock j) a v = record a { stage = block_stage (j + 1) a.wiring a.sent a.shown }
ask_fed_at PostHeader a v = record a { stage = PostBellLoad }
ask_fed_at PostUpdateLoad a v = record a { stage = PostUpdateStore; kept = v }
ask_fed_at PostUpdateStore a v = record a { stage = after_update (style_of a.wiring) }
ask_fed_at PostMarkLoad a v = record a { stage = PostMarkStore; kept = v }
ask_fed_at PostMarkStore a v = record a { stage = after_mark (style_of a.wiring) }
ask_fed_at PostBellLoad a v = record a { stage = PostBellStore; kept = v }
ask_fed_at PostBellStore a v = record a { stage = after_bell (style_of a.wiring) }
ask_fed_at PostLine a v = record a { stage = AskRest; in_flight = true; looks = 0; posts = a.posts + 1 }
ask_fed_at LookWord a v = look_on (sees_done a.wiring v) v a
ask_fed_at LookError a v = record a { stage = LookBlock 0; error = meets v a.wiring.error_mask }
ask_fed_at (LookBlock j) a v = read_on (has_more j a.wiring) j v a
ask_fed_at LookLine a v = line_on (eqb v 0) a
ask_fed_at LookLineStore a v = lowered_on (acknowledges a.wiring) a
ask_fed_at LookAckLoad a v = record a { stage = LookAckStore; kept = v }
ask_fed_at LookAckStore a v = drained a

-- the count of steps stays at its greatest value
abbrev pub rose : ℕ → ℕ
rose n = cond (ltb n (2 ^ 64 - 1)) (n + 1) n

abbrev pub ask_stepped : Ask → Ask
ask_stepped a = record a { steps = rose a.steps }

abbrev pub ask_fed : Ask → ℕ → Ask
ask_fed a v = ask_stepped (ask_fed_at a.stage a v)

-- ---- the outcome of a step

abbrev pub look_told : Bool → Option AskOutcome
look_told true = None
look_told false = Some Clear

abbrev pub end_told : Bool → Bool → Option AskOutcome
end_told true error = None
end_told false error = Some (Drained error)

abbrev pub read_told : Bool → Bool → Bool → Option AskOutcome
read_told true notify error = None
read_told false notify error = end_told notify error

abbrev pub line_told : Bool → Bool → Option AskOutcome
line_told true error = Some (Drained error)
line_told false error = None

abbrev pub ask_told_at : AskStage → Ask → ℕ → Option AskOutcome
ask_told_at PostLine a v = Some Posted
ask_told_at LookWord a v = look_told (sees_done a.wiring v)
ask_told_at (LookBlock j) a v = read_told (has_more j a.wiring) a.wiring.notify a.error
ask_told_at LookLine a v = line_told (eqb v 0) a.error
ask_told_at LookLineStore a v = end_told (acknowledges a.wiring) a.error
ask_told_at LookAckStore a v = Some (Drained a.error)
ask_told_at _ a v = None

abbrev pub ask_told : Ask → ℕ → Option AskOutcome
ask_told a v = ask_told_at a.stage a v

-- ---- what begins a run

-- the bytes are laid over the front of the space
abbrev pub ask_begun : Ask → ℕ → List ℕ → Ask
ask_begun a code bytes = let sent : List ℕ = block_header (style_of a.wiring) a.wiring code (length bytes) ++ words_of (over a.space bytes) in record a {
  stage = block_stage 0 a.wiring sent a.shown;
  code = code;
  input = over a.space bytes;
  sent = sent;
}

abbrev pub ask_looking : Ask → Ask
ask_looking a = record a { stage = LookWord }

abbrev pub ask_budgeted : Ask → ℕ → Ask
ask_budgeted a polls = record a { budget = polls; looks = 0 }

abbrev pub IsNewAsk : Ask → Wiring → List ℕ → Type 0
IsNewAsk a w opening = (a.wiring ≡ w) × (a.stage ≡ AskRest) × (a.in_flight ≡ false) ×
    (a.shown ≡ opening_header (style_of w) w ++ words_of opening) × (a.space ≡ opening)
    × (a.sent ≡ a.shown) × (a.input ≡ opening) × (a.code ≡ 0) × (a.looks ≡ 0) × (a.budget ≡ 0) × (a.posts ≡ 0) × (a.steps ≡ 0)

-- ---- what holds between two calls

-- the styles with an update register that the asking side writes, and those whose completion bits it clears by itself
abbrev pub AskUpdates : Style → Type 0
AskUpdates Joined3 = Unit {0}
AskUpdates Separate3 = Unit {0}
AskUpdates _ = ⊥

abbrev pub AskClears : Style → Type 0
AskClears Headed = ⊥
AskClears Joined3 = ⊥
AskClears _ = Unit {0}

-- the styles whose asking side rings a doorbell
abbrev pub AskRings : Style → Type 0
AskRings Joined4 = ⊥
AskRings Separate4 = ⊥
AskRings _ = Unit {0}

-- what makes this step the next one
abbrev pub AskPlace : AskStage → Wiring → Type 0
AskPlace (PostBlock j) w = j < block_of w
AskPlace PostHeader w = style_of w ≡ Headed
AskPlace PostUpdateLoad w = AskUpdates (style_of w)
AskPlace PostUpdateStore w = AskUpdates (style_of w)
AskPlace PostMarkLoad w = AskClears (style_of w)
AskPlace PostMarkStore w = AskClears (style_of w)
AskPlace PostBellLoad w = AskRings (style_of w)
AskPlace PostBellStore w = AskRings (style_of w)
AskPlace LookError w = tells_error w ≡ true
AskPlace (LookBlock j) w = j < block_of w
AskPlace LookLine w = w.notify ≡ true
AskPlace LookLineStore w = w.notify ≡ true
AskPlace LookAckLoad w = (w.notify ≡ true) × (acknowledges w ≡ true)
AskPlace LookAckStore w = (w.notify ≡ true) × (acknowledges w ≡ true)
AskPlace _ w = Unit {0}

-- a run that looks is for a command in flight, a run that posts begins when there is none
abbrev pub Flies : AskStage → Bool → Type 0
Flies AskRest f = Unit {0}
Flies LookWord f = f ≡ true
Flies LookError f = f ≡ true
Flies (LookBlock j) f = f ≡ true
Flies LookLine f = f ≡ true
Flies LookLineStore f = f ≡ true
Flies LookAckLoad f = f ≡ true
Flies LookAckStore f = f ≡ true
Flies _ f = f ≡ false

-- a look is made only within the budget
abbrev pub LooksLeft : AskStage → ℕ → ℕ → Type 0
LooksLeft LookWord looks budget = looks < budget
LooksLeft _ looks budget = looks ≤ budget

-- a run that posts makes one post more
abbrev pub PostsLeft : AskStage → ℕ → Type 0
PostsLeft AskRest posts = posts ≤ 4096
PostsLeft LookWord posts = posts ≤ 4096
PostsLeft LookError posts = posts ≤ 4096
PostsLeft (LookBlock j) posts = posts ≤ 4096
PostsLeft LookLine posts = posts ≤ 4096
PostsLeft LookLineStore posts = posts ≤ 4096
PostsLeft LookAckLoad posts = posts ≤ 4096
PostsLeft LookAckStore posts = posts ≤ 4096
PostsLeft _ posts = posts < 4096

-- a code of types 0 to 2 has one byte
abbrev pub CodeFits : Style → ℕ → Type 0
CodeFits Headed code = code < 256
CodeFits _ code = code < 2 ^ 32

pub record AskSized (w : Wiring) (s o l : List ℕ) (i b : List ℕ) : Type 0 where
  pub sent : length s ≡ block_of w
  pub shown : length o ≡ block_of w
  pub loaded : length l ≡ block_of w
  pub input : length i ≡ w.room
  pub space : length b ≡ w.room

pub record AskOk (a : Ask) : Type 0 where
  pub wired : IsRight a.wiring
  pub sized : AskSized a.wiring a.sent a.shown a.loaded a.input a.space
  pub place : AskPlace a.stage a.wiring
  pub flies : Flies a.stage a.in_flight
  pub looks : LooksLeft a.stage a.looks a.budget
  pub posts : PostsLeft a.stage a.posts
  pub kept : a.kept < 2 ^ 64
  pub mask : a.wiring.check_mask < 2 ^ 64
  pub id : a.wiring.id < 2 ^ 8
  pub code : CodeFits (style_of a.wiring) a.code

abbrev pub IsAskRunning : Ask → Type 0
IsAskRunning a = a.stage ≢ AskRest

-- a step of a run that posts
abbrev pub IsPosting : AskStage → Type 0
IsPosting (PostBlock j) = Unit {0}
IsPosting PostHeader = Unit {0}
IsPosting PostUpdateLoad = Unit {0}
IsPosting PostUpdateStore = Unit {0}
IsPosting PostMarkLoad = Unit {0}
IsPosting PostMarkStore = Unit {0}
IsPosting PostBellLoad = Unit {0}
IsPosting PostBellStore = Unit {0}
IsPosting PostLine = Unit {0}
IsPosting _ = ⊥

-- a step of a look that saw completion
abbrev pub IsReading : AskStage → Type 0
IsReading LookError = Unit {0}
IsReading (LookBlock j) = Unit {0}
IsReading LookLine = Unit {0}
IsReading LookLineStore = Unit {0}
IsReading LookAckLoad = Unit {0}
IsReading LookAckStore = Unit {0}
IsReading _ = ⊥
