-- Every state that a channel reaches: from new machines over the opening content, by calls that are begun and single word steps of either end,
-- in any order.
use Rattle.std.specs.Prelude.{◌≡◌, ◌⊎◌, ℕ, ◌^◌, ◌<◌, ◌≤◌, true, false, List, [], ◌∷◌, ◌++◌, length, take}
use Rattle.pcc_bytes.specs.Bytes.{IsBytes}
use Rattle.pcc_history.specs.Devices.{Device}
use Rattle.pcc_history.specs.Channel.{Exchange}
use Rattle.pcc_history.specs.Histories.{Legal, WholeHistory}
use Rattle.shmem_header.specs.Spelling.{words_of}
use Rattle.pcc_steps.specs.declared.wiring.Wiring.{Wiring}
use Rattle.pcc_steps.specs.declared.ask.AskStage.TheVariants.{AskRest}
use Rattle.pcc_steps.specs.declared.answer.AnswerStage.TheVariants.{AnswerRest}
use Rattle.pcc_steps.specs.Kinds.{IsHeaded}
use Rattle.pcc_steps.specs.Wires.{opening_words}
use Rattle.pcc_steps.specs.Asking.{Ask, AskOk, IsNewAsk, ask_next, ask_looking, ask_budgeted}
use Rattle.pcc_steps.specs.Answering.{Answer, AnswerOk, IsNewAnswer, answer_next, answer_begun}
use Rattle.pcc_steps.specs.Agree.{act, found, Asker, Answerer, new_asker, asker_fed, asker_begun, answerer_fed, Agree}

-- the words, and both ends with their histories
pub record State : Type 0 where
  pub words : List ℕ
  pub asker : Asker
  pub answerer : Answerer

-- a post may begin
pub record MayPost (a : Ask) (code : ℕ) (asked : List ℕ) : Type 0 where
  pub rests : a.stage ≡ AskRest
  pub free : a.in_flight ≡ false
  pub posts : a.posts < 4096
  pub fits : length asked ≤ a.wiring.room
  pub bytes : IsBytes asked
  pub byte : IsHeaded a.wiring.kind → code < 256
  pub word : code < 2 ^ 32

-- a look may begin
pub record MayLook (a : Ask) : Type 0 where
  pub rests : a.stage ≡ AskRest
  pub flies : a.in_flight ≡ true
  pub left : a.looks < a.budget

module _ (exec : Device) (w : Wiring) (start opening : List ℕ) where
  abbrev pub opened_with : Ask → Answer → State
  opened_with a b = record { words = opening_words w (words_of opening); asker = new_asker a opening; answerer = record { m = b; device = start; done = [] } }

  abbrev pub with_asking : State → Ask → State
  with_asking s a = record s { asker = record s.asker { m = a } }

  -- the asking end makes its next word step, with the value that it finds
  abbrev pub ask_steps : State → State
  ask_steps s = let x = s.asker in let action = ask_next x.m in record s { words = act action s.words; asker = asker_fed x (found action s.words) }

  -- the answering end makes its next word step; the load of the last word of the block executes the command too
  abbrev pub answer_steps : State → State
  answer_steps s = let y = s.answerer in let action = answer_next y.m in record s {
    words = act action s.words;
    answerer = answerer_fed exec y
        (found action s.words);
  }

  pub data Reached : State → Type 0 where
    at_first : (a : Ask) (b : Answer) → IsNewAsk a w opening → AskOk a → IsNewAnswer b w → AnswerOk b → Reached (opened_with a b)
    sets_budget : (s : State) (polls : ℕ) → Reached s → s.asker.m.stage ≡ AskRest → Reached (with_asking s (ask_budgeted s.asker.m polls))
    begins_post : (s : State) (code : ℕ) (bytes : List ℕ) → Reached s → MayPost s.asker.m code bytes → Reached
        (record s { asker = asker_begun s.asker code bytes })
    begins_look : (s : State) → Reached s → MayLook s.asker.m → Reached (with_asking s (ask_looking s.asker.m))
    begins_answer : (s : State) → Reached s → s.answerer.m.stage ≡ AnswerRest → Reached
        (record s { answerer = record s.answerer { m = answer_begun s.answerer.m } })
    -- words have 64 bits
    steps_ask : (s : State) → Reached s → found (ask_next s.asker.m) s.words < 2 ^ 64 → Reached (ask_steps s)
    steps_answer : (s : State) → Reached s → found (answer_next s.answerer.m) s.words < 2 ^ 64 → Reached (answer_steps s)

  -- each input of a history is the output before it with the asked bytes over its front
  abbrev pub FollowsAsked : List Exchange → List (List ℕ) → Type 0
  FollowsAsked history asked = WholeHistory opening history (take (length history) asked)

  pub record IsSound (s : State) : Type 0 where
    -- the words, the asking end and the answering end agree
    pub agree : Agree exec start s.words s.asker s.answerer
    -- the asking end's history is the answering end's, or all of it but the last command
    pub histories : (s.answerer.done ≡ s.asker.done) ⊎ ((e : Exchange) × (s.answerer.done ≡ s.asker.done ++ e ∷ []))
    pub legal : Legal exec w.reports start s.answerer.done
    pub drained : FollowsAsked s.asker.done s.asker.asked
    pub executed : FollowsAsked s.answerer.done s.asker.asked

-- every state that is reached is sound, whatever list of calls and steps led to it
abbrev pub ReachedIsSound : Device → (List ℕ → Type 0) → (List ℕ → ℕ) → Type 0
ReachedIsSound exec is_state room_of = (w : Wiring) (start opening : List ℕ) (s : State) → is_state start → room_of start ≡ w.room
    → IsBytes opening → Reached exec w start opening s → IsSound exec w start opening s
