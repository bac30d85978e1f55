-- The words, both machines and the device of a channel that is opened.
use Rattle.std.specs.Prelude.{◌≡◌, ℕ, List}
use Rattle.pcc_bytes.specs.Bytes.{IsBytes}
use Rattle.shmem_header.specs.Spelling.{words_of}
use Rattle.pcc_steps.specs.declared.wiring.Wiring.{Wiring}
use Rattle.pcc_steps.specs.Wires.{opening_words}
use Rattle.pcc_steps.specs.Asking.{AskOk, IsNewAsk}
use Rattle.pcc_steps.specs.Answering.{AnswerOk, IsNewAnswer}
use Rattle.channel_turns.specs.Standing.{LinkState}

-- nothing was asked yet
pub record IsNewLink (is_state : List ℕ → Type 0) (room_of : List ℕ → ℕ) (w : Wiring) (device opening : List ℕ) (l : LinkState) : Type 0 where
  pub words : l.words ≡ opening_words w (words_of opening)
  pub ask : IsNewAsk l.ask w opening
  pub ask_ok : AskOk l.ask
  pub answer : IsNewAnswer l.answer w
  pub answer_ok : AnswerOk l.answer
  pub device_is : l.device ≡ device
  pub state : is_state device
  pub bytes : IsBytes opening
