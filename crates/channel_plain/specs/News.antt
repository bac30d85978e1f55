-- A channel that nothing was asked of.
use Rattle.std.specs.Prelude.{◌≡◌, ℕ, false, List, [], None, replicate}
use Rattle.shmem_header.specs.Spelling.{words_of}
use Rattle.rate_limit.specs.declared.Limits.{Limits}
use Rattle.pcc_steps.specs.declared.wiring.Wiring.{Wiring}
use Rattle.pcc_steps.specs.Wires.{opening_words}
use Rattle.pcc_steps.specs.Asking.{IsNewAsk}
use Rattle.pcc_steps.specs.Answering.{IsNewAnswer}
use Rattle.channel_plain.specs.Picks.{CallsState, PlainState}

-- the space before the first step: zeros
abbrev pub opening_of : Wiring → List ℕ
opening_of w = replicate w.room 0

abbrev pub no_calls : Limits → CallsState
no_calls l = record { limits = l; records = []; notes = []; sent = None; readings = 0; ended = 0; begun = false }

-- both ends at rest over the opening content, a device in this state, and no call
pub record IsNew (w : Wiring) (l : Limits) (d : List ℕ) (s : PlainState) : Type 0 where
  pub words : s.words ≡ opening_words w (words_of (opening_of w))
  pub ask : IsNewAsk s.ask w (opening_of w)
  pub answer : IsNewAnswer s.answer w
  pub device : s.device ≡ d
  pub start : s.start ≡ d
  pub calls : s.calls ≡ no_calls l
  pub executed : s.executed ≡ []
