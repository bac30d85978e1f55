-- What holds of the words and both machines between two calls, and what is seen of them.
use Rattle.std.specs.Prelude.{◌≡◌, ◌<◌, ◌+◌, ℕ, Bool, true, false, List, [], ◌∷◌, ◌++◌, length, Option, Some, None}
use Rattle.pcc_history.specs.Devices.{Device}
use Rattle.pcc_history.specs.Channel.{Exchange, exchange_of}
use Rattle.pcc_history.specs.Histories.{state_after}
use Rattle.pcc_io.specs.LineClocks.{LineState}
use Rattle.pcc_journal.specs.declared.record.Record.{Record}
use Rattle.pcc_journal.specs.declared.record.Pending.{Pending}
use Rattle.pcc_journal.specs.declared.text.JournalHead.{JournalHead}
use Rattle.pcc_journal.specs.Records.{exchanges_of}
use Rattle.channel_core.specs.CommandHistory.{CommandHistory}
use Rattle.pcc_steps.specs.declared.ask.AskStage.TheVariants.{AskRest}
use Rattle.pcc_steps.specs.declared.answer.AnswerStage.TheVariants.{AnswerRest}
use Rattle.pcc_steps.specs.declared.wiring.Wiring.{Wiring}
use Rattle.pcc_steps.specs.Wires.{block_of}
use Rattle.pcc_steps.specs.Asking.{Ask}
use Rattle.pcc_steps.specs.Answering.{Answer}
use Rattle.pcc_steps.specs.Agree.{Asker, Answerer, Agree}
use Rattle.channel_turns.specs.EndsStates.{EndsState}

-- the words, both machines, and the device's state
pub record LinkState : Type 0 where
  pub words : List ℕ
  pub ask : Ask
  pub answer : Answer
  pub device : List ℕ

-- the machine has the command that is in flight
abbrev pub Carries : Option Pending → Ask → Type 0
Carries None a = a.in_flight ≡ false
Carries (Some p) a = (a.in_flight ≡ true) × (a.code ≡ p.code) × (a.input ≡ p.input)

-- some looks are allowed for a command in flight
abbrev pub Allows : Option Pending → ℕ → Type 0
Allows None budget = Unit {0}
Allows (Some p) budget = 0 < budget

-- nothing is executed where nothing is in flight
abbrev pub IsExecutedIn : Option Pending → Bool → Type 0
IsExecutedIn None executed = executed ≡ false
IsExecutedIn (Some p) executed = Unit {0}

-- the head of the journal has the facts of the wiring
pub record IsHeadOf (head : JournalHead) (w : Wiring) : Type 0 where
  pub id : w.id ≡ head.id
  pub kind : w.kind ≡ head.kind
  pub room : w.room ≡ head.room
  pub reports : w.reports ≡ head.reports

-- the exchange of an executed command
abbrev pub waits : Bool → Exchange → List Exchange
waits true x = x ∷ []
waits false x = []

module _ (exec : Device) where
  -- the device's state after the recorded commands
  abbrev pub state_of : List ℕ → List Record → List ℕ
  state_of first records = state_after exec first (exchanges_of records)

  -- what is seen
  abbrev pub seen : JournalHead → LineState → List ℕ → List ℕ → LinkState → CommandHistory → Bool → ℕ → EndsState
  seen head clock first opening p h executed hold = record {
    head = head;
    wiring = p.ask.wiring;
    clock = record { start = clock.start; step = clock.step };
    first = first;
    opening = opening;
    object = record { state = state_of first h.records; space = p.ask.space };
    history = h;
    executed = executed;
    taken = clock.taken;
    added = clock.added;
    hold = hold;
    budget = p.ask.budget;
    looks = p.ask.looks;
  }

  module _ (head : JournalHead) (first opening : List ℕ) where
    -- the exchange of a command after the recorded ones, executed or not
    abbrev pub exchange_after : List Record → Pending → Exchange
    exchange_after records p = exchange_of exec head.reports (state_of first records) p.code p.input

    -- what is executed and not drained
    abbrev pub waiting : List Record → Option Pending → Bool → List Exchange
    waiting records None executed = []
    waiting records (Some p) executed = waits executed (exchange_after records p)

    abbrev pub asker_of : LinkState → List Record → ℕ → List (List ℕ) → Asker
    asker_of p records clears asked = record { m = p.ask; done = exchanges_of records; clears = clears; opening = opening; asked = asked }

    -- the history of the answering end: the recorded commands, and what waits
    abbrev pub answerer_of : LinkState → List Record → Option Pending → Bool → Answerer
    answerer_of p records flight executed = record { m = p.answer; device = p.device; done = exchanges_of records ++ waiting records flight executed }

    module _ (is_state : List ℕ → Type 0) (room_of : List ℕ → ℕ) where
      pub record Stands (p : LinkState) (records : List Record) (flight : Option Pending) (executed : Bool) : Type 0 where
        -- the relation of the words with both ends, which both rest
        pub clears : ℕ
        pub asked : List (List ℕ)
        pub agree : Agree exec first p.words (asker_of p records clears asked) (answerer_of p records flight executed)
        pub rests : p.ask.stage ≡ AskRest
        pub quiet : p.answer.stage ≡ AnswerRest
        pub long : length p.words ≡ 8 + block_of p.ask.wiring
        pub start : is_state first
        pub room : room_of first ≡ p.ask.wiring.room
        pub wired : IsHeadOf head p.ask.wiring
        pub carries : Carries flight p.ask
        pub allows : Allows flight p.ask.budget
        pub executes : IsExecutedIn flight executed
