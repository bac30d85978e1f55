-- The channels of the opened subspaces, in the order of their lines.
use Rattle.std.specs.Prelude.{◌≡◌, ◌≢◌, ◌≤◌, ℕ, ◌-◌, ◌*◌, ◌^◌, ◌==◌, Bool, true, List, [], ◌∷◌, map}
use Rattle.std.specs.List.{AllByRecursion, list_any}
use Rattle.pcc_history.specs.Devices.{bank_exec}
use Rattle.pcc_journal.specs.declared.text.JournalHead.{JournalHead}
use Rattle.pcc_script.specs.Limits.{IsAction}
use Rattle.pcc_script.specs.declared.scenario.Line.{Line}
use Rattle.pcc_setup.specs.declared.opening.Opened.{Opened}
use Rattle.pcc_setup.specs.Openings.{zeros_in}
use Rattle.cpc_package.specs.Bindings as bindings
use Rattle.cpc_package.specs.Bindings.{LiesIn}
use Rattle.cpc_package.specs.declared.binding.Binding.{Binding}
use Rattle.pcc_steps.specs.Wires.{IsRight}
use Rattle.channel_core.specs.Readings.{more_time}
use Rattle.channel_turns.specs.ChannelRuns.{Channel, ChannelStart, ScriptClock, fresh}
use Rattle.channel_turns.specs.Standing.{IsHeadOf}
use Rattle.script_run.specs.LineOutcomes.{IsShownAs}
use Rattle.script_run.specs.StepRun.{Ask, Asks, LineAsk, Moves, Nothing, OfCall, OfRead, OfWish, answer, ask_of}
use Rattle.script_run.specs.declared.outcome.LineAnswer.{LineAnswer}

-- ---- one channel

-- nothing was asked of it yet
abbrev pub fresh_channel : ChannelStart → Channel
fresh_channel start = record { start = start; now = fresh start }

-- a Bank and a communication space of zeros
abbrev pub bank_start : JournalHead → ScriptClock → ChannelStart
bank_start head clock = record { head = head; clock = clock; device = bank_exec; state = 0 ∷ zeros_in head; opening = zeros_in head }

-- both ends can work with what is opened
pub record IsWired (o : Opened) : Type 0 where
  pub right : IsRight o.wiring
  pub head : IsHeadOf o.head o.wiring

-- its clock is moved up, as far as it goes
abbrev pub moved_up : ℕ → Channel → Channel
moved_up n c = record c { now = record c.now { added = more_time n c.now.added } }

-- this answer to an ask stands for its reply, and the ask leaves the channel so
pub record IsAnsweredBy (old : Channel) (ask : Ask) (new : Channel) (shown : LineAnswer) : Type 0 where
  pub reply : let a = answer old.start ask old.now in IsShownAs a.now.records shown a.reply
  pub left : new ≡ record old { now = (answer old.start ask old.now).now }

-- it has given at most three readings a line, and its clock was moved up by at most the greatest number a line
pub record IsEarly (lines : ℕ) (c : Channel) : Type 0 where
  pub taken : c.now.taken ≤ 3 * lines
  pub added : c.now.added ≤ (2 ^ 64 - 1) * lines

-- ---- all channels

abbrev pub id_of : Channel → ℕ
id_of c = c.start.head.id

abbrev pub ids_of : List Channel → List ℕ
ids_of channels = map id_of channels

-- no number occurs twice
abbrev pub AreDistinct : List ℕ → Type 0
AreDistinct [] = Unit {0}
AreDistinct (n ∷ ns) = AllByRecursion (λ m. n ≢ m) ns × AreDistinct ns

-- what stays of the channels
abbrev pub starts_of : List Channel → List ChannelStart
starts_of channels = map (λ c. c.start) channels

-- one of them has this ID
abbrev pub is_on : ℕ → List ChannelStart → Bool
is_on id starts = list_any (λ s. s.head.id == id) starts

-- the fields of a processor lie in a space of room bytes
abbrev pub Suits : ℕ → Ask → Type 0
Suits room (OfCall call) = Unit {0}
Suits room (OfRead r) = bindings.IsRight r.binding × LiesIn room r.binding
Suits room (OfWish w) = bindings.IsRight w.binding × LiesIn room w.binding

-- something is asked of one of the channels, and of a processor of its space
abbrev pub CanAsk : List ChannelStart → LineAsk → Type 0
CanAsk starts (Asks id ask) = (is_on id starts ≡ true) × AllByRecursion (λ s. s.head.id ≡ id → Suits s.head.room ask) starts
CanAsk starts (Moves n) = Unit {0}
CanAsk starts Nothing = ⊥

-- channels with these starts can run a line, which may name these processors
pub record CanRun (cpus : List Binding) (starts : List ChannelStart) (l : Line) : Type 0 where
  pub within : IsAction l
  pub asks : CanAsk starts (ask_of cpus l)
