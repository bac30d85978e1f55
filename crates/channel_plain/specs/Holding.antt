-- What the parts of a channel hold, and what a post and a step's outcome make of the calls.
use Rattle.std.specs.Prelude.{◌≡◌, ◌<◌, ◌-◌, ◌^◌, ℕ, Bool, true, false, List, Option, Some, None}
use Rattle.rate_limit.specs.declared.Limits.{Limits}
use Rattle.pcc_steps.specs.declared.ask.AskOutcome.{AskOutcome}
use Rattle.pcc_steps.specs.declared.ask.AskOutcome.TheVariants.{Posted, Clear, Drained}
use Rattle.channel_core.specs.CommandHistory.{CommandHistory}
use Rattle.channel_core.specs.Readings.{Reads}
use Rattle.channel_core.specs.Sendings.{FliesWith}
use Rattle.channel_core.specs.declared.sent.Sent.{Sent}
use Rattle.channel_plain.specs.declared.trace.Asked.{Asked}
use Rattle.channel_plain.specs.declared.trace.TraceEnd.{TraceEnd}
use Rattle.channel_plain.specs.Picks.{CallsState, call_begun, call_ended, call_posted, read_once, soon_end}

-- a call that is begun can be counted when it ends
abbrev pub MayEnd : Bool → ℕ → Type 0
MayEnd true ended = ended < 2 ^ 64 - 1
MayEnd false ended = Unit {0}

-- what is seen of a history; memory that was taken ahead is not
abbrev pub calls_of : Limits → CommandHistory → ℕ → ℕ → Bool → CallsState
calls_of limits h readings ended begun = record {
  limits = limits;
  records = h.records;
  notes = h.notes;
  sent = h.sent;
  readings = readings;
  ended = ended;
  begun = begun;
}

-- the calls, with the clock of their readings
pub record ClockedCalls (K : Type 0) : Type 0 where
  pub calls : CallsState
  pub clock : K

-- ---- readings

-- the clock gives its next reading, or none is taken
abbrev pub Takes : {K : Type 0} → (K → ℕ) → (K → ℕ → Option ℕ) → K → K → Bool → ℕ → Type 0
Takes taken reports old new false reading = new ≡ old
Takes taken reports old new true reading = Reads taken reports old new reading

-- ---- a post

pub record Tried : Type 0 where
  pub calls : CallsState
  pub end : Option TraceEnd

-- is the reading below the earliest?
abbrev pub tried_by : Option TraceEnd → Asked → List ℕ → ℕ → CallsState → Tried
tried_by (Some e) c space reading b = record { calls = call_ended (read_once b); end = Some e }
tried_by None c space reading b = record { calls = call_posted c space reading (call_begun b); end = None }

abbrev pub tried : Asked → List ℕ → ℕ → CallsState → Tried
tried c space reading b = tried_by (soon_end reading b) c space reading b

abbrev pub FliesIf : Option AskOutcome → Option Sent → ℕ → Type 0
FliesIf (Some (Drained error)) sent room = FliesWith sent room
FliesIf (Some Posted) sent room = Unit {0}
FliesIf (Some Clear) sent room = Unit {0}
FliesIf None sent room = Unit {0}
