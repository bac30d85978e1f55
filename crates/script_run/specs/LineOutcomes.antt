-- The outcome of a line.
use Rattle.std.specs.Prelude.{◌≡◌, ℕ, List, length, Option, Some, None, slice_get}
use Rattle.pcc_journal.specs.declared.record.Record.{Record}
use Rattle.cpc_package.specs.declared.binding.Binding.{Binding}
use Rattle.cppc_device.specs.Ranges.{values_in}
use Rattle.channel_turns.specs.Outcomes.{IsPlaced, StandsFor}
use Rattle.channel_turns.specs.Replies.{Reply}
use Rattle.channel_headline.specs.Asked.{Refused, Replied}
use Rattle.script_run.specs.DeviceChannels.{channel_of}
use Rattle.script_run.specs.StepRun.{ByChannel, ShownReply, Values}
use Rattle.script_run.specs.declared.channel.DeviceChannel.{DeviceChannel}
use Rattle.script_run.specs.declared.outcome.LineAnswer.{LineAnswer}
use Rattle.script_run.specs.declared.outcome.LineAnswer.TheVariants as line_answer
use Rattle.script_run.specs.declared.outcome.LineOutcome.{LineOutcome}

-- an answer stands for this reply, by the records of its channel
abbrev pub IsShownAs : List Record → LineAnswer → ShownReply → Type 0
IsShownAs records (line_answer.Called outcome) reply = (r : Reply) × (reply ≡ ByChannel (Replied r)) × StandsFor records outcome r
IsShownAs records (line_answer.Read values) reply = (binding : Binding) × (output : List ℕ) × (reply ≡ Values binding output)
    × (values.entries ≡ values_in binding output)
IsShownAs records (line_answer.Refused why) reply = reply ≡ ByChannel (Refused why)

-- the place of a record that an answer names is below the length of the journal
abbrev pub IsPlacedIn : ℕ → LineAnswer → Type 0
IsPlacedIn len (line_answer.Called outcome) = IsPlaced len outcome
IsPlacedIn len _ = Unit {0}

-- the outcome of a line stands for this reply, by the records of its channel; a line without a reply has none
abbrev pub IsOutcomeOf : Option ShownReply → List DeviceChannel → Option LineOutcome → Type 0
IsOutcomeOf reply channels None = reply ≡ None
IsOutcomeOf reply channels (Some o) = (d : DeviceChannel) × (slice_get channels o.place ≡ Some d) × IsPlacedIn (length (channel_of d).now.records) o.answer
    × ((r : ShownReply) × (reply ≡ Some r) × IsShownAs (channel_of d).now.records o.answer r)

-- it stands for some reply
abbrev pub HasReply : List DeviceChannel → Option LineOutcome → Type 0
HasReply channels outcome = (reply : Option ShownReply) × IsOutcomeOf reply channels outcome
