-- Outcomes of calls, and the replies that they mean.
use Rattle.std.specs.Prelude.{◌≡◌, ◌<◌, ℕ, List, Some, slice_get}
use Rattle.pcc_journal.specs.declared.record.Record.{Record}
use Rattle.channel_turns.specs.Replies.{Reply, Done, BadCode, TooLong, JournalFull, StillPending, TooSoon, TimedOut}
use Rattle.channel_turns.specs.declared.outcome.Outcome.{Outcome}
use Rattle.channel_turns.specs.declared.outcome.Outcome.TheVariants as outcome

-- the outcome of a call means its reply: that of an executed one has the error and the output of its record
abbrev pub StandsFor : List Record → Outcome → Reply → Type 0
StandsFor records (outcome.Done place) reply = (r : Record) × (slice_get records place ≡ Some r) × (reply ≡ Done r.error r.output)
StandsFor records (outcome.BadCode code) reply = reply ≡ BadCode code
StandsFor records (outcome.TooLong len room) reply = reply ≡ TooLong len room
StandsFor records outcome.JournalFull reply = reply ≡ JournalFull
StandsFor records (outcome.StillPending looks) reply = reply ≡ StillPending looks
StandsFor records (outcome.TooSoon now earliest) reply = reply ≡ TooSoon now earliest
StandsFor records (outcome.TimedOut looks) reply = reply ≡ TimedOut looks

-- the place that an outcome names is below the length of the journal
abbrev pub IsPlaced : ℕ → Outcome → Type 0
IsPlaced len (outcome.Done place) = place < len
IsPlaced len _ = Unit {0}
