-- A channel that is called in one thread, one call after the other, with waits between, and the headline of its journal.
use Rattle.std.specs.Prelude.{ℕ, ◌+◌, List, [], ◌∷◌}
use Rattle.pcc_journal.specs.Events.{noted, noted_pending}
use Rattle.pcc_journal.specs.Records.{exchanges_of}
use Rattle.channel_turns.specs.ChannelRuns.{Call, ChannelStart, ChannelState, answer_call, pending_of}
use Rattle.channel_headline.specs.Causes.{Terms}
use Rattle.channel_headline.specs.ChannelLog.{ChannelLine, ChannelLog, Called, Waited, Wished, log_of}
use Rattle.channel_headline.specs.Headline.{Headline, NotedJournal}
use Rattle.channel_headline.specs.Lines.{asked_along, asked_by}
use Rattle.channel_headline.specs.WishCalls.{WishCall, answer_wish}

-- what is done with a channel: it is called, a wish is set, or its clock is moved up
pub data ChannelStep : Type 0 where
  Calls : Call → ChannelStep
  Sets : WishCall → ChannelStep
  Waits : ℕ → ChannelStep

-- the lines with their replies, and how the channel is left
pub record ChannelRun : Type 0 where
  pub lines : List ChannelLine
  pub now : ChannelState

abbrev pub run_from : ChannelStart → ChannelState → List ChannelStep → ChannelRun
run_from start now [] = record { lines = []; now = now }
run_from start now (Waits n ∷ steps) =
    let r = run_from start (record now { added = now.added + n }) steps in record { lines = Waited n ∷ r.lines; now = r.now }
run_from start now (Calls c ∷ steps) =
    let a = answer_call start c now in
    let r = run_from start a.now steps in
    record { lines = Called c a.reply ∷ r.lines; now = r.now }
run_from start now (Sets w ∷ steps) =
    let a = answer_wish start w now in
    let r = run_from start a.now steps in
    record { lines = Wished w a.reply ∷ r.lines; now = r.now }

abbrev pub terms_of : ChannelStart → Terms
terms_of start = record {
  kind = start.head.kind;
  room = start.head.room;
  device = start.device;
  state = start.state;
  opening = start.opening;
  reports = start.head.reports;
  limits = start.head.limits;
  before = 0;
}

-- the records and the command in flight, with the notes of the log
abbrev pub journal_of : ChannelLog → ChannelState → NotedJournal
journal_of s now = record { entries = noted now.records s.notes; pending = noted_pending (pending_of now.in_flight) s.flight }

-- The headline of a channel in one thread, by its start, its lines with their replies, and what is left of it. The bytes asked are those of the
-- lines that were posted, each made along the records.
abbrev pub HeadlineOf : ChannelStart → List ChannelLine → ChannelState → Type 0
HeadlineOf start lines now =
    let s = log_of start.clock lines in
    Headline (terms_of start) s.readings (asked_along start.opening (exchanges_of now.records) (asked_by s.calls)) s.calls (journal_of s now)
