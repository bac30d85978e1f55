-- The headline of a channel whose words both ends step through.
use Rattle.std.specs.Prelude.{◌≤◌, ℕ, ◌+◌, List, length, take, Option}
use Rattle.std.specs.List.{filter}
use Rattle.pcc_history.specs.Devices.{Device}
use Rattle.rate_limit.specs.declared.Limits.{Limits}
use Rattle.pcc_journal.specs.declared.record.Record.{Record}
use Rattle.pcc_journal.specs.Events.{noted, noted_pending}
use Rattle.pcc_journal.specs.Records.{exchanges_of}
use Rattle.pcc_steps.specs.declared.wiring.Wiring.{Wiring}
use Rattle.channel_core.specs.declared.sent.Sent.{Sent}
use Rattle.channel_plain.specs.declared.trace.Asked.{Asked}
use Rattle.channel_plain.specs.declared.trace.TraceLine.{TraceLine}
use Rattle.channel_core.specs.Sendings.{command_of}
use Rattle.channel_plain.specs.WordRuns.{asked_line}
use Rattle.channel_headline.specs.Causes.{Terms}
use Rattle.channel_headline.specs.Headline.{Headline, NotedJournal}
use Rattle.channel_headline.specs.Lines.{asked_along, asked_by}
use Rattle.weave_headline.specs.TraceLog.{TraceLog, lines_in, log_of}

-- a channel with this wiring and these limits, whose clock gave no reading before
abbrev pub terms_of : Device → Wiring → Limits → List ℕ → List ℕ → Terms
terms_of exec w limits start opening = record {
  kind = w.kind;
  room = w.room;
  device = exec;
  state = start;
  opening = opening;
  reports = w.reports;
  limits = limits;
  before = 0;
}

abbrev pub trace_log : Wiring → List Asked → List TraceLine → TraceLog
trace_log w calls trace = log_of w calls (filter (asked_line w.kind) trace)

-- the records and the command in flight, with the notes of the log
abbrev pub journal_of : TraceLog → List Record → Option Sent → NotedJournal
journal_of s records sent = record { entries = noted records s.notes; pending = noted_pending (command_of sent) s.flight }

-- The headline of a channel, by its wiring and limits, its calls, its trace with the readings that it took, and what is left of it. The lines and
-- the notes are those of the trace. A post that is cut before its end has taken one reading more, which is last and is no command's. The bytes
-- asked are those of the lines that were posted, along the records.
pub record WordHeadline (exec : Device) (w : Wiring) (limits : Limits) (start opening : List ℕ) (calls : List Asked) (trace : List TraceLine)
    (readings : List ℕ) (records : List Record) (sent : Option Sent) : Type 0 where
  pub kept : let s = trace_log w calls trace in
      Headline (terms_of exec w limits start opening) (take s.taken readings)
      (asked_along opening (exchanges_of records) (asked_by (lines_in w calls s))) (lines_in w calls s) (journal_of s records sent)
  pub more : let s = trace_log w calls trace in (s.taken ≤ length readings) × (length readings ≤ s.taken + 1)
