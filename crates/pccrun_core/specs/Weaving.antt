-- What `weave` prints: the trace of single word steps that the letters of a script pick, and the journal that comes of it.
use Rattle.std.specs.Prelude.{◌≡◌, ◌⊎◌, ◌<◌, ℕ, List, [], ◌∷◌, ◌++◌, length, map, get_or, slice_get, Option, Some}
use Rattle.pcc_causes.specs.Clock.{line_reading}
use Rattle.pcc_history.specs.Channel.{Exchange}
use Rattle.pcc_history.specs.Devices.{bank_exec}
use Rattle.pcc_history.specs.Histories.{Legal}
use Rattle.rate_limit.specs.RateLimits.{WithinLimits}
use Rattle.pcc_journal.specs.declared.record.Record.{Record}
use Rattle.pcc_journal.specs.JournalText.{journal_text}
use Rattle.pcc_journal.specs.Records.{exchanges_of, times_of}
use Rattle.pcc_script.specs.declared.scenario.Letter.{Letter}
use Rattle.pcc_script.specs.declared.scenario.Letter.TheVariants as letter
use Rattle.pcc_script.specs.declared.scenario.Line.{Line}
use Rattle.pcc_script.specs.declared.scenario.Line.TheVariants as line
use Rattle.pcc_script.specs.declared.scenario.Scenario.{Scenario}
use Rattle.pcct_table.specs.declared.subspace.Subspace.{Subspace}
use Rattle.pcct_table.specs.declared.table.Table.{Table}
use Rattle.channel_core.specs.declared.sent.Sent.{Sent}
use Rattle.channel_plain.specs.declared.trace.Asked.{Asked}
use Rattle.channel_plain.specs.declared.trace.Side.{Side}
use Rattle.channel_plain.specs.declared.trace.Side.TheVariants as side
use Rattle.channel_plain.specs.declared.trace.TraceLine.{TraceLine}
use Rattle.channel_core.specs.Sendings.{command_of, post_of}
use Rattle.channel_plain.specs.TraceText.{trace_text}
use Rattle.channel_plain.specs.Wholes.{IsWhole}
use Rattle.channel_plain.specs.WordRuns.{WordRun}
use Rattle.pcc_notify.specs.Notices.{AreNotices, posts_of}
use Rattle.weave_headline.specs.WordHeadline.{WordHeadline}
use Rattle.pcc_wiring.specs.Wirings.{wiring_with}
use Rattle.pcc_setup.specs.declared.opening.Opened.{Opened}
use Rattle.pcc_setup.specs.Openings.{head_on, zeros_in}
use Rattle.pcc_script.specs.declared.scenario.OpenLine.{OpenLine}

-- ---- the calls and the picks

-- the call of a line; the script has no other lines
abbrev pub asked_by : Line → Asked
asked_by (line.Call worker subspace code bytes polls hold) = record { caller = worker; code = code; bytes = bytes; polls = polls }
asked_by _ = record { caller = 0; code = 0; bytes = []; polls = 0 }

abbrev pub side_of : Letter → Side
side_of letter.O = side.System
side_of letter.P = side.Platform

-- ---- the trace and its journal

-- each reading is the one of its number that the script's clock gives
abbrev pub AreReadings : Scenario → List ℕ → Type 0
AreReadings s readings = (k : ℕ) → k < length readings → get_or readings k 0 ≡ line_reading s.start s.step 0 k

-- the executed commands are those that are recorded, or one more, whose reply isn't taken yet
abbrev pub IsAhead : List Exchange → List Exchange → Type 0
IsAhead executed recorded = (executed ≡ recorded) ⊎ ((e : Exchange) × (executed ≡ recorded ++ e ∷ []))

-- The text is a trace and its journal. The trace is a run of single words on the one opened structure, for the calls and the letters of the script,
-- and it leaves these records and this command in flight. They are a legal and whole history and keep the limits, and at most one executed
-- command isn't recorded yet. The executed commands are those that the words hold where the trace posts, in order and each once, but that the last
-- may be not yet executed. The trace and the journal keep the headline.
pub record IsWoven (s : Scenario) (t : Table) (text : List ℕ) : Type 0 where
  pub open_line : OpenLine
  pub opens : s.opens ≡ open_line ∷ []
  pub subspace : Subspace
  pub structure : slice_get t.subspaces open_line.id ≡ Some subspace
  pub letters : List Letter
  pub picks : s.picks ≡ Some letters
  pub trace : List TraceLine
  pub readings : List ℕ
  pub records : List Record
  pub sent : Option Sent
  pub executed : List Exchange
  pub run : WordRun bank_exec (wiring_with open_line.id t.flags subspace) (head_on open_line subspace).limits
      (0 ∷ zeros_in (head_on open_line subspace)) (zeros_in (head_on open_line subspace)) (map asked_by s.actions)
      (map side_of letters) trace readings records sent executed
  pub read : AreReadings s readings
  pub legal : Legal bank_exec (head_on open_line subspace).reports (0 ∷ zeros_in (head_on open_line subspace)) (exchanges_of records)
  pub whole : IsWhole (zeros_in (head_on open_line subspace)) (map asked_by s.actions) records
  pub ahead : IsAhead executed (exchanges_of records)
  pub notices : AreNotices (posts_of (wiring_with open_line.id t.flags subspace) trace) executed (exchanges_of records) (command_of sent)
  pub limits : WithinLimits (head_on open_line subspace).limits (times_of records) (post_of sent)
  pub headline : WordHeadline bank_exec (wiring_with open_line.id t.flags subspace) (head_on open_line subspace).limits
      (0 ∷ zeros_in (head_on open_line subspace)) (zeros_in (head_on open_line subspace)) (map asked_by s.actions)
      trace readings records sent
  pub text_is : text ≡ trace_text trace ++ journal_text (head_on open_line subspace) records (command_of sent)

-- ---- what is woven

abbrev pub IsCall : Line → Type 0
IsCall (line.Call worker subspace code bytes polls hold) = Unit {0}
IsCall _ = ⊥

-- a script opens this subspace alone
pub record IsOpenedAlone (s : Scenario) (t : Table) (o : Opened) : Type 0 where
  pub open_line : OpenLine
  pub opens : s.opens ≡ open_line ∷ []
  pub subspace : Subspace
  pub structure : slice_get t.subspaces open_line.id ≡ Some subspace
  pub head : o.head ≡ head_on open_line subspace
  pub wiring : o.wiring ≡ wiring_with open_line.id t.flags subspace
