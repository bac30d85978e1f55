-- The headline: what the journal of one channel is worth, by the call lines of its callers and their replies. There is no machine, no word and
-- no run in it: any program that leaves a journal and replies can be held to it.
use Rattle.std.specs.Prelude.{◌≡◌, ◌≤◌, ℕ, ◌+◌, ◌*◌, length, List, Option, Some, None}
use Rattle.std.specs.List.{AllByRecursion}
use Rattle.pcc_history.specs.Histories.{Legal, WholeHistory}
use Rattle.rate_limit.specs.RateLimits.{WithinLimits}
use Rattle.pcc_journal.specs.declared.reserved.TheConstants.{MAX_ITEMS}
use Rattle.pcc_journal.specs.Records.{exchanges_of, times_of}
use Rattle.pcc_journal.specs.Events.{Event, Noted, NotedPending, events_of, post_count, records_of}
use Rattle.channel_headline.specs.After.{IsRead, Rise, numbers_in}
use Rattle.channel_headline.specs.Causes.{AllCaused, Terms}
use Rattle.channel_headline.specs.Lines.{AreEnded, CallLine, soon_lines, soon_numbers}
use Rattle.channel_headline.specs.Matches.{Tied}

-- the records, the first one first, each with its note, and the command that is pending
pub record NotedJournal : Type 0 where
  pub entries : List Noted
  pub pending : Option NotedPending

-- the post of the pending command
abbrev pub pending_post : Option NotedPending → Option ℕ
pending_post None = None
pending_post (Some p) = Some p.command.post

abbrev pub pending_count : Option NotedPending → ℕ
pending_count None = 0
pending_count (Some p) = 1

abbrev pub journal_events : Terms → NotedJournal → List Event
journal_events t j = events_of t.before j.entries j.pending

-- The records are one legal history of the channel as one thread sees it. Each command was sent whole, with the bytes asked. The posts are
-- within the limits, that of the pending command included, and there are 4,096 at most. At most the last line has no reply. The calls of each
-- caller match its lines, and the reply of each line has its cause. Posts and completions are the clock's readings with their numbers, which
-- rise; so do the numbers of each caller's replies `too soon`; and the clock gave no other readings.
pub record Headline (t : Terms) (readings : List ℕ) (asked : List (List ℕ)) (lines : List CallLine) (j : NotedJournal) : Type 0 where
  pub legal : Legal t.device t.reports t.state (exchanges_of (records_of j.entries))
  pub whole : WholeHistory t.opening (exchanges_of (records_of j.entries)) asked
  pub within : WithinLimits t.limits (times_of (records_of j.entries)) (pending_post j.pending)
  pub most : post_count (journal_events t j) ≤ MAX_ITEMS
  pub ended : AreEnded lines
  pub tied : Tied t.opening lines (journal_events t j)
  pub causes : AllCaused t readings (journal_events t j) lines
  pub read : AllByRecursion (IsRead readings) (journal_events t j)
  pub rise : Rise t.before (numbers_in (journal_events t j)) (length readings)
  pub soon_rise : (caller : ℕ) → Rise t.before (soon_numbers caller lines) (length readings)
  pub count : length readings ≡ t.before + 2 * length j.entries + pending_count j.pending + length (soon_lines lines)
