-- What `make N` prints: how many calls of a run got which reply, and what its journals hold.
use Rattle.std.specs.Prelude.{◌≡◌, ◌≤◌, ℕ, ◌+◌, true, false, List, [], ◌∷◌, length, fold, sum, sum_by, Option, Some, None, codes}
use Rattle.std.specs.List.{flat_map}
use Rattle.pcc_journal.specs.declared.record.Record.{Record}
use Rattle.pcc_script.specs.Made.{made_scenario_of}
use Rattle.pcc_setup.specs.SetUps.{Opens}
use Rattle.pcc_setup.specs.declared.opening.Opened.{Opened}
use Rattle.pcc_text.specs.Pieces.{Spelled, Words, Decimal, spelled}
use Rattle.channel_turns.specs.ChannelRuns.{Channel, count_in_flight}
use Rattle.channel_turns.specs.Replies.{Done, StillPending, TimedOut}
use Rattle.channel_headline.specs.Asked.{LineReply, Replied}
use Rattle.script_run.specs.declared.counts.Counts.{Counts}
use Rattle.script_run.specs.Headlines.{AreHeadlines, own_reply}
use Rattle.script_run.specs.ScriptRuns.{asks_of, run_of}
use Rattle.script_run.specs.StepRun.{Run, ShownReply}

-- ---- counts of replies

abbrev pub none_counted : Counts
none_counted = record { ok = 0; error = 0; timed_out = 0; still_pending = 0; other = 0 }

-- one reply more
abbrev pub added : Counts → LineReply → Counts
added c (Replied (Done false output)) = record c { ok = c.ok + 1 }
added c (Replied (Done true output)) = record c { error = c.error + 1 }
added c (Replied (TimedOut looks)) = record c { timed_out = c.timed_out + 1 }
added c (Replied (StillPending looks)) = record c { still_pending = c.still_pending + 1 }
added c _ = record c { other = c.other + 1 }

-- numbers that are shown count as their command; a line without a reply counts for nothing
abbrev pub counted : Counts → Option ShownReply → Counts
counted c None = c
counted c (Some reply) = added c (own_reply reply)

abbrev pub counts_of : List (Option ShownReply) → Counts
counts_of rs = fold counted none_counted rs

-- each count is so much at most
pub record IsUnder (limit : ℕ) (c : Counts) : Type 0 where
  pub ok : c.ok ≤ limit
  pub error : c.error ≤ limit
  pub timed_out : c.timed_out ≤ limit
  pub still_pending : c.still_pending ≤ limit
  pub other : c.other ≤ limit

-- ---- journals

-- the sum of all bytes of the outputs
abbrev pub output_sum : List Record → ℕ
output_sum records = sum_by (λ r. sum r.output) records

abbrev pub records_of : List Channel → List Record
records_of channels = flat_map (λ c. c.now.records) channels

abbrev pub count_pending : List Channel → ℕ
count_pending channels = sum_by (λ c. count_in_flight c.now.in_flight) channels

-- ---- the text

abbrev pub summary_pieces : ℕ → Counts → List Record → ℕ → List Spelled
summary_pieces calls c records pending =
    Words (codes "calls ") ∷ Decimal calls ∷ Words (codes "\nok ") ∷ Decimal c.ok ∷ Words (codes "\nerror ") ∷ Decimal c.error
    ∷ Words (codes "\ntimed out ") ∷ Decimal c.timed_out ∷ Words (codes "\nstill pending ") ∷ Decimal c.still_pending
    ∷ Words (codes "\nother ") ∷ Decimal c.other ∷ Words (codes "\nrecords ") ∷ Decimal (length records)
    ∷ Words (codes "\npending ") ∷ Decimal pending ∷ Words (codes "\nsum ") ∷ Decimal (output_sum records) ∷ Words (codes "\n") ∷ []

unfoldable pub summary_text : ℕ → Run → List ℕ
summary_text calls run = spelled (summary_pieces calls (counts_of run.replies) (records_of run.channels) (count_pending run.channels))

-- ---- a made-up run

-- the text is the summary of the run of a made-up scenario with this number of calls, which has no processors; its journals keep the headline
pub record IsSummary (n : ℕ) (text : List ℕ) : Type 0 where
  pub opened : List Opened
  pub opens : Opens (made_scenario_of n) opened
  pub headline : AreHeadlines (asks_of (made_scenario_of n) []) (run_of (made_scenario_of n) opened [])
  pub text_is : text ≡ summary_text n (run_of (made_scenario_of n) opened [])
