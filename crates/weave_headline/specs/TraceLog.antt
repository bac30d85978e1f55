-- The log of a channel whose words both ends step through: its call lines and the notes of its commands, made of nothing but the calls and the
-- trace.
use Rattle.std.specs.Prelude.{ℕ, ◌+◌, Bool, true, false, List, [], ◌∷◌, ◌++◌, length, Option, Some, None}
use Rattle.std.specs.List.{slice_get}
use Rattle.pcc_journal.specs.declared.note.Note.{Note}
use Rattle.pcc_steps.specs.declared.wiring.Wiring.{Wiring}
use Rattle.pcc_steps.specs.declared.wiring.Action.{Action}
use Rattle.pcc_steps.specs.declared.wiring.Action.TheVariants.{Execute, Load, Store, Swap, Rest}
use Rattle.pcc_steps.specs.Runs.{AskEnd, Run, drains, ends, executes, loads, look_run, posts, sees_clear, stores, swaps}
use Rattle.channel_plain.specs.declared.trace.Asked.{Asked}
use Rattle.channel_plain.specs.declared.trace.TraceEnd.{TraceEnd}
use Rattle.channel_plain.specs.declared.trace.TraceEnd.TheVariants as end
use Rattle.channel_plain.specs.declared.trace.TraceLine.{TraceLine}
use Rattle.channel_plain.specs.WordRuns.{replied, rest_of}
use Rattle.channel_turns.specs.Replies.{Reply, Done, BadCode, TooLong, JournalFull, StillPending, TooSoon, TimedOut}
use Rattle.channel_headline.specs.Asked.{LineReply, Replied, These}
use Rattle.channel_headline.specs.Lines.{CallLine}

-- how many readings were taken; the notes of the completed commands, and of one in flight; whether the call of that one hasn't ended; the lines
-- of the calls that ended; and the steps of the run that is under way
pub record TraceLog : Type 0 where
  pub taken : ℕ
  pub notes : List Note
  pub flight : Option Note
  pub unended : Bool
  pub calls : List CallLine
  pub run : List TraceLine

abbrev pub empty_log : TraceLog
empty_log = record { taken = 0; notes = []; flight = None; unended = false; calls = []; run = [] }

-- ---- what a look drained

-- the rest of a run after these steps, by the values that they found
abbrev pub rest_after : Run AskEnd → List TraceLine → Run AskEnd
rest_after run [] = run
rest_after run (l ∷ ls) = rest_after (rest_of run l.value) ls

abbrev pub output_by : Wiring → Run AskEnd → List ℕ
output_by w (ends (drains error block)) = replied w block
output_by w (ends posts) = []
output_by w (ends sees_clear) = []
output_by w (loads place k) = []
output_by w (stores place word k) = []
output_by w (swaps place word k) = []
output_by w (executes code space k) = []

-- the output that a look of these steps has loaded
abbrev pub output_of : Wiring → List TraceLine → List ℕ
output_of w steps = output_by w (rest_after (look_run w) steps)

-- ---- one line of the asking side

-- a rest is no step of a run
abbrev pub step_in : Action → TraceLine → List TraceLine
step_in Rest l = []
step_in (Load place) l = l ∷ []
step_in (Store place word) l = l ∷ []
step_in (Swap place word) l = l ∷ []
step_in (Execute code) l = l ∷ []

abbrev pub line_of : Asked → Option LineReply → ℕ → CallLine
line_of c reply number =
    record { caller = c.caller; code = c.code; asked = These c.bytes; polls = c.polls; reply = reply; number = number }

-- a reply to a call, with the number of its reading where it is `too soon`
abbrev pub with_line : Option Asked → Reply → ℕ → TraceLog → TraceLog
with_line None reply number s = s
with_line (Some c) reply number s =
    record s { unended = false; calls = s.calls ++ line_of c (Some (Replied reply)) number ∷ [] }

-- the command in flight completes, at the next reading
abbrev pub drained_by : Option Note → TraceLog → TraceLog
drained_by None s = s
drained_by (Some n) s = record s { taken = s.taken + 1; notes = s.notes ++ record n { done_at = s.taken } ∷ []; flight = None }

-- the command in flight is given up after N looks
abbrev pub given_up_after : ℕ → Option Note → Option Note
given_up_after looks None = None
given_up_after looks (Some n) = Some (record n { looks = looks })

module _ (w : Wiring) (calls : List Asked) where
  -- the next call that hasn't ended gets this reply
  abbrev pub ended_with : Reply → ℕ → TraceLog → TraceLog
  ended_with reply number s = with_line (slice_get calls (length s.calls)) reply number s

  -- A post and a completion take one reading each, and so does the reply `too soon`. Each reply ends the next call.
  abbrev pub ended_by : TraceEnd → TraceLine → TraceLog → TraceLog
  ended_by end.Open l s = s
  ended_by end.Posted l s =
      record s { taken = s.taken + 1; flight = Some (record { post_at = s.taken; done_at = 0; looks = 0 }); unended = true }
  ended_by (end.Clear looks) l s = s
  ended_by (end.Done error) l s = ended_with (Done error (output_of w (s.run ++ l ∷ []))) 0 (drained_by s.flight s)
  ended_by (end.Late error) l s = drained_by s.flight s
  ended_by (end.TimedOut looks) l s = ended_with (TimedOut looks) 0 (record s { flight = given_up_after looks s.flight })
  ended_by (end.StillPending looks) l s = ended_with (StillPending looks) 0 s
  ended_by (end.TooSoon now earliest) l s = ended_with (TooSoon now earliest) s.taken (record s { taken = s.taken + 1 })
  ended_by (end.BadCode code) l s = ended_with (BadCode code) 0 s
  ended_by (end.TooLong len room) l s = ended_with (TooLong len room) 0 s
  ended_by end.JournalFull l s = ended_with JournalFull 0 s
  ended_by end.Served l s = s
  ended_by end.Idle l s = s

  -- a run goes on as long as nothing ends
  abbrev pub run_after : TraceEnd → TraceLine → List TraceLine → List TraceLine
  run_after end.Open l run = run ++ step_in l.action l
  run_after _ l run = []

  abbrev pub log_end : TraceEnd → TraceLine → TraceLog → TraceLog
  log_end e l s = record (ended_by e l s) { run = run_after e l s.run }

  abbrev pub log_from : TraceLog → List TraceLine → TraceLog
  log_from s [] = s
  log_from s (l ∷ ls) = log_from (log_end l.end l s) ls

  -- the log of the lines of the asking side
  abbrev pub log_of : List TraceLine → TraceLog
  log_of lines = log_from empty_log lines

  -- a call that was posted and hasn't ended is a line without a reply
  abbrev pub open_line : Bool → Option Asked → List CallLine
  open_line true (Some c) = line_of c None 0 ∷ []
  open_line true None = []
  open_line false c = []

  -- the calls that ended, and the one that is posted
  abbrev pub lines_in : TraceLog → List CallLine
  lines_in s = s.calls ++ open_line s.unended (slice_get calls (length s.calls))
