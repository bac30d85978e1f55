-- The log of a channel that is called in one thread: its lines, the readings of its clock and the notes of its commands, made of nothing but the
-- lines of a script and their replies.
use Rattle.std.specs.Prelude.{ℕ, ◌+◌, List, [], ◌∷◌, ◌++◌, length, Option, Some, None}
use Rattle.pcc_causes.specs.Clock.{line_reading}
use Rattle.pcc_journal.specs.declared.note.Note.{Note}
use Rattle.channel_turns.specs.Replies.{Reply, Done, TimedOut, TooSoon}
use Rattle.channel_turns.specs.ChannelRuns.{Call, ScriptClock}
use Rattle.channel_headline.specs.Asked.{Asked, LineReply, Refused, Replied, These, Wishes}
use Rattle.channel_headline.specs.Lines.{CallLine}
use Rattle.channel_headline.specs.WishCalls.{WishCall, write_code}

-- a line of a script as one channel sees it: a call or a wish with its reply, or a wait by which its clock is moved up
pub data ChannelLine : Type 0 where
  Called : Call → Reply → ChannelLine
  Wished : WishCall → LineReply → ChannelLine
  Waited : ℕ → ChannelLine

-- a call as its line says it
pub record LineCall : Type 0 where
  pub caller : ℕ
  pub code : ℕ
  pub asked : Asked
  pub polls : ℕ

abbrev pub of_call : Call → LineCall
of_call c = record { caller = c.caller; code = c.code; asked = These c.bytes; polls = c.polls }

abbrev pub of_wish : WishCall → LineCall
of_wish w = record { caller = w.caller; code = write_code; asked = Wishes w.binding w.wish; polls = w.polls }

-- the time that waits have added to the clock, its readings, the notes of the completed commands and of one in flight, and the call lines
pub record ChannelLog : Type 0 where
  pub added : ℕ
  pub readings : List ℕ
  pub notes : List Note
  pub flight : Option Note
  pub calls : List CallLine

-- the reading of a clock with this number
abbrev pub reading_at : ScriptClock → ChannelLog → ℕ → ℕ
reading_at clock s number = line_reading clock.start clock.step s.added number

-- a command in flight completes at the next reading
abbrev pub with_drained : ScriptClock → ChannelLog → Option Note → ChannelLog
with_drained clock s None = s
with_drained clock s (Some n) =
    let k = length s.readings in
    record s { readings = s.readings ++ reading_at clock s k ∷ []; notes = s.notes ++ record n { done_at = k } ∷ []; flight = None }

abbrev pub drained : ScriptClock → ChannelLog → ChannelLog
drained clock s = with_drained clock s s.flight

abbrev pub line_of : LineCall → LineReply → ℕ → CallLine
line_of c reply number = record { caller = c.caller; code = c.code; asked = c.asked; polls = c.polls; reply = Some reply; number = number }

-- Nothing is in flight, and a call is answered: `ok` and `error` took two readings, `timed out` and `too soon` one. Other replies took none.
abbrev pub with_reply : ScriptClock → LineCall → LineReply → ChannelLog → ChannelLog
with_reply clock c (Replied (Done error output)) s =
    let k = length s.readings in
    record s {
      readings = s.readings ++ reading_at clock s k ∷ reading_at clock s (k + 1) ∷ [];
      notes = s.notes ++ record { post_at = k; done_at = k + 1; looks = 0 } ∷ [];
      calls = s.calls ++ line_of c (Replied (Done error output)) 0 ∷ [];
    }
with_reply clock c (Replied (TimedOut looks)) s =
    let k = length s.readings in
    record s {
      readings = s.readings ++ reading_at clock s k ∷ [];
      flight = Some (record { post_at = k; done_at = 0; looks = looks });
      calls = s.calls ++ line_of c (Replied (TimedOut looks)) 0 ∷ [];
    }
with_reply clock c (Replied (TooSoon now earliest)) s =
    let k = length s.readings in
    record s { readings = s.readings ++ reading_at clock s k ∷ []; calls = s.calls ++ line_of c (Replied (TooSoon now earliest)) k ∷ [] }
with_reply clock c reply s = record s { calls = s.calls ++ line_of c reply 0 ∷ [] }

-- a command in flight completes before one of the replies that take readings, and before a wish is refused
abbrev pub logged : ScriptClock → LineCall → LineReply → ChannelLog → ChannelLog
logged clock c (Replied (Done error output)) s = with_reply clock c (Replied (Done error output)) (drained clock s)
logged clock c (Replied (TimedOut looks)) s = with_reply clock c (Replied (TimedOut looks)) (drained clock s)
logged clock c (Replied (TooSoon now earliest)) s = with_reply clock c (Replied (TooSoon now earliest)) (drained clock s)
logged clock c (Refused why) s = with_reply clock c (Refused why) (drained clock s)
logged clock c reply s = with_reply clock c reply s

abbrev pub log_line : ScriptClock → ChannelLog → ChannelLine → ChannelLog
log_line clock s (Called c reply) = logged clock (of_call c) (Replied reply) s
log_line clock s (Wished w reply) = logged clock (of_wish w) reply s
log_line clock s (Waited n) = record s { added = s.added + n }

abbrev pub log_from : ScriptClock → ChannelLog → List ChannelLine → ChannelLog
log_from clock s [] = s
log_from clock s (l ∷ ls) = log_from clock (log_line clock s l) ls

abbrev pub empty_log : ChannelLog
empty_log = record { added = 0; readings = []; notes = []; flight = None; calls = [] }

abbrev pub log_of : ScriptClock → List ChannelLine → ChannelLog
log_of clock lines = log_from clock empty_log lines
