-- The text of a trace: a line for each pick.
use Rattle.std.specs.Prelude.{ℕ, true, false, List, [], ◌∷◌, ◌++◌, codes}
use Rattle.std.specs.Int.{w64, to_be_bytes}
use Rattle.pcc_text.specs.Pieces.{Spelled, Words, Decimal, HexOf, spelled}
use Rattle.pcc_steps.specs.declared.wiring.Action.{Action}
use Rattle.pcc_steps.specs.declared.wiring.Action.TheVariants.{Load, Store, Swap, Execute, Rest}
use Rattle.channel_plain.specs.declared.trace.Side.{Side}
use Rattle.channel_plain.specs.declared.trace.Side.TheVariants.{System, Platform}
use Rattle.channel_plain.specs.declared.trace.TraceEnd.{TraceEnd}
use Rattle.channel_plain.specs.declared.trace.TraceEnd.TheVariants as end
use Rattle.channel_plain.specs.declared.trace.TraceLine.{TraceLine}

-- o is the operating system's side, p the platform's
abbrev pub letter : Side → List ℕ
letter System = codes "o"
letter Platform = codes "p"

-- the word step: a word is 16 digits, the highest first
abbrev pub action_words : Action → ℕ → List Spelled
action_words (Load place) value = Words (codes " load ") ∷ Decimal place ∷ Words (codes " ") ∷ HexOf (to_be_bytes w64 value) ∷ []
action_words (Store place word) value = Words (codes " store ") ∷ Decimal place ∷ Words (codes " ") ∷ HexOf (to_be_bytes w64 word) ∷ []
action_words (Swap place word) value =
    Words (codes " swap ") ∷ Decimal place ∷ Words (codes " ") ∷ HexOf (to_be_bytes w64 word) ∷ Words (codes " ") ∷ HexOf (to_be_bytes w64 value) ∷ []
action_words (Execute code) value = []
action_words Rest value = Words (codes " rest") ∷ []

-- a call that ends without a word step is reported in place of one
abbrev pub step_words : TraceLine → List Spelled
step_words l = reported l.end
  where
    reported : TraceEnd → List Spelled
    reported (end.TooSoon now earliest) = []
    reported (end.BadCode code) = []
    reported (end.TooLong len room) = []
    reported end.JournalFull = []
    reported _ = action_words l.action l.value

-- what ended
abbrev pub end_words : TraceEnd → List Spelled
end_words end.Open = []
end_words end.Posted = Words (codes " -> posted") ∷ []
end_words (end.Clear looks) = Words (codes " -> clear ") ∷ Decimal looks ∷ []
end_words (end.Done true) = Words (codes " -> done error") ∷ []
end_words (end.Done false) = Words (codes " -> done ok") ∷ []
end_words (end.Late true) = Words (codes " -> late error") ∷ []
end_words (end.Late false) = Words (codes " -> late ok") ∷ []
end_words (end.TimedOut looks) = Words (codes " -> timed out ") ∷ Decimal looks ∷ []
end_words (end.StillPending looks) = Words (codes " -> still pending ") ∷ Decimal looks ∷ []
end_words (end.TooSoon now earliest) = Words (codes " too soon ") ∷ Decimal now ∷ Words (codes " ") ∷ Decimal earliest ∷ []
end_words (end.BadCode code) = Words (codes " bad code ") ∷ Decimal code ∷ []
end_words (end.TooLong len room) = Words (codes " too long ") ∷ Decimal len ∷ Words (codes " ") ∷ Decimal room ∷ []
end_words end.JournalFull = Words (codes " journal full") ∷ []
end_words end.Served = Words (codes " -> served") ∷ []
end_words end.Idle = Words (codes " -> idle") ∷ []

-- side, step, end, line feed
unfoldable pub trace_line_text : TraceLine → List ℕ
trace_line_text l = letter l.side ++ (spelled (step_words l) ++ (spelled (end_words l.end) ++ codes "\n"))

abbrev pub trace_text : List TraceLine → List ℕ
trace_text [] = []
trace_text (l ∷ ls) = trace_line_text l ++ trace_text ls
