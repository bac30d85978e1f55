-- A line that ends a run says so: what is refused of a trace that lost the end of a run.
use Rattle.std.specs.Prelude.{◌≡◌, ◌≢◌, ℕ, false, List, [], ◌∷◌, ◌++◌, Option, Some}
use Rattle.pcc_history.specs.Channel.{Exchange}
use Rattle.pcc_history.specs.Devices.{Device, bank_exec}
use Rattle.rate_limit.specs.declared.Limits.{Limits}
use Rattle.pcc_journal.specs.declared.record.Record.{Record}
use Rattle.pcc_steps.specs.declared.wiring.Wiring.{Wiring}
use Rattle.pcc_steps.specs.declared.wiring.Action.TheVariants.{Load, Store, Swap, Rest}
use Rattle.pcc_steps.specs.Runs.{Run, ends, AskEnd, AnswerEnd}
use Rattle.channel_core.specs.declared.sent.Sent.{Sent}
use Rattle.channel_plain.specs.declared.trace.Side.{Side}
use Rattle.channel_plain.specs.declared.trace.Side.TheVariants.{System, Platform}
use Rattle.channel_plain.specs.declared.trace.Asked.{Asked}
use Rattle.channel_plain.specs.declared.trace.TraceEnd.TheVariants as end
use Rattle.channel_plain.specs.declared.trace.TraceLine.{TraceLine}
use Rattle.channel_plain.specs.WordRuns.{Answered, AnswerWalks, Calls, IsRun, IsUnfinished, Turn, Walks, WordRun, answer_on, next_of}
use Rattle.channel_plain.specs.WorkedPicks.{line, no_bytes, swap_call, wired}

-- the last word step of a run of the asking side says how the run ended
abbrev pub AsksSayEnds : Type 0
AsksSayEnds = (w : Wiring) (limits : Limits) (calls : List Asked) (s t : Calls) (ls : List TraceLine) (l : TraceLine)
    → Turn w limits calls s (ls ++ l ∷ []) t → l.action ≢ Rest → l.end ≢ end.Open

-- lines that are a whole run are no run that is cut
abbrev pub WholeIsNotCut : Type 0
WholeIsNotCut = (run rest : Run AskEnd) (ls : List TraceLine) (l : TraceLine) (e : AskEnd) → IsRun run ls l e → Walks run (ls ++ l ∷ []) rest
    → IsUnfinished rest → ⊥

abbrev pub AnswerIsNotCut : Type 0
AnswerIsNotCut = (exec : Device) (w : Wiring) (a b c : Answered) (ls : List TraceLine) (l : TraceLine) (e : AnswerEnd)
    → AnswerWalks exec w a ls b → next_of b.run ≡ Some l.action → (answer_on exec w b l.value).run ≡ ends e
    → AnswerWalks exec w a (ls ++ l ∷ []) c → IsUnfinished c.run → ⊥

-- ---- traces, made by hand

-- a trace of no picks, whatever readings, records, command in flight and executed commands it is said to leave
abbrev pub IsRefused : List Asked → List Side → List TraceLine → Type 0
IsRefused calls picks trace = (readings : List ℕ) (records : List Record) (sent : Option Sent) (executed : List Exchange)
    → WordRun bank_exec (wired 0 false false) (record { turnaround = 0; per_minute = 0 }) (0 ∷ no_bytes) no_bytes
    calls picks trace readings records sent executed → ⊥

abbrev pub one_call : List Asked
one_call = swap_call 0 (1 ∷ 2 ∷ []) 3 ∷ []

-- a command is posted, executed and drained, but the line that posts it doesn't say so
abbrev pub lost_posted : Type 0
lost_posted = IsRefused one_call (System ∷ System ∷ System ∷ System ∷ System ∷ [])
    (line System (Store 8 513) 0 end.Open
    ∷ line System (Store 0 70066062080) 0 end.Open
    ∷ line System (Load 1) 0 end.Open
    ∷ line System (Store 1 1) 0 end.Open
    ∷ line System (Store 2 1) 0 end.Open ∷ [])

-- an answering run that finds no command doesn't say so
abbrev pub lost_idle : Type 0
lost_idle = IsRefused one_call (Platform ∷ []) (line Platform (Swap 2 0) 0 end.Open ∷ [])

-- the same with a command that was executed
abbrev pub lost_served : Type 0
lost_served = IsRefused one_call (System ∷ System ∷ System ∷ System ∷ System ∷ Platform ∷ Platform ∷ Platform ∷ Platform ∷ Platform ∷ [])
    (line System (Store 8 513) 0 end.Open
    ∷ line System (Store 0 70066062080) 0 end.Open
    ∷ line System (Load 1) 0 end.Open
    ∷ line System (Store 1 1) 0 end.Open
    ∷ line System (Store 2 1) 0 end.Posted
    ∷ line Platform (Swap 2 0) 1 end.Open
    ∷ line Platform (Load 0) 70066062080 end.Open
    ∷ line Platform (Load 8) 513 end.Open
    ∷ line Platform (Store 8 0) 0 end.Open
    ∷ line Platform (Store 0 281545042772736) 0 end.Open ∷ [])

-- a look that finds the command incomplete doesn't say so
abbrev pub lost_clear : Type 0
lost_clear = IsRefused one_call (System ∷ System ∷ System ∷ System ∷ System ∷ System ∷ [])
    (line System (Store 8 513) 0 end.Open
    ∷ line System (Store 0 70066062080) 0 end.Open
    ∷ line System (Load 1) 0 end.Open
    ∷ line System (Store 1 1) 0 end.Open
    ∷ line System (Store 2 1) 0 end.Posted
    ∷ line System (Load 0) 70066062080 end.Open ∷ [])

-- a reply is taken, and the line that takes it doesn't say so: the command is in flight still, or has its record
abbrev pub lost_done : Type 0
lost_done = IsRefused one_call
    (System ∷ System ∷ System ∷ System ∷ System ∷ Platform ∷ Platform ∷ Platform ∷ Platform ∷ Platform ∷ System ∷ System ∷ [])
    (line System (Store 8 513) 0 end.Open
    ∷ line System (Store 0 70066062080) 0 end.Open
    ∷ line System (Load 1) 0 end.Open
    ∷ line System (Store 1 1) 0 end.Open
    ∷ line System (Store 2 1) 0 end.Posted
    ∷ line Platform (Swap 2 0) 1 end.Open
    ∷ line Platform (Load 0) 70066062080 end.Open
    ∷ line Platform (Load 8) 513 end.Open
    ∷ line Platform (Store 8 0) 0 end.Open
    ∷ line Platform (Store 0 281545042772736) 0 end.Served
    ∷ line System (Load 0) 281545042772736 end.Open
    ∷ line System (Load 8) 0 end.Open ∷ [])
