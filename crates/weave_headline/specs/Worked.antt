-- The log and the headline of worked traces: a space of eight bytes before a Bank, whose clock gives 0, 10, 20 ..
use Rattle.std.specs.Prelude.{ℕ, false, List, [], ◌∷◌, ◌++◌, Option}
use Rattle.pcc_history.specs.Devices.{bank_exec}
use Rattle.pcc_journal.specs.declared.record.Record.{Record}
use Rattle.pcc_steps.specs.declared.wiring.Action.TheVariants.{Load, Store, Swap}
use Rattle.pcc_steps.specs.declared.wiring.Wiring.{Wiring}
use Rattle.channel_core.specs.declared.sent.Sent.{Sent}
use Rattle.channel_plain.specs.declared.trace.Asked.{Asked}
use Rattle.channel_plain.specs.declared.trace.Side.TheVariants.{System, Platform}
use Rattle.channel_plain.specs.declared.trace.TraceEnd.TheVariants.{Clear, Done, Late, Open, Posted, Served, StillPending, TimedOut}
use Rattle.channel_plain.specs.declared.trace.TraceLine.{TraceLine}
use Rattle.channel_plain.specs.WorkedPicks.{line, no_bytes, note_at, swap_call, wired}
use Rattle.weave_headline.specs.WordHeadline.{WordHeadline}

abbrev pub plain : Wiring
plain = wired 0 false false

-- a command is posted, executed and drained
abbrev pub one_call : List Asked
one_call = swap_call 0 (1 ∷ 2 ∷ []) 3 ∷ []

-- the first steps of the post
abbrev pub cut_trace : List TraceLine
cut_trace = line System (Store 8 513) 0 Open ∷ line System (Store 0 70066062080) 0 Open ∷ line System (Load 1) 0 Open ∷ []

abbrev pub posted_trace : List TraceLine
posted_trace = cut_trace ++ line System (Store 1 1) 0 Open ∷ line System (Store 2 1) 0 Posted ∷ []

-- the platform executes it
abbrev pub executed_trace : List TraceLine
executed_trace =
    line Platform (Swap 2 0) 1 Open
    ∷ line Platform (Load 0) 70066062080 Open
    ∷ line Platform (Load 8) 513 Open
    ∷ line Platform (Store 8 0) 0 Open
    ∷ line Platform (Store 0 281545042772736) 0 Served ∷ []

abbrev pub one_trace : List TraceLine
one_trace = posted_trace ++ executed_trace ++ line System (Load 0) 281545042772736 Open ∷ line System (Load 8) 0 (Done false) ∷ []

-- a command is given up, blocks the next call, and is drained before the post of the third one
abbrev pub three_calls : List Asked
three_calls = swap_call 0 (1 ∷ 2 ∷ []) 1 ∷ swap_call 1 [] 2 ∷ swap_call 2 (3 ∷ []) 4 ∷ []

abbrev pub late_trace : List TraceLine
late_trace = posted_trace
    ++ line System (Load 0) 70066062080 (TimedOut 1)
    ∷ line System (Load 0) 70066062080 (Clear 1)
    ∷ line System (Load 0) 70066062080 (StillPending 2) ∷ executed_trace
    ++ line System (Load 0) 281545042772736 Open
    ∷ line System (Load 8) 0 (Late false)
    ∷ line System (Store 8 3) 0 Open
    ∷ line System (Store 0 70066062080) 0 Open
    ∷ line System (Load 1) 1 Open
    ∷ line System (Store 1 1) 0 Open
    ∷ line System (Store 2 1) 0 Posted ∷ []

-- these readings, records and command in flight keep the headline with this trace of these calls
abbrev pub Keeps : List Asked → List TraceLine → List ℕ → List Record → Option Sent → Type 0
Keeps = WordHeadline bank_exec plain (record { turnaround = 0; per_minute = 0 }) (0 ∷ no_bytes) no_bytes

abbrev pub posted_command : Sent
posted_command = record {
  command = record { caller = 0; code = 16; input = 1 ∷ 2 ∷ 0 ∷ 0 ∷ 0 ∷ 0 ∷ 0 ∷ 0 ∷ []; post = 0 };
  note = note_at 0 0 0;
}
