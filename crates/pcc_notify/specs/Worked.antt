-- Worked traces of type 4, made by hand from the step tables, with the commands that they post: a space of 8 bytes before a Bank, and a clock
-- whose readings are 0, 10, 20 and so on.
use Rattle.std.specs.Prelude.{◌≡◌, ℕ, true, false, replicate, List, [], ◌∷◌, ◌++◌, Option, Some, None}
use Rattle.pcc_history.specs.Channel.{Exchange}
use Rattle.pcc_journal.specs.declared.record.Pending.{Pending}
use Rattle.pcc_steps.specs.declared.wiring.Wiring.{Wiring}
use Rattle.pcc_steps.specs.declared.wiring.Action.TheVariants.{Load, Store, Swap}
use Rattle.channel_plain.specs.declared.trace.Side.TheVariants.{System, Platform}
use Rattle.channel_plain.specs.declared.trace.TraceEnd.TheVariants.{Open, Posted, Done, Served}
use Rattle.channel_plain.specs.declared.trace.TraceLine.{TraceLine}
use Rattle.channel_plain.specs.WorkedPicks.{apart, bare, by_registers, fresh, line, no_bytes, note_at, one_byte, swap_call, woven}
use Rattle.pcc_notify.specs.declared.notice.Notice.{Notice}
use Rattle.pcc_notify.specs.Notices.{AreNotices, posts_of}

-- ---- an update register of its own, and no doorbell, acknowledge register and error register

abbrev pub two_posts : Wiring
two_posts = bare (by_registers 4 false false apart)

-- The first command is posted, handled and drained.
abbrev pub first_trace : List TraceLine
first_trace =
    line Platform (Store 9 68719476741) 0 Open
    ∷ line Platform (Store 10 1) 0 Open
    ∷ line Platform (Load 0) 1 Open
    ∷ line Platform (Store 0 0) 0 Open
    ∷ line Platform (Store 2 1) 0 Posted
    ∷ line System (Swap 2 0) 1 Open
    ∷ line System (Load 8) 1346585344 Open
    ∷ line System (Load 9) 68719476741 Open
    ∷ line System (Load 10) 1 Open
    ∷ line System (Store 10 0) 0 Open
    ∷ line System (Load 6) 0 Open
    ∷ line System (Store 6 3) 0 Open
    ∷ line System (Load 0) 0 Open
    ∷ line System (Store 0 1) 0 Served
    ∷ line Platform (Load 0) 1 Open
    ∷ line Platform (Load 8) 1346585344 Open
    ∷ line Platform (Load 9) 68719476741 Open
    ∷ line Platform (Load 10) 0 (Done false) ∷ []

-- The second one is posted up to its last step, which is to raise the line.
abbrev pub cut_trace : List TraceLine
cut_trace =
    line Platform (Store 10 2) 0 Open
    ∷ line Platform (Load 0) 1 Open
    ∷ line Platform (Store 0 0) 0 Open ∷ []

-- It is posted and handled, and its reply isn't there yet.
abbrev pub handled_trace : List TraceLine
handled_trace =
    line Platform (Store 2 1) 0 Posted
    ∷ line System (Swap 2 0) 1 Open
    ∷ line System (Load 8) 1346585344 Open
    ∷ line System (Load 9) 68719476741 Open
    ∷ line System (Load 10) 2 Open ∷ []

abbrev pub two_bytes : List ℕ
two_bytes = 2 ∷ 0 ∷ 0 ∷ 0 ∷ 0 ∷ 0 ∷ 0 ∷ 0 ∷ []

abbrev pub first_exchange : Exchange
first_exchange = record { code = 16; input = one_byte; error = false; output = no_bytes }

abbrev pub second_exchange : Exchange
second_exchange = record { code = 16; input = two_bytes; error = false; output = one_byte }

abbrev pub second_pending : Pending
second_pending = record { caller = 1; code = 16; input = two_bytes; post = 20 }

-- both commands, pick by pick
abbrev pub separate_without_registers : Type 0
separate_without_registers = woven (swap_call 0 (1 ∷ []) 3 ∷ swap_call 1 (2 ∷ []) 3 ∷ [])
    (replicate 5 Platform ++ replicate 9 System ++ replicate 8 Platform ++ replicate 4 System) 0 (fresh two_posts) ≡ record {
      trace = first_trace ++ cut_trace ++ handled_trace;
      records = record { caller = 0; code = 16; input = one_byte; error = false; output = no_bytes; post = 0; done = 10; late = false } ∷ [];
      notes = note_at 0 1 0 ∷ [];
      sent = Some (record { command = second_pending; note = note_at 2 0 0 });
    }

-- ---- the update register is the check register; with a doorbell, an acknowledge register, an error register and a notification

abbrev pub all_registers : Wiring
all_registers = by_registers 4 true true (record { preserve = 4294967294; set = 1 })

abbrev pub bad_trace : List TraceLine
bad_trace =
    line Platform (Store 8 5641552640) 0 Open
    ∷ line Platform (Store 9 77309411333) 0 Open
    ∷ line Platform (Store 10 1) 0 Open
    ∷ line Platform (Load 0) 1 Open
    ∷ line Platform (Store 0 0) 0 Open
    ∷ line Platform (Store 2 1) 0 Posted
    ∷ line System (Swap 2 0) 1 Open
    ∷ line System (Load 5) 0 Open
    ∷ line System (Store 5 3) 0 Open
    ∷ line System (Load 8) 5641552640 Open
    ∷ line System (Load 9) 77309411333 Open
    ∷ line System (Load 10) 1 Open
    ∷ line System (Store 3 2) 0 Open
    ∷ line System (Load 0) 0 Open
    ∷ line System (Store 0 1) 0 Open
    ∷ line System (Load 1) 0 Open
    ∷ line System (Store 1 1) 0 Open
    ∷ line System (Store 4 1) 0 Served
    ∷ line Platform (Load 0) 1 Open
    ∷ line Platform (Load 3) 2 Open
    ∷ line Platform (Load 8) 5641552640 Open
    ∷ line Platform (Load 9) 77309411333 Open
    ∷ line Platform (Load 10) 1 Open
    ∷ line Platform (Load 4) 1 Open
    ∷ line Platform (Store 4 0) 0 (Done true) ∷ []

-- a bad command, pick by pick
abbrev pub joined_with_registers : Type 0
joined_with_registers = woven (record { caller = 0; code = 18; bytes = 1 ∷ []; polls = 1 } ∷ [])
    (replicate 6 Platform ++ replicate 12 System ++ replicate 7 Platform) 0 (fresh all_registers) ≡ record {
      trace = bad_trace;
      records = record { caller = 0; code = 18; input = one_byte; error = true; output = one_byte; post = 0; done = 10; late = false } ∷ [];
      notes = note_at 0 1 0 ∷ [];
      sent = None;
    }

-- ---- what is said of the two commands

abbrev pub first_notice : Notice
first_notice = record { code = 16; input = one_byte }

abbrev pub second_notice : Notice
second_notice = record { code = 16; input = two_bytes }

-- these commands were executed and recorded after both posts
abbrev pub Became : List Exchange → List Exchange → Option Pending → Type 0
Became = AreNotices (posts_of two_posts (first_trace ++ cut_trace ++ handled_trace))
