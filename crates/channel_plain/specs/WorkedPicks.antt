-- Worked traces, made by hand from the step tables, by which the definition of a pick is evaluated: a space of 8 bytes before a Bank, and a
-- clock whose readings are 0, 10, 20 and so on.
use Rattle.std.specs.Prelude.{◌≡◌, ℕ, ◌+◌, Bool, true, false, if◌then◌else◌, replicate, List, [], ◌∷◌, ◌++◌, Option, Some, None}
use Rattle.pcc_history.specs.Devices.{bank_exec}
use Rattle.pcc_journal.specs.declared.note.Note.{Note}
use Rattle.pcc_journal.specs.declared.record.Record.{Record}
use Rattle.pcc_gas.specs.declared.mask.Masks.{Masks}
use Rattle.pcc_steps.specs.declared.wiring.Wiring.{Wiring}
use Rattle.pcc_steps.specs.declared.wiring.Action.{Action}
use Rattle.pcc_steps.specs.declared.wiring.Action.TheVariants.{Load, Store, Swap}
use Rattle.pcc_steps.specs.declared.ask.AskStage.TheVariants.{AskRest}
use Rattle.pcc_steps.specs.declared.answer.AnswerStage.TheVariants.{AnswerRest}
use Rattle.pcc_steps.specs.Wires.{opening_header, opening_words, style_of}
use Rattle.channel_core.specs.declared.sent.Sent.{Sent}
use Rattle.channel_plain.specs.declared.trace.Side.{Side}
use Rattle.channel_plain.specs.declared.trace.Side.TheVariants.{System, Platform}
use Rattle.channel_plain.specs.declared.trace.Asked.{Asked}
use Rattle.channel_plain.specs.declared.trace.TraceEnd.{TraceEnd}
use Rattle.channel_plain.specs.declared.trace.TraceEnd.TheVariants.{Open, Posted, Clear, Done, Late, TimedOut, StillPending, Served, Idle}
use Rattle.channel_plain.specs.declared.trace.TraceLine.{TraceLine}
use Rattle.channel_plain.specs.News.{no_calls}
use Rattle.channel_plain.specs.Picks.{PlainState, picked, line_of}

-- the doorbell's lowest bit is set, and the others are kept; the acknowledge register keeps four bits and sets two
abbrev pub wired : ℕ → Bool → Bool → Wiring
wired kind notify has_ack = record {
  kind = kind;
  id = 0;
  notify = notify;
  joined = false;
  has_bell = true;
  has_ack = has_ack;
  reports = true;
  room = 8;
  bell = record { preserve = 4294967294; set = 1 };
  ack = record { preserve = 240; set = 3 };
  update = record { preserve = 0; set = 0 };
  check_mask = 0;
  error_mask = 0;
}

abbrev pub no_bytes : List ℕ
no_bytes = 0 ∷ 0 ∷ 0 ∷ 0 ∷ 0 ∷ 0 ∷ 0 ∷ 0 ∷ []

-- the words of the block before the first step
abbrev pub blank : Wiring → List ℕ
blank w = opening_header (style_of w) w ++ 0 ∷ []

-- nothing was asked of it
abbrev pub fresh : Wiring → PlainState
fresh w = record {
  words = opening_words w (0 ∷ []);
  ask = record {
    wiring = w;
    stage = AskRest;
    kept = 0;
    code = 0;
    error = false;
    sent = blank w;
    shown = blank w;
    loaded = blank w;
    input = no_bytes;
    space = no_bytes;
    in_flight = false;
    looks = 0;
    budget = 0;
    posts = 0;
    steps = 0;
  };
  answer = record { wiring = w; stage = AnswerRest; kept = 0; header = 0; bad = false; loaded = blank w; out = blank w; space = no_bytes; steps = 0 };
  device = 0 ∷ no_bytes;
  start = 0 ∷ no_bytes;
  calls = no_calls (record { turnaround = 0; per_minute = 0 });
  executed = [];
}

pub record Woven : Type 0 where
  pub trace : List TraceLine
  pub records : List Record
  pub notes : List Note
  pub sent : Option Sent

abbrev pub before : TraceLine → Woven → Woven
before l v = record v { trace = l ∷ v.trace }

-- the picks, with the next reading
abbrev pub woven : List Asked → List Side → ℕ → PlainState → Woven
woven calls [] reading s = record { trace = []; records = s.calls.records; notes = s.calls.notes; sent = s.calls.sent }
woven calls (side ∷ sides) reading s = let p = picked bank_exec calls side reading s in
    before (line_of side p) (woven calls sides (if p.reads then reading + 10 else reading) p.state)

abbrev pub line : Side → Action → ℕ → TraceEnd → TraceLine
line side action value end = record { side = side; action = action; value = value; end = end }

-- a swap with the bytes of the Bank
abbrev pub swap_call : ℕ → List ℕ → ℕ → Asked
swap_call caller bytes polls = record { caller = caller; code = 16; bytes = bytes; polls = polls }

abbrev pub kept : ℕ → ℕ → Bool → Record
kept post done late =
    record { caller = 0; code = 16; input = 1 ∷ 2 ∷ 0 ∷ 0 ∷ 0 ∷ 0 ∷ 0 ∷ 0 ∷ []; error = false; output = no_bytes; post = post; done = done; late = late }

-- the numbers of the readings of a post and a completion, and the looks after which the command was given up
abbrev pub note_at : ℕ → ℕ → ℕ → Note
note_at post done looks = record { post_at = post; done_at = done; looks = looks }

-- a command is posted, executed and drained
abbrev pub one_exchange : Type 0
one_exchange = woven (swap_call 0 (1 ∷ 2 ∷ []) 3 ∷ [])
    (replicate 5 System ++ replicate 5 Platform ++ replicate 2 System)
    0 (fresh (wired 0 false false)) ≡ record {
      trace =
          line System (Store 8 513) 0 Open
          ∷ line System (Store 0 70066062080) 0 Open
          ∷ line System (Load 1) 0 Open
          ∷ line System (Store 1 1) 0 Open
          ∷ line System (Store 2 1) 0 Posted
          ∷ line Platform (Swap 2 0) 1 Open
          ∷ line Platform (Load 0) 70066062080 Open
          ∷ line Platform (Load 8) 513 Open
          ∷ line Platform (Store 8 0) 0 Open
          ∷ line Platform (Store 0 281545042772736) 0 Served
          ∷ line System (Load 0) 281545042772736 Open
          ∷ line System (Load 8) 0 (Done false) ∷ [];
      records = kept 0 10 false ∷ [];
      notes = note_at 0 1 0 ∷ [];
      sent = None;
    }

-- the same with a notification, which the look takes back
abbrev pub with_notification : Type 0
with_notification = woven (swap_call 0 (1 ∷ 2 ∷ []) 3 ∷ [])
    (replicate 5 System ++ replicate 7 Platform ++ replicate 4 System)
    0 (fresh (wired 0 true false)) ≡ record {
      trace =
          line System (Store 8 513) 0 Open
          ∷ line System (Store 0 140807554417408) 0 Open
          ∷ line System (Load 1) 0 Open
          ∷ line System (Store 1 1) 0 Open
          ∷ line System (Store 2 1) 0 Posted
          ∷ line Platform (Swap 2 0) 1 Open
          ∷ line Platform (Load 0) 140807554417408 Open
          ∷ line Platform (Load 8) 513 Open
          ∷ line Platform (Store 8 0) 0 Open
          ∷ line Platform (Store 0 422282531128064) 0 Open
          ∷ line Platform (Store 4 1) 0 Served
          ∷ line Platform (Swap 2 0) 0 Idle
          ∷ line System (Load 0) 422282531128064 Open
          ∷ line System (Load 8) 0 Open
          ∷ line System (Load 4) 1 Open
          ∷ line System (Store 4 0) 0 (Done false) ∷ [];
      records = kept 0 10 false ∷ [];
      notes = note_at 0 1 0 ∷ [];
      sent = None;
    }

-- the same on type 2 with an acknowledge register
abbrev pub with_acknowledge : Type 0
with_acknowledge = woven (swap_call 0 (1 ∷ 2 ∷ []) 3 ∷ [])
    (replicate 5 System ++ replicate 7 Platform ++ replicate 6 System)
    0 (fresh (wired 2 true true)) ≡ record {
      trace =
          line System (Store 8 513) 0 Open
          ∷ line System (Store 0 140807554417408) 0 Open
          ∷ line System (Load 1) 0 Open
          ∷ line System (Store 1 1) 0 Open
          ∷ line System (Store 2 1) 0 Posted
          ∷ line Platform (Swap 2 0) 1 Open
          ∷ line Platform (Load 0) 140807554417408 Open
          ∷ line Platform (Load 8) 513 Open
          ∷ line Platform (Store 8 0) 0 Open
          ∷ line Platform (Store 0 422282531128064) 0 Open
          ∷ line Platform (Store 4 1) 0 Served
          ∷ line Platform (Swap 2 0) 0 Idle
          ∷ line System (Load 0) 422282531128064 Open
          ∷ line System (Load 8) 0 Open
          ∷ line System (Load 4) 1 Open
          ∷ line System (Store 4 0) 0 Open
          ∷ line System (Load 5) 0 Open
          ∷ line System (Store 5 3) 0 (Done false) ∷ [];
      records = kept 0 10 false ∷ [];
      notes = note_at 0 1 0 ∷ [];
      sent = None;
    }

-- a command is given up, keeps the next call waiting, and is drained by the third call, which posts its own
abbrev pub drained_late : Type 0
drained_late = woven (swap_call 0 (1 ∷ 2 ∷ []) 1 ∷ swap_call 1 [] 2 ∷ swap_call 2 (3 ∷ []) 4 ∷ [])
    (replicate 8 System ++ replicate 5 Platform ++ replicate 7 System)
    0 (fresh (wired 0 false false)) ≡ record {
      trace =
          line System (Store 8 513) 0 Open
          ∷ line System (Store 0 70066062080) 0 Open
          ∷ line System (Load 1) 0 Open
          ∷ line System (Store 1 1) 0 Open
          ∷ line System (Store 2 1) 0 Posted
          ∷ line System (Load 0) 70066062080 (TimedOut 1)
          ∷ line System (Load 0) 70066062080 (Clear 1)
          ∷ line System (Load 0) 70066062080 (StillPending 2)
          ∷ line Platform (Swap 2 0) 1 Open
          ∷ line Platform (Load 0) 70066062080 Open
          ∷ line Platform (Load 8) 513 Open
          ∷ line Platform (Store 8 0) 0 Open
          ∷ line Platform (Store 0 281545042772736) 0 Served
          ∷ line System (Load 0) 281545042772736 Open
          ∷ line System (Load 8) 0 (Late false)
          ∷ line System (Store 8 3) 0 Open
          ∷ line System (Store 0 70066062080) 0 Open
          ∷ line System (Load 1) 1 Open
          ∷ line System (Store 1 1) 0 Open
          ∷ line System (Store 2 1) 0 Posted ∷ [];
      records = kept 0 10 true ∷ [];
      notes = note_at 0 1 1 ∷ [];
      sent = Some (record { command = record { caller = 2; code = 16; input = 3 ∷ 0 ∷ 0 ∷ 0 ∷ 0 ∷ 0 ∷ 0 ∷ 0 ∷ []; post = 20 }; note = note_at 2 0 0 });
    }

-- ---- types 3 to 5

-- Completion is bit 0 of the check register, errors are bit 1 of the error register. Each register has masks of its own.
abbrev pub by_registers : ℕ → Bool → Bool → Masks → Wiring
by_registers kind joined notify update = record {
  kind = kind;
  id = 0;
  notify = notify;
  joined = joined;
  has_bell = true;
  has_ack = notify;
  reports = true;
  room = 8;
  bell = record { preserve = 254; set = 1 };
  ack = record { preserve = 240; set = 3 };
  update = update;
  check_mask = 1;
  error_mask = 2;
}

-- an update register of its own
abbrev pub apart : Masks
apart = record { preserve = 240; set = 3 }

-- no doorbell, no interrupt to acknowledge and no error register, as a type 4 structure without them is wired
abbrev pub bare : Wiring → Wiring
bare w = record w { has_bell = false; reports = false; error_mask = 0 }

abbrev pub one_byte : List ℕ
one_byte = 1 ∷ 0 ∷ 0 ∷ 0 ∷ 0 ∷ 0 ∷ 0 ∷ 0 ∷ []

-- type 3 whose update register is the check register: it clears completion; with a notification and an acknowledge register
abbrev pub type_three_joined : Type 0
type_three_joined = woven (swap_call 0 (1 ∷ 2 ∷ []) 3 ∷ [])
    (replicate 8 System ++ replicate 10 Platform ++ replicate 9 System)
    0 (fresh (by_registers 3 true true (record { preserve = 4294967294; set = 0 }))) ≡ record {
      trace =
          line System (Store 8 5641552640) 0 Open
          ∷ line System (Store 9 68719476742) 0 Open
          ∷ line System (Store 10 513) 0 Open
          ∷ line System (Load 0) 1 Open
          ∷ line System (Store 0 0) 0 Open
          ∷ line System (Load 1) 0 Open
          ∷ line System (Store 1 1) 0 Open
          ∷ line System (Store 2 1) 0 Posted
          ∷ line Platform (Swap 2 0) 1 Open
          ∷ line Platform (Load 8) 5641552640 Open
          ∷ line Platform (Load 9) 68719476742 Open
          ∷ line Platform (Load 10) 513 Open
          ∷ line Platform (Store 10 0) 0 Open
          ∷ line Platform (Store 3 0) 0 Open
          ∷ line Platform (Load 0) 0 Open
          ∷ line Platform (Store 0 1) 0 Open
          ∷ line Platform (Store 4 1) 0 Served
          ∷ line Platform (Swap 2 0) 0 Idle
          ∷ line System (Load 0) 1 Open
          ∷ line System (Load 3) 0 Open
          ∷ line System (Load 8) 5641552640 Open
          ∷ line System (Load 9) 68719476742 Open
          ∷ line System (Load 10) 0 Open
          ∷ line System (Load 4) 1 Open
          ∷ line System (Store 4 0) 0 Open
          ∷ line System (Load 5) 0 Open
          ∷ line System (Store 5 3) 0 (Done false) ∷ [];
      records = kept 0 10 false ∷ [];
      notes = note_at 0 1 0 ∷ [];
      sent = None;
    }

-- type 3 with an update register of its own; the command is bad, and the first look is too early
abbrev pub type_three_separate : Type 0
type_three_separate = woven (record { caller = 0; code = 18; bytes = 1 ∷ []; polls = 2 } ∷ [])
    (replicate 10 System ++ replicate 7 Platform ++ replicate 5 System)
    0 (fresh (by_registers 3 false false apart)) ≡ record {
      trace =
          line System (Store 9 77309411333) 0 Open
          ∷ line System (Store 10 1) 0 Open
          ∷ line System (Load 6) 0 Open
          ∷ line System (Store 6 3) 0 Open
          ∷ line System (Load 0) 1 Open
          ∷ line System (Store 0 0) 0 Open
          ∷ line System (Load 1) 0 Open
          ∷ line System (Store 1 1) 0 Open
          ∷ line System (Store 2 1) 0 Posted
          ∷ line System (Load 0) 0 (Clear 1)
          ∷ line Platform (Swap 2 0) 1 Open
          ∷ line Platform (Load 8) 1346585344 Open
          ∷ line Platform (Load 9) 77309411333 Open
          ∷ line Platform (Load 10) 1 Open
          ∷ line Platform (Store 3 2) 0 Open
          ∷ line Platform (Load 0) 0 Open
          ∷ line Platform (Store 0 1) 0 Served
          ∷ line System (Load 0) 1 Open
          ∷ line System (Load 3) 2 Open
          ∷ line System (Load 8) 1346585344 Open
          ∷ line System (Load 9) 77309411333 Open
          ∷ line System (Load 10) 1 (Done true) ∷ [];
      records = record { caller = 0; code = 18; input = one_byte; error = true; output = one_byte; post = 0; done = 10; late = false } ∷ [];
      notes = note_at 0 1 0 ∷ [];
      sent = None;
    }

-- type 4 whose update register is the check register: it sets completion; the platform asks
abbrev pub type_four_joined : Type 0
type_four_joined = woven (record { caller = 0; code = 16; bytes = 1 ∷ []; polls = 3 } ∷ [])
    (replicate 5 Platform ++ replicate 7 System ++ replicate 4 Platform)
    0 (fresh (bare (by_registers 4 true false (record { preserve = 4294967294; set = 1 })))) ≡ record {
      trace =
          line Platform (Store 9 68719476741) 0 Open
          ∷ line Platform (Store 10 1) 0 Open
          ∷ line Platform (Load 0) 1 Open
          ∷ line Platform (Store 0 0) 0 Open
          ∷ line Platform (Store 2 1) 0 Posted
          ∷ line System (Swap 2 0) 1 Open
          ∷ line System (Load 8) 1346585344 Open
          ∷ line System (Load 9) 68719476741 Open
          ∷ line System (Load 10) 1 Open
          ∷ line System (Store 10 0) 0 Open
          ∷ line System (Load 0) 0 Open
          ∷ line System (Store 0 1) 0 Served
          ∷ line Platform (Load 0) 1 Open
          ∷ line Platform (Load 8) 1346585344 Open
          ∷ line Platform (Load 9) 68719476741 Open
          ∷ line Platform (Load 10) 0 (Done false) ∷ [];
      records = record { caller = 0; code = 16; input = one_byte; error = false; output = no_bytes; post = 0; done = 10; late = false } ∷ [];
      notes = note_at 0 1 0 ∷ [];
      sent = None;
    }

-- type 4 with an update register of its own, an acknowledge register and a doorbell, which belong to the answering side here
abbrev pub type_four_separate : Type 0
type_four_separate = woven (record { caller = 0; code = 17; bytes = []; polls = 1 } ∷ [])
    (replicate 5 Platform ++ replicate 14 System ++ replicate 7 Platform)
    0 (fresh (by_registers 4 false true apart)) ≡ record {
      trace =
          line Platform (Store 8 5641552640) 0 Open
          ∷ line Platform (Store 9 73014444036) 0 Open
          ∷ line Platform (Load 0) 1 Open
          ∷ line Platform (Store 0 0) 0 Open
          ∷ line Platform (Store 2 1) 0 Posted
          ∷ line System (Swap 2 0) 1 Open
          ∷ line System (Load 5) 0 Open
          ∷ line System (Store 5 3) 0 Open
          ∷ line System (Load 8) 5641552640 Open
          ∷ line System (Load 9) 73014444036 Open
          ∷ line System (Load 10) 0 Open
          ∷ line System (Store 3 0) 0 Open
          ∷ line System (Load 6) 0 Open
          ∷ line System (Store 6 3) 0 Open
          ∷ line System (Load 0) 0 Open
          ∷ line System (Store 0 1) 0 Open
          ∷ line System (Load 1) 0 Open
          ∷ line System (Store 1 1) 0 Open
          ∷ line System (Store 4 1) 0 Served
          ∷ line Platform (Load 0) 1 Open
          ∷ line Platform (Load 3) 0 Open
          ∷ line Platform (Load 8) 5641552640 Open
          ∷ line Platform (Load 9) 73014444036 Open
          ∷ line Platform (Load 10) 0 Open
          ∷ line Platform (Load 4) 1 Open
          ∷ line Platform (Store 4 0) 0 (Done false) ∷ [];
      records = record { caller = 0; code = 17; input = no_bytes; error = false; output = no_bytes; post = 0; done = 10; late = false } ∷ [];
      notes = note_at 0 1 0 ∷ [];
      sent = None;
    }

-- type 5, whose doorbell comes before completion is cleared; the command is bad
abbrev pub type_five : Type 0
type_five = woven (record { caller = 0; code = 18; bytes = 1 ∷ []; polls = 1 } ∷ [])
    (replicate 7 System ++ replicate 6 Platform ++ replicate 4 System)
    0 (fresh (by_registers 5 false false (record { preserve = 0; set = 0 }))) ≡ record {
      trace =
          line System (Store 8 78655996672) 0 Open
          ∷ line System (Store 9 1) 0 Open
          ∷ line System (Load 1) 0 Open
          ∷ line System (Store 1 1) 0 Open
          ∷ line System (Load 0) 1 Open
          ∷ line System (Store 0 0) 0 Open
          ∷ line System (Store 2 1) 0 Posted
          ∷ line Platform (Swap 2 0) 1 Open
          ∷ line Platform (Load 8) 78655996672 Open
          ∷ line Platform (Load 9) 1 Open
          ∷ line Platform (Store 3 2) 0 Open
          ∷ line Platform (Load 0) 0 Open
          ∷ line Platform (Store 0 1) 0 Served
          ∷ line System (Load 0) 1 Open
          ∷ line System (Load 3) 2 Open
          ∷ line System (Load 8) 78655996672 Open
          ∷ line System (Load 9) 1 (Done true) ∷ [];
      records = record { caller = 0; code = 18; input = one_byte; error = true; output = one_byte; post = 0; done = 10; late = false } ∷ [];
      notes = note_at 0 1 0 ∷ [];
      sent = None;
    }
