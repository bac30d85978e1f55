-- A command that is posted or in flight, and what becomes of it.
use Rattle.std.specs.Prelude.{◌≡◌, ◌<◌, ℕ, nat_lt, Bool, true, false, if◌then◌else◌, List, length, Option, Some, None}
use Rattle.pcc_history.specs.Channel.{over}
use Rattle.pcc_journal.specs.declared.note.Note.{Note}
use Rattle.pcc_journal.specs.declared.record.Record.{Record}
use Rattle.pcc_journal.specs.declared.record.Pending.{Pending}
use Rattle.channel_core.specs.declared.caller.Reading.{Reading}
use Rattle.channel_core.specs.declared.sent.Sent.{Sent}
use Rattle.channel_core.specs.declared.sent.Flight.{Flight}

-- a command of this code, with bytes that are laid over the front of a space, is posted by a caller at a reading
abbrev pub sent_at : ℕ → ℕ → List ℕ → Reading → List ℕ → Sent
sent_at caller code bytes post space = record {
  command = record { caller = caller; code = code; input = over space bytes; post = post.at };
  note = record { post_at = post.number; done_at = 0; looks = 0 };
}

abbrev pub is_flying : Option Sent → Bool
is_flying None = false
is_flying (Some c) = true

abbrev pub command_of : Option Sent → Option Pending
command_of None = None
command_of (Some c) = Some c.command

-- the reading at which it was posted
abbrev pub posted_at : Option Pending → Option ℕ
posted_at None = None
posted_at (Some p) = Some p.post

abbrev pub post_of : Option Sent → Option ℕ
post_of sent = posted_at (command_of sent)

abbrev pub count_flying : Option Sent → ℕ
count_flying None = 0
count_flying (Some c) = 1

-- its caller has given it up
abbrev pub is_late : Sent → Bool
is_late c = nat_lt 0 c.note.looks

abbrev pub is_given_up : Option Sent → Bool
is_given_up None = false
is_given_up (Some c) = is_late c

-- the looks after which a caller first gave it up are kept
abbrev pub first_looks : ℕ → ℕ → ℕ
first_looks before looks = if nat_lt 0 before then before else looks

abbrev pub given_up_after : ℕ → Option Sent → Option Sent
given_up_after looks None = None
given_up_after looks (Some c) = Some (record c { note = record c.note { looks = first_looks c.note.looks looks } })

-- the record of a command, by the error and the space that came back, the reading at which that was seen, and whether it was given up before
abbrev pub recorded : Pending → Bool → List ℕ → ℕ → Bool → Record
recorded p error output done late =
    record { caller = p.caller; code = p.code; input = p.input; error = error; output = output; post = p.post; done = done; late = late }

abbrev pub record_of : Sent → Bool → List ℕ → ℕ → Record
record_of c error output done = recorded c.command error output done (is_late c)

-- its note, with the number of that reading
abbrev pub note_of : Sent → ℕ → Note
note_of c number = record c.note { done_at = number }

-- ---- memory that was taken ahead

abbrev pub sent_of : Option Flight → Option Sent
sent_of None = None
sent_of (Some f) = Some f.sent

-- the memory for its reply, and a place for its record
abbrev pub HasMemory : Option Flight → ℕ → Type 0
HasMemory None spare = Unit {0}
HasMemory (Some f) spare = (length f.reply.items ≡ length f.sent.command.input) × (0 < spare)

-- a command is in flight, whose space has this room
abbrev pub FliesWith : Option Sent → ℕ → Type 0
FliesWith None room = ⊥
FliesWith (Some c) room = length c.command.input ≡ room
