-- The commands of an asking end: those that were drained, each with its note, and the one that is posted or in flight.
use Rattle.std.specs.Prelude.{ℕ, ◌+◌, ◌-◌, max, Bool, List, [], ◌∷◌, ◌++◌, length, Option, Some, None}
use Rattle.pcc_journal.specs.declared.note.Note.{Note}
use Rattle.pcc_journal.specs.declared.record.Record.{Record}
use Rattle.channel_core.specs.declared.sent.Sent.{Sent}
use Rattle.channel_core.specs.Sendings.{count_flying, given_up_after, note_of, record_of}

pub record CommandHistory : Type 0 where
  pub records : List Record
  -- beside each record
  pub notes : List Note
  pub sent : Option Sent
  -- the records, with their notes, for which the memory is there
  pub spare : ℕ

abbrev pub no_commands : CommandHistory
no_commands = record { records = []; notes = []; sent = None; spare = 0 }

-- the commands that were posted
abbrev pub posts_of : CommandHistory → ℕ
posts_of h = length h.records + count_flying h.sent

-- the memory for one more command, beside the one in flight
abbrev pub reserved : CommandHistory → CommandHistory
reserved h = record h { spare = max h.spare (count_flying h.sent + 1) }

abbrev pub marked_post : Sent → CommandHistory → CommandHistory
marked_post c h = record h { sent = Some c }

abbrev pub marked_late : ℕ → CommandHistory → CommandHistory
marked_late looks h = record h { sent = given_up_after looks h.sent }

abbrev pub drained_by : Option Sent → Bool → List ℕ → ℕ → ℕ → CommandHistory → CommandHistory
drained_by None error output done number h = h
drained_by (Some c) error output done number h = record {
  records = h.records ++ record_of c error output done ∷ [];
  notes = h.notes ++ note_of c number ∷ [];
  sent = None;
  spare = h.spare - 1;
}

-- the reply came back at a reading, which has a number
abbrev pub marked_done : Bool → List ℕ → ℕ → ℕ → CommandHistory → CommandHistory
marked_done error output done number h = drained_by h.sent error output done number h
