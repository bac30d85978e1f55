-- What happened on a channel, as its asking side saw it: made of the records, of the notes beside them, and of the command in flight.
-- A reading has a number, its place among all readings that the channel's clock has given, from 0.
use Rattle.std.specs.Prelude.{◌≡◌, ◌==◌, ℕ, ◌+◌, Bool, true, false, List, [], ◌∷◌, ◌++◌, map, Option, Some, None}
use Rattle.std.specs.List.{filter, flat_map}
use Rattle.pcc_journal.specs.declared.record.Record.{Record}
use Rattle.pcc_journal.specs.declared.record.Pending.{Pending}
use Rattle.pcc_journal.specs.declared.note.Note.{Note}

-- a command as it was posted, with its reading and the number of that
pub record Posted : Type 0 where
  pub caller : ℕ
  pub code : ℕ
  pub input : List ℕ
  pub post : ℕ
  pub post_number : ℕ

-- what came back of a command, with the reading at which that was seen and the number of that
pub record Completed : Type 0 where
  pub error : Bool
  pub output : List ℕ
  pub done : ℕ
  pub done_number : ℕ

-- A command was answered to its caller; or its caller gave it up after this many looks, which is 0 until then; or, later, what came back of
-- a command that was given up was taken away.
pub data Event : Type 0 where
  Answered : Posted → Completed → Event
  Lost : Posted → ℕ → Event
  Drained : Completed → Event

-- ---- records and commands with their notes

-- a record with its note: there is no record without one
pub record Noted : Type 0 where
  pub entry : Record
  pub note : Note

-- a command that was posted and isn't complete, with its note as far as that was begun
pub record NotedPending : Type 0 where
  pub command : Pending
  pub note : Note

-- the note of a record that has no other
abbrev pub blank_note : Note
blank_note = record { post_at = 0; done_at = 0; looks = 0 }

-- Each record with the note at its place. If the notes are fewer, the further records have blank ones, so that no record is left out.
abbrev pub noted : List Record → List Note → List Noted
noted [] ns = []
noted (r ∷ rs) [] = record { entry = r; note = blank_note } ∷ noted rs []
noted (r ∷ rs) (n ∷ ns) = record { entry = r; note = n } ∷ noted rs ns

-- the command in flight, if there is one, with its note
abbrev pub noted_pending : Option Pending → Option Note → Option NotedPending
noted_pending None _ = None
noted_pending (Some p) None = Some (record { command = p; note = blank_note })
noted_pending (Some p) (Some n) = Some (record { command = p; note = n })

-- the records alone
abbrev pub records_of : List Noted → List Record
records_of entries = map (λ n. n.entry) entries

-- the notes alone
abbrev pub notes_of : List Noted → List Note
notes_of entries = map (λ n. n.note) entries

-- ---- the events of a journal

-- a note counts readings from the start of its end, before which the clock had given a number of them
abbrev pub posted_of : ℕ → Record → Note → Posted
posted_of before r n = record { caller = r.caller; code = r.code; input = r.input; post = r.post; post_number = before + n.post_at }

abbrev pub completed_of : ℕ → Record → Note → Completed
completed_of before r n = record { error = r.error; output = r.output; done = r.done; done_number = before + n.done_at }

-- a late command was lost first, and drained then
abbrev pub completion_events : Bool → Posted → ℕ → Completed → List Event
completion_events false p looks c = Answered p c ∷ []
completion_events true p looks c = Lost p looks ∷ Drained c ∷ []

abbrev pub events_of_record : ℕ → Noted → List Event
events_of_record before n =
    completion_events n.entry.late (posted_of before n.entry n.note) n.note.looks (completed_of before n.entry n.note)

abbrev pub posted_of_pending : ℕ → NotedPending → Posted
posted_of_pending before p =
    let c = p.command in
    record { caller = c.caller; code = c.code; input = c.input; post = c.post; post_number = before + p.note.post_at }

-- a pending command is lost as long as nothing came back of it
abbrev pub events_of_pending : ℕ → Option NotedPending → List Event
events_of_pending before None = []
events_of_pending before (Some p) = Lost (posted_of_pending before p) p.note.looks ∷ []

-- what happened, by the records with their notes, the first one first, and the command in flight
abbrev pub events_of : ℕ → List Noted → Option NotedPending → List Event
events_of before entries pending = flat_map (events_of_record before) entries ++ events_of_pending before pending

-- ---- the calls in them

abbrev pub is_call_of : ℕ → Event → Bool
is_call_of caller (Answered p c) = p.caller == caller
is_call_of caller (Lost p looks) = p.caller == caller
is_call_of caller (Drained c) = false

-- the calls of one caller, in their order
abbrev pub calls_of : List Event → ℕ → List Event
calls_of events caller = filter (is_call_of caller) events

-- these are all calls of the caller
abbrev pub Own : List Event → ℕ → List Event → Type 0
Own events caller mine = mine ≡ calls_of events caller

abbrev pub posts_in : Event → ℕ
posts_in (Answered p c) = 1
posts_in (Lost p looks) = 1
posts_in (Drained c) = 0

-- how many commands were posted
abbrev pub post_count : List Event → ℕ
post_count [] = 0
post_count (e ∷ es) = posts_in e + post_count es
