-- The headline on worked journals: a Bank of two bytes, with and without a turnaround of 500 microseconds, whose clock gives 0, 10, 20 ..
use Rattle.std.specs.Prelude.{ℕ, Bool, true, false, List, [], ◌∷◌, Option, Some, None}
use Rattle.pcc_history.specs.Devices.{bank_exec}
use Rattle.pcc_journal.specs.declared.record.Record.{Record}
use Rattle.pcc_journal.specs.declared.record.Pending.{Pending}
use Rattle.pcc_journal.specs.declared.note.Note.{Note}
use Rattle.pcc_journal.specs.Events.{noted, noted_pending}
use Rattle.cppc_device.specs.Worked.{half_bytes}
use Rattle.channel_turns.specs.Replies.{Reply, Done, TimedOut}
use Rattle.channel_turns.specs.ChannelRuns.{Call, ChannelStart, InFlight, fresh}
use Rattle.channel_headline.specs.ChannelLog.{ChannelLine, Called, Wished, log_of}
use Rattle.channel_headline.specs.Asked.{LineReply, These}
use Rattle.channel_headline.specs.Headline.{Headline}
use Rattle.channel_headline.specs.Lines.{CallLine}
use Rattle.channel_headline.specs.Runs.{Calls, ChannelRun, HeadlineOf, Sets, Waits, run_from, terms_of}
use Rattle.channel_headline.specs.WishCalls.{WishCall}

abbrev pub bank : ℕ → ChannelStart
bank turnaround = record {
  head = record { id = 0; kind = 0; cppc = false; room = 2; limits = record { turnaround = turnaround; per_minute = 0 }; reports = true };
  clock = record { start = 0; step = 10 };
  device = bank_exec;
  state = 0 ∷ 0 ∷ 0 ∷ [];
  opening = 0 ∷ 0 ∷ [];
}

-- a swap with the bytes of the Bank, with three polls
abbrev pub swap : ℕ → List ℕ → ℕ → Call
swap caller bytes hold = record { caller = caller; code = 16; bytes = bytes; polls = 3; hold = hold }

abbrev pub swapped : ℕ → List ℕ → Reply → ChannelLine
swapped caller bytes reply = Called (swap caller bytes 0) reply

-- the record of a swap
abbrev pub kept : ℕ → List ℕ → List ℕ → ℕ → ℕ → Bool → Record
kept caller input output post done late =
    record { caller = caller; code = 16; input = input; error = false; output = output; post = post; done = done; late = late }

abbrev pub ok : List ℕ → Reply
ok output = Done false output

abbrev pub flying : Option Pending → Option InFlight
flying None = None
flying (Some p) = Some (record { command = p; left = 0 })

-- a journal of these records and a pending command keeps the headline with these lines
abbrev pub KeepsWith : ℕ → List ChannelLine → List Record → Option Pending → Type 0
KeepsWith turnaround lines records pending =
    HeadlineOf (bank turnaround) lines (record (fresh (bank turnaround)) { records = records; in_flight = flying pending })

abbrev pub Keeps : List ChannelLine → List Record → Option Pending → Type 0
Keeps = KeepsWith 0

-- the same with notes that are given by hand
abbrev pub KeepsNoted : List (List ℕ) → List ChannelLine → List Record → List Note → Option Pending → Option Note → Type 0
KeepsNoted asked lines records notes pending note =
    let s = log_of (bank 0).clock lines in
    Headline (terms_of (bank 0)) s.readings asked s.calls (record { entries = noted records notes; pending = noted_pending pending note })

abbrev pub first_line : ChannelLine
first_line = swapped 0 (1 ∷ 2 ∷ []) (ok (0 ∷ 0 ∷ []))

abbrev pub first_record : Record
first_record = kept 0 (1 ∷ 2 ∷ []) (0 ∷ 0 ∷ []) 0 10 false

abbrev pub lost_line : ChannelLine
lost_line = swapped 0 (1 ∷ []) (TimedOut 3)

abbrev pub lost_command : Pending
lost_command = record { caller = 0; code = 16; input = 1 ∷ 0 ∷ []; post = 0 }

abbrev pub note_at : ℕ → ℕ → ℕ → Note
note_at post done looks = record { post_at = post; done_at = done; looks = looks }

-- a call that was posted and hasn't ended, and the headline with such lines
abbrev pub open_line : CallLine
open_line = record { caller = 0; code = 16; asked = These (1 ∷ []); polls = 3; reply = None; number = 0 }

abbrev pub KeepsOpen : List CallLine → Option Pending → Option Note → Type 0
KeepsOpen calls pending note = Headline (terms_of (bank 0)) (0 ∷ []) [] calls (record { entries = []; pending = noted_pending pending note })

-- ---- wishes

-- a desired performance of the first processor, whose desired performance is the low half of the first byte
abbrev pub desires : ℕ → WishCall
desires number =
    record { caller = 0; binding = half_bytes 0; wish = record { cpu = 0; min = None; desired = number; max = None }; polls = 3; hold = 0 }

abbrev pub wished : ℕ → LineReply → ChannelLine
wished number reply = Wished (desires number) reply

-- the record of a wish
abbrev pub wish_record : List ℕ → Record
wish_record input = record { caller = 0; code = 1; input = input; error = true; output = input; post = 0; done = 10; late = false }

-- ---- runs

-- a swap that is held for all of its polls, and one that completes it first
abbrev pub late_run : ChannelRun
late_run = run_from (bank 0) (fresh (bank 0)) (Calls (swap 0 (1 ∷ []) 3) ∷ Calls (swap 1 (2 ∷ []) 0) ∷ [])

-- a swap, one that is too soon, a wait, and one that isn't
abbrev pub soon_run : ChannelRun
soon_run =
    run_from (bank 500) (fresh (bank 500)) (Calls (swap 0 (1 ∷ []) 0) ∷ Calls (swap 0 (2 ∷ []) 0) ∷ Waits 480 ∷ Calls (swap 0 (3 ∷ []) 0) ∷ [])

-- a wish that is put, and one that doesn't fit into its field
abbrev pub wish_run : ChannelRun
wish_run = run_from (bank 0) (fresh (bank 0)) (Sets (desires 5) ∷ Sets (desires 16) ∷ [])
