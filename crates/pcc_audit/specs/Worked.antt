-- Worked journals: of a controller of two processors, and of a Bank.
use Rattle.std.specs.Prelude.{ℕ, true, false, List, [], ◌∷◌, ◌+◌, Option}
use Rattle.pcc_history.specs.Devices.{Device, bank_exec}
use Rattle.pcc_journal.specs.declared.record.Record.{Record}
use Rattle.pcc_journal.specs.declared.record.Pending.{Pending}
use Rattle.pcc_journal.specs.declared.text.JournalHead.{JournalHead}
use Rattle.cpc_package.specs.declared.binding.Binding.{Binding}
use Rattle.cpc_package.specs.declared.binding.Source1.TheVariants.{Missing, Number, At}
use Rattle.journal_reading.specs.declared.told.Told.{Told}
use Rattle.pcc_audit.specs.declared.verdict.Flaw.{Flaw}
use Rattle.pcc_audit.specs.Verdicts.{Board, RecordFlaw}

-- ---- a controller

-- a processor whose range is 1 to 9; its desired performance is in four bits from a place on
abbrev pub processor : ℕ → Binding
processor at_bit = record {
  subspace = 0;
  sources =
      Missing ∷ Missing ∷ Number 9 ∷ Missing ∷ Missing ∷ Number 1 ∷ Missing ∷ At (record { at_bit = at_bit; width = 4 }) ∷ Missing ∷ Missing
      ∷ Missing ∷ Missing ∷ Missing ∷ Missing ∷ Missing ∷ Missing ∷ Missing ∷ Missing ∷ Missing ∷ Missing ∷ Missing ∷ Missing ∷ Missing ∷ [];
}

abbrev pub controller_head : JournalHead
controller_head = record {
  id = 0;
  kind = 0;
  cppc = true;
  room = 2;
  limits = record { turnaround = 10; per_minute = 0 };
  reports = true;
}

-- finds every command good and gives its input back
abbrev pub returning : Device
returning state code space = record { state = state; bad = false; space = space }

-- two processors in the low halves of two bytes
abbrev pub controller : Board
controller = record {
  head = controller_head;
  exec = returning;
  start = [];
  opening = 5 ∷ 5 ∷ [];
  cpus = processor 0 ∷ processor 8 ∷ [];
}

abbrev pub sent : ℕ → ℕ → List ℕ → Record
sent code post input = record { caller = 0; code = code; input = input; error = false; output = input; post = post; done = post + 10; late = false }

-- commands that read, and commands that write
abbrev pub reads : ℕ → List ℕ → Record
reads post input = sent 0 post input

abbrev pub writes : ℕ → List ℕ → Record
writes post input = sent 1 post input

-- a first command, which is done at 10: the next may be posted from 20 on
abbrev pub first_read : Record
first_read = reads 0 (5 ∷ 5 ∷ [])

-- the flaw of a second command
abbrev pub Second : Record → Option Flaw → Type 0
Second r flaw = RecordFlaw controller (first_read ∷ []) r flaw

abbrev pub told : List Record → Option Pending → Told
told records pending = record { head = controller_head; records = records; pending = pending }

abbrev pub posted : ℕ → ℕ → List ℕ → Pending
posted code post input = record { caller = 0; code = code; input = input; post = post }

-- ---- a Bank that holds a 7

abbrev pub bank : Board
bank = record {
  head = record controller_head { cppc = false; room = 1 };
  exec = bank_exec;
  start = 0 ∷ 7 ∷ [];
  opening = 0 ∷ [];
  cpus = [];
}

-- the first command takes a 5 in and gives the 7 out; the second one gives out what is held
abbrev pub taken_in : Record
taken_in = record (sent 16 0 (5 ∷ [])) { output = 7 ∷ [] }

abbrev pub given_out : ℕ → Record
given_out byte = record (sent 17 20 (7 ∷ [])) { output = byte ∷ [] }
