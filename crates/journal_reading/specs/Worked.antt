-- A journal on which the definitions are evaluated: two records, one of them late and without bytes, and a pending command.
use Rattle.std.specs.Prelude.{true, false, [], ◌∷◌, Some, None}
use Rattle.pcc_journal.specs.declared.record.Record.{Record}
use Rattle.pcc_journal.specs.declared.record.Pending.{Pending}
use Rattle.pcc_journal.specs.declared.text.JournalHead.{JournalHead}
use Rattle.journal_reading.specs.declared.told.Told.{Told}

abbrev pub worked_head : JournalHead
worked_head = record {
  id = 255;
  kind = 3;
  cppc = true;
  room = 4294967295;
  limits = record { turnaround = 500; per_minute = 60 };
  reports = false;
}

abbrev pub late_record : Record
late_record = record { caller = 4294967295; code = 5; input = []; error = true; output = []; post = 100; done = 18446744073709551615; late = true }

abbrev pub pending_command : Pending
pending_command = record { caller = 3; code = 17; input = []; post = 60000000 }

abbrev pub worked_told : Told
worked_told = record { head = worked_head; records = late_record ∷ late_record ∷ []; pending = Some pending_command }

-- a journal with an index that its field cannot hold
abbrev pub too_wide : Told
too_wide = record { head = record worked_head { id = 256 }; records = []; pending = None }
