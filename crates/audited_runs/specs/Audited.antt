-- A journal that the program printed is read back from its text, and audited as yes.
use Rattle.std.specs.Prelude.{◌≡◌, ℕ, List, [], ◌∷◌, ◌++◌, length, Option, None, false}
use Rattle.pcc_journal.specs.declared.record.Record.{Record}
use Rattle.pcc_journal.specs.declared.record.Pending.{Pending}
use Rattle.pcc_journal.specs.JournalText.{journal_text}
use Rattle.journal_reading.specs.declared.told.Told.{Told}
use Rattle.journal_reading.specs.Told.{IsTold}
use Rattle.journal_reading.specs.Faults.{Tells}
use Rattle.pcc_audit.specs.Verdicts.{IsVerdict}
use Rattle.pcc_audit.specs.declared.verdict.Verdict.TheVariants.{Yes}
use Rattle.pcc_script.specs.declared.scenario.Scenario.{Scenario}
use Rattle.pcc_setup.specs.declared.opening.Opened.{Opened}
use Rattle.audit_run.specs.Audits.{IsAuditOf, yes_text}
use Rattle.audit_run.specs.Boards.{board_of}
use Rattle.channel_turns.specs.ChannelRuns.{Channel, pending_of}
use Rattle.channel_plain.specs.declared.trace.TraceLine.{TraceLine}
use Rattle.channel_plain.specs.TraceText.{trace_text}

-- the journal on an opened subspace, of these records and this pending command
abbrev pub told_on : Opened → List Record → Option Pending → Told
told_on o records pending = record { head = o.head; records = records; pending = pending }

-- Such a journal is audited as yes. Its numbers are in the ranges of their fields; a text that begins with the journal's own is read as this
-- journal and as no other, to its last byte; and the verdict on it is yes.
pub record IsAuditedAsYes (o : Opened) (records : List Record) (pending : Option Pending) : Type 0 where
  pub told : IsTold (told_on o records pending)
  pub read : (rest : List ℕ) → Tells (journal_text o.head records pending ++ rest) (told_on o records pending)
      (length (journal_text o.head records pending))
  pub yes : IsVerdict (board_of o) (told_on o records pending) Yes

-- the lines of a script before its actions, which say what it opens
abbrev pub without_actions : Scenario → Scenario
without_actions s = record s { actions = []; picks = None }

-- the journal of a channel
abbrev pub told_of : Channel → Told
told_of c = record { head = c.start.head; records = c.now.records; pending = pending_of c.now.in_flight }

-- One subspace is opened, and a text is a trace and the journal of that subspace. The journal is audited as yes, and one line is written of it.
pub record IsAuditedAlone (opened : List Opened) (text : List ℕ) (trace : List TraceLine) (records : List Record) (pending : Option Pending) : Type 0 where
  pub subspace : Opened
  pub alone : opened ≡ subspace ∷ []
  pub text_is : text ≡ trace_text trace ++ journal_text subspace.head records pending
  pub audited : IsAuditedAsYes subspace records pending
  pub written : IsAuditOf opened (journal_text subspace.head records pending) false (yes_text opened (told_on subspace records pending ∷ []))
