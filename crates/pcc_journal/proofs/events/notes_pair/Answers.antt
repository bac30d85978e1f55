use Rattle.pcc_journal.proofs.EventsGrow.{noted_again, noted_last, noted_notes, noted_records}
use Rattle.pcc_journal.proofs.events.notes_pair.Goals as goal

pub returns-clause-records : goal.returns-clause-records
returns-clause-records c = noted_records

pub returns-clause-notes : goal.returns-clause-notes
returns-clause-notes c = noted_notes

pub returns-clause-again : goal.returns-clause-again
returns-clause-again c = noted_again

pub returns-clause-last : goal.returns-clause-last
returns-clause-last c = noted_last
