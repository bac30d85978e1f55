use Rattle.journal_reading.proofs.WorkedJournals.{is_told, no_text, not_told}
use Rattle.journal_reading.proofs.cases.worked_journals.Goals as goal

pub returns-clause-told : goal.returns-clause-told
returns-clause-told c = is_told

pub returns-clause-too_wide : goal.returns-clause-too_wide
returns-clause-too_wide c = not_told

pub returns-clause-empty : goal.returns-clause-empty
returns-clause-empty c = no_text
