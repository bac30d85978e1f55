use Rattle.audit_run.proofs.WorkedJournals.{exchanged, one_right, second_wrong, two_right}
use Rattle.audit_run.proofs.worked.worked_journals.Goals as goal

pub returns-clause-one_right : goal.returns-clause-one_right
returns-clause-one_right c = one_right

pub returns-clause-two_right : goal.returns-clause-two_right
returns-clause-two_right c = two_right

pub returns-clause-second_wrong : goal.returns-clause-second_wrong
returns-clause-second_wrong c = second_wrong

pub returns-clause-exchanged : goal.returns-clause-exchanged
returns-clause-exchanged c = exchanged
