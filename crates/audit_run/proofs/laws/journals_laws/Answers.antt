use Rattle.audit_run.proofs.OneReading.{journals_or_wrong, not_both, one_fault, one_list}
use Rattle.audit_run.proofs.laws.journals_laws.Goals as goal

pub returns-clause-some : goal.returns-clause-some
returns-clause-some c = journals_or_wrong

pub returns-clause-not_both : goal.returns-clause-not_both
returns-clause-not_both c = not_both

pub returns-clause-one_fault : goal.returns-clause-one_fault
returns-clause-one_fault c = one_fault

pub returns-clause-one_list : goal.returns-clause-one_list
returns-clause-one_list c = one_list
