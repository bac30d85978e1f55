use Rattle.pcc_audit.proofs.OneVerdict.{one_verdict}
use Rattle.pcc_audit.proofs.SomeVerdict.{some_verdict}
use Rattle.pcc_audit.proofs.YesExactly.{yes_exactly}
use Rattle.pcc_audit.proofs.laws.verdict_laws.Goals as goal

pub returns-clause-yes_exactly : goal.returns-clause-yes_exactly
returns-clause-yes_exactly c = yes_exactly

pub returns-clause-some_verdict : goal.returns-clause-some_verdict
returns-clause-some_verdict c = some_verdict

pub returns-clause-one_verdict : goal.returns-clause-one_verdict
returns-clause-one_verdict c = one_verdict
