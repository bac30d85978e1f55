use Rattle.audit_run.proofs.Judging.{judges}
use Rattle.audit_run.proofs.OneAudit.{one_audit, some_audit}
use Rattle.audit_run.proofs.laws.audit_laws.Goals as goal

pub returns-clause-judges : goal.returns-clause-judges
returns-clause-judges c = λ s os within h. judges s os within h (c.set_up_laws.ensures.controllers s os h) (c.set_up_laws.ensures.few_caps s os h)

pub returns-clause-some : goal.returns-clause-some
returns-clause-some c = some_audit c.verdict_laws.ensures.some_verdict

pub returns-clause-one_audit : goal.returns-clause-one_audit
returns-clause-one_audit c = one_audit c.verdict_laws.ensures.one_verdict c.journals_laws.ensures.one_list
