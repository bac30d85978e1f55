use Rattle.audit_run.proofs.OneCut.{one_cut, some_cut}
use Rattle.audit_run.proofs.laws.cut_laws.Goals as goal

pub returns-clause-some : goal.returns-clause-some
returns-clause-some c = some_cut

pub returns-clause-one_cut : goal.returns-clause-one_cut
returns-clause-one_cut c = one_cut
