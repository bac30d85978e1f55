use Rattle.pcc_setup.proofs.Controllers.{controllers_begin, few_caps}
use Rattle.pcc_setup.proofs.OneFault.{one_refusal, one_set_up, one_set_up_table, set_up_kept, set_up_or_refused}
use Rattle.pcc_setup.proofs.setup.set_up_laws.Goals as goal

pub returns-clause-some : goal.returns-clause-some
returns-clause-some c = set_up_or_refused

pub returns-clause-not_both : goal.returns-clause-not_both
returns-clause-not_both c = set_up_kept

pub returns-clause-one_refusal : goal.returns-clause-one_refusal
returns-clause-one_refusal c = one_refusal

pub returns-clause-one_table : goal.returns-clause-one_table
returns-clause-one_table c = one_set_up_table

pub returns-clause-one_set_up : goal.returns-clause-one_set_up
returns-clause-one_set_up c = one_set_up

pub returns-clause-controllers : goal.returns-clause-controllers
returns-clause-controllers c = controllers_begin

pub returns-clause-few_caps : goal.returns-clause-few_caps
returns-clause-few_caps c = few_caps
