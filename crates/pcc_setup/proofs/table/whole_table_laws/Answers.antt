use Rattle.pcc_setup.proofs.WholeTables.{one_table_refusal, whole_kept, whole_or_refused}
use Rattle.pcc_setup.proofs.table.whole_table_laws.Goals as goal

pub returns-clause-some : goal.returns-clause-some
returns-clause-some c = whole_or_refused

pub returns-clause-not_both : goal.returns-clause-not_both
returns-clause-not_both c = whole_kept

pub returns-clause-one_refusal : goal.returns-clause-one_refusal
returns-clause-one_refusal c = one_table_refusal
