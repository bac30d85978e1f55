use Rattle.pcct_table.proofs.Telling.{text_not_both, text_one_fault, text_one_table, text_some}
use Rattle.pcct_table.proofs.build.text_laws.Goals as goal

pub returns-clause-some : goal.returns-clause-some
returns-clause-some c = text_some

pub returns-clause-not_both : goal.returns-clause-not_both
returns-clause-not_both c = text_not_both

pub returns-clause-one_fault : goal.returns-clause-one_fault
returns-clause-one_fault c = text_one_fault

pub returns-clause-one_table : goal.returns-clause-one_table
returns-clause-one_table c = text_one_table
