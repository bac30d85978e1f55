use Rattle.pcc_script.proofs.Telling.{text_not_both, text_one_fault, text_one_scenario, text_some}
use Rattle.pcc_script.proofs.reading.text_laws.Goals as goal

pub returns-clause-some : goal.returns-clause-some
returns-clause-some c = text_some

pub returns-clause-not_both : goal.returns-clause-not_both
returns-clause-not_both c = text_not_both

pub returns-clause-one_fault : goal.returns-clause-one_fault
returns-clause-one_fault c = text_one_fault

pub returns-clause-one_scenario : goal.returns-clause-one_scenario
returns-clause-one_scenario c = text_one_scenario
