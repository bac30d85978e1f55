use Rattle.aml_pkg.proofs.Laws.{item_or_fault, not_both, one_item, one_fault}
use Rattle.aml_pkg.proofs.reading.item_laws.Goals as goal

pub returns-clause-some : goal.returns-clause-some
returns-clause-some c = item_or_fault

pub returns-clause-not_both : goal.returns-clause-not_both
returns-clause-not_both c = not_both

pub returns-clause-one_item : goal.returns-clause-one_item
returns-clause-one_item c = one_item

pub returns-clause-one_fault : goal.returns-clause-one_fault
returns-clause-one_fault c = one_fault
