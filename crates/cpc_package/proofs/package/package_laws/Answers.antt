use Rattle.cpc_package.proofs.Laws.{package_or_fault, package_and_fault, one_fault}
use Rattle.cpc_package.proofs.package.package_laws.Goals as goal

pub returns-clause-some : goal.returns-clause-some
returns-clause-some c = package_or_fault c.item_laws.ensures.some

pub returns-clause-not_both : goal.returns-clause-not_both
returns-clause-not_both c = package_and_fault c.item_laws.ensures.not_both c.item_laws.ensures.one_item

pub returns-clause-one_package : goal.returns-clause-one_package
returns-clause-one_package c = λ front rest other left i j h k e. c.item_laws.ensures.one_item front rest other left i j h.item k.item e

pub returns-clause-one_fault : goal.returns-clause-one_fault
returns-clause-one_fault c = one_fault c.item_laws.ensures.not_both c.item_laws.ensures.one_item c.item_laws.ensures.one_fault
