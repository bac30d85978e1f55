use Rattle.pccrun_core.proofs.OneAnswer.{one_answer, one_status, refused_line_is}
use Rattle.pccrun_core.proofs.inputs.answer_laws.Goals as goal

pub returns-clause-refused : goal.returns-clause-refused
returns-clause-refused c = let p = c.package_laws.ensures in refused_line_is p.one_package p.one_spelling p.one_fault

pub returns-clause-one_status : goal.returns-clause-one_status
returns-clause-one_status c = let p = c.package_laws.ensures in one_status p.one_package p.one_spelling p.one_fault

pub returns-clause-one_answer : goal.returns-clause-one_answer
returns-clause-one_answer c = let p = c.package_laws.ensures in one_answer p.one_package p.one_spelling p.one_fault
