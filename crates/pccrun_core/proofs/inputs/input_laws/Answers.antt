use Rattle.pccrun_core.proofs.OneLine.{accepted_or_rejected, is_made, not_both, one_rejection, one_text, some_text}
use Rattle.pccrun_core.proofs.inputs.input_laws.Goals as goal

pub returns-clause-some : goal.returns-clause-some
returns-clause-some c = let p = c.package_laws.ensures in accepted_or_rejected p.some p.not_both p.one_package p.one_spelling

pub returns-clause-not_both : goal.returns-clause-not_both
returns-clause-not_both c = not_both

pub returns-clause-one_refusal : goal.returns-clause-one_refusal
returns-clause-one_refusal c = let p = c.package_laws.ensures in one_rejection p.one_package p.one_spelling p.one_fault

pub returns-clause-made : goal.returns-clause-made
returns-clause-made c = is_made

pub returns-clause-some_text : goal.returns-clause-some_text
returns-clause-some_text c = some_text

pub returns-clause-one_text : goal.returns-clause-one_text
returns-clause-one_text c = one_text c.package_laws.ensures.one_package
