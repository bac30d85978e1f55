use Rattle.audit_run.proofs.WorkedCuts.{after_script, first_field, no_journals, no_script, nothing}
use Rattle.audit_run.proofs.worked.worked_cuts.Goals as goal

pub returns-clause-after_script : goal.returns-clause-after_script
returns-clause-after_script c = after_script

pub returns-clause-first_field : goal.returns-clause-first_field
returns-clause-first_field c = first_field

pub returns-clause-no_script : goal.returns-clause-no_script
returns-clause-no_script c = no_script

pub returns-clause-no_journals : goal.returns-clause-no_journals
returns-clause-no_journals c = no_journals

pub returns-clause-nothing : goal.returns-clause-nothing
returns-clause-nothing c = nothing
