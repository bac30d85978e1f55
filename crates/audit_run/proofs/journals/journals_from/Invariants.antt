use Rattle.audit_run.proofs.InTurn.{Reading}
use Rattle.audit_run.proofs.journals.journals_from.Given as goal

abbrev pub invariant-loop : goal.invariant-loop
invariant-loop l = Reading l.first_line l.text l.counter l.journals l.rest l.line
