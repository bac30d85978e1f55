use Rattle.audit_run.proofs.Judging.{IsJudgedTo}
use Rattle.audit_run.proofs.judge.judged.Given as goal

abbrev pub invariant-loop-place : goal.invariant-loop-place
invariant-loop-place l = IsJudgedTo l.opened l.journals l.place l.out.items
