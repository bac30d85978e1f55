use Rattle.pcc_journal.proofs.Written.{Written}
use Rattle.pcc_journal.proofs.text.put_records.Given as goal

abbrev pub invariant-loop-place : goal.invariant-loop-place
invariant-loop-place l = Written l.initial.out.items l.out.items l.records l.place
