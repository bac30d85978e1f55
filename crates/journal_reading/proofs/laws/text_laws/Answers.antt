use Rattle.journal_reading.proofs.OneFault.{not_both, one_fault, one_journal}
use Rattle.journal_reading.proofs.Deciding.{journal_or_fault}
use Rattle.journal_reading.proofs.laws.text_laws.Goals as goal

pub returns-clause-some : goal.returns-clause-some
returns-clause-some c = journal_or_fault

pub returns-clause-not_both : goal.returns-clause-not_both
returns-clause-not_both c = λ first text t f. not_both first text t.journal t.long f.line f.kind t.tells f.wrong

pub returns-clause-one_fault : goal.returns-clause-one_fault
returns-clause-one_fault c = one_fault

pub returns-clause-one_journal : goal.returns-clause-one_journal
returns-clause-one_journal c = one_journal
