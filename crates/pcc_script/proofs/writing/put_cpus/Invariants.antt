use Rattle.pcc_text.proofs.Appending.{Appending}
use Rattle.pcc_script.specs.Text.{cpu_statement}
use Rattle.pcc_script.proofs.Written.{text_by}
use Rattle.pcc_script.proofs.writing.put_cpus.Given as goal

abbrev pub invariant-loop-bytes : goal.invariant-loop-bytes
invariant-loop-bytes l = Appending (text_by cpu_statement) l.initial.out.items l.out.items l.cpus l.bytes-index
