use Rattle.pcc_text.proofs.Appending.{Appending}
use Rattle.pcc_script.specs.Text.{open_statement}
use Rattle.pcc_script.proofs.Written.{text_by}
use Rattle.pcc_script.proofs.writing.put_opens.Given as goal

abbrev pub invariant-loop-line : goal.invariant-loop-line
invariant-loop-line l = Appending (text_by open_statement) l.initial.out.items l.out.items l.opens l.line-index
