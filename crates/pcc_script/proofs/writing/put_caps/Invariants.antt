use Rattle.pcc_text.proofs.Appending.{Appending}
use Rattle.pcc_script.specs.Text.{cap_statement}
use Rattle.pcc_script.proofs.Written.{text_by}
use Rattle.pcc_script.proofs.writing.put_caps.Given as goal

abbrev pub invariant-loop-cap : goal.invariant-loop-cap
invariant-loop-cap l = Appending (text_by cap_statement) l.initial.out.items l.out.items l.caps l.cap-index
