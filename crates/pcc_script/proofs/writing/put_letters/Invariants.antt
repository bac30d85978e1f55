use Rattle.pcc_text.proofs.Appending.{Appending}
use Rattle.pcc_script.proofs.Written.{one_letter}
use Rattle.pcc_script.proofs.writing.put_letters.Given as goal

abbrev pub invariant-loop-letter : goal.invariant-loop-letter
invariant-loop-letter l = Appending one_letter l.initial.out.items l.out.items l.letters l.letter-index
