use Rattle.pcc_text.proofs.DigitTable.{Checked}
use Rattle.pcc_text.proofs.digits.read_hex.Given as goal

abbrev pub invariant-loop-i : goal.invariant-loop-i
invariant-loop-i l = Checked l.text l.out l.i l.same
