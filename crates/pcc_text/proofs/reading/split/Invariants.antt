use Rattle.std.proofs.Common.{map}
use Rattle.pcc_text.proofs.Splitting.{Splitting}
use Rattle.pcc_text.proofs.reading.split.Given as goal

abbrev pub invariant-loop-cut : goal.invariant-loop-cut
invariant-loop-cut l = Splitting l.at l.text (map (λ x. x.now) l.parts.items) l.start l.cut-iterator
