use Rattle.cpc_package.proofs.Lines.{Written}
use Rattle.cpc_package.proofs.text.cpc_lines.Given as goal

abbrev pub invariant-loop-n : goal.invariant-loop-n
invariant-loop-n l = Written l.out.items l.elements l.n
