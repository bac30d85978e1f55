use Rattle.pcct_table.proofs.Shown.{Showing}
use Rattle.pcct_table.proofs.show.show_lines.Given as goal

abbrev pub invariant-loop-place : goal.invariant-loop-place
invariant-loop-place l = Showing l.table l.place l.out.items
