use Rattle.std.proofs.Common.{◌≡◌, ◌-◌, ◌≤◌, length}
use Rattle.aml_pkg.specs.Reading.{elements_at}
use Rattle.aml_pkg.proofs.Loop.{with_front}
use Rattle.aml_pkg.proofs.reading.elements_of.Given as goal

abbrev pub invariant-loop-i : goal.invariant-loop-i
invariant-loop-i l = record {
  so_far : with_front l.items (elements_at (l.count - l.i) l.window l.rest) ≡ elements_at l.count l.fn.window l.bytes;
  from : length l.rest ≤ l.window.end;
  whole : l.window.whole ≡ l.i;
}
