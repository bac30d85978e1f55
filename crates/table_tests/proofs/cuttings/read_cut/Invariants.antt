use Rattle.std.proofs.Common.{◌≡◌, ◌≤◌, false, length}
use Rattle.pcct_codec.specs.Faults.{Undecided, decision}
use Rattle.table_tests.proofs.cuttings.read_cut.Given as goal

abbrev pub invariant-loop-rest : goal.invariant-loop-rest
invariant-loop-rest l = (decision false l.reader ≡ Undecided) × (length l.rest ≤ length l.bytes)

abbrev pub decreases-loop-rest : goal.decreases-loop-rest
decreases-loop-rest l = length l.rest
