use Rattle.std.proofs.Common.{◌≡◌, false}
use Rattle.pcct_codec.specs.Faults.{Undecided, decision}
use Rattle.table_tests.proofs.pieces.read_pieces.Given as goal

abbrev pub invariant-loop-place : goal.invariant-loop-place
invariant-loop-place l = decision false l.reader ≡ Undecided
