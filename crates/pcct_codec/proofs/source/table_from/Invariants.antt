use Rattle.std.proofs.Common.{◌≡◌, ◌≤◌, ◌-◌, length}
use Rattle.pcct_codec.proofs.Pulling.{Pulled}
use Rattle.pcct_codec.proofs.source.table_from.Given as goal

abbrev pub invariant-loop-reader : goal.invariant-loop-reader
invariant-loop-reader g l =
    Pulled (g.S.Source.left l.initial.source) (g.S.Source.left l.source) l.reader
    × (g.S.Source.faults l.initial.source ≤ g.S.Source.faults l.source)
    × (length l.buf ≡ 1024)

abbrev pub decreases-loop-reader : goal.decreases-loop-reader
decreases-loop-reader g l = 65328 - length l.reader
