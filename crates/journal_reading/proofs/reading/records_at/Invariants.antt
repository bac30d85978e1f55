use Rattle.std.proofs.Common.{length}
use Rattle.pcc_bytes.specs.Fields.{lines_of}
use Rattle.journal_reading.proofs.Walking.{Walking}
use Rattle.journal_reading.proofs.reading.records_at.Given as goal

abbrev pub invariant-loop-records : goal.invariant-loop-records
invariant-loop-records l = Walking l.text l.records l.rest

abbrev pub decreases-loop-records : goal.decreases-loop-records
decreases-loop-records l = length (lines_of l.rest)
