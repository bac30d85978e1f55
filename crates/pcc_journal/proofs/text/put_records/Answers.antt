use Rattle.pcc_journal.proofs.Written.{written_more}
use Rattle.pcc_journal.proofs.text.put_records.Goals as goal

pub loop-place-preserved : goal.loop-place-preserved
loop-place-preserved c =
    written_more _ _ _ _ _ c.index-records-place.result c.loop-place-test.true c.index-records-place.is c.in_ok-put_record.ensures c.loop-place.invariant
