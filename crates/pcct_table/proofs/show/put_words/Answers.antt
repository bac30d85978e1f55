use Rattle.pcct_table.proofs.Shown.{rows_put}
use Rattle.pcct_table.proofs.show.put_words.Goals as goal

pub returns : goal.returns
returns c = rows_put c.args.bytes.now c.args.out.now.items c.loop-row.out.items c.args.rows.now c.loop-row.row-index c.loop-row-test.false c.loop-row.invariant
