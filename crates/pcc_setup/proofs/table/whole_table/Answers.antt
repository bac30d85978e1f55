use Rattle.std.proofs.Common.{rules}
use Rattle.pcc_setup.proofs.Refused.{followed, wrong}
use Rattle.pcc_setup.proofs.table.whole_table.Goals as goal

pub returns-then-len-bytes : goal.returns-then-len-bytes
returns-then-len-bytes c = (followed c.args.bytes.now c.in-Ok.len c.in-Ok.table c.in-Ok.ensures.found.1 c.if-len-bytes.true, tt)

pub returns-else-eq : goal.returns-else-eq
returns-else-eq c = wrong c.args.bytes.now c.in-Err.fault c.in-Err.ensures.exact (search rules) (search rules)
