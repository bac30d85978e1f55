use Rattle.std.proofs.Common.{rules, arith}
use Rattle.pcc_script.proofs.Completing.{completed}
use Rattle.pcc_script.proofs.partial.complete.Goals as goal

pub returns : goal.returns
returns c = completed c.args.partial c.args.last.now c.in-Some.table c.in-Some-clock.clock (search rules) c.in-Some.is c.in-Some-clock.is (omega arith)
