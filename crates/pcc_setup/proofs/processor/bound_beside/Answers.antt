use Rattle.pcc_setup.proofs.Checking.{alone_error, beside_by}
use Rattle.pcc_setup.proofs.processor.bound_beside.Goals as goal

pub returns-in-Ok : goal.returns-in-Ok
returns-in-Ok c = beside_by c.args.opened.now c.args.before.now c.args.bytes.now c.in-Ok.binding c.beside.result c.in-Ok.ensures c.beside.ensures

pub returns-in-Err : goal.returns-in-Err
returns-in-Err c = alone_error c.args.opened.now c.args.before.now c.args.bytes.now c.in-Err.error c.in-Err.ensures
