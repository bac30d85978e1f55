use Rattle.pcc_setup.specs.Processors.{NoPackage}
use Rattle.pcc_setup.proofs.Checking.{bound_by, followed}
use Rattle.pcc_setup.proofs.processor.bound.Goals as goal

pub returns-in-Ok : goal.returns-in-Ok
returns-in-Ok c = bound_by c.args.opened.now c.args.bytes.now c.in-Ok.cpc c.bound_to.result c.in-Ok.ensures c.bound_to.ensures

pub returns-in-Err-Wrong : goal.returns-in-Err-Wrong
returns-in-Err-Wrong c = NoPackage c.in-Err-Wrong.fault (rw c.in-Err-Wrong.field-0-is at c.in-Err-Wrong.ensures)

pub returns-in-Err-Trailing : goal.returns-in-Err-Trailing
returns-in-Err-Trailing c = let h = rw c.in-Err-Trailing.field-0-is at c.in-Err-Trailing.ensures in
    followed c.args.opened.now c.args.bytes.now c.in-Err-Trailing.at h.0 h.1 h.2
