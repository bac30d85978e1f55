use Rattle.pccrun_core.proofs.Refused.{text_wrong}
use Rattle.pccrun_core.proofs.tables.build.Goals as goal

pub returns-in-Err-Fault : goal.returns-in-Err-Fault
returns-in-Err-Fault c = rw c.in-Err-Fault.field-0-is (text_wrong c.args.text.now c.in-Err-Fault.line c.in-Err-Fault.kind (rw c.in-Err-Fault.field-0-is at c.in-Err-Fault.ensures.only) (rw c.in-Err-Fault.field-0-is at c.in-Err-Fault.ensures.fault), tt)
