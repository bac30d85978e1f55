use Rattle.pccrun_core.proofs.Refused.{no_script}
use Rattle.pccrun_core.proofs.script.script_of.Goals as goal

pub returns-in-Err-Fault : goal.returns-in-Err-Fault
returns-in-Err-Fault c = (no_script c.args.command c.args.text.now c.in-Err-Fault.line c.in-Err-Fault.kind (rw c.in-Err-Fault.field-0-is at c.in-Err-Fault.ensures.only) (rw c.in-Err-Fault.field-0-is at c.in-Err-Fault.ensures.fault), tt)
