use Rattle.pcc_setup.proofs.text.put_cpu_fault.Goals as goal

pub returns-in-Trailing : goal.returns-in-Trailing
returns-in-Trailing c = rw c.in-Trailing.is c.put_numbered.ensures
