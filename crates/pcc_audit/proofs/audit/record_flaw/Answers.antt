use Rattle.pcc_audit.proofs.Commands.{sent_has}
use Rattle.pcc_audit.proofs.audit.record_flaw.Goals as goal

pub returns-in-Some-clause-flaw : goal.returns-in-Some-clause-flaw
returns-in-Some-clause-flaw g c =
    sent_has c.args.head.now c.args.cpus.now c.args.times.now c.args.before.now g.E.Executor.exec_of (g.E.Executor.state c.args.device.now)
    c.args.told.now c.in-Some.flaw
    (rw c.len.ensures at c.if-len-head.false) (rw c.len-2.ensures at c.if-len-head-2.false)
    (rw (c.as_slice.ensures, c.in-Some.is) at c.sent_flaw.ensures)
