use Rattle.pcc_audit.proofs.Commands.{pending_has}
use Rattle.pcc_audit.proofs.audit.pending_flaw.Goals as goal

pub returns : goal.returns
returns c =
    pending_has c.args.head.now c.args.cpus.now c.args.times.now c.args.before.now c.args.pending.now c.sent_flaw.result
    (rw c.len.ensures at c.if-len-head.false) (rw c.as_slice.ensures at c.sent_flaw.ensures)
