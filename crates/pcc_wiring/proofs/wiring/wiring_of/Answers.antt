use Rattle.pcc_wiring.proofs.Rights.{is_told_right}
use Rattle.pcc_wiring.proofs.wiring.wiring_of.Goals as goal

pub returns-clause-right : goal.returns-clause-right
returns-clause-right c =
    is_told_right c.args.asks c.args.id c.args.flags c.memory_len.result c.args.subspace.now c.roles_of-roles.result c.wiring_with-wiring.result c.test.result c.in_ok-test.field-0
    c.in_default.not-Other c.wiring_with-wiring.ensures c.roles_of-roles.ensures c.memory_len.ensures c.test.ensures c.in_ok-test.was
