use Rattle.pcc_audit.proofs.Bits.{one_outside}
use Rattle.pcc_audit.proofs.fields.is_inside.Goals as goal

pub returns-in-Err : goal.returns-in-Err
returns-in-Err c = (λ h. cc, λ r. absurd (one_outside c.args.cpu c.args.space.now c.in-Err.field-0 c.in-Err.ensures r))
