use Rattle.pcc_wiring.proofs.Rights.{is_right}
use Rattle.pcc_wiring.proofs.wiring.right_wirings.Goals as goal

pub returns : goal.returns
returns c = λ asks id flags s none. is_right id flags asks s none
