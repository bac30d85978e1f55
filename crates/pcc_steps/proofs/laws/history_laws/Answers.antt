use Rattle.pcc_steps.proofs.Agreement.{histories_agree}
use Rattle.pcc_steps.proofs.laws.history_laws.Goals as goal

pub returns : goal.returns
returns c = histories_agree
