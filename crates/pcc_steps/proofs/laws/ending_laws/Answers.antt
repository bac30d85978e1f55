use Rattle.pcc_steps.proofs.Ends.{ask_tells_ends, answer_tells_ends}
use Rattle.pcc_steps.proofs.laws.ending_laws.Goals as goal

pub returns : goal.returns
returns c = record { asks = ask_tells_ends; answers = answer_tells_ends }
