use Rattle.pcc_steps.proofs.Turns.{device_turns, device_rests}
use Rattle.pcc_steps.proofs.laws.device_laws.Goals as goal

pub returns : goal.returns
returns c = record { turn = device_turns; rest = device_rests }
