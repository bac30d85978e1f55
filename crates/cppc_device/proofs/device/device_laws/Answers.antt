use Rattle.cppc_device.specs.StateLaws.{state_back}
use Rattle.cppc_device.proofs.device.device_laws.Goals as goal

pub returns : goal.returns
returns c = state_back
