use Rattle.cppc_calls.proofs.Refusals.{exactly}
use Rattle.cppc_calls.proofs.wish.wish_laws.Goals as goal

pub returns : goal.returns
returns c = exactly
