use Rattle.pcc_steps.proofs.Refusals.{refuses_identity, refuses_flag, refuses_length, refuses_input, refuses_space, refuses_opening}
use Rattle.pcc_steps.proofs.laws.refusing_laws.Goals as goal

pub returns : goal.returns
returns c = record { identity = refuses_identity; flag = refuses_flag; length = refuses_length; input = refuses_input; space = refuses_space; opening = refuses_opening }
