use Rattle.cppc_headline.proofs.Openings.{new_is}
use Rattle.cppc_headline.proofs.law.new_performance.Goals as goal

pub returns : goal.returns
returns c = new_is
