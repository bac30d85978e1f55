use Rattle.cppc_headline.proofs.Requests.{performance_of_runs}
use Rattle.cppc_headline.proofs.law.headline_of_performance.Goals as goal

pub returns : goal.returns
returns c = performance_of_runs
