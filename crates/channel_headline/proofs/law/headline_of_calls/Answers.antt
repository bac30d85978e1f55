use Rattle.channel_headline.proofs.WholeRuns.{headline_of_runs}
use Rattle.channel_headline.proofs.law.headline_of_calls.Goals as goal

pub returns : goal.returns
returns c = headline_of_runs
