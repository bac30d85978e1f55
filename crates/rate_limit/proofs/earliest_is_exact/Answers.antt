use Rattle.rate_limit.proofs.Law.{exact}
use Rattle.rate_limit.proofs.earliest_is_exact.Goals as goal

pub returns : goal.returns
returns c = exact
