use Rattle.rate_limit.proofs.Law.{completed}
use Rattle.rate_limit.proofs.completion_keeps_limits.Goals as goal

pub returns : goal.returns
returns c = completed
