use Rattle.std.proofs.Common.{true}
use Rattle.pcct_codec.proofs.Existing.{begins_or_faulty, begins_right, not_both, right_begins}
use Rattle.pcct_codec.proofs.Fronts.{settled}
use Rattle.pcct_codec.proofs.read.decision_laws.Goals as goal

pub returns-clause-settled : goal.returns-clause-settled
returns-clause-settled c = settled

pub returns-clause-right : goal.returns-clause-right
returns-clause-right c = λ bytes. (right_begins bytes, begins_right true bytes)

pub returns-clause-begun : goal.returns-clause-begun
returns-clause-begun c = begins_right

pub returns-clause-some : goal.returns-clause-some
returns-clause-some c = begins_or_faulty

pub returns-clause-not_both : goal.returns-clause-not_both
returns-clause-not_both c = not_both
