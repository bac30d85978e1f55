use Rattle.pcc_script.proofs.Within.{within_is, is_within}
use Rattle.pcc_script.proofs.reading.within_limits.Goals as goal

pub returns : goal.returns
returns c = λ s. (within_is s, is_within s)
