use Rattle.cpc_package.proofs.Meeting.{share_exact}
use Rattle.cpc_package.proofs.binding.share_law.Goals as goal

pub returns : goal.returns
returns c = share_exact
