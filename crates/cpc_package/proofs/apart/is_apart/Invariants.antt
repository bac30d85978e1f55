use Rattle.cpc_package.proofs.Meeting.{ApartFrom}
use Rattle.cpc_package.proofs.apart.is_apart.Given as goal

abbrev pub invariant-loop-source : goal.invariant-loop-source
invariant-loop-source l = ApartFrom l.field l.sources l.source-index
