use Rattle.cpc_package.proofs.Meeting.{NoneShared}
use Rattle.cpc_package.proofs.apart.cpus_apart.Given as goal

abbrev pub invariant-loop-source : goal.invariant-loop-source
invariant-loop-source l = NoneShared l.a.sources l.b.sources l.source-index
