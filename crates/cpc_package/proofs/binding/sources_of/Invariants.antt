use Rattle.cpc_package.specs.Entries.{entries_of}
use Rattle.cpc_package.proofs.Bound.{Sources}
use Rattle.cpc_package.proofs.binding.sources_of.Given as goal

abbrev pub invariant-loop-n : goal.invariant-loop-n
invariant-loop-n l = Sources (entries_of l.cpc) l.n l.sources
