use Rattle.cpc_package.specs.Entries.{entries_of}
use Rattle.cpc_package.proofs.Bound.{sources_end}
use Rattle.cpc_package.proofs.binding.sources_of.Goals as goal

pub returns : goal.returns
returns c =
    sources_end (entries_of c.args.cpc.now) c.entries-n-end.result c.loop-n.n c.loop-n.sources c.entries-n-end.ensures.count c.loop-n-test.false c.loop-n.invariant
