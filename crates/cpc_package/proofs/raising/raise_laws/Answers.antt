use Rattle.cpc_package.proofs.Raised.{raised_cpc, raised_is, raised_same, raised_whole}
use Rattle.cpc_package.proofs.RaisedBindings.{raised_alike, raised_fault, raised_subspace, same_entries, same_sources}
use Rattle.cpc_package.specs.Raising.{raised}
use Rattle.cpc_package.proofs.raising.raise_laws.Goals as goal

pub returns-clause-item : goal.returns-clause-item
returns-clause-item c = raised_is

pub returns-clause-right : goal.returns-clause-right
returns-clause-right c = raised_cpc

pub returns-clause-whole : goal.returns-clause-whole
returns-clause-whole c = raised_whole

pub returns-clause-same : goal.returns-clause-same
returns-clause-same c = raised_same

pub returns-clause-entries : goal.returns-clause-entries
returns-clause-entries c = λ cpc n is from below. same_entries (raised cpc) cpc n (raised_alike cpc is) from below

pub returns-clause-fault : goal.returns-clause-fault
returns-clause-fault c = raised_fault

pub returns-clause-subspace : goal.returns-clause-subspace
returns-clause-subspace c = raised_subspace

pub returns-clause-sources : goal.returns-clause-sources
returns-clause-sources c = λ cpc n is below. same_sources (raised cpc) cpc n (raised_alike cpc is) below

pub returns-clause-alike : goal.returns-clause-alike
returns-clause-alike c = same_sources
