use Rattle.cpc_package.specs.Bindings.{binding_of}
use Rattle.cpc_package.specs.Entries.{entries_of}
use Rattle.cpc_package.proofs.Bound.{by_entry, is_binding, is_right, lies_in, whole}
use Rattle.cpc_package.proofs.binding.binding_laws.Goals as goal

pub returns-clause-bound : goal.returns-clause-bound
returns-clause-bound c = is_binding

pub returns-clause-right : goal.returns-clause-right
returns-clause-right c = λ cpc len is none. is_right cpc len (binding_of (entries_of cpc)) is none (is_binding cpc len is none)

pub returns-clause-inside : goal.returns-clause-inside
returns-clause-inside c = λ cpc len is none. lies_in (entries_of cpc) len (binding_of (entries_of cpc)) none (is_binding cpc len is none)

pub returns-clause-whole : goal.returns-clause-whole
returns-clause-whole c = whole

pub returns-clause-each : goal.returns-clause-each
returns-clause-each c = by_entry
