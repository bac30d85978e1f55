use Rattle.std.proofs.Common.{arith}
use Rattle.aml_pkg.proofs.Laws.{is_found, is_wrong, only_item, exact_fault}
use Rattle.aml_pkg.proofs.reading.read_item.Goals as goal

pub returns-clause-found : goal.returns-clause-found
returns-clause-found c = is_found c.args.bytes.now c.used_of.result (record { fits = λ i. omega (arith, c.type_inv.bytes i) }) c.used_of.ensures

pub returns-clause-only : goal.returns-clause-only
returns-clause-only c = λ i front rest h e. only_item c.args.bytes.now front rest i c.used_of.result h e c.used_of.ensures

pub returns-clause-wrong : goal.returns-clause-wrong
returns-clause-wrong c = is_wrong c.args.bytes.now c.used_of.result (record { fits = λ i. omega (arith, c.type_inv.bytes i) }) c.used_of.ensures

pub returns-clause-exact : goal.returns-clause-exact
returns-clause-exact c = λ fault h. exact_fault c.args.bytes.now fault c.used_of.result h c.used_of.ensures
