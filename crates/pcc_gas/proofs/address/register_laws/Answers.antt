use Rattle.pcc_gas.proofs.Addresses.{one_register_spelling}
use Rattle.pcc_gas.proofs.address.register_laws.Goals as goal

pub returns-clause-one_spelling : goal.returns-clause-one_spelling
returns-clause-one_spelling c = one_register_spelling
