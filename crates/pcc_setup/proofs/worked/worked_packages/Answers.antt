use Rattle.std.proofs.Common.{refl}
use Rattle.pcc_bytes.specs.Bytes.{number_at}
use Rattle.pcc_gas.specs.Addresses.{address_in}
use Rattle.cpc_package.specs.Bindings.{bind_fault, first_sharing, first_subspace, registers_fault}
use Rattle.cpc_package.specs.Entries.{entries_of, is_absent_in, register_in}
use Rattle.pcc_setup.specs.Processors.{named_subspace}
use Rattle.pcc_setup.proofs.worked.worked_packages.Goals as goal

pub returns-clause-named : goal.returns-clause-named
unfolding bind_fault registers_fault first_subspace first_sharing entries_of register_in is_absent_in address_in number_at named_subspace
returns-clause-named c = refl

pub returns-clause-bound : goal.returns-clause-bound
unfolding bind_fault registers_fault first_subspace first_sharing entries_of register_in is_absent_in address_in number_at named_subspace
returns-clause-bound c = refl

pub returns-clause-bank : goal.returns-clause-bank
unfolding bind_fault registers_fault first_subspace first_sharing entries_of register_in is_absent_in address_in number_at named_subspace
returns-clause-bank c = refl

pub returns-clause-other : goal.returns-clause-other
unfolding bind_fault registers_fault first_subspace first_sharing entries_of register_in is_absent_in address_in number_at named_subspace
returns-clause-other c = refl

pub returns-clause-outside : goal.returns-clause-outside
unfolding bind_fault registers_fault first_subspace first_sharing entries_of register_in is_absent_in address_in number_at named_subspace
returns-clause-outside c = refl

pub returns-clause-later : goal.returns-clause-later
unfolding bind_fault registers_fault first_subspace first_sharing entries_of register_in is_absent_in address_in number_at named_subspace
returns-clause-later c = refl

pub returns-clause-not_pcc : goal.returns-clause-not_pcc
unfolding bind_fault registers_fault first_subspace first_sharing entries_of register_in is_absent_in address_in number_at named_subspace
returns-clause-not_pcc c = refl
