use Rattle.std.proofs.Common.{refl}
use Rattle.pcc_bytes.specs.Bytes.{number_at}
use Rattle.pcc_gas.specs.Addresses.{address_in}
use Rattle.cpc_package.specs.Bindings.{bind_fault, binding_of, registers_fault, first_subspace, first_sharing}
use Rattle.cpc_package.specs.Entries.{entries_of, register_in, is_absent_in}
use Rattle.cpc_package.proofs.worked.worked_bindings.Goals as goal

pub returns-clause-bound : goal.returns-clause-bound
unfolding bind_fault registers_fault first_subspace first_sharing entries_of register_in is_absent_in address_in number_at
returns-clause-bound c = refl

pub returns-clause-not_pcc : goal.returns-clause-not_pcc
unfolding bind_fault registers_fault first_subspace first_sharing entries_of register_in is_absent_in address_in number_at
returns-clause-not_pcc c = refl

pub returns-clause-two_subspaces : goal.returns-clause-two_subspaces
unfolding bind_fault registers_fault first_subspace first_sharing entries_of register_in is_absent_in address_in number_at
returns-clause-two_subspaces c = refl

pub returns-clause-no_width : goal.returns-clause-no_width
unfolding bind_fault registers_fault first_subspace first_sharing entries_of register_in is_absent_in address_in number_at
returns-clause-no_width c = refl

pub returns-clause-too_wide : goal.returns-clause-too_wide
unfolding bind_fault registers_fault first_subspace first_sharing entries_of register_in is_absent_in address_in number_at
returns-clause-too_wide c = refl

pub returns-clause-outside : goal.returns-clause-outside
unfolding bind_fault registers_fault first_subspace first_sharing entries_of register_in is_absent_in address_in number_at
returns-clause-outside c = refl

pub returns-clause-offset_outside : goal.returns-clause-offset_outside
unfolding bind_fault registers_fault first_subspace first_sharing entries_of register_in is_absent_in address_in number_at
returns-clause-offset_outside c = refl

pub returns-clause-overlap : goal.returns-clause-overlap
unfolding bind_fault registers_fault first_subspace first_sharing entries_of register_in is_absent_in address_in number_at
returns-clause-overlap c = refl

pub returns-clause-no_desired : goal.returns-clause-no_desired
unfolding bind_fault registers_fault first_subspace first_sharing entries_of register_in is_absent_in address_in number_at
returns-clause-no_desired c = refl

pub returns-clause-no_lowest : goal.returns-clause-no_lowest
unfolding bind_fault registers_fault first_subspace first_sharing entries_of register_in is_absent_in address_in number_at
returns-clause-no_lowest c = refl

pub returns-clause-no_highest : goal.returns-clause-no_highest
unfolding bind_fault registers_fault first_subspace first_sharing entries_of register_in is_absent_in address_in number_at
returns-clause-no_highest c = refl

pub returns-clause-scale_low : goal.returns-clause-scale_low
unfolding bind_fault registers_fault first_subspace first_sharing entries_of register_in is_absent_in address_in number_at
returns-clause-scale_low c = refl

pub returns-clause-scale_high : goal.returns-clause-scale_high
unfolding bind_fault registers_fault first_subspace first_sharing entries_of register_in is_absent_in address_in number_at
returns-clause-scale_high c = refl

pub returns-clause-revision_2_bound : goal.returns-clause-revision_2_bound
unfolding bind_fault registers_fault first_subspace first_sharing entries_of register_in is_absent_in address_in number_at
returns-clause-revision_2_bound c = refl

pub returns-clause-reference : goal.returns-clause-reference
unfolding bind_fault binding_of registers_fault first_subspace first_sharing entries_of register_in is_absent_in address_in number_at
returns-clause-reference c = refl

pub returns-clause-lowest_frequency : goal.returns-clause-lowest_frequency
unfolding bind_fault binding_of registers_fault first_subspace first_sharing entries_of register_in is_absent_in address_in number_at
returns-clause-lowest_frequency c = refl
