use Rattle.std.proofs.Common.{lit≤, refl}
use Rattle.pcc_bytes.specs.Bytes.{number_at}
use Rattle.pcc_gas.specs.Addresses.{address_in}
use Rattle.pcct_table.specs.Values.{address_at, bytes_at}
use Rattle.pcct_table.proofs.worked.worked_structures.Goals as goal

pub returns-clause-generic : goal.returns-clause-generic
unfolding address_at address_in bytes_at number_at
returns-clause-generic c = record { unknown = tt; size = refl; kind = refl; told = refl; values = refl }

pub returns-clause-hw_reduced1 : goal.returns-clause-hw_reduced1
unfolding address_at address_in bytes_at number_at
returns-clause-hw_reduced1 c = record { unknown = tt; size = refl; kind = refl; told = refl; values = refl }

pub returns-clause-hw_reduced2 : goal.returns-clause-hw_reduced2
unfolding address_at address_in bytes_at number_at
returns-clause-hw_reduced2 c = record { unknown = tt; size = refl; kind = refl; told = refl; values = refl }

pub returns-clause-initiator : goal.returns-clause-initiator
unfolding address_at address_in bytes_at number_at
returns-clause-initiator c = record { unknown = tt; size = refl; kind = refl; told = refl; values = refl }

pub returns-clause-responder : goal.returns-clause-responder
unfolding address_at address_in bytes_at number_at
returns-clause-responder c = record { unknown = tt; size = refl; kind = refl; told = refl; values = refl }

pub returns-clause-hw_register : goal.returns-clause-hw_register
unfolding address_at address_in bytes_at number_at
returns-clause-hw_register c = record { unknown = tt; size = refl; kind = refl; told = refl; values = refl }

pub returns-clause-later : goal.returns-clause-later
unfolding bytes_at
returns-clause-later c = record { unknown = lit≤ tt; size = refl; kind = refl; told = refl; values = refl }

pub returns-clause-last : goal.returns-clause-last
unfolding bytes_at
returns-clause-last c = record { unknown = lit≤ tt; size = refl; kind = refl; told = refl; values = refl }
