use Rattle.std.proofs.Common.{inl, inr, refl}
use Rattle.pcc_bytes.specs.Bytes.{number_at}
use Rattle.pcc_gas.specs.Addresses.{address_in}
use Rattle.pcc_gas.proofs.worked.worked_addresses.Goals as goal

pub returns-clause-doorbell : goal.returns-clause-doorbell
unfolding address_in number_at
returns-clause-doorbell c = record { len = refl; parts = refl }

pub returns-clause-without_checksum : goal.returns-clause-without_checksum
unfolding address_in number_at
returns-clause-without_checksum c = record { len = refl; head = refl; address = record { len = refl; parts = refl }; end_tag = refl; checksum = refl; agrees = inl refl }

pub returns-clause-with_checksum : goal.returns-clause-with_checksum
unfolding address_in number_at
returns-clause-with_checksum c = record { len = refl; head = refl; address = record { len = refl; parts = refl }; end_tag = refl; checksum = refl; agrees = inr refl }
