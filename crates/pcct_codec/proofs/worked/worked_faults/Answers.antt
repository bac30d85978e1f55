use Rattle.std.proofs.Common.{refl}
use Rattle.pcc_bytes.specs.Bytes.{number_at}
use Rattle.pcct_codec.specs.Faults.{decision, structure_size, structures_decision, table_decision, told_length}
use Rattle.pcct_codec.proofs.worked.worked_faults.Goals as goal

pub returns-clause-short : goal.returns-clause-short
unfolding decision number_at structure_size structures_decision table_decision told_length
returns-clause-short c = refl

pub returns-clause-signature : goal.returns-clause-signature
unfolding decision number_at structure_size structures_decision table_decision told_length
returns-clause-signature c = refl

pub returns-clause-length_below : goal.returns-clause-length_below
unfolding decision number_at structure_size structures_decision table_decision told_length
returns-clause-length_below c = refl

pub returns-clause-length_above : goal.returns-clause-length_above
unfolding decision number_at structure_size structures_decision table_decision told_length
returns-clause-length_above c = refl

pub returns-clause-length_most : goal.returns-clause-length_most
unfolding decision number_at structure_size structures_decision table_decision told_length
returns-clause-length_most c = refl

pub returns-clause-revision : goal.returns-clause-revision
unfolding decision number_at structure_size structures_decision table_decision told_length
returns-clause-revision c = refl

pub returns-clause-overrun : goal.returns-clause-overrun
unfolding decision number_at structure_size structures_decision table_decision told_length
returns-clause-overrun c = refl

pub returns-clause-one_byte : goal.returns-clause-one_byte
unfolding decision number_at structure_size structures_decision table_decision told_length
returns-clause-one_byte c = refl

pub returns-clause-unknown_size : goal.returns-clause-unknown_size
unfolding decision number_at structure_size structures_decision table_decision told_length
returns-clause-unknown_size c = refl

pub returns-clause-unknown_least : goal.returns-clause-unknown_least
unfolding structure_size structures_decision
returns-clause-unknown_least c = refl

pub returns-clause-size : goal.returns-clause-size
unfolding decision number_at structure_size structures_decision table_decision told_length
returns-clause-size c = refl

pub returns-clause-size_by_type : goal.returns-clause-size_by_type
unfolding structure_size structures_decision
returns-clause-size_by_type c = refl

pub returns-clause-checksum : goal.returns-clause-checksum
unfolding decision number_at structure_size structures_decision table_decision told_length
returns-clause-checksum c = refl

pub returns-clause-many : goal.returns-clause-many
unfolding structure_size structures_decision
returns-clause-many c = refl

pub returns-clause-most : goal.returns-clause-most
returns-clause-most c = refl
