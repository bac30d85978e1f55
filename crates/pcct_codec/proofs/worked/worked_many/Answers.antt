use Rattle.std.proofs.Common.{refl}
use Rattle.pcc_bytes.specs.Bytes.{number_at}
use Rattle.pcct_codec.specs.Faults.{decision, structure_size, structures_decision, table_decision, told_length}
use Rattle.pcct_codec.proofs.worked.worked_many.Goals as goal

pub returns-clause-most : goal.returns-clause-most
unfolding decision number_at structure_size structures_decision table_decision told_length
returns-clause-most c = refl

pub returns-clause-many : goal.returns-clause-many
unfolding decision number_at structure_size structures_decision table_decision told_length
returns-clause-many c = refl
