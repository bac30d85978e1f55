use Rattle.std.proofs.Common.{refl}
use Rattle.pcc_bytes.specs.Bytes.{number_at}
use Rattle.pcct_codec.specs.Faults.{decision, structure_size, structures_decision, table_decision, told_length}
use Rattle.pcct_codec.proofs.worked.worked_pieces.Goals as goal

pub returns-clause-header : goal.returns-clause-header
unfolding decision number_at told_length
returns-clause-header c = refl

pub returns-clause-stated : goal.returns-clause-stated
unfolding decision number_at told_length
returns-clause-stated c = refl

pub returns-clause-last : goal.returns-clause-last
unfolding decision number_at told_length
returns-clause-last c = refl

pub returns-clause-size : goal.returns-clause-size
unfolding decision number_at told_length
returns-clause-size c = refl

pub returns-clause-signature : goal.returns-clause-signature
unfolding decision number_at told_length
returns-clause-signature c = refl

pub returns-clause-whole : goal.returns-clause-whole
unfolding decision number_at structure_size structures_decision table_decision told_length
returns-clause-whole c = refl

pub returns-clause-trailing : goal.returns-clause-trailing
unfolding decision number_at structure_size structures_decision table_decision told_length
returns-clause-trailing c = refl

pub returns-clause-wrong : goal.returns-clause-wrong
unfolding decision number_at told_length
returns-clause-wrong c = refl

pub returns-clause-short : goal.returns-clause-short
unfolding decision number_at told_length
returns-clause-short c = refl
