use Rattle.std.proofs.Common.{[], drop, refl, inr, lit≤}
use Rattle.pcc_bytes.specs.Bytes.{number_at}
use Rattle.pcc_gas.specs.Addresses.{address_in}
use Rattle.pcct_table.specs.Values.{address_at, bytes_at}
use Rattle.pcct_codec.specs.Faults.{decision, structure_size, structures_decision, table_decision, told_length}
use Rattle.pcct_codec.specs.declared.worked.TheConstants.{ONE_GENERIC_SUBSPACE}
use Rattle.pcct_codec.proofs.worked.worked_tables.Goals as goal

pub returns-clause-none : goal.returns-clause-none
unfolding bytes_at number_at
returns-clause-none c =
    record { least = lit≤ tt; most = lit≤ tt; header = refl; revision = inr refl; structures = refl; few = lit≤ tt; checksum = refl }

pub returns-clause-one : goal.returns-clause-one
unfolding address_at address_in bytes_at number_at
returns-clause-one c = record {
  least = lit≤ tt;
  most = lit≤ tt;
  header = refl;
  revision = inr refl;
  structures = (drop 48 ONE_GENERIC_SUBSPACE, [], refl, record { unknown = tt; size = refl; kind = refl; told = refl; values = refl }, refl);
  few = lit≤ tt;
  checksum = refl;
}

pub returns-clause-right : goal.returns-clause-right
unfolding decision number_at structure_size structures_decision table_decision told_length
returns-clause-right c = refl

pub returns-clause-wanting : goal.returns-clause-wanting
unfolding decision number_at told_length
returns-clause-wanting c = refl

pub returns-clause-unknown : goal.returns-clause-unknown
unfolding decision number_at structure_size structures_decision table_decision told_length
returns-clause-unknown c = refl
