-- What bytes spell is a structure.
use Rattle.std.proofs.Common.{ℕ, List}
use Rattle.pcc_bytes.specs.Bytes.{IsBytes}
use Rattle.pcct_table.specs.declared.subspace.Subspace.{Subspace}
use Rattle.pcct_table.specs.Subspaces.{IsSubspace, SubspaceBytes}

pub is_subspace : (bytes : List ℕ) (s : Subspace) → IsBytes bytes → SubspaceBytes bytes s → IsSubspace s
is_subspace bytes s fit spell = record { bytes = bytes; fit = fit; spell = spell }
