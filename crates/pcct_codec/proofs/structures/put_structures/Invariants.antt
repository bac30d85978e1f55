use Rattle.std.proofs.Common.{◌≡◌, ◌++◌, take}
use Rattle.std.specs.List.{flat_map}
use Rattle.pcct_table.specs.Subspaces.{subspace_bytes}
use Rattle.pcct_codec.proofs.structures.put_structures.Given as goal

abbrev pub invariant-loop-subspace : goal.invariant-loop-subspace
invariant-loop-subspace l = l.out.items ≡ l.initial.out.items ++ flat_map subspace_bytes (take l.subspace-index l.subspaces)
