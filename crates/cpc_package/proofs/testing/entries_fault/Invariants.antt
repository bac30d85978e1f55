use Rattle.std.proofs.Common.{◌≡◌, ◌+◌, ◌<◌, ◌^◌, length, drop}
use Rattle.std.specs.List.{flat_map}
use Rattle.aml_pkg.specs.Spelling.{element_bytes}
use Rattle.cpc_package.specs.Testing.{entries_fault}
use Rattle.cpc_package.proofs.testing.entries_fault.Given as goal

abbrev pub invariant-loop-n : goal.invariant-loop-n
invariant-loop-n l = record {
  so_far : entries_fault (length l.elements) l.n l.at (drop l.n l.elements) ≡ entries_fault (length l.elements) 0 l.fn.at l.elements;
  room : l.at + length (flat_map element_bytes (drop l.n l.elements)) < 2 ^ 32;
}
