use Rattle.std.proofs.Common.{◌≡◌, map, take}
use Rattle.pccrun_core.specs.Weaving.{side_of}
use Rattle.pccrun_core.proofs.weave.sides_of.Given as goal

abbrev pub invariant-loop-i : goal.invariant-loop-i
invariant-loop-i l = l.sides.items ≡ map side_of (take l.i l.picks)
