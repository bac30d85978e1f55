use Rattle.std.proofs.Common.{◌≡◌, map, take}
use Rattle.pccrun_core.specs.Weaving.{asked_by}
use Rattle.pccrun_core.proofs.weave.calls_of.Given as goal

abbrev pub invariant-loop-i : goal.invariant-loop-i
invariant-loop-i l = l.calls.items ≡ map asked_by (take l.i l.actions)
