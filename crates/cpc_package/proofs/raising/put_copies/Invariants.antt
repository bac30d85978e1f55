use Rattle.std.proofs.Common.{◌≡◌, ◌++◌, take}
use Rattle.cpc_package.proofs.raising.put_copies.Given as goal

abbrev pub invariant-loop-element : goal.invariant-loop-element
invariant-loop-element l = l.out ≡ l.fn.out ++ take l.element-index l.elements
