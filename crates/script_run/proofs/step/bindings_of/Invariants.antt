use Rattle.std.proofs.Common.{◌≡◌, List, take}
use Rattle.cpc_package.specs.declared.binding.Binding.{Binding}
use Rattle.pcc_setup.specs.Equipment.{ArePlaces}
use Rattle.script_run.proofs.step.bindings_of.Given as goal

-- the bindings before
abbrev pub invariant-loop-i : goal.invariant-loop-i
invariant-loop-i l = (bs : List Binding) → ArePlaces l.set_up.opened bs l.set_up.places → l.cpus.items ≡ take l.i bs
