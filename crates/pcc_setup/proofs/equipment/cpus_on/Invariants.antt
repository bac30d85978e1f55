use Rattle.std.proofs.Common.{◌≡◌, take}
use Rattle.pcc_setup.specs.Equipment.{cpus_on}
use Rattle.pcc_setup.proofs.equipment.cpus_on.Given as goal

abbrev pub invariant-loop-cpu : goal.invariant-loop-cpu
invariant-loop-cpu l = l.own ≡ cpus_on l.id (take l.cpu-index l.cpus)
