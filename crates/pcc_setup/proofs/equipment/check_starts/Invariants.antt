use Rattle.pcc_setup.specs.Equipment.{StartInside}
use Rattle.pcc_setup.proofs.equipment.check_starts.Given as goal

abbrev pub invariant-loop-cpu : goal.invariant-loop-cpu
invariant-loop-cpu l = StartInside l.opened l.cpus l.cpu
