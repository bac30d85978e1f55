use Rattle.pcc_setup.specs.Equipment.{AreCapsRight}
use Rattle.pcc_setup.proofs.equipment.check_caps.Given as goal

abbrev pub invariant-loop-index : goal.invariant-loop-index
invariant-loop-index l = AreCapsRight l.opened l.caps l.index
