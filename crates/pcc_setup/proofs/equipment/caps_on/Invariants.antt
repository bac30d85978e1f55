use Rattle.std.proofs.Common.{◌≡◌, take}
use Rattle.pcc_setup.specs.Equipment.{caps_on}
use Rattle.pcc_setup.proofs.equipment.caps_on.Given as goal

abbrev pub invariant-loop-cap : goal.invariant-loop-cap
invariant-loop-cap l = l.own ≡ caps_on l.id (take l.cap-index l.caps)
