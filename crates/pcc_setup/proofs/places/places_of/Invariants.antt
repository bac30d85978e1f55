use Rattle.std.proofs.Common.{take}
use Rattle.pcc_setup.specs.Equipment.{ArePlaces}
use Rattle.pcc_setup.proofs.places.places_of.Given as goal

-- the places of the processors before
abbrev pub invariant-loop-cpu : goal.invariant-loop-cpu
invariant-loop-cpu l = ArePlaces l.opened (take l.cpu l.cpus) l.places
