use Rattle.std.proofs.Common.{◌≡◌, ◌++◌, drop, map, take}
use Rattle.pcc_setup.specs.Equipment.{equipped}
use Rattle.pcc_setup.proofs.places.equip_all.Given as goal

-- the subspaces before have what they get
abbrev pub invariant-loop-place : goal.invariant-loop-place
invariant-loop-place l =
    l.opened.items ≡ map (equipped l.cpus l.caps) (take l.place l.initial.opened.items) ++ drop l.place l.initial.opened.items
