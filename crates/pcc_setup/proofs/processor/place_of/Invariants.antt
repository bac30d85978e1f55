use Rattle.std.proofs.Common.{◌≡◌, drop}
use Rattle.pcc_setup.specs.Processors.{controller_on}
use Rattle.pcc_setup.proofs.processor.place_of.Given as goal

-- none of those before is the controller
abbrev pub invariant-loop-place : goal.invariant-loop-place
invariant-loop-place l = controller_on l.id (drop l.place l.opened) ≡ controller_on l.id l.opened
