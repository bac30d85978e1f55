use Rattle.std.proofs.Common.{◌≡◌, None, drop}
use Rattle.cppc_device.proofs.Caps.{force_from}
use Rattle.cppc_device.proofs.cap.in_force.Given as goal

abbrev pub invariant-loop-cap : goal.invariant-loop-cap
invariant-loop-cap l = force_from l.count l.held (drop l.cap-index l.caps) ≡ force_from l.count None l.caps
