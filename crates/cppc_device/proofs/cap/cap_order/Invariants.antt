use Rattle.std.proofs.Common.{◌≡◌, ◌≤◌}
use Rattle.cppc_device.specs.Openings.{cap_order}
use Rattle.cppc_device.proofs.Caps.{order_at}
use Rattle.cppc_device.proofs.cap.cap_order.Given as goal

abbrev pub invariant-loop-index : goal.invariant-loop-index
invariant-loop-index l = (1 ≤ l.index) × (order_at l.caps l.index ≡ cap_order l.caps)
