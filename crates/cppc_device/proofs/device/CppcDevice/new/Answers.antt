use Rattle.std.proofs.Common.{sym, arith}
use Rattle.cppc_device.proofs.Commands.{opens, room_long}
use Rattle.cppc_device.proofs.device.CppcDevice.new.Goals as goal

pub invariant_of-result : goal.invariant_of-result
invariant_of-result c = (
  opens c.args.room c.args.cpus.now c.in_ok-from_slice.field-0.items c.args.caps.now c.in_ok-from_slice-2.field-0.items
      c.in_ok-opening.field-0.items c.requires.processors (sym c.in_default.ensures) c.in_ok-from_slice.ensures.items c.in_ok-from_slice-2.ensures.items
      (room_long c.args.room c.args.image.now c.in_ok-opening.field-0.items c.if-image-room.false c.in_ok-opening.ensures.items)
      c.in_ok-opening.ensures.bytes,
  omega (arith, c.in_ok-opening.ensures.len, c.ranges.room.fits),
)
