use Rattle.std.proofs.Common.{◌≡◌, ◌∙◌, length, sym, rules}
use Rattle.cppc_device.specs.Keeps.{room_is}
use Rattle.cppc_device.proofs.device.CppcDeviceExecutor.room.Goals as goal

pub returns-clause-room : goal.returns-clause-room
returns-clause-room c =
    let long : c.len.result ≡ length c.args.self.now.registers = search rules in
    long ∙ sym (room_is c.args.self.now)
