use Rattle.std.proofs.Common.{◌∙◌, rules}
use Rattle.cppc_device.specs.Devices.{sampled, written}
use Rattle.cppc_device.specs.Keeps.{room_is}
use Rattle.cppc_device.proofs.Commands.{exec_bad, exec_read, exec_write, room_kept}
use Rattle.cppc_device.proofs.device.CppcDeviceExecutor.exec.Goals as goal

pub read_registers-requires : goal.read_registers-requires
read_registers-requires c = c.requires ∙ room_is c.args.self.now

pub write_registers-requires : goal.write_registers-requires
write_registers-requires c = c.requires ∙ room_is c.args.self.now

pub returns-in-0-clause-exec : goal.returns-in-0-clause-exec
returns-in-0-clause-exec c =
    exec_read c.args.self.now c.read_registers.new.self c.args.code c.args.space.now c.read_registers.new.space c.in-0.is
    c.read_registers.ensures.device c.read_registers.ensures.space

pub returns-in-0-clause-room : goal.returns-in-0-clause-room
returns-in-0-clause-room c = room_kept c.args.self.now c.read_registers.new.self (sampled c.args.self.now) c.read_registers.ensures.device

pub returns-in-1-clause-exec : goal.returns-in-1-clause-exec
returns-in-1-clause-exec c =
    exec_write c.args.self.now c.write_registers.new.self c.args.code c.args.space.now c.write_registers.new.space c.in-1.is
    c.write_registers.ensures.device c.write_registers.ensures.space

pub returns-in-1-clause-room : goal.returns-in-1-clause-room
returns-in-1-clause-room c =
    room_kept c.args.self.now c.write_registers.new.self (written c.args.self.now c.args.space.now) c.write_registers.ensures.device

pub returns-in_default-clause-exec : goal.returns-in_default-clause-exec
returns-in_default-clause-exec c = exec_bad c.args.self.now c.args.code c.args.space.now (search rules) (search rules)
