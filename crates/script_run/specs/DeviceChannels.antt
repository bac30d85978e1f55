-- The channels of the opened subspaces, by the devices that answer their commands.
use Rattle.std.specs.Prelude.{List, map}
use Rattle.pcc_history.specs.Devices.{Device, bank_exec}
use Rattle.cppc_device.specs.States.{cppc_exec}
use Rattle.channel_turns.specs.Calls.{OpenChannel, start_by}
use Rattle.channel_turns.specs.ChannelRuns.{Channel}
use Rattle.script_run.specs.declared.channel.DeviceChannel.{DeviceChannel}
use Rattle.script_run.specs.declared.channel.DeviceChannel.TheVariants as device

-- a channel over a device, as one of a run
abbrev pub channel_by : Device → OpenChannel → Channel
channel_by exec c = record { start = start_by exec c; now = c.now }

abbrev pub channel_of : DeviceChannel → Channel
channel_of (device.Bank c) = channel_by bank_exec c
channel_of (device.Cppc c) = channel_by cppc_exec c

abbrev pub channels_by : List DeviceChannel → List Channel
channels_by = map channel_of
