use Rattle.std.proofs.Common.{◌≡◌}
use Rattle.script_run.specs.DeviceChannels.{channels_by}
use Rattle.script_run.proofs.ChannelLists.{moved_to}
use Rattle.script_run.proofs.channels.wait_all.Given as goal

-- the clocks before were moved up
abbrev pub invariant-loop-place : goal.invariant-loop-place
invariant-loop-place l = channels_by l.channels.items ≡ moved_to l.n l.place (channels_by l.initial.channels.items)
