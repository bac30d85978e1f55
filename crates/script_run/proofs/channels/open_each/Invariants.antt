use Rattle.std.proofs.Common.{◌≡◌, map, take}
use Rattle.script_run.specs.Channels.{fresh_channel}
use Rattle.script_run.specs.DeviceChannels.{channels_by}
use Rattle.script_run.specs.ScriptRuns.{clock_of, start_of}
use Rattle.script_run.proofs.channels.open_each.Given as goal

-- a channel for each of those before
abbrev pub invariant-loop-i : goal.invariant-loop-i
invariant-loop-i l = channels_by l.channels.items ≡ map (λ o. fresh_channel (start_of (clock_of l.scenario) o)) (take l.i l.opened)
