use Rattle.std.proofs.Common.{◌≡◌, ◌++◌, take}
use Rattle.std.specs.List.{flat_map}
use Rattle.script_run.specs.DeviceChannels.{channels_by}
use Rattle.script_run.specs.ScriptRuns.{channel_journal}
use Rattle.script_run.proofs.step.put_journals.Given as goal

-- the journals before
abbrev pub invariant-loop-place : goal.invariant-loop-place
invariant-loop-place l = l.out.items ≡ l.initial.out.items ++ flat_map channel_journal (channels_by (take l.place l.channels))
