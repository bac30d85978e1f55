use Rattle.std.proofs.Common.{◌≡◌, []}
use Rattle.std.specs.List.{AllByRecursion}
use Rattle.script_run.specs.Channels.{IsEarly, starts_of}
use Rattle.script_run.specs.DeviceChannels.{channels_by}
use Rattle.script_run.specs.StepRun.{asks_by}
use Rattle.script_run.proofs.Counting.{Counting}
use Rattle.script_run.proofs.make.count_lines.Given as goal

-- the lines before were run and counted, and the starts are those at the start
abbrev pub invariant-loop-i : goal.invariant-loop-i
invariant-loop-i l =
    Counting (asks_by [] l.actions) (channels_by l.initial.channels) l.i (channels_by l.channels) l.counts
    × (starts_of (channels_by l.channels) ≡ starts_of (channels_by l.initial.channels)) × AllByRecursion (IsEarly l.i) (channels_by l.channels)
