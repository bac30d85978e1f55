use Rattle.std.proofs.Common.{drop}
use Rattle.script_run.proofs.ChannelLists.{Has}
use Rattle.script_run.proofs.channels.place_of.Given as goal

-- a channel with the ID is here or later
abbrev pub invariant-loop-place : goal.invariant-loop-place
invariant-loop-place l = Has l.id (drop l.place l.channels)
