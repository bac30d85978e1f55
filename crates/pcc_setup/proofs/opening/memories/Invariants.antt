use Rattle.std.proofs.Common.{◌≡◌, take}
use Rattle.pcc_setup.specs.Openings.{memories_by}
use Rattle.pcc_setup.proofs.opening.memories.Given as goal

-- the memories of the lines before
abbrev pub invariant-loop-place : goal.invariant-loop-place
invariant-loop-place l = l.memories.items ≡ memories_by l.table (take l.place l.opens)
