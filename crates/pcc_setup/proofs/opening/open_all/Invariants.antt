use Rattle.std.proofs.Common.{◌≡◌, take}
use Rattle.pcc_setup.specs.Openings.{AllOpen, opened_by}
use Rattle.pcc_setup.proofs.opening.open_all.Given as goal

-- the lines before open what is kept
abbrev pub invariant-loop-place : goal.invariant-loop-place
invariant-loop-place l = (l.opened.items ≡ opened_by l.table (take l.place l.opens)) × AllOpen l.table l.opens l.place
