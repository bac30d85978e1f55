use Rattle.std.proofs.Common.{◌<◌, ℕ}
use Rattle.pcc_wiring.specs.Overlaps.{Meet, at}
use Rattle.pcc_wiring.proofs.overlap.opened_apart.Given as goal

-- those before are apart
abbrev pub invariant-loop-place : goal.invariant-loop-place
invariant-loop-place l = (i j : ℕ) → i < j → j < l.place → Meet (at l.opened i) (at l.opened j) → ⊥
