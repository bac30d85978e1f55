use Rattle.std.proofs.Common.{◌<◌, ℕ}
use Rattle.pcc_wiring.specs.Overlaps.{Meet, at}
use Rattle.pcc_wiring.proofs.overlap.first_before.Given as goal

-- none of those before meets it
abbrev pub invariant-loop-i : goal.invariant-loop-i
invariant-loop-i l = (i : ℕ) → i < l.i → Meet (at l.opened i) (at l.opened l.place) → ⊥
