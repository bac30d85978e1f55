-- What is known of a test that is true and false, and of looks below their budget.
use Rattle.std.proofs.Common.{◌≡◌, ℕ, ◌<◌, ◌≤◌, Bool, true, false, nat_eq, arith}
use Rattle.std.proofs.lemmas.Bool.Decides.{nat_tests}

pub not_false : (b : Bool) → b ≡ true → b ≡ false → ⊥
not_false b t f = cc

pub below : (looks budget : ℕ) → looks ≤ budget → nat_eq looks budget ≡ false → looks < budget
below looks budget le ne = grind (arith, nat_tests)
