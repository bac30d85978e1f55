-- A script without packages has no long one.
use Rattle.std.proofs.Common.{◌≡◌, ℕ, ◌<◌, ◌^◌, List, [], ◌∷◌, length, arith}
use Rattle.std.specs.List.{AllByRecursion}

pub none_long : (packages : List (List ℕ)) → length packages ≡ 0 → AllByRecursion (λ bytes. length bytes < 2 ^ 32) packages
none_long [] none = tt
none_long (p ∷ ps) none = absurd (omega (arith, none))
