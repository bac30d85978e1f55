-- Readings of a clock, and their numbers.
use Rattle.std.specs.Prelude.{◌≡◌, ◌<◌, ℕ, ◌+◌, ◌-◌, ◌^◌, min, Option, IfSome}

-- a count of readings stays at its end
abbrev pub counted : ℕ → ℕ
counted n = min (n + 1) (2 ^ 64 - 1)

-- the count after N readings
abbrev pub count_of : ℕ → ℕ
count_of n = min n (2 ^ 64 - 1)

-- the time that was added to a clock, and more of it: at most the greatest number of 128 bits
abbrev pub more_time : ℕ → ℕ → ℕ
more_time n added = min (added + n) (2 ^ 128 - 1)

-- a clock, by what it has taken and what it reports, gives its next reading
pub record Reads {K : Type 0} (taken : K → ℕ) (tells : K → ℕ → Option ℕ) (old new : K) (at : ℕ) : Type 0 where
  pub count : taken new ≡ counted (taken old)
  pub reading : taken old < 2 ^ 64 - 1 → IfSome (tells old (taken old)) (λ t. at ≡ t)
  pub told : (k : ℕ) → tells new k ≡ tells old k
  pub small : at < 2 ^ 64
