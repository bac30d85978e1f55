-- Readings of a clock, in microseconds, by their numbers from 0.
use Rattle.std.specs.Prelude.{ℕ, ◌+◌, ◌*◌, ◌-◌, ◌^◌, min, Option, Some, None, nat_lt, if◌then◌else◌}

-- the reading number k of a clock on a line: the start, k steps and what was added, at most the greatest number of 64 bits
abbrev pub line_reading : ℕ → ℕ → ℕ → ℕ → ℕ
line_reading start step added k = min (start + k * step + added) (2 ^ 64 - 1)

-- readings that are known from a number on
abbrev pub tells_from : ℕ → (ℕ → ℕ) → ℕ → Option ℕ
tells_from first reading k = if nat_lt k first then None else Some (reading k)
