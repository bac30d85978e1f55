-- The limits on posts, by the times of all commands so far, the first one first (ACPI 6.5, 14.1.3).
use Rattle.std.specs.Prelude.{◌≢◌, ◌≤◌, ◌<◌, ◌==◌, ℕ, ◌+◌, ◌-◌, nat_lt, max, if◌then◌else◌, List, [], ◌∷◌, ◌++◌, length, map, slice_index}
use Rattle.std.specs.Prelude.{slice_index_or, Option, Some, None}
use Rattle.rate_limit.specs.declared.Limits.{Limits}
use Rattle.rate_limit.specs.declared.Times.{Times}

-- the microseconds of a minute
abbrev pub minute : ℕ
minute = 60000000

-- the times of the command with a number, from 0
abbrev pub times_at : List Times → ℕ → Times
times_at times i = slice_index_or times i (record { post = 0; done = 0 })

-- a turnaround after the last completion
abbrev pub after_turnaround : Limits → List Times → ℕ
after_turnaround limits times =
    if length times == 0 then 0 else (times_at times (length times - 1)).done + limits.turnaround

-- a minute after the post `per_minute` from the end, if there is one
abbrev pub after_minute : Limits → List Times → ℕ
after_minute limits times =
    if limits.per_minute == 0 then 0
    else if nat_lt (length times) limits.per_minute then 0
    else (times_at times (length times - limits.per_minute)).post + minute

-- the least reading at which the next command may be posted
abbrev pub earliest_of : Limits → List Times → ℕ
earliest_of limits times = max (after_turnaround limits times) (after_minute limits times)

-- the posts in order, with that of a pending command last
abbrev pub posts_of : List Times → Option ℕ → List ℕ
posts_of times None = map (λ t. t.post) times
posts_of times (Some post) = map (λ t. t.post) times ++ post ∷ []

-- each post is a turnaround after the completion before it, and no minute has more posts than the rate
pub record WithinLimits (limits : Limits) (times : List Times) (pending : Option ℕ) : Type 0 where
  pub turnaround : (i : ℕ) → i + 1 < length (posts_of times pending)
      → (times_at times i).done + limits.turnaround ≤ slice_index (posts_of times pending) (i + 1)
  pub rate : (i : ℕ) → limits.per_minute ≢ 0 → i + limits.per_minute < length (posts_of times pending)
      → slice_index (posts_of times pending) i + minute ≤ slice_index (posts_of times pending) (i + limits.per_minute)
