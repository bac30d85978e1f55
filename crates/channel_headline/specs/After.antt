-- What the events of a channel so far leave: its space, a command in flight, the times of its commands; and the readings that they name.
use Rattle.std.specs.Prelude.{◌≡◌, ◌≤◌, ℕ, ◌+◌, List, [], ◌∷◌, ◌++◌, Option, Some, None}
use Rattle.std.specs.List.{flat_map, slice_get}
use Rattle.rate_limit.specs.declared.Times.{Times}
use Rattle.pcc_journal.specs.Events.{Event, Answered, Lost, Drained}

-- The last output. The post of a command in flight: one that was lost and didn't complete since. The times of the commands that completed.
pub record After : Type 0 where
  pub space : List ℕ
  pub flight : Option ℕ
  pub times : List Times

abbrev pub before_all : List ℕ → After
before_all opening = record { space = opening; flight = None; times = [] }

-- the command in flight completes
abbrev pub completed_times : Option ℕ → ℕ → List Times → List Times
completed_times None done times = times
completed_times (Some post) done times = times ++ record { post = post; done = done } ∷ []

abbrev pub after_event : After → Event → After
after_event a (Answered p c) = record { space = c.output; flight = None; times = a.times ++ record { post = p.post; done = c.done } ∷ [] }
after_event a (Lost p looks) = record a { flight = Some p.post }
after_event a (Drained c) = record { space = c.output; flight = None; times = completed_times a.flight c.done a.times }

abbrev pub after_from : After → List Event → After
after_from a [] = a
after_from a (e ∷ es) = after_from (after_event a e) es

abbrev pub after_events : List ℕ → List Event → After
after_events opening events = after_from (before_all opening) events

-- ---- the readings of events

-- the reading with this number
abbrev pub IsReading : List ℕ → ℕ → ℕ → Type 0
IsReading readings number reading = slice_get readings number ≡ Some reading

-- a post and a completion are the clock's readings with their numbers
abbrev pub IsRead : List ℕ → Event → Type 0
IsRead readings (Answered p c) = IsReading readings p.post_number p.post × IsReading readings c.done_number c.done
IsRead readings (Lost p looks) = IsReading readings p.post_number p.post
IsRead readings (Drained c) = IsReading readings c.done_number c.done

abbrev pub numbers_of : Event → List ℕ
numbers_of (Answered p c) = p.post_number ∷ c.done_number ∷ []
numbers_of (Lost p looks) = p.post_number ∷ []
numbers_of (Drained c) = c.done_number ∷ []

-- the numbers of the readings, in the order of posts and completions
abbrev pub numbers_in : List Event → List ℕ
numbers_in events = flat_map numbers_of events

-- these numbers rise, from the first bound on and below the second
abbrev pub Rise : ℕ → List ℕ → ℕ → Type 0
Rise low [] high = low ≤ high
Rise low (n ∷ ns) high = (low ≤ n) × Rise (n + 1) ns high
