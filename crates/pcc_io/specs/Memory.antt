-- What contracts see of the source and the sink in memory.
use Rattle.std.specs.Prelude.{ℕ, ◌+◌, ◌-◌, ◌^◌, ◌==◌, min, List, Bool}
use Rattle.std.specs.List.{list_any}

pub record SourceState : Type 0 where
  pub left : List ℕ
  pub give : ℕ
  pub fails : List ℕ
  pub calls : ℕ
  pub faults : ℕ

pub record SinkState : Type 0 where
  pub held : List ℕ
  pub room : ℕ
  pub take : ℕ
  pub fails : List ℕ
  pub calls : ℕ
  pub faults : ℕ

-- a count of u64 raised by one
abbrev pub raised : ℕ → ℕ
raised n = min (n + 1) (2 ^ 64 - 1)

-- the next call is one that fails
abbrev pub fails_next : List ℕ → ℕ → Bool
fails_next fails calls = list_any (λ f. f == raised calls) fails
