-- When a fault of a source or a sink may be reported: only if its count of faults rose in this call.
use Rattle.std.specs.Prelude.{ℕ, ◌≤◌, ◌≡◌, ◌+◌, ◌-◌, ◌^◌, min, Result, OnErr, Option, List, ◌++◌, length}
use Rattle.std.specs.Io.KnownBytes.{Appends, Consumes}

-- the count is greater than before, or is the greatest number of 64 bits
abbrev pub Rose : ℕ → ℕ → Type 0
Rose before now = min (before + 1) (2 ^ 64 - 1) ≤ now

-- the count never falls, and an Err occurs only if it rose
pub record HasCause {T E : Type 0} (before now : ℕ) (result : Result T E) : Type 0 where
  pub later : before ≤ now
  pub failed : OnErr result (Rose before now)

-- known bytes grow by a prefix of the text
abbrev pub AppendsPrefix : Option (List ℕ) → Option (List ℕ) → List ℕ → Type 0
AppendsPrefix old new text = (done : List ℕ) × (rest : List ℕ) × (text ≡ done ++ rest) × Appends old new done

-- the known bytes lost a front of this length at most
pub record TakesAtMost (old new : Option (List ℕ)) (most : ℕ) : Type 0 where
  pub taken : List ℕ
  pub read : Consumes old new taken
  pub few : length taken ≤ most
