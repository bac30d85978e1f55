-- What a channel has done, of which no reply speaks: looks that saw clear, turns, and word steps.
use Rattle.std.specs.Prelude.{◌≡◌, ◌≤◌, ◌<◌, ℕ, ◌+◌, ◌^◌, Option, Some, None}

pub record Counts : Type 0 where
  -- the looks of the asking end that saw completion clear, ever
  pub clears : ℕ
  -- the turns of the answering end, held ones included
  pub turns : ℕ
  -- the word steps of the asking end
  pub steps : ℕ

-- a count, which stays at the greatest u64, has risen by n
abbrev pub Rises : ℕ → ℕ → ℕ → Type 0
Rises n old new = old + n < 2 ^ 64 → new ≡ old + n

-- looks that saw clear, turns, and word steps of the asking end at most
pub record Spent (seen made most : ℕ) (old new : Counts) : Type 0 where
  pub clears : Rises seen old.clears new.clears
  pub turns : Rises made old.turns new.turns
  pub steps : new.steps ≤ old.steps + most

-- a turn and a look for a command, by the place of its record where it was drained
abbrev pub SpentByPoll : ℕ → Option ℕ → Counts → Counts → Type 0
SpentByPoll block None = Spent 1 1 1
SpentByPoll block (Some place) = Spent 0 1 (block + 6)

-- polls for a command that is held for some turns
abbrev pub SpentByPolls : ℕ → ℕ → ℕ → Option ℕ → Counts → Counts → Type 0
SpentByPolls block polls hold None = Spent polls polls polls
SpentByPolls block polls hold (Some place) = Spent hold (hold + 1) (hold + (block + 6))
