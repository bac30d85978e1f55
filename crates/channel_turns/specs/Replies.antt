-- What a call is answered.
use Rattle.std.specs.Prelude.{ℕ, Bool, List}

pub data Reply : Type 0 where
  -- executed in its call: whether an error was reported, and the space that was returned
  Done : Bool → List ℕ → Reply
  -- the code doesn't fit the header of the subspace
  BadCode : ℕ → Reply
  -- the number of bytes, and the room of the communication space
  TooLong : ℕ → ℕ → Reply
  JournalFull : Reply
  -- an earlier command was not complete at any of N looks
  StillPending : ℕ → Reply
  -- the reading, and the earliest one at which a post is allowed
  TooSoon : ℕ → ℕ → Reply
  -- posted, and not complete at any of N looks
  TimedOut : ℕ → Reply
