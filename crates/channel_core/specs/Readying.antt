-- A command that is made ready.
use Rattle.std.specs.Prelude.{◌≡◌, ◌≤◌, ◌<◌, ℕ, List, length, Option, Some, None, Result, IsErrOf, MatchResult}
use Rattle.channel_core.specs.declared.sent.Sent.{Sent}
use Rattle.channel_core.specs.declared.caller.Reading.{Reading}
use Rattle.channel_core.specs.declared.answers.CallRefusal.{CallRefusal}
use Rattle.channel_core.specs.declared.answers.CallRefusal.TheVariants as refusal
use Rattle.channel_core.specs.Refusals.{refusal_of}
use Rattle.channel_core.specs.CommandHistory.{CommandHistory, posts_of, reserved}
use Rattle.channel_core.specs.Sendings.{sent_at}

-- its code, and the bytes that are laid over the front of the space, for subspaces of this type and room
pub record ReadyCommand : Type 0 where
  pub kind : ℕ
  pub room : ℕ
  pub code : ℕ
  pub bytes : List ℕ

-- its code fits the header of types 0 to 2, and it has the memory for its input and for its reply
pub record HasRoomFor (kind room code len capacity reply : ℕ) : Type 0 where
  pub byte : kind ≤ 2 → code < 256
  pub fits : len ≤ room
  pub input : room ≤ capacity
  pub reply_is : reply ≡ room

-- it is posted by a caller at a reading, over a space
abbrev pub sent_by : ℕ → ReadyCommand → Reading → List ℕ → Sent
sent_by caller r post space = sent_at caller r.code r.bytes post space

-- it is refused and nothing changes, or its memory was taken, or that ran out and nothing changes
abbrev pub ReadiedBy : Option CallRefusal → CommandHistory → ReadyCommand → CommandHistory → Result ReadyCommand CallRefusal → Type 0
ReadiedBy (Some e) old r new result = IsErrOf result e × (new ≡ old)
ReadiedBy None old r new result = MatchResult result (λ made. (made ≡ r) × (new ≡ reserved old)) (λ e. (e ≡ refusal.NoMemory) × (new ≡ old))

abbrev pub IsReadied : CommandHistory → ReadyCommand → CommandHistory → Result ReadyCommand CallRefusal → Type 0
IsReadied old r new result = ReadiedBy (refusal_of r.kind r.room r.code (length r.bytes) (posts_of old)) old r new result
