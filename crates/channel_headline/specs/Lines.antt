-- The call lines on a channel, with their replies.
use Rattle.std.specs.Prelude.{◌==◌, ◌&&◌, ℕ, Bool, true, false, List, [], ◌∷◌, map, Option, Some, None}
use Rattle.std.specs.List.{filter}
use Rattle.pcc_history.specs.Channel.{Exchange}
use Rattle.channel_turns.specs.Replies.{Reply, Done, TooSoon, TimedOut}
use Rattle.channel_headline.specs.Asked.{Asked, LineReply, Refused, Replied, asked_bytes}

-- A call line: its caller, its code, what it asks, its polls; its reply, which a call that was posted and hasn't ended doesn't have; and of a reply
-- `too soon` the number of its reading (else 0).
pub record CallLine : Type 0 where
  pub caller : ℕ
  pub code : ℕ
  pub asked : Asked
  pub polls : ℕ
  pub reply : Option LineReply
  pub number : ℕ

-- the replies of a call that was posted
abbrev pub is_post : Reply → Bool
is_post (Done error output) = true
is_post (TimedOut looks) = true
is_post _ = false

abbrev pub posts_line : LineReply → Bool
posts_line (Replied reply) = is_post reply
posts_line (Refused refusal) = false

-- a call without a reply was posted too
abbrev pub was_posted : Option LineReply → Bool
was_posted None = true
was_posted (Some reply) = posts_line reply

abbrev pub is_too_soon : Reply → Bool
is_too_soon (TooSoon now earliest) = true
is_too_soon _ = false

abbrev pub was_too_soon : Option LineReply → Bool
was_too_soon (Some (Replied reply)) = is_too_soon reply
was_too_soon _ = false

abbrev pub HasReply : Option LineReply → Type 0
HasReply None = ⊥
HasReply (Some reply) = Unit {0}

-- each line but the last one has its reply
abbrev pub AreEnded : List CallLine → Type 0
AreEnded [] = Unit {0}
AreEnded (l ∷ []) = Unit {0}
AreEnded (l ∷ m ∷ ls) = HasReply l.reply × AreEnded (m ∷ ls)

-- the lines of one caller that were posted, in their order
abbrev pub mine_of : ℕ → List CallLine → List CallLine
mine_of caller lines = filter (λ l. was_posted l.reply && (l.caller == caller)) lines

-- what the lines asked that were posted
abbrev pub asked_by : List CallLine → List Asked
asked_by lines = map (λ l. l.asked) (filter (λ l. was_posted l.reply) lines)

-- the bytes that were asked of the commands of a history, each by the space before it
abbrev pub asked_along : List ℕ → List Exchange → List Asked → List (List ℕ)
asked_along space (x ∷ xs) (a ∷ rest) = asked_bytes a space ∷ asked_along x.output xs rest
asked_along space _ _ = []

-- the lines that were answered `too soon`
abbrev pub soon_lines : List CallLine → List CallLine
soon_lines lines = filter (λ l. was_too_soon l.reply) lines

-- the numbers of the readings of one caller's replies `too soon`
abbrev pub soon_numbers : ℕ → List CallLine → List ℕ
soon_numbers caller lines = map (λ l. l.number) (filter (λ l. was_too_soon l.reply && (l.caller == caller)) lines)
