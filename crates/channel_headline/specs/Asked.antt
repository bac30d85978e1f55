-- What a line asks of a channel, by the space before it, and what the line is answered.
use Rattle.std.specs.Prelude.{ℕ, List, length, Option, None}
use Rattle.cpc_package.specs.declared.binding.Binding.{Binding}
use Rattle.cppc_calls.specs.declared.wish.Wish.{Wish}
use Rattle.cppc_calls.specs.declared.wish.SetRefusal.{SetRefusal}
use Rattle.cppc_calls.specs.Wishes.{wish_fault, with_wish}
use Rattle.channel_turns.specs.Replies.{Reply}

-- these bytes, over the front of the space; or a wish of a processor, put into the whole space
pub data Asked : Type 0 where
  These : List ℕ → Asked
  Wishes : Binding → Wish → Asked

-- the bytes of a command that is posted on a space
abbrev pub asked_bytes : Asked → List ℕ → List ℕ
asked_bytes (These bytes) space = bytes
asked_bytes (Wishes binding wish) space = with_wish binding wish space

-- how many they are, in a space of room bytes
abbrev pub asked_length : ℕ → Asked → ℕ
asked_length room (These bytes) = length bytes
asked_length room (Wishes binding wish) = room

-- why they can't be made of a space: the first test of the wish that fails
abbrev pub asked_fault : Asked → List ℕ → Option SetRefusal
asked_fault (These bytes) space = None
asked_fault (Wishes binding wish) space = wish_fault binding space wish

-- what a line is answered: the channel's reply, or that its wish is refused
pub data LineReply : Type 0 where
  Replied : Reply → LineReply
  Refused : SetRefusal → LineReply
