-- A call that sets a wish, as one thread sees it: what it is answered, and how it leaves the channel.
use Rattle.std.specs.Prelude.{ℕ, ◌+◌, if◌then◌else◌, List, length, Option, Some, None}
use Rattle.pcc_journal.specs.declared.text.JournalHead.{JournalHead}
use Rattle.cpc_package.specs.declared.binding.Binding.{Binding}
use Rattle.cppc_calls.specs.Wishes.{wish_fault, with_wish}
use Rattle.cppc_calls.specs.declared.wish.Wish.{Wish}
use Rattle.cppc_calls.specs.declared.wish.SetRefusal.{SetRefusal}
use Rattle.channel_core.specs.Refusals as refusals
use Rattle.channel_turns.specs.Replies.{Reply, StillPending}
use Rattle.channel_turns.specs.ChannelRuns.{Call, ChannelStart, ChannelState, Polled, count_in_flight, polled, post_call, replied}
use Rattle.channel_headline.specs.Asked.{LineReply, Refused, Replied}

-- the code of the command that takes the registers that were written (8.4.6)
abbrev pub write_code : ℕ
write_code = 1

-- a wish of a processor, of one caller
pub record WishCall : Type 0 where
  pub caller : ℕ
  pub binding : Binding
  pub wish : Wish
  pub polls : ℕ
  pub hold : ℕ

-- what a line is answered, and how it leaves the channel
pub record LineAnswer : Type 0 where
  pub reply : LineReply
  pub now : ChannelState

-- the whole space with the wish put
abbrev pub whole_call : WishCall → List ℕ → Call
whole_call w space = record { caller = w.caller; code = write_code; bytes = with_wish w.binding w.wish space; polls = w.polls; hold = w.hold }

-- what refuses such a call before the channel is looked at: its room is that of the space
abbrev pub wish_refusal : JournalHead → ChannelState → Option Reply
wish_refusal head now = replied (refusals.refusal_of head.kind head.room write_code head.room (length now.records + count_in_flight now.in_flight))

-- nothing is in flight: a wish that can't be put is refused, and no reading is taken; else the whole space is posted with the wish put
abbrev pub post_wish : ChannelStart → WishCall → ChannelState → Option SetRefusal → LineAnswer
post_wish start w now (Some why) = record { reply = Refused why; now = now }
post_wish start w now None = let a = post_call start (whole_call w now.object.space) now in record { reply = Replied a.reply; now = a.now }

-- until nothing is in flight the earlier command is still pending
abbrev pub wish_after : ChannelStart → WishCall → Polled → LineAnswer
wish_after start w p =
    if p.free then post_wish start w p.now (wish_fault w.binding p.now.object.space w.wish)
    else record { reply = Replied (StillPending w.polls); now = p.now }

abbrev pub wish_unless : ChannelStart → WishCall → ChannelState → Option Reply → LineAnswer
wish_unless start w now (Some reply) = record { reply = Replied reply; now = now }
wish_unless start w now None = wish_after start w (polled start w.polls now)

-- what refuses a call comes first, then the polls for an earlier command, then what refuses the wish, and then the post
abbrev pub answer_wish : ChannelStart → WishCall → ChannelState → LineAnswer
answer_wish start w now = wish_unless start w now (wish_refusal start.head now)
