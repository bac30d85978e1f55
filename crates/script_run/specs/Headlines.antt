-- What the journals of a run are worth: each keeps the headline of its channel.
use Rattle.std.specs.Prelude.{◌==◌, ℕ, Bool, true, false, List, [], ◌∷◌, ◌++◌, Option, Some, None}
use Rattle.std.specs.List.{AllByRecursion}
use Rattle.channel_turns.specs.Replies.{Done}
use Rattle.channel_turns.specs.ChannelRuns.{Channel}
use Rattle.channel_headline.specs.Asked.{LineReply, Refused, Replied}
use Rattle.channel_headline.specs.ChannelLog.{ChannelLine, Called, Waited, Wished}
use Rattle.channel_headline.specs.Runs.{HeadlineOf}
use Rattle.script_run.specs.StepRun.{Ask, LineAsk, Asks, ByChannel, Moves, Nothing, OfCall, OfRead, OfWish, Run, ShownReply, Values, call_of}

-- the channel's own reply: numbers are those of a space that came back without an error
abbrev pub own_reply : ShownReply → LineReply
own_reply (ByChannel reply) = reply
own_reply (Values binding output) = Replied (Done false output)

-- an ask with its reply; no call is refused as a wish is
abbrev pub answered : Ask → LineReply → List ChannelLine
answered (OfCall call) (Replied reply) = Called call reply ∷ []
answered (OfCall call) (Refused why) = []
answered (OfRead r) (Replied reply) = Called (call_of r) reply ∷ []
answered (OfRead r) (Refused why) = []
answered (OfWish w) reply = Wished w reply ∷ []

-- where it is on the channel and has a reply
abbrev pub answered_on : Bool → Ask → Option ShownReply → List ChannelLine
answered_on true ask (Some reply) = answered ask (own_reply reply)
answered_on true ask None = []
answered_on false ask reply = []

-- what a line asks with its reply, as the channel with an ID sees it: what is asked of itself, and each wait
abbrev pub line_on : ℕ → LineAsk → Option ShownReply → List ChannelLine
line_on id (Asks subspace ask) reply = answered_on (id == subspace) ask reply
line_on id (Moves n) reply = Waited n ∷ []
line_on id Nothing reply = []

abbrev pub lines_on : ℕ → List LineAsk → List (Option ShownReply) → List ChannelLine
lines_on id (l ∷ ls) (r ∷ rs) = line_on id l r ++ lines_on id ls rs
lines_on id _ _ = []

-- the journal that a channel is left with keeps its headline
abbrev pub KeepsHeadline : List LineAsk → List (Option ShownReply) → Channel → Type 0
KeepsHeadline lines replies c = HeadlineOf c.start (lines_on c.start.head.id lines replies) c.now

-- each journal of a run of these lines keeps its headline
abbrev pub AreHeadlines : List LineAsk → Run → Type 0
AreHeadlines lines run = AllByRecursion (KeepsHeadline lines run.replies) run.channels
