-- The run of `step`: what the lines of a script ask is answered in their order, each by the channel of its subspace.
-- There is no machine, no word and no look in it.
use Rattle.std.specs.Prelude.{◌==◌, ℕ, ◌+◌, if◌then◌else◌, Bool, true, false, List, [], ◌∷◌, map, Option, Some, None, slice_get}
use Rattle.pcc_script.specs.declared.scenario.Line.{Line}
use Rattle.pcc_script.specs.declared.scenario.Line.TheVariants as line
use Rattle.pcc_script.specs.declared.scenario.Wish1.{Wish1}
use Rattle.cpc_package.specs.declared.binding.Binding.{Binding}
use Rattle.cppc_calls.specs.declared.wish.Wish.{Wish}
use Rattle.channel_turns.specs.ChannelRuns.{Call, Channel, ChannelStart, ChannelState, answer_call, call_by}
use Rattle.channel_turns.specs.Replies.{Reply, Done}
use Rattle.channel_headline.specs.Asked.{LineReply, Replied}
use Rattle.channel_headline.specs.WishCalls.{WishCall, answer_wish}

-- ---- what a line asks

-- the code of the command that reads all registers (8.4.6)
abbrev pub read_code : ℕ
read_code = 0

-- the numbers of a processor are read, for one caller
pub record ReadCall : Type 0 where
  pub caller : ℕ
  pub binding : Binding
  pub polls : ℕ
  pub hold : ℕ

abbrev pub call_of : ReadCall → Call
call_of r = call_by r.caller read_code [] r.polls r.hold

-- what is asked of a channel
pub data Ask : Type 0 where
  OfCall : Call → Ask
  OfRead : ReadCall → Ask
  OfWish : WishCall → Ask

-- what a line asks: something of the channel of a subspace, or that all clocks are moved up, or nothing if it names no processor
pub data LineAsk : Type 0 where
  Asks : ℕ → Ask → LineAsk
  Moves : ℕ → LineAsk
  Nothing : LineAsk

abbrev pub wish_of : Wish1 → Wish
wish_of w = record { cpu = w.cpu; min = w.min; desired = w.desired; max = w.max }

-- of a processor that is there, on its subspace
abbrev pub ask_of_cpu : Option Binding → (Binding → Ask) → LineAsk
ask_of_cpu None ask = Nothing
ask_of_cpu (Some binding) ask = Asks binding.subspace (ask binding)

-- the processors are named by their places
abbrev pub ask_of : List Binding → Line → LineAsk
ask_of cpus (line.Call worker subspace code bytes polls hold) = Asks subspace (OfCall (call_by worker code bytes polls hold))
ask_of cpus (line.Wait n) = Moves n
ask_of cpus (line.Read worker cpu polls hold) =
    ask_of_cpu (slice_get cpus cpu) (λ b. OfRead (record { caller = worker; binding = b; polls = polls; hold = hold }))
ask_of cpus (line.Set worker wish polls hold) =
    ask_of_cpu (slice_get cpus wish.cpu) (λ b. OfWish (record { caller = worker; binding = b; wish = wish_of wish; polls = polls; hold = hold }))

abbrev pub asks_by : List Binding → List Line → List LineAsk
asks_by cpus lines = map (ask_of cpus) lines

-- ---- what is answered

-- as the channel answers it; or the numbers of a processor in the space that came back
pub data ShownReply : Type 0 where
  ByChannel : LineReply → ShownReply
  Values : Binding → List ℕ → ShownReply

abbrev pub is_good : Reply → Bool
is_good (Done false output) = true
is_good _ = false

-- a read that was executed without an error shows numbers
abbrev pub shown_read : Binding → Reply → ShownReply
shown_read binding (Done false output) = Values binding output
shown_read binding reply = ByChannel (Replied reply)

-- the reply of an ask, and how it leaves the channel
pub record Shown : Type 0 where
  pub reply : ShownReply
  pub now : ChannelState

abbrev pub answer : ChannelStart → Ask → ChannelState → Shown
answer start (OfCall call) now = let a = answer_call start call now in record { reply = ByChannel (Replied a.reply); now = a.now }
answer start (OfRead r) now = let a = answer_call start (call_of r) now in record { reply = shown_read r.binding a.reply; now = a.now }
answer start (OfWish w) now = let a = answer_wish start w now in record { reply = ByChannel a.reply; now = a.now }

-- ---- a line

-- the reply of a line, if it has one, and the channels after it
pub record Turn : Type 0 where
  pub reply : Option ShownReply
  pub channels : List Channel

-- something is asked of the opened subspace with this ID
abbrev pub asked_on : ℕ → Ask → List Channel → Turn
asked_on id ask [] = record { reply = None; channels = [] }
asked_on id ask (c ∷ cs) =
    if c.start.head.id == id then (
    let a = answer c.start ask c.now in
    record { reply = Some a.reply; channels = record c { now = a.now } ∷ cs }
    ) else (
    let t = asked_on id ask cs in
    record { reply = t.reply; channels = c ∷ t.channels }
    )

-- the clock of a channel is moved up
abbrev pub waited : ℕ → Channel → Channel
waited n c = record c { now = record c.now { added = c.now.added + n } }

-- A `wait` line moves the clocks of all opened subspaces and has no reply.
abbrev pub turn_of : LineAsk → List Channel → Turn
turn_of (Asks id ask) cs = asked_on id ask cs
turn_of (Moves n) cs = record { reply = None; channels = map (waited n) cs }
turn_of Nothing cs = record { reply = None; channels = cs }

-- ---- a run

-- the replies of the lines in their order, and the channels after them
pub record Run : Type 0 where
  pub replies : List (Option ShownReply)
  pub channels : List Channel

abbrev pub step_run : List LineAsk → List Channel → Run
step_run [] cs = record { replies = []; channels = cs }
step_run (l ∷ ls) cs =
    let t = turn_of l cs in
    let r = step_run ls t.channels in
    record { replies = t.reply ∷ r.replies; channels = r.channels }
