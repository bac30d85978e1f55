-- Lines and events, one for one.
use Rattle.std.specs.Prelude.{◌≡◌, ℕ, List, [], ◌∷◌, Option, Some, None}
use Rattle.std.specs.List.{filter}
use Rattle.pcc_history.specs.Channel.{over}
use Rattle.pcc_journal.specs.Events.{Event, Answered, Lost, Posted, is_call_of}
use Rattle.channel_turns.specs.Replies.{Done, TimedOut}
use Rattle.channel_headline.specs.After.{After, after_event, before_all}
use Rattle.channel_headline.specs.Asked.{LineReply, Replied, asked_bytes, asked_fault}
use Rattle.channel_headline.specs.Lines.{CallLine, mine_of}

-- an event, and the last output before it
pub record Placed : Type 0 where
  pub event : Event
  pub before : List ℕ

-- each event with the last output before it, which is the opening space where there is none
abbrev pub placed : After → List Event → List Placed
placed a [] = []
placed a (e ∷ es) = record { event = e; before = a.space } ∷ placed (after_event a e) es

-- the calls of one caller, in their order
abbrev pub own_calls : ℕ → List Placed → List Placed
own_calls caller ps = filter (λ p. is_call_of caller p.event) ps

-- the posted command is that of the line: its caller, its code, and what it asks of the last output before it, laid over that; a wish could be put there
abbrev pub IsPostOf : CallLine → List ℕ → Posted → Type 0
IsPostOf l before p =
    (p.caller ≡ l.caller) × (p.code ≡ l.code) × (p.input ≡ over before (asked_bytes l.asked before)) × (asked_fault l.asked before ≡ None)

-- `ok` or `error` matches an answer with that error and output; `timed out` matches a loss after as many looks as the line has polls; no reply
-- matches a loss that nobody has given up
abbrev pub Matches : CallLine → List ℕ → Option LineReply → Event → Type 0
Matches l before (Some (Replied (Done error output))) (Answered p c) = IsPostOf l before p × (c.error ≡ error) × (c.output ≡ output)
Matches l before (Some (Replied (TimedOut looks))) (Lost p n) = IsPostOf l before p × (looks ≡ l.polls) × (n ≡ looks)
Matches l before None (Lost p n) = IsPostOf l before p × (n ≡ 0)
Matches l before _ _ = ⊥

-- one line for each event, in one order
abbrev pub AllMatch : List CallLine → List Placed → Type 0
AllMatch [] [] = Unit {0}
AllMatch (l ∷ ls) (p ∷ ps) = Matches l p.before l.reply p.event × AllMatch ls ps
AllMatch _ _ = ⊥

-- The calls of every caller match, one for one and in the order of its lines, its lines that were posted. So a caller without such lines has
-- no call.
pub record Tied (opening : List ℕ) (lines : List CallLine) (events : List Event) : Type 0 where
  pub own : (caller : ℕ) → AllMatch (mine_of caller lines) (own_calls caller (placed (before_all opening) events))
