-- Why a line was not posted.
use Rattle.std.specs.Prelude.{◌≡◌, ◌<◌, ℕ, Bool, length, List, [], ◌∷◌, ◌++◌, Option, Some, None}
use Rattle.pcc_history.specs.Devices.{Device}
use Rattle.rate_limit.specs.declared.Limits.{Limits}
use Rattle.rate_limit.specs.RateLimits.{earliest_of}
use Rattle.pcc_journal.specs.declared.reserved.TheConstants.{MAX_ITEMS}
use Rattle.pcc_journal.specs.Events.{Event, calls_of, post_count}
use Rattle.channel_core.specs.Refusals.{refusal_of}
use Rattle.channel_core.specs.declared.answers.CallRefusal.{CallRefusal}
use Rattle.channel_core.specs.declared.answers.CallRefusal.TheVariants as refusal
use Rattle.cppc_calls.specs.declared.wish.SetRefusal.{SetRefusal}
use Rattle.channel_turns.specs.Replies.{BadCode, TooLong, JournalFull, StillPending, TooSoon}
use Rattle.channel_headline.specs.After.{IsReading, Rise, after_events, numbers_in}
use Rattle.channel_headline.specs.Asked.{LineReply, Refused, Replied, asked_fault, asked_length}
use Rattle.channel_headline.specs.Lines.{CallLine, mine_of}

-- how a channel begins: its type, the room of its space, its device in a state, the space, whether it reports errors, its limits, and how many
-- readings its clock gave before
pub record Terms : Type 0 where
  pub kind : ℕ
  pub room : ℕ
  pub device : Device
  pub state : List ℕ
  pub opening : List ℕ
  pub reports : Bool
  pub limits : Limits
  pub before : ℕ

-- what refuses a line by itself, before any command is posted
abbrev pub own_refusal : Terms → CallLine → Option CallRefusal
own_refusal t l = refusal_of t.kind t.room l.code (asked_length t.room l.asked) 0

-- the events until some moment at which just the earlier lines of the line's caller had been posted
pub record Past (events : List Event) (earlier : List CallLine) (l : CallLine) : Type 0 where
  pub past : List Event
  pub later : List Event
  pub parts : events ≡ past ++ later
  pub own : length (calls_of past l.caller) ≡ length (mine_of l.caller earlier)

-- `journal full`: 4,096 commands had been posted
pub record IsFull (events : List Event) (earlier : List CallLine) (l : CallLine) : Type 0 where
  pub moment : Past events earlier l
  pub full : post_count moment.past ≡ MAX_ITEMS

-- `still pending`: a command was in flight
pub record IsBlocked (opening : List ℕ) (events : List Event) (earlier : List CallLine) (l : CallLine) : Type 0 where
  pub moment : Past events earlier l
  pub post : ℕ
  pub flies : (after_events opening moment.past).flight ≡ Some post

-- `too soon NOW EARLIEST`: no command was in flight, what the line asks could be made of the space, EARLIEST is the earliest of the commands until
-- then, and NOW is below it. NOW is the reading with the line's number, which is above the numbers of all posts and completions until then.
pub record IsTooSoon (t : Terms) (readings : List ℕ) (events : List Event) (earlier : List CallLine) (l : CallLine) (now earliest : ℕ) : Type 0 where
  pub moment : Past events earlier l
  pub quiet : (after_events t.opening moment.past).flight ≡ None
  pub fits : asked_fault l.asked (after_events t.opening moment.past).space ≡ None
  pub earliest_is : earliest ≡ earliest_of t.limits (after_events t.opening moment.past).times
  pub soon : now < earliest
  pub read : IsReading readings l.number now
  pub above : Rise t.before (numbers_in moment.past) l.number

-- a wish is refused: no command was in flight, and this is the first test of the wish that fails on the last output until then, or on the opening
-- space where there is none
pub record IsUnfit (opening : List ℕ) (events : List Event) (earlier : List CallLine) (l : CallLine) (why : SetRefusal) : Type 0 where
  pub moment : Past events earlier l
  pub quiet : (after_events opening moment.past).flight ≡ None
  pub fault : asked_fault l.asked (after_events opening moment.past).space ≡ Some why

-- A line that is refused by itself is answered so, and no other line is. `still pending` names the polls of the line.
abbrev pub HasCause : Terms → List ℕ → List Event → List CallLine → CallLine → Option LineReply → Type 0
HasCause t readings events earlier l (Some (Replied (BadCode code))) = own_refusal t l ≡ Some (refusal.BadCode code)
HasCause t readings events earlier l (Some (Replied (TooLong len room))) = own_refusal t l ≡ Some (refusal.TooLong len room)
HasCause t readings events earlier l (Some (Replied JournalFull)) = (own_refusal t l ≡ None) × IsFull events earlier l
HasCause t readings events earlier l (Some (Replied (StillPending looks))) =
    (own_refusal t l ≡ None) × (looks ≡ l.polls) × IsBlocked t.opening events earlier l
HasCause t readings events earlier l (Some (Replied (TooSoon now earliest))) =
    (own_refusal t l ≡ None) × IsTooSoon t readings events earlier l now earliest
HasCause t readings events earlier l (Some (Refused why)) = (own_refusal t l ≡ None) × IsUnfit t.opening events earlier l why
HasCause t readings events earlier l _ = own_refusal t l ≡ None

-- each line, with those before it
abbrev pub EachAfter : (List CallLine → CallLine → Type 0) → List CallLine → List CallLine → Type 0
EachAfter P earlier [] = Unit {0}
EachAfter P earlier (l ∷ ls) = P earlier l × EachAfter P (earlier ++ l ∷ []) ls

-- the reply of each line has its cause
abbrev pub AllCaused : Terms → List ℕ → List Event → List CallLine → Type 0
AllCaused t readings events lines = EachAfter (λ earlier l. HasCause t readings events earlier l l.reply) [] lines
