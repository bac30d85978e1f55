-- A channel that is called in one thread, and what a call makes of it.
use Rattle.std.specs.Prelude.{◌≡◌, ◌≤◌, ◌<◌, ℕ, ◌+◌, ◌*◌, max, [], ◌∷◌, ◌++◌, Bool, true, false, List, length, Option, Some, None, Result, Ok, OnOk, IsErrOf, MatchResult}
use Rattle.pcc_history.specs.Devices.{Device}
use Rattle.pcc_journal.specs.declared.text.JournalHead.{JournalHead}
use Rattle.channel_turns.specs.ChannelRuns.{Call, ChannelStart, ChannelState, InFlight, ScriptClock, answer_call, count_in_flight, fresh, journal_limit, polled, post_call}
use Rattle.channel_turns.specs.EndsStates.{EndsState}
use Rattle.channel_turns.specs.Outcomes.{StandsFor}
use Rattle.pcc_io.specs.declared.items.NoMemory.{NoMemory}
use Rattle.channel_core.specs.Readings.{more_time}
use Rattle.channel_core.specs.Readying.{ReadyCommand}
use Rattle.channel_core.specs.Refusals as refusals
use Rattle.channel_core.specs.Sendings.{is_late}
use Rattle.channel_core.specs.declared.answers.CallRefusal.{CallRefusal}
use Rattle.channel_core.specs.declared.answers.CallRefusal.TheVariants as refusal
use Rattle.channel_core.specs.declared.sent.Sent.{Sent}
use Rattle.pcc_journal.specs.declared.note.Note.{Note}
use Rattle.pcc_steps.specs.declared.wiring.Wiring.{Wiring}
use Rattle.pcc_steps.specs.Wires.{block_of}
use Rattle.channel_turns.specs.Counts.{Counts, Spent}
use Rattle.channel_turns.specs.Seeing.{EndsSeen, nothing_spent}
use Rattle.channel_turns.specs.declared.outcome.Outcome.{Outcome}
use Rattle.channel_turns.specs.declared.outcome.Outcome.TheVariants as outcome

-- what a channel has done, of which no reply speaks
pub record Efforts : Type 0 where
  -- looks that saw clear, turns, and word steps of the asking end
  pub counts : Counts
  -- the looks that saw clear since the budget was set or the last command was posted, and the looks that are allowed
  pub looks : ℕ
  pub budget : ℕ
  -- the notes beside the records, and that of the command in flight
  pub notes : List Note
  pub note : Option Note
  -- the records, with their notes, for which the memory is taken
  pub spare : ℕ

-- what stays of an opened subspace, but for the meaning of its device, and what changes
pub record OpenChannel : Type 0 where
  pub head : JournalHead
  pub wiring : Wiring
  pub clock : ScriptClock
  pub state : List ℕ
  pub opening : List ℕ
  pub now : ChannelState
  pub efforts : Efforts

abbrev pub flight_of : Option Sent → ℕ → Option InFlight
flight_of None hold = None
flight_of (Some c) hold = Some (record { command = c.command; left = hold })

abbrev pub now_of : EndsState → ChannelState
now_of s = record { object = s.object; records = s.history.records; in_flight = flight_of s.history.sent s.hold; taken = s.taken; added = s.added }

abbrev pub note_in : Option Sent → Option Note
note_in None = None
note_in (Some c) = Some c.note

abbrev pub efforts_of : EndsSeen → Efforts
efforts_of e =
    let s = e.state in
    let h = s.history in
    record { counts = e.counts; looks = s.looks; budget = s.budget; notes = h.notes; note = note_in h.sent; spare = h.spare }

abbrev pub open_channel : EndsSeen → OpenChannel
open_channel e =
    let s = e.state in
    record {
      head = s.head;
      wiring = s.wiring;
      clock = s.clock;
      state = s.first;
      opening = s.opening;
      now = now_of s;
      efforts = efforts_of e;
    }

-- between two calls a command in flight was given up, and is not executed yet
abbrev pub IsLate : Option Sent → Bool → Type 0
IsLate None executed = Unit {0}
IsLate (Some c) executed = (executed ≡ false) × (is_late c ≡ true)

-- ---- the notes that a call makes

-- the notes beside the records, that of the command in flight, and the number of readings that were taken
pub record Noted : Type 0 where
  pub notes : List Note
  pub flight : Option Note
  pub taken : ℕ

abbrev pub noted_of : OpenChannel → Noted
noted_of c = record { notes = c.efforts.notes; flight = c.efforts.note; taken = c.now.taken }

-- a command in flight completes at the next reading
abbrev pub noted_earlier : Option Note → Noted → Noted
noted_earlier None n = n
noted_earlier (Some f) n = record { notes = n.notes ++ record f { done_at = n.taken } ∷ []; flight = None; taken = n.taken + 1 }

-- Nothing is in flight: a call that is done took the readings of its post and of its completion. One that timed out took that of its post, and gave
-- its command up after all its looks. One that is too soon took one reading.
abbrev pub noted_post : Outcome → Noted → Noted
noted_post (outcome.Done place) n =
    record n { notes = n.notes ++ record { post_at = n.taken; done_at = n.taken + 1; looks = 0 } ∷ []; taken = n.taken + 2 }
noted_post (outcome.TimedOut looks) n = record n { flight = Some (record { post_at = n.taken; done_at = 0; looks = looks }); taken = n.taken + 1 }
noted_post (outcome.TooSoon now earliest) n = record n { taken = n.taken + 1 }
noted_post _ n = n

-- an earlier command completes before a post; no other call takes a reading
abbrev pub noted_after : Outcome → Noted → Noted
noted_after (outcome.BadCode code) n = n
noted_after (outcome.TooLong len room) n = n
noted_after outcome.JournalFull n = n
noted_after (outcome.StillPending looks) n = n
noted_after o n = noted_post o (noted_earlier n.flight n)

abbrev pub start_by : Device → OpenChannel → ChannelStart
start_by exec c = record { head = c.head; clock = c.clock; device = exec; state = c.state; opening = c.opening }

-- the outcome of a call means its answer, which leaves the channel as it is now, but for its efforts; and the notes of the call
pub record IsAnswered (exec : Device) (old : OpenChannel) (call : Call) (new : OpenChannel) (outcome : Outcome) : Type 0 where
  pub told : let a = answer_call (start_by exec old) call old.now in StandsFor a.now.records outcome a.reply
  pub left : new ≡ record old { now = (answer_call (start_by exec old) call old.now).now; efforts = new.efforts }
  pub noted : noted_of new ≡ noted_after outcome (noted_of old)

-- ---- what a call does

-- the looks that saw an earlier command incomplete before it was drained, and the turns that were made for it
abbrev pub earlier_looks : Option InFlight → ℕ
earlier_looks None = 0
earlier_looks (Some p) = p.left

abbrev pub earlier_turns : Option InFlight → ℕ
earlier_turns None = 0
earlier_turns (Some p) = p.left + 1

-- those for the call's own command
abbrev pub own_looks : Call → Outcome → ℕ
own_looks call (outcome.Done place) = call.hold
own_looks call (outcome.TimedOut looks) = call.polls
own_looks call _ = 0

abbrev pub own_turns : Call → Outcome → ℕ
own_turns call (outcome.Done place) = call.hold + 1
own_turns call (outcome.TimedOut looks) = call.polls
own_turns call _ = 0

-- the looks that saw clear in a call, and its turns, by what became of it
abbrev pub clear_looks : Option InFlight → Call → Outcome → ℕ
clear_looks earlier call (outcome.BadCode code) = 0
clear_looks earlier call (outcome.TooLong len room) = 0
clear_looks earlier call outcome.JournalFull = 0
clear_looks earlier call (outcome.StillPending looks) = call.polls
clear_looks earlier call o = earlier_looks earlier + own_looks call o

abbrev pub turns_made : Option InFlight → Call → Outcome → ℕ
turns_made earlier call (outcome.BadCode code) = 0
turns_made earlier call (outcome.TooLong len room) = 0
turns_made earlier call outcome.JournalFull = 0
turns_made earlier call (outcome.StillPending looks) = call.polls
turns_made earlier call o = earlier_turns earlier + own_turns call o

-- a call that ends with a command incomplete has made all looks that it was allowed, and each saw clear
abbrev pub HasLooked : ℕ → Efforts → Outcome → Type 0
HasLooked polls new (outcome.TimedOut looks) = (new.looks ≡ polls) × (new.budget ≡ polls)
HasLooked polls new (outcome.StillPending looks) = (new.looks ≡ polls) × (new.budget ≡ polls)
HasLooked polls new _ = Unit {0}

-- the word steps of a call at most
abbrev pub most_steps : Call → ℕ → ℕ
most_steps call block = 2 * call.polls + 3 * block + 24

pub record HasWorked (call : Call) (old new : OpenChannel) (o : Outcome) : Type 0 where
  pub counts :
      let earlier = old.now.in_flight in
      Spent (clear_looks earlier call o) (turns_made earlier call o) (most_steps call (block_of old.wiring)) old.efforts.counts new.efforts.counts
  pub looks : HasLooked call.polls new.efforts o

-- ---- a call is made ready

-- a command of this code with these bytes for a channel
abbrev pub ready_for : OpenChannel → ℕ → List ℕ → ReadyCommand
ready_for c code bytes = record { kind = c.head.kind; room = c.head.room; code = code; bytes = bytes }

-- the commands that were posted
abbrev pub posts_in : ChannelState → ℕ
posts_in now = length now.records + count_in_flight now.in_flight

-- with the memory of one more record, beside that of a command in flight
abbrev pub with_memory : OpenChannel → OpenChannel
with_memory c = record c { efforts = record c.efforts { spare = max c.efforts.spare (count_in_flight c.now.in_flight + 1) } }

-- it is refused and nothing changes, or its memory is taken, or that ran out and nothing changes
abbrev pub MakesReadyBy : Option CallRefusal → OpenChannel → ReadyCommand → OpenChannel → Result ReadyCommand CallRefusal → Type 0
MakesReadyBy (Some e) old r new result = IsErrOf result e × (new ≡ old)
MakesReadyBy None old r new result = MatchResult result (λ made. (made ≡ r) × (new ≡ with_memory old)) (λ e. (e ≡ refusal.NoMemory) × (new ≡ old))

abbrev pub MakesReady : OpenChannel → ReadyCommand → OpenChannel → Result ReadyCommand CallRefusal → Type 0
MakesReady old r new result = MakesReadyBy (refusals.refusal_of r.kind r.room r.code (length r.bytes) (posts_in old.now)) old r new result

-- the memory of one more record is taken, beside that of a command in flight, and the journal has the place
pub record HasMemory (c : OpenChannel) : Type 0 where
  pub taken : count_in_flight c.now.in_flight < c.efforts.spare
  pub few : length c.now.records + c.efforts.spare ≤ journal_limit

-- ---- the polls for an earlier command

abbrev pub noted_if : Bool → Noted → Noted
noted_if true n = noted_earlier n.flight n
noted_if false n = n

-- the polls leave the channel as it is now, but for its efforts, and report whether nothing is in flight; and their notes
pub record HasPolled (exec : Device) (polls : ℕ) (old new : OpenChannel) (free : Bool) : Type 0 where
  pub polls_leave : polled (start_by exec old) polls old.now ≡ record { free = free; now = new.now }
  pub left : new ≡ record old { now = new.now; efforts = new.efforts }
  pub noted : noted_of new ≡ noted_if free (noted_of old)

abbrev pub SpentByEarlier : Bool → Option InFlight → ℕ → ℕ → Counts → Counts → Type 0
SpentByEarlier true earlier polls block = Spent (earlier_looks earlier) (earlier_turns earlier) (polls + (block + 6))
SpentByEarlier false earlier polls block = Spent polls polls polls

-- the looks and the counts of these polls
pub record WorksEarlier (polls : ℕ) (old new : OpenChannel) (free : Bool) : Type 0 where
  pub counts : SpentByEarlier free old.now.in_flight polls (block_of old.wiring) old.efforts.counts new.efforts.counts
  pub looks : free ≡ false → (new.efforts.looks ≡ polls) × (new.efforts.budget ≡ polls)

-- ---- a post, where nothing is in flight

-- what a call without an earlier command ends with: done, timed out, or too soon
abbrev pub EndsByPost : Outcome → Type 0
EndsByPost (outcome.Done place) = Unit {0}
EndsByPost (outcome.TimedOut looks) = Unit {0}
EndsByPost (outcome.TooSoon now earliest) = Unit {0}
EndsByPost _ = ⊥

-- the outcome of the post means its answer, which leaves the channel as it is now, but for its efforts; and the notes of the post
pub record IsPosted (exec : Device) (old : OpenChannel) (call : Call) (new : OpenChannel) (outcome : Outcome) : Type 0 where
  pub told : let a = post_call (start_by exec old) call old.now in StandsFor a.now.records outcome a.reply
  pub left : new ≡ record old { now = (post_call (start_by exec old) call old.now).now; efforts = new.efforts }
  pub noted : noted_of new ≡ noted_post outcome (noted_of old)
  pub ends : EndsByPost outcome

-- the looks and the counts of a post
pub record HasPosted (call : Call) (old new : OpenChannel) (o : Outcome) : Type 0 where
  pub counts : Spent (own_looks call o) (own_turns call o) (call.polls + 2 * block_of old.wiring + 13) old.efforts.counts new.efforts.counts
  pub looks : HasLooked call.polls new.efforts o

-- what a refusal makes of a call
abbrev pub IsRefused : CallRefusal → Result Outcome NoMemory → Type 0
IsRefused (refusal.BadCode code) result = result ≡ Ok (outcome.BadCode code)
IsRefused (refusal.TooLong len room) result = result ≡ Ok (outcome.TooLong len room)
IsRefused refusal.JournalFull result = result ≡ Ok outcome.JournalFull
IsRefused refusal.NoMemory result = OnOk result ⊥
IsRefused (refusal.StillPending looks) result = result ≡ Ok (outcome.StillPending looks)
IsRefused (refusal.TooSoon now earliest) result = result ≡ Ok (outcome.TooSoon now earliest)
IsRefused (refusal.TimedOut looks) result = result ≡ Ok (outcome.TimedOut looks)

-- nothing was asked yet
abbrev pub new_channel : Device → JournalHead → Wiring → ℕ → ℕ → List ℕ → List ℕ → OpenChannel
new_channel exec head wiring start step state opening =
    let clock : ScriptClock = record { start = start; step = step } in
    record {
      head = head;
      wiring = wiring;
      clock = clock;
      state = state;
      opening = opening;
      now = fresh (record { head = head; clock = clock; device = exec; state = state; opening = opening });
      efforts = record { counts = nothing_spent; looks = 0; budget = 0; notes = []; note = None; spare = 0 };
    }

-- the clock is moved up
abbrev pub waited : ℕ → OpenChannel → OpenChannel
waited n c = record c { now = record c.now { added = more_time n c.now.added } }
