-- A channel keeps journals that are told, of commands as long as its space, whatever is called, set and waited.
use Rattle.std.proofs.Common.{◌≡◌, ℕ, ◌+◌, ◌-◌, ◌*◌, ◌^◌, ◌≤◌, Bool, true, false, cond, List, [], ◌∷◌, ◌++◌, length, drop, length-drop, refl, sym, ◌∙◌, subst, arith}
use Rattle.std.specs.Prelude.{Option, Some, None, IfSome, nat_lt}
use Rattle.std.specs.List.{AllByRecursion}
use Rattle.std.proofs.Math.Nat.{min-le_right}
use Rattle.std.proofs.lemmas.Bool.{ltb-false}
use Rattle.std.proofs.lemmas.List.{length-append}
use Rattle.pcc_bytes.specs.Bytes.{IsBytes}
use Rattle.pcc_bytes.proofs.Bytes.{IsBytes-append, IsBytes-drop, IsBytes-nil}
use Rattle.pcc_history.specs.Devices.{Device, Executed, bank_exec}
use Rattle.pcc_history.specs.Channel.{both, over}
use Rattle.pcc_exec.specs.Banks.{bank_keeps}
use Rattle.pcc_exec.specs.Execution.{IsBank, IsSpace, Leaves, bank_room}
use Rattle.cppc_device.specs.Keeps.{cppc_keeps}
use Rattle.cppc_device.specs.States.{IsCppc, cppc_exec, cppc_room}
use Rattle.rate_limit.specs.RateLimits.{earliest_of}
use Rattle.pcc_journal.specs.declared.record.Record.{Record}
use Rattle.pcc_journal.specs.declared.record.Pending.{Pending}
use Rattle.pcc_journal.specs.Records.{times_of}
use Rattle.journal_reading.specs.Told.{IsPending, IsRecord, most_32, most_64}
use Rattle.channel_core.specs.Refusals as refusals
use Rattle.channel_core.specs.Sendings.{recorded}
use Rattle.channel_turns.specs.Replies.{Reply, BadCode, JournalFull, TooLong}
use Rattle.channel_turns.specs.ChannelRuns.{Answered, Call, ChannelStart, ChannelState, InFlight, Polled, after_polls, answer_call, answer_unless, completed, count_in_flight, next_reading, pending_of, polled, polled_for, post_call, refusal_of, replied}
use Rattle.channel_headline.specs.WishCalls.{LineAnswer, WishCall, post_wish, whole_call, wish_after, wish_refusal, wish_unless}
use Rattle.channel_headline.proofs.Histories.{choose, refusal_is}
use Rattle.cppc_calls.specs.Wishes.{wish_fault, with_wish}
use Rattle.cppc_calls.specs.declared.wish.SetRefusal.{SetRefusal}
use Rattle.cppc_headline.proofs.Commands.{wish-bytes, wish-length}
use Rattle.script_run.specs.StepRun.{Ask, OfCall, OfRead, OfWish, answer, call_of}

-- ---- both devices, by whether the device is a controller

abbrev pub exec_if : Bool → Device
exec_if true = cppc_exec
exec_if false = bank_exec

abbrev pub state_if : Bool → List ℕ → Type 0
state_if true = IsCppc
state_if false = IsBank

abbrev pub room_if : Bool → List ℕ → ℕ
room_if true = cppc_room
room_if false = bank_room

leaves : (cppc : Bool) (exec : Device) (before : List ℕ) (code : ℕ) (space : List ℕ) → exec ≡ exec_if cppc → state_if cppc before → IsSpace (room_if cppc before) space
    → Leaves (state_if cppc) (room_if cppc) before (exec before code space)
leaves true exec before code space is state fits = subst (λ (e : Device). Leaves IsCppc cppc_room before (e before code space)) (sym is) (cppc_keeps before code space state fits)
leaves false exec before code space is state fits = subst (λ (e : Device). Leaves IsBank bank_room before (e before code space)) (sym is) (bank_keeps before code space state fits)

-- ---- what is kept

-- a record is told, and its bytes fill a space
pub record IsKept (room : ℕ) (r : Record) : Type 0 where
  pub told : IsRecord r
  pub input : length r.input ≡ room
  pub output : length r.output ≡ room

-- so it is with a command in flight
pub record IsSent (room : ℕ) (p : Pending) : Type 0 where
  pub told : IsPending p
  pub input : length p.input ≡ room

-- the device can be in its state, of the room of the channel, and so are the space, each record and the command in flight
pub record Sound (cppc : Bool) (start : ChannelStart) (now : ChannelState) : Type 0 where
  pub device : start.device ≡ exec_if cppc
  pub state : state_if cppc now.object.state
  pub room : room_if cppc now.object.state ≡ start.head.room
  pub space : IsSpace start.head.room now.object.space
  pub records : AllByRecursion (IsKept start.head.room) now.records
  pub flight : IfSome (pending_of now.in_flight) (IsSent start.head.room)

-- a call that fits
pub record IsCall (room : ℕ) (call : Call) : Type 0 where
  pub caller : call.caller ≤ most_32
  pub code : call.code ≤ most_32
  pub bytes : IsBytes call.bytes
  pub short : length call.bytes ≤ room

-- ---- a command is executed

pub over_space : (room : ℕ) (space bytes : List ℕ) → IsSpace room space → IsBytes bytes → length bytes ≤ room → IsSpace room (over space bytes)
over_space room space bytes is fits le =
    let long : length space ≡ room = is.long in
    let rest : length (drop (length bytes) space) ≡ length space - length bytes = length-drop (length bytes) space in
    let all : length (over space bytes) ≡ length bytes + length (drop (length bytes) space) = length-append bytes (drop (length bytes) space) in
    record { long = omega (arith, long, rest, all, le); fits = IsBytes-append bytes (drop (length bytes) space) fits (IsBytes-drop (length bytes) space is.fits) }

pub records_more : (P : Record → Type 0) (records : List Record) (r : Record) → AllByRecursion P records → P r → AllByRecursion P (records ++ r ∷ [])
records_more P [] r h k = (k, tt)
records_more P (x ∷ records) r h k = (h.0, records_more P records r h.1 k)

reading_small : (start : ChannelStart) (now : ChannelState) → next_reading start now ≤ most_64
reading_small start now = let le = min-le_right (start.clock.start + now.taken * start.clock.step + now.added) (2 ^ 64 - 1) in omega (arith, le)

completes : (cppc : Bool) (start : ChannelStart) (p : Pending) (late : Bool) (now : ChannelState) → Sound cppc start now → IsSent start.head.room p → Sound cppc start (completed start p late now)
completes cppc start p late now h sent =
    let room : ℕ = start.head.room in
    let x : Executed = start.device now.object.state p.code p.input in
    let input : IsSpace (room_if cppc now.object.state) p.input = record { long = sent.input ∙ sym h.room; fits = sent.told.input } in
    let left : Leaves (state_if cppc) (room_if cppc) now.object.state x = leaves cppc start.device now.object.state p.code p.input h.device h.state input in
    let output : length x.space ≡ room = left.space.long ∙ h.room in
    let reading : ℕ = next_reading start now in
    let one : IsKept room (recorded p (both start.head.reports x.bad) x.space reading late) = record {
      told = record { caller = sent.told.caller; code = sent.told.code; post = sent.told.post; done = reading_small start now; input = sent.told.input; output = left.space.fits };
      input = sent.input;
      output = output;
    } in
    record {
      device = h.device;
      state = left.state;
      room = left.room ∙ h.room;
      space = record { long = output; fits = left.space.fits };
      records = records_more (IsKept room) now.records _ h.records one;
      flight = tt;
    }

-- a channel with the same records and the same space
moved : (cppc : Bool) (start : ChannelStart) (now : ChannelState) (o : Option InFlight) (taken added : ℕ) → IfSome (pending_of o) (IsSent start.head.room) → Sound cppc start now
    → Sound cppc start (record now { in_flight = o; taken = taken; added = added })
moved cppc start now o taken added flight h =
    record { device = h.device; state = h.state; room = h.room; space = h.space; records = h.records; flight = flight }

-- ---- calls

posts : (cppc : Bool) (start : ChannelStart) (call : Call) (now : ChannelState) → Sound cppc start now → IsCall start.head.room call → Sound cppc start (post_call start call now).now
posts cppc start call now h k =
    let Good : Answered → Type 0 = λ a. Sound cppc start a.now in
    let reading : ℕ = next_reading start now in
    let earliest : ℕ = earliest_of start.head.limits (times_of now.records) in
    let later : ChannelState = record now { taken = now.taken + 1 } in
    let command : Pending = record { caller = call.caller; code = call.code; input = over now.object.space call.bytes; post = reading } in
    let input : IsSpace start.head.room (over now.object.space call.bytes) = over_space start.head.room now.object.space call.bytes h.space k.bytes k.short in
    let sent : IsSent start.head.room command = record {
      told = record { caller = k.caller; code = k.code; post = reading_small start now; input = input.fits };
      input = input.long;
    } in
    let still : Sound cppc start later = moved cppc start now now.in_flight (now.taken + 1) now.added h.flight h in
    let flight : InFlight = record { command = command; left = call.hold - call.polls } in
    choose Good (nat_lt reading earliest) _ _ still
    (choose Good (nat_lt call.hold call.polls) _ _
    (completes cppc start command false later still sent)
    (moved cppc start now (Some flight) (now.taken + 1) now.added sent h))

polls_keep : (cppc : Bool) (start : ChannelStart) (polls : ℕ) (now : ChannelState) (o : Option InFlight) → now.in_flight ≡ o → Sound cppc start now → Sound cppc start (polled_for start polls now o).now
polls_keep cppc start polls now None e h = h
polls_keep cppc start polls now (Some p) e h =
    let sent : IsSent start.head.room p.command = subst (λ (o : Option InFlight). IfSome (pending_of o) (IsSent start.head.room)) e h.flight in
    let Good : Polled → Type 0 = λ r. Sound cppc start r.now in
    let q : InFlight = record p { left = p.left - polls } in
    choose Good (nat_lt p.left polls) (record { free = true; now = completed start p.command true now }) (record { free = false; now = record now { in_flight = Some q } })
    (completes cppc start p.command true now h sent)
    (moved cppc start now (Some q) now.taken now.added sent h)

after_polls_keep : (cppc : Bool) (start : ChannelStart) (call : Call) (p : Polled) → Sound cppc start p.now → IsCall start.head.room call → Sound cppc start (after_polls start call p).now
after_polls_keep cppc start call p h k = choose (λ (a : Answered). Sound cppc start a.now) p.free _ _ (posts cppc start call p.now h k) h

unless_keeps : (cppc : Bool) (start : ChannelStart) (call : Call) (now : ChannelState) (o : Option Reply) → Sound cppc start now → (o ≡ None → IsCall start.head.room call)
    → Sound cppc start (answer_unless start call now o).now
unless_keeps cppc start call now (Some r) h k = h
unless_keeps cppc start call now None h k =
    after_polls_keep cppc start call (polled start call.polls now) (polls_keep cppc start call.polls now now.in_flight refl h) (k refl)

none_long : (a b c : Bool) (code len room : ℕ) → cond a (Some (BadCode code)) (cond b (Some (TooLong len room)) (cond c (Some JournalFull) None)) ≡ None → b ≡ false
none_long true b c code len room e = absurd cc
none_long false true c code len room e = absurd cc
none_long false false c code len room e = refl

-- a call that isn't refused is no longer than the room
short_is : (start : ChannelStart) (code len posted : ℕ) → replied (refusals.refusal_of start.head.kind start.head.room code len posted) ≡ None → len ≤ start.head.room
short_is start code len posted e =
    let test : nat_lt start.head.room len ≡ false = none_long _ _ _ code len start.head.room (sym (refusal_is start code len posted) ∙ e) in
    ltb-false start.head.room len test

-- ---- what is asked

-- a caller, a code and bytes of a line
abbrev pub IsAsk : Ask → Type 0
IsAsk (OfCall call) = (call.caller ≤ most_32) × (call.code ≤ most_32) × IsBytes call.bytes
IsAsk (OfRead r) = r.caller ≤ most_32
IsAsk (OfWish w) = w.caller ≤ most_32

call_keeps : (cppc : Bool) (start : ChannelStart) (call : Call) (now : ChannelState) → call.caller ≤ most_32 → call.code ≤ most_32 → IsBytes call.bytes → Sound cppc start now
    → Sound cppc start (answer_call start call now).now
call_keeps cppc start call now caller code bytes h =
    unless_keeps cppc start call now (refusal_of start.head call now) h
    (λ none. record { caller = caller; code = code; bytes = bytes; short = short_is start call.code (length call.bytes) (length now.records + count_in_flight now.in_flight) none })

put_keeps : (cppc : Bool) (start : ChannelStart) (w : WishCall) (now : ChannelState) (o : Option SetRefusal) → w.caller ≤ most_32 → Sound cppc start now → Sound cppc start (post_wish start w now o).now
put_keeps cppc start w now (Some why) caller h = h
put_keeps cppc start w now None caller h =
    let space : List ℕ = now.object.space in
    let long : length (with_wish w.binding w.wish space) ≡ start.head.room = wish-length w.binding w.wish space ∙ h.space.long in
    posts cppc start (whole_call w space) now h
    (record { caller = caller; code = omega arith; bytes = wish-bytes w.binding w.wish space; short = omega (arith, long) })

wish_after_keeps : (cppc : Bool) (start : ChannelStart) (w : WishCall) (p : Polled) → w.caller ≤ most_32 → Sound cppc start p.now → Sound cppc start (wish_after start w p).now
wish_after_keeps cppc start w p caller h =
    choose (λ (a : LineAnswer). Sound cppc start a.now) p.free _ _ (put_keeps cppc start w p.now (wish_fault w.binding p.now.object.space w.wish) caller h) h

wish_keeps : (cppc : Bool) (start : ChannelStart) (w : WishCall) (now : ChannelState) (o : Option Reply) → w.caller ≤ most_32 → Sound cppc start now → Sound cppc start (wish_unless start w now o).now
wish_keeps cppc start w now (Some r) caller h = h
wish_keeps cppc start w now None caller h =
    wish_after_keeps cppc start w (polled start w.polls now) caller (polls_keep cppc start w.polls now now.in_flight refl h)

pub answer_keeps : (cppc : Bool) (start : ChannelStart) (ask : Ask) (now : ChannelState) → IsAsk ask → Sound cppc start now → Sound cppc start (answer start ask now).now
answer_keeps cppc start (OfCall call) now is h = call_keeps cppc start call now is.0 is.1 is.2 h
answer_keeps cppc start (OfRead r) now is h = call_keeps cppc start (call_of r) now is (omega arith) IsBytes-nil h
answer_keeps cppc start (OfWish w) now is h = wish_keeps cppc start w now (wish_refusal start.head now) is h

pub wait_keeps : (cppc : Bool) (start : ChannelStart) (n : ℕ) (now : ChannelState) → Sound cppc start now → Sound cppc start (record now { added = now.added + n })
wait_keeps cppc start n now h = moved cppc start now now.in_flight now.taken (now.added + n) h.flight h
