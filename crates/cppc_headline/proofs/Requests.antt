-- A channel of a controller of performance keeps its ranges, whatever is read, set and waited.
use Rattle.std.proofs.Common.{◌≡◌, ℕ, ◌+◌, Bool, true, false, List, [], ◌∷◌, ◌++◌, length, Option, Some, None, refl, sym, ap, ◌∙◌, subst, arith}
use Rattle.std.specs.Prelude.{◌-◌, Contains, IfSome, nat_lt}
use Rattle.std.specs.List.{AllByRecursion}
use Rattle.std.proofs.lemmas.List.{append-nil, drop_all, map-append}
use Rattle.pcc_gas.specs.Changes.{with_changes}
use Rattle.pcc_gas.specs.declared.change.Change.{Change}
use Rattle.pcc_history.specs.Devices.{Device, Executed}
use Rattle.pcc_history.specs.Channel.{Exchange, both, over}
use Rattle.pcc_history.specs.Histories.{space_after}
use Rattle.pcc_journal.specs.declared.record.Record.{Record}
use Rattle.pcc_journal.specs.declared.record.Pending.{Pending}
use Rattle.pcc_journal.specs.Records.{exchange_of_record, exchanges_of}
use Rattle.rate_limit.specs.RateLimits.{earliest_of}
use Rattle.pcc_journal.specs.Records.{times_of}
use Rattle.cpc_package.specs.Bindings.{AreProcessors}
use Rattle.cpc_package.specs.declared.binding.Binding.{Binding}
use Rattle.cppc_device.specs.Devices.{Cppc, IsDevice, after_changes, sampled, written}
use Rattle.cppc_device.specs.States.{cppc_exec, cppc_state, executed, good_of}
use Rattle.cppc_device.specs.Keeps.{exec_is, right_after}
use Rattle.cppc_calls.specs.Wishes.{wish_fault, with_wish}
use Rattle.cppc_calls.specs.declared.wish.Wish.{Wish}
use Rattle.cppc_calls.specs.declared.wish.SetRefusal.{SetRefusal}
use Rattle.channel_core.specs.Sendings.{recorded}
use Rattle.channel_turns.specs.Replies.{Reply}
use Rattle.channel_turns.specs.ChannelRuns.{Answered, Call, ChannelStart, ChannelState, InFlight, Polled, after_polls, answer_call, answer_unless, completed, exchange_with, fresh, next_reading, pending_of, polled, polled_for, post_call, refusal_of}
use Rattle.channel_headline.specs.Runs.{Calls, ChannelRun, ChannelStep, Sets, Waits, run_from}
use Rattle.channel_headline.specs.WishCalls.{LineAnswer, WishCall, answer_wish, post_wish, whole_call, wish_after, wish_refusal, wish_unless}
use Rattle.channel_headline.proofs.Histories.{choose, decide, space_after-more}
use Rattle.channel_headline.proofs.WholeRuns.{headline_of_runs}
use Rattle.cppc_headline.specs.Journals.{AreInRange, DifferInWish, IsUntouched, Untouched}
use Rattle.cppc_headline.specs.PerformanceHeadline.{IsPerformance, IsRequest, KeepsRanges, PerformanceHeadline}
use Rattle.cppc_headline.proofs.Commands.{in_range_put, in_range_read, wish-length, wish_differs, written_is}

-- ---- a command that is posted

-- a command of these processors on a space: a read, or a wish that can be put
data IsSound (cpus : List Binding) (space : List ℕ) (code : ℕ) (input : List ℕ) : Type 0 where
  Reads : code ≡ 0 → input ≡ space → IsSound cpus space code input
  Puts : code ≡ 1 → (b : Binding) (wish : Wish) → Contains cpus b → wish_fault b space wish ≡ None → input ≡ with_wish b wish space → IsSound cpus space code input

zero_one : (n : ℕ) → n ≡ 0 → n ≡ 1 → ⊥
zero_one n a b = omega arith

sound_in_range : (cpus : List Binding) (space : List ℕ) (code : ℕ) (input : List ℕ) → AreProcessors (length space) cpus → AreInRange cpus space
    → IsSound cpus space code input → code ≡ 1 → AreInRange cpus input
sound_in_range cpus space code input processors h (Reads is_code is) one = absurd (zero_one code is_code one)
sound_in_range cpus space code input processors h (Puts is_code b wish in_cpus fault is) one =
    subst (AreInRange cpus) (sym is) (in_range_put cpus b wish space processors in_cpus fault h)

sound_untouched : (cpus : List Binding) (space : List ℕ) (code : ℕ) (input : List ℕ) → IsSound cpus space code input → IsUntouched cpus space code input
sound_untouched cpus space code input (Reads is_code is) = record { reads = λ _. is; writes = λ one. absurd (zero_one code is_code one) }
sound_untouched cpus space code input (Puts is_code b wish in_cpus fault is) = record {
  reads = λ none. absurd (zero_one code none is_code);
  writes = λ _. subst (DifferInWish cpus space) (sym is) (wish_differs cpus b wish space in_cpus);
}

-- ---- a command that is executed

-- it leaves this controller, with its registers shown and every processor in its range
record Leaves (cpus : List Binding) (x : Executed) : Type 0 where
  after : Cppc
  same : after.cpus ≡ cpus
  right : IsDevice after
  state : x.state ≡ cppc_state after
  space : x.space ≡ after.registers
  ranges : AreInRange cpus after.registers
  good : x.bad ≡ false

after_good : (d : Cppc) (cpus : List Binding) (changes : List Change) (x : Executed) → d.cpus ≡ cpus → IsDevice d → x ≡ good_of d changes
    → AreInRange cpus (with_changes changes d.registers) → Leaves cpus x
after_good d cpus changes x same right is ranges = record {
  after = after_changes d changes;
  same = same;
  right = right_after d changes right;
  state = ap (λ (e : Executed). e.state) is;
  space = ap (λ (e : Executed). e.space) is;
  ranges = ranges;
  good = ap (λ (e : Executed). e.bad) is;
}

executes : (d : Cppc) (cpus : List Binding) (code : ℕ) (input : List ℕ) (x : Executed) → d.cpus ≡ cpus → IsDevice d → AreInRange cpus d.registers
    → IsSound cpus d.registers code input → x ≡ cppc_exec (cppc_state d) code input → Leaves cpus x
executes d cpus code input x same right h (Reads is_code is) e =
    let here : AreInRange d.cpus d.registers = subst (λ (v : List Binding). AreInRange v d.registers) (sym same) h in
    let all : AreInRange d.cpus (with_changes (sampled d) d.registers) = in_range_read d right here in
    after_good d cpus (sampled d) x same right
    (e ∙ exec_is d code input ∙ ap (λ (c : ℕ). executed d (cppc_state d) c input) is_code)
    (subst (λ (v : List Binding). AreInRange v (with_changes (sampled d) d.registers)) same all)
executes d cpus code input x same right h (Puts is_code b wish in_cpus fault is) e =
    let space : List ℕ = with_wish b wish d.registers in
    let place : Contains d.cpus b = subst (λ (v : List Binding). Contains v b) (sym same) in_cpus in
    let processors : AreProcessors (length d.registers) cpus = subst (AreProcessors (length d.registers)) same right.cpus in
    let put : AreInRange cpus space = in_range_put cpus b wish d.registers processors in_cpus fault h in
    let all : with_changes (written d space) d.registers ≡ space = written_is d b wish place in
    after_good d cpus (written d space) x same right
    (e ∙ exec_is d code input ∙ ap (λ (c : ℕ). executed d (cppc_state d) c input) is_code ∙ ap (λ (v : List ℕ). good_of d (written d v)) is)
    (subst (AreInRange cpus) (sym all) put)

-- ---- the records

records_more : (P : Record → Type 0) (records : List Record) (r : Record) → AllByRecursion P records → P r → AllByRecursion P (records ++ r ∷ [])
records_more P [] r h k = (k, tt)
records_more P (x ∷ records) r h k = (h.0, records_more P records r h.1 k)

untouched_more : (cpus : List Binding) (before : List ℕ) (records : List Record) (r : Record) → Untouched cpus before records None
    → IsUntouched cpus (space_after before (exchanges_of records)) r.code r.input → Untouched cpus before (records ++ r ∷ []) None
untouched_more cpus before [] r h k = (k, tt)
untouched_more cpus before (x ∷ records) r h k = (h.0, untouched_more cpus x.output records r h.1 k)

untouched_pending : (cpus : List Binding) (before : List ℕ) (records : List Record) (pending : Option Pending) → Untouched cpus before records None
    → IfSome pending (λ p. IsUntouched cpus (space_after before (exchanges_of records)) p.code p.input) → Untouched cpus before records pending
untouched_pending cpus before [] pending h k = k
untouched_pending cpus before (x ∷ records) pending h k = (h.0, untouched_pending cpus x.output records pending h.1 k)

-- ---- the channel

-- the space is the registers of a controller of these processors, and the records are good
record Keeping (start : ChannelStart) (cpus : List Binding) (now : ChannelState) : Type 0 where
  device : Cppc
  same : device.cpus ≡ cpus
  right : IsDevice device
  state : now.object.state ≡ cppc_state device
  space : now.object.space ≡ device.registers
  ranges : AreInRange cpus device.registers
  in_range : AllByRecursion (λ r. r.code ≡ 1 → AreInRange cpus r.input) now.records
  untouched : Untouched cpus start.opening now.records None
  good : AllByRecursion (λ r. r.error ≡ false) now.records
  last : space_after start.opening (exchanges_of now.records) ≡ now.object.space

-- so is the command in flight
abbrev IsSoundFlight : List Binding → List ℕ → Option InFlight → Type 0
IsSoundFlight cpus space None = Unit {0}
IsSoundFlight cpus space (Some p) = IsSound cpus space p.command.code p.command.input

record Kept (start : ChannelStart) (cpus : List Binding) (now : ChannelState) : Type 0 where
  keeping : Keeping start cpus now
  flight : IsSoundFlight cpus now.object.space now.in_flight

-- a channel with the same records on the same space
moved : (start : ChannelStart) (cpus : List Binding) (now : ChannelState) (o : Option InFlight) (taken added : ℕ) → Keeping start cpus now
    → Keeping start cpus (record now { in_flight = o; taken = taken; added = added })
moved start cpus now o taken added k = record {
  device = k.device;
  same = k.same;
  right = k.right;
  state = k.state;
  space = k.space;
  ranges = k.ranges;
  in_range = k.in_range;
  untouched = k.untouched;
  good = k.good;
  last = k.last;
}

exchanges_more : (records : List Record) (r : Record) → exchanges_of (records ++ r ∷ []) ≡ exchanges_of records ++ exchange_of_record r ∷ []
exchanges_more records r = map-append exchange_of_record records (r ∷ [])

shown_processors : (start : ChannelStart) (cpus : List Binding) (now : ChannelState) → Keeping start cpus now → AreProcessors (length now.object.space) cpus
shown_processors start cpus now k =
    subst (λ (v : List ℕ). AreProcessors (length v) cpus) (sym k.space) (subst (AreProcessors (length k.device.registers)) k.same k.right.cpus)

shown_ranges : (start : ChannelStart) (cpus : List Binding) (now : ChannelState) → Keeping start cpus now → AreInRange cpus now.object.space
shown_ranges start cpus now k = subst (AreInRange cpus) (sym k.space) k.ranges

no_error : (reports bad : Bool) → bad ≡ false → both reports bad ≡ false
no_error true bad h = h
no_error false bad h = refl

completes : (start : ChannelStart) (cpus : List Binding) (command : Pending) (late : Bool) (now : ChannelState) → start.device ≡ cppc_exec → Keeping start cpus now
    → IsSound cpus now.object.space command.code command.input → Keeping start cpus (completed start command late now)
completes start cpus command late now exec k sound =
    let d : Cppc = k.device in
    let x : Executed = start.device now.object.state command.code command.input in
    let e : Exchange = exchange_with start command now in
    let r : Record = recorded command e.error e.output (next_reading start now) late in
    let is : x ≡ cppc_exec (cppc_state d) command.code command.input =
    ap (λ (v : Device). v now.object.state command.code command.input) exec ∙ ap (λ (v : List ℕ). cppc_exec v command.code command.input) k.state in
    let left : Leaves cpus x =
    executes d cpus command.code command.input x k.same k.right k.ranges (subst (λ (v : List ℕ). IsSound cpus v command.code command.input) k.space sound) is in
    record {
      device = left.after;
      same = left.same;
      right = left.right;
      state = left.state;
      space = left.space;
      ranges = left.ranges;
      in_range = records_more (λ v. v.code ≡ 1 → AreInRange cpus v.input) now.records r k.in_range (sound_in_range cpus now.object.space command.code command.input (shown_processors start cpus now k) (shown_ranges start cpus now k) sound);
      untouched = untouched_more cpus start.opening now.records r k.untouched
          (subst (λ (v : List ℕ). IsUntouched cpus v command.code command.input) (sym k.last) (sound_untouched cpus now.object.space command.code command.input sound));
      good = records_more (λ v. v.error ≡ false) now.records r k.good (no_error start.head.reports x.bad left.good);
      last = ap (space_after start.opening) (exchanges_more now.records r) ∙ space_after-more start.opening (exchanges_of now.records) (exchange_of_record r);
    }

-- ---- calls

posts : (start : ChannelStart) (cpus : List Binding) (call : Call) (now : ChannelState) → start.device ≡ cppc_exec → now.in_flight ≡ None → Keeping start cpus now
    → IsSound cpus now.object.space call.code (over now.object.space call.bytes) → Kept start cpus (post_call start call now).now
posts start cpus call now exec none k sound =
    let Good : Answered → Type 0 = λ a. Kept start cpus a.now in
    let reading : ℕ = next_reading start now in
    let earliest : ℕ = earliest_of start.head.limits (times_of now.records) in
    let later : ChannelState = record now { taken = now.taken + 1 } in
    let command : Pending = record { caller = call.caller; code = call.code; input = over now.object.space call.bytes; post = reading } in
    let still : Keeping start cpus later = moved start cpus now now.in_flight (now.taken + 1) now.added k in
    let flight : InFlight = record { command = command; left = call.hold - call.polls } in
    choose Good (nat_lt reading earliest) _ _
    (record { keeping = still; flight = subst (IsSoundFlight cpus now.object.space) (sym none) tt })
    (choose Good (nat_lt call.hold call.polls) _ _
    (record { keeping = completes start cpus command false later exec still sound; flight = tt })
    (record { keeping = moved start cpus now (Some flight) (now.taken + 1) now.added k; flight = sound }))

polls_keep : (start : ChannelStart) (cpus : List Binding) (polls : ℕ) (now : ChannelState) (o : Option InFlight) → start.device ≡ cppc_exec → now.in_flight ≡ o → Kept start cpus now
    → let p = polled_for start polls now o in Kept start cpus p.now × (p.free ≡ true → p.now.in_flight ≡ None)
polls_keep start cpus polls now None exec e k = (k, λ _. e)
polls_keep start cpus polls now (Some p) exec e k =
    let sound : IsSound cpus now.object.space p.command.code p.command.input = subst (IsSoundFlight cpus now.object.space) e k.flight in
    let Good : Polled → Type 0 = λ r. Kept start cpus r.now × (r.free ≡ true → r.now.in_flight ≡ None) in
    let q : InFlight = record p { left = p.left - polls } in
    choose Good (nat_lt p.left polls) (record { free = true; now = completed start p.command true now }) (record { free = false; now = record now { in_flight = Some q } })
    (record { keeping = completes start cpus p.command true now exec k.keeping sound; flight = tt }, λ _. refl)
    (record { keeping = moved start cpus now (Some q) now.taken now.added k.keeping; flight = sound }, λ no. absurd cc)

-- a read asks no bytes
read_sound : (cpus : List Binding) (space : List ℕ) (call : Call) → call.code ≡ 0 → call.bytes ≡ [] → IsSound cpus space call.code (over space call.bytes)
read_sound cpus space call code bytes = Reads code (ap (over space) bytes)

after_polls_keep : (start : ChannelStart) (cpus : List Binding) (call : Call) (p : Polled) → start.device ≡ cppc_exec → call.code ≡ 0 → call.bytes ≡ [] → Kept start cpus p.now
    → (p.free ≡ true → p.now.in_flight ≡ None) → Kept start cpus (after_polls start call p).now
after_polls_keep start cpus call p exec code bytes k none =
    decide (λ (a : Answered). Kept start cpus a.now) p.free _ _
    (λ free. posts start cpus call p.now exec (none free) k.keeping (read_sound cpus p.now.object.space call code bytes))
    (λ _. k)

unless_keeps : (start : ChannelStart) (cpus : List Binding) (call : Call) (now : ChannelState) (o : Option Reply) → start.device ≡ cppc_exec → call.code ≡ 0 → call.bytes ≡ []
    → Kept start cpus now → Kept start cpus (answer_unless start call now o).now
unless_keeps start cpus call now (Some r) exec code bytes k = k
unless_keeps start cpus call now None exec code bytes k =
    let p = polls_keep start cpus call.polls now now.in_flight exec refl k in after_polls_keep start cpus call (polled start call.polls now) exec code bytes p.0 p.1

-- a wish asks the whole space with the wish put
whole_over : (space bytes : List ℕ) → length bytes ≡ length space → over space bytes ≡ bytes
whole_over space bytes e = ap (λ (v : List ℕ). bytes ++ v) (drop_all (length bytes) space (omega (arith, e))) ∙ append-nil bytes

put_keeps : (start : ChannelStart) (cpus : List Binding) (w : WishCall) (now : ChannelState) (o : Option SetRefusal) → start.device ≡ cppc_exec → Contains cpus w.binding
    → wish_fault w.binding now.object.space w.wish ≡ o → now.in_flight ≡ None → Kept start cpus now → Kept start cpus (post_wish start w now o).now
put_keeps start cpus w now (Some why) exec one fault none k = k
put_keeps start cpus w now None exec one fault none k =
    posts start cpus (whole_call w now.object.space) now exec none k.keeping
    (Puts refl w.binding w.wish one fault (whole_over now.object.space (with_wish w.binding w.wish now.object.space) (wish-length w.binding w.wish now.object.space)))

wish_after_keeps : (start : ChannelStart) (cpus : List Binding) (w : WishCall) (p : Polled) → start.device ≡ cppc_exec → Contains cpus w.binding → Kept start cpus p.now
    → (p.free ≡ true → p.now.in_flight ≡ None) → Kept start cpus (wish_after start w p).now
wish_after_keeps start cpus w p exec one k none =
    decide (λ (a : LineAnswer). Kept start cpus a.now) p.free _ _
    (λ free. put_keeps start cpus w p.now (wish_fault w.binding p.now.object.space w.wish) exec one refl (none free) k)
    (λ _. k)

wish_unless_keeps : (start : ChannelStart) (cpus : List Binding) (w : WishCall) (now : ChannelState) (o : Option Reply) → start.device ≡ cppc_exec → Contains cpus w.binding
    → Kept start cpus now → Kept start cpus (wish_unless start w now o).now
wish_unless_keeps start cpus w now (Some r) exec one k = k
wish_unless_keeps start cpus w now None exec one k =
    let p = polls_keep start cpus w.polls now now.in_flight exec refl k in wish_after_keeps start cpus w (polled start w.polls now) exec one p.0 p.1

-- ---- over all steps

run_keeps : (start : ChannelStart) (cpus : List Binding) (steps : List ChannelStep) (now : ChannelState) → start.device ≡ cppc_exec → AllByRecursion (IsRequest cpus) steps
    → Kept start cpus now → Kept start cpus (run_from start now steps).now
run_keeps start cpus [] now exec own k = k
run_keeps start cpus (Waits n ∷ steps) now exec own k =
    run_keeps start cpus steps (record now { added = now.added + n }) exec own.1
    (record { keeping = moved start cpus now now.in_flight now.taken (now.added + n) k.keeping; flight = k.flight })
run_keeps start cpus (Calls c ∷ steps) now exec own k =
    let request : (c.code ≡ 0) × (c.bytes ≡ []) = own.0 in
    run_keeps start cpus steps (answer_call start c now).now exec own.1 (unless_keeps start cpus c now (refusal_of start.head c now) exec request.0 request.1 k)
run_keeps start cpus (Sets w ∷ steps) now exec own k =
    run_keeps start cpus steps (answer_wish start w now).now exec own.1 (wish_unless_keeps start cpus w now (wish_refusal start.head now) exec own.0 k)

begins : (start : ChannelStart) (device : Cppc) → IsPerformance start device → Kept start device.cpus (fresh start)
begins start device is = record {
  keeping = record {
    device = device;
    same = refl;
    right = is.right;
    state = is.state;
    space = is.opening;
    ranges = subst (AreInRange device.cpus) is.opening is.in_range;
    in_range = tt;
    untouched = tt;
    good = tt;
    last = refl;
  };
  flight = tt;
}

pending_in_range : (cpus : List Binding) (space : List ℕ) (o : Option InFlight) → AreProcessors (length space) cpus → AreInRange cpus space → IsSoundFlight cpus space o
    → IfSome (pending_of o) (λ p. p.code ≡ 1 → AreInRange cpus p.input)
pending_in_range cpus space None processors h f = tt
pending_in_range cpus space (Some p) processors h f = sound_in_range cpus space p.command.code p.command.input processors h f

pending_untouched : (cpus : List Binding) (space : List ℕ) (o : Option InFlight) → IsSoundFlight cpus space o → IfSome (pending_of o) (λ p. IsUntouched cpus space p.code p.input)
pending_untouched cpus space None f = tt
pending_untouched cpus space (Some p) f = sound_untouched cpus space p.command.code p.command.input f

pub ranges_of_runs : (start : ChannelStart) (device : Cppc) (steps : List ChannelStep) → IsPerformance start device → AllByRecursion (IsRequest device.cpus) steps
    → KeepsRanges device.cpus start.opening (run_from start (fresh start) steps).now
ranges_of_runs start device steps is own =
    let r : ChannelRun = run_from start (fresh start) steps in
    let k : Kept start device.cpus r.now = run_keeps start device.cpus steps (fresh start) is.exec own (begins start device is) in
    let cpus : List Binding = device.cpus in
    let here = pending_untouched cpus r.now.object.space r.now.in_flight k.flight in
    record {
      in_range = (k.keeping.in_range, pending_in_range cpus r.now.object.space r.now.in_flight (shown_processors start cpus r.now k.keeping) (shown_ranges start cpus r.now k.keeping) k.flight);
      untouched = untouched_pending cpus start.opening r.now.records (pending_of r.now.in_flight) k.keeping.untouched
          (subst (λ (v : List ℕ). IfSome (pending_of r.now.in_flight) (λ p. IsUntouched cpus v p.code p.input)) (sym k.keeping.last) here);
      good = k.keeping.good;
    }

pub performance_of_runs : (start : ChannelStart) (device : Cppc) (steps : List ChannelStep) → IsPerformance start device → AllByRecursion (IsRequest device.cpus) steps
    → let r = run_from start (fresh start) steps in PerformanceHeadline start device.cpus r.lines r.now
performance_of_runs start device steps is own = record { kept = headline_of_runs start steps; ranges = ranges_of_runs start device steps is own }
