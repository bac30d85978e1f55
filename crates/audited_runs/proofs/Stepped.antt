-- The journals of a script's run are audited as yes.
use Rattle.std.proofs.Common.{◌≡◌, ℕ, zero, suc, ◌==◌, ◌≤◌, Bool, true, false, cond, leb, List, [], ◌∷◌, ◌++◌, length, map, replicate, refl, sym, ap, ◌∙◌, subst, arith}
use Rattle.std.specs.Prelude.{Option, Some, None, IfSome, slice_get}
use Rattle.std.specs.List.{AllByRecursion, AllZip, flat_map}
use Rattle.std.proofs.lemmas.Bool.{leb-true}
use Rattle.std.proofs.lemmas.List.{length-replicate}
use Rattle.pcc_bytes.specs.Bytes.{IsBytes}
use Rattle.pcc_bytes.proofs.Bytes.{IsBytes-cons, IsBytes-nil}
use Rattle.pcc_history.specs.Devices.{Device}
use Rattle.pcc_history.specs.Histories.{Legal}
use Rattle.rate_limit.specs.RateLimits.{WithinLimits}
use Rattle.pcc_journal.specs.declared.note.Note.{Note}
use Rattle.pcc_journal.specs.declared.record.Record.{Record}
use Rattle.pcc_journal.specs.declared.record.Pending.{Pending}
use Rattle.pcc_journal.specs.Records.{exchanges_of, times_of}
use Rattle.pcc_journal.specs.Events.{noted, noted_pending, records_of}
use Rattle.pcc_journal.proofs.EventsGrow.{noted_records, posts}
use Rattle.journal_reading.specs.Told.{IsHead, IsPending, IsRecord, IsTold}
use Rattle.journal_reading.specs.declared.told.Told.{Told}
use Rattle.cpc_package.specs.declared.binding.Binding.{Binding}
use Rattle.cppc_device.specs.Devices.{Cppc}
use Rattle.cppc_device.specs.Keeps.{room_is}
use Rattle.cppc_device.specs.Openings.{cap_order, new_device, opening, order_fault}
use Rattle.cppc_device.specs.declared.device.DeviceFault.{DeviceFault}
use Rattle.cppc_device.specs.declared.device.DeviceFault.TheVariants.{ImageTooLong}
use Rattle.cppc_device.proofs.Commands.{room_long}
use Rattle.cppc_headline.specs.Journals.{InRangeAll, Untouched}
use Rattle.cppc_headline.specs.PerformanceHeadline.{IsPerformance}
use Rattle.cppc_headline.proofs.Openings.{new_is}
use Rattle.pcc_audit.specs.Good.{IsGoodTold, post_of_pending}
use Rattle.pcc_audit.specs.Verdicts.{Board, HasRoom, IsVerdict}
use Rattle.pcc_audit.specs.declared.verdict.Verdict.TheVariants.{Yes}
use Rattle.pcc_audit.proofs.YesExactly.{yes_exactly}
use Rattle.pcc_script.specs.Limits.{IsAction, IsWithin}
use Rattle.pcc_script.specs.Text.{IsScenario}
use Rattle.pcc_script.proofs.Within.{is_within}
use Rattle.pcc_script.specs.declared.scenario.Line.{Line}
use Rattle.pcc_script.specs.declared.scenario.Line.TheVariants as line
use Rattle.pcc_script.specs.declared.scenario.Scenario.{Scenario}
use Rattle.pcc_setup.specs.Equipment.{CanBegin}
use Rattle.pcc_setup.specs.SetUps.{Opens}
use Rattle.pcc_setup.specs.declared.opening.Opened.{Opened}
use Rattle.channel_turns.specs.ChannelRuns.{Channel, ChannelStart, ChannelState, ScriptClock, fresh, pending_of}
use Rattle.channel_headline.specs.ChannelLog.{ChannelLine, ChannelLog, log_of}
use Rattle.channel_headline.specs.Headline.{pending_post}
use Rattle.channel_headline.specs.Runs.{HeadlineOf}
use Rattle.channel_headline.proofs.Histories.{choose}
use Rattle.channel_headline.proofs.WholeRuns.{kept_length}
use Rattle.script_run.specs.Channels.{bank_start, fresh_channel}
use Rattle.script_run.specs.Headlines.{KeepsHeadline, lines_on}
use Rattle.script_run.specs.Requests.{HasRanges, RangesIf}
use Rattle.script_run.specs.ScriptRuns.{asks_of, channel_journal, clock_of, controller_start, run_of, set_up_of, start_of}
use Rattle.script_run.specs.StepRun.{Ask, Asks, LineAsk, Moves, Nothing, OfRead, OfWish, ShownReply, Turn, ask_of, ask_of_cpu, asked_on, asks_by, step_run, turn_of, waited, wish_of}
use Rattle.script_run.proofs.Ranged.{opened_ranges}
use Rattle.script_run.proofs.Several.{opens_apart}
use Rattle.script_run.proofs.Starting.{set_up_apart, set_up_headlines}
use Rattle.audit_run.specs.Audits.{IsAuditOf, IsJudged, IsRight, yes_text}
use Rattle.audit_run.specs.Journals.{journals_text}
use Rattle.audit_run.specs.Boards.{bank_board, board_of, controller_board}
use Rattle.audited_runs.specs.Audited.{IsAuditedAsYes, told_of, told_on}
use Rattle.audited_runs.proofs.Heads.{IsShown, all_rooms, all_shown}
use Rattle.audited_runs.proofs.Sound.{IsAsk, IsKept, IsSent, Sound, answer_keeps, wait_keeps}

-- ---- what the lines of a script ask

abbrev pub IsLineAsk : LineAsk → Type 0
IsLineAsk (Asks id ask) = IsAsk ask
IsLineAsk (Moves n) = Unit {0}
IsLineAsk Nothing = Unit {0}

cpu_ask : (o : Option Binding) (make : Binding → Ask) → ((b : Binding) → IsAsk (make b)) → IsLineAsk (ask_of_cpu o make)
cpu_ask None make h = tt
cpu_ask (Some b) make h = h b

line_ask : (cpus : List Binding) (l : Line) → IsAction l → IsLineAsk (ask_of cpus l)
line_ask cpus (line.Call worker subspace code bytes polls hold) h = let caller = h.0 in let small = h.2 in (omega (arith, caller), omega (arith, small), h.3)
line_ask cpus (line.Read worker cpu polls hold) h =
    let caller = h.0 in
    cpu_ask (slice_get cpus cpu) (λ b. OfRead (record { caller = worker; binding = b; polls = polls; hold = hold })) (λ b. omega (arith, caller))
line_ask cpus (line.Set worker wish polls hold) h =
    let caller = h.0 in
    cpu_ask (slice_get cpus wish.cpu) (λ b. OfWish (record { caller = worker; binding = b; wish = wish_of wish; polls = polls; hold = hold })) (λ b. omega (arith, caller))
line_ask cpus (line.Wait n) h = tt

pub line_asks : (cpus : List Binding) (ls : List Line) → AllByRecursion IsAction ls → AllByRecursion IsLineAsk (asks_by cpus ls)
line_asks cpus [] h = tt
line_asks cpus (l ∷ ls) h = (line_ask cpus l h.0, line_asks cpus ls h.1)

-- ---- the channels of a run

-- a channel of an opened subspace keeps what it records
pub record Stands (clock : ScriptClock) (o : Opened) (c : Channel) : Type 0 where
  pub start : c.start ≡ start_of clock o
  pub sound : Sound o.head.cppc c.start c.now

asked_keeps : (clock : ScriptClock) (id : ℕ) (ask : Ask) (os : List Opened) (cs : List Channel) → IsAsk ask → AllZip (Stands clock) os cs → AllZip (Stands clock) os (asked_on id ask cs).channels
asked_keeps clock id ask [] [] is h = tt
asked_keeps clock id ask [] (c ∷ cs) is h = absurd h
asked_keeps clock id ask (o ∷ os) [] is h = absurd h
asked_keeps clock id ask (o ∷ os) (c ∷ cs) is h =
    choose (λ (t : Turn). AllZip (Stands clock) (o ∷ os) t.channels) (c.start.head.id == id) _ _
    (record { start = h.0.start; sound = answer_keeps o.head.cppc c.start ask c.now is h.0.sound }, h.1)
    (h.0, asked_keeps clock id ask os cs is h.1)

wait_all : (clock : ScriptClock) (n : ℕ) (os : List Opened) (cs : List Channel) → AllZip (Stands clock) os cs → AllZip (Stands clock) os (map (waited n) cs)
wait_all clock n [] [] h = tt
wait_all clock n [] (c ∷ cs) h = absurd h
wait_all clock n (o ∷ os) [] h = absurd h
wait_all clock n (o ∷ os) (c ∷ cs) h = (record { start = h.0.start; sound = wait_keeps o.head.cppc c.start n c.now h.0.sound }, wait_all clock n os cs h.1)

turn_keeps : (clock : ScriptClock) (l : LineAsk) (os : List Opened) (cs : List Channel) → IsLineAsk l → AllZip (Stands clock) os cs → AllZip (Stands clock) os (turn_of l cs).channels
turn_keeps clock (Asks id ask) os cs is h = asked_keeps clock id ask os cs is h
turn_keeps clock (Moves n) os cs is h = wait_all clock n os cs h
turn_keeps clock Nothing os cs is h = h

pub run_keeps : (clock : ScriptClock) (ls : List LineAsk) (os : List Opened) (cs : List Channel) → AllByRecursion IsLineAsk ls → AllZip (Stands clock) os cs
    → AllZip (Stands clock) os (step_run ls cs).channels
run_keeps clock [] os cs is h = h
run_keeps clock (l ∷ ls) os cs is h = run_keeps clock ls os (turn_of l cs).channels is.1 (turn_keeps clock l os cs is.0 h)

-- ---- before the first line

pub zeros_bytes : (n : ℕ) → IsBytes (replicate n 0)
zeros_bytes zero = IsBytes-nil
zeros_bytes (suc n) = IsBytes-cons 0 (replicate n 0) (omega arith) (zeros_bytes n)

-- an opened subspace on which a channel can begin
pub record IsReady (o : Opened) : Type 0 where
  pub begins : CanBegin o
  pub room : o.head.room ≡ o.wiring.room
  pub shown : IsShown o

bank_sound : (clock : ScriptClock) (o : Opened) → Sound false (bank_start o.head clock) (fresh (bank_start o.head clock))
bank_sound clock o =
    let room : ℕ = o.head.room in
    let long : length (replicate room 0) ≡ room = length-replicate room 0 in
    record {
      device = refl;
      state = record { held = replicate room 0; spelled = refl; bytes = zeros_bytes room };
      room = omega (arith, long);
      space = record { long = long; fits = zeros_bytes room };
      records = tt;
      flight = tt;
    }

short_image : (b : Bool) (o : Option DeviceFault) (fault : DeviceFault) → cond b o (Some fault) ≡ None → b ≡ true
short_image true o fault h = refl
short_image false o fault h = absurd cc

controller_sound : (clock : ScriptClock) (o : Opened) → IsReady o → Sound true (controller_start o clock) (fresh (controller_start o clock))
controller_sound clock o h =
    let device : Cppc = new_device o.wiring.room o.image o.cpus o.caps in
    let is : IsPerformance (controller_start o clock) device =
    new_is (controller_start o clock) o.wiring.room o.image o.cpus o.caps refl refl refl h.begins.processors h.begins.right h.shown.image h.begins.inside in
    let short : length o.image ≤ o.wiring.room =
    leb-true (length o.image) o.wiring.room (short_image (leb (length o.image) o.wiring.room) (order_fault (cap_order o.caps)) (ImageTooLong (length o.image)) h.begins.right) in
    let long : length (opening o.wiring.room o.image) ≡ o.head.room = room_long o.wiring.room o.image (opening o.wiring.room o.image) short refl ∙ sym h.room in
    record {
      device = refl;
      state = record { device = device; spelled = refl; right = is.right };
      room = room_is device ∙ long;
      space = record { long = long; fits = is.right.bytes };
      records = tt;
      flight = tt;
    }

by_device : (clock : ScriptClock) (o : Opened) (b : Bool) → IsReady o → let start = cond b (controller_start o clock) (bank_start o.head clock) in Sound b start (fresh start)
by_device clock o true h = controller_sound clock o h
by_device clock o false h = bank_sound clock o

pub begun_stand : (clock : ScriptClock) (os : List Opened) → AllByRecursion IsReady os → AllZip (Stands clock) os (map (λ o. fresh_channel (start_of clock o)) os)
begun_stand clock [] h = tt
begun_stand clock (o ∷ os) h = (record { start = refl; sound = by_device clock o o.head.cppc h.0 }, begun_stand clock os h.1)

-- ---- a journal is told

told_records : (room : ℕ) (rs : List Record) → AllByRecursion (IsKept room) rs → AllByRecursion IsRecord rs
told_records room [] h = tt
told_records room (r ∷ rs) h = (h.0.told, told_records room rs h.1)

told_pending : (room : ℕ) (o : Option Pending) → IfSome o (IsSent room) → IfSome o IsPending
told_pending room None h = tt
told_pending room (Some p) h = h.told

sizes_kept : (b : Board) (room : ℕ) (rs : List Record) → b.head.room ≡ room → AllByRecursion (IsKept room) rs → AllByRecursion (λ r. HasRoom b r.input × HasRoom b r.output) rs
sizes_kept b room [] e h = tt
sizes_kept b room (r ∷ rs) e h = ((h.0.input ∙ sym e, h.0.output ∙ sym e), sizes_kept b room rs e h.1)

pending_kept : (b : Board) (room : ℕ) (o : Option Pending) → b.head.room ≡ room → IfSome o (IsSent room) → IfSome o (λ p. HasRoom b p.input)
pending_kept b room None e h = tt
pending_kept b room (Some p) e h = h.input ∙ sym e

-- the journal has 4,096 records at most, is legal and keeps the limits
pub record IsKeptBy (start : ChannelStart) (records : List Record) (pending : Option Pending) : Type 0 where
  pub legal : Legal start.device start.head.reports start.state (exchanges_of records)
  pub within : WithinLimits start.head.limits (times_of records) (post_of_pending pending)
  pub few : length records ≤ 4096

post_is : (o : Option Pending) (f : Option Note) → pending_post (noted_pending o f) ≡ post_of_pending o
post_is None f = refl
post_is (Some p) None = refl
post_is (Some p) (Some n) = refl

-- so says its headline
pub kept_by : (start : ChannelStart) (lines : List ChannelLine) (now : ChannelState) → HeadlineOf start lines now → IsKeptBy start now.records (pending_of now.in_flight)
kept_by start lines now h =
    let s : ChannelLog = log_of start.clock lines in
    let same : records_of (noted now.records s.notes) ≡ now.records = noted_records now.records s.notes in
    let L : List Record → Type 0 = λ v. Legal start.device start.head.reports start.state (exchanges_of v) in
    let R : List Record → Type 0 = λ v. WithinLimits start.head.limits (times_of v) (pending_post (noted_pending (pending_of now.in_flight) s.flight)) in
    let O : Option ℕ → Type 0 = WithinLimits start.head.limits (times_of now.records) in
    let all = posts 0 (noted now.records s.notes) (noted_pending (pending_of now.in_flight) s.flight) in
    let long : length (noted now.records s.notes) ≡ length now.records = kept_length now.records s.notes in
    let most = h.most in
    record { legal = subst L same h.legal; within = subst O (post_is (pending_of now.in_flight) s.flight) (subst R same h.within); few = omega (arith, all, long, most) }

-- ---- a journal is good

-- by the board of its device
pub good_told : (b : Board) (start : ChannelStart) (t : Told) → t.head ≡ b.head → b.head ≡ start.head → b.exec ≡ start.device → b.start ≡ start.state
    → AllByRecursion (IsKept start.head.room) t.records → IfSome t.pending (IsSent start.head.room) → IsKeptBy start t.records t.pending
    → (b.head.cppc ≡ true → Untouched b.cpus b.opening t.records t.pending) → (b.head.cppc ≡ true → InRangeAll b.cpus t.records t.pending) → IsGoodTold b t
good_told b start t head same exec state records pending kept untouched ranges =
    let room : b.head.room ≡ start.head.room = λ i. (same i).room in
    record {
      head = head;
      sizes = sizes_kept b start.head.room t.records room records;
      pending_size = pending_kept b start.head.room t.pending room pending;
      legal = subst (λ (st : List ℕ). Legal b.exec b.head.reports st (exchanges_of t.records)) (sym state)
          (subst (λ (r : Bool). Legal b.exec r start.state (exchanges_of t.records)) (λ i. (sym same i).reports)
          (subst (λ (e : Device). Legal e start.head.reports start.state (exchanges_of t.records)) (sym exec) kept.legal));
      limits = subst (λ (l : _). WithinLimits l (times_of t.records) (post_of_pending t.pending)) (λ i. (sym same i).limits) kept.within;
      untouched = untouched;
      ranges = ranges;
    }

-- a good journal is audited
pub audited_by : (o : Opened) (records : List Record) (pending : Option Pending) (room : ℕ) → IsHead o.head → length records ≤ 4096 → AllByRecursion (IsKept room) records → IfSome pending (IsSent room)
    → IsGoodTold (board_of o) (told_on o records pending) → IsAuditedAsYes o records pending
audited_by o records pending room head few kept sent good =
    let right : IsTold (told_on o records pending) =
    record { head = head; records = told_records room records kept; few = few; pending = told_pending room pending sent } in
    record {
      told = right;
      read = λ rest. record { right = right; rest = rest; is = refl; length_is = refl };
      yes = (yes_exactly (board_of o) (told_on o records pending)).1 good;
    }

module _ (clock : ScriptClock) (o : Opened) (c : Channel) where
  abbrev told : Told
  told = told_on o c.now.records (pending_of c.now.in_flight)

  abbrev start_by : Bool → ChannelStart
  start_by b = cond b (controller_start o clock) (bank_start o.head clock)

  abbrev board_by : Bool → Board
  board_by b = cond b (controller_board o) (bank_board o)

  good_by : (b : Bool) → o.head.cppc ≡ b → c.start ≡ start_by b → AllByRecursion (IsKept c.start.head.room) c.now.records → IfSome (pending_of c.now.in_flight) (IsSent c.start.head.room)
      → IsKeptBy c.start c.now.records (pending_of c.now.in_flight) → RangesIf b o.cpus c → IsGoodTold (board_by b) told
  good_by true is start records pending kept ranges =
      good_told (controller_board o) c.start told refl (λ i. (sym start i).head) (λ i. (sym start i).device) (λ i. (sym start i).state) records pending kept
      (λ _. subst (λ (space : List ℕ). Untouched o.cpus space c.now.records (pending_of c.now.in_flight)) (λ i. (start i).opening) ranges.untouched)
      (λ _. ranges.in_range)
  good_by false is start records pending kept ranges =
      good_told (bank_board o) c.start told refl (λ i. (sym start i).head) (λ i. (sym start i).device) (λ i. (sym start i).state) records pending kept
      (λ e. absurd (no_controller is e)) (λ e. absurd (no_controller is e))
    where
      no_controller : o.head.cppc ≡ false → o.head.cppc ≡ true → ⊥
      no_controller h e = let q : false ≡ true = sym h ∙ e in absurd cc

  -- the journal of a channel is audited as yes
  pub one : (lines : List ChannelLine) → IsShown o → Stands clock o c → HasRanges o c → HeadlineOf c.start lines c.now → IsAuditedAsYes o c.now.records (pending_of c.now.in_flight)
  one lines shown stands ranges headline =
      let kept : IsKeptBy c.start c.now.records (pending_of c.now.in_flight) = kept_by c.start lines c.now headline in
      let room : ℕ = c.start.head.room in
      let good : IsGoodTold (board_of o) told = good_by o.head.cppc refl stands.start stands.sound.records stands.sound.flight kept ranges in
      audited_by o c.now.records (pending_of c.now.in_flight) room shown.head kept.few stands.sound.records stands.sound.flight good

-- so is each journal of a run
all_audited : (clock : ScriptClock) (lines : List LineAsk) (replies : List (Option ShownReply)) (os : List Opened) (cs : List Channel) → AllByRecursion IsShown os → AllZip (Stands clock) os cs
    → AllZip HasRanges os cs → AllByRecursion (KeepsHeadline lines replies) cs → AllZip (λ o c. IsAuditedAsYes o c.now.records (pending_of c.now.in_flight)) os cs
all_audited clock lines replies [] [] shown stands ranges headlines = tt
all_audited clock lines replies [] (c ∷ cs) shown stands ranges headlines = absurd stands
all_audited clock lines replies (o ∷ os) [] shown stands ranges headlines = absurd stands
all_audited clock lines replies (o ∷ os) (c ∷ cs) shown stands ranges headlines =
    (one clock o c (lines_on c.start.head.id lines replies) shown.0 stands.0 ranges.0 headlines.0, all_audited clock lines replies os cs shown.1 stands.1 ranges.1 headlines.1)

start_head : (clock : ScriptClock) (o : Opened) → (start_of clock o).head ≡ o.head
start_head clock o = by o.head.cppc
  where
    by : (b : Bool) → (cond b (controller_start o clock) (bank_start o.head clock)).head ≡ o.head
    by true = refl
    by false = refl

all_heads : (clock : ScriptClock) (os : List Opened) (cs : List Channel) → AllZip (Stands clock) os cs → AllZip (λ o c. c.start.head ≡ o.head) os cs
all_heads clock [] [] h = tt
all_heads clock [] (c ∷ cs) h = absurd h
all_heads clock (o ∷ os) [] h = absurd h
all_heads clock (o ∷ os) (c ∷ cs) h = ((λ i. (h.0.start i).head) ∙ start_head clock o, all_heads clock os cs h.1)

all_ready : (os : List Opened) → AllByRecursion CanBegin os → AllByRecursion (λ o. o.head.room ≡ o.wiring.room) os → AllByRecursion IsShown os → AllByRecursion IsReady os
all_ready [] begins rooms shown = tt
all_ready (o ∷ os) begins rooms shown = (record { begins = begins.0; room = rooms.0; shown = shown.0 }, all_ready os begins.1 rooms.1 shown.1)

-- ---- a script

-- what a law of set-ups gives
abbrev pub CanBeginAll : Type 0
CanBeginAll = (s : Scenario) (opened : List Opened) → Opens s opened → AllByRecursion CanBegin opened

images : (os : List Opened) → AllByRecursion IsShown os → AllByRecursion (λ o. IsBytes o.image) os
images [] h = tt
images (o ∷ os) h = (h.0.image, images os h.1)

run_stands : CanBeginAll → (s : Scenario) (opened : List Opened) → IsScenario s → (h : Opens s opened) → AllZip (Stands (clock_of s)) opened (run_of s opened h.checked.cpus).channels
run_stands can s opened is h =
    let within : IsWithin s = is_within s is in
    let ready : AllByRecursion IsReady opened = all_ready opened (can s opened h) (all_rooms s opened h) (all_shown s opened within h) in
    run_keeps (clock_of s) (asks_of s h.checked.cpus) opened (set_up_of s opened) (line_asks h.checked.cpus s.actions within.actions) (begun_stand (clock_of s) opened ready)

pub step_heads : CanBeginAll → (s : Scenario) (opened : List Opened) → IsScenario s → (h : Opens s opened)
    → AllZip (λ o c. c.start.head ≡ o.head) opened (run_of s opened h.checked.cpus).channels
step_heads can s opened is h = all_heads (clock_of s) opened (run_of s opened h.checked.cpus).channels (run_stands can s opened is h)

pub step_audited : CanBeginAll → (s : Scenario) (opened : List Opened) → IsScenario s → (h : Opens s opened)
    → AllZip (λ o c. IsAuditedAsYes o c.now.records (pending_of c.now.in_flight)) opened (run_of s opened h.checked.cpus).channels
step_audited can s opened is h =
    let cpus : List Binding = h.checked.cpus in
    let shown : AllByRecursion IsShown opened = all_shown s opened (is_within s is) h in
    let lines : List LineAsk = asks_of s cpus in
    let ranges : AllZip HasRanges opened (run_of s opened cpus).channels =
    opened_ranges s opened h (opens_apart h.table s.opens h.checked.all_open) (set_up_apart s opened h) (can s opened h) (images opened shown) in
    all_audited (clock_of s) lines (run_of s opened cpus).replies opened (run_of s opened cpus).channels shown (run_stands can s opened is h) ranges (set_up_headlines s opened cpus h)

-- ---- all journals

-- right journals are audited, and the line of a right one is written of each
pub audit_of : (os : List Opened) (ts : List Told) → AllZip (λ o t. IsTold t × IsVerdict (board_of o) t Yes) os ts → IsAuditOf os (journals_text ts) false (yes_text os ts)
audit_of os ts h = record {
  journals = ts;
  are = record { right = right os ts h; count_is = count os ts h; is = refl };
  judged = IsJudged.AllRight (yes os ts h);
}
  where
    right : (os : List Opened) (ts : List Told) → AllZip (λ o t. IsTold t × IsVerdict (board_of o) t Yes) os ts → AllByRecursion IsTold ts
    right [] [] h = tt
    right [] (t ∷ ts) h = absurd h
    right (o ∷ os) [] h = absurd h
    right (o ∷ os) (t ∷ ts) h = (h.0.0, right os ts h.1)

    count : (os : List Opened) (ts : List Told) → AllZip (λ o t. IsTold t × IsVerdict (board_of o) t Yes) os ts → length ts ≡ length os
    count [] [] h = refl
    count [] (t ∷ ts) h = absurd h
    count (o ∷ os) [] h = absurd h
    count (o ∷ os) (t ∷ ts) h = ap suc (count os ts h.1)

    yes : (os : List Opened) (ts : List Told) → AllZip (λ o t. IsTold t × IsVerdict (board_of o) t Yes) os ts → AllZip IsRight os ts
    yes [] [] h = tt
    yes [] (t ∷ ts) h = absurd h
    yes (o ∷ os) [] h = absurd h
    yes (o ∷ os) (t ∷ ts) h = (h.0.1, yes os ts h.1)

-- the journal of a channel is that of its subspace
pub told_is : (o : Opened) (c : Channel) → c.start.head ≡ o.head → told_on o c.now.records (pending_of c.now.in_flight) ≡ told_of c
told_is o c same = λ i. record { head = sym same i; records = c.now.records; pending = pending_of c.now.in_flight }

all_right : (os : List Opened) (cs : List Channel) → AllZip (λ o c. c.start.head ≡ o.head) os cs → AllZip (λ o c. IsAuditedAsYes o c.now.records (pending_of c.now.in_flight)) os cs
    → AllZip (λ o t. IsTold t × IsVerdict (board_of o) t Yes) os (map told_of cs)
all_right [] [] heads h = tt
all_right [] (c ∷ cs) heads h = absurd h
all_right (o ∷ os) [] heads h = absurd h
all_right (o ∷ os) (c ∷ cs) heads h =
    let told : told_on o c.now.records (pending_of c.now.in_flight) ≡ told_of c = told_is o c heads.0 in
    ((subst IsTold told h.0.told, subst (λ (t : Told). IsVerdict (board_of o) t Yes) told h.0.yes), all_right os cs heads.1 h.1)

pub texts : (cs : List Channel) → flat_map channel_journal cs ≡ journals_text (map told_of cs)
texts [] = refl
texts (c ∷ cs) = ap (λ (v : List ℕ). channel_journal c ++ v) (texts cs)

pub step_audit : CanBeginAll → (s : Scenario) (opened : List Opened) → IsScenario s → (h : Opens s opened)
    → IsAuditOf opened (flat_map channel_journal (run_of s opened h.checked.cpus).channels) false (yes_text opened (map told_of (run_of s opened h.checked.cpus).channels))
step_audit can s opened is h =
    let cs : List Channel = (run_of s opened h.checked.cpus).channels in
    subst (λ (v : List ℕ). IsAuditOf opened v false (yes_text opened (map told_of cs))) (sym (texts cs))
    (audit_of opened (map told_of cs) (all_right opened cs (step_heads can s opened is h) (step_audited can s opened is h)))
