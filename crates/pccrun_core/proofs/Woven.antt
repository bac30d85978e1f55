-- The readings and the journal of a woven trace.
use Rattle.std.proofs.Common.{◌≡◌, ℕ, zero, suc, ◌+◌, ◌-◌, ◌^◌, ◌<◌, ◌≤◌, min, ltb, Bool, true, false, List, [], ◌∷◌, ◌++◌, length, get_or, refl, sym, ap, ◌∙◌, subst, arith}
use Rattle.std.specs.Prelude.{IfSome, Option, Some, None, slice_get, slice_index, map}
use Rattle.std.specs.List.{AllByRecursion}
use Rattle.std.proofs.lemmas.Bool.{le-ltb, ltb-false, ltb-true}
use Rattle.std.proofs.lemmas.List.{get_or_append_left, length-append, length-map}
use Rattle.std.proofs.Math.Seq.{get_or-append_seam}
use Rattle.pcc_causes.specs.Clock.{line_reading}
use Rattle.pcc_history.specs.Devices.{Device, bank_exec}
use Rattle.pcc_history.specs.Histories.{Legal}
use Rattle.pcc_io.specs.LineClocks.{LineState, line_tells}
use Rattle.pcc_script.specs.declared.scenario.Letter.{Letter}
use Rattle.pcc_script.specs.declared.scenario.Line.{Line}
use Rattle.pcc_script.specs.declared.scenario.Line.TheVariants as line
use Rattle.pcc_script.specs.declared.scenario.Scenario.{Scenario}
use Rattle.pcc_script.specs.Limits.{IsAction}
use Rattle.rate_limit.specs.declared.Limits.{Limits}
use Rattle.rate_limit.specs.declared.Times.{Times}
use Rattle.rate_limit.specs.RateLimits.{WithinLimits, posts_of}
use Rattle.pcc_journal.specs.JournalText.{journal_text}
use Rattle.pcc_journal.specs.Records.{exchanges_of, exchanges_of_commands, times_of}
use Rattle.pcct_table.specs.declared.subspace.Subspace.{Subspace}
use Rattle.pcct_table.specs.declared.table.Table.{Table}
use Rattle.pcc_steps.specs.declared.wiring.Wiring.{Wiring}
use Rattle.channel_core.specs.declared.sent.Sent.{Sent}
use Rattle.channel_plain.specs.declared.trace.Asked.{Asked}
use Rattle.channel_plain.specs.declared.trace.Side.{Side}
use Rattle.channel_plain.specs.declared.trace.TraceLine.{TraceLine}
use Rattle.channel_plain.specs.Good.{IsGood, Stays}
use Rattle.channel_core.specs.Sendings.{command_of, post_of}
use Rattle.channel_plain.specs.Holding.{Takes}
use Rattle.channel_plain.specs.News.{IsNew, opening_of}
use Rattle.channel_plain.specs.Picks.{CallsState, PlainState, pending_by}
use Rattle.channel_plain.specs.Standing.{HavePolls}
use Rattle.channel_plain.specs.TraceText.{trace_text}
use Rattle.channel_plain.specs.Weaving.{Readings, reads, unread}
use Rattle.channel_plain.specs.Wholes.{IsWhole}
use Rattle.channel_plain.specs.WordRuns.{WordRun, flown}
use Rattle.pcc_script.specs.declared.scenario.OpenLine.{OpenLine}
use Rattle.pcc_setup.specs.Openings.{head_on, zeros_in}
use Rattle.pcc_journal.specs.declared.record.Pending.{Pending}
use Rattle.pcc_notify.specs.declared.notice.Notice.{Notice}
use Rattle.pcc_notify.specs.Notices.{AreNotices, IsNotifying, Notified, posts_of as posted_by}
use Rattle.pccrun_core.specs.Weaving.{AreReadings, IsCall, IsWoven, asked_by, side_of}
use Rattle.weave_headline.proofs.Headlines.{word_headline}
use Rattle.pcc_wiring.specs.Wirings.{wiring_with}

-- ---- readings

-- the clock of a script, before its first reading
abbrev pub line_clock : Scenario → LineState
line_clock s = record { start = s.start; step = s.step; added = 0; taken = 0; told_from = 0 }

abbrev ticks_of : LineState → ℕ
ticks_of c = c.taken

-- the clock after some readings: it tells what it told, and gave these
record Ticked (s : Scenario) (readings : List ℕ) (clock : LineState) : Type 0 where
  told : (k : ℕ) → line_tells clock k ≡ line_tells (line_clock s) k
  count : clock.taken ≡ length readings
  read : AreReadings s readings

told_is : (o : Option ℕ) (x r : ℕ) → o ≡ Some x → IfSome o (λ y. r ≡ y) → r ≡ x
told_is None x r e h = absurd cc
told_is (Some y) x r e h = let same : y ≡ x = cc in h ∙ same

-- a script's clock tells all readings
all_told : (s : Scenario) (k : ℕ) → line_tells (line_clock s) k ≡ Some (line_reading s.start s.step 0 k)
all_told s k = rw (le-ltb k 0 (omega arith)) refl

-- one reading more
one_reading : (s : Scenario) (rs : List ℕ) (m m' : LineState) (r : ℕ) → length rs < 2 ^ 64 - 1 → Takes ticks_of line_tells m m' true r → Ticked s rs m → Ticked s (rs ++ r ∷ []) m'
one_reading s rs m m' r small takes t =
    let count : m.taken ≡ length rs = t.count in
    let len : length (rs ++ r ∷ []) ≡ length rs + 1 = length-append rs (r ∷ []) in
    let taken : m'.taken ≡ min (m.taken + 1) (2 ^ 64 - 1) = takes.count in
    let told : IfSome (line_tells m m.taken) (λ x. r ≡ x) = takes.reading (omega arith) in
    let here : r ≡ line_reading s.start s.step 0 m.taken = told_is (line_tells m m.taken) (line_reading s.start s.step 0 m.taken) r (t.told m.taken ∙ all_told s m.taken) told in
    record { told = λ k. takes.told k ∙ t.told k; count = omega arith; read = λ k lt. by_place (ltb k (length rs)) k refl (omega arith) here }
  where
    seam : (k : ℕ) → k ≡ length rs → r ≡ line_reading s.start s.step 0 m.taken → get_or (rs ++ r ∷ []) k 0 ≡ line_reading s.start s.step 0 k
    seam k e here = ap (λ (n : ℕ). get_or (rs ++ r ∷ []) n 0) e ∙ get_or-append_seam rs r [] 0 ∙ here ∙ ap (line_reading s.start s.step 0) (t.count ∙ sym e)

    by_place : (b : Bool) (k : ℕ) → ltb k (length rs) ≡ b → k < length rs + 1 → r ≡ line_reading s.start s.step 0 m.taken → get_or (rs ++ r ∷ []) k 0 ≡ line_reading s.start s.step 0 k
    by_place true k e lt here = get_or_append_left rs (r ∷ []) 0 k (ltb-true k (length rs) e) ∙ t.read k (ltb-true k (length rs) e)
    by_place false k e lt here = let ge : length rs ≤ k = ltb-false k (length rs) e in seam k (omega arith) here

ticked : (s : Scenario) (rs : List ℕ) (m : LineState) → length rs < 2 ^ 64 - 1 → Readings ticks_of line_tells (line_clock s) rs m → Ticked s rs m
ticked s rs m small unread = record { told = λ k. refl; count = refl; read = λ k lt. absurd (omega arith) }
ticked s rs m small (reads qs n n' r before takes) =
    let len = length-append qs (r ∷ []) in
    one_reading s qs n n' r (omega arith) takes (ticked s qs n (omega arith) before)

-- ---- the journal

-- without the pending command the limits are kept too
without : (l : Limits) (ts : List Times) (p : ℕ) → WithinLimits l ts (Some p) → WithinLimits l ts None
without l ts p h = record {
  turnaround = λ i lt. let n = more in let later : i + 1 < length (posts_of ts (Some p)) = omega arith in rw (← same (i + 1) lt) (h.turnaround i later);
  rate = λ i ne lt. let n = more in let later : i + l.per_minute < length (posts_of ts (Some p)) = omega arith in let first : i < length (posts_of ts None) = omega arith in rw (← same i first, ← same (i + l.per_minute) lt) (h.rate i ne later);
}
  where
    more : length (posts_of ts (Some p)) ≡ length (posts_of ts None) + 1
    more = length-append (map (λ t. t.post) ts) (p ∷ [])

    same : (i : ℕ) → i < length (posts_of ts None) → slice_index (posts_of ts (Some p)) i ≡ slice_index (posts_of ts None) i
    same i lt = get_or_append_left (map (λ t. t.post) ts) (p ∷ []) 0 i lt

limits_flown : (l : Limits) (ts : List Times) (b : Bool) (o : Option Sent) → WithinLimits l ts (post_of o) → WithinLimits l ts (post_of (flown b o))
limits_flown l ts true o h = h
limits_flown l ts false None h = h
limits_flown l ts false (Some sent) h = without l ts sent.command.post h

pending_flown : (b : Bool) (o : Option Sent) → pending_by b o ≡ command_of (flown b o)
pending_flown true o = refl
pending_flown false o = refl

-- ---- the calls

-- each line looks at least once
least_of : (ls : List Line) → AllByRecursion IsCall ls → AllByRecursion IsAction ls → (i : ℕ) (c : Asked) → slice_get (map asked_by ls) i ≡ Some c → 0 < c.polls
least_of [] h k i c e = absurd cc
least_of (line.Call worker subspace code bytes polls hold ∷ ls) h k zero c e = let least : 1 ≤ polls = k.0.4.some in let same : polls ≡ c.polls = polls_are e in omega arith
  where
    polls_are : Some (asked_by (line.Call worker subspace code bytes polls hold)) ≡ Some c → polls ≡ c.polls
    polls_are e = cc
least_of (line.Call worker subspace code bytes polls hold ∷ ls) h k (suc i) c e = least_of ls h.1 k.1 i c e
least_of (line.Read worker cpu polls hold ∷ ls) h k i c e = absurd h.0
least_of (line.Set worker wish polls hold ∷ ls) h k i c e = absurd h.0
least_of (line.Wait n ∷ ls) h k i c e = absurd h.0

pub have_polls : (ls : List Line) (calls : List Asked) → AllByRecursion IsCall ls → AllByRecursion IsAction ls → calls ≡ map asked_by ls → HavePolls calls
have_polls ls calls h k e = subst HavePolls (sym e) (record { least = least_of ls h k })

-- what has become of the commands that a trace posts
pub noticed : {K : Type 0} (taken : K → ℕ) (tells : K → ℕ → Option ℕ) (exec : Device) (calls : List Asked) (is_state : List ℕ → Type 0) (room_of : List ℕ → ℕ)
    (sides : List Side) (old : Notified K) (trace : List TraceLine) (new : Notified K) → IsNotifying taken tells exec calls is_state room_of sides old trace new
    → AreNotices (posted_by old.channel.ask.wiring trace) (exchanges_of_commands new.channel.executed) (exchanges_of new.channel.calls.records)
    (pending_by new.channel.ask.in_flight new.channel.calls.sent)
noticed taken tells exec calls is_state room_of sides old trace new n = subst (λ (p : List Notice). AreNotices p (exchanges_of_commands new.channel.executed)
    (exchanges_of new.channel.calls.records) (pending_by new.channel.ask.in_flight new.channel.calls.sent)) n.posted n.notices

-- what is written is a trace and its journal
pub is_woven : (s : Scenario) (t : Table) (o : OpenLine) (u : Subspace) (letters : List Letter) (w : Wiring) (limits : Limits) (state : List ℕ) (begin end : PlainState) (clock0 clock : LineState) (calls : List Asked) (sides : List Side) (trace : List TraceLine) (rs text : List ℕ)
    → s.opens ≡ o ∷ [] → slice_get t.subspaces o.id ≡ Some u → s.picks ≡ Some letters → length letters ≤ 65536 → w ≡ wiring_with o.id t.flags u → limits ≡ (head_on o u).limits → state ≡ 0 ∷ zeros_in (head_on o u)
    → IsNew w limits state begin → clock0 ≡ line_clock s → calls ≡ map asked_by s.actions → sides ≡ map side_of letters
    → Readings ticks_of line_tells clock0 rs clock → length rs ≤ length sides
    → WordRun bank_exec begin.ask.wiring begin.calls.limits begin.start (opening_of begin.ask.wiring) calls sides trace rs end.calls.records (flown end.ask.in_flight end.calls.sent) (exchanges_of_commands end.executed)
    → IsGood bank_exec end → IsWhole (opening_of begin.ask.wiring) calls end.calls.records → Stays begin end
    → AreNotices (posted_by begin.ask.wiring trace) (exchanges_of_commands end.executed) (exchanges_of end.calls.records) (pending_by end.ask.in_flight end.calls.sent)
    → text ≡ trace_text trace ++ journal_text (head_on o u) end.calls.records (pending_by end.ask.in_flight end.calls.sent) → IsWoven s t text
is_woven s t o u letters w limits state begin end clock0 clock calls sides trace rs text alone first chosen few wired limited stated new clocked called sided readings bound run good whole stay notices is =
    let n : length (map side_of letters) ≡ length letters = length-map letters side_of in
    let m : length sides ≡ length (map side_of letters) = ap length sided in
    let wires : begin.ask.wiring ≡ wiring_with o.id t.flags u = new.ask.0 ∙ wired in
    let lims : begin.calls.limits ≡ (head_on o u).limits = ap (λ (k : CallsState). k.limits) new.calls ∙ limited in
    let start : begin.start ≡ 0 ∷ zeros_in (head_on o u) = new.start ∙ stated in
    let R : Wiring × Limits × List ℕ × List Asked × List Side → Type 0 = λ z. WordRun bank_exec z.0 z.1 z.2 (opening_of z.0) z.3 z.4 trace rs end.calls.records (flown end.ask.in_flight end.calls.sent) (exchanges_of_commands end.executed) in
    let C : LineState → Type 0 = λ c. Readings ticks_of line_tells c rs clock in
    let reports : end.ask.wiring.reports ≡ (head_on o u).reports = ap (λ (x : Wiring). x.reports) (stay.wiring ∙ wires) in
    let L : Bool × List ℕ → Type 0 = λ z. Legal bank_exec z.0 z.1 (exchanges_of end.calls.records) in
    let W : Wiring × List Asked → Type 0 = λ z. IsWhole (opening_of z.0) z.1 end.calls.records in
    let K : Limits → Type 0 = λ l. WithinLimits l (times_of end.calls.records) (post_of (flown end.ask.in_flight end.calls.sent)) in
    let legal : Legal bank_exec (head_on o u).reports (0 ∷ zeros_in (head_on o u)) (exchanges_of end.calls.records) = subst L (λ i. (reports i, (stay.start ∙ start) i)) good.legal in
    let wired_run = subst R (λ i. (wires i, lims i, start i, called i, sided i)) run in
    record {
      open_line = o;
      opens = alone;
      subspace = u;
      structure = first;
      letters = letters;
      picks = chosen;
      trace = trace;
      readings = rs;
      records = end.calls.records;
      sent = flown end.ask.in_flight end.calls.sent;
      executed = exchanges_of_commands end.executed;
      run = wired_run;
      read = (ticked s rs clock (omega arith) (subst C clocked readings)).read;
      legal = legal;
      whole = subst W (λ i. (wires i, called i)) whole;
      ahead = good.ahead;
      notices = subst (λ (z : Wiring × Option Pending). AreNotices (posted_by z.0 trace) (exchanges_of_commands end.executed) (exchanges_of end.calls.records) z.1)
          (λ i. (wires i, pending_flown end.ask.in_flight end.calls.sent i)) notices;
      limits = subst K (stay.limits ∙ lims) (limits_flown end.calls.limits (times_of end.calls.records) end.ask.in_flight end.calls.sent good.limits);
      headline = word_headline bank_exec (wiring_with o.id t.flags u) (head_on o u).limits (0 ∷ zeros_in (head_on o u)) (zeros_in (head_on o u)) (map asked_by s.actions)
          (map side_of letters) trace rs end.calls.records (flown end.ask.in_flight end.calls.sent) (exchanges_of_commands end.executed) wired_run legal;
      text_is = is ∙ ap (λ (p : _). trace_text trace ++ journal_text (head_on o u) end.calls.records p) (pending_flown end.ask.in_flight end.calls.sent);
    }
