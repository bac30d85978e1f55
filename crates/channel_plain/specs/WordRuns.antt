-- What a trace of single word steps says: which words it moves, the runs of each side, the calls with their ends, the readings, and the
-- journal that it leaves. It speaks of whole runs, and of no machine.
use Rattle.std.specs.Prelude.{◌≡◌, ◌≤◌, ◌<◌, ℕ, ◌+◌, Bool, true, false, not, List, [], ◌∷◌, ◌++◌, length, map, drop, Option, Some, None}
use Rattle.std.specs.List.{slice_get, filter}
use Rattle.pcc_history.specs.Devices.{Device}
use Rattle.pcc_history.specs.Channel.{Exchange, over, exchange_of}
use Rattle.rate_limit.specs.declared.Limits.{Limits}
use Rattle.rate_limit.specs.RateLimits.{earliest_of}
use Rattle.pcc_journal.specs.declared.record.Record.{Record}
use Rattle.pcc_journal.specs.Records.{times_of}
use Rattle.shmem_header.specs.Spelling.{words_of, bytes_of}
use Rattle.pcc_steps.specs.declared.wiring.Wiring.{Wiring}
use Rattle.pcc_steps.specs.declared.wiring.Action.{Action}
use Rattle.pcc_steps.specs.declared.wiring.Action.TheVariants.{Load, Store, Swap, Rest}
use Rattle.pcc_steps.specs.Wires.{style_of, heads_of, block_header, opening_header, opening_words}
use Rattle.pcc_steps.specs.Runs.{Run, ends, loads, stores, swaps, executes, AskEnd, posts, sees_clear, drains, AnswerEnd, finds_none, serves, post_run, look_run, answer_run}
use Rattle.pcc_steps.specs.Agree.{act, found}
use Rattle.channel_core.specs.Readings.{count_of}
use Rattle.channel_core.specs.Sendings.{count_flying, given_up_after, is_late, record_of}
use Rattle.channel_core.specs.declared.caller.Reading.{Reading}
use Rattle.channel_core.specs.declared.sent.Sent.{Sent}
use Rattle.channel_plain.specs.declared.trace.Side.{Side}
use Rattle.channel_plain.specs.declared.trace.Asked.{Asked}
use Rattle.channel_plain.specs.declared.trace.TraceEnd.{TraceEnd}
use Rattle.channel_plain.specs.declared.trace.TraceEnd.TheVariants as end
use Rattle.channel_plain.specs.declared.trace.TraceLine.{TraceLine}
use Rattle.channel_plain.specs.Picks.{asks_by, given_up_end, refusal_of, sent_by, drained_end}

-- ---- the words

-- each load and swap finds what the last store or swap before it left, or the opening content
abbrev pub Remembers : List ℕ → List TraceLine → Type 0
Remembers words [] = Unit {0}
Remembers words (l ∷ ls) = (l.value ≡ found l.action words) × Remembers (act l.action words) ls

-- ---- the steps of a run

-- the next step; executing is no word step
abbrev pub next_of : {E : Type 0} → Run E → Option Action
next_of (ends e) = None
next_of (loads place k) = Some (Load place)
next_of (stores place word k) = Some (Store place word)
next_of (swaps place word k) = Some (Swap place word)
next_of (executes code space k) = None

-- the rest of the run after that step, by the value that it found
abbrev pub rest_of : {E : Type 0} → Run E → ℕ → Run E
rest_of (ends e) value = ends e
rest_of (loads place k) value = k value
rest_of (stores place word k) value = k
rest_of (swaps place word k) value = k value
rest_of (executes code space k) value = executes code space k

-- a step of the run is left
abbrev pub IsUnfinished : {E : Type 0} → Run E → Type 0
IsUnfinished run = (step : Action) × (next_of run ≡ Some step)

-- the lines are the first steps of a run, of which none ends it, and leave the rest of it
abbrev pub Walks : {E : Type 0} → Run E → List TraceLine → Run E → Type 0
Walks run [] rest = run ≡ rest
Walks run (l ∷ ls) rest = (next_of run ≡ Some l.action) × (l.end ≡ end.Open) × Walks (rest_of run l.value) ls rest

-- the lines are a whole run that ends so, with its last line
pub record IsRun {E : Type 0} (run : Run E) (ls : List TraceLine) (l : TraceLine) (e : E) : Type 0 where
  pub rest : Run E
  pub walks : Walks run ls rest
  pub last : next_of rest ≡ Some l.action
  pub ends : rest_of rest l.value ≡ ends e

-- ---- the asking side

-- how the calls stand between two runs of the asking side
pub record Calls : Type 0 where
  -- the calls that have ended, and whether the one after them is begun
  pub ended : ℕ
  pub begun : Bool
  -- the looks that saw the command incomplete, since the call began or its command was posted
  pub looks : ℕ
  -- the command in flight
  pub sent : Option Sent
  -- the words of the block as this side last stored or loaded them
  pub block : List ℕ
  -- the space that was drained last
  pub space : List ℕ
  pub records : List Record
  pub readings : List ℕ

abbrev pub end_call : Calls → Calls
end_call s = record s { ended = s.ended + 1; begun = false }

abbrev pub take_reading : Calls → ℕ → Calls
take_reading s r = record s { readings = s.readings ++ r ∷ [] }

-- the reading that is taken after these
abbrev pub reading_at : List ℕ → ℕ → Reading
reading_at before at = record { at = at; number = count_of (length before) }

abbrev pub refusal_at : Wiring → Asked → Calls → Option TraceEnd
refusal_at w c s = refusal_of w c (length s.records) (count_flying s.sent)

-- the space that a block holds
abbrev pub replied : Wiring → List ℕ → List ℕ
replied w block = bytes_of (drop (heads_of (style_of w)) block)

-- the block of a call, after the block that was last stored or loaded: the call's header words, and its bytes over the front of that block's space
abbrev pub block_after : Wiring → Asked → List ℕ → List ℕ
block_after w c block = block_header (style_of w) w c.code (length c.bytes) ++ words_of (over (replied w block) c.bytes)

-- the run that posts a call: it stores the words of the call's block that differ from those that were last stored or loaded
abbrev pub posts_call : Wiring → Asked → List ℕ → Run AskEnd
posts_call w c block = post_run w c.code (block_after w c block) block

-- a line with no word step, that ends so
abbrev pub Rests : TraceLine → TraceEnd → Type 0
Rests l e = (l.action ≡ Rest) × (l.end ≡ e)

-- the reply of a command was taken: was it given up before?
abbrev pub goes_on_if : Bool → Calls → Calls
goes_on_if true s = s
goes_on_if false s = end_call s

module _ (w : Wiring) (limits : Limits) (calls : List Asked) where
  -- a call is served: one that was begun before, or the next one, which nothing refuses and which begins now
  pub data Serves : Calls → Asked → Calls → Type 0 where
    goes_on : (s : Calls) (c : Asked) → s.begun ≡ true → slice_get calls s.ended ≡ Some c → Serves s c s
    begins : (s : Calls) (c : Asked) → s.begun ≡ false → slice_get calls s.ended ≡ Some c → refusal_at w c s ≡ None
        → Serves s c (record s { begun = true; looks = 0 })

  abbrev pub earliest_at : Calls → ℕ
  earliest_at s = earliest_of limits (times_of s.records)

  -- one run of the asking side, or a line without a word step
  pub data Turn : Calls → List TraceLine → Calls → Type 0 where
    -- no call is left
    idles : (s : Calls) (l : TraceLine) → slice_get calls s.ended ≡ None → Rests l end.Open → Turn s (l ∷ []) s
    -- the next call is refused
    refuses : (s : Calls) (c : Asked) (e : TraceEnd) (l : TraceLine) → s.begun ≡ false → slice_get calls s.ended ≡ Some c
        → refusal_at w c s ≡ Some e → Rests l e → Turn s (l ∷ []) (end_call s)
    -- nothing is in flight, and the reading is below the earliest
    delays : (s s' : Calls) (c : Asked) (r : ℕ) (l : TraceLine) → Serves s c s' → s'.sent ≡ None → r < earliest_at s'
        → Rests l (end.TooSoon r (earliest_at s')) → Turn s (l ∷ []) (end_call (take_reading s' r))
    -- nothing is in flight, and the reading is not below the earliest: the command is posted
    sends : (s s' : Calls) (c : Asked) (r : ℕ) (ls : List TraceLine) (l : TraceLine) → Serves s c s' → s'.sent ≡ None → earliest_at s' ≤ r
        → IsRun (posts_call w c s'.block) ls l posts → l.end ≡ end.Posted
        → Turn s (ls ++ l ∷ []) (record (take_reading s' r) {
          sent = Some (sent_by c s'.space (reading_at s'.readings r));
          block = block_after w c s'.block;
          looks = 0;
        })
    -- a command is in flight and isn't complete, and the call may look again
    looks_on : (s s' : Calls) (c : Asked) (p : Sent) (ls : List TraceLine) (l : TraceLine) → Serves s c s' → s'.sent ≡ Some p → s'.looks + 1 < c.polls
        → IsRun (look_run w) ls l sees_clear → l.end ≡ end.Clear (s'.looks + 1)
        → Turn s (ls ++ l ∷ []) (record s' { looks = s'.looks + 1 })
    -- that look was the last that the call has
    gives_up : (s s' : Calls) (c : Asked) (p : Sent) (ls : List TraceLine) (l : TraceLine) → Serves s c s' → s'.sent ≡ Some p → s'.looks + 1 ≡ c.polls
        → IsRun (look_run w) ls l sees_clear → l.end ≡ given_up_end (is_late p) c.polls
        → Turn s (ls ++ l ∷ []) (end_call (record s' { looks = s'.looks + 1; sent = given_up_after c.polls (Some p) }))
    -- the command is complete: its reply is taken, at a reading
    takes : (s s' : Calls) (c : Asked) (p : Sent) (r : ℕ) (error : Bool) (block : List ℕ) (ls : List TraceLine) (l : TraceLine) → Serves s c s'
        → s'.sent ≡ Some p → IsRun (look_run w) ls l (drains error block) → l.end ≡ drained_end (is_late p) error
        → Turn s (ls ++ l ∷ []) (goes_on_if (is_late p) (record (take_reading s' r) {
          sent = None;
          block = block;
          space = replied w block;
          records = s'.records ++ record_of p error (replied w block) r ∷ [];
        }))

  -- no call has begun, over an opening space
  abbrev pub from_opening : List ℕ → Calls
  from_opening opening = record {
    ended = 0;
    begun = false;
    looks = 0;
    sent = None;
    block = opening_header (style_of w) w ++ words_of opening;
    space = opening;
    records = [];
    readings = [];
  }

  -- runs, one after the other
  pub data Turns (from : Calls) : List TraceLine → Calls → Type 0 where
    none : Turns from [] from
    more : (ls ms : List TraceLine) (s t : Calls) → Turns from ls s → Turn s ms t → Turns from (ls ++ ms) t

  -- the run under way, cut by the end of the picks with a step left, and the reading that it took
  pub data Cut : Calls → List TraceLine → List ℕ → Type 0 where
    whole : (s : Calls) → Cut s [] []
    sending : (s s' : Calls) (c : Asked) (r : ℕ) (l : TraceLine) (ls : List TraceLine) (rest : Run AskEnd) → Serves s c s'
        → s'.sent ≡ None → earliest_at s' ≤ r → Walks (posts_call w c s'.block) (l ∷ ls) rest → IsUnfinished rest → Cut s (l ∷ ls) (r ∷ [])
    looking : (s s' : Calls) (c : Asked) (p : Sent) (l : TraceLine) (ls : List TraceLine) (rest : Run AskEnd) → Serves s c s'
        → s'.sent ≡ Some p → Walks (look_run w) (l ∷ ls) rest → IsUnfinished rest → Cut s (l ∷ ls) []

  -- the lines of the asking side are whole runs, and perhaps one that is cut before its end; they take these readings, and leave these records
  -- and this command in flight
  pub record IsAsking (opening : List ℕ) (lines : List TraceLine) (readings : List ℕ) (records : List Record) (sent : Option Sent) : Type 0 where
    pub past : List TraceLine
    pub last : List TraceLine
    pub after : Calls
    pub taken : List ℕ
    pub runs : Turns (from_opening opening) past after
    pub cut : Cut after last taken
    pub all : lines ≡ past ++ last
    pub read : readings ≡ after.readings ++ taken
    pub kept : records ≡ after.records
    pub flies : sent ≡ after.sent

-- ---- the answering side

-- a run with its device, and what the device has executed
pub record Answered : Type 0 where
  pub device : List ℕ
  pub executed : List Exchange
  pub run : Run AnswerEnd

module _ (exec : Device) (w : Wiring) where
  -- the device executes a command as soon as the run has loaded it
  abbrev pub execute : Run AnswerEnd → List ℕ → List Exchange → Answered
  execute (executes code space k) device es = let x = exec device code space in
      record { device = x.state; executed = es ++ exchange_of exec w.reports device code space ∷ []; run = k x.bad x.space }
  execute (ends e) device es = record { device = device; executed = es; run = ends e }
  execute (loads place k) device es = record { device = device; executed = es; run = loads place k }
  execute (stores place word k) device es = record { device = device; executed = es; run = stores place word k }
  execute (swaps place word k) device es = record { device = device; executed = es; run = swaps place word k }

  abbrev pub answer_on : Answered → ℕ → Answered
  answer_on a value = execute (rest_of a.run value) a.device a.executed

  -- the lines are the first steps of an answering run, of which none ends it
  abbrev pub AnswerWalks : Answered → List TraceLine → Answered → Type 0
  AnswerWalks a [] b = a ≡ b
  AnswerWalks a (l ∷ ls) b = (next_of a.run ≡ Some l.action) × (l.end ≡ end.Open) × AnswerWalks (answer_on a l.value) ls b

  abbrev pub answer_from : List ℕ → List Exchange → Answered
  answer_from device executed = record { device = device; executed = executed; run = answer_run w }

  abbrev pub answered_end : AnswerEnd → TraceEnd
  answered_end finds_none = end.Idle
  answered_end serves = end.Served

  -- whole runs, one after the other, from one state of the device to another
  pub data Answers (start : List ℕ) : List TraceLine → List ℕ → List Exchange → Type 0 where
    unanswered : Answers start [] start []
    more : (ls ms : List TraceLine) (l : TraceLine) (device : List ℕ) (es : List Exchange) (b : Answered) (e : AnswerEnd) → Answers start ls device es
        → AnswerWalks (answer_from device es) ms b → next_of b.run ≡ Some l.action → (answer_on b l.value).run ≡ ends e → l.end ≡ answered_end e
        → Answers start (ls ++ (ms ++ l ∷ [])) (answer_on b l.value).device (answer_on b l.value).executed

  -- the lines of the answering side are whole runs, and the first steps of one more, of which a step is left; the device has executed these commands
  pub record IsAnswering (start : List ℕ) (lines : List TraceLine) (executed : List Exchange) : Type 0 where
    pub past : List TraceLine
    pub last : List TraceLine
    pub device : List ℕ
    pub before : List Exchange
    pub now : Answered
    pub runs : Answers start past device before
    pub cut : AnswerWalks (answer_from device before) last now
    pub unfinished : IsUnfinished now.run
    pub all : lines ≡ past ++ last
    pub ran : executed ≡ now.executed

-- ---- a trace

abbrev pub asked_line : ℕ → TraceLine → Bool
asked_line kind l = asks_by kind l.side

abbrev pub answered_line : ℕ → TraceLine → Bool
answered_line kind l = not (asks_by kind l.side)

abbrev pub side_of_line : TraceLine → Side
side_of_line l = l.side

-- the trace of the picks, for the calls, with the readings that it took, and the records, the command in flight and the executed commands that
-- it leaves
pub record WordRun (exec : Device) (w : Wiring) (limits : Limits) (start opening : List ℕ) (calls : List Asked) (picks : List Side)
    (trace : List TraceLine) (readings : List ℕ) (records : List Record) (sent : Option Sent) (executed : List Exchange) : Type 0 where
  pub sides : map side_of_line trace ≡ picks
  pub words : Remembers (opening_words w (words_of opening)) trace
  pub asking : IsAsking w limits calls opening (filter (asked_line w.kind) trace) readings records sent
  pub answering : IsAnswering exec w start (filter (answered_line w.kind) trace) executed

-- the command in flight, if one is
abbrev pub flown : Bool → Option Sent → Option Sent
flown true sent = sent
flown false sent = None
