-- Picks that are woven make a run of words.
use Rattle.std.proofs.Common.{◌≡◌, ℕ, ◌+◌, ◌-◌, ◌^◌, min, Bool, true, false, not, if◌then◌else◌, List, [], ◌∷◌, ◌++◌, length, map, refl, sym, ap, ◌∙◌, subst, arith}
use Rattle.std.specs.Prelude.{Option, None}
use Rattle.std.specs.List.{filter}
use Rattle.std.proofs.lemmas.List.{append-nil, length-append, map-append}
use Rattle.std.proofs.lemmas.List.Elements.{filter-append}
use Rattle.pcc_history.specs.Devices.{Device}
use Rattle.pcc_history.specs.Channel.{Exchange}
use Rattle.rate_limit.specs.declared.Limits.{Limits}
use Rattle.pcc_journal.specs.Records.{exchanges_of_commands}
use Rattle.pcc_steps.specs.declared.wiring.Wiring.{Wiring}
use Rattle.pcc_steps.specs.Runs.{look_run}
use Rattle.pcc_steps.specs.declared.wiring.Action.TheVariants.{Swap}
use Rattle.pcc_steps.specs.Walk.{answer_after, answer_left, ask_after, ask_left}
use Rattle.pcc_steps.specs.Agree.{act, found}
use Rattle.pcc_steps.specs.Asking.{Ask, AskOk, ask_fed, ask_next, ask_told}
use Rattle.pcc_steps.specs.Answering.{Answer, AnswerOk, answer_fed, answer_next, answer_told}
use Rattle.pcc_steps.specs.Laws.{PostsByTable, LooksByTable, AsksByTable, AnswersByTable, AnswerStepsByTable, ExecutesByTable}
use Rattle.pcc_journal.specs.declared.command.Command.{Command}
use Rattle.channel_core.specs.declared.sent.Sent.{Sent}
use Rattle.channel_plain.specs.declared.trace.Asked.{Asked}
use Rattle.channel_plain.specs.declared.trace.Side.{Side}
use Rattle.channel_plain.specs.declared.trace.TraceLine.{TraceLine}
use Rattle.channel_plain.specs.Picks.{CallsState, PlainState, Picked, answer_picked, ask_picked_at, asks_by, line_of, picked_by}
use Rattle.channel_core.specs.Readings.{count_of}
use Rattle.channel_plain.specs.Holding.{Takes}
use Rattle.channel_plain.specs.News.{opening_of}
use Rattle.pcc_steps.specs.Carrying.{carried, carried_at, is_rest}
use Rattle.channel_plain.specs.Standing.{HavePolls, IsCarried, IsServing, Stands}
use Rattle.channel_plain.specs.Weaving.{IsFresh, Readings, unread, reads, Wove, unpicked, picks, reading_of}
use Rattle.channel_plain.specs.WordRuns.{Answers, unanswered, Calls, Cut, from_opening, IsAnswering, IsAsking, Remembers, Serves, goes_on, begins, Turns, none, Walks, WordRun, posts_call, answer_from, asked_line, answered_line, flown, looking, sending, side_of_line, whole, IsUnfinished}
use Rattle.pcc_steps.proofs.AskFeeds.{rest_is}
use Rattle.channel_plain.proofs.WordSteps.{takes_next, AskTie, resting, running, Running, posts_run, looks_run, block_by, calls_at}
use Rattle.channel_plain.proofs.AskTurns.{pick_tie}
use Rattle.channel_plain.proofs.AnswerTurns.{AnswerTie, between_run, a_resting, a_running, answer_tie}
use Rattle.pcc_steps.proofs.AnswerFeeds.{is_rest as is_rest_a, is_run}
use Rattle.channel_plain.proofs.PickKeeps.{asks_kept, counted_if, picked_kept}
use Rattle.channel_plain.proofs.Bools.{not_false}

-- ---- lists

abbrev pub acted : List ℕ → List TraceLine → List ℕ
acted ws [] = ws
acted ws (l ∷ ls) = acted (act l.action ws) ls

remembers_more : (ws : List ℕ) (ls : List TraceLine) (l : TraceLine) → Remembers ws ls → l.value ≡ found l.action (acted ws ls) → Remembers ws (ls ++ l ∷ [])
remembers_more ws [] l h e = (e, tt)
remembers_more ws (m ∷ ms) l h e = (h.0, remembers_more (act m.action ws) ms l h.1 e)

acted_more : (ws : List ℕ) (ls : List TraceLine) (l : TraceLine) → acted ws (ls ++ l ∷ []) ≡ act l.action (acted ws ls)
acted_more ws [] l = refl
acted_more ws (m ∷ ms) l = acted_more (act m.action ws) ms l

abbrev kept_by : Bool → TraceLine → List TraceLine
kept_by true l = l ∷ []
kept_by false l = []

filter_one : (p : TraceLine → Bool) (l : TraceLine) → filter p (l ∷ []) ≡ kept_by (p l) l
filter_one p l = by_test (p l)
  where
    by_test : (b : Bool) → (if b then l ∷ [] else []) ≡ kept_by b l
    by_test true = refl
    by_test false = refl

filter_more : (p : TraceLine → Bool) (ls : List TraceLine) (l : TraceLine) (b : Bool) → p l ≡ b → filter p (ls ++ l ∷ []) ≡ filter p ls ++ kept_by b l
filter_more p ls l b e = filter-append p ls (l ∷ []) ∙ ap (λ (x : List TraceLine). filter p ls ++ x) (filter_one p l ∙ ap (λ (b : Bool). kept_by b l) e)

-- ---- what one side does is beside the other

module _ (w : Wiring) (limits : Limits) (calls : List Asked) where
  run_beside : (s : PlainState) (ws : List ℕ) (b : Answer) (d : List ℕ) (es : List Command) (x : Calls) (ls : List TraceLine) (taken : List ℕ) → Running w limits calls s x ls taken → Running w limits calls (record s { words = ws; answer = b; device = d; executed = es }) x ls taken
  run_beside s ws b d es x ls taken (posts_run c r free sv sent blk le walks polls) = posts_run c r free sv sent blk le walks polls
  run_beside s ws b d es x ls taken (looks_run c p flies sv sent walks polls) = looks_run c p flies sv sent walks polls

  ask_beside : (from : Calls) (s : PlainState) (ws : List ℕ) (b : Answer) (d : List ℕ) (es : List Command) (lines : List TraceLine) (rs : List ℕ) → AskTie w limits calls from s lines rs → AskTie w limits calls from (record s { words = ws; answer = b; device = d; executed = es }) lines rs
  ask_beside from s ws b d es lines rs (resting e before) = resting e before
  ask_beside from s ws b d es lines rs (running past ls l x taken n before run el er) = running past ls l x taken n before (run_beside s ws b d es x (ls ++ l ∷ []) taken run) el er

answer_beside : (exec : Device) (w : Wiring) (start : List ℕ) (s : PlainState) (ws : List ℕ) (a : Ask) (k : CallsState) (lines : List TraceLine) → AnswerTie exec w start s lines → AnswerTie exec w start (record s { words = ws; ask = a; calls = k }) lines
answer_beside exec w start s ws a k lines (a_resting e before) = a_resting e before
answer_beside exec w start s ws a k lines (a_running past ls d es n before walks el) = a_running past ls d es n before walks el

-- ---- the end of the picks

serves_sent : (w : Wiring) (limits : Limits) (calls : List Asked) (x y : Calls) (c : Asked) → Serves w limits calls x c y
    → (x.sent ≡ y.sent) × (x.records ≡ y.records)
serves_sent w limits calls x y c (goes_on _ _ b at) = (refl, refl)
serves_sent w limits calls x y c (begins _ _ b at free) = (refl, refl)

first_line : (ls : List TraceLine) (l : TraceLine) → (h : TraceLine) × (t : List TraceLine) × (ls ++ l ∷ [] ≡ h ∷ t)
first_line [] l = (l, [], refl)
first_line (m ∷ ms) l = (m, ms ++ l ∷ [], refl)

flown_rest : (f : Bool) (sent : Option Sent) (code : ℕ) (input : List ℕ) → IsCarried f sent code input → flown f sent ≡ sent
flown_rest true sent code input h = refl
flown_rest false sent code input h = sym h

-- a machine that isn't at rest has a step of its run left
ask_unfinished : AsksByTable → (a : Ask) → AskOk a → is_rest a.stage ≡ false → IsUnfinished (ask_left a)
ask_unfinished law a ok runs = (ask_next a, takes_next (ask_left a) (ask_next a) (λ v. ask_after (ask_told a v) (ask_fed a v)) (law a ok (λ e. not_false (is_rest a.stage) (ap is_rest e) runs)))

answer_unfinished : AnswerStepsByTable → (a : Answer) → AnswerOk a → is_run a.stage ≡ false → is_rest_a a.stage ≡ false → IsUnfinished (answer_left a)
answer_unfinished law a ok turn runs = (
  answer_next a,
  takes_next (answer_left a) (answer_next a) (λ v. answer_after (answer_told a v) (answer_fed a v))
      (law a ok (λ e. not_false (is_rest_a a.stage) (ap is_rest_a e) runs, λ e. not_false (is_run a.stage) (ap is_run e) turn)),
)

module _ (w : Wiring) (limits : Limits) (calls : List Asked) where
  asking_of : (opening : List ℕ) (s : PlainState) (lines : List TraceLine) (rs : List ℕ) → IsCarried (carried s.ask) s.calls.sent s.ask.code s.ask.input
      → (is_rest s.ask.stage ≡ false → IsUnfinished (ask_left s.ask)) → AskTie w limits calls (from_opening w limits calls opening) s lines rs
      → IsAsking w limits calls opening lines rs s.calls.records (flown s.ask.in_flight s.calls.sent)
  asking_of opening s lines rs has left (resting e before) = let rest = rest_is s.ask.stage e in record {
    past = lines;
    last = [];
    after = calls_at s s.calls.sent rs;
    taken = [];
    runs = before;
    cut = whole (calls_at s s.calls.sent rs);
    all = sym (append-nil lines);
    read = sym (append-nil rs);
    kept = refl;
    flies = flown_rest s.ask.in_flight s.calls.sent s.ask.code s.ask.input (subst (λ (f : Bool). IsCarried f s.calls.sent s.ask.code s.ask.input) (ap (λ (st : _). carried_at st s.ask.in_flight) rest) has);
  }
  asking_of opening s lines rs has left (running past ls l x taken n before (posts_run c r free sv sent blk le walks polls) el er) = let f = first_line ls l in let q = serves_sent w limits calls x (calls_at s None x.readings) c sv in record {
    past = past;
    last = ls ++ l ∷ [];
    after = x;
    taken = taken;
    runs = before;
    cut = subst (λ (z : List TraceLine). Cut w limits calls x z (r ∷ [])) (sym f.2) (sending x (calls_at s None x.readings) c r f.0 f.1 (ask_left s.ask) sv refl le (subst (λ (z : List TraceLine). Walks (posts_call w c s.ask.shown) z (ask_left s.ask)) f.2 walks) (left n));
    all = el;
    read = er;
    kept = sym q.1;
    flies = ap (λ (f : Bool). flown f s.calls.sent) free ∙ sym q.0;
  }
  asking_of opening s lines rs has left (running past ls l x taken n before (looks_run c p flies sv sent walks polls) el er) = let f = first_line ls l in let q = serves_sent w limits calls x (calls_at s s.calls.sent x.readings) c sv in record {
    past = past;
    last = ls ++ l ∷ [];
    after = x;
    taken = taken;
    runs = before;
    cut = subst (λ (z : List TraceLine). Cut w limits calls x z []) (sym f.2) (looking x (calls_at s s.calls.sent x.readings) c p f.0 f.1 (ask_left s.ask) sv sent (subst (λ (z : List TraceLine). Walks (look_run w) z (ask_left s.ask)) f.2 walks) (left n));
    all = el;
    read = er;
    kept = sym q.1;
    flies = ap (λ (f : Bool). flown f s.calls.sent) flies ∙ sym q.0;
  }

answering_of : (exec : Device) (w : Wiring) (start : List ℕ) (s : PlainState) (lines : List TraceLine)
    → (is_rest_a s.answer.stage ≡ false → IsUnfinished (answer_left s.answer)) → AnswerTie exec w start s lines
    → IsAnswering exec w start lines (exchanges_of_commands s.executed)
answering_of exec w start s lines left (a_resting e before) = record { past = lines; last = []; device = s.device; before = exchanges_of_commands s.executed; now = answer_from exec w s.device (exchanges_of_commands s.executed); runs = before; cut = refl; unfinished = (Swap 2 0, refl); all = sym (append-nil lines); ran = refl }
answering_of exec w start s lines left (a_running past ls d es n before walks el) = record { past = past; last = ls; device = d; before = es; now = record { device = s.device; executed = exchanges_of_commands s.executed; run = answer_left s.answer }; runs = before; cut = walks; unfinished = left n; all = el; ran = refl }

-- ---- all picks

module _ {K : Type 0} (taken : K → ℕ) (tells : K → ℕ → Option ℕ) (exec : Device) (calls : List Asked) (is_state : List ℕ → Type 0) (room_of : List ℕ → ℕ) where
  -- the count of the readings
  number_on : (b : Bool) (n r : ℕ) (rs : List ℕ) → n ≡ count_of (length rs) → counted_if b n ≡ count_of (length (rs ++ reading_of b r))
  number_on true n r rs e = let l = length-append rs (r ∷ []) in one_more n (length rs) (length (rs ++ r ∷ [])) e l
    where
      one_more : (n l m : ℕ) → n ≡ min l (2 ^ 64 - 1) → m ≡ l + 1 → min (n + 1) (2 ^ 64 - 1) ≡ min m (2 ^ 64 - 1)
      one_more n l m e q = omega (arith, e, q)
  number_on false n r rs e = e ∙ ap (λ (l : List ℕ). count_of (length l)) (sym (append-nil rs))

  readings_on : (b : Bool) (k m m' : K) (rs : List ℕ) (r : ℕ) → Takes taken tells m m' b r → Readings taken tells k rs m
      → Readings taken tells k (rs ++ reading_of b r) m'
  readings_on true k m m' rs r t h = reads rs m m' r h t
  readings_on false k m m' rs r t h = subst (λ (z : List ℕ × K). Readings taken tells k z.0 z.1) (λ i. (sym (append-nil rs) i, sym t i)) h

  pub record Tied (s : PlainState) (k : K) (sides : List Side) (trace : List TraceLine) (rs : List ℕ) (t : PlainState) (m : K) : Type 0 where
    pub readings : Readings taken tells k rs m
    pub sides_are : map side_of_line trace ≡ sides
    pub words : Remembers s.words trace
    pub now : t.words ≡ acted s.words trace
    pub wiring : t.ask.wiring ≡ s.ask.wiring
    pub limits : t.calls.limits ≡ s.calls.limits
    pub start : t.start ≡ s.start
    pub numbered : t.calls.readings ≡ count_of (length rs)
    pub ask : AskTie s.ask.wiring s.calls.limits calls (from_opening s.ask.wiring s.calls.limits calls (opening_of s.ask.wiring)) t (filter (asked_line s.ask.wiring.kind) trace) rs
    pub answer : AnswerTie exec s.ask.wiring s.start t (filter (answered_line s.ask.wiring.kind) trace)

  -- the lines of both sides, with a pick more
  both_more : PostsByTable → LooksByTable → AsksByTable → AnswersByTable → AnswerStepsByTable → ExecutesByTable → HavePolls calls
      → (b : Bool) (w : Wiring) (limits : Limits) (start : List ℕ) (from : Calls) (side : Side) (r : ℕ) (t : PlainState) (asked answered : List TraceLine) (rs : List ℕ)
      → t.ask.wiring ≡ w → t.calls.limits ≡ limits → t.calls.readings ≡ count_of (length rs)
      → Stands exec is_state room_of t → Stands exec is_state room_of (picked_by exec b calls r t).state → IsServing calls t
      → AskTie w limits calls from t asked rs → AnswerTie exec w start t answered
      → AskTie w limits calls from (picked_by exec b calls r t).state (asked ++ kept_by b (line_of side (picked_by exec b calls r t))) (rs ++ reading_of (picked_by exec b calls r t).reads r)
      × AnswerTie exec w start (picked_by exec b calls r t).state (answered ++ kept_by (not b) (line_of side (picked_by exec b calls r t)))
  both_more posts looks asks table law turn polls true w limits start from side r t asked answered rs wired lim num k k' serving ask answer = let p : Picked = ask_picked_at t.ask.stage calls r t in let h = asks_kept exec is_state room_of calls t r k in (
    pick_tie w limits calls posts looks asks exec is_state room_of t side r from asked rs k k' serving polls wired lim num ask,
    subst (λ (z : PlainState × List TraceLine). AnswerTie exec w start z.0 z.1) (λ i. (sym h.rest i, sym (append-nil answered) i)) (answer_beside exec w start t p.state.words p.state.ask p.state.calls answered answer),
  )
  both_more posts looks asks table law turn polls false w limits start from side r t asked answered rs wired lim num k k' serving ask answer = let p : Picked = answer_picked exec t in (
    subst (λ (z : List TraceLine × List ℕ). AskTie w limits calls from p.state z.0 z.1) (λ i. (sym (append-nil asked) i, sym (append-nil rs) i)) (ask_beside w limits calls from t p.state.words p.state.answer p.state.device p.state.executed asked rs ask),
    answer_tie exec w table law turn is_state room_of start t side answered k k' wired answer,
  )

  tied : PostsByTable → LooksByTable → AsksByTable → AnswersByTable → AnswerStepsByTable → ExecutesByTable → HavePolls calls
      → (s : PlainState) (k : K) (sides : List Side) (trace : List TraceLine) (rs : List ℕ) (t : PlainState) (m : K) → IsFresh s
      → Wove taken tells exec calls is_state room_of s k sides trace rs t m → Tied s k sides trace rs t m
  tied posts looks asks table law turn polls s k sides trace rs t m new unpicked = record {
    readings = unread;
    sides_are = refl;
    words = tt;
    now = refl;
    wiring = refl;
    limits = refl;
    start = refl;
    numbered = ap (λ (k : CallsState). k.readings) new.calls;
    ask = resting (ap is_rest new.ask.1) (subst (λ (z : Calls). Turns s.ask.wiring s.calls.limits calls (from_opening s.ask.wiring s.calls.limits calls (opening_of s.ask.wiring)) [] z)
        (λ i. record { ended = (sym new.calls i).ended; begun = (sym new.calls i).begun; looks = sym new.ask.8 i; sent = (sym new.calls i).sent; block = (sym new.ask.3 ∙ ap (λ (k : CallsState). block_by k.sent s.ask.sent s.ask.shown) (sym new.calls)) i; space = sym new.ask.4 i; records = (sym new.calls i).records; readings = [] }) none);
    answer = a_resting (ap (λ (st : _). is_rest_a st) new.answer.1) (subst (λ (z : List ℕ × List Exchange). Answers exec s.ask.wiring s.start [] z.0 z.1) (λ i. (sym new.device i, exchanges_of_commands (sym new.executed i))) unanswered);
  }
  tied posts looks asks table law turn polls s k sides trace rs t m new (picks sides' ls rs' t' m' m'' side r before k1 k2 serving takes) =
      let h = tied posts looks asks table law turn polls s k sides' ls rs' t' m' new before in let b : Bool = asks_by t'.ask.wiring.kind side in let p : Picked = picked_by exec b calls r t' in let l : TraceLine = line_of side p in
      let q = picked_kept exec is_state room_of b calls t' r k1 in let w : Wiring = s.ask.wiring in
      let same : asks_by w.kind side ≡ b = ap (λ (w : Wiring). asks_by w.kind side) (sym h.wiring) in
      let two = both_more posts looks asks table law turn polls b w s.calls.limits s.start (from_opening w s.calls.limits calls (opening_of w)) side r t' (filter (asked_line w.kind) ls) (filter (answered_line w.kind) ls) rs' h.wiring h.limits h.numbered k1 k2 serving h.ask h.answer in
      record {
        readings = readings_on p.reads k m' m'' rs' r takes h.readings;
        sides_are = map-append side_of_line ls (l ∷ []) ∙ ap (λ (x : List Side). x ++ side ∷ []) h.sides_are;
        words = remembers_more s.words ls l h.words (q.value ∙ ap (found p.action) h.now);
        now = q.words ∙ (ap (act p.action) h.now ∙ sym (acted_more s.words ls l));
        wiring = q.wiring ∙ h.wiring;
        limits = q.limits ∙ h.limits;
        start = q.start ∙ h.start;
        numbered = q.readings ∙ number_on p.reads t'.calls.readings r rs' h.numbered;
        ask = subst (λ (z : List TraceLine). AskTie w s.calls.limits calls (from_opening w s.calls.limits calls (opening_of w)) p.state z (rs' ++ reading_of p.reads r)) (sym (filter_more (asked_line w.kind) ls l b same)) two.0;
        answer = subst (λ (z : List TraceLine). AnswerTie exec w s.start p.state z) (sym (filter_more (answered_line w.kind) ls l (not b) (ap not same))) two.1;
      }

  pub word_run : PostsByTable → LooksByTable → AsksByTable → AnswersByTable → AnswerStepsByTable → ExecutesByTable → HavePolls calls
      → (s : PlainState) (k : K) (sides : List Side) (trace : List TraceLine) (rs : List ℕ) (t : PlainState) (m : K) → IsFresh s
      → Wove taken tells exec calls is_state room_of s k sides trace rs t m → Stands exec is_state room_of t
      → Readings taken tells k rs m × WordRun exec s.ask.wiring s.calls.limits s.start (opening_of s.ask.wiring) calls sides trace rs t.calls.records (flown t.ask.in_flight t.calls.sent) (exchanges_of_commands t.executed)
  word_run posts looks asks table law turn polls s k sides trace rs t m new wove k' = let h = tied posts looks asks table law turn polls s k sides trace rs t m new wove in let w : Wiring = s.ask.wiring in (
    h.readings,
    record {
      sides = h.sides_are;
      words = subst (λ (ws : List ℕ). Remembers ws trace) new.words h.words;
      asking = asking_of w s.calls.limits calls (opening_of w) t (filter (asked_line w.kind) trace) rs k'.carries (ask_unfinished asks t.ask k'.agree.1.2.ask_ok) h.ask;
      answering = answering_of exec w s.start t (filter (answered_line w.kind) trace) (answer_unfinished law t.answer k'.agree.1.2.answer_ok (between_run exec w t.answer.stage k'.agree.1.2.between)) h.answer;
    },
  )
