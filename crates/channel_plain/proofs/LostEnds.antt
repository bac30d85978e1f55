-- A trace that lost the end of a run is refused.
use Rattle.std.proofs.Common.{◌≡◌, ◌≢◌, ◌⊎◌, inl, inr, ℕ, ◌+◌, Bool, true, false, List, [], ◌∷◌, ◌++◌, refl, sym, ap, ◌∙◌, subst}
use Rattle.std.specs.Prelude.{◌==◌, if◌then◌else◌, Option, Some, None}
use Rattle.std.specs.List.{slice_get}
use Rattle.pcc_history.specs.Channel.{Exchange}
use Rattle.pcc_history.specs.Devices.{Device, bank_exec}
use Rattle.rate_limit.specs.declared.Limits.{Limits}
use Rattle.pcc_journal.specs.declared.record.Record.{Record}
use Rattle.shmem_header.specs.Spelling.{word_bytes, word_of, words_of}
use Rattle.pcc_steps.specs.Wires.{opening_header, style_of}
use Rattle.pcc_steps.specs.declared.wiring.Wiring.{Wiring}
use Rattle.pcc_steps.specs.declared.wiring.Action.{Action}
use Rattle.pcc_steps.specs.declared.wiring.Action.TheVariants.{Load, Store, Swap, Rest}
use Rattle.pcc_steps.specs.Runs.{Run, ends, loads, stores, swaps, executes, store_changed, stores_header, writes_bell, raises_bell, posting, AskEnd, posts, sees_clear, drains, AnswerEnd, finds_none, serves, look_run, post_run}
use Rattle.channel_core.specs.declared.sent.Sent.{Sent}
use Rattle.channel_plain.specs.declared.trace.Asked.{Asked}
use Rattle.channel_plain.specs.declared.trace.TraceEnd.{TraceEnd}
use Rattle.channel_plain.specs.declared.trace.TraceEnd.TheVariants as end
use Rattle.channel_plain.specs.declared.trace.TraceLine.{TraceLine}
use Rattle.channel_plain.specs.WordRuns.{Answered, Answers, AnswerWalks, Calls, Cut, IsAnswering, IsAsking, IsRun, IsUnfinished, Serves, Turn, Turns, Walks, answer_from, answer_on, answered_end, begins, block_after, delays, from_opening, gives_up, goes_on, idles, looking, looks_on, next_of, posts_call, refuses, rest_of, sending, sends, takes, unanswered, whole}
use Rattle.channel_plain.specs.WordRuns.{none, more}
use Rattle.channel_core.specs.Sendings.{is_late}
use Rattle.channel_plain.specs.Picks.{drained_end, given_up_end}
use Rattle.channel_plain.specs.declared.trace.Side.TheVariants.{System, Platform}
use Rattle.channel_plain.specs.WorkedPicks.{line, no_bytes, swap_call, wired}
use Rattle.channel_plain.specs.LostEnds.{lost_clear, lost_done, lost_idle, lost_posted, lost_served, one_call}
use Rattle.std.proofs.lemmas.List.{append-nil, append_assoc}

-- ---- the end of a line

some_same : {A : Type 0} (x y : A) → Some x ≡ Some y → x ≡ y
some_same {A = A} x y e = cc

none_left : (e : AskEnd) (rest : Run AskEnd) → ends e ≡ rest → IsUnfinished rest → ⊥
none_left e rest q u = let n : None ≡ Some u.0 = ap next_of q ∙ u.1 in absurd (cc n)

none_left_a : (e : AnswerEnd) (rest : Run AnswerEnd) → ends e ≡ rest → IsUnfinished rest → ⊥
none_left_a e rest q u = let n : None ≡ Some u.0 = ap next_of q ∙ u.1 in absurd (cc n)

given_up_says : (b : Bool) (n : ℕ) → given_up_end b n ≡ end.Open → ⊥
given_up_says true n e = cc
given_up_says false n e = cc

drained_says : (b e : Bool) → drained_end b e ≡ end.Open → ⊥
drained_says true e q = cc
drained_says false e q = cc

last_same : (ls ms : List TraceLine) (l m : TraceLine) → ls ++ l ∷ [] ≡ ms ++ m ∷ [] → l ≡ m
last_same [] [] l m e = cc
last_same [] (n ∷ []) l m e = absurd (cc e)
last_same [] (n ∷ k ∷ ms) l m e = absurd (cc e)
last_same (n ∷ []) [] l m e = absurd (cc e)
last_same (n ∷ k ∷ ls) [] l m e = absurd (cc e)
last_same (n ∷ ls) (k ∷ ms) l m e = last_same ls ms l m cc

module _ (w : Wiring) (limits : Limits) (calls : List Asked) where
  says : (s t : Calls) (ms ls : List TraceLine) (l : TraceLine) → ms ≡ ls ++ l ∷ [] → Turn w limits calls s ms t → l.action ≢ Rest → l.end ≢ end.Open
  says s t ms ls l e (idles _ m at rests) act opened = let q = last_same [] ls m l e in act (ap (λ (l : TraceLine). l.action) (sym q) ∙ rests.0)
  says s t ms ls l e (refuses _ c o m b at refused rests) act opened = let q = last_same [] ls m l e in act (ap (λ (l : TraceLine). l.action) (sym q) ∙ rests.0)
  says s t ms ls l e (delays _ s' c r m sv free lt rests) act opened = let q = last_same [] ls m l e in act (ap (λ (l : TraceLine). l.action) (sym q) ∙ rests.0)
  says s t ms ls l e (sends _ s' c r ns m sv free le run is) act opened = let q = last_same ns ls m l e in let n : end.Posted ≡ end.Open = sym is ∙ (ap (λ (l : TraceLine). l.end) q ∙ opened) in absurd (cc n)
  says s t ms ls l e (looks_on _ s' c p ns m sv es lt run is) act opened = let q = last_same ns ls m l e in let n : end.Clear (s'.looks + 1) ≡ end.Open = sym is ∙ (ap (λ (l : TraceLine). l.end) q ∙ opened) in absurd (cc n)
  says s t ms ls l e (gives_up _ s' c p ns m sv es lt run is) act opened = let q = last_same ns ls m l e in given_up_says (is_late p) c.polls (sym is ∙ (ap (λ (l : TraceLine). l.end) q ∙ opened))
  says s t ms ls l e (takes _ s' c p r error block ns m sv es run is) act opened = let q = last_same ns ls m l e in drained_says (is_late p) error (sym is ∙ (ap (λ (l : TraceLine). l.end) q ∙ opened))

pub asks_say : (w : Wiring) (limits : Limits) (calls : List Asked) (s t : Calls) (ls : List TraceLine) (l : TraceLine)
    → Turn w limits calls s (ls ++ l ∷ []) t → l.action ≢ Rest → l.end ≢ end.Open
asks_say w limits calls s t ls l h = says w limits calls s t (ls ++ l ∷ []) ls l refl h

-- ---- whole runs

ends_there : (run rest : Run AskEnd) (ls : List TraceLine) (l : TraceLine) (e : AskEnd) → IsRun run ls l e → Walks run (ls ++ l ∷ []) rest → ends e ≡ rest
ends_there run rest [] l e h w = sym h.ends ∙ (ap (λ (r : Run AskEnd). rest_of r l.value) (sym h.walks) ∙ w.2)
ends_there run rest (m ∷ ms) l e h w = ends_there (rest_of run m.value) rest ms l e (record { rest = h.rest; walks = h.walks.2; last = h.last; ends = h.ends }) w.2

pub not_cut : (run rest : Run AskEnd) (ls : List TraceLine) (l : TraceLine) (e : AskEnd) → IsRun run ls l e → Walks run (ls ++ l ∷ []) rest
    → IsUnfinished rest → ⊥
not_cut run rest ls l e h w u = none_left e rest (ends_there run rest ls l e h w) u

module _ (exec : Device) (w : Wiring) where
  answer_there : (a b c : Answered) (ls : List TraceLine) (l : TraceLine) → AnswerWalks exec w a ls b → AnswerWalks exec w a (ls ++ l ∷ []) c
      → answer_on exec w b l.value ≡ c
  answer_there a b c [] l h g = ap (λ (x : Answered). answer_on exec w x l.value) (sym h) ∙ g.2
  answer_there a b c (m ∷ ms) l h g = answer_there (answer_on exec w a m.value) b c ms l h.2 g.2

pub answer_not_cut : (exec : Device) (w : Wiring) (a b c : Answered) (ls : List TraceLine) (l : TraceLine) (e : AnswerEnd)
    → AnswerWalks exec w a ls b → next_of b.run ≡ Some l.action → (answer_on exec w b l.value).run ≡ ends e → AnswerWalks exec w a (ls ++ l ∷ []) c
    → IsUnfinished c.run → ⊥
answer_not_cut exec w a b c ls l e h n q g u = none_left_a e c.run (sym q ∙ ap (λ (x : Answered). x.run) (answer_there exec w a b c ls l h g)) u

-- ---- lines without an end

-- a word step that ends no run
abbrev is_open : TraceEnd → Bool
is_open end.Open = true
is_open _ = false

abbrev is_step : Action → Bool
is_step Rest = false
is_step _ = true

abbrev both : Bool → Bool → Bool
both true b = b
both false b = false

abbrev mid : TraceLine → Bool
mid l = both (is_open l.end) (is_step l.action)

abbrev all_mid : List TraceLine → Bool
all_mid [] = true
all_mid (l ∷ ls) = both (mid l) (all_mid ls)

-- the longest part at the end that ends no run
abbrev tail_by : Bool → List TraceLine → List TraceLine → List TraceLine
tail_by true all rest = all
tail_by false all rest = rest

abbrev open_tail : List TraceLine → List TraceLine
open_tail [] = []
open_tail (l ∷ ls) = tail_by (all_mid (l ∷ ls)) (l ∷ ls) (open_tail ls)

-- the list is empty, or its last line ends a run or is no word step
abbrev StopsWell : List TraceLine → Type 0
StopsWell ls = (ls ≡ []) ⊎ ((ms : List TraceLine) × (m : TraceLine) × (ls ≡ ms ++ m ∷ []) × (mid m ≡ false))

both_true : (a b : Bool) → a ≡ true → b ≡ true → both a b ≡ true
both_true true b e f = f
both_true false b e f = absurd (cc e)

both_right : (a b : Bool) → b ≡ false → both a b ≡ false
both_right true b e = e
both_right false b e = refl

both_fst : (a b : Bool) → both a b ≡ true → a ≡ true
both_fst true b e = refl
both_fst false b e = absurd (cc e)

both_snd : (a b : Bool) → both a b ≡ true → b ≡ true
both_snd true b e = e
both_snd false b e = absurd (cc e)

no_step : (l : TraceLine) → l.action ≡ Rest → mid l ≡ false
no_step l e = both_right (is_open l.end) (is_step l.action) (ap is_step e)

has_end : (l : TraceLine) (e : TraceEnd) → l.end ≡ e → is_open e ≡ false → mid l ≡ false
has_end l e q n = ap (λ (b : Bool). both b (is_step l.action)) (ap is_open q ∙ n)

step_of : {E : Type 0} (run : Run E) (a : Action) → next_of run ≡ Some a → is_step a ≡ true
step_of (ends e) a q = absurd (cc q)
step_of (loads p k) a q = ap is_step (sym (some_same (Load p) a q))
step_of (stores p u k) a q = ap is_step (sym (some_same (Store p u) a q))
step_of (swaps p u k) a q = ap is_step (sym (some_same (Swap p u) a q))
step_of (executes c s k) a q = absurd (cc q)

walks_mid : (run rest : Run AskEnd) (ls : List TraceLine) → Walks run ls rest → all_mid ls ≡ true
walks_mid run rest [] h = refl
walks_mid run rest (l ∷ ls) h = both_true (mid l) (all_mid ls) (both_true (is_open l.end) (is_step l.action) (ap is_open h.1) (step_of run l.action h.0)) (walks_mid (rest_of run l.value) rest ls h.2)

answer_mid : (exec : Device) (w : Wiring) (a b : Answered) (ls : List TraceLine) → AnswerWalks exec w a ls b → all_mid ls ≡ true
answer_mid exec w a b [] h = refl
answer_mid exec w a b (l ∷ ls) h = both_true (mid l) (all_mid ls) (both_true (is_open l.end) (is_step l.action) (ap is_open h.1) (step_of a.run l.action h.0)) (answer_mid exec w (answer_on exec w a l.value) b ls h.2)

front_mid : (ls ms : List TraceLine) → all_mid (ls ++ ms) ≡ true → all_mid ls ≡ true
front_mid [] ms e = refl
front_mid (l ∷ ls) ms e = both_true (mid l) (all_mid ls) (both_fst (mid l) (all_mid (ls ++ ms)) e) (front_mid ls ms (both_snd (mid l) (all_mid (ls ++ ms)) e))

stops_not : (ms : List TraceLine) (m : TraceLine) (xs : List TraceLine) → mid m ≡ false → all_mid ((ms ++ m ∷ []) ++ xs) ≡ false
stops_not [] m xs e = ap (λ (b : Bool). both b (all_mid xs)) e
stops_not (n ∷ ms) m xs e = both_right (mid n) (all_mid ((ms ++ m ∷ []) ++ xs)) (stops_not ms m xs e)

tail_all : (xs : List TraceLine) → all_mid xs ≡ true → open_tail xs ≡ xs
tail_all [] e = refl
tail_all (x ∷ xs) e = ap (λ (b : Bool). tail_by b (x ∷ xs) (open_tail xs)) e

tail_after : (ms : List TraceLine) (m : TraceLine) (xs : List TraceLine) → mid m ≡ false → all_mid xs ≡ true → open_tail ((ms ++ m ∷ []) ++ xs) ≡ xs
tail_after [] m xs e f = ap (λ (b : Bool). tail_by b (m ∷ xs) (open_tail xs)) (ap (λ (b : Bool). both b (all_mid xs)) e) ∙ tail_all xs f
tail_after (n ∷ ms) m xs e f = ap (λ (b : Bool). tail_by b (n ∷ ((ms ++ m ∷ []) ++ xs)) (open_tail ((ms ++ m ∷ []) ++ xs))) (stops_not (n ∷ ms) m xs e) ∙ tail_after ms m xs e f

tail_of : (past xs : List TraceLine) → StopsWell past → all_mid xs ≡ true → open_tail (past ++ xs) ≡ xs
tail_of past xs (inl e) f = ap (λ (p : List TraceLine). open_tail (p ++ xs)) e ∙ tail_all xs f
tail_of past xs (inr h) f = ap (λ (p : List TraceLine). open_tail (p ++ xs)) h.2 ∙ tail_after h.0 h.1 xs h.3 f

not_mid : (ls : List TraceLine) → StopsWell ls → all_mid ls ≡ true → ls ≡ []
not_mid ls (inl e) f = e
not_mid ls (inr h) f = absurd (differ (all_mid ls) f (ap all_mid (h.2 ∙ sym (append-nil (h.0 ++ h.1 ∷ []))) ∙ stops_not h.0 h.1 [] h.3))
  where
    differ : (b : Bool) → b ≡ true → b ≡ false → ⊥
    differ b e f = cc

-- ---- whole runs stop with an end

given_up_ends : (b : Bool) (n : ℕ) → is_open (given_up_end b n) ≡ false
given_up_ends true n = refl
given_up_ends false n = refl

drained_ends : (b e : Bool) → is_open (drained_end b e) ≡ false
drained_ends true e = refl
drained_ends false e = refl

answered_ends : (exec : Device) (w : Wiring) (e : AnswerEnd) → is_open (answered_end exec w e) ≡ false
answered_ends exec w finds_none = refl
answered_ends exec w serves = refl

abbrev Stops : List TraceLine → Type 0
Stops ls = (ms : List TraceLine) × (m : TraceLine) × (ls ≡ ms ++ m ∷ []) × (mid m ≡ false)

stops_after : (ls ms : List TraceLine) → Stops ms → Stops (ls ++ ms)
stops_after ls ms h = (ls ++ h.0, h.1, ap (λ (x : List TraceLine). ls ++ x) h.2 ∙ sym (append_assoc ls h.0 (h.1 ∷ [])), h.3)

module _ (w : Wiring) (limits : Limits) (calls : List Asked) where
  turn_stops : (s t : Calls) (ms : List TraceLine) → Turn w limits calls s ms t → Stops ms
  turn_stops s t ms (idles _ m at rests) = ([], m, refl, no_step m rests.0)
  turn_stops s t ms (refuses _ c o m b at refused rests) = ([], m, refl, no_step m rests.0)
  turn_stops s t ms (delays _ s' c r m sv free lt rests) = ([], m, refl, no_step m rests.0)
  turn_stops s t ms' (sends _ s' c r ns m sv free le run is) = (ns, m, refl, has_end m end.Posted is refl)
  turn_stops s t ms' (looks_on _ s' c p ns m sv es lt run is) = (ns, m, refl, has_end m (end.Clear (s'.looks + 1)) is refl)
  turn_stops s t ms' (gives_up _ s' c p ns m sv es lt run is) = (ns, m, refl, has_end m (given_up_end (is_late p) c.polls) is (given_up_ends (is_late p) c.polls))
  turn_stops s t ms' (takes _ s' c p r error block ns m sv es run is) = (ns, m, refl, has_end m (drained_end (is_late p) error) is (drained_ends (is_late p) error))

  turns_stop : (x y : Calls) (ls : List TraceLine) → Turns w limits calls x ls y → StopsWell ls
  turns_stop x y ls none = inl refl
  turns_stop x y ls' (more ls ms s u before turn) = inr (stops_after ls ms (turn_stops s u ms turn))

  -- no run has ended
  none_ended : (x y : Calls) (ls : List TraceLine) → Turns w limits calls x ls y → ls ≡ [] → x ≡ y
  none_ended x y ls none e = refl
  none_ended x y ls' (more ls ms s u before turn) e = let h = stops_after ls ms (turn_stops s u ms turn) in absurd (longer h.0 h.1 (sym h.2 ∙ e))
    where
      longer : (ms : List TraceLine) (m : TraceLine) → ms ++ m ∷ [] ≡ [] → ⊥
      longer [] m e = cc
      longer (n ∷ ms) m e = cc

  cut_mid : (x : Calls) (ls : List TraceLine) (rs : List ℕ) → Cut w limits calls x ls rs → all_mid ls ≡ true
  cut_mid x ls rs (whole _) = refl
  cut_mid x ls rs (sending _ s' c r l ms rest sv free le walks left) = walks_mid (posts_call w c s'.block) rest (l ∷ ms) walks
  cut_mid x ls rs (looking _ s' c p l ms rest sv es walks left) = walks_mid (look_run w) rest (l ∷ ms) walks

  served_sent : (x y : Calls) (c : Asked) → Serves w limits calls x c y → (y.sent ≡ x.sent) × (y.block ≡ x.block) × (slice_get calls x.ended ≡ Some c)
  served_sent x y c (goes_on _ _ b at) = (refl, refl, at)
  served_sent x y c (begins _ _ b at free) = (refl, refl, at)

  module _ (opening : List ℕ) (lines : List TraceLine) (readings : List ℕ) (records : List Record) (sent : Option Sent) where
    -- the run that is cut is what is left after the last end
    cut_tail : IsAsking w limits calls opening lines readings records sent
        → (x : Calls) × (rs : List ℕ) × Cut w limits calls x (open_tail lines) rs × (all_mid lines ≡ true → x ≡ from_opening w limits calls opening)
    cut_tail a = (
      a.after,
      a.taken,
      subst (λ (ls : List TraceLine). Cut w limits calls a.after ls a.taken) (sym (tail_of a.past a.last stops (cut_mid a.after a.last a.taken a.cut)) ∙ ap open_tail (sym a.all)) a.cut,
      λ e. sym (none_ended (from_opening w limits calls opening) a.after a.past a.runs (not_mid a.past stops (front_mid a.past a.last (ap all_mid (sym a.all) ∙ e)))),
    )
      where
        stops : StopsWell a.past
        stops = turns_stop (from_opening w limits calls opening) a.after a.past a.runs

module _ (exec : Device) (w : Wiring) (start : List ℕ) where
  answers_stop : (ls : List TraceLine) (d : List ℕ) (es : List Exchange) → Answers exec w start ls d es → StopsWell ls
  answers_stop ls d es unanswered = inl refl
  answers_stop ls' d es (more ls ms l e0 es0 b e before walks n q is) = inr (stops_after ls (ms ++ l ∷ []) (ms, l, refl, has_end l (answered_end exec w e) is (answered_ends exec w e)))

  none_answered : (ls : List TraceLine) (d : List ℕ) (es : List Exchange) → Answers exec w start ls d es → ls ≡ [] → (d ≡ start) × (es ≡ [])
  none_answered ls d es unanswered e = (refl, refl)
  none_answered ls' d es (more ls ms l e0 es0 b e before walks n q is) z = absurd (longer ls ms l z)
    where
      longer : (ls ms : List TraceLine) (l : TraceLine) → ls ++ (ms ++ l ∷ []) ≡ [] → ⊥
      longer [] [] l e = cc
      longer [] (m ∷ ms) l e = cc
      longer (k ∷ ls) ms l e = cc

  answer_tail : (lines : List TraceLine) (executed : List Exchange) → IsAnswering exec w start lines executed
      → (d : List ℕ) × (es : List Exchange) × (b : Answered) × AnswerWalks exec w (answer_from exec w d es) (open_tail lines) b × IsUnfinished b.run × (all_mid lines ≡ true → (d ≡ start) × (es ≡ []))
  answer_tail lines executed a = (
    a.device,
    a.before,
    a.now,
    subst (λ (ls : List TraceLine). AnswerWalks exec w (answer_from exec w a.device a.before) ls a.now) (sym (tail_of a.past a.last stops (answer_mid exec w (answer_from exec w a.device a.before) a.now a.last a.cut)) ∙ ap open_tail (sym a.all)) a.cut,
    a.unfinished,
    λ e. none_answered a.past a.device a.before a.runs (not_mid a.past stops (front_mid a.past a.last (ap all_mid (sym a.all) ∙ e))),
  )
    where
      stops : StopsWell a.past
      stops = answers_stop a.past a.device a.before a.runs

-- ---- the traces

abbrev w0 : Wiring
w0 = wired 0 false false

abbrev free_limits : Limits
free_limits = record { turnaround = 0; per_minute = 0 }

-- a post of types 0 to 2 begins with a store: of the first word of the block that changed, or else of the header
either_first : (b : Bool) (p u : ℕ) (run next : Run AskEnd) → (next_of run ≡ Some (Load 0) → ⊥) → next_of (if b then run else stores p u next) ≡ Some (Load 0) → ⊥
either_first true p u run next h e = h e
either_first false p u run next h e = cc

changed_first : (p : ℕ) (block old : List ℕ) (run : Run AskEnd) → (next_of run ≡ Some (Load 0) → ⊥) → next_of (store_changed p block old run) ≡ Some (Load 0) → ⊥
changed_first p [] old run h e = h e
changed_first p (b ∷ bs) [] run h e = cc
changed_first p (b ∷ bs) (o ∷ os) run h e = either_first (b == o) p b (store_changed (p + 1) bs os run) (store_changed (p + 1) bs os run) (changed_first (p + 1) bs os run h) e

stores_first : (code : ℕ) (block old : List ℕ) → next_of (post_run w0 code block old) ≡ Some (Load 0) → ⊥
stores_first code block old e = changed_first 8 block old (posting (stores_header ∷ writes_bell ∷ raises_bell ∷ []) w0 code block old) (λ q. cc) e

abbrev five : List TraceLine
five = line System (Store 8 513) 0 end.Open ∷ line System (Store 0 70066062080) 0 end.Open ∷ line System (Load 1) 0 end.Open ∷ line System (Store 1 1) 0 end.Open ∷ line System (Store 2 1) 0 end.Open ∷ []

abbrev first_block : List ℕ
first_block = opening_header (style_of w0) w0 ++ words_of no_bytes

posted_walk : (rest : Run AskEnd) → Walks (posts_call w0 (swap_call 0 (1 ∷ 2 ∷ []) 3) first_block) five rest → ends posts ≡ rest
unfolding word_bytes word_of
posted_walk rest h = h.2.2.2.2.2

posted_off : (x : Calls) (ls : List TraceLine) (rs : List ℕ) → Cut w0 free_limits one_call x ls rs → ls ≡ five
    → x ≡ from_opening w0 free_limits one_call no_bytes → ⊥
posted_off x ls rs (whole _) e q = cc
posted_off x ls rs (sending _ s' c r l ms rest sv free le walks left) e q = let h = served_sent w0 free_limits one_call x s' c sv in
    let at : c ≡ swap_call 0 (1 ∷ 2 ∷ []) 3 = sym (some_same (swap_call 0 (1 ∷ 2 ∷ []) 3) c (ap (λ (x : Calls). slice_get one_call x.ended) (sym q) ∙ h.2)) in
    let block : s'.block ≡ first_block = h.1 ∙ ap (λ (x : Calls). x.block) q in
    none_left posts rest (posted_walk rest (subst (λ (z : Asked × List ℕ × List TraceLine). Walks (posts_call w0 z.0 z.1) z.2 rest) (λ i. (at i, block i, e i)) walks)) left
posted_off x ls rs (looking _ s' c p l ms rest sv es walks left) e q = let h = served_sent w0 free_limits one_call x s' c sv in
    let n : Some p ≡ None = sym es ∙ (h.0 ∙ ap (λ (x : Calls). x.sent) q) in absurd (cc n)

-- the steps of a look
look_off : (x : Calls) (ls : List TraceLine) (rs : List ℕ) (m : TraceLine) (ns : List TraceLine) (e : AskEnd) → m.action ≡ Load 0
    → ((rest : Run AskEnd) → Walks (look_run w0) (m ∷ ns) rest → ends e ≡ rest) → Cut w0 free_limits one_call x ls rs → ls ≡ m ∷ ns → ⊥
look_off x ls rs m ns k act done (whole _) e = cc
look_off x ls rs m ns k act done (sending _ s' c r l ms rest sv free le walks left) e = let h : Walks (posts_call w0 c s'.block) (m ∷ ns) rest = subst (λ (z : List TraceLine). Walks (posts_call w0 c s'.block) z rest) e walks in
    stores_first c.code (block_after w0 c s'.block) s'.block (h.0 ∙ ap Some act)
look_off x ls rs m ns k act done (looking _ s' c p l ms rest sv es walks left) e = none_left k rest (done rest (subst (λ (z : List TraceLine). Walks (look_run w0) z rest) e walks)) left

abbrev seen_clear : TraceLine
seen_clear = line System (Load 0) 70066062080 end.Open

abbrev seen_done : TraceLine
seen_done = line System (Load 0) 281545042772736 end.Open

abbrev took : TraceLine
took = line System (Load 8) 0 end.Open

pub posted : lost_posted
posted readings records sent executed h = let t = cut_tail w0 free_limits one_call no_bytes five readings records sent h.asking in posted_off t.0 five t.1 t.2 refl (t.3 refl)

pub clear : lost_clear
clear readings records sent executed h = let t = cut_tail w0 free_limits one_call no_bytes _ readings records sent h.asking in look_off t.0 (seen_clear ∷ []) t.1 seen_clear [] sees_clear refl (λ rest w. w.2) t.2 refl

pub done : lost_done
done readings records sent executed h = let t = cut_tail w0 free_limits one_call no_bytes _ readings records sent h.asking in look_off t.0 (seen_done ∷ took ∷ []) t.1 seen_done (took ∷ []) (drains false (0 ∷ [])) refl (λ rest w. w.2.2) t.2 refl

pub idle : lost_idle
idle readings records sent executed h = let t = answer_tail bank_exec w0 (0 ∷ no_bytes) (line Platform (Swap 2 0) 0 end.Open ∷ []) executed h.answering in
    none_left_a finds_none t.2.run (ap (λ (x : Answered). x.run) t.3.2) t.4

abbrev answer_lines : List TraceLine
answer_lines = line Platform (Swap 2 0) 1 end.Open ∷ line Platform (Load 0) 70066062080 end.Open ∷ line Platform (Load 8) 513 end.Open ∷ line Platform (Store 8 0) 0 end.Open ∷ line Platform (Store 0 281545042772736) 0 end.Open ∷ []

served_walk : (b : Answered) → AnswerWalks bank_exec w0 (answer_from bank_exec w0 (0 ∷ no_bytes) []) answer_lines b → ends serves ≡ b.run
unfolding word_of
served_walk b h = ap (λ (x : Answered). x.run) h.2.2.2.2.2

pub served : lost_served
served readings records sent executed h = let t = answer_tail bank_exec w0 (0 ∷ no_bytes) answer_lines executed h.answering in let q = t.5 refl in
    none_left_a serves t.2.run (served_walk t.2 (subst (λ (z : List ℕ × List Exchange). AnswerWalks bank_exec w0 (answer_from bank_exec w0 z.0 z.1) answer_lines t.2) (λ i. (q.0 i, q.1 i)) t.3)) t.4
