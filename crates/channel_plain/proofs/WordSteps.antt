-- The asking side of a trace is runs of the tables: what a pick adds to them.
use Rattle.std.proofs.Common.{◌≡◌, ℕ, ◌+◌, ◌<◌, ◌≤◌, Bool, true, false, nat_eq, List, [], ◌∷◌, ◌++◌, refl, sym, ap, ◌∙◌, subst, arith}
use Rattle.std.specs.Prelude.{Option, Some, None}
use Rattle.std.proofs.lemmas.List.{append-nil}
use Rattle.std.proofs.lemmas.Bool.Decides.{nat_tests}
use Rattle.rate_limit.specs.declared.Limits.{Limits}
use Rattle.pcc_steps.specs.declared.wiring.Wiring.{Wiring}
use Rattle.pcc_steps.specs.declared.wiring.Action.{Action}
use Rattle.pcc_steps.specs.declared.ask.AskStage.{AskStage}
use Rattle.pcc_steps.specs.declared.ask.AskOutcome.{AskOutcome}
use Rattle.pcc_steps.specs.declared.ask.AskOutcome.TheVariants.{Posted, Clear, Drained}
use Rattle.pcc_steps.specs.Runs.{Run, ends, loads, stores, swaps, executes, sees_clear, drains, look_run}
use Rattle.pcc_steps.specs.Walk.{Takes, ask_left, ask_after}
use Rattle.pcc_steps.specs.Asking.{Ask}
use Rattle.channel_core.specs.declared.sent.Sent.{Sent}
use Rattle.channel_core.specs.Sendings.{given_up_after, is_late, record_of}
use Rattle.channel_plain.specs.declared.trace.Asked.{Asked}
use Rattle.channel_plain.specs.declared.trace.Side.{Side}
use Rattle.channel_plain.specs.declared.trace.TraceEnd.TheVariants as end
use Rattle.channel_plain.specs.declared.trace.TraceLine.{TraceLine}
use Rattle.channel_plain.specs.Picks.{CallsState, PlainState, ask_ended, call_ended, clear_ended, drain_ended, drained, drained_calls, drained_end, given_up_end, next_reading, read_once, sent_by, takes_reading}
use Rattle.pcc_steps.specs.Carrying.{is_rest}
use Rattle.channel_plain.specs.Weaving.{reading_of}
use Rattle.channel_plain.specs.WordRuns.{Walks, Calls, Serves, Turn, Turns, more, sends, looks_on, gives_up, takes, end_call, take_reading, goes_on_if, block_after, posts_call, reading_at, earliest_at, replied, next_of, rest_of}
use Rattle.pcc_steps.proofs.AskFeeds.{Fed}
use Rattle.channel_plain.proofs.Blocks.{BlocksAfter}
use Rattle.channel_plain.proofs.Bools.{below, not_false}

-- ---- runs

pub takes_next : {E : Type 0} (run : Run E) (x : Action) (next : ℕ → Run E) → Takes run x next → next_of run ≡ Some x
takes_next (ends e) x next h = absurd h
takes_next (loads p f) x next h = ap Some (sym h.0)
takes_next (stores p u r) x next h = ap Some (sym h.0)
takes_next (swaps p u f) x next h = ap Some (sym h.0)
takes_next (executes c s f) x next h = absurd h

pub takes_rest : {E : Type 0} (run : Run E) (x : Action) (next : ℕ → Run E) (v : ℕ) → Takes run x next → rest_of run v ≡ next v
takes_rest (ends e) x next v h = absurd h
takes_rest (loads p f) x next v h = sym (h.1 v)
takes_rest (stores p u r) x next v h = sym (h.1 v)
takes_rest (swaps p u f) x next v h = sym (h.1 v)
takes_rest (executes c s f) x next v h = absurd h

pub walks_more : {E : Type 0} (run rest : Run E) (ls : List TraceLine) (l : TraceLine) → Walks run ls rest → next_of rest ≡ Some l.action → l.end ≡ end.Open
    → Walks run (ls ++ l ∷ []) (rest_of rest l.value)
walks_more run rest [] l w n e = (ap next_of w ∙ n, e, ap (λ (r : _). rest_of r l.value) w)
walks_more run rest (m ∷ ms) l w n e = (w.0, w.1, walks_more (rest_of run m.value) rest ms l w.2 n e)

walks_to : {E : Type 0} (run rest rest' : Run E) (ls : List TraceLine) → rest ≡ rest' → Walks run ls rest → Walks run ls rest'
walks_to run rest rest' ls e w = subst (λ (r : _). Walks run ls r) e w

level : (looks budget : ℕ) → nat_eq looks budget ≡ true → looks ≡ budget
level looks budget e = grind (arith, nat_tests)

-- ---- the calls of a trace, by the channel

-- the block that was loaded last, or the one that was stored for the command in flight
abbrev pub block_by : Option Sent → List ℕ → List ℕ → List ℕ
block_by None stored loaded = loaded
block_by (Some p) stored loaded = stored

abbrev pub calls_at : PlainState → Option Sent → List ℕ → Calls
calls_at s sent rs = record { ended = s.calls.ended; begun = s.calls.begun; looks = s.ask.looks; sent = sent; block = block_by sent s.ask.sent s.ask.shown; space = s.ask.space; records = s.calls.records; readings = rs }

module _ (w : Wiring) (limits : Limits) (calls : List Asked) where
  -- a run under way, for a call that is served since the calls stood so; it took these readings
  pub data Running (s : PlainState) (x : Calls) (ls : List TraceLine) : List ℕ → Type 0 where
    posts_run : (c : Asked) (r : ℕ) → s.ask.in_flight ≡ false → Serves w limits calls x c (calls_at s None x.readings)
        → s.calls.sent ≡ Some (sent_by c s.ask.space (reading_at x.readings r)) → s.ask.sent ≡ block_after w c s.ask.shown
        → earliest_at w limits calls (calls_at s None x.readings) ≤ r
        → Walks (posts_call w c s.ask.shown) ls (ask_left s.ask) → s.ask.budget ≡ c.polls → Running s x ls (r ∷ [])
    looks_run : (c : Asked) (p : Sent) → s.ask.in_flight ≡ true → Serves w limits calls x c (calls_at s s.calls.sent x.readings) → s.calls.sent ≡ Some p
        → Walks (look_run w) ls (ask_left s.ask) → s.ask.budget ≡ c.polls → Running s x ls []

  -- what the lines of the asking side have to do with the channel
  pub data AskTie (from : Calls) (s : PlainState) (lines : List TraceLine) (rs : List ℕ) : Type 0 where
    resting : is_rest s.ask.stage ≡ true → Turns w limits calls from lines (calls_at s s.calls.sent rs) → AskTie from s lines rs
    running : (past ls : List TraceLine) (l : TraceLine) (x : Calls) (taken : List ℕ) → is_rest s.ask.stage ≡ false → Turns w limits calls from past x
        → Running s x (ls ++ l ∷ []) taken → lines ≡ past ++ (ls ++ l ∷ []) → rs ≡ x.readings ++ taken → AskTie from s lines rs

  -- the end of a run is a turn
  pub turned : (from x y : Calls) (s : PlainState) (past ms lines : List TraceLine) (rs : List ℕ) → is_rest s.ask.stage ≡ true
      → Turns w limits calls from past x → Turn w limits calls x ms y → y ≡ calls_at s s.calls.sent rs → lines ≡ past ++ ms → AskTie from s lines rs
  turned from x y s past ms lines rs rest before t e q = resting rest (subst (λ (z : List TraceLine × Calls). Turns w limits calls from z.0 z.1) (λ i. (sym q i, e i)) (more past ms x y before t))

  -- the step of a run that posts
  post_turn : (told : Option AskOutcome) (st : AskStage) (s : PlainState) (b : Ask) (ws : List ℕ) (side : Side) (action : Action) (v r : ℕ)
      → Fed st s.ask b told → BlocksAfter told s.ask b → next_of (ask_left s.ask) ≡ Some action → rest_of (ask_left s.ask) v ≡ ask_after told b
      → (from x : Calls) (past ls : List TraceLine) (c : Asked) (q : ℕ) → Turns w limits calls from past x → s.ask.in_flight ≡ false
      → Serves w limits calls x c (calls_at s None x.readings) → s.calls.sent ≡ Some (sent_by c s.ask.space (reading_at x.readings q))
      → s.ask.sent ≡ block_after w c s.ask.shown → earliest_at w limits calls (calls_at s None x.readings) ≤ q
      → Walks (posts_call w c s.ask.shown) ls (ask_left s.ask) → s.ask.budget ≡ c.polls
      → AskTie from (record s { words = ws; ask = b; calls = (ask_ended told r b s.calls).calls }) (past ++ (ls ++ record { side = side; action = action; value = v; end = (ask_ended told r b s.calls).end } ∷ [])) ((x.readings ++ q ∷ []) ++ reading_of (takes_reading told) r)
  post_turn None st s b ws side action v r f k next rest from x past ls c q before free sv sent blk le walks polls =
      let l : TraceLine = record { side = side; action = action; value = v; end = end.Open } in let t : PlainState = record s { words = ws; ask = b } in
      let same : calls_at s None x.readings ≡ calls_at t None x.readings = λ i. record (calls_at s None x.readings) { looks = sym f.looks i; block = sym k.1 i; space = sym f.space i } in
      running past ls l x (q ∷ []) f.rests before
      (posts_run c q (f.flies ∙ free) (subst (λ (z : Calls). Serves w limits calls x c z) same sv) (sent ∙ ap (λ (o : List ℕ). Some (sent_by c o (reading_at x.readings q))) (sym f.space)) (k.0 ∙ blk ∙ ap (block_after w c) (sym k.1)) (subst (λ (z : Calls). earliest_at w limits calls z ≤ q) same le)
      (subst (λ (o : List ℕ). Walks (posts_call w c o) (ls ++ l ∷ []) (ask_left b)) (sym k.1) (walks_to (posts_call w c s.ask.shown) (rest_of (ask_left s.ask) v) (ask_left b) (ls ++ l ∷ []) rest (walks_more (posts_call w c s.ask.shown) (ask_left s.ask) ls l walks next refl))) (f.budget ∙ polls))
      refl (append-nil (x.readings ++ q ∷ []))
  post_turn (Some Posted) st s b ws side action v r f k next rest from x past ls c q before free sv sent blk le walks polls =
      let l : TraceLine = record { side = side; action = action; value = v; end = end.Posted } in let t : PlainState = record s { words = ws; ask = b } in let y : Calls = calls_at s None x.readings in
      turned from x (record (take_reading y q) { sent = Some (sent_by c y.space (reading_at y.readings q)); block = block_after w c y.block; looks = 0 }) t past (ls ++ l ∷ []) (past ++ (ls ++ l ∷ [])) ((x.readings ++ q ∷ []) ++ []) f.rests before
      (sends x y c q ls l sv refl le (record { rest = ask_left s.ask; walks = walks; last = next; ends = rest }) refl)
      (λ i. record { ended = s.calls.ended; begun = s.calls.begun; looks = sym f.looks i; sent = sym sent i; block = (sym blk ∙ (sym k.0 ∙ ap (λ (o : Option Sent). block_by o b.sent b.shown) (sym sent))) i; space = sym f.space i; records = s.calls.records; readings = sym (append-nil (x.readings ++ q ∷ [])) i }) refl
  post_turn (Some Clear) st s b ws side action v r f k next rest from x past ls c q before free sv sent blk le walks polls = absurd (not_false s.ask.in_flight f.sure.1 free)
  post_turn (Some (Drained e)) st s b ws side action v r f k next rest from x past ls c q before free sv sent blk le walks polls = absurd (not_false s.ask.in_flight f.sure.1 free)

  -- a look that saw the command incomplete
  clear_turn : (last : Bool) (st : AskStage) (s : PlainState) (b : Ask) (ws : List ℕ) (side : Side) (action : Action) (v r : ℕ) (p : Sent) (k : CallsState) → s.calls ≡ record k { sent = Some p } → nat_eq b.looks b.budget ≡ last → b.looks ≤ b.budget → Fed st s.ask b (Some Clear) → BlocksAfter (Some Clear) s.ask b → next_of (ask_left s.ask) ≡ Some action → rest_of (ask_left s.ask) v ≡ ends sees_clear
      → (from x : Calls) (past ls : List TraceLine) (c : Asked) → Turns w limits calls from past x → Serves w limits calls x c (calls_at s (Some p) x.readings) → Walks (look_run w) ls (ask_left s.ask) → s.ask.budget ≡ c.polls
      → AskTie from (record s { words = ws; ask = b; calls = (clear_ended last b.looks (record k { sent = Some p })).calls }) (past ++ (ls ++ record { side = side; action = action; value = v; end = (clear_ended last b.looks (record k { sent = Some p })).end } ∷ [])) ((x.readings ++ []) ++ [])
  clear_turn false st s b ws side action v r p k ek test left f bs next rest from x past ls c before sv walks polls =
      let l : TraceLine = record { side = side; action = action; value = v; end = end.Clear b.looks } in let t : PlainState = record s { words = ws; ask = b; calls = record k { sent = Some p } } in let y : Calls = calls_at s (Some p) x.readings in
      turned from x (record y { looks = y.looks + 1 }) t past (ls ++ l ∷ []) (past ++ (ls ++ l ∷ [])) ((x.readings ++ []) ++ []) f.rests before
      (looks_on x y c p ls l sv refl (subst (λ (z : ℕ × ℕ). z.0 < z.1) (λ i. (f.looks i, (f.budget ∙ polls) i)) (below b.looks b.budget left test)) (record { rest = ask_left s.ask; walks = walks; last = next; ends = rest }) (ap (λ (n : ℕ). end.Clear n) f.looks))
      (λ i. record { ended = (ek i).ended; begun = (ek i).begun; looks = sym f.looks i; sent = Some p; block = sym bs.0 i; space = sym f.space i; records = (ek i).records; readings = (sym (append-nil x.readings) ∙ sym (append-nil (x.readings ++ []))) i }) refl
  clear_turn true st s b ws side action v r p k ek test left f bs next rest from x past ls c before sv walks polls =
      let l : TraceLine = record { side = side; action = action; value = v; end = given_up_end (is_late p) b.looks } in let t : PlainState = record s { words = ws; ask = b; calls = call_ended (record k { sent = given_up_after b.looks (Some p) }) } in let y : Calls = calls_at s (Some p) x.readings in
      let full : y.looks + 1 ≡ c.polls = sym f.looks ∙ (level b.looks b.budget test ∙ (f.budget ∙ polls)) in
      let all : c.polls ≡ b.looks = sym (f.looks ∙ full) in
      turned from x (end_call (record y { looks = y.looks + 1; sent = given_up_after c.polls (Some p) })) t past (ls ++ l ∷ []) (past ++ (ls ++ l ∷ [])) ((x.readings ++ []) ++ []) f.rests before
      (gives_up x y c p ls l sv refl full (record { rest = ask_left s.ask; walks = walks; last = next; ends = rest }) (ap (λ (n : ℕ). given_up_end (is_late p) n) (f.looks ∙ full)))
      (λ i. record { ended = (ek i).ended + 1; begun = false; looks = sym f.looks i; sent = given_up_after (all i) (Some p); block = sym bs.0 i; space = sym f.space i; records = (ek i).records; readings = (sym (append-nil x.readings) ∙ sym (append-nil (x.readings ++ []))) i }) refl

  -- a look that took the reply
  goes_on_at : (late : Bool) (y : Calls) (k : CallsState) (b : Ask) (rs : List ℕ) (s : PlainState) → y ≡ record { ended = k.ended; begun = k.begun; looks = b.looks; sent = None; block = b.shown; space = b.space; records = k.records; readings = rs } → k.sent ≡ None → goes_on_if late y ≡ calls_at (record s { ask = b; calls = drained_calls late k }) (drained_calls late k).sent rs
  goes_on_at true y k b rs s e n = e ∙ ap (λ (o : Option Sent). record { ended = k.ended; begun = k.begun; looks = b.looks; sent = o; block = block_by o b.sent b.shown; space = b.space; records = k.records; readings = rs }) (sym n)
  goes_on_at false y k b rs s e n = ap end_call e ∙ ap (λ (o : Option Sent). record { ended = k.ended + 1; begun = false; looks = b.looks; sent = o; block = block_by o b.sent b.shown; space = b.space; records = k.records; readings = rs }) (sym n)

  drain_turn : (st : AskStage) (s : PlainState) (b : Ask) (ws : List ℕ) (side : Side) (action : Action) (v r : ℕ) (e : Bool) (p : Sent) (k : CallsState) → s.calls ≡ record k { sent = Some p } → Fed st s.ask b (Some (Drained e)) → b.wiring ≡ w → next_of (ask_left s.ask) ≡ Some action → rest_of (ask_left s.ask) v ≡ ends (drains e b.shown)
      → (from x : Calls) (past ls : List TraceLine) (c : Asked) → Turns w limits calls from past x → Serves w limits calls x c (calls_at s (Some p) x.readings) → Walks (look_run w) ls (ask_left s.ask)
      → AskTie from (record s { words = ws; ask = b; calls = (drain_ended e b.space r (record k { sent = Some p })).calls }) (past ++ (ls ++ record { side = side; action = action; value = v; end = (drain_ended e b.space r (record k { sent = Some p })).end } ∷ [])) ((x.readings ++ []) ++ r ∷ [])
  drain_turn st s b ws side action v r e p k ek f wired next rest from x past ls c before sv walks =
      let l : TraceLine = record { side = side; action = action; value = v; end = drained_end (is_late p) e } in let y : Calls = calls_at s (Some p) x.readings in
      let d : CallsState = drained e b.space (next_reading r (record k { sent = Some p })) (read_once (record k { sent = Some p })) in let t : PlainState = record s { words = ws; ask = b; calls = drained_calls (is_late p) d } in
      let out : replied w b.shown ≡ b.space = ap (λ (w : Wiring). replied w b.shown) (sym wired) ∙ sym f.space in
      turned from x (goes_on_if (is_late p) (record (take_reading y r) { sent = None; block = b.shown; space = replied w b.shown; records = y.records ++ record_of p e (replied w b.shown) r ∷ [] })) t past (ls ++ l ∷ []) (past ++ (ls ++ l ∷ [])) ((x.readings ++ []) ++ r ∷ []) f.rests before
      (takes x y c p r e b.shown ls l sv refl (record { rest = ask_left s.ask; walks = walks; last = next; ends = rest }) refl)
      (goes_on_at (is_late p) (record (take_reading y r) { sent = None; block = b.shown; space = replied w b.shown; records = y.records ++ record_of p e (replied w b.shown) r ∷ [] }) d b ((x.readings ++ []) ++ r ∷ []) (record s { words = ws })
      (λ i. record { ended = (ek i).ended; begun = (ek i).begun; looks = sym f.looks i; sent = None; block = b.shown; space = out i; records = (ek i).records ++ record_of p e (out i) r ∷ []; readings = sym (append-nil x.readings) i ++ r ∷ [] }) refl) refl

  -- the step of a look
  look_turn : (told : Option AskOutcome) (st : AskStage) (s : PlainState) (b : Ask) (ws : List ℕ) (side : Side) (action : Action) (v r : ℕ) (p : Sent) (k : CallsState) → s.calls ≡ record k { sent = Some p } → Fed st s.ask b told → BlocksAfter told s.ask b → b.looks ≤ b.budget → b.wiring ≡ w → next_of (ask_left s.ask) ≡ Some action → rest_of (ask_left s.ask) v ≡ ask_after told b
      → (from x : Calls) (past ls : List TraceLine) (c : Asked) → Turns w limits calls from past x → s.ask.in_flight ≡ true → Serves w limits calls x c (calls_at s (Some p) x.readings) → Walks (look_run w) ls (ask_left s.ask) → s.ask.budget ≡ c.polls
      → AskTie from (record s { words = ws; ask = b; calls = (ask_ended told r b (record k { sent = Some p })).calls }) (past ++ (ls ++ record { side = side; action = action; value = v; end = (ask_ended told r b (record k { sent = Some p })).end } ∷ [])) ((x.readings ++ []) ++ reading_of (takes_reading told) r)
  look_turn None st s b ws side action v r p k ek f bs left wired next rest from x past ls c before flies sv walks polls =
      let l : TraceLine = record { side = side; action = action; value = v; end = end.Open } in let t : PlainState = record s { words = ws; ask = b; calls = record k { sent = Some p } } in
      let same : calls_at s (Some p) x.readings ≡ calls_at t (Some p) x.readings = λ i. record { ended = (ek i).ended; begun = (ek i).begun; looks = sym f.looks i; sent = Some p; block = sym bs.0 i; space = sym f.space i; records = (ek i).records; readings = x.readings } in
      running past ls l x [] f.rests before
      (looks_run c p (f.flies ∙ flies) (subst (λ (z : Calls). Serves w limits calls x c z) same sv) refl
      (walks_to (look_run w) (rest_of (ask_left s.ask) v) (ask_left b) (ls ++ l ∷ []) rest (walks_more (look_run w) (ask_left s.ask) ls l walks next refl)) (f.budget ∙ polls))
      refl (append-nil (x.readings ++ []))
  look_turn (Some Posted) st s b ws side action v r p k ek f bs left wired next rest from x past ls c before flies sv walks polls = absurd (not_false s.ask.in_flight flies f.sure.1)
  look_turn (Some Clear) st s b ws side action v r p k ek f bs left wired next rest from x past ls c before flies sv walks polls = clear_turn (nat_eq b.looks b.budget) st s b ws side action v r p k ek refl left f bs next rest from x past ls c before sv walks polls
  look_turn (Some (Drained e)) st s b ws side action v r p k ek f bs left wired next rest from x past ls c before flies sv walks polls = drain_turn st s b ws side action v r e p k ek f wired next rest from x past ls c before sv walks

  -- a step of a run that is under way
  pub run_turn : (told : Option AskOutcome) (st : AskStage) (s : PlainState) (b : Ask) (ws : List ℕ) (side : Side) (action : Action) (v r : ℕ)
      → Fed st s.ask b told → BlocksAfter told s.ask b → b.looks ≤ b.budget → b.wiring ≡ w → next_of (ask_left s.ask) ≡ Some action
      → rest_of (ask_left s.ask) v ≡ ask_after told b
      → (from x : Calls) (past ls : List TraceLine) (taken : List ℕ) → Turns w limits calls from past x → Running s x ls taken
      → AskTie from (record s { words = ws; ask = b; calls = (ask_ended told r b s.calls).calls }) (past ++ (ls ++ record { side = side; action = action; value = v; end = (ask_ended told r b s.calls).end } ∷ [])) ((x.readings ++ taken) ++ reading_of (takes_reading told) r)
  run_turn told st s b ws side action v r f bs left wired next rest from x past ls taken before (posts_run c q free sv sent blk le walks polls) = post_turn told st s b ws side action v r f bs next rest from x past ls c q before free sv sent blk le walks polls
  run_turn told st s b ws side action v r f bs left wired next rest from x past ls taken before (looks_run c p flies sv sent walks polls) =
      let ek : s.calls ≡ record s.calls { sent = Some p } = ap (λ (o : Option Sent). record s.calls { sent = o }) sent in
      subst (λ (k : CallsState). AskTie from (record s { words = ws; ask = b; calls = (ask_ended told r b k).calls }) (past ++ (ls ++ record { side = side; action = action; value = v; end = (ask_ended told r b k).end } ∷ [])) ((x.readings ++ []) ++ reading_of (takes_reading told) r)) (sym ek)
      (look_turn told st s b ws side action v r p s.calls ek f bs left wired next rest from x past ls c before flies (subst (λ (o : Option Sent). Serves w limits calls x c (calls_at s o x.readings)) sent sv) walks polls)
