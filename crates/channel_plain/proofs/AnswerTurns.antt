-- A pick of the answering side adds a step to the runs of a trace.
use Rattle.std.proofs.Common.{◌≡◌, ℕ, ◌+◌, ◌/◌, ◌%◌, Bool, true, false, eqb, ltb, List, [], ◌∷◌, ◌++◌, length, drop, set, map, refl, sym, ap, ◌∙◌, subst, arith, length-set, length-drop}
use Rattle.std.specs.Prelude.{Option, Some, None}
use Rattle.std.proofs.lemmas.List.{append-nil, append_assoc}
use Rattle.pcc_history.specs.Devices.{Device, Executed}
use Rattle.pcc_history.specs.Channel.{Exchange, exchange_of}
use Rattle.pcc_journal.specs.Records.{exchanges_of_commands}
use Rattle.shmem_header.specs.Spelling.{bytes_of}
use Rattle.shmem_header.proofs.Places.{length-bytes_of}
use Rattle.pcc_steps.specs.declared.wiring.Wiring.{Wiring}
use Rattle.pcc_steps.specs.declared.wiring.Style.{Style}
use Rattle.pcc_steps.specs.declared.wiring.Style.TheVariants.{Headed, Joined3, Separate3, Joined4, Separate4, Reduced5}
use Rattle.pcc_steps.specs.declared.wiring.Action.{Action}
use Rattle.pcc_steps.specs.declared.wiring.Action.TheVariants.{Execute}
use Rattle.pcc_steps.specs.declared.answer.AnswerStage.{AnswerStage}
use Rattle.pcc_steps.specs.declared.answer.AnswerStage.TheVariants.{AnswerRest, TakeLine, TakeAckLoad, TakeAckStore, TakeHeader, TakeBlock, RunDevice, ReplyBlock, ReplyError, ReplyHeader, ReplyUpdateLoad, ReplyUpdateStore, ReplyMarkLoad, ReplyMarkStore, CloseBellLoad, CloseBellStore, CloseLine}
use Rattle.pcc_steps.specs.declared.answer.AnswerOutcome.{AnswerOutcome}
use Rattle.pcc_steps.specs.declared.answer.AnswerOutcome.TheVariants.{Idle, Served}
use Rattle.pcc_steps.specs.Changes.{next_changed}
use Rattle.pcc_steps.specs.Wires.{style_of, heads_of, block_of, tells_error, four_by}
use Rattle.pcc_steps.specs.Runs.{Run, ends, loads, stores, swaps, executes, AnswerEnd, finds_none, serves, answer_run}
use Rattle.pcc_steps.specs.Walk.{Takes, Gives, answer_left, answer_after}
use Rattle.pcc_steps.specs.Asking.{has_more}
use Rattle.pcc_steps.specs.Answering.{Answer, AnswerOk, answer_code, answer_next, answer_next_at, answer_fed, answer_fed_at, answer_told, answer_begun, after_ack, after_take, after_error, after_reply, after_close, after_done, after_update, done_stage, asks_notify, take_on, load_on, reply_stage, ran_with}
use Rattle.pcc_steps.specs.Agree.{act, Answerer, IsBetween, settle, settle_at, executed, found}
use Rattle.pcc_steps.specs.Laws.{AnswersByTable, AnswerStepsByTable, ExecutesByTable}
use Rattle.channel_core.specs.Executions.{command_by}
use Rattle.channel_plain.specs.declared.trace.Side.{Side}
use Rattle.channel_plain.specs.declared.trace.TraceEnd.TheVariants as end
use Rattle.channel_plain.specs.declared.trace.TraceLine.{TraceLine}
use Rattle.channel_plain.specs.Picks.{PlainState, started_at, answer_end, answer_picked, line_of}
use Rattle.channel_plain.specs.Standing.{Stands}
use Rattle.channel_plain.specs.WordRuns.{Answered, Answers, more, AnswerWalks, answer_from, answer_on, execute, next_of}
use Rattle.channel_plain.proofs.Bools.{not_false}
use Rattle.channel_plain.proofs.WordSteps.{takes_next, takes_rest}
use Rattle.pcc_steps.proofs.AnswerFeeds.{ends_run, fed_rests, is_rest, is_run, run_is, unsettled}
use Rattle.pcc_steps.proofs.ReplyStages.{reply_at}
use Rattle.channel_plain.proofs.AnswerHolds.{stepping, after_step, fed_wiring, grown, same_settle}

-- ---- the machine that has loaded a command

abbrev HasLoaded : AnswerStage → Answer → Type 0
HasLoaded RunDevice m = AnswerOk m × (m.space ≡ bytes_of (drop (heads_of (style_of m.wiring)) m.loaded))
HasLoaded _ m = Unit {0}

-- the device's turn is after the last word of the block alone
abbrev NoRun : AnswerStage → Type 0
NoRun RunDevice = ⊥
NoRun _ = Unit {0}

no_run : (st : AnswerStage) (m : Answer) → NoRun st → HasLoaded st m
no_run RunDevice m h = absurd h
no_run _ m h = tt

ack_no : (s : Style) → NoRun (after_ack s)
ack_no Headed = tt
ack_no _ = tt

take_no : (b : Bool) (s : Style) → NoRun (after_take b s)
take_no true s = tt
take_no false s = ack_no s

error_no : (s : Style) → NoRun (after_error s)
error_no Headed = tt
error_no Joined4 = tt
error_no Separate4 = tt
error_no _ = tt

reply_no : (b : Bool) (s : Style) → NoRun (after_reply b s)
reply_no true s = tt
reply_no false s = error_no s

close_no : (b : Bool) → NoRun (after_close b)
close_no true = tt
close_no false = tt

done_no : (b c : Bool) → NoRun (after_done b c)
done_no true c = tt
done_no false c = close_no c

update_no : (s : Style) (a : Answer) → NoRun (after_update s a)
update_no Separate4 a = tt
update_no Headed a = done_no (four_by (style_of a.wiring) a.wiring.has_bell) (asks_notify a)
update_no Joined3 a = done_no (four_by (style_of a.wiring) a.wiring.has_bell) (asks_notify a)
update_no Separate3 a = done_no (four_by (style_of a.wiring) a.wiring.has_bell) (asks_notify a)
update_no Joined4 a = done_no (four_by (style_of a.wiring) a.wiring.has_bell) (asks_notify a)
update_no Reduced5 a = done_no (four_by (style_of a.wiring) a.wiring.has_bell) (asks_notify a)

took_no : (b : Bool) (a : Answer) → NoRun (take_on b a).stage
took_no true a = tt
took_no false a = take_no (four_by (style_of a.wiring) a.wiring.has_ack) (style_of a.wiring)

replied_no : (k : ℕ) (w : Wiring) (out old : List ℕ) → NoRun (reply_stage k w out old)
replied_no k w out old = let n : ℕ = next_changed k out old in reply_at NoRun (ltb n (length out)) n w tt (reply_no (tells_error w) (style_of w))

error_goes : (s : Style) → is_rest (after_error s) ≡ false
error_goes Headed = refl
error_goes Joined4 = refl
error_goes Separate4 = refl
error_goes _ = refl

reply_goes : (b : Bool) (s : Style) → is_rest (after_reply b s) ≡ false
reply_goes true s = refl
reply_goes false s = error_goes s

-- once the device ran, the run goes on
replied_goes : (k : ℕ) (w : Wiring) (out old : List ℕ) → is_rest (reply_stage k w out old) ≡ false
replied_goes k w out old = let n : ℕ = next_changed k out old in
    reply_at (λ (st : AnswerStage). is_rest st ≡ false) (ltb n (length out)) n w refl (reply_goes (tells_error w) (style_of w))

loaded_ok : (b : Bool) (j v n : ℕ) (a : Answer) → AnswerOk (record a { stage = TakeBlock j }) → let m : Answer = record (load_on b j v a) { steps = n } in HasLoaded m.stage m
loaded_ok true j v n a ok = tt
loaded_ok false j v n a ok = let k : ℕ = heads_of (style_of a.wiring) in let ws : List ℕ = set a.loaded j v in let long : length ws ≡ block_of a.wiring = length-set a.loaded j v ∙ ok.sized.loaded in
    (record { wired = ok.wired; sized = record { loaded = long; out = ok.sized.out; space = room_of k a.wiring.room ws long ok.wired.whole }; place = tt; kept = ok.kept; header = ok.header }, refl)
  where
    room_of : (k room : ℕ) (ws : List ℕ) → length ws ≡ k + room / 8 → room % 8 ≡ 0 → length (bytes_of (drop k ws)) ≡ room
    room_of k room ws e f = let b = length-bytes_of (drop k ws) in let d = length-drop k ws in omega (arith, e, f, b, d)

has_loaded : (st : AnswerStage) (a : Answer) (v n : ℕ) → is_run st ≡ false → AnswerOk (record a { stage = st }) → let m : Answer = record (answer_fed_at st a v) { steps = n } in is_rest st ≡ false → HasLoaded m.stage m
has_loaded AnswerRest a v n f ok e = absurd (cc e)
has_loaded TakeLine a v n f ok e = no_run (take_on (eqb v 0) a).stage (record (take_on (eqb v 0) a) { steps = n }) (took_no (eqb v 0) a)
has_loaded TakeAckLoad a v n f ok e = tt
has_loaded TakeAckStore a v n f ok e = no_run (after_ack (style_of a.wiring)) (record a { stage = after_ack (style_of a.wiring); steps = n }) (ack_no (style_of a.wiring))
has_loaded TakeHeader a v n f ok e = tt
has_loaded (TakeBlock j) a v n f ok e = loaded_ok (has_more j a.wiring) j v n a ok
has_loaded RunDevice a v n f ok e = absurd (cc f)
has_loaded (ReplyBlock j) a v n f ok e = let st : AnswerStage = reply_stage (j + 1) a.wiring a.out a.loaded in no_run st (record a { stage = st; steps = n }) (replied_no (j + 1) a.wiring a.out a.loaded)
has_loaded ReplyError a v n f ok e = no_run (after_error (style_of a.wiring)) (record a { stage = after_error (style_of a.wiring); steps = n }) (error_no (style_of a.wiring))
has_loaded ReplyHeader a v n f ok e = no_run (done_stage a) (record a { stage = done_stage a; steps = n }) (done_no (four_by (style_of a.wiring) a.wiring.has_bell) (asks_notify a))
has_loaded ReplyUpdateLoad a v n f ok e = tt
has_loaded ReplyUpdateStore a v n f ok e = no_run (after_update (style_of a.wiring) a) (record a { stage = after_update (style_of a.wiring) a; steps = n }) (update_no (style_of a.wiring) a)
has_loaded ReplyMarkLoad a v n f ok e = tt
has_loaded ReplyMarkStore a v n f ok e = no_run (done_stage a) (record a { stage = done_stage a; steps = n }) (done_no (four_by (style_of a.wiring) a.wiring.has_bell) (asks_notify a))
has_loaded CloseBellLoad a v n f ok e = tt
has_loaded CloseBellStore a v n f ok e = no_run (after_close (asks_notify a)) (record a { stage = after_close (asks_notify a); steps = n }) (close_no (asks_notify a))
has_loaded CloseLine a v n f ok e = tt

-- ---- the device's turn

same_code : (x y : ℕ) → Execute x ≡ Execute y → x ≡ y
same_code x y e = cc

-- what is left of the run is no execution
pub takes_plain : (exec : Device) (w : Wiring) (run : Run AnswerEnd) (x : Action) (next : ℕ → Run AnswerEnd) (d : List ℕ) (es : List Exchange) → Takes run x next → execute exec w run d es ≡ record { device = d; executed = es; run = run }
takes_plain exec w (ends e) x next d es h = absurd h
takes_plain exec w (loads p f) x next d es h = refl
takes_plain exec w (stores p u r) x next d es h = refl
takes_plain exec w (swaps p u f) x next d es h = refl
takes_plain exec w (executes c s f) x next d es h = absurd h

module _ (exec : Device) (w : Wiring) where
  -- the device executes what was loaded
  ran_at : (run : Run AnswerEnd) (m : Answer) (x : Action) (d : List ℕ) (es : List Exchange) → x ≡ Execute (answer_code m) → m.wiring ≡ w → (space : List ℕ) → m.space ≡ space → Gives run x space (λ bad reply. answer_left (ran_with (record m { space = reply }) bad))
      → let y : Answerer = executed exec (exec d (answer_code m) m.space) (record { m = m; device = d; done = [] }) in execute exec w run d es ≡ record { device = y.device; executed = es ++ y.done; run = answer_left y.m }
  ran_at (ends e) m x d es q wired space sp h = absurd h
  ran_at (loads p f) m x d es q wired space sp h = absurd h
  ran_at (stores p u r) m x d es q wired space sp h = absurd h
  ran_at (swaps p u f) m x d es q wired space sp h = absurd h
  ran_at (executes code s f) m x d es q wired space sp h = let ec : code ≡ answer_code m = same_code code (answer_code m) (sym h.0 ∙ q) in let es' : s ≡ m.space = sym h.1 ∙ sym sp in
      ap (λ (z : ℕ × List ℕ × Wiring). let x : Executed = exec d z.0 z.1 in record { device = x.state; executed = es ++ exchange_of exec z.2.reports d z.0 z.1 ∷ []; run = f x.bad x.space }) (λ i. (ec i, es' i, sym wired i))
      ∙ (let x : Executed = exec d (answer_code m) m.space in ap (λ (r : Run AnswerEnd). record { device = x.state; executed = es ++ exchange_of exec m.wiring.reports d (answer_code m) m.space ∷ []; run = r }) (sym (h.2 x.bad x.space)))

  -- what a step reported, where it ends no run
  plain_after : (told : Option AnswerOutcome) (m : Answer) (d : List ℕ) (es : List Exchange) → (told ≡ None → execute exec w (answer_left m) d es ≡ record { device = d; executed = es; run = answer_left m }) → execute exec w (answer_after told m) d es ≡ record { device = d; executed = es ++ []; run = answer_after told m }
  plain_after None m d es h = h refl ∙ ap (λ (l : List Exchange). record { device = d; executed = l; run = answer_left m }) (sym (append-nil es))
  plain_after (Some Idle) m d es h = ap (λ (l : List Exchange). record { device = d; executed = l; run = ends finds_none }) (sym (append-nil es))
  plain_after (Some Served) m d es h = ap (λ (l : List Exchange). record { device = d; executed = l; run = ends serves }) (sym (append-nil es))

  run_after : (told : Option AnswerOutcome) (m : Answer) → is_rest m.stage ≡ ends_run told → is_rest m.stage ≡ false → told ≡ None
  run_after None m e f = refl
  run_after (Some o) m e f = absurd (not_false (is_rest m.stage) e f)

  -- a step with the device's turn
  settled_on : AnswerStepsByTable → ExecutesByTable → (b : Bool) (told : Option AnswerOutcome) (m : Answer) (d : List ℕ) (es : List Exchange)
      → is_run m.stage ≡ b → m.wiring ≡ w → is_rest m.stage ≡ ends_run told → HasLoaded m.stage m → (is_run m.stage ≡ false → AnswerOk m)
      → let y : Answerer = settle exec (record { m = m; device = d; done = [] }) in execute exec w (answer_after told m) d es ≡ record { device = y.device; executed = es ++ y.done; run = answer_after told y.m }
  settled_on law turn false told m d es e wired stops has ok =
      plain_after told m d es (λ n. takes_plain exec w (answer_left m) (answer_next m) (λ v. answer_after (answer_told m v) (answer_fed m v)) d es (law m (ok e) (λ q. not_false (is_rest m.stage) (ap is_rest q) (stops ∙ ap ends_run n), λ q. not_false (is_run m.stage) (ap is_run q) e)))
      ∙ ap (λ (y : Answerer). record { device = y.device; executed = es ++ y.done; run = answer_after told y.m }) (sym (unsettled exec m.stage (record { m = m; device = d; done = [] }) e))
  settled_on law turn true told m d es e wired stops has ok = let at : m.stage ≡ RunDevice = run_is m.stage e in
      let loaded : AnswerOk m × (m.space ≡ bytes_of (drop (heads_of (style_of m.wiring)) m.loaded)) = subst (λ (st : AnswerStage). HasLoaded st m) at has in
      let told_none : told ≡ None = run_after told m stops (ap is_rest at) in
      let y : Answerer = executed exec (exec d (answer_code m) m.space) (record { m = m; device = d; done = [] }) in
      let same : settle exec (record { m = m; device = d; done = [] }) ≡ y = ap (λ (st : AnswerStage). settle_at exec st (record { m = m; device = d; done = [] })) at in
      let next : answer_next m ≡ Execute (answer_code m) = ap (λ (st : AnswerStage). answer_next_at st m) at in
      subst (λ (t : Option AnswerOutcome). execute exec w (answer_after t m) d es ≡ record { device = (settle exec (record { m = m; device = d; done = [] })).device; executed = es ++ (settle exec (record { m = m; device = d; done = [] })).done; run = answer_after t (settle exec (record { m = m; device = d; done = [] })).m }) (sym told_none)
      (ran_at (answer_left m) m (answer_next m) d es next wired (bytes_of (drop (heads_of (style_of m.wiring)) m.loaded)) loaded.1 (turn m loaded.0 at)
      ∙ ap (λ (y : Answerer). record { device = y.device; executed = es ++ y.done; run = answer_left y.m }) (sym same))

  -- ---- the lines of the answering side, by the channel

  pub data AnswerTie (start : List ℕ) (s : PlainState) (lines : List TraceLine) : Type 0 where
    a_resting : is_rest s.answer.stage ≡ true → Answers exec w start lines s.device (exchanges_of_commands s.executed) → AnswerTie start s lines
    a_running : (past ls : List TraceLine) (d : List ℕ) (es : List Exchange) → is_rest s.answer.stage ≡ false → Answers exec w start past d es → AnswerWalks exec w (answer_from exec w d es) ls (record { device = s.device; executed = exchanges_of_commands s.executed; run = answer_left s.answer }) → lines ≡ past ++ ls → AnswerTie start s lines

  walk_more : (a b : Answered) (ls : List TraceLine) (l : TraceLine) → AnswerWalks exec w a ls b → next_of b.run ≡ Some l.action → l.end ≡ end.Open
      → AnswerWalks exec w a (ls ++ l ∷ []) (answer_on exec w b l.value)
  walk_more a b [] l h n e = (ap (λ (x : Answered). next_of x.run) h ∙ n, e, ap (λ (x : Answered). answer_on exec w x l.value) h)
  walk_more a b (m ∷ ms) l h n e = (h.0, h.1, walk_more (answer_on exec w a m.value) b ms l h.2 n e)

  started_same : (st : AnswerStage) (a : Answer) → is_rest st ≡ false → started_at st a ≡ a
  started_same AnswerRest a e = absurd (cc e)
  started_same _ a e = refl

  started_begun : (st : AnswerStage) (a : Answer) → is_rest st ≡ true → started_at st a ≡ answer_begun a
  started_begun AnswerRest a e = refl
  started_begun _ a e = absurd (cc e)

  begun_ok : (a : Answer) → AnswerOk a → AnswerOk (answer_begun a)
  begun_ok a ok = record { wired = ok.wired; sized = ok.sized; place = tt; kept = ok.kept; header = omega arith }

  pub between_run : (st : AnswerStage) → IsBetween st → is_run st ≡ false
  between_run RunDevice h = absurd h
  between_run _ h = refl

  -- the outcome that ends a run
  end_of : AnswerOutcome → AnswerEnd
  end_of Idle = finds_none
  end_of Served = serves

  -- a step of a run that is under way
  step_on : AnswerStepsByTable → ExecutesByTable
      → (told : Option AnswerOutcome) (start : List ℕ) (s : PlainState) (side : Side) (b : Answer) (v : ℕ) (past ls : List TraceLine) (d : List ℕ) (es : List Exchange)
      → told ≡ answer_told b v → b ≡ stepping exec s → AnswerOk b → is_rest b.stage ≡ false → is_run b.stage ≡ false → b.wiring ≡ w
      → (answer_fed b v).wiring ≡ w
      → (is_run (answer_fed b v).stage ≡ false → AnswerOk (answer_fed b v)) → (y : Answerer)
      → y ≡ settle exec (record { m = answer_fed b v; device = s.device; done = [] }) → (ws : List ℕ) → Answers exec w start past d es
      → AnswerWalks exec w (answer_from exec w d es) ls (record { device = s.device; executed = exchanges_of_commands s.executed; run = answer_left b })
      → (is_rest y.m.stage ≡ is_rest (answer_fed b v).stage)
      → AnswerTie start (record s { words = ws; answer = y.m; device = y.device; executed = s.executed ++ map command_by y.done }) (past ++ (ls ++ record { side = side; action = answer_next b; value = v; end = answer_end told } ∷ []))
  step_on law turn told start s side b v past ls d es et eb ok rests runs wired wired' ok' y ey ws before walks same =
      let m : Answer = answer_fed b v in let E : List Exchange = exchanges_of_commands s.executed in let pre : Answered = record { device = s.device; executed = E; run = answer_left b } in
      let next : ℕ → Run AnswerEnd = λ v. answer_after (answer_told b v) (answer_fed b v) in
      let tk = law b ok (λ q. not_false (is_rest b.stage) (ap is_rest q) rests, λ q. not_false (is_run b.stage) (ap is_run q) runs) in
      let n : next_of (answer_left b) ≡ Some (answer_next b) = takes_next (answer_left b) (answer_next b) next tk in
      let stops : is_rest m.stage ≡ ends_run told = fed_rests b.stage b v rests runs ∙ ap ends_run (sym et) in
      let on : answer_on exec w pre v ≡ record { device = y.device; executed = exchanges_of_commands (s.executed ++ map command_by y.done); run = answer_after told y.m } =
      ap (λ (r : Run AnswerEnd). execute exec w r s.device E) (takes_rest (answer_left b) (answer_next b) next v tk ∙ ap (λ (t : Option AnswerOutcome). answer_after t m) (sym et))
      ∙ settled_on law turn (is_run m.stage) told m s.device E refl wired' stops (has_loaded b.stage b v m.steps runs ok rests) ok'
      ∙ ap (λ (y : Answerer). record { device = y.device; executed = E ++ y.done; run = answer_after told y.m }) (sym ey)
      ∙ ap (λ (l : List Exchange). record { device = y.device; executed = l; run = answer_after told y.m }) (sym (grown s.executed y.done)) in
      finish told (same ∙ stops) on n
    where
      finish : (told : Option AnswerOutcome) → is_rest y.m.stage ≡ ends_run told → answer_on exec w (record { device = s.device; executed = exchanges_of_commands s.executed; run = answer_left b }) v ≡ record { device = y.device; executed = exchanges_of_commands (s.executed ++ map command_by y.done); run = answer_after told y.m } → next_of (answer_left b) ≡ Some (answer_next b)
          → AnswerTie start (record s { words = ws; answer = y.m; device = y.device; executed = s.executed ++ map command_by y.done }) (past ++ (ls ++ record { side = side; action = answer_next b; value = v; end = answer_end told } ∷ []))
      finish None stops on n = let l : TraceLine = record { side = side; action = answer_next b; value = v; end = end.Open } in
          a_running past (ls ++ l ∷ []) d es stops before (subst (λ (x : Answered). AnswerWalks exec w (answer_from exec w d es) (ls ++ l ∷ []) x) on (walk_more (answer_from exec w d es) _ ls l walks n refl)) refl
      finish (Some Idle) stops on n = let l : TraceLine = record { side = side; action = answer_next b; value = v; end = end.Idle } in let pre : Answered = record { device = s.device; executed = exchanges_of_commands s.executed; run = answer_left b } in
          a_resting stops (subst (λ (x : Answered). Answers exec w start (past ++ (ls ++ l ∷ [])) x.device x.executed) on (more past ls l d es pre finds_none before walks n (ap (λ (x : Answered). x.run) on) refl))
      finish (Some Served) stops on n = let l : TraceLine = record { side = side; action = answer_next b; value = v; end = end.Served } in let pre : Answered = record { device = s.device; executed = exchanges_of_commands s.executed; run = answer_left b } in
          a_resting stops (subst (λ (x : Answered). Answers exec w start (past ++ (ls ++ l ∷ [])) x.device x.executed) on (more past ls l d es pre serves before walks n (ap (λ (x : Answered). x.run) on) refl))

  settle_rest : (st : AnswerStage) (y : Answerer) → y.m.stage ≡ st → is_rest (settle_at exec st y).m.stage ≡ is_rest st
  settle_rest RunDevice y e = let m : Answer = (settle_at exec RunDevice y).m in replied_goes (heads_of (style_of y.m.wiring)) y.m.wiring m.out y.m.loaded
  settle_rest AnswerRest y e = ap is_rest e
  settle_rest TakeLine y e = ap is_rest e
  settle_rest TakeAckLoad y e = ap is_rest e
  settle_rest TakeAckStore y e = ap is_rest e
  settle_rest TakeHeader y e = ap is_rest e
  settle_rest (TakeBlock j) y e = ap is_rest e
  settle_rest (ReplyBlock j) y e = ap is_rest e
  settle_rest ReplyError y e = ap is_rest e
  settle_rest ReplyHeader y e = ap is_rest e
  settle_rest ReplyUpdateLoad y e = ap is_rest e
  settle_rest ReplyUpdateStore y e = ap is_rest e
  settle_rest ReplyMarkLoad y e = ap is_rest e
  settle_rest ReplyMarkStore y e = ap is_rest e
  settle_rest CloseBellLoad y e = ap is_rest e
  settle_rest CloseBellStore y e = ap is_rest e
  settle_rest CloseLine y e = ap is_rest e

  -- a pick of the answering side
  pub answer_tie : AnswersByTable → AnswerStepsByTable → ExecutesByTable
      → (is_state : List ℕ → Type 0) (room_of : List ℕ → ℕ) (start : List ℕ) (s : PlainState) (side : Side) (lines : List TraceLine)
      → Stands exec is_state room_of s → Stands exec is_state room_of (answer_picked exec s).state → s.ask.wiring ≡ w → AnswerTie start s lines
      → AnswerTie start (answer_picked exec s).state (lines ++ line_of side (answer_picked exec s) ∷ [])
  answer_tie table law turn is_state room_of start s side lines k k' wired tie =
      let b : Answer = stepping exec s in let v : ℕ = found (answer_next b) s.words in let m : Answer = answer_fed b v in let y : Answerer = after_step exec v s in
      let same : s.answer.wiring ≡ w = k.agree.1.2.same ∙ wired in
      let e : settle exec (record { m = m; device = s.device; done = [] }) ≡ y = same_settle exec is_state room_of s m v refl in
      let mw : m.wiring ≡ w = fed_wiring exec is_state room_of s v k'.unkept (act (answer_next b) s.words) k'.agree ∙ wired in
      let ok' : is_run m.stage ≡ false → AnswerOk m = λ q. subst (λ (z : Answerer). AnswerOk z.m) (sym e ∙ unsettled exec m.stage (record { m = m; device = s.device; done = [] }) q) k'.agree.1.2.answer_ok in
      let rest : is_rest y.m.stage ≡ is_rest m.stage = ap (λ (z : Answerer). is_rest z.m.stage) (sym e) ∙ settle_rest m.stage (record { m = m; device = s.device; done = [] }) refl in
      go tie same e mw ok' rest
    where
      go : AnswerTie start s lines → s.answer.wiring ≡ w → (let b : Answer = stepping exec s in let v : ℕ = found (answer_next b) s.words in let m : Answer = answer_fed b v in let y : Answerer = after_step exec v s in
          settle exec (record { m = m; device = s.device; done = [] }) ≡ y → m.wiring ≡ w → (is_run m.stage ≡ false → AnswerOk m) → is_rest y.m.stage ≡ is_rest m.stage → AnswerTie start (answer_picked exec s).state (lines ++ line_of side (answer_picked exec s) ∷ []))
      go (a_resting r before) same e mw ok' rest = let b : Answer = stepping exec s in let v : ℕ = found (answer_next b) s.words in let a : Answer = s.answer in
          let eb : b ≡ answer_begun a = started_begun a.stage a r in
          step_on law turn (answer_told b v) start s side b v lines [] s.device (exchanges_of_commands s.executed) refl refl (subst AnswerOk (sym eb) (begun_ok a k.agree.1.2.answer_ok)) (ap (λ (x : Answer). is_rest x.stage) eb) (ap (λ (x : Answer). is_run x.stage) eb) (ap (λ (x : Answer). x.wiring) eb ∙ same) mw ok' (after_step exec v s) (sym e) (act (answer_next b) s.words) before
          (ap (λ (r : Run AnswerEnd). record { device = s.device; executed = exchanges_of_commands s.executed; run = r }) (ap answer_run (sym same) ∙ (sym (table a) ∙ ap answer_left (sym eb)))) rest
      go (a_running past ls d es r before walks el) same e mw ok' rest = let b : Answer = stepping exec s in let v : ℕ = found (answer_next b) s.words in let a : Answer = s.answer in let p = answer_picked exec s in
          let eb : b ≡ a = started_same a.stage a r in
          subst (λ (z : List TraceLine). AnswerTie start p.state z) (sym (ap (λ (x : List TraceLine). x ++ line_of side p ∷ []) el ∙ append_assoc past ls (line_of side p ∷ [])))
          (step_on law turn (answer_told b v) start s side b v past ls d es refl refl (subst AnswerOk (sym eb) k.agree.1.2.answer_ok) (ap (λ (x : Answer). is_rest x.stage) eb ∙ r) (ap (λ (x : Answer). is_run x.stage) eb ∙ between_run a.stage k.agree.1.2.between) (ap (λ (x : Answer). x.wiring) eb ∙ same) mw ok' (after_step exec v s) (sym e) (act (answer_next b) s.words) before
          (subst (λ (x : Answer). AnswerWalks exec w (answer_from exec w d es) ls (record { device = s.device; executed = exchanges_of_commands s.executed; run = answer_left x })) (sym eb) walks) rest)
