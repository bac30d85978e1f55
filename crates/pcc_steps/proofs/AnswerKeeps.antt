-- Each step of the answering end keeps the relation.
use Rattle.std.proofs.Common.{◌≡◌, ◌≢◌, ℕ, ◌+◌, ◌%◌, ◌^◌, ◌<◌, ◌≤◌, Bool, true, false, eqb, List, [], ◌∷◌, ◌++◌, length, get_or, set, take, drop, refl, sym, ap, ◌∙◌, subst, ⊎_elim, arith, length-set}
use borrow.Author.Tests.{ltb-true, ltb-false, eqb-true, eqb-false}
use Rattle.pcc_exec.specs.Execution.{IsSpace}
use Rattle.pcc_history.specs.Devices.{Device, Executed}
use Rattle.pcc_history.specs.Channel.{Exchange, both, exchange_of}
use Rattle.pcc_history.specs.Histories.{Legal, state_after}
use Rattle.pcc_steps.specs.declared.wiring.Wiring.{Wiring}
use Rattle.pcc_steps.specs.declared.wiring.Style.{Style}
use Rattle.pcc_steps.specs.declared.wiring.Style.TheVariants.{Headed, Joined3, Separate3, Joined4, Separate4, Reduced5}
use Rattle.pcc_steps.specs.declared.answer.AnswerStage.{AnswerStage}
use Rattle.pcc_steps.specs.declared.answer.AnswerStage.TheVariants.{AnswerRest, TakeLine, TakeAckLoad, TakeAckStore, TakeHeader, TakeBlock, RunDevice}
use Rattle.shmem_header.specs.Spelling.{words_of, bytes_of}
use Rattle.pcc_steps.specs.Changes.{next_changed}
use Rattle.pcc_steps.specs.Wires.{style_of, heads_of, block_of, code_by, four_by, masked_by}
use Rattle.pcc_steps.specs.Asking.{has_more}
use Rattle.pcc_steps.specs.Answering.{Answer, AnswerOk, AnswerPlace, answer_next_at, answer_fed_at, take_on, load_on, after_ack, after_take, ran_with}
use Rattle.pcc_steps.specs.Agree.{Core, act, Finds, mix, Asker, Answerer, settle_at, settle, Pose, free, writing, cleared, waiting, reading, pose, Turn, quiet, taken, replying, turn_at, closed, Marked, Row, Flight, flight, reply_block, HasHeader, IsTaken, IsReplying, IsDone, Waits, Fits, trail, HasAskedBy, HasRoom, IsBetween, Agreed, Agree}
use Rattle.pcc_steps.proofs.Trails.{sent_carries, waits_pends}
use Rattle.pcc_steps.proofs.Lists.{take_all, loads, get_block}
use Rattle.pcc_steps.proofs.Bits.{code_known}
use Rattle.pcc_steps.proofs.ReplyStages.{replied_turn, replied_place, replied_between, replied_told, mix_loaded}
use Rattle.pcc_steps.proofs.Spaces.{block_long, bytes_again, mix_front, some_words}
use Rattle.pcc_steps.proofs.Legality.{legal_more, state_more, room_more, state_kept}

-- the answering machine at this stage, wired as the asking one
abbrev pub staged : AnswerStage → Asker → Answerer → Answer
staged st x y = record y.m { wiring = x.m.wiring; stage = st }

abbrev pub at : AnswerStage → Asker → Answerer → Answerer
at st x y = record y { m = staged st x y }

module _ (exec : Device) (is_state : List ℕ → Type 0) (room : ℕ) (law : (d : List ℕ) (code : ℕ) (s : List ℕ) → is_state d → IsSpace room s → is_state (exec d code s).state × IsSpace room (exec d code s).space) (start : List ℕ) (sound : is_state start) where
  -- what a step from the stage st has to keep
  abbrev pub KeepsAt : AnswerStage → Asker → Answerer → Type 0
  KeepsAt st x y = (ws : List ℕ) (v : ℕ) → x.m.wiring.room ≡ room → Agree exec start ws x (at st x y) → Finds (answer_next_at st (staged st x y)) ws v → v < 2 ^ 64
      → Agree exec start (act (answer_next_at st (staged st x y)) ws) x (settle exec (record y { m = answer_fed_at st (staged st x y) v }))

  -- ---- the phases by the answering end's turn

  while_taken : (q : Pose) (j : ℕ) (x : Asker) (y : Answerer) (c : Core) → Fits q (taken j) x y c → (q ≡ waiting) × IsTaken (flight x) y c j
  while_taken free j x y c f = let e = f.0 in cc
  while_taken (writing k) j x y c f = let e = f.0 in cc
  while_taken cleared j x y c f = let e = f.0 in cc
  while_taken waiting j x y c f = (refl, f)
  while_taken (reading k) j x y c f = let e = f.0 in cc

  pub while_replying : (q : Pose) (j : ℕ) (x : Asker) (y : Answerer) (c : Core) → Fits q (replying j) x y c → (q ≡ waiting) × IsReplying (flight x) y c j
  while_replying free j x y c f = let e = f.0 in cc
  while_replying (writing k) j x y c f = let e = f.0 in cc
  while_replying cleared j x y c f = let e = f.0 in cc
  while_replying waiting j x y c f = (refl, f)
  while_replying (reading k) j x y c f = let e = f.0 in cc

  -- a quiet answering end is seen by its history alone
  pub still : (q : Pose) (x : Asker) (y : Answerer) (c : Core) (m : Answer) → Fits q quiet x y c → Fits q quiet x (record y { m = m }) c
  still free x y c m f = f
  still (writing j) x y c m f = f
  still cleared x y c m f = f
  still waiting x y c m f = f
  still (reading j) x y c m f = f

  rung : (q : Pose) (x : Asker) (y : Answerer) (c : Core) → c.line ≢ 0 → Fits q quiet x y c
      → (q ≡ waiting) × Row x.m.wiring x.m.code y.done c closed 1 x.m.sent x.done
  rung free x y c up f = absurd (up f.1.line)
  rung (writing j) x y c up f = absurd (up f.1.line)
  rung cleared x y c up f = absurd (up f.1.line)
  rung waiting x y c up f = ⊎_elim (λ (r : Row x.m.wiring x.m.code y.done c closed 1 x.m.sent x.done). (refl, r)) (λ (d : (o : Bool × List ℕ) × IsDone (flight x) y.done c o.0 o.1). absurd (up d.1.row.line)) f
  rung (reading j) x y c up f = absurd (up f.1.is.row.line)

  pub in_flight : (t : Turn) (x : Asker) (y : Answerer) (c : Core) → pose x.m ≡ waiting → Waits t (flight x) y c → Fits (pose x.m) t x y c
  in_flight t x y c e w = subst (λ (q : Pose). Fits q t x y c) (sym e) w

  -- what a step within a run changes, and what it has to show anew
  pub moves : (x : Asker) (y : Answerer) (c d : Core) (before st : AnswerStage) (kept header : ℕ) (loaded : List ℕ)
      → let m : Answer = record y.m { wiring = x.m.wiring; stage = st; kept = kept; header = header; loaded = loaded } in
      Agreed exec start x (at before x y) c → AnswerOk m → IsBetween st → d.irq < 2 → Fits (pose x.m) (turn_at st m) x (record y { m = m }) d → Agreed exec start x (record y { m = m }) d
  moves x y c d before st kept header loaded g ok between low fits = record {
    ask_ok = g.ask_ok;
    answer_ok = ok;
    between = between;
    same = refl;
    legal = g.legal;
    device = g.device;
    room = g.room;
    sent = g.sent;
    shown = g.shown;
    asked = g.asked;
    posts = g.posts;
    irq = low;
    fits = fits;
  }

  -- the machine's own facts, at another stage of its run
  pub steps_on : (a : Answer) (st : AnswerStage) (kept : ℕ) → AnswerOk a → kept < 2 ^ 64 → AnswerPlace st a.wiring
      → AnswerOk (record a { stage = st; kept = kept })
  steps_on a st kept ok small place = record { wired = ok.wired; sized = ok.sized; place = place; kept = small; header = ok.header }

  -- ---- taking a command

  pub rests : (x : Asker) (y : Answerer) → KeepsAt AnswerRest x y
  rests x y ws v same g f small = g

  down : (v : ℕ) (x : Asker) (y : Answerer) (c : Core) → v ≡ c.line → eqb v 0 ≡ true → Agreed exec start x (at TakeLine x y) c
      → Agreed exec start x (at AnswerRest x y) (record c { line = 0 })
  down v x y c same none g = let ok = g.answer_ok in let is : c.line ≡ 0 = sym same ∙ eqb-true v 0 none in subst (λ (n : ℕ). Agreed exec start x (at AnswerRest x y) (record c { line = n })) is
      (moves x y c c TakeLine AnswerRest y.m.kept y.m.header y.m.loaded g (steps_on (staged TakeLine x y) AnswerRest y.m.kept ok ok.kept tt) tt g.irq (still (pose x.m) x (at TakeLine x y) c (staged AnswerRest x y) g.fits))

  turn_ack : (s : Style) (a : Answer) → turn_at (after_ack s) a ≡ taken 0
  turn_ack Headed a = refl
  turn_ack _ a = refl

  turn_take : (b : Bool) (s : Style) (a : Answer) → turn_at (after_take b s) a ≡ taken 0
  turn_take true s a = refl
  turn_take false s a = turn_ack s a

  place_ack : (s : Style) (w : Wiring) → style_of w ≡ s → 0 < block_of w → AnswerPlace (after_ack s) w
  place_ack Headed w e some = e
  place_ack _ w e some = some

  place_take : (b : Bool) (s : Style) (w : Wiring) → style_of w ≡ s → four_by s w.has_ack ≡ b → 0 < block_of w → AnswerPlace (after_take b s) w
  place_take true s w e is some = ap (λ (s : Style). four_by s w.has_ack) e ∙ is
  place_take false s w e is some = place_ack s w e some

  header_ack : (s t : Style) (w : Wiring) (code header : ℕ) → t ≡ s → HasHeader (after_ack s) t w code header
  header_ack Headed t w code header e = tt
  header_ack Joined3 t w code header e = subst (λ (t : Style). HasHeader (TakeBlock 0) t w code header) (sym e) tt
  header_ack Separate3 t w code header e = subst (λ (t : Style). HasHeader (TakeBlock 0) t w code header) (sym e) tt
  header_ack Joined4 t w code header e = subst (λ (t : Style). HasHeader (TakeBlock 0) t w code header) (sym e) tt
  header_ack Separate4 t w code header e = subst (λ (t : Style). HasHeader (TakeBlock 0) t w code header) (sym e) tt
  header_ack Reduced5 t w code header e = subst (λ (t : Style). HasHeader (TakeBlock 0) t w code header) (sym e) tt

  header_take : (b : Bool) (s t : Style) (w : Wiring) (code header : ℕ) → t ≡ s → HasHeader (after_take b s) t w code header
  header_take true s t w code header e = tt
  header_take false s t w code header e = header_ack s t w code header e

  settled_ack : (s : Style) (y : Answerer) → settle_at exec (after_ack s) y ≡ y
  settled_ack Headed y = refl
  settled_ack _ y = refl

  settled_take : (b : Bool) (s : Style) (y : Answerer) → settle_at exec (after_take b s) y ≡ y
  settled_take true s y = refl
  settled_take false s y = settled_ack s y

  between_ack : (s : Style) → IsBetween (after_ack s)
  between_ack Headed = tt
  between_ack _ = tt

  between_take : (b : Bool) (s : Style) → IsBetween (after_take b s)
  between_take true s = tt
  between_take false s = between_ack s

  -- a row with the line down
  lower : (w : Wiring) (code : ℕ) (hp : List Exchange) (c : Core) (b : List ℕ) (h : List Exchange) → Row w code hp c closed 1 b h
      → Row w code hp (record c { line = 0 }) closed 0 b h
  lower w code hp c b h r = record { completion = r.completion; line = refl; block = r.block; done = r.done }

  taken_now : (v : ℕ) (x : Asker) (y : Answerer) (c : Core) → v ≡ c.line → eqb v 0 ≡ false → Agreed exec start x (at TakeLine x y) c
      → Agreed exec start x (settle exec (at (after_take (four_by (style_of x.m.wiring) x.m.wiring.has_ack) (style_of x.m.wiring)) x y)) (record c { line = 0 })
  taken_now v x y c same some g = let ok = g.answer_ok in let w = x.m.wiring in let s : Style = style_of w in let b : Bool = four_by s w.has_ack in let st : AnswerStage = after_take b s in let z : Answerer = at st x y in let d : Core = record c { line = 0 } in
      let r = rung (pose x.m) x (at TakeLine x y) c (λ e. eqb-false v 0 some (same ∙ e)) g.fits in
      subst (λ (u : Answerer). Agreed exec start x u d) (sym (settled_take b s z))
      (moves x y c d TakeLine st y.m.kept y.m.header y.m.loaded g (steps_on (staged TakeLine x y) st y.m.kept ok ok.kept (place_take b s w refl refl (some_words (heads_of s) w.room ok.wired.least))) (between_take b s) g.irq
      (subst (λ (t : Turn). Fits (pose x.m) t x z d) (sym (turn_take b s z.m))
      (in_flight (taken 0) x z d r.0 record { row = lower w x.m.code y.done c x.m.sent x.done r.1; loaded = refl; header = header_take b s s w x.m.code y.m.header refl })))

  taking : (b : Bool) (v : ℕ) (x : Asker) (y : Answerer) (c : Core) → v ≡ c.line → eqb v 0 ≡ b → Agreed exec start x (at TakeLine x y) c
      → Agreed exec start x (settle exec (record y { m = take_on b (staged TakeLine x y) })) (record c { line = 0 })
  taking true v x y c same is g = down v x y c same is g
  taking false v x y c same is g = taken_now v x y c same is g

  pub takes_line : (x : Asker) (y : Answerer) → KeepsAt TakeLine x y
  takes_line x y ws v same g f small = (record g.0 { line = 0 }, (g.1.0, ap (λ (l : List ℕ). set l 2 0) g.1.1, taking (eqb v 0) v x y g.0 (f ∙ ap (λ (l : List ℕ). get_or l 2 0) g.1.1) refl g.1.2))

  pub loads_ack : (x : Asker) (y : Answerer) → KeepsAt TakeAckLoad x y
  loads_ack x y ws v same g f small = let c = g.0 in let h = g.1.2 in let ok = h.answer_ok in let t = while_taken (pose x.m) 0 x (at TakeAckLoad x y) c h.fits in let z : Answerer = record y { m = record y.m { wiring = x.m.wiring; stage = TakeAckStore; kept = v } } in
      (c, (g.1.0, g.1.1, moves x y c c TakeAckLoad TakeAckStore v y.m.header y.m.loaded h (steps_on (staged TakeAckLoad x y) TakeAckStore v ok small ok.place) tt h.irq (in_flight (taken 0) x z c t.0 record { row = t.1.row; loaded = t.1.loaded; header = tt })))

  pub stores_ack : (x : Asker) (y : Answerer) → KeepsAt TakeAckStore x y
  stores_ack x y ws v same g f small = let c = g.0 in let o = g.1.0 in let h = g.1.2 in let ok = h.answer_ok in let t = while_taken (pose x.m) 0 x (at TakeAckStore x y) c h.fits in let w = x.m.wiring in let s : Style = style_of w in let st : AnswerStage = after_ack s in let z : Answerer = at st x y in let e : ℕ = masked_by w.ack y.m.kept in (
    c,
    (
      record o { ack = e },
      ap (λ (l : List ℕ). set l 5 e) g.1.1,
      subst (λ (u : Answerer). Agreed exec start x u c) (sym (settled_ack s z))
          (moves x y c c TakeAckStore st y.m.kept y.m.header y.m.loaded h (steps_on (staged TakeAckStore x y) st y.m.kept ok ok.kept (place_ack s w refl (some_words (heads_of s) w.room ok.wired.least))) (between_ack s) h.irq
          (subst (λ (t : Turn). Fits (pose x.m) t x z c) (sym (turn_ack s z.m)) (in_flight (taken 0) x z c t.0 record { row = t.1.row; loaded = t.1.loaded; header = header_ack s s w x.m.code y.m.header refl }))),
    ),
  )

  header_now : (s : Style) (w : Wiring) (code word : ℕ) → Marked s w code closed word → HasHeader (TakeBlock 0) s w code word
  header_now Headed w code word m = m
  header_now _ w code word m = tt

  header_on : (s : Style) (w : Wiring) (j k code header : ℕ) → HasHeader (TakeBlock j) s w code header → HasHeader (TakeBlock k) s w code header
  header_on Headed w j k code header h = h
  header_on _ w j k code header h = tt

  pub loads_header : (x : Asker) (y : Answerer) → KeepsAt TakeHeader x y
  loads_header x y ws v same g f small = let c = g.0 in let h = g.1.2 in let ok = h.answer_ok in let t = while_taken (pose x.m) 0 x (at TakeHeader x y) c h.fits in let w = x.m.wiring in let s : Style = style_of w in
      let is : v ≡ c.completion = f ∙ ap (λ (l : List ℕ). get_or l 0 0) g.1.1 in let z : Answerer = record y { m = record y.m { wiring = w; stage = TakeBlock 0; header = v } } in (
        c,
        (
          g.1.0,
          g.1.1,
          moves x y c c TakeHeader (TakeBlock 0) y.m.kept v y.m.loaded h (record { wired = ok.wired; sized = ok.sized; place = some_words (heads_of s) w.room ok.wired.least; kept = ok.kept; header = small }) tt h.irq
              (in_flight (taken 0) x z c t.0 record { row = t.1.row; loaded = t.1.loaded; header = subst (λ (n : ℕ). HasHeader (TakeBlock 0) s w x.m.code n) (sym is) (header_now s w x.m.code c.completion t.1.row.completion) }),
        ),
      )

  -- ---- executing it

  -- the device makes its reply of the command in flight
  executes : (j : ℕ) (l : List ℕ) (x : Asker) (y : Answerer) (c : Core) → x.m.wiring.room ≡ room → Agreed exec start x (at (TakeBlock j) x y) c
      → pose x.m ≡ waiting → IsTaken (flight x) (at (TakeBlock j) x y) c j → l ≡ x.m.sent → let k : ℕ = heads_of (style_of x.m.wiring) in
      let m : Answer = record y.m { wiring = x.m.wiring; stage = RunDevice; loaded = l; space = bytes_of (drop k l) } in Agreed exec start x (settle_at exec RunDevice (record y { m = m })) c
  executes j l x y c same g q t whole = let ok = g.answer_ok in let w = x.m.wiring in let s : Style = style_of w in let k : ℕ = heads_of s in let r : Bool = w.reports in let f : Flight = flight x in
      let input : List ℕ = bytes_of (drop k l) in let code : ℕ = code_by s y.m.header l in let e : Executed = exec y.device code input in
      let long : length x.m.sent ≡ block_of w = g.ask_ok.sized.sent in let front : k ≤ length x.m.sent = omega arith in
      let is_input : input ≡ x.m.input = ap (λ (l : List ℕ). bytes_of (drop k l)) whole ∙ (ap bytes_of g.sent.words ∙ bytes_again x.m.input g.sent.fits (ap (λ (n : ℕ). n % 8) g.ask_ok.sized.input ∙ g.ask_ok.wired.whole)) in
      let has = header_on s w j 0 x.m.code y.m.header t.header in
      let carries = sent_carries x g.ask_ok (subst (λ (b : Bool). HasAskedBy b (trail x)) (waits_pends x.m.stage x.m q) g.asked) in
      let is_code : code ≡ x.m.code = ap (λ (l : List ℕ). code_by s y.m.header l) whole ∙ code_known s w x.m.code y.m.header x.m.sent g.ask_ok.id g.ask_ok.code has carries in
      let space : IsSpace room input = subst (IsSpace room) (sym is_input) (record { long = g.ask_ok.sized.input ∙ same; fits = g.sent.fits }) in
      let here : is_state y.device = subst is_state (sym g.device) (state_kept exec is_state room law start y.done sound (subst (λ (n : ℕ). HasRoom n y.done) same g.room)) in
      let kept = law y.device code input here space in
      let reply : length e.space ≡ w.room = kept.1.long ∙ sym same in
      let m : Answer = ran_with (record y.m { wiring = w; stage = RunDevice; loaded = l; space = e.space }) e.bad in
      let x1 : Exchange = exchange_of exec r y.device code input in
      let z : Answerer = record { m = m; device = e.state; done = y.done ++ x1 ∷ [] } in
      let more : (d : List ℕ) → d ≡ state_after exec start y.done → Legal exec r start (y.done ++ exchange_of exec r d code input ∷ []) = λ d e. subst (λ (d : List ℕ). Legal exec r start (y.done ++ exchange_of exec r d code input ∷ [])) (sym e) (legal_more exec r start y.done code input g.legal) in
      let out : take k l ++ words_of e.space ≡ reply_block f e.space = ap (λ (l : List ℕ). take k l ++ words_of e.space) whole in
      let longs : length m.out ≡ block_of w = ap (λ (l : List ℕ). length l) out ∙ block_long k w.room x.m.sent e.space long reply in record {
        ask_ok = g.ask_ok;
        answer_ok = record { wired = ok.wired; sized = record { loaded = ap (λ (l : List ℕ). length l) whole ∙ long; out = longs; space = reply }; place = replied_place k w m.out l longs (omega arith); kept = ok.kept; header = ok.header };
        between = replied_between k w m.out l;
        same = refl;
        legal = more y.device g.device;
        device = ap (λ (d : List ℕ). (exec d code input).state) g.device ∙ sym (state_more exec start y.done x1);
        room = room_more w.room y.done x1 g.room (subst (λ (n : ℕ). IsSpace n input) (sym same) space) (subst (λ (n : ℕ). IsSpace n e.space) (sym same) kept.1);
        sent = g.sent;
        shown = g.shown;
        asked = g.asked;
        posts = g.posts;
        irq = g.irq;
        fits = subst (λ (t : Turn). Fits (pose x.m) t x z c) (sym (replied_turn k w m.out l m longs (omega arith))) (in_flight (replying (next_changed k m.out l)) x z c q record {
          row = record {
            completion = t.row.completion;
            line = t.row.line;
            block = t.row.block ∙ sym (mix_loaded k m.out l x.m.sent whole (longs ∙ sym long) ∙ ap (λ (o : List ℕ). mix k o x.m.sent) out ∙ mix_front k x.m.sent (words_of e.space) front);
            done = (λ i. t.row.done i ++ record { code = is_code i; input = is_input i; error = both r e.bad; output = e.space } ∷ []);
          };
          header = has;
          loaded = whole;
          out = out;
          bytes = kept.1.fits;
          told = replied_told k w m.out l c.error e.bad;
        });
      }

  loaded_on : (b : Bool) (j v : ℕ) (x : Asker) (y : Answerer) (c : Core) → x.m.wiring.room ≡ room → has_more j x.m.wiring ≡ b → v ≡ get_or c.block j 0
      → Agreed exec start x (at (TakeBlock j) x y) c
      → Agreed exec start x (settle exec (record y { m = load_on b j v (staged (TakeBlock j) x y) })) c
  loaded_on true j v x y c room_is more same g = let ok = g.answer_ok in let w = x.m.wiring in let n : ℕ = block_of w in let here : j < n = ok.place in let t = while_taken (pose x.m) j x (at (TakeBlock j) x y) c g.fits in
      let long : length y.m.loaded ≡ n = ok.sized.loaded in let long' : length x.m.sent ≡ n = g.ask_ok.sized.sent in let z : Answerer = record y { m = load_on true j v (staged (TakeBlock j) x y) } in
      moves x y c c (TakeBlock j) (TakeBlock (j + 1)) y.m.kept y.m.header (set y.m.loaded j v) g (record { wired = ok.wired; sized = record { loaded = length-set y.m.loaded j v ∙ long; out = ok.sized.out; space = ok.sized.space }; place = ltb-true (j + 1) n more; kept = ok.kept; header = ok.header }) tt g.irq
      (in_flight (taken (j + 1)) x z c t.0 record { row = t.1.row; loaded = loads j y.m.loaded x.m.sent v (omega arith) (omega arith) (same ∙ ap (λ (l : List ℕ). get_or l j 0) t.1.row.block) t.1.loaded; header = header_on (style_of w) w j (j + 1) x.m.code y.m.header t.1.header })
  loaded_on false j v x y c room_is more same g = let ok = g.answer_ok in let w = x.m.wiring in let n : ℕ = block_of w in let here : j < n = ok.place in let t = while_taken (pose x.m) j x (at (TakeBlock j) x y) c g.fits in
      let long : length y.m.loaded ≡ n = ok.sized.loaded in let long' : length x.m.sent ≡ n = g.ask_ok.sized.sent in
      let last : n ≤ j + 1 = ltb-false (j + 1) n more in let all : j + 1 ≡ n = omega arith in let l : List ℕ = set y.m.loaded j v in let longs : length l ≡ n = length-set y.m.loaded j v ∙ long in
      let part = loads j y.m.loaded x.m.sent v (omega arith) (omega arith) (same ∙ ap (λ (l : List ℕ). get_or l j 0) t.1.row.block) t.1.loaded in
      executes j l x y c room_is g t.0 t.1 (take_all n l x.m.sent longs long' (subst (λ (k : ℕ). take k l ≡ take k x.m.sent) all part))

  pub loads_block : (j : ℕ) (x : Asker) (y : Answerer) → KeepsAt (TakeBlock j) x y
  loads_block j x y ws v same g f small = (g.0, (g.1.0, g.1.1, loaded_on (has_more j x.m.wiring) j v x y g.0 same refl (f ∙ (ap (λ (l : List ℕ). get_or l (8 + j) 0) g.1.1 ∙ get_block g.0 g.1.0 j)) g.1.2))

  pub runs : (x : Asker) (y : Answerer) → KeepsAt RunDevice x y
  runs x y ws v same g f small = absurd g.1.2.between
