-- Each step of a reply keeps the relation.
use Rattle.std.proofs.Common.{◌≡◌, ◌≢◌, ℕ, ◌+◌, ◌^◌, ◌<◌, ◌≤◌, Bool, true, false, List, length, get_or, set, refl, sym, ap, ◌∙◌, subst, ⊎_elim, inl, inr, arith}
use Rattle.std.specs.Int.RustNames.{bit_or}
use Rattle.pcc_exec.specs.Execution.{IsSpace}
use Rattle.pcc_history.specs.Devices.{Device}
use Rattle.pcc_history.specs.Channel.{both}
use Rattle.pcc_steps.specs.declared.wiring.Wiring.{Wiring}
use Rattle.pcc_steps.specs.declared.wiring.Style.{Style}
use Rattle.pcc_steps.specs.declared.wiring.Style.TheVariants.{Headed, Joined3, Separate3, Joined4, Separate4, Reduced5}
use Rattle.pcc_steps.specs.declared.answer.AnswerStage.{AnswerStage}
use Rattle.pcc_steps.specs.declared.answer.AnswerStage.TheVariants.{AnswerRest, TakeLine, TakeAckLoad, TakeAckStore, TakeHeader, TakeBlock, RunDevice, ReplyBlock, ReplyError, ReplyHeader, ReplyUpdateLoad, ReplyUpdateStore, ReplyMarkLoad, ReplyMarkStore, CloseBellLoad, CloseBellStore, CloseLine}
use Rattle.shmem_header.specs.HeaderBits.{with_status}
use Rattle.pcc_steps.specs.Changes.{next_changed}
use Rattle.pcc_steps.specs.Wires.{style_of, heads_of, block_of, status_of, four_by, masked_by, update_place}
use Rattle.pcc_steps.specs.Runs.{error_word}
use Rattle.pcc_steps.specs.Asking.{CodeFits}
use Rattle.pcc_steps.specs.Answering.{Answer, AnswerUpdates, AnswerSets, answer_next_at, reply_stage, after_error, after_close, after_done, asks_notify, done_stage, after_update}
use Rattle.pcc_steps.specs.Agree.{Core, act, Finds, Asker, Answerer, settle_at, answerer_fed_at, Pose, free, writing, cleared, waiting, reading, pose, Turn, quiet, replying, turn_at, closed, finished, Marked, Row, flight, HasHeader, Shows, IsReplying, IsDone, Fits, IsBetween, Agreed, Agree}
use Rattle.pcc_steps.proofs.Lists.{mix_more, mix_all, set_block}
use Rattle.pcc_steps.proofs.Bits.{reports_headed, status_seen, sets_mark, sets_update, shows_stored}
use Rattle.pcc_steps.proofs.ReplyStages.{place_error, between_error, told_error, turn_error, settled_error, replied_settled, replied_place, replied_between, replied_turn, replied_told, mix_loaded}
use Rattle.pcc_steps.proofs.AnswerPlaces.{place_close, place_done}
use Rattle.pcc_steps.proofs.AnswerKeeps.{staged, at, KeepsAt, while_replying, still, in_flight, moves, steps_on, rests, takes_line, loads_ack, stores_ack, loads_header, loads_block, runs}

module _ (exec : Device) (is_state : List ℕ → Type 0) (room : ℕ) (law : (d : List ℕ) (code : ℕ) (s : List ℕ) → is_state d → IsSpace room s → is_state (exec d code s).state × IsSpace room (exec d code s).space) (start : List ℕ) (sound : is_state start) where
  -- ---- the reply

  -- a word of the reply is stored: the words up to the next one that changed stand there
  replied_on : (j : ℕ) (x : Asker) (y : Answerer) (c : Core) → Agreed exec start x (at (ReplyBlock j) x y) c
      → let st : AnswerStage = reply_stage (j + 1) x.m.wiring y.m.out y.m.loaded in
      Agreed exec start x (settle_at exec st (at st x y)) (record c { block = set c.block j (get_or y.m.out j 0) })
  replied_on j x y c g = let ok = g.answer_ok in let w = x.m.wiring in let n : ℕ = block_of w in let here : j < n = ok.place.1 in let from : heads_of (style_of w) ≤ j = ok.place.0 in let t = while_replying exec is_state room law start sound (pose x.m) j x (at (ReplyBlock j) x y) c g.fits in
      let long : length y.m.out ≡ n = ok.sized.out in let long' : length x.m.sent ≡ n = g.ask_ok.sized.sent in let same : length y.m.out ≡ length x.m.sent = long ∙ sym long' in
      let k : ℕ = next_changed (j + 1) y.m.out y.m.loaded in let st : AnswerStage = reply_stage (j + 1) w y.m.out y.m.loaded in let z : Answerer = at st x y in let d : Core = record c { block = set c.block j (get_or y.m.out j 0) } in
      subst (λ (u : Answerer). Agreed exec start x u d) (sym (replied_settled exec (j + 1) w y.m.out y.m.loaded z))
      (moves exec is_state room law start sound x y c d (ReplyBlock j) st y.m.kept y.m.header y.m.loaded g (steps_on exec is_state room law start sound (staged (ReplyBlock j) x y) st y.m.kept ok ok.kept (replied_place (j + 1) w y.m.out y.m.loaded long (omega arith))) (replied_between (j + 1) w y.m.out y.m.loaded) g.irq
      (subst (λ (t : Turn). Fits (pose x.m) t x z d) (sym (replied_turn (j + 1) w y.m.out y.m.loaded z.m long (omega arith))) (in_flight exec is_state room law start sound (replying k) x z d t.0 record {
        row = record { completion = t.1.row.completion; line = t.1.row.line; block = ap (λ (l : List ℕ). set l j (get_or y.m.out j 0)) t.1.row.block ∙ (mix_more j y.m.out x.m.sent (omega arith) same ∙ sym (mix_loaded (j + 1) y.m.out y.m.loaded x.m.sent t.1.loaded same)); done = t.1.row.done };
        header = t.1.header;
        loaded = t.1.loaded;
        out = t.1.out;
        bytes = t.1.bytes;
        told = replied_told (j + 1) w y.m.out y.m.loaded c.error y.m.bad;
      })))

  stores_reply : (j : ℕ) (x : Asker) (y : Answerer) → KeepsAt exec is_state room law start sound (ReplyBlock j) x y
  stores_reply j x y ws v same g f small = let c = g.0 in let o = g.1.0 in let s : ℕ = get_or y.m.out j 0 in (
    record c { block = set c.block j s },
    (o, ap (λ (l : List ℕ). set l (8 + j) s) g.1.1 ∙ set_block c o j s, replied_on j x y c g.1.2),
  )

  stores_error : (x : Asker) (y : Answerer) → KeepsAt exec is_state room law start sound ReplyError x y
  stores_error x y ws v same g f small = let c = g.0 in let h = g.1.2 in let ok = h.answer_ok in let w = x.m.wiring in let n : ℕ = block_of w in let t = while_replying exec is_state room law start sound (pose x.m) n x (at ReplyError x y) c h.fits in let s : Style = style_of w in let st : AnswerStage = after_error s in let z : Answerer = at st x y in
      let e : ℕ = error_word w y.m.bad in let d : Core = record c { error = e } in (
        d,
        (
          g.1.0,
          ap (λ (l : List ℕ). set l 3 e) g.1.1,
          subst (λ (u : Answerer). Agreed exec start x u d) (sym (settled_error exec s z))
              (moves exec is_state room law start sound x y c d ReplyError st y.m.kept y.m.header y.m.loaded h (steps_on exec is_state room law start sound (staged ReplyError x y) st y.m.kept ok ok.kept (place_error s w refl)) (between_error s) h.irq
              (subst (λ (t : Turn). Fits (pose x.m) t x z d) (sym (turn_error s z.m)) (in_flight exec is_state room law start sound (replying n) x z d t.0 record {
                row = record { completion = t.1.row.completion; line = t.1.row.line; block = t.1.row.block; done = t.1.row.done };
                header = t.1.header;
                loaded = t.1.loaded;
                out = t.1.out;
                bytes = t.1.bytes;
                told = told_error s w e (both w.reports y.m.bad) (shows_stored w y.m.bad ok.place h.ask_ok.wired);
              }))),
        ),
      )

  -- ---- completion

  turn_close : (b : Bool) (a : Answer) → turn_at (after_close b) a ≡ quiet
  turn_close true a = refl
  turn_close false a = refl

  turn_done : (b asks : Bool) (a : Answer) → turn_at (after_done b asks) a ≡ quiet
  turn_done true asks a = refl
  turn_done false asks a = turn_close asks a

  settled_close : (b : Bool) (y : Answerer) → settle_at exec (after_close b) y ≡ y
  settled_close true y = refl
  settled_close false y = refl

  settled_done : (b asks : Bool) (y : Answerer) → settle_at exec (after_done b asks) y ≡ y
  settled_done true asks y = refl
  settled_done false asks y = settled_close asks y

  between_close : (b : Bool) → IsBetween (after_close b)
  between_close true = tt
  between_close false = tt

  between_done : (b asks : Bool) → IsBetween (after_done b asks)
  between_done true asks = tt
  between_done false asks = between_close asks

  -- completion is set: the command is done
  completes : (before : AnswerStage) (z : ℕ) (x : Asker) (y : Answerer) (c : Core) → Agreed exec start x (at before x y) c → pose x.m ≡ waiting
      → IsReplying (flight x) (at before x y) c (block_of x.m.wiring) → Shows x.m.wiring c.error (both x.m.wiring.reports y.m.bad)
      → Marked (style_of x.m.wiring) x.m.wiring x.m.code (finished (both x.m.wiring.reports y.m.bad)) z
      → Agreed exec start x (settle_at exec (done_stage (staged before x y)) (at (done_stage (staged before x y)) x y)) (record c { completion = z })
  completes before z x y c g q t shows mark = let ok = g.answer_ok in let w = x.m.wiring in let n : ℕ = block_of w in let b : Bool = four_by (style_of w) w.has_bell in let asks : Bool = asks_notify (staged before x y) in let st : AnswerStage = after_done b asks in let u : Answerer = at st x y in
      let d : Core = record c { completion = z } in let e : Bool = both w.reports y.m.bad in
      let k : IsDone (flight x) y.done d e y.m.space = record {
        row = record { completion = mark; line = t.row.line; block = t.row.block ∙ (mix_all n y.m.out x.m.sent ok.sized.out g.ask_ok.sized.sent ∙ t.out); done = t.row.done };
        long = ok.sized.space;
        bytes = t.bytes;
        shows = shows;
      } in
      subst (λ (u : Answerer). Agreed exec start x u d) (sym (settled_done b asks u))
      (moves exec is_state room law start sound x y c d before st y.m.kept y.m.header y.m.loaded g (steps_on exec is_state room law start sound (staged before x y) st y.m.kept ok ok.kept (place_done b asks w refl)) (between_done b asks) g.irq
      (subst (λ (t : Turn). Fits (pose x.m) t x u d) (sym (turn_done b asks u.m)) (in_flight exec is_state room law start sound quiet x u d q (inr ((e, y.m.space), k)))))

  -- every error of types 0 to 2 is reported
  all_told : (r bad : Bool) → r ≡ true → both r bad ≡ bad
  all_told true bad e = refl
  all_told false bad e = cc

  header_sent : (s : Style) (w : Wiring) (code header : ℕ) (bad : Bool) → s ≡ Headed → w.id < 2 ^ 8 → CodeFits s code → HasHeader (TakeBlock 0) s w code header
      → Marked s w code (finished bad) (with_status header (status_of bad))
  header_sent Headed w code header bad e id fits h = status_seen w code header bad id fits h
  header_sent _ w code header bad e id fits h = cc

  stores_status : (x : Asker) (y : Answerer) → KeepsAt exec is_state room law start sound ReplyHeader x y
  stores_status x y ws v same g f small = let c = g.0 in let h = g.1.2 in let ok = h.answer_ok in let w = x.m.wiring in let t = while_replying exec is_state room law start sound (pose x.m) (block_of w) x (at ReplyHeader x y) c h.fits in let z : ℕ = with_status y.m.header (status_of y.m.bad) in
      let e : both w.reports y.m.bad ≡ y.m.bad = all_told w.reports y.m.bad (reports_headed w ok.place h.ask_ok.wired) in
      let mark = subst (λ (e : Bool). Marked (style_of w) w x.m.code (finished e) z) (sym e) (header_sent (style_of w) w x.m.code y.m.header y.m.bad ok.place h.ask_ok.id h.ask_ok.code t.1.header) in
      (record c { completion = z }, (g.1.0, ap (λ (l : List ℕ). set l 0 z) g.1.1, completes ReplyHeader z x y c h t.0 t.1 t.1.told mark))

  loads_update : (x : Asker) (y : Answerer) → KeepsAt exec is_state room law start sound ReplyUpdateLoad x y
  loads_update x y ws v same g f small = let c = g.0 in let h = g.1.2 in let ok = h.answer_ok in let n : ℕ = block_of x.m.wiring in let t = while_replying exec is_state room law start sound (pose x.m) n x (at ReplyUpdateLoad x y) c h.fits in let z : Answerer = record y { m = record y.m { wiring = x.m.wiring; stage = ReplyUpdateStore; kept = v } } in (
    c,
    (
      g.1.0,
      g.1.1,
      moves exec is_state room law start sound x y c c ReplyUpdateLoad ReplyUpdateStore v y.m.header y.m.loaded h (steps_on exec is_state room law start sound (staged ReplyUpdateLoad x y) ReplyUpdateStore v ok small ok.place) tt h.irq
          (in_flight exec is_state room law start sound (replying n) x z c t.0 record { row = t.1.row; header = t.1.header; loaded = t.1.loaded; out = t.1.out; bytes = t.1.bytes; told = t.1.told }),
    ),
  )

  loads_mark : (x : Asker) (y : Answerer) → KeepsAt exec is_state room law start sound ReplyMarkLoad x y
  loads_mark x y ws v same g f small = let c = g.0 in let h = g.1.2 in let ok = h.answer_ok in let n : ℕ = block_of x.m.wiring in let t = while_replying exec is_state room law start sound (pose x.m) n x (at ReplyMarkLoad x y) c h.fits in let z : Answerer = record y { m = record y.m { wiring = x.m.wiring; stage = ReplyMarkStore; kept = v } } in (
    c,
    (
      g.1.0,
      g.1.1,
      moves exec is_state room law start sound x y c c ReplyMarkLoad ReplyMarkStore v y.m.header y.m.loaded h (steps_on exec is_state room law start sound (staged ReplyMarkLoad x y) ReplyMarkStore v ok small ok.place) tt h.irq
          (in_flight exec is_state room law start sound (replying n) x z c t.0 record { row = t.1.row; header = t.1.header; loaded = t.1.loaded; out = t.1.out; bytes = t.1.bytes; told = t.1.told }),
    ),
  )

  not_headed : (s : Style) → AnswerSets s → s ≢ Headed
  not_headed Headed u e = u
  not_headed Joined3 u e = cc
  not_headed Separate3 u e = cc
  not_headed Joined4 u e = u
  not_headed Separate4 u e = cc
  not_headed Reduced5 u e = cc

  stores_mark : (x : Asker) (y : Answerer) → KeepsAt exec is_state room law start sound ReplyMarkStore x y
  stores_mark x y ws v same g f small = let c = g.0 in let h = g.1.2 in let ok = h.answer_ok in let w = x.m.wiring in let t = while_replying exec is_state room law start sound (pose x.m) (block_of w) x (at ReplyMarkStore x y) c h.fits in let z : ℕ = bit_or y.m.kept w.check_mask in
      let mark = sets_mark (style_of w) w x.m.code y.m.kept (both w.reports y.m.bad) (not_headed (style_of w) ok.place) refl h.ask_ok.wired in
      (record c { completion = z }, (g.1.0, ap (λ (l : List ℕ). set l 0 z) g.1.1, completes ReplyMarkStore z x y c h t.0 t.1 t.1.told mark))

  -- the update register is written: completion is set, where it is the check register
  updated : (s : Style) (x : Asker) (y : Answerer) (ws : List ℕ) → style_of x.m.wiring ≡ s → AnswerUpdates s → Agree exec start ws x (at ReplyUpdateStore x y)
      → let z : ℕ = masked_by x.m.wiring.update y.m.kept in let st : AnswerStage = after_update s (staged ReplyUpdateStore x y) in
      Agree exec start (set ws (update_place s) z) x (settle_at exec st (at st x y))
  updated Headed x y ws e u g = absurd u
  updated Joined3 x y ws e u g = absurd u
  updated Separate3 x y ws e u g = absurd u
  updated Joined4 x y ws e u g = let c = g.0 in let h = g.1.2 in let ok = h.answer_ok in let w = x.m.wiring in let t = while_replying exec is_state room law start sound (pose x.m) (block_of w) x (at ReplyUpdateStore x y) c h.fits in let z : ℕ = masked_by w.update y.m.kept in let b : Bool = both w.reports y.m.bad in
      let mark = subst (λ (s : Style). Marked s w x.m.code (finished b) z) (sym e) (sets_update w x.m.code y.m.kept b e h.ask_ok.wired) in
      (record c { completion = z }, (g.1.0, ap (λ (l : List ℕ). set l 0 z) g.1.1, completes ReplyUpdateStore z x y c h t.0 t.1 t.1.told mark))
  updated Separate4 x y ws e u g = let c = g.0 in let o = g.1.0 in let h = g.1.2 in let ok = h.answer_ok in let w = x.m.wiring in let n : ℕ = block_of w in let t = while_replying exec is_state room law start sound (pose x.m) n x (at ReplyUpdateStore x y) c h.fits in let z : ℕ = masked_by w.update y.m.kept in let u : Answerer = at ReplyMarkLoad x y in (
    c,
    (
      record o { update = z },
      ap (λ (l : List ℕ). set l 6 z) g.1.1,
      moves exec is_state room law start sound x y c c ReplyUpdateStore ReplyMarkLoad y.m.kept y.m.header y.m.loaded h (steps_on exec is_state room law start sound (staged ReplyUpdateStore x y) ReplyMarkLoad y.m.kept ok ok.kept (subst AnswerSets (sym e) tt)) tt h.irq
          (in_flight exec is_state room law start sound (replying n) x u c t.0 record { row = t.1.row; header = t.1.header; loaded = t.1.loaded; out = t.1.out; bytes = t.1.bytes; told = t.1.told }),
    ),
  )
  updated Reduced5 x y ws e u g = absurd u

  stores_update : (x : Asker) (y : Answerer) → KeepsAt exec is_state room law start sound ReplyUpdateStore x y
  stores_update x y ws v same g f small = updated (style_of x.m.wiring) x y ws refl g.1.2.answer_ok.place g

  -- ---- closing

  loads_bell : (x : Asker) (y : Answerer) → KeepsAt exec is_state room law start sound CloseBellLoad x y
  loads_bell x y ws v same g f small = let c = g.0 in let h = g.1.2 in let ok = h.answer_ok in
      (c, (g.1.0, g.1.1, moves exec is_state room law start sound x y c c CloseBellLoad CloseBellStore v y.m.header y.m.loaded h (steps_on exec is_state room law start sound (staged CloseBellLoad x y) CloseBellStore v ok small ok.place) tt h.irq (still exec is_state room law start sound (pose x.m) x (at CloseBellLoad x y) c (record y.m { wiring = x.m.wiring; stage = CloseBellStore; kept = v }) h.fits)))

  stores_bell : (x : Asker) (y : Answerer) → KeepsAt exec is_state room law start sound CloseBellStore x y
  stores_bell x y ws v same g f small = let c = g.0 in let o = g.1.0 in let h = g.1.2 in let ok = h.answer_ok in let w = x.m.wiring in let z : ℕ = masked_by w.bell y.m.kept in let b : Bool = asks_notify (staged CloseBellStore x y) in let st : AnswerStage = after_close b in let u : Answerer = at st x y in (
    c,
    (
      record o { bell = z },
      ap (λ (l : List ℕ). set l 1 z) g.1.1,
      subst (λ (u : Answerer). Agreed exec start x u c) (sym (settled_close b u))
          (moves exec is_state room law start sound x y c c CloseBellStore st y.m.kept y.m.header y.m.loaded h (steps_on exec is_state room law start sound (staged CloseBellStore x y) st y.m.kept ok ok.kept (place_close b w)) (between_close b) h.irq
          (subst (λ (t : Turn). Fits (pose x.m) t x u c) (sym (turn_close b u.m)) (still exec is_state room law start sound (pose x.m) x (at CloseBellStore x y) c u.m h.fits))),
    ),
  )

  -- the interrupt line is no part of a row
  raised : (x : Asker) (y : Answerer) (c : Core) (e : Bool) (output : List ℕ) → IsDone (flight x) y.done c e output
      → IsDone (flight x) y.done (record c { irq = 1 }) e output
  raised x y c e output is = record { row = record { completion = is.row.completion; line = is.row.line; block = is.row.block; done = is.row.done }; long = is.long; bytes = is.bytes; shows = is.shows }

  raised_fits : (q : Pose) (x : Asker) (y : Answerer) (c : Core) → Fits q quiet x y c → Fits q quiet x y (record c { irq = 1 })
  raised_fits free x y c f = (f.0, record { completion = f.1.completion; line = f.1.line; block = f.1.block; done = f.1.done })
  raised_fits (writing j) x y c f = (f.0, record { completion = f.1.completion; line = f.1.line; block = f.1.block; done = f.1.done })
  raised_fits cleared x y c f = (f.0, record { completion = f.1.completion; line = f.1.line; block = f.1.block; done = f.1.done })
  raised_fits waiting x y c f = ⊎_elim (λ (r : Row x.m.wiring x.m.code y.done c closed 1 x.m.sent x.done). inl record { completion = r.completion; line = r.line; block = r.block; done = r.done }) (λ (d : (o : Bool × List ℕ) × IsDone (flight x) y.done c o.0 o.1). inr (d.0, raised x y c d.0.0 d.0.1 d.1)) f
  raised_fits (reading j) x y c f = (f.0, record { error = f.1.error; output = f.1.output; is = raised x y c f.1.error f.1.output f.1.is; loaded = f.1.loaded; knows = f.1.knows })

  raises_line : (x : Asker) (y : Answerer) → KeepsAt exec is_state room law start sound CloseLine x y
  raises_line x y ws v same g f small = let c = g.0 in let h = g.1.2 in let ok = h.answer_ok in let d : Core = record c { irq = 1 } in (
    d,
    (
      g.1.0,
      ap (λ (l : List ℕ). set l 4 1) g.1.1,
      moves exec is_state room law start sound x y c d CloseLine AnswerRest y.m.kept y.m.header y.m.loaded h (steps_on exec is_state room law start sound (staged CloseLine x y) AnswerRest y.m.kept ok ok.kept tt) tt (omega arith) (still exec is_state room law start sound (pose x.m) x (at CloseLine x y) d (staged AnswerRest x y) (raised_fits (pose x.m) x (at CloseLine x y) c h.fits)),
    ),
  )

  keeps_at : (st : AnswerStage) (x : Asker) (y : Answerer) → KeepsAt exec is_state room law start sound st x y
  keeps_at AnswerRest = rests exec is_state room law start sound
  keeps_at TakeLine = takes_line exec is_state room law start sound
  keeps_at TakeAckLoad = loads_ack exec is_state room law start sound
  keeps_at TakeAckStore = stores_ack exec is_state room law start sound
  keeps_at TakeHeader = loads_header exec is_state room law start sound
  keeps_at (TakeBlock j) = loads_block exec is_state room law start sound j
  keeps_at RunDevice = runs exec is_state room law start sound
  keeps_at (ReplyBlock j) = stores_reply j
  keeps_at ReplyError = stores_error
  keeps_at ReplyHeader = stores_status
  keeps_at ReplyUpdateLoad = loads_update
  keeps_at ReplyUpdateStore = stores_update
  keeps_at ReplyMarkLoad = loads_mark
  keeps_at ReplyMarkStore = stores_mark
  keeps_at CloseBellLoad = loads_bell
  keeps_at CloseBellStore = stores_bell
  keeps_at CloseLine = raises_line

  -- both machines have one wiring
  pub answer_keeps : (st : AnswerStage) (x : Asker) (y : Answerer) (ws : List ℕ) (v : ℕ) → x.m.wiring.room ≡ room
      → Agree exec start ws x (record y { m = record y.m { stage = st } }) → Finds (answer_next_at st (record y.m { stage = st })) ws v → v < 2 ^ 64
      → Agree exec start (act (answer_next_at st (record y.m { stage = st })) ws) x (answerer_fed_at exec st (record y { m = record y.m { stage = st } }) v)
  answer_keeps st x y ws v same g f small = subst (λ (w : Wiring). let z : Answerer = record y { m = record y.m { wiring = w; stage = st } } in Agree exec start ws x z → Finds (answer_next_at st z.m) ws v → Agree exec start (act (answer_next_at st z.m) ws) x (answerer_fed_at exec st z v))
      (sym g.1.2.same) (λ (h : Agree exec start ws x (at st x y)) (q : Finds (answer_next_at st (staged st x y)) ws v). keeps_at st x y ws v same h q small) g f
