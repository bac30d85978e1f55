-- Each step of a look keeps the relation.
use Rattle.std.proofs.Common.{◌≡◌, ℕ, ◌+◌, ◌<◌, ◌≤◌, Bool, true, false, eqb, List, [], ◌∷◌, ◌++◌, length, get_or, set, take, drop, refl, sym, ap, ◌∙◌, subst, ⊎_elim, arith, length-set}
use Rattle.std.proofs.lemmas.List.{length-append}
use borrow.Author.Tests.{ltb-true, ltb-false}
use Rattle.pcc_bytes.specs.Bytes.{IsBytes}
use Rattle.pcc_history.specs.Devices.{Device}
use Rattle.pcc_steps.specs.declared.wiring.Style.{Style}
use Rattle.pcc_steps.specs.declared.ask.AskStage.{AskStage}
use Rattle.pcc_steps.specs.declared.ask.AskStage.TheVariants.{AskRest, PostBlock, PostHeader, PostUpdateLoad, PostUpdateStore, PostMarkLoad, PostMarkStore, PostBellLoad, PostBellStore, PostLine, LookWord, LookError, LookBlock, LookLine, LookLineStore, LookAckLoad, LookAckStore}
use Rattle.shmem_header.specs.Spelling.{words_of, bytes_of}
use Rattle.pcc_steps.specs.Wires.{style_of, heads_of, block_of, meets, is_complete, sees_done, tells_error, header_error, acknowledges, masked_by}
use Rattle.pcc_steps.specs.Asking.{Ask, AskOk, has_more, look_on, read_on, block_on, line_on, lowered_on, drained, after_look, look_told, read_told, end_told, line_told}
use Rattle.pcc_steps.specs.Agree.{Core, Asker, Answerer, done_after, clears_after, Pose, reading, resting, pose_at, Turn, quiet, taken, replying, turn, closed, Row, flight, answered, reply_block, IsDone, Waits, Knows, Fits, flying, trail, HasAskedBy, Agreed}
use Rattle.pcc_steps.proofs.Lists.{take_all, loads, get_block}
use Rattle.pcc_steps.proofs.Bits.{closed_unset, finished_opened, error_seen, error_shown}
use Rattle.pcc_steps.proofs.Spaces.{block_long, behind_front, space_again, some_words}
use Rattle.pcc_steps.proofs.Trails.{look_pends, flown_pends, drain_asks}
use Rattle.pcc_steps.proofs.PostStages.{steps_on}
use Rattle.pcc_steps.proofs.AskKeeps.{at, Keeps, moves, stores_block, stores_header, loads_update, stores_update, loads_mark, stores_mark, loads_bell, stores_bell, raises_bell}

-- the drained command joins the history
abbrev pub ended : Asker → Asker
ended x = record x { m = drained x.m; done = x.done ++ record { code = x.m.code; input = x.m.input; error = x.m.error; output = bytes_of (drop (heads_of (style_of x.m.wiring)) x.m.loaded) } ∷ [] }

module _ (exec : Device) (start : List ℕ) where
  -- ---- completion

  -- while completion is seen set, the answering end is done
  sees : (t : Turn) (s : Style) (x : Asker) (y : Answerer) (c : Core) → AskOk x.m → style_of x.m.wiring ≡ s
      → is_complete s x.m.wiring.check_mask c.completion ≡ true → Waits t (flight x) y c
      → (t ≡ quiet) × ((o : Bool × List ℕ) × IsDone (flight x) y.done c o.0 o.1)
  sees quiet s x y c ok is seen w = ⊎_elim (λ (r : Row x.m.wiring x.m.code y.done c closed 1 x.m.sent x.done). let not = closed_unset (style_of x.m.wiring) x.m.wiring x.m.code c.completion ok.id ok.code r.completion in let e = ap (λ (s : Style). is_complete s x.m.wiring.check_mask c.completion) is in cc) (λ (d : (o : Bool × List ℕ) × IsDone (flight x) y.done c o.0 o.1). (refl, d)) w
  sees (taken j) s x y c ok is seen w = let not = closed_unset (style_of x.m.wiring) x.m.wiring x.m.code c.completion ok.id ok.code w.row.completion in let e = ap (λ (s : Style). is_complete s x.m.wiring.check_mask c.completion) is in cc
  sees (replying j) s x y c ok is seen w = let not = closed_unset (style_of x.m.wiring) x.m.wiring x.m.code c.completion ok.id ok.code w.row.completion in let e = ap (λ (s : Style). is_complete s x.m.wiring.check_mask c.completion) is in cc

  pose_look : (b : Bool) (a : Ask) → pose_at (after_look b) a ≡ reading 0
  pose_look true a = refl
  pose_look false a = refl

  look_ok : (b : Bool) (a : Ask) (e : Bool) → tells_error a.wiring ≡ b → 0 < block_of a.wiring → AskOk (record a { stage = LookWord })
      → AskOk (record a { stage = after_look b; error = e })
  look_ok true a e is some ok = record { wired = ok.wired; sized = ok.sized; place = is; flies = ok.flies; looks = let l = ok.looks in omega arith; posts = ok.posts; kept = ok.kept; mask = ok.mask; id = ok.id; code = ok.code }
  look_ok false a e is some ok = record { wired = ok.wired; sized = ok.sized; place = some; flies = ok.flies; looks = let l = ok.looks in omega arith; posts = ok.posts; kept = ok.kept; mask = ok.mask; id = ok.id; code = ok.code }

  knows_look : (b : Bool) (e e' : Bool) → (b ≡ false → e' ≡ e) → Knows (after_look b) e e'
  knows_look true e e' h = tt
  knows_look false e e' h = h refl

  looked_at : (b : Bool) (v : ℕ) (x : Asker) (y : Answerer) (c : Core) → sees_done x.m.wiring v ≡ b → v ≡ c.completion → Agreed exec start (at LookWord x) y c
      → Agreed exec start (record x { m = look_on b v (at LookWord x).m; done = done_after (look_told b) x.done (look_on b v (at LookWord x).m); clears = clears_after (look_told b) x.clears }) y c
  looked_at true v x y c seen same g = let ok = g.ask_ok in let w = x.m.wiring in let s : Style = style_of w in let t : Bool = tells_error w in let a : Ask = record x.m { stage = after_look t; error = header_error s v } in
      let now : is_complete s w.check_mask c.completion ≡ true = ap (is_complete s w.check_mask) (sym same) ∙ seen in let d = sees (turn y.m) s (at LookWord x) y c ok refl now g.fits in
      moves exec start (at LookWord x) y c c (after_look t) x.m.kept (header_error s v) x.m.loaded x.m.looks x.clears (look_pends t x.m.in_flight) g (look_ok t x.m (header_error s v) refl (some_words (heads_of s) w.room ok.wired.least) ok) g.irq
      (subst (λ (q : Pose). Fits q (turn y.m) (record x { m = a }) y c) (sym (pose_look t a))
      (d.0, record { error = d.1.0.0; output = d.1.0.1; is = d.1.1; loaded = refl; knows = knows_look t d.1.0.0 (header_error s v) (λ quietly. error_seen s w.reports w x.m.code c.completion v c.error d.1.0.0 ok.id ok.code quietly same d.1.1.row.completion d.1.1.shows) }))
  looked_at false v x y c seen same g = let ok = g.ask_ok in
      moves exec start (at LookWord x) y c c AskRest x.m.kept x.m.error x.m.loaded (x.m.looks + 1) (x.clears + 1) ok.flies g (record { wired = ok.wired; sized = ok.sized; place = tt; flies = tt; looks = let l = ok.looks in omega arith; posts = ok.posts; kept = ok.kept; mask = ok.mask; id = ok.id; code = ok.code }) g.irq
      (subst (λ (f : Bool). Fits (resting f) (turn y.m) (record x { m = look_on false v (at LookWord x).m; done = x.done; clears = x.clears + 1 }) y c) (sym ok.flies) g.fits)

  looks_word : Keeps exec start LookWord
  looks_word x y ws v g f small = let same : v ≡ g.0.completion = f ∙ ap (λ (l : List ℕ). get_or l 0 0) g.1.1 in (g.0, (g.1.0, g.1.1, looked_at (sees_done x.m.wiring v) v x y g.0 refl same g.1.2))

  looks_error : Keeps exec start LookError
  looks_error x y ws v g f small = let c = g.0 in let h = g.1.2 in let ok = h.ask_ok in let r = h.fits.1 in let w = x.m.wiring in let same : v ≡ c.error = f ∙ ap (λ (l : List ℕ). get_or l 3 0) g.1.1 in (
    c,
    (
      g.1.0,
      g.1.1,
      moves exec start (at LookError x) y c c (LookBlock 0) x.m.kept (meets v w.error_mask) x.m.loaded x.m.looks x.clears refl h (record { wired = ok.wired; sized = ok.sized; place = some_words (heads_of (style_of w)) w.room ok.wired.least; flies = ok.flies; looks = ok.looks; posts = ok.posts; kept = ok.kept; mask = ok.mask; id = ok.id; code = ok.code }) h.irq
          (h.fits.0, record { error = r.error; output = r.output; is = r.is; loaded = refl; knows = ap (λ (n : ℕ). meets n w.error_mask) same ∙ error_shown (style_of w) w.reports w.error_mask c.error r.error ok.place r.is.shows }),
    ),
  )

  -- ---- the end of a look

  -- the whole block is loaded: the command is drained
  pub drains : (x : Asker) (y : Answerer) (c d : Core) (st : AskStage) (l : List ℕ) (e : Bool) (output : List ℕ) → Agreed exec start (at st x) y c
      → x.m.in_flight ≡ true → x.m.looks ≤ x.m.budget → x.m.posts ≤ 4096 → length l ≡ block_of x.m.wiring → d.irq < 2
      → turn y.m ≡ quiet → IsDone (flight x) y.done d e output → take (block_of x.m.wiring) l ≡ take (block_of x.m.wiring) (reply_block (flight x) output) → x.m.error ≡ e → Agreed exec start (ended (record x { m = record x.m { loaded = l } })) y d
  drains x y c d st l e output g flies left posts long low rests is loaded knows = let ok = g.ask_ok in let w = x.m.wiring in let k : ℕ = heads_of (style_of w) in
      let whole : l ≡ reply_block (flight x) output = take_all (block_of w) l (reply_block (flight x) output) long (block_long k w.room x.m.sent output ok.sized.sent is.long) loaded in
      let front : k ≤ length x.m.sent = let s = ok.sized.sent in omega arith in
      let space : bytes_of (drop k l) ≡ output = ap (λ (l : List ℕ). bytes_of (drop k l)) whole ∙ space_again k w.room x.m.sent output ok.sized.sent is.long ok.wired.whole is.bytes in
      let more : length (x.done ++ record { code = x.m.code; input = x.m.input; error = x.m.error; output = bytes_of (drop k l) } ∷ []) ≡ length x.done + 1 = length-append x.done (record { code = x.m.code; input = x.m.input; error = x.m.error; output = bytes_of (drop k l) } ∷ []) in
      let count : x.m.posts ≡ length x.done + 1 = g.posts ∙ ap (λ (b : Bool). length x.done + flying b) flies in record {
        ask_ok = record { wired = ok.wired; sized = record { sent = ok.sized.sent; shown = long; loaded = ok.sized.shown; input = ok.sized.input; space = ap (λ (l : List ℕ). length l) space ∙ is.long }; place = tt; flies = tt; looks = left; posts = posts; kept = ok.kept; mask = ok.mask; id = ok.id; code = ok.code };
        answer_ok = g.answer_ok;
        between = g.between;
        same = g.same;
        legal = g.legal;
        device = g.device;
        room = g.room;
        sent = g.sent;
        shown = record { words = ap (λ (l : List ℕ). drop k l) whole ∙ (behind_front k x.m.sent (words_of output) front ∙ ap words_of (sym space)); fits = subst IsBytes (sym space) is.bytes };
        asked = drain_asks (trail x) x.m.error (bytes_of (drop k l)) l (whole ∙ ap (λ (o : List ℕ). take k x.m.sent ++ words_of o) (sym space)) (subst (λ (b : Bool). HasAskedBy b (trail x)) (flown_pends st x.m.in_flight flies) g.asked);
        posts = omega arith;
        irq = low;
        fits = (
          rests,
          record {
            completion = finished_opened (style_of w) w x.m.code d.completion e ok.id ok.code is.row.completion;
            line = is.row.line;
            block = is.row.block ∙ sym whole;
            done = is.row.done ∙ ap (λ (z : Bool × List ℕ). x.done ++ answered (flight x) z.0 z.1 ∷ []) (λ i. (sym knows i, sym space i));
          },
        );
      }

  -- the last word of the block is loaded
  blocked : (b : Bool) (j : ℕ) (l : List ℕ) (x : Asker) (y : Answerer) (c : Core) (e : Bool) (output : List ℕ) → x.m.wiring.notify ≡ b
      → Agreed exec start (at (LookBlock j) x) y c → length l ≡ block_of x.m.wiring → IsDone (flight x) y.done c e output
      → take (block_of x.m.wiring) l ≡ take (block_of x.m.wiring) (reply_block (flight x) output) → x.m.error ≡ e → turn y.m ≡ quiet → let a : Ask = record x.m { stage = LookBlock j; loaded = l } in
      Agreed exec start (record x { m = block_on b a; done = done_after (end_told b x.m.error) x.done (block_on b a); clears = clears_after (end_told b x.m.error) x.clears }) y c
  blocked true j l x y c e output asks g long is loaded knows rests = let ok = g.ask_ok in
      moves exec start (at (LookBlock j) x) y c c LookLine x.m.kept x.m.error l x.m.looks x.clears refl g (record { wired = ok.wired; sized = record { sent = ok.sized.sent; shown = ok.sized.shown; loaded = long; input = ok.sized.input; space = ok.sized.space }; place = asks; flies = ok.flies; looks = ok.looks; posts = ok.posts; kept = ok.kept; mask = ok.mask; id = ok.id; code = ok.code }) g.irq
      (rests, record { error = e; output = output; is = is; loaded = loaded; knows = knows })
  blocked false j l x y c e output asks g long is loaded knows rests = let ok = g.ask_ok in drains x y c c (LookBlock j) l e output g ok.flies ok.looks ok.posts long g.irq rests is loaded knows

  read : (b : Bool) (j v : ℕ) (x : Asker) (y : Answerer) (c : Core) → has_more j x.m.wiring ≡ b → v ≡ get_or c.block j 0
      → Agreed exec start (at (LookBlock j) x) y c
      → Agreed exec start (record x { m = read_on b j v (at (LookBlock j) x).m; done = done_after (read_told b x.m.wiring.notify x.m.error) x.done (read_on b j v (at (LookBlock j) x).m); clears = clears_after (read_told b x.m.wiring.notify x.m.error) x.clears }) y c
  read true j v x y c more same g = let ok = g.ask_ok in let w = x.m.wiring in let n : ℕ = block_of w in let r = g.fits.1 in let here : j < n = ok.place in let long : length x.m.loaded ≡ n = ok.sized.loaded in
      let long' : length (reply_block (flight x) r.output) ≡ n = block_long (heads_of (style_of w)) w.room x.m.sent r.output ok.sized.sent r.is.long in
      moves exec start (at (LookBlock j) x) y c c (LookBlock (j + 1)) x.m.kept x.m.error (set x.m.loaded j v) x.m.looks x.clears refl g
      (record { wired = ok.wired; sized = record { sent = ok.sized.sent; shown = ok.sized.shown; loaded = length-set x.m.loaded j v ∙ long; input = ok.sized.input; space = ok.sized.space }; place = ltb-true (j + 1) n more; flies = ok.flies; looks = ok.looks; posts = ok.posts; kept = ok.kept; mask = ok.mask; id = ok.id; code = ok.code }) g.irq
      (g.fits.0, record { error = r.error; output = r.output; is = r.is; loaded = loads j x.m.loaded (reply_block (flight x) r.output) v (omega arith) (omega arith) (same ∙ ap (λ (l : List ℕ). get_or l j 0) r.is.row.block) r.loaded; knows = r.knows })
  read false j v x y c more same g = let ok = g.ask_ok in let w = x.m.wiring in let n : ℕ = block_of w in let r = g.fits.1 in let here : j < n = ok.place in let long : length x.m.loaded ≡ n = ok.sized.loaded in
      let long' : length (reply_block (flight x) r.output) ≡ n = block_long (heads_of (style_of w)) w.room x.m.sent r.output ok.sized.sent r.is.long in
      let last : n ≤ j + 1 = ltb-false (j + 1) n more in let all : j + 1 ≡ n = omega arith in let l : List ℕ = set x.m.loaded j v in
      let part = loads j x.m.loaded (reply_block (flight x) r.output) v (omega arith) (omega arith) (same ∙ ap (λ (l : List ℕ). get_or l j 0) r.is.row.block) r.loaded in
      blocked w.notify j l x y c r.error r.output refl g (length-set x.m.loaded j v ∙ long) r.is (subst (λ (k : ℕ). take k l ≡ take k (reply_block (flight x) r.output)) all part) r.knows g.fits.0

  looks_block : (j : ℕ) → Keeps exec start (LookBlock j)
  looks_block j x y ws v g f small = (g.0, (g.1.0, g.1.1, read (has_more j x.m.wiring) j v x y g.0 refl (f ∙ (ap (λ (l : List ℕ). get_or l (8 + j) 0) g.1.1 ∙ get_block g.0 g.1.0 j)) g.1.2))

  -- the interrupt line is loaded
  lined : (b : Bool) (x : Asker) (y : Answerer) (c : Core) → Agreed exec start (at LookLine x) y c
      → Agreed exec start (record x { m = line_on b (at LookLine x).m; done = done_after (line_told b x.m.error) x.done (line_on b (at LookLine x).m); clears = clears_after (line_told b x.m.error) x.clears }) y c
  lined true x y c g = let ok = g.ask_ok in let r = g.fits.1 in drains x y c c LookLine x.m.loaded r.error r.output g ok.flies ok.looks ok.posts ok.sized.loaded g.irq g.fits.0 r.is r.loaded r.knows
  lined false x y c g = let ok = g.ask_ok in let r = g.fits.1 in moves exec start (at LookLine x) y c c LookLineStore x.m.kept x.m.error x.m.loaded x.m.looks x.clears refl g (steps_on (at LookLine x).m LookLineStore x.m.kept ok ok.kept ok.place ok.flies ok.looks ok.posts) g.irq (g.fits.0, record { error = r.error; output = r.output; is = r.is; loaded = r.loaded; knows = r.knows })

  looks_line : Keeps exec start LookLine
  looks_line x y ws v g f small = (g.0, (g.1.0, g.1.1, lined (eqb v 0) x y g.0 g.1.2))

  -- the interrupt line is no part of a row
  lower : (x : Asker) (y : Answerer) (c : Core) (e : Bool) (output : List ℕ) → IsDone (flight x) y.done c e output
      → IsDone (flight x) y.done (record c { irq = 0 }) e output
  lower x y c e output is = record { row = record { completion = is.row.completion; line = is.row.line; block = is.row.block; done = is.row.done }; long = is.long; bytes = is.bytes; shows = is.shows }

  lowered : (b : Bool) (x : Asker) (y : Answerer) (c : Core) → acknowledges x.m.wiring ≡ b → Agreed exec start (at LookLineStore x) y c
      → Agreed exec start (record x { m = lowered_on b (at LookLineStore x).m; done = done_after (end_told b x.m.error) x.done (lowered_on b (at LookLineStore x).m); clears = clears_after (end_told b x.m.error) x.clears }) y (record c { irq = 0 })
  lowered true x y c is g = let ok = g.ask_ok in let r = g.fits.1 in moves exec start (at LookLineStore x) y c (record c { irq = 0 }) LookAckLoad x.m.kept x.m.error x.m.loaded x.m.looks x.clears refl g (steps_on (at LookLineStore x).m LookAckLoad x.m.kept ok ok.kept (ok.place, is) ok.flies ok.looks ok.posts) (omega arith)
      (g.fits.0, record { error = r.error; output = r.output; is = lower x y c r.error r.output r.is; loaded = r.loaded; knows = r.knows })
  lowered false x y c is g = let ok = g.ask_ok in let r = g.fits.1 in drains x y c (record c { irq = 0 }) LookLineStore x.m.loaded r.error r.output g ok.flies ok.looks ok.posts ok.sized.loaded (omega arith) g.fits.0 (lower x y c r.error r.output r.is) r.loaded r.knows

  lowers_line : Keeps exec start LookLineStore
  lowers_line x y ws v g f small = (record g.0 { irq = 0 }, (g.1.0, ap (λ (l : List ℕ). set l 4 0) g.1.1, lowered (acknowledges x.m.wiring) x y g.0 refl g.1.2))

  loads_ack : Keeps exec start LookAckLoad
  loads_ack x y ws v g f small = let c = g.0 in let h = g.1.2 in let ok = h.ask_ok in let r = h.fits.1 in
      (c, (g.1.0, g.1.1, moves exec start (at LookAckLoad x) y c c LookAckStore v x.m.error x.m.loaded x.m.looks x.clears refl h (steps_on (at LookAckLoad x).m LookAckStore v ok small ok.place ok.flies ok.looks ok.posts) h.irq (h.fits.0, record { error = r.error; output = r.output; is = r.is; loaded = r.loaded; knows = r.knows })))

  stores_ack : Keeps exec start LookAckStore
  stores_ack x y ws v g f small = let c = g.0 in let o = g.1.0 in let h = g.1.2 in let ok = h.ask_ok in let r = h.fits.1 in let z : ℕ = masked_by x.m.wiring.ack x.m.kept in (
    c,
    (
      record o { ack = z },
      ap (λ (l : List ℕ). set l 5 z) g.1.1,
      drains x y c c LookAckStore x.m.loaded r.error r.output h ok.flies ok.looks ok.posts ok.sized.loaded h.irq h.fits.0 r.is r.loaded r.knows,
    ),
  )

  rests : Keeps exec start AskRest
  rests x y ws v g f small = g

  pub ask_keeps : (st : AskStage) → Keeps exec start st
  ask_keeps AskRest = rests
  ask_keeps (PostBlock j) = stores_block exec start j
  ask_keeps PostHeader = stores_header exec start
  ask_keeps PostUpdateLoad = loads_update exec start
  ask_keeps PostUpdateStore = stores_update exec start
  ask_keeps PostMarkLoad = loads_mark exec start
  ask_keeps PostMarkStore = stores_mark exec start
  ask_keeps PostBellLoad = loads_bell exec start
  ask_keeps PostBellStore = stores_bell exec start
  ask_keeps PostLine = raises_bell exec start
  ask_keeps LookWord = looks_word
  ask_keeps LookError = looks_error
  ask_keeps (LookBlock j) = looks_block j
  ask_keeps LookLine = looks_line
  ask_keeps LookLineStore = lowers_line
  ask_keeps LookAckLoad = loads_ack
  ask_keeps LookAckStore = stores_ack
