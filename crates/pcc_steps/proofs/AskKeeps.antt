-- Each step of the asking end keeps the relation.
use Rattle.std.proofs.Common.{◌≡◌, ◌≢◌, ℕ, ◌+◌, ◌^◌, ◌<◌, Bool, false, List, length, get_or, set, refl, sym, ap, ◌∙◌, subst, inl, arith}
use Rattle.pcc_history.specs.Devices.{Device}
use Rattle.pcc_steps.specs.declared.wiring.Style.{Style}
use Rattle.pcc_steps.specs.declared.wiring.Style.TheVariants.{Headed, Joined3, Separate3, Joined4, Separate4, Reduced5}
use Rattle.pcc_steps.specs.declared.ask.AskStage.{AskStage}
use Rattle.pcc_steps.specs.declared.ask.AskStage.TheVariants.{PostBlock, PostHeader, PostUpdateLoad, PostUpdateStore, PostMarkLoad, PostMarkStore, PostBellLoad, PostBellStore, PostLine}
use Rattle.pcc_steps.specs.Wires.{style_of, block_of, sent_header, masked_by, without, update_place}
use Rattle.pcc_steps.specs.Asking.{Ask, AskOk, AskUpdates, AskClears, AskRings, ask_next_at, block_stage, after_update, after_mark, after_bell}
use Rattle.pcc_steps.specs.Agree.{Core, act, Finds, mix, Asker, Answerer, asker_fed_at, Pose, cleared, bell_pose, pose_at, pose, Turn, turn, closed, Marked, flight, Waits, Fits, flying, trail, is_pending_at, Agreed, Agree}
use Rattle.pcc_steps.proofs.Lists.{mix_more, mix_all, set_block}
use Rattle.pcc_steps.proofs.Changes.{mix_next}
use Rattle.pcc_steps.proofs.PostStages.{steps_on, posted_ok, posted_pose, posted_pends}
use Rattle.pcc_steps.proofs.Trails.{mark_pends, bell_pends, same_pends}
use Rattle.pcc_steps.proofs.Bits.{clears_mark, clears_update}

-- the asking end at this stage
abbrev pub at : AskStage → Asker → Asker
at st x = record x { m = record x.m { stage = st } }

module _ (exec : Device) (start : List ℕ) where
  -- what a step from the stage st has to keep
  abbrev pub Keeps : AskStage → Type 0
  Keeps st = (x : Asker) (y : Answerer) (ws : List ℕ) (v : ℕ) → Agree exec start ws (at st x) y → Finds (ask_next_at st x.m) ws v → v < 2 ^ 64 → Agree exec start (act (ask_next_at st x.m) ws) (asker_fed_at st (at st x) v) y

  -- what a step within a run changes, and what it has to show anew
  pub moves : (x : Asker) (y : Answerer) (c d : Core) (st : AskStage) (kept : ℕ) (error : Bool) (loaded : List ℕ) (looks clears : ℕ)
      → let m : Ask = record x.m { stage = st; kept = kept; error = error; loaded = loaded; looks = looks } in
      is_pending_at st x.m.in_flight ≡ is_pending_at x.m.stage x.m.in_flight → Agreed exec start x y c → AskOk m → d.irq < 2 → Fits (pose m) (turn y.m) (record x { m = m; clears = clears }) y d → Agreed exec start (record x { m = m; clears = clears }) y d
  moves x y c d st kept error loaded looks clears pends g ok low fits = record {
    ask_ok = ok;
    answer_ok = g.answer_ok;
    between = g.between;
    same = g.same;
    legal = g.legal;
    device = g.device;
    room = g.room;
    sent = g.sent;
    shown = g.shown;
    asked = same_pends x (trail x) (is_pending_at st x.m.in_flight) (is_pending_at x.m.stage x.m.in_flight) pends g.asked;
    posts = g.posts;
    irq = low;
    fits = fits;
  }

  -- ---- posting

  -- a word of the block is stored: the words up to the next one that changed stand there
  stored : (j : ℕ) (x : Asker) (y : Answerer) (c : Core) → Agreed exec start (at (PostBlock j) x) y c
      → Agreed exec start (at (block_stage (j + 1) x.m.wiring x.m.sent x.m.shown) x) y (record c { block = set c.block j (get_or x.m.sent j 0) })
  stored j x y c g = let ok = g.ask_ok in let n : ℕ = block_of x.m.wiring in let fits = g.fits.1 in let long : length x.m.sent ≡ n = ok.sized.sent in let long' : length x.m.shown ≡ n = ok.sized.shown in let here : j < n = ok.place in
      let st : AskStage = block_stage (j + 1) x.m.wiring x.m.sent x.m.shown in let d : Core = record c { block = set c.block j (get_or x.m.sent j 0) } in let same : length x.m.sent ≡ length x.m.shown = long ∙ sym long' in
      moves (at (PostBlock j) x) y c d st x.m.kept x.m.error x.m.loaded x.m.looks x.clears (posted_pends (j + 1) x.m x.m.in_flight) g (posted_ok j (j + 1) x.m ok) g.irq
      (subst (λ (q : Pose). Fits q (turn y.m) (at st x) y d) (sym (posted_pose (j + 1) x.m (at st x).m refl long (omega arith)))
      (g.fits.0, record { completion = fits.completion; line = fits.line; block = ap (λ (l : List ℕ). set l j (get_or x.m.sent j 0)) fits.block ∙ (mix_more j x.m.sent x.m.shown (omega arith) same ∙ sym (mix_next (j + 1) x.m.sent x.m.shown same)); done = fits.done }))

  pub stores_block : (j : ℕ) → Keeps (PostBlock j)
  stores_block j x y ws v g f small = let c = g.0 in let o = g.1.0 in let s : ℕ = get_or x.m.sent j 0 in (
    record c { block = set c.block j s },
    (o, ap (λ (l : List ℕ). set l (8 + j) s) g.1.1 ∙ set_block c o j s, stored j x y c g.1.2),
  )

  -- the whole block stands there
  written : (x : Asker) (y : Answerer) (c : Core) (st : AskStage) → AskOk (record x.m { stage = st }) → c.block ≡ mix (block_of x.m.wiring) x.m.sent x.m.shown
      → c.block ≡ x.m.sent
  written x y c st ok e = e ∙ mix_all (block_of x.m.wiring) x.m.sent x.m.shown ok.sized.sent ok.sized.shown

  pub stores_header : Keeps PostHeader
  stores_header x y ws v g f small = let c = g.0 in let h = g.1.2 in let ok = h.ask_ok in let fits = h.fits.1 in let w = x.m.wiring in let z : ℕ = sent_header w x.m.code 0 in let d : Core = record c { completion = z } in let headed : style_of w ≡ Headed = ok.place in (
    d,
    (
      g.1.0,
      ap (λ (l : List ℕ). set l 0 z) g.1.1,
      moves (at PostHeader x) y c d PostBellLoad x.m.kept x.m.error x.m.loaded x.m.looks x.clears refl h (steps_on (at PostHeader x).m PostBellLoad x.m.kept ok ok.kept (subst AskRings (sym headed) tt) ok.flies ok.looks ok.posts) h.irq
          (subst (λ (q : Pose). Fits q (turn y.m) (at PostBellLoad x) y d) (sym (ap (λ (s : Style). bell_pose s (block_of w)) headed))
          (h.fits.0, record { completion = subst (λ (s : Style). Marked s w x.m.code closed z) (sym headed) refl; line = fits.line; block = written x y c PostHeader ok fits.block; done = fits.done })),
    ),
  )

  pub loads_update : Keeps PostUpdateLoad
  loads_update x y ws v g f small = let c = g.0 in let h = g.1.2 in let ok = h.ask_ok in
      (c, (g.1.0, g.1.1, moves (at PostUpdateLoad x) y c c PostUpdateStore v x.m.error x.m.loaded x.m.looks x.clears refl h (steps_on (at PostUpdateLoad x).m PostUpdateStore v ok small ok.place ok.flies ok.looks ok.posts) h.irq h.fits))

  pub loads_mark : Keeps PostMarkLoad
  loads_mark x y ws v g f small = let c = g.0 in let h = g.1.2 in let ok = h.ask_ok in
      (c, (g.1.0, g.1.1, moves (at PostMarkLoad x) y c c PostMarkStore v x.m.error x.m.loaded x.m.looks x.clears refl h (steps_on (at PostMarkLoad x).m PostMarkStore v ok small ok.place ok.flies ok.looks ok.posts) h.irq h.fits))

  -- the doorbell's register is no part of the relation
  bell_still : (s : Style) (n : ℕ) (t : Turn) (x : Asker) (y : Answerer) (c : Core) (st : AskStage) (kept : ℕ) → Fits (bell_pose s n) t x y c
      → Fits (bell_pose s n) t (record x { m = record x.m { stage = st; kept = kept } }) y c
  bell_still Reduced5 n t x y c st kept f = f
  bell_still _ n t x y c st kept f = f

  pub loads_bell : Keeps PostBellLoad
  loads_bell x y ws v g f small = let c = g.0 in let h = g.1.2 in let ok = h.ask_ok in
      (c, (g.1.0, g.1.1, moves (at PostBellLoad x) y c c PostBellStore v x.m.error x.m.loaded x.m.looks x.clears refl h (steps_on (at PostBellLoad x).m PostBellStore v ok small ok.place ok.flies ok.looks ok.posts) h.irq (bell_still (style_of x.m.wiring) (block_of x.m.wiring) (turn y.m) (at PostBellLoad x) y c PostBellStore v h.fits)))

  pose_bell : (s : Style) (a : Ask) → style_of a.wiring ≡ s → pose_at (after_bell s) a ≡ bell_pose s (block_of a.wiring)
  pose_bell Headed a e = refl
  pose_bell Joined3 a e = refl
  pose_bell Separate3 a e = refl
  pose_bell Joined4 a e = refl
  pose_bell Separate4 a e = refl
  pose_bell Reduced5 a e = refl

  bell_ok : (s : Style) (a : Ask) → style_of a.wiring ≡ s → AskOk (record a { stage = PostBellStore }) → AskOk (record a { stage = after_bell s })
  bell_ok Reduced5 a e ok = steps_on (record a { stage = PostBellStore }) PostMarkLoad a.kept ok ok.kept (subst AskClears (sym e) tt) ok.flies ok.looks ok.posts
  bell_ok _ a e ok = steps_on (record a { stage = PostBellStore }) PostLine a.kept ok ok.kept tt ok.flies ok.looks ok.posts

  pub stores_bell : Keeps PostBellStore
  stores_bell x y ws v g f small = let c = g.0 in let o = g.1.0 in let h = g.1.2 in let ok = h.ask_ok in let z : ℕ = masked_by x.m.wiring.bell x.m.kept in let s : Style = style_of x.m.wiring in (
    c,
    (
      record o { bell = z },
      ap (λ (l : List ℕ). set l 1 z) g.1.1,
      moves (at PostBellStore x) y c c (after_bell s) x.m.kept x.m.error x.m.loaded x.m.looks x.clears (bell_pends s x.m.in_flight) h (bell_ok s x.m refl ok) h.irq
          (subst (λ (q : Pose). Fits q (turn y.m) (at (after_bell s) x) y c) (sym (pose_bell s (at (after_bell s) x).m refl)) (bell_still s (block_of x.m.wiring) (turn y.m) (at PostBellStore x) y c (after_bell s) x.m.kept h.fits)),
    ),
  )

  -- the update register is written: completion is cleared, where it is the check register
  updated : (s : Style) (x : Asker) (y : Answerer) (ws : List ℕ) → style_of x.m.wiring ≡ s → AskUpdates s → Agree exec start ws (at PostUpdateStore x) y
      → let z : ℕ = masked_by x.m.wiring.update x.m.kept in
      Agree exec start (set ws (update_place s) z) (at (after_update s) x) y
  updated Headed x y ws e u g = absurd u
  updated Joined3 x y ws e u g = let c = g.0 in let h = g.1.2 in let ok = h.ask_ok in let fits = h.fits.1 in let w = x.m.wiring in let z : ℕ = masked_by w.update x.m.kept in let d : Core = record c { completion = z } in (
    d,
    (
      g.1.0,
      ap (λ (l : List ℕ). set l 0 z) g.1.1,
      moves (at PostUpdateStore x) y c d PostBellLoad x.m.kept x.m.error x.m.loaded x.m.looks x.clears refl h (steps_on (at PostUpdateStore x).m PostBellLoad x.m.kept ok ok.kept (subst AskRings (sym e) tt) ok.flies ok.looks ok.posts) h.irq
          (subst (λ (q : Pose). Fits q (turn y.m) (at PostBellLoad x) y d) (sym (ap (λ (s : Style). bell_pose s (block_of w)) e))
          (h.fits.0, record { completion = subst (λ (s : Style). Marked s w x.m.code closed z) (sym e) (clears_update w x.m.code x.m.kept e ok.wired); line = fits.line; block = written x y c PostUpdateStore ok fits.block; done = fits.done })),
    ),
  )
  updated Separate3 x y ws e u g = let c = g.0 in let o = g.1.0 in let h = g.1.2 in let ok = h.ask_ok in let z : ℕ = masked_by x.m.wiring.update x.m.kept in (
    c,
    (
      record o { update = z },
      ap (λ (l : List ℕ). set l 6 z) g.1.1,
      moves (at PostUpdateStore x) y c c PostMarkLoad x.m.kept x.m.error x.m.loaded x.m.looks x.clears refl h (steps_on (at PostUpdateStore x).m PostMarkLoad x.m.kept ok ok.kept (subst AskClears (sym e) tt) ok.flies ok.looks ok.posts) h.irq h.fits,
    ),
  )
  updated Joined4 x y ws e u g = absurd u
  updated Separate4 x y ws e u g = absurd u
  updated Reduced5 x y ws e u g = absurd u

  pub stores_update : Keeps PostUpdateStore
  stores_update x y ws v g f small = updated (style_of x.m.wiring) x y ws refl g.1.2.ask_ok.place g

  not_headed : (s : Style) → AskClears s → s ≢ Headed
  not_headed Headed u e = u
  not_headed Joined3 u e = u
  not_headed Separate3 u e = cc
  not_headed Joined4 u e = cc
  not_headed Separate4 u e = cc
  not_headed Reduced5 u e = cc

  marked_on : (s : Style) (x : Asker) (y : Answerer) (c : Core) → style_of x.m.wiring ≡ s → AskClears s → Fits cleared (turn y.m) (at (after_mark s) x) y c
      → Fits (pose (at (after_mark s) x).m) (turn y.m) (at (after_mark s) x) y c
  marked_on Headed x y c e u f = absurd u
  marked_on Joined3 x y c e u f = absurd u
  marked_on Separate3 x y c e u f = subst (λ (s : Style). Fits (bell_pose s (block_of x.m.wiring)) (turn y.m) (at PostBellLoad x) y c) (sym e) f
  marked_on Joined4 x y c e u f = f
  marked_on Separate4 x y c e u f = f
  marked_on Reduced5 x y c e u f = f

  mark_ok : (s : Style) (a : Ask) → style_of a.wiring ≡ s → AskOk (record a { stage = PostMarkStore }) → AskOk (record a { stage = after_mark s })
  mark_ok Separate3 a e ok = steps_on (record a { stage = PostMarkStore }) PostBellLoad a.kept ok ok.kept (subst AskRings (sym e) tt) ok.flies ok.looks ok.posts
  mark_ok _ a e ok = steps_on (record a { stage = PostMarkStore }) PostLine a.kept ok ok.kept tt ok.flies ok.looks ok.posts

  pub stores_mark : Keeps PostMarkStore
  stores_mark x y ws v g f small = let c = g.0 in let h = g.1.2 in let ok = h.ask_ok in let fits = h.fits.1 in let w = x.m.wiring in let s : Style = style_of w in let z : ℕ = without w.check_mask x.m.kept in let d : Core = record c { completion = z } in (
    d,
    (
      g.1.0,
      ap (λ (l : List ℕ). set l 0 z) g.1.1,
      moves (at PostMarkStore x) y c d (after_mark s) x.m.kept x.m.error x.m.loaded x.m.looks x.clears (mark_pends s x.m.in_flight) h (mark_ok s x.m refl ok) h.irq
          (marked_on s x y d refl ok.place (h.fits.0, record { completion = clears_mark s w x.m.code x.m.kept (not_headed s ok.place) ok.mask; line = fits.line; block = written x y c PostMarkStore ok fits.block; done = fits.done })),
    ),
  )

  pub raises_bell : Keeps PostLine
  raises_bell x y ws v g f small = let c = g.0 in let o = g.1.0 in let h = g.1.2 in let ok = h.ask_ok in let fits = h.fits.1 in let d : Core = record c { line = 1 } in
      let below : x.m.posts < 4096 = ok.posts in let none : x.m.in_flight ≡ false = ok.flies in let count : x.m.posts ≡ length x.done + 0 = h.posts ∙ ap (λ (b : Bool). length x.done + flying b) none in (
        d,
        (
          o,
          ap (λ (l : List ℕ). set l 2 1) g.1.1,
          record {
            ask_ok = record { wired = ok.wired; sized = ok.sized; place = tt; flies = tt; looks = omega arith; posts = omega arith; kept = ok.kept; mask = ok.mask; id = ok.id; code = ok.code };
            answer_ok = h.answer_ok;
            between = h.between;
            same = h.same;
            legal = h.legal;
            device = h.device;
            room = h.room;
            sent = h.sent;
            shown = h.shown;
            asked = h.asked;
            posts = omega arith;
            irq = h.irq;
            fits = subst (λ (t : Turn). Waits t (flight x) y d) (sym h.fits.0) (inl record { completion = fits.completion; line = refl; block = fits.block; done = fits.done });
          },
        ),
      )
