-- What begins a run of the asking end keeps the relation.
use Rattle.std.proofs.Common.{◌≡◌, ℕ, ◌<◌, ◌≤◌, Bool, true, false, List, length, drop, refl, sym, ◌∙◌, subst, arith}
use Rattle.pcc_bytes.specs.Bytes.{IsBytes}
use Rattle.pcc_history.specs.Devices.{Device}
use Rattle.pcc_history.specs.Channel.{over}
use Rattle.shmem_header.specs.Spelling.{words_of}
use Rattle.pcc_steps.specs.declared.wiring.Style.{Style}
use Rattle.pcc_steps.specs.declared.ask.AskStage.{AskStage}
use Rattle.pcc_steps.specs.declared.ask.AskStage.TheVariants.{AskRest, LookWord}
use Rattle.pcc_steps.specs.Wires.{style_of, heads_of, block_of}
use Rattle.pcc_steps.specs.Asking.{Ask, AskOk, CodeFits, LooksLeft, block_stage, ask_begun, ask_looking, ask_budgeted, rose}
use Rattle.pcc_bytes.proofs.Bytes.{IsBytes-drop}
use Rattle.pcc_steps.specs.Agree.{Core, Asker, Answerer, asker_stepped, asker_begun, trail, HasAskedBy, is_pending, Pose, free, writing, cleared, waiting, reading, resting, pose, pose_at, Turn, turn, Fits, Agreed, Agree}
use Rattle.pcc_steps.proofs.Bits.{reopened}
use Rattle.pcc_steps.proofs.Headers.{over_long, block_sent, behind_header}
use Rattle.pcc_steps.proofs.Changes.{mix_next}
use Rattle.pcc_steps.proofs.PostStages.{posted_ok, posted_pose, posted_pends}
use Rattle.pcc_steps.proofs.Trails.{post_asks, same_pends}
use Rattle.pcc_steps.proofs.Spaces.{IsBytes-append, some_words}
use Rattle.pcc_steps.proofs.AskKeeps.{at, moves}

pub begun_ok : (a : Ask) (code : ℕ) (bytes : List ℕ) → a.in_flight ≡ false → length bytes ≤ a.wiring.room → a.posts < 4096 → CodeFits (style_of a.wiring) code
    → a.looks ≤ a.budget → AskOk a → AskOk (ask_begun a code bytes)
begun_ok a code bytes unflown fits left low looks ok = let w = a.wiring in let input : List ℕ = over a.space bytes in let long : length input ≡ w.room = over_long a.space bytes w.room ok.sized.space fits in posted_ok 0 0 (ask_begun a code bytes) (record {
  wired = ok.wired;
  sized = record { sent = block_sent (style_of w) w code (length bytes) w.room input long; shown = ok.sized.shown; loaded = ok.sized.loaded; input = long; space = ok.sized.space };
  place = some_words (heads_of (style_of w)) w.room ok.wired.least;
  flies = unflown;
  looks = looks;
  posts = left;
  kept = ok.kept;
  mask = ok.mask;
  id = ok.id;
  code = low;
})

-- the same of its parts
pub begun_right : (a : Ask) (st : AskStage) (code : ℕ) (sent input : List ℕ) → AskOk a → a.stage ≡ AskRest → a.in_flight ≡ false → a.posts < 4096
    → CodeFits (style_of a.wiring) code → length sent ≡ block_of a.wiring → length input ≡ a.wiring.room → st ≡ block_stage 0 a.wiring sent a.shown
    → AskOk (record a { stage = st; code = code; sent = sent; input = input })
begun_right a st code sent input ok rest unflown left low long room e = let m : Ask = record a { code = code; sent = sent; input = input } in
    subst (λ (st : AskStage). AskOk (record m { stage = st })) (sym e) (posted_ok 0 0 m (record {
      wired = ok.wired;
      sized = record { sent = long; shown = ok.sized.shown; loaded = ok.sized.loaded; input = room; space = ok.sized.space };
      place = some_words (heads_of (style_of a.wiring)) a.wiring.room ok.wired.least;
      flies = unflown;
      looks = subst (λ (st : AskStage). LooksLeft st a.looks a.budget) rest ok.looks;
      posts = left;
      kept = ok.kept;
      mask = ok.mask;
      id = ok.id;
      code = low;
    }))

-- the looks are within the budget while the machine rests
pub looks_rest : (a : Ask) → a.stage ≡ AskRest → AskOk a → a.looks ≤ a.budget
looks_rest a rest ok = subst (λ (st : AskStage). LooksLeft st a.looks a.budget) rest ok.looks

-- ---- the relation

module _ (exec : Device) (start : List ℕ) where
  begins_at : (x : Asker) (y : Answerer) (c : Core) (code : ℕ) (bytes : List ℕ) → x.m.in_flight ≡ false → length bytes ≤ x.m.wiring.room → x.m.posts < 4096
      → CodeFits (style_of x.m.wiring) code → IsBytes bytes → Agreed exec start (at AskRest x) y c
      → Agreed exec start (asker_begun x code bytes) y c
  begins_at x y c code bytes unflown short left low fits g = let ok = g.ask_ok in let w = x.m.wiring in let s : Style = style_of w in let input : List ℕ = over x.m.space bytes in
      let row = subst (λ (f : Bool). Fits (resting f) (turn y.m) (at AskRest x) y c) unflown g.fits in let z : Asker = asker_begun x code bytes in
      let right : AskOk z.m = begun_ok (at AskRest x).m code bytes unflown short left low ok.looks ok in
      let sent : List ℕ = z.m.sent in let long : length sent ≡ length x.m.shown = right.sized.sent ∙ sym ok.sized.shown in record {
        ask_ok = right;
        answer_ok = g.answer_ok;
        between = g.between;
        same = g.same;
        legal = g.legal;
        device = g.device;
        room = g.room;
        sent = record { words = behind_header s w code (length bytes) (words_of input); fits = IsBytes-append bytes (drop (length bytes) x.m.space) fits (IsBytes-drop (length bytes) x.m.space g.shown.fits) };
        shown = g.shown;
        asked = same_pends z (trail z) (is_pending z.m) true (posted_pends 0 z.m x.m.in_flight) (post_asks (trail x) code bytes (subst (λ (f : Bool). HasAskedBy f (trail x)) unflown g.asked));
        posts = g.posts;
        irq = g.irq;
        fits = subst (λ (q : Pose). Fits q (turn y.m) z y c) (sym (posted_pose 0 z.m z.m refl right.sized.sent (omega arith)))
            (row.0, record { completion = reopened s w x.m.code code c.completion row.1.completion; line = row.1.line; block = row.1.block ∙ sym (mix_next 0 sent x.m.shown long); done = row.1.done });
      }

  -- a run that posts begins
  pub begins : (x : Asker) (code : ℕ) (bytes : List ℕ) → x.m.stage ≡ AskRest → x.m.in_flight ≡ false → length bytes ≤ x.m.wiring.room → x.m.posts < 4096
      → CodeFits (style_of x.m.wiring) code → IsBytes bytes → (ws : List ℕ) (y : Answerer) → Agree exec start ws x y
      → Agree exec start ws (asker_begun x code bytes) y
  begins x code bytes rest unflown short left low fits ws y g = (g.0, (g.1.0, g.1.1, begins_at x y g.0 code bytes unflown short left low fits (subst (λ (st : AskStage). Agreed exec start (at st x) y g.0) rest g.1.2)))

  looks_at : (x : Asker) (y : Answerer) (c : Core) → x.m.in_flight ≡ true → x.m.looks < x.m.budget → Agreed exec start (at AskRest x) y c
      → Agreed exec start (at LookWord x) y c
  looks_at x y c flies left g = let ok = g.ask_ok in
      moves exec start (at AskRest x) y c c LookWord x.m.kept x.m.error x.m.loaded x.m.looks x.clears (sym flies) g (record { wired = ok.wired; sized = ok.sized; place = tt; flies = flies; looks = left; posts = ok.posts; kept = ok.kept; mask = ok.mask; id = ok.id; code = ok.code }) g.irq
      (subst (λ (f : Bool). Fits (resting f) (turn y.m) (at AskRest x) y c) flies g.fits)

  -- a run that looks begins
  pub looks_begin : (x : Asker) → x.m.stage ≡ AskRest → x.m.in_flight ≡ true → x.m.looks < x.m.budget → (ws : List ℕ) (y : Answerer) → Agree exec start ws x y
      → Agree exec start ws (record x { m = ask_looking x.m }) y
  looks_begin x rest flies left ws y g = (g.0, (g.1.0, g.1.1, looks_at x y g.0 flies left (subst (λ (st : AskStage). Agreed exec start (at st x) y g.0) rest g.1.2)))

  -- the numbers of looks and steps are no part of a phase
  counted : (q : Pose) (t : Turn) (x : Asker) (y : Answerer) (c : Core) (looks budget steps : ℕ) → Fits q t x y c
      → Fits q t (record x { m = record x.m { looks = looks; budget = budget; steps = steps } }) y c
  counted free t x y c looks budget steps f = f
  counted (writing j) t x y c looks budget steps f = f
  counted cleared t x y c looks budget steps f = f
  counted waiting t x y c looks budget steps f = f
  counted (reading j) t x y c looks budget steps f = (f.0, record { error = f.1.error; output = f.1.output; is = f.1.is; loaded = f.1.loaded; knows = f.1.knows })

  posed : (st : AskStage) (a : Ask) (looks budget steps : ℕ) → pose_at st (record a { looks = looks; budget = budget; steps = steps }) ≡ pose_at st a
  posed AskRest a looks budget steps = refl
  posed _ a looks budget steps = refl

  counts_at : (x : Asker) (y : Answerer) (c : Core) (looks budget steps : ℕ) → LooksLeft x.m.stage looks budget → Agreed exec start x y c
      → Agreed exec start (record x { m = record x.m { looks = looks; budget = budget; steps = steps } }) y c
  counts_at x y c looks budget steps left g = let ok = g.ask_ok in record {
    ask_ok = record { wired = ok.wired; sized = ok.sized; place = ok.place; flies = ok.flies; looks = left; posts = ok.posts; kept = ok.kept; mask = ok.mask; id = ok.id; code = ok.code };
    answer_ok = g.answer_ok;
    between = g.between;
    same = g.same;
    legal = g.legal;
    device = g.device;
    room = g.room;
    sent = g.sent;
    shown = g.shown;
    asked = g.asked;
    posts = g.posts;
    irq = g.irq;
    fits = subst (λ (q : Pose). Fits q (turn y.m) (record x { m = record x.m { looks = looks; budget = budget; steps = steps } }) y c) (sym (posed x.m.stage x.m looks budget steps)) (counted (pose x.m) (turn y.m) x y c looks budget steps g.fits);
  }

  -- a budget is set
  pub budgets : (x : Asker) (polls : ℕ) → x.m.stage ≡ AskRest → (ws : List ℕ) (y : Answerer) → Agree exec start ws x y
      → Agree exec start ws (record x { m = ask_budgeted x.m polls }) y
  budgets x polls rest ws y g = (g.0, (g.1.0, g.1.1, counts_at x y g.0 0 polls x.m.steps (subst (λ (st : AskStage). LooksLeft st 0 polls) (sym rest) (let h : 0 ≤ polls = omega arith in h)) g.1.2))

  -- a step is counted
  pub steps : (x : Asker) (y : Answerer) (ws : List ℕ) → Agree exec start ws x y → Agree exec start ws (asker_stepped x) y
  steps x y ws g = (g.0, (g.1.0, g.1.1, counts_at x y g.0 x.m.looks x.m.budget (rose x.m.steps) g.1.2.ask_ok.looks g.1.2))
