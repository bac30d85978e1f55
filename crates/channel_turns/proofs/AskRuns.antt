-- The asking machine's word steps, one after the other.
use Rattle.std.proofs.Common.{◌≡◌, ◌≢◌, ℕ, zero, suc, ◌+◌, ◌-◌, ◌^◌, ◌<◌, ◌≤◌, Bool, true, false, ltb, List, length, refl, sym, ap, ◌∙◌, subst, arith}
use Rattle.std.specs.Prelude.{Option, Some, None, get_or}
use Rattle.pcc_history.specs.Channel.{Exchange}
use Rattle.pcc_steps.specs.declared.wiring.Wiring.{Wiring}
use Rattle.pcc_steps.specs.declared.wiring.Style.{Style}
use Rattle.pcc_steps.specs.declared.wiring.Style.TheVariants.{Headed, Joined3, Separate3, Joined4, Separate4, Reduced5}
use Rattle.pcc_steps.specs.declared.ask.AskStage.{AskStage}
use Rattle.pcc_steps.specs.declared.ask.AskStage.TheVariants.{AskRest, PostBlock, PostHeader, PostUpdateLoad, PostUpdateStore, PostMarkLoad, PostMarkStore, PostBellLoad, PostBellStore, PostLine, LookWord, LookError, LookBlock, LookLine, LookLineStore, LookAckLoad, LookAckStore}
use Rattle.pcc_steps.specs.declared.ask.AskOutcome.{AskOutcome}
use Rattle.pcc_steps.specs.declared.ask.AskOutcome.TheVariants.{Posted, Clear, Drained}
use Rattle.pcc_steps.specs.Changes.{next_changed}
use Rattle.pcc_steps.specs.Wires.{style_of, block_of, sees_done, tells_error, acknowledges}
use Rattle.pcc_steps.specs.Runs.{Within}
use Rattle.pcc_steps.specs.Walk.{ask_left, ask_after}
use Rattle.pcc_steps.specs.Asking.{Ask, AskOk, Flies, PostsLeft, ask_stepped, look_told, IsAskRunning, ask_begun, ask_looking, ask_next, ask_fed, ask_told, ask_fed_at, has_more, after_block, after_update, after_mark, after_bell, after_look, post_on, look_on, read_on, block_on, line_on, lowered_on}
use Rattle.pcc_steps.specs.Moves.{AskMoves}
use Rattle.pcc_steps.specs.Agree.{act, found, Finds, Agree, clears_after}
use Rattle.pcc_steps.proofs.Agreement.{ask_step_agrees}
use Rattle.pcc_steps.proofs.AskWalks.{asks_by_table, looks_by_table, posts_by_table}
use Rattle.pcc_steps.proofs.PostStages.{post_stage}
use Rattle.pcc_steps.proofs.Bounds.{looks_within, posts_within}
use Rattle.pcc_steps.proofs.Nexts.{clear_told}
use Rattle.pcc_steps.proofs.Wired.{ask_wired}
use Rattle.pcc_steps.proofs.WordSteps.{long_act, finds_found}
use Rattle.pcc_steps.proofs.AskFeeds.{Fed, Spaced, Sure, done_same, rest_is, not_rest}
use Rattle.pcc_steps.proofs.AskFeeds as feeds
use Rattle.pcc_steps.proofs.Ends.{ask_steps_count, rose_most}
use Rattle.pcc_steps.proofs.Lengths.{one_less}
use Rattle.pcc_steps.specs.Carrying.{is_rest, carried_at, ends_run, looks_after, flies_after}
use Rattle.channel_turns.specs.WordRuns.{AskStep, AskStride, AskSteps, look_most, IsFor, KeepsSpace, Stops}

-- ---- one step

keeps_space : (told : Option AskOutcome) (old : List ℕ) (b : Ask) → Spaced told old b → KeepsSpace told old b.space
keeps_space None old b h = h
keeps_space (Some Posted) old b h = h
keeps_space (Some Clear) old b h = h
keeps_space (Some (Drained e)) old b h = tt

is_for : (told : Option AskOutcome) (c f : Bool) → Sure told c f → IsFor told f
is_for None c f h = tt
is_for (Some Posted) c f h = h.1
is_for (Some Clear) c f h = h.1
is_for (Some (Drained e)) c f h = h.1

stops : (told : Option AskOutcome) (b : Ask) → is_rest b.stage ≡ ends_run told → Stops told b
stops None b e = λ q. not_false (is_rest b.stage) (ap is_rest q) e
  where
    not_false : (b : Bool) → b ≡ true → b ≡ false → ⊥
    not_false b t f = cc
stops (Some o) b e = rest_is b.stage e

-- by the value that it finds
stepped : (ws : List ℕ) (a : Ask) (v : ℕ) → a.stage ≢ AskRest → Flies a.stage a.in_flight → v ≡ found (ask_next a) ws → v < 2 ^ 64
    → AskSteps ws a (act (ask_next a) ws) (ask_fed a v) (ask_told a v)
stepped ws a v runs flies e small = let told : Option AskOutcome = ask_told a v in let z : Ask = ask_fed_at a.stage a v in let b : Ask = ask_fed a v in
    let f : Fed a.stage a b told = feeds.stepped a.stage a z told b.steps (feeds.fed a.stage a v (not_rest a.stage runs) flies) in record {
      keeps = λ exec start x y is g.
          subst (λ (l : List Exchange). Agree exec start (act (ask_next a) ws) (record x { m = b; done = l; clears = clears_after told x.clears }) y) (sym (done_same told x.done z b.steps))
          (ask_step_agrees exec start ws (record x { m = a }) y v (subst (λ (m : Ask). Agree exec start ws (record x { m = m }) y) is g) (subst (λ (n : ℕ). Finds (ask_next a) ws n) (sym e) (finds_found (ask_next a) ws)) small);
      long = long_act (ask_next a) ws;
      wiring = f.wiring;
      code = f.code;
      input = f.input;
      budget = f.budget;
      looks = f.looks;
      flies = f.flies;
      space = keeps_space told a.space b f.space;
      stops = stops told b f.rests;
      is_for = is_for told (carried_at a.stage a.in_flight) a.in_flight f.sure;
    }

pub step_goes : (ws : List ℕ) (a : Ask) (ws' : List ℕ) (b : Ask) (told : Option AskOutcome) → a.stage ≢ AskRest → AskStep ws a ws' b told
    → AskSteps ws a ws' b told
step_goes ws a ws' b told runs h = let v : ℕ = found (ask_next a) ws in
    subst (λ (z : List ℕ × (Ask × Option AskOutcome)). AskSteps ws a z.0 z.1.0 z.1.1) (λ i. (sym h.words i, (sym h.machine i, sym h.told_is i))) (stepped ws a v runs h.right.flies refl h.small)

-- ---- some steps

pub none_yet : (ws : List ℕ) (a : Ask) → a.stage ≢ AskRest → AskSteps ws a ws a None
none_yet ws a runs = record { keeps = λ exec start x y is g. subst (λ (m : Ask). Agree exec start ws (record x { m = m }) y) is g; long = refl; wiring = refl; code = refl; input = refl; budget = refl; looks = refl; flies = refl; space = refl; stops = runs; is_for = tt }

looks_on : (told : Option AskOutcome) (m n : ℕ) → n ≡ m → looks_after told n ≡ looks_after told m
looks_on told m n e = ap (looks_after told) e

pub more : (ws ws1 ws2 : List ℕ) (a b c : Ask) (told : Option AskOutcome) → AskSteps ws a ws1 b None → AskSteps ws1 b ws2 c told → AskSteps ws a ws2 c told
more ws ws1 ws2 a b c told h k = record {
  keeps = λ exec start x y is g. k.keeps exec start (record x { m = b }) y refl (h.keeps exec start x y is g);
  long = k.long ∙ h.long;
  wiring = k.wiring ∙ h.wiring;
  code = k.code ∙ h.code;
  input = k.input ∙ h.input;
  budget = k.budget ∙ h.budget;
  looks = k.looks ∙ ap (looks_after told) h.looks;
  flies = k.flies ∙ ap (flies_after told) h.flies;
  space = subst (λ (s : List ℕ). KeepsSpace told s c.space) h.space k.space;
  stops = k.stops;
  is_for = subst (IsFor told) h.flies k.is_for;
}

-- ---- the run ends

least : (n : ℕ) (a : Ask) → AskOk a → IsAskRunning a → Within n (ask_left a) → 0 < n
least n a ok runs w = (one_less n (ask_left a) (ask_next a) (λ v. ask_after (ask_told a v) (ask_fed a v)) (asks_by_table a ok runs) w).0

rest_of : (n : ℕ) (a : Ask) (v : ℕ) → AskOk a → IsAskRunning a → ask_told a v ≡ None → Within n (ask_left a) → Within (n - 1) (ask_left (ask_fed a v))
rest_of n a v ok runs e w = subst (λ (told : Option AskOutcome). Within (n - 1) (ask_after told (ask_fed a v))) e ((one_less n (ask_left a) (ask_next a) (λ v. ask_after (ask_told a v) (ask_fed a v)) (asks_by_table a ok runs) w).1 v)

-- ---- a look loads completion once

abbrev is_look : AskStage → Bool
is_look LookWord = true
is_look _ = false

behind_block : (s : Style) → is_look (after_block s) ≡ false
behind_block Headed = refl
behind_block Joined3 = refl
behind_block Separate3 = refl
behind_block Joined4 = refl
behind_block Separate4 = refl
behind_block Reduced5 = refl

behind_update : (s : Style) → is_look (after_update s) ≡ false
behind_update Separate3 = refl
behind_update Headed = refl
behind_update Joined3 = refl
behind_update Joined4 = refl
behind_update Separate4 = refl
behind_update Reduced5 = refl

behind_mark : (s : Style) → is_look (after_mark s) ≡ false
behind_mark Separate3 = refl
behind_mark Headed = refl
behind_mark Joined3 = refl
behind_mark Joined4 = refl
behind_mark Separate4 = refl
behind_mark Reduced5 = refl

behind_bell : (s : Style) → is_look (after_bell s) ≡ false
behind_bell Reduced5 = refl
behind_bell Headed = refl
behind_bell Joined3 = refl
behind_bell Separate3 = refl
behind_bell Joined4 = refl
behind_bell Separate4 = refl

behind_look : (b : Bool) → is_look (after_look b) ≡ false
behind_look true = refl
behind_look false = refl

stored : (b : Bool) (n : ℕ) (s : Style) → is_look (post_on b n s) ≡ false
stored true n s = refl
stored false n s = behind_block s

looked : (b : Bool) (v : ℕ) (a : Ask) → is_look (look_on b v a).stage ≡ false
looked true v a = behind_look (tells_error a.wiring)
looked false v a = refl

blocked : (b : Bool) (a : Ask) → is_look (block_on b a).stage ≡ false
blocked true a = refl
blocked false a = refl

reads : (b : Bool) (j v : ℕ) (a : Ask) → is_look (read_on b j v a).stage ≡ false
reads true j v a = refl
reads false j v a = blocked a.wiring.notify _

lined : (b : Bool) (a : Ask) → is_look (line_on b a).stage ≡ false
lined true a = refl
lined false a = refl

lowers : (b : Bool) (a : Ask) → is_look (lowered_on b a).stage ≡ false
lowers true a = refl
lowers false a = refl

behind_at : (st : AskStage) (a : Ask) (v : ℕ) → st ≢ AskRest → is_look (ask_fed_at st a v).stage ≡ false
behind_at AskRest a v runs = absurd (runs refl)
behind_at (PostBlock j) a v runs = let n : ℕ = next_changed (j + 1) a.sent a.shown in stored (ltb n (length a.sent)) n (style_of a.wiring)
behind_at PostHeader a v runs = refl
behind_at PostUpdateLoad a v runs = refl
behind_at PostUpdateStore a v runs = behind_update (style_of a.wiring)
behind_at PostMarkLoad a v runs = refl
behind_at PostMarkStore a v runs = behind_mark (style_of a.wiring)
behind_at PostBellLoad a v runs = refl
behind_at PostBellStore a v runs = behind_bell (style_of a.wiring)
behind_at PostLine a v runs = refl
behind_at LookWord a v runs = looked (sees_done a.wiring v) v a
behind_at LookError a v runs = refl
behind_at (LookBlock j) a v runs = reads (has_more j a.wiring) j v a
behind_at LookLine a v runs = lined _ a
behind_at LookLineStore a v runs = lowers (acknowledges a.wiring) a
behind_at LookAckLoad a v runs = refl
behind_at LookAckStore a v runs = refl

not_look : (st : AskStage) → is_look st ≡ false → st ≢ LookWord
not_look st e q = cc_of (ap is_look q) e
  where
    cc_of : {b : Bool} → b ≡ true → b ≡ false → ⊥
    cc_of t f = cc

fed_behind : (a : Ask) (v : ℕ) → a.stage ≢ AskRest → (ask_fed a v).stage ≢ LookWord
fed_behind a v runs = not_look (ask_fed a v).stage (behind_at a.stage a v runs)

-- ---- the count of steps

-- a step raises the count by one at most
pub count_more : (a : Ask) (v : ℕ) → (ask_fed a v).steps ≤ a.steps + 1
count_more a v = let e = ask_steps_count a v in let r = rose_most a.steps in omega (arith, e, r)

pub step_counts : (ws : List ℕ) (a : Ask) (ws' : List ℕ) (b : Ask) (told : Option AskOutcome) → AskStep ws a ws' b told → b.steps ≤ a.steps + 1
step_counts ws a ws' b told h = let v : ℕ = found (ask_next a) ws in let c = count_more a v in let e = ap (λ (x : Ask). x.steps) h.machine in omega (arith, c, e)

-- ---- a run of so many steps at most

pub record AskGoing (ws : List ℕ) (a : Ask) (most : ℕ) (i : ℕ) (ws' : List ℕ) (b : Ask) : Type 0 where
  pub steps : AskSteps ws a ws' b None
  pub count : b.steps ≤ a.steps + i
  pub behind : b.stage ≢ LookWord
  pub within : AskOk b → Within (most - i) (ask_left b)

going_start : (ws : List ℕ) (a : Ask) (most : ℕ) → a.stage ≢ AskRest → a.stage ≢ LookWord → (AskOk a → Within most (ask_left a)) → AskGoing ws a most 0 ws a
going_start ws a most runs behind w = record { steps = none_yet ws a runs; count = omega arith; behind = behind; within = λ ok. let e : most ≡ most - 0 = omega arith in subst (λ (n : ℕ). Within n (ask_left a)) e (w ok) }

going_more : (ws : List ℕ) (a : Ask) (most i : ℕ) (ws1 ws2 : List ℕ) (b c : Ask) → AskGoing ws a most i ws1 b → AskStep ws1 b ws2 c None
    → AskGoing ws a most (i + 1) ws2 c
going_more ws a most i ws1 ws2 b c h s = let v : ℕ = found (ask_next b) ws1 in let runs : b.stage ≢ AskRest = h.steps.stops in record {
  steps = more ws ws1 ws2 a b c None h.steps (step_goes ws1 b ws2 c None runs s);
  count = let n = h.count in let m = step_counts ws1 b ws2 c None s in omega (arith, n, m);
  behind = subst (λ (x : Ask). x.stage ≢ LookWord) (sym s.machine) (fed_behind b v runs);
  within = λ ok. let e : most - i - 1 ≡ most - (i + 1) = omega arith in subst (λ (n : ℕ). Within n (ask_left c)) e (subst (λ (x : Ask). Within (most - i - 1) (ask_left x)) (sym s.machine) (rest_of (most - i) b v s.right runs (sym s.told_is) (h.within s.right)));
}

-- the last step of a run
going_ends : (ws : List ℕ) (a : Ask) (most i : ℕ) (ws1 ws2 : List ℕ) (b c : Ask) (o : AskOutcome) → AskGoing ws a most i ws1 b → AskStep ws1 b ws2 c (Some o)
    → AskSteps ws a ws2 c (Some o)
going_ends ws a most i ws1 ws2 b c o h s = more ws ws1 ws2 a b c (Some o) h.steps (step_goes ws1 b ws2 c (Some o) h.steps.stops s)

going_counts : (ws : List ℕ) (a : Ask) (most i : ℕ) (ws1 ws2 : List ℕ) (b c : Ask) (o : AskOutcome) → i < most → AskGoing ws a most i ws1 b
    → AskStep ws1 b ws2 c (Some o) → c.steps ≤ a.steps + most
going_counts ws a most i ws1 ws2 b c o lt h s = let n = h.count in let m = step_counts ws1 b ws2 c (Some o) s in omega (arith, lt, n, m)

going_sees : (ws : List ℕ) (a : Ask) (most i : ℕ) (ws1 ws2 : List ℕ) (b c : Ask) (o : AskOutcome) → AskGoing ws a most i ws1 b → AskStep ws1 b ws2 c (Some o)
    → o ≢ Clear
going_sees ws a most i ws1 ws2 b c o h s e = h.behind ((clear_told b (found (ask_next b) ws1)).0 (sym s.told_is ∙ ap Some e)).0

-- it isn't longer
going_stops : (ws : List ℕ) (a : Ask) (most i : ℕ) (ws' : List ℕ) (b : Ask) → AskGoing ws a most i ws' b → AskOk b → most ≤ i → ⊥
going_stops ws a most i ws' b h ok le = let p : 0 < most - i = least (most - i) b ok h.steps.stops (h.within ok) in omega (arith, p, le)

-- ---- a run whose block is moved at once

step_of : (ws : List ℕ) (a : Ask) → AskOk a → found (ask_next a) ws < 2 ^ 64 → ask_told a (found (ask_next a) ws) ≡ None
    → AskStep ws a (act (ask_next a) ws) (ask_fed a (found (ask_next a) ws)) None
step_of ws a ok small told = record { right = ok; small = small; words = refl; machine = refl; told_is = sym told }

-- so many steps more
going_moves : (n : ℕ) (ws : List ℕ) (a : Ask) (most i : ℕ) (ws1 ws2 : List ℕ) (b c : Ask) → AskGoing ws a most i ws1 b → AskMoves n ws1 b ws2 c
    → AskGoing ws a most (i + n) ws2 c
going_moves zero ws a most i ws1 ws2 b c h m = let e : i ≡ i + zero = omega arith in
    subst (λ (z : ℕ × List ℕ × Ask). AskGoing ws a most z.0 z.1 z.2) (λ j. (e j, sym m.0 j, sym m.1 j)) h
going_moves (suc n) ws a most i ws1 ws2 b c h m = let v : ℕ = found (ask_next b) ws1 in let on : List ℕ = act (ask_next b) ws1 in let e : i + 1 + n ≡ i + suc n = omega arith in
    subst (λ (k : ℕ). AskGoing ws a most k ws2 c) e
    (going_moves n ws a most (i + 1) on ws2 (ask_fed b v) c (going_more ws a most i ws1 on b (ask_fed b v) h (step_of ws1 b m.0 m.2 m.3)) m.4)

pub moves_run : (n : ℕ) (ws ws' : List ℕ) (a b : Ask) → AskMoves n ws a ws' b → a.stage ≢ AskRest → b.stage ≢ AskRest
moves_run zero ws ws' a b m runs = subst (λ (x : Ask). x.stage ≢ AskRest) (sym m.1) runs
moves_run (suc n) ws ws' a b m runs = let v : ℕ = found (ask_next a) ws in let on : List ℕ = act (ask_next a) ws in
    moves_run n on ws' (ask_fed a v) b m.4 (step_goes ws a on (ask_fed a v) None runs (step_of ws a m.0 m.2 m.3)).stops

pub moves_long : (n : ℕ) (ws ws' : List ℕ) (a b : Ask) → AskMoves n ws a ws' b → length ws ≡ 8 + block_of a.wiring → length ws' ≡ 8 + block_of b.wiring
moves_long zero ws ws' a b m long = subst (λ (z : List ℕ × Ask). length z.0 ≡ 8 + block_of z.1.wiring) (λ i. (sym m.0 i, sym m.1 i)) long
moves_long (suc n) ws ws' a b m long = let v : ℕ = found (ask_next a) ws in let on : List ℕ = act (ask_next a) ws in
    moves_long n on ws' (ask_fed a v) b m.4 (long_act (ask_next a) ws ∙ long ∙ ap (λ (w : Wiring). 8 + block_of w) (sym (ask_wired a.stage a v)))

-- after i turns of the loop so many steps are taken
pub record AskWent (ws : List ℕ) (a : Ask) (most i : ℕ) (ws' : List ℕ) (b : Ask) : Type 0 where
  pub taken : ℕ
  pub least : i ≤ taken
  pub going : AskGoing ws a most taken ws' b

pub went_start : (ws : List ℕ) (a : Ask) (most : ℕ) → a.stage ≢ AskRest → a.stage ≢ LookWord → (AskOk a → Within most (ask_left a)) → AskWent ws a most 0 ws a
went_start ws a most runs behind w = record { taken = 0; least = omega arith; going = going_start ws a most runs behind w }

pub went_more : (ws : List ℕ) (a : Ask) (most i : ℕ) (ws1 ws2 : List ℕ) (b c : Ask) → AskWent ws a most i ws1 b → AskStride ws1 b ws2 c None
    → AskWent ws a most (i + 1) ws2 c
went_more ws a most i ws1 ws2 b c h s = record {
  taken = h.taken + s.count + 1;
  least = let l = h.least in omega (arith, l);
  going = going_more ws a most (h.taken + s.count) s.words ws2 s.ask c (going_moves s.count ws a most h.taken ws1 s.words b s.ask h.going s.moves) s.step;
}

pub went_ends : (ws : List ℕ) (a : Ask) (most i : ℕ) (ws1 ws2 : List ℕ) (b c : Ask) (o : AskOutcome) → AskWent ws a most i ws1 b
    → AskStride ws1 b ws2 c (Some o) → AskSteps ws a ws2 c (Some o)
went_ends ws a most i ws1 ws2 b c o h s = going_ends ws a most (h.taken + s.count) s.words ws2 s.ask c o (going_moves s.count ws a most h.taken ws1 s.words b s.ask h.going s.moves) s.step

pub went_counts : (ws : List ℕ) (a : Ask) (most i : ℕ) (ws1 ws2 : List ℕ) (b c : Ask) (o : AskOutcome) → AskWent ws a most i ws1 b
    → AskStride ws1 b ws2 c (Some o) → c.steps ≤ a.steps + most
went_counts ws a most i ws1 ws2 b c o h s = let t : ℕ = h.taken + s.count in let g = going_moves s.count ws a most h.taken ws1 s.words b s.ask h.going s.moves in
    let p : 0 < most - t = least (most - t) s.ask s.step.right g.steps.stops (g.within s.step.right) in going_counts ws a most t s.words ws2 s.ask c o (omega (arith, p)) g s.step

pub went_sees : (ws : List ℕ) (a : Ask) (most i : ℕ) (ws1 ws2 : List ℕ) (b c : Ask) (o : AskOutcome) → AskWent ws a most i ws1 b
    → AskStride ws1 b ws2 c (Some o) → o ≢ Clear
went_sees ws a most i ws1 ws2 b c o h s = going_sees ws a most (h.taken + s.count) s.words ws2 s.ask c o (going_moves s.count ws a most h.taken ws1 s.words b s.ask h.going s.moves) s.step

pub went_stops : (ws : List ℕ) (a : Ask) (most i : ℕ) (ws' : List ℕ) (b : Ask) → AskWent ws a most i ws' b → AskOk b → most ≤ i → ⊥
went_stops ws a most i ws' b h ok le = going_stops ws a most h.taken ws' b h.going ok (let l = h.least in omega (arith, l, le))

-- ---- whole runs

-- a post that is begun is under way, and is no look
block_runs : (s : Style) → after_block s ≢ AskRest
block_runs Headed e = cc
block_runs Joined3 e = cc
block_runs Separate3 e = cc
block_runs Joined4 e = cc
block_runs Separate4 e = cc
block_runs Reduced5 e = cc

block_posts : (s : Style) → after_block s ≢ LookWord
block_posts Headed e = cc
block_posts Joined3 e = cc
block_posts Separate3 e = cc
block_posts Joined4 e = cc
block_posts Separate4 e = cc
block_posts Reduced5 e = cc

begun_stage : (P : AskStage → Type 0) (a b : Ask) (code : ℕ) (bytes : List ℕ) → b ≡ ask_begun a code bytes → ((n : ℕ) → P (PostBlock n))
    → ((s : Style) → P (after_block s)) → P b.stage
begun_stage P a b code bytes e h k = let x : Ask = ask_begun a code bytes in let n : ℕ = next_changed 0 x.sent a.shown in
    subst (λ (z : Ask). P z.stage) (sym e) (post_stage P (ltb n (length x.sent)) n (style_of a.wiring) (h n) (k (style_of a.wiring)))

pub begun_runs : (a b : Ask) (code : ℕ) (bytes : List ℕ) → b ≡ ask_begun a code bytes → b.stage ≢ AskRest
begun_runs a b code bytes e = begun_stage (λ (st : AskStage). st ≢ AskRest) a b code bytes e (λ n q. cc) block_runs

pub begun_posts : (a b : Ask) (code : ℕ) (bytes : List ℕ) → b ≡ ask_begun a code bytes → b.stage ≢ LookWord
begun_posts a b code bytes e = begun_stage (λ (st : AskStage). st ≢ LookWord) a b code bytes e (λ n q. cc) block_posts

pub post_within : (a b : Ask) (code : ℕ) (bytes : List ℕ) (n : ℕ) → b ≡ ask_begun a code bytes → n ≡ block_of b.wiring → AskOk b → Within (n + 7) (ask_left b)
post_within a b code bytes n e k ok = let x : Ask = ask_begun a code bytes in
    subst (λ (z : ℕ × Ask). Within z.0 (ask_left z.1)) (λ i. (ap (λ (m : ℕ). m + 7) (sym (k ∙ ap (λ (z : Ask). block_of z.wiring) e)) i, sym e i))
    (subst (Within (block_of a.wiring + 7)) (sym (posts_by_table a code bytes)) (posts_within a.wiring code x.sent a.shown ((subst AskOk e ok).sized.sent)))

-- the load of completion, with which a look begins
pub first_steps : (a b c : Ask) (ws : List ℕ) (v : ℕ) (o : Option AskOutcome) → b ≡ ask_looking a → a.in_flight ≡ true → v ≡ get_or ws 0 0 → v < 2 ^ 64
    → c ≡ ask_fed b v → o ≡ ask_told b v → AskSteps ws (ask_looking a) ws c o
first_steps a b c ws v o e flies found_is small ec eo = let x : Ask = ask_looking a in
    subst (λ (z : Ask × Option AskOutcome). AskSteps ws x ws z.0 z.1) (λ i. (sym (ec ∙ ap (λ (y : Ask). ask_fed y v) e) i, sym (eo ∙ ap (λ (y : Ask). ask_told y v) e) i)) (stepped ws x v (λ q. cc) flies found_is small)

goes_on : (b : Bool) → look_told b ≡ None → b ≡ true
goes_on true e = refl
goes_on false e = absurd (cc e)

posts_of : (tells : Bool) (posts : ℕ) → PostsLeft (after_look tells) posts → posts ≤ 4096
posts_of true posts h = h
posts_of false posts h = h

-- a look that goes on was right before
seen_right : (a : Ask) (v : ℕ) → sees_done a.wiring v ≡ true → a.in_flight ≡ true → a.looks < a.budget → AskOk (ask_fed (ask_looking a) v)
    → AskOk (ask_looking a)
seen_right a v seen flies left h = let x : Ask = ask_looking a in
    let ok : AskOk (ask_stepped (look_on true v x)) = subst (λ (b : Bool). AskOk (ask_stepped (look_on b v x))) seen h in
    record { wired = ok.wired; sized = ok.sized; place = tt; flies = flies; looks = left; posts = posts_of (tells_error a.wiring) a.posts ok.posts; kept = ok.kept; mask = ok.mask; id = ok.id; code = ok.code }

pub look_within : (a b c : Ask) (ws : List ℕ) (v n : ℕ) (o : Option AskOutcome) → b ≡ ask_looking a → a.in_flight ≡ true → a.looks < a.budget
    → v ≡ get_or ws 0 0 → v < 2 ^ 64 → c ≡ ask_fed b v → o ≡ ask_told b v → o ≡ None → n ≡ block_of c.wiring → AskOk c → Within (n + 5) (ask_left c)
look_within a b c ws v n o e flies left found_is small ec eo none k ok = let x : Ask = ask_looking a in let m : ℕ = block_of a.wiring in
    let same : c.wiring ≡ a.wiring = (first_steps a b c ws v o e flies found_is small ec eo).wiring in
    let fed : c ≡ ask_fed x v = ec ∙ ap (λ (y : Ask). ask_fed y v) e in
    let told : ask_told x v ≡ None = sym (eo ∙ ap (λ (y : Ask). ask_told y v) e) ∙ none in
    let right : AskOk x = seen_right a v (goes_on (sees_done a.wiring v) told) flies left (subst AskOk fed ok) in
    let i : m + 6 - 1 ≡ n + 5 = let q : n ≡ m = k ∙ ap block_of same in omega (arith, q) in
    subst (λ (z : ℕ × Ask). Within z.0 (ask_left z.1)) (λ j. (i j, sym fed j)) (rest_of (m + 6) x v right (λ q. cc) told (subst (Within (m + 6)) (sym (looks_by_table a)) (looks_within a.wiring)))

pub look_steps : (a c d : Ask) (ws ws' : List ℕ) (o : AskOutcome) → AskSteps ws (ask_looking a) ws c None → AskSteps ws c ws' d (Some o)
    → AskSteps ws (ask_looking a) ws' d (Some o)
look_steps a c d ws ws' o h k = more ws ws ws' (ask_looking a) c d (Some o) h k

pub look_long : (a c : Ask) (ws : List ℕ) (o : Option AskOutcome) → AskSteps ws (ask_looking a) ws c o → length ws ≡ 8 + block_of a.wiring
    → length ws ≡ 8 + block_of c.wiring
look_long a c ws o h long = long ∙ ap (λ (w : Wiring). 8 + block_of w) (sym h.wiring)

-- ---- how many steps a look takes

pub first_counts : (a b c : Ask) (v : ℕ) → b ≡ ask_looking a → c ≡ ask_fed b v → c.steps ≤ a.steps + 1
first_counts a b c v e k = let x : Ask = ask_looking a in let n = count_more x v in
    let s : c.steps ≡ (ask_fed x v).steps = ap (λ (y : Ask). y.steps) (k ∙ ap (λ (y : Ask). ask_fed y v) e) in omega (arith, n, s)

pub look_counts : (a c d : Ask) (n : ℕ) (o : AskOutcome) → o ≢ Clear → c.steps ≤ a.steps + 1 → n ≡ block_of c.wiring → c.wiring ≡ a.wiring
    → d.steps ≤ c.steps + (n + 5) → d.steps ≤ a.steps + look_most (block_of a.wiring) o
look_counts a c d n Clear sees first e same rest = absurd (sees refl)
look_counts a c d n Posted sees first e same rest = let m : n ≡ block_of a.wiring = e ∙ ap block_of same in omega (arith, first, rest, m)
look_counts a c d n (Drained x) sees first e same rest = let m : n ≡ block_of a.wiring = e ∙ ap block_of same in omega (arith, first, rest, m)
