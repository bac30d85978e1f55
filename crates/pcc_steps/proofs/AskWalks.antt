-- The asking machine walks its tables.
use Rattle.std.proofs.Common.{◌≡◌, ◌≢◌, ℕ, suc, ◌+◌, ◌-◌, ◌<◌, ◌≤◌, Bool, true, false, eqb, ltb, ◌==◌, if◌then◌else◌, List, [], ◌∷◌, ◌++◌, length, set, take, drop, refl, sym, ap, ◌∙◌, subst, arith, length-set}
use Rattle.std.proofs.lemmas.List.{take_more_set}
use borrow.Author.Tests.{ltb-false}
use Rattle.pcc_steps.specs.declared.wiring.Wiring.{Wiring}
use Rattle.pcc_steps.specs.declared.wiring.Style.{Style}
use Rattle.pcc_steps.specs.declared.wiring.Style.TheVariants.{Headed, Joined3, Separate3, Joined4, Separate4, Reduced5}
use Rattle.std.specs.Prelude.{Option, None, Some}
use Rattle.pcc_steps.specs.Laws.{AsksByTable, PostsByTable, LooksByTable}
use Rattle.pcc_steps.specs.declared.ask.AskOutcome.{AskOutcome}
use Rattle.pcc_steps.specs.declared.ask.AskOutcome.TheVariants.{Posted, Clear, Drained}
use Rattle.pcc_steps.specs.declared.wiring.Action.{Action}
use Rattle.pcc_steps.specs.declared.wiring.Action.TheVariants.{Load}
use Rattle.pcc_steps.specs.declared.ask.AskStage.{AskStage}
use Rattle.pcc_steps.specs.declared.ask.AskStage.TheVariants.{AskRest, PostBlock, PostHeader, PostUpdateLoad, PostUpdateStore, PostMarkLoad, PostMarkStore, PostBellLoad, PostBellStore, PostLine, LookWord, LookError, LookBlock, LookLine, LookLineStore, LookAckLoad, LookAckStore}
use Rattle.pcc_steps.specs.Changes.{next_changed}
use Rattle.pcc_steps.specs.Wires.{style_of, block_of, meets, sees_done, tells_error, header_error, acknowledges}
use Rattle.pcc_steps.specs.Runs.{Run, ends, loads, stores, swaps, executes, store_changed, load_words, PostStep, post_steps, posting, AskEnd, posts, sees_clear, drains, LookStep, look_table, look_steps, looking, acknowledging, masked_write, Seen}
use Rattle.pcc_steps.specs.Asking.{Ask, AskOk, AskUpdates, AskClears, AskRings, has_more, rose, ask_stepped, ask_next_at, ask_fed_at, ask_told_at, ask_begun, post_on, look_on, read_on, block_on, line_on, lowered_on, look_told, read_told, end_told, line_told, after_block, after_update, after_mark, after_bell, after_look}
use Rattle.pcc_steps.specs.Walk.{post_number, look_number, from, behind, ask_left_by, ask_left, ask_after, Takes}
use Rattle.pcc_steps.proofs.Lists.{all_taken, next_place}
use Rattle.pcc_steps.proofs.Changes.{Storing, first_stored, next_stored}

-- ---- posting

module _ (look : List LookStep) where
  left_block : (s : Style) (a : Ask) → ask_left_by (post_steps s) look (after_block s) a ≡ posting (behind post_number 0 (post_steps s)) a.wiring a.code a.sent a.shown
  left_block Headed a = refl
  left_block Joined3 a = refl
  left_block Separate3 a = refl
  left_block Joined4 a = refl
  left_block Separate4 a = refl
  left_block Reduced5 a = refl

  left_update : (s : Style) (a : Ask) → AskUpdates s
      → ask_left_by (post_steps s) look (after_update s) a ≡ posting (behind post_number 2 (post_steps s)) a.wiring a.code a.sent a.shown
  left_update Headed a u = absurd u
  left_update Joined3 a u = refl
  left_update Separate3 a u = refl
  left_update Joined4 a u = absurd u
  left_update Separate4 a u = absurd u
  left_update Reduced5 a u = absurd u

  left_mark : (s : Style) (a : Ask) → AskClears s
      → ask_left_by (post_steps s) look (after_mark s) a ≡ posting (behind post_number 3 (post_steps s)) a.wiring a.code a.sent a.shown
  left_mark Headed a u = absurd u
  left_mark Joined3 a u = absurd u
  left_mark Separate3 a u = refl
  left_mark Joined4 a u = refl
  left_mark Separate4 a u = refl
  left_mark Reduced5 a u = refl

  left_bell : (s : Style) (a : Ask) → AskRings s
      → ask_left_by (post_steps s) look (after_bell s) a ≡ posting (behind post_number 4 (post_steps s)) a.wiring a.code a.sent a.shown
  left_bell Headed a u = refl
  left_bell Joined3 a u = refl
  left_bell Separate3 a u = refl
  left_bell Joined4 a u = absurd u
  left_bell Separate4 a u = absurd u
  left_bell Reduced5 a u = refl

  header_walks : (s : Style) (a : Ask) → s ≡ Headed
      → Takes (ask_left_by (post_steps s) look PostHeader a) (ask_next_at PostHeader a) (λ v. ask_left_by (post_steps s) look PostBellLoad (record a { stage = PostBellLoad }))
  header_walks Headed a e = (refl, λ v. refl)
  header_walks _ a e = cc

  update_walks : (s : Style) (a : Ask) → AskUpdates s
      → Takes (ask_left_by (post_steps s) look PostUpdateLoad a) (ask_next_at PostUpdateLoad a) (λ v. ask_left_by (post_steps s) look PostUpdateStore (record a { stage = PostUpdateStore; kept = v }))
  update_walks Headed a u = absurd u
  update_walks Joined3 a u = (refl, λ v. refl)
  update_walks Separate3 a u = (refl, λ v. refl)
  update_walks Joined4 a u = absurd u
  update_walks Separate4 a u = absurd u
  update_walks Reduced5 a u = absurd u

  mark_walks : (s : Style) (a : Ask) → AskClears s
      → Takes (ask_left_by (post_steps s) look PostMarkLoad a) (ask_next_at PostMarkLoad a) (λ v. ask_left_by (post_steps s) look PostMarkStore (record a { stage = PostMarkStore; kept = v }))
  mark_walks Headed a u = absurd u
  mark_walks Joined3 a u = absurd u
  mark_walks Separate3 a u = (refl, λ v. refl)
  mark_walks Joined4 a u = (refl, λ v. refl)
  mark_walks Separate4 a u = (refl, λ v. refl)
  mark_walks Reduced5 a u = (refl, λ v. refl)

  bell_walks : (s : Style) (a : Ask) → AskRings s
      → Takes (ask_left_by (post_steps s) look PostBellLoad a) (ask_next_at PostBellLoad a) (λ v. ask_left_by (post_steps s) look PostBellStore (record a { stage = PostBellStore; kept = v }))
  bell_walks Headed a u = (refl, λ v. refl)
  bell_walks Joined3 a u = (refl, λ v. refl)
  bell_walks Separate3 a u = (refl, λ v. refl)
  bell_walks Joined4 a u = absurd u
  bell_walks Separate4 a u = absurd u
  bell_walks Reduced5 a u = (refl, λ v. refl)

  line_walks : (s : Style) (a : Ask) → Takes (ask_left_by (post_steps s) look PostLine a) (ask_next_at PostLine a) (λ v. ends posts)
  line_walks Headed a = (refl, λ v. refl)
  line_walks _ a = (refl, λ v. refl)

-- ---- looking

module _ (post : List PostStep) where
  left_look : (t n : Bool) (a : Ask) (e : Bool)
      → ask_left_by post (look_table t n) (after_look t) (record a { stage = after_look t; error = e }) ≡ looking (behind look_number 0 (look_table t n)) a.wiring (record { error = e; block = [] })
  left_look true n a e = refl
  left_look false n a e = ap (λ (k : ℕ). load_words 8 k [] (λ b. looking (behind look_number 2 (look_table false n)) a.wiring (record { error = e; block = b }))) (let z : block_of a.wiring - 0 ≡ block_of a.wiring = omega arith in z)

  error_walks : (t n : Bool) (a : Ask) → t ≡ true
      → Takes (ask_left_by post (look_table t n) LookError a) (ask_next_at LookError a) (λ v. ask_left_by post (look_table t n) (LookBlock 0) (record a { stage = LookBlock 0; error = meets v a.wiring.error_mask }))
  error_walks true n a e = (refl, λ v. ap (λ (k : ℕ). load_words 8 k [] (λ b. looking (behind look_number 2 (look_table true n)) a.wiring (record { error = meets v a.wiring.error_mask; block = b }))) (let z : block_of a.wiring - 0 ≡ block_of a.wiring = omega arith in z))
  error_walks false n a e = cc

-- what a look has found, at its end
abbrev pub seen : Ask → Seen
seen a = record { error = a.error; block = a.loaded }

no_more : (t n : Bool) → behind look_number 3 (look_table t n) ≡ []
no_more true true = refl
no_more true false = refl
no_more false true = refl
no_more false false = refl

tail_look : (t n : Bool) → from look_number 3 (look_table t n) ≡ behind look_number 2 (look_table t n)
tail_look true true = refl
tail_look true false = refl
tail_look false true = refl
tail_look false false = refl

no_tail : (t n : Bool) → n ≡ false → behind look_number 2 (look_table t n) ≡ []
no_tail true true e = cc
no_tail true false e = refl
no_tail false true e = cc
no_tail false false e = refl

-- the end of a look, where nothing is left
over_now : (a : Ask) → looking (behind look_number 3 (look_steps a.wiring)) a.wiring (seen a) ≡ ends (drains a.error a.loaded)
over_now a = ap (λ (l : List LookStep). looking l a.wiring (seen a)) (no_more (tells_error a.wiring) a.wiring.notify)

word_walks : (t n : Bool) (a : Ask) (next : ℕ → Run AskEnd)
    → ((v : ℕ) → next v ≡ (if sees_done a.wiring v then looking (behind look_number 0 (look_table t n)) a.wiring (record { error = header_error (style_of a.wiring) v; block = [] }) else ends sees_clear))
    → Takes (looking (from look_number 0 (look_table t n)) a.wiring (record { error = false; block = [] })) (Load 0) next
word_walks t n a next h = (refl, h)

looked : (b : Bool) (v : ℕ) (a : Ask)
    → ask_after (look_told b) (look_on b v a) ≡ (if b then looking (behind look_number 0 (look_steps a.wiring)) a.wiring (record { error = header_error (style_of a.wiring) v; block = [] }) else ends sees_clear)
looked true v a = left_look (post_steps (style_of a.wiring)) (tells_error a.wiring) a.wiring.notify a (header_error (style_of a.wiring) v)
looked false v a = refl

blocked : (b : Bool) (a : Ask) → a.wiring.notify ≡ b
    → ask_after (end_told b a.error) (block_on b a) ≡ looking (behind look_number 2 (look_steps a.wiring)) a.wiring (seen a)
blocked true a e = ap (λ (l : List LookStep). looking l a.wiring (seen a)) (tail_look (tells_error a.wiring) a.wiring.notify)
blocked false a e = sym (ap (λ (l : List LookStep). looking l a.wiring (seen a)) (no_tail (tells_error a.wiring) a.wiring.notify e))

read : (b : Bool) (j v : ℕ) (a : Ask) → has_more j a.wiring ≡ b → j < block_of a.wiring → length a.loaded ≡ block_of a.wiring
    → let k = λ (l : List ℕ). looking (behind look_number 2 (look_steps a.wiring)) a.wiring (record { error = a.error; block = l }) in
    ask_after (read_told b a.wiring.notify a.error) (read_on b j v a) ≡ load_words (8 + j + 1) (block_of a.wiring - (j + 1)) (take j a.loaded ++ v ∷ []) k
read true j v a more here long = let k = λ (l : List ℕ). looking (behind look_number 2 (look_steps a.wiring)) a.wiring (record { error = a.error; block = l }) in let m : ℕ = block_of a.wiring - (j + 1) in
    let t = take_more_set a.loaded j v (omega arith) in λ i. load_words (next_place j i) m (t i) k
read false j v a more here long = let k = λ (l : List ℕ). looking (behind look_number 2 (look_steps a.wiring)) a.wiring (record { error = a.error; block = l }) in let n : ℕ = block_of a.wiring in let last : n ≤ j + 1 = ltb-false (j + 1) n more in
    let none : n - (j + 1) ≡ 0 = omega arith in let l : List ℕ = set a.loaded j v in let longs : length l ≡ n = length-set a.loaded j v ∙ long in
    let t : take j a.loaded ++ v ∷ [] ≡ l = sym (take_more_set a.loaded j v (omega arith)) ∙ all_taken (j + 1) l (omega arith) in
    blocked a.wiring.notify (record a { loaded = l }) refl ∙ sym (λ i. load_words (8 + j + 1) (none i) (t i) k)

lined : (b : Bool) (a : Ask)
    → ask_after (line_told b a.error) (line_on b a) ≡ (if b then ends (drains a.error a.loaded) else stores 4 0 (acknowledging a.wiring (ends (drains a.error a.loaded))))
lined true a = refl
lined false a = ap (λ (r : Run AskEnd). stores 4 0 (acknowledging a.wiring r)) (over_now a)

line_walks_at : (t n : Bool) (a : Ask) (next : ℕ → Run AskEnd) → n ≡ true
    → ((v : ℕ) → next v ≡ (if v == 0 then ends (drains a.error a.loaded) else stores 4 0 (acknowledging a.wiring (ends (drains a.error a.loaded)))))
    → Takes (looking (from look_number 3 (look_table t n)) a.wiring (seen a)) (Load 4) next
line_walks_at true true a next e h = (refl, h)
line_walks_at false true a next e h = (refl, h)
line_walks_at t false a next e h = cc

lowered : (b : Bool) (a : Ask)
    → let k : Run AskEnd = looking (behind look_number 3 (look_steps a.wiring)) a.wiring (seen a) in ask_after (end_told b a.error) (lowered_on b a) ≡ (if b then masked_write 5 a.wiring.ack k else k)
lowered true a = refl
lowered false a = sym (over_now a)

-- ---- every stage

-- the stores of the block that are left, at the next word that changed or after the last one
store_walks : (b : Bool) (n : ℕ) (a : Ask)
    → let k : Run AskEnd = posting (behind post_number 0 (post_steps (style_of a.wiring))) a.wiring a.code a.sent a.shown in
    ask_left_by (post_steps (style_of a.wiring)) (look_steps a.wiring) (post_on b n (style_of a.wiring)) a ≡ Storing b 8 n a.sent a.shown k
store_walks true n a = refl
store_walks false n a = left_block (look_steps a.wiring) (style_of a.wiring) a

abbrev pub left_at : AskStage → Ask → Run AskEnd
left_at st a = ask_left_by (post_steps (style_of a.wiring)) (look_steps a.wiring) st a

pub walks : (st : AskStage) (a : Ask) → st ≢ AskRest → AskOk (record a { stage = st })
    → Takes (left_at st a) (ask_next_at st a) (λ v. ask_after (ask_told_at st a v) (ask_fed_at st a v))
walks AskRest a runs ok = absurd (runs refl)
walks (PostBlock j) a runs ok = let k : Run AskEnd = posting (behind post_number 0 (post_steps (style_of a.wiring))) a.wiring a.code a.sent a.shown in let n : ℕ = next_changed (j + 1) a.sent a.shown in let b : Bool = ltb n (length a.sent) in
    (refl, λ v. store_walks b n (ask_fed_at (PostBlock j) a v) ∙ sym (next_stored b 8 (j + 1) a.sent a.shown k refl) ∙ ap (λ (p : ℕ). store_changed p (drop (j + 1) a.sent) (drop (j + 1) a.shown) k) (next_place j))
walks PostHeader a runs ok = header_walks (look_steps a.wiring) (style_of a.wiring) a ok.place
walks PostUpdateLoad a runs ok = update_walks (look_steps a.wiring) (style_of a.wiring) a ok.place
walks PostUpdateStore a runs ok = (refl, λ v. left_update (look_steps a.wiring) (style_of a.wiring) (record a { stage = after_update (style_of a.wiring) }) ok.place)
walks PostMarkLoad a runs ok = mark_walks (look_steps a.wiring) (style_of a.wiring) a ok.place
walks PostMarkStore a runs ok = (refl, λ v. left_mark (look_steps a.wiring) (style_of a.wiring) (record a { stage = after_mark (style_of a.wiring) }) ok.place)
walks PostBellLoad a runs ok = bell_walks (look_steps a.wiring) (style_of a.wiring) a ok.place
walks PostBellStore a runs ok = (refl, λ v. left_bell (look_steps a.wiring) (style_of a.wiring) (record a { stage = after_bell (style_of a.wiring) }) ok.place)
walks PostLine a runs ok = line_walks (look_steps a.wiring) (style_of a.wiring) a
walks LookWord a runs ok = word_walks (tells_error a.wiring) a.wiring.notify a (λ v. ask_after (ask_told_at LookWord a v) (ask_fed_at LookWord a v)) (λ v. looked (sees_done a.wiring v) v a)
walks LookError a runs ok = error_walks (post_steps (style_of a.wiring)) (tells_error a.wiring) a.wiring.notify a ok.place
walks (LookBlock j) a runs ok = let k = λ (l : List ℕ). looking (behind look_number 2 (look_steps a.wiring)) a.wiring (record { error = a.error; block = l }) in let n : ℕ = block_of a.wiring in let here : j < n = ok.place in let e : suc (n - (j + 1)) ≡ n - j = omega arith in
    subst (λ (m : ℕ). Takes (load_words (8 + j) m (take j a.loaded) k) (Load (8 + j)) (λ v. ask_after (ask_told_at (LookBlock j) a v) (ask_fed_at (LookBlock j) a v))) e (refl, λ v. read (has_more j a.wiring) j v a refl here ok.sized.loaded)
walks LookLine a runs ok = line_walks_at (tells_error a.wiring) a.wiring.notify a (λ v. ask_after (ask_told_at LookLine a v) (ask_fed_at LookLine a v)) ok.place (λ v. lined (eqb v 0) a)
walks LookLineStore a runs ok = (refl, λ v. lowered (acknowledges a.wiring) a)
walks LookAckLoad a runs ok = (refl, λ v. refl)
walks LookAckStore a runs ok = (refl, λ v. sym (over_now a))

-- ---- the beginnings

first_block : (s : Style) (w : Wiring) (code : ℕ) (block old : List ℕ)
    → store_changed 8 block old (posting (behind post_number 0 (post_steps s)) w code block old) ≡ posting (post_steps s) w code block old
first_block Headed w code block old = refl
first_block _ w code block old = refl

-- the count of steps is no part of a run
stepped_at : (post : List PostStep) (look : List LookStep) (st : AskStage) (a : Ask) (n : ℕ)
    → ask_left_by post look st (record a { steps = n }) ≡ ask_left_by post look st a
stepped_at post look AskRest a n = refl
stepped_at post look _ a n = refl

after_stepped : (told : Option AskOutcome) (a : Ask) → ask_after told (ask_stepped a) ≡ ask_after told a
after_stepped None a = stepped_at (post_steps (style_of a.wiring)) (look_steps a.wiring) a.stage a (rose a.steps)
after_stepped (Some Posted) a = refl
after_stepped (Some Clear) a = refl
after_stepped (Some (Drained e)) a = refl

-- what follows may be told in another way
pub takes_so : {E : Type 0} (r : Run E) (x : Action) (f g : ℕ → Run E) → ((v : ℕ) → g v ≡ f v) → Takes r x f → Takes r x g
takes_so (ends e) x f g same t = t
takes_so (loads p h) x f g same t = (t.0, λ v. same v ∙ t.1 v)
takes_so (stores p u r) x f g same t = (t.0, λ v. same v ∙ t.1 v)
takes_so (swaps p u h) x f g same t = (t.0, λ v. same v ∙ t.1 v)
takes_so (executes code s h) x f g same t = t

pub asks_by_table : AsksByTable
asks_by_table a ok runs = takes_so (ask_left a) (ask_next_at a.stage a) (λ v. ask_after (ask_told_at a.stage a v) (ask_fed_at a.stage a v)) (λ v. ask_after (ask_told_at a.stage a v) (ask_stepped (ask_fed_at a.stage a v)))
    (λ v. after_stepped (ask_told_at a.stage a v) (ask_fed_at a.stage a v)) (walks a.stage a runs ok)

pub posts_by_table : PostsByTable
posts_by_table a code bytes = let z : Ask = ask_begun a code bytes in let s : Style = style_of a.wiring in let k : Run AskEnd = posting (behind post_number 0 (post_steps s)) a.wiring code z.sent a.shown in
    let n : ℕ = next_changed 0 z.sent a.shown in let b : Bool = ltb n (length z.sent) in
    store_walks b n z ∙ sym (first_stored b 8 z.sent a.shown k refl) ∙ first_block s a.wiring code z.sent a.shown

pub looks_by_table : LooksByTable
looks_by_table a = refl
