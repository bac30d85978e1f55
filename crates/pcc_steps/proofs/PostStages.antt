-- The stage of the asking machine once words of the block are stored: another word changed, or none did.
use Rattle.std.proofs.Common.{◌≡◌, ℕ, ◌<◌, ◌≤◌, ◌^◌, Bool, true, false, ltb, length, refl, sym, ap, ◌∙◌, subst}
use borrow.Author.Tests.{ltb-true}
use Rattle.pcc_steps.specs.declared.wiring.Style.{Style}
use Rattle.pcc_steps.specs.declared.wiring.Style.TheVariants.{Headed, Joined3, Separate3, Joined4, Separate4, Reduced5}
use Rattle.pcc_steps.specs.declared.ask.AskStage.{AskStage}
use Rattle.pcc_steps.specs.declared.ask.AskStage.TheVariants.{PostBlock, PostHeader, PostUpdateLoad, PostMarkLoad, PostBellLoad}
use Rattle.pcc_steps.specs.Changes.{next_changed}
use Rattle.pcc_steps.specs.Wires.{style_of, block_of}
use Rattle.pcc_steps.specs.Asking.{Ask, AskOk, AskPlace, AskUpdates, AskClears, AskRings, Flies, LooksLeft, PostsLeft, after_block, post_on, block_stage}
use Rattle.pcc_steps.specs.Agree.{writing, bell_pose, pose_at, is_pending_at}
use Rattle.pcc_steps.proofs.Changes.{next_end}
use Rattle.pcc_steps.proofs.Trails.{block_pends}

-- what holds of the store of each word, and of the stage after the block, holds of this stage
pub post_stage : (P : AskStage → Type 0) (b : Bool) (n : ℕ) (s : Style) → P (PostBlock n) → P (after_block s) → P (post_on b n s)
post_stage P true n s h k = h
post_stage P false n s h k = k

-- the machine's own facts, at another stage of its run
pub steps_on : (a : Ask) (st : AskStage) (kept : ℕ) → AskOk a → kept < 2 ^ 64 → AskPlace st a.wiring → Flies st a.in_flight → LooksLeft st a.looks a.budget
    → PostsLeft st a.posts → AskOk (record a { stage = st; kept = kept })
steps_on a st kept ok small place flies looks posts = record { wired = ok.wired; sized = ok.sized; place = place; flies = flies; looks = looks; posts = posts; kept = small; mask = ok.mask; id = ok.id; code = ok.code }

-- the last word of the block is stored: the next step is in its place
block_ok : (j : ℕ) (s : Style) (a : Ask) → style_of a.wiring ≡ s → AskOk (record a { stage = PostBlock j }) → AskOk (record a { stage = after_block s })
block_ok j Headed a e ok = steps_on (record a { stage = PostBlock j }) PostHeader a.kept ok ok.kept e ok.flies ok.looks ok.posts
block_ok j Joined3 a e ok = steps_on (record a { stage = PostBlock j }) PostUpdateLoad a.kept ok ok.kept (subst AskUpdates (sym e) tt) ok.flies ok.looks ok.posts
block_ok j Separate3 a e ok = steps_on (record a { stage = PostBlock j }) PostUpdateLoad a.kept ok ok.kept (subst AskUpdates (sym e) tt) ok.flies ok.looks ok.posts
block_ok j Joined4 a e ok = steps_on (record a { stage = PostBlock j }) PostMarkLoad a.kept ok ok.kept (subst AskClears (sym e) tt) ok.flies ok.looks ok.posts
block_ok j Separate4 a e ok = steps_on (record a { stage = PostBlock j }) PostMarkLoad a.kept ok ok.kept (subst AskClears (sym e) tt) ok.flies ok.looks ok.posts
block_ok j Reduced5 a e ok = steps_on (record a { stage = PostBlock j }) PostBellLoad a.kept ok ok.kept (subst AskRings (sym e) tt) ok.flies ok.looks ok.posts

stage_ok : (b : Bool) (j n : ℕ) (s : Style) (a : Ask) → style_of a.wiring ≡ s → (b ≡ true → n < block_of a.wiring) → AskOk (record a { stage = PostBlock j })
    → AskOk (record a { stage = post_on b n s })
stage_ok true j n s a e here ok = steps_on (record a { stage = PostBlock j }) (PostBlock n) a.kept ok ok.kept (here refl) ok.flies ok.looks ok.posts
stage_ok false j n s a e here ok = block_ok j s a e ok

pub posted_ok : (j k : ℕ) (a : Ask) → AskOk (record a { stage = PostBlock j }) → AskOk (record a { stage = block_stage k a.wiring a.sent a.shown })
posted_ok j k a ok = let n : ℕ = next_changed k a.sent a.shown in let b : Bool = ltb n (length a.sent) in
    stage_ok b j n (style_of a.wiring) a refl (λ e. subst (λ (m : ℕ). n < m) ok.sized.sent (ltb-true n (length a.sent) e)) ok

-- ---- the relation

pose_after : (s : Style) (a : Ask) → style_of a.wiring ≡ s → pose_at (after_block s) a ≡ writing (block_of a.wiring)
pose_after Headed a e = refl
pose_after Joined3 a e = refl
pose_after Separate3 a e = refl
pose_after Joined4 a e = refl
pose_after Separate4 a e = refl
pose_after Reduced5 a e = ap (λ (s : Style). bell_pose s (block_of a.wiring)) e

pose_on : (b : Bool) (n : ℕ) (s : Style) (a : Ask) → style_of a.wiring ≡ s → (b ≡ false → n ≡ block_of a.wiring) → pose_at (post_on b n s) a ≡ writing n
pose_on true n s a e all = refl
pose_on false n s a e all = pose_after s a e ∙ ap writing (sym (all refl))

-- all words before the next one that is stored stand there
pub posted_pose : (k : ℕ) (a m : Ask) → m.wiring ≡ a.wiring → length a.sent ≡ block_of a.wiring → k ≤ length a.sent
    → pose_at (block_stage k a.wiring a.sent a.shown) m ≡ writing (next_changed k a.sent a.shown)
posted_pose k a m same long h = let n : ℕ = next_changed k a.sent a.shown in
    pose_on (ltb n (length a.sent)) n (style_of a.wiring) m (ap style_of same) (λ e. next_end k a.sent a.shown h e ∙ (long ∙ ap block_of (sym same)))

pub posted_pends : (k : ℕ) (a : Ask) (f : Bool) → is_pending_at (block_stage k a.wiring a.sent a.shown) f ≡ true
posted_pends k a f = let n : ℕ = next_changed k a.sent a.shown in
    post_stage (λ (st : AskStage). is_pending_at st f ≡ true) (ltb n (length a.sent)) n (style_of a.wiring) refl (block_pends (style_of a.wiring) f)
