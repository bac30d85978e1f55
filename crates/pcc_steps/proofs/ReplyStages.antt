-- The stage of the answering machine once words of the reply are stored: another word changed, or none did.
use Rattle.std.proofs.Common.{◌≡◌, ℕ, ◌<◌, ◌≤◌, Bool, true, false, ltb, List, length, refl, sym, ap, ◌∙◌, subst, arith}
use borrow.Author.Tests.{ltb-true}
use Rattle.pcc_history.specs.Devices.{Device}
use Rattle.pcc_history.specs.Channel.{both}
use Rattle.pcc_steps.specs.declared.wiring.Wiring.{Wiring}
use Rattle.pcc_steps.specs.declared.wiring.Style.{Style}
use Rattle.pcc_steps.specs.declared.wiring.Style.TheVariants.{Headed, Joined3, Separate3, Joined4, Separate4, Reduced5}
use Rattle.pcc_steps.specs.declared.answer.AnswerStage.{AnswerStage}
use Rattle.pcc_steps.specs.declared.answer.AnswerStage.TheVariants.{ReplyBlock}
use Rattle.pcc_steps.specs.Changes.{next_changed}
use Rattle.pcc_steps.specs.Wires.{style_of, heads_of, block_of, tells_error}
use Rattle.pcc_steps.specs.Answering.{Answer, AnswerPlace, AnswerUpdates, AnswerSets, after_error, after_reply, reply_on, reply_stage}
use Rattle.pcc_steps.specs.Agree.{Answerer, settle_at, replying, turn_at, mix, Shows, Told, IsBetween}
use Rattle.pcc_steps.proofs.Bits.{shows_none}
use Rattle.pcc_steps.proofs.Changes.{next_from, next_end, mix_next}

-- what holds of the store of each word, and of the stage after the block, holds of this stage
pub reply_at : (P : AnswerStage → Type 0) (b : Bool) (n : ℕ) (w : Wiring) → P (ReplyBlock n) → P (after_reply (tells_error w) (style_of w)) → P (reply_on b n w)
reply_at P true n w h k = h
reply_at P false n w h k = k

pub turn_error : (s : Style) (a : Answer) → turn_at (after_error s) a ≡ replying (block_of a.wiring)
turn_error Headed a = refl
turn_error _ a = refl

turn_reply : (b : Bool) (s : Style) (a : Answer) → turn_at (after_reply b s) a ≡ replying (block_of a.wiring)
turn_reply true s a = refl
turn_reply false s a = turn_error s a

turn_on : (b : Bool) (n : ℕ) (w : Wiring) (a : Answer) → (b ≡ false → n ≡ block_of a.wiring) → turn_at (reply_on b n w) a ≡ replying n
turn_on true n w a all = refl
turn_on false n w a all = turn_reply (tells_error w) (style_of w) a ∙ ap replying (sym (all refl))

-- all words before the next one that is stored stand there
pub replied_turn : (k : ℕ) (w : Wiring) (out loaded : List ℕ) (a : Answer) → length out ≡ block_of a.wiring → k ≤ length out
    → turn_at (reply_stage k w out loaded) a ≡ replying (next_changed k out loaded)
replied_turn k w out loaded a long h = let n : ℕ = next_changed k out loaded in
    turn_on (ltb n (length out)) n w a (λ e. next_end k out loaded h e ∙ long)

pub place_error : (s : Style) (w : Wiring) → style_of w ≡ s → AnswerPlace (after_error s) w
place_error Headed w e = e
place_error Joined3 w e = subst AnswerSets (sym e) tt
place_error Separate3 w e = subst AnswerSets (sym e) tt
place_error Joined4 w e = subst AnswerUpdates (sym e) tt
place_error Separate4 w e = subst AnswerUpdates (sym e) tt
place_error Reduced5 w e = subst AnswerSets (sym e) tt

place_reply : (b : Bool) (s : Style) (w : Wiring) → style_of w ≡ s → tells_error w ≡ b → AnswerPlace (after_reply b s) w
place_reply true s w e is = is
place_reply false s w e is = place_error s w e

place_on : (b : Bool) (n : ℕ) (w : Wiring) → heads_of (style_of w) ≤ n → (b ≡ true → n < block_of w) → AnswerPlace (reply_on b n w) w
place_on true n w from here = (from, here refl)
place_on false n w from here = place_reply (tells_error w) (style_of w) w refl refl

pub replied_place : (k : ℕ) (w : Wiring) (out loaded : List ℕ) → length out ≡ block_of w → heads_of (style_of w) ≤ k
    → AnswerPlace (reply_stage k w out loaded) w
replied_place k w out loaded long from = let n : ℕ = next_changed k out loaded in let h = next_from k out loaded in
    place_on (ltb n (length out)) n w (omega (arith, h, from)) (λ e. subst (λ (m : ℕ). n < m) long (ltb-true n (length out) e))

-- the words that are passed over are those that were loaded
pub mix_loaded : (k : ℕ) (out loaded sent : List ℕ) → loaded ≡ sent → length out ≡ length sent → mix (next_changed k out loaded) out sent ≡ mix k out sent
mix_loaded k out loaded sent e long = ap (λ (l : List ℕ). mix (next_changed k out l) out sent) e ∙ mix_next k out sent long

pub between_error : (s : Style) → IsBetween (after_error s)
between_error Headed = tt
between_error _ = tt

between_reply : (b : Bool) (s : Style) → IsBetween (after_reply b s)
between_reply true s = tt
between_reply false s = between_error s

pub replied_between : (k : ℕ) (w : Wiring) (out loaded : List ℕ) → IsBetween (reply_stage k w out loaded)
replied_between k w out loaded = let n : ℕ = next_changed k out loaded in
    reply_at IsBetween (ltb n (length out)) n w tt (between_reply (tells_error w) (style_of w))

pub told_error : (s : Style) (w : Wiring) (word : ℕ) (e : Bool) → Shows w word e → Told (after_error s) w word e
told_error Headed w word e h = h
told_error _ w word e h = h

told_reply : (b : Bool) (s : Style) (w : Wiring) (word : ℕ) (bad : Bool) → tells_error w ≡ b → Told (after_reply b s) w word (both w.reports bad)
told_reply true s w word bad is = tt
told_reply false s w word bad is = told_error s w word (both w.reports bad) (shows_none (style_of w) w.reports w.error_mask word bad is)

pub replied_told : (k : ℕ) (w : Wiring) (out loaded : List ℕ) (word : ℕ) (bad : Bool) → Told (reply_stage k w out loaded) w word (both w.reports bad)
replied_told k w out loaded word bad = let n : ℕ = next_changed k out loaded in
    reply_at (λ (st : AnswerStage). Told st w word (both w.reports bad)) (ltb n (length out)) n w tt (told_reply (tells_error w) (style_of w) w word bad refl)

module _ (exec : Device) where
  pub settled_error : (s : Style) (y : Answerer) → settle_at exec (after_error s) y ≡ y
  settled_error Headed y = refl
  settled_error _ y = refl

  settled_reply : (b : Bool) (s : Style) (y : Answerer) → settle_at exec (after_reply b s) y ≡ y
  settled_reply true s y = refl
  settled_reply false s y = settled_error s y

  pub replied_settled : (k : ℕ) (w : Wiring) (out loaded : List ℕ) (y : Answerer) → settle_at exec (reply_stage k w out loaded) y ≡ y
  replied_settled k w out loaded y = let n : ℕ = next_changed k out loaded in
      reply_at (λ (st : AnswerStage). settle_at exec st y ≡ y) (ltb n (length out)) n w refl (settled_reply (tells_error w) (style_of w) y)
