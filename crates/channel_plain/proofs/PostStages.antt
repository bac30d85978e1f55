-- A post that is begun: its first step stores a word of the block that changed, or is the step after the block where none did.
use Rattle.std.proofs.Common.{◌≡◌, ℕ, ◌+◌, ◌<◌, Bool, true, false, ltb, List, length, refl, sym, subst}
use Rattle.std.specs.Prelude.{Option, None}
use Rattle.pcc_steps.specs.declared.wiring.Style.{Style}
use Rattle.pcc_steps.specs.declared.wiring.Style.TheVariants.{Headed, Joined3, Separate3, Joined4, Separate4, Reduced5}
use Rattle.pcc_steps.specs.declared.ask.AskStage.{AskStage}
use Rattle.pcc_steps.specs.declared.ask.AskStage.TheVariants.{AskRest, PostBlock, PostUpdateStore, PostMarkStore, PostBellLoad, PostBellStore}
use Rattle.pcc_steps.specs.Changes.{next_changed}
use Rattle.pcc_steps.specs.Wires.{style_of}
use Rattle.pcc_steps.specs.Asking.{Ask, Flies, PostsLeft, after_block, block_stage, ask_begun, ask_fed_at, ask_told, ask_told_at}
use Rattle.pcc_steps.specs.Carrying.{carried, carried_at, is_rest}
use Rattle.pcc_steps.proofs.PostStages.{post_stage}
use Rattle.channel_core.specs.declared.sent.Sent.{Sent}
use Rattle.channel_plain.specs.declared.trace.Asked.{Asked}
use Rattle.channel_plain.specs.Picks.{PlainState, posting}
use Rattle.channel_plain.specs.Standing.{IsCarried}

-- what holds of the store of each word, and of the stage after the block, holds of the stage of a post that is begun
begun_stage : (P : AskStage → Type 0) (a : Ask) (code : ℕ) (bytes : List ℕ) → ((n : ℕ) → P (PostBlock n)) → ((s : Style) → P (after_block s))
    → P (ask_begun a code bytes).stage
begun_stage P a code bytes h k = let b : Ask = ask_begun a code bytes in let n : ℕ = next_changed 0 b.sent b.shown in
    post_stage P (ltb n (length b.sent)) n (style_of a.wiring) (h n) (k (style_of a.wiring))

block_carries : (s : Style) (f : Bool) → carried_at (after_block s) f ≡ true
block_carries Headed f = refl
block_carries Joined3 f = refl
block_carries Separate3 f = refl
block_carries Joined4 f = refl
block_carries Separate4 f = refl
block_carries Reduced5 f = refl

block_runs : (s : Style) → is_rest (after_block s) ≡ false
block_runs Headed = refl
block_runs Joined3 = refl
block_runs Separate3 = refl
block_runs Joined4 = refl
block_runs Separate4 = refl
block_runs Reduced5 = refl

block_flies : (s : Style) (f : Bool) → f ≡ false → Flies (after_block s) f
block_flies Headed f e = e
block_flies Joined3 f e = e
block_flies Separate3 f e = e
block_flies Joined4 f e = e
block_flies Separate4 f e = e
block_flies Reduced5 f e = e

block_posts : (s : Style) (n : ℕ) → PostsLeft (after_block s) n → n < 4096
block_posts Headed n h = h
block_posts Joined3 n h = h
block_posts Separate3 n h = h
block_posts Joined4 n h = h
block_posts Separate4 n h = h
block_posts Reduced5 n h = h

block_told : (s : Style) (a : Ask) (v : ℕ) → ask_told_at (after_block s) a v ≡ None
block_told Headed a v = refl
block_told Joined3 a v = refl
block_told Separate3 a v = refl
block_told Joined4 a v = refl
block_told Separate4 a v = refl
block_told Reduced5 a v = refl

-- ---- the machine that begins a post

pub begun_carries : (a : Ask) (code : ℕ) (bytes : List ℕ) → carried (ask_begun a code bytes) ≡ true
begun_carries a code bytes = begun_stage (λ (st : AskStage). carried_at st a.in_flight ≡ true) a code bytes (λ n. refl) (λ s. block_carries s a.in_flight)

pub begun_runs : (a : Ask) (code : ℕ) (bytes : List ℕ) → is_rest (ask_begun a code bytes).stage ≡ false
begun_runs a code bytes = begun_stage (λ (st : AskStage). is_rest st ≡ false) a code bytes (λ n. refl) block_runs

pub begun_flies : (a : Ask) (code : ℕ) (bytes : List ℕ) → a.in_flight ≡ false → Flies (ask_begun a code bytes).stage a.in_flight
begun_flies a code bytes free = begun_stage (λ (st : AskStage). Flies st a.in_flight) a code bytes (λ n. free) (λ s. block_flies s a.in_flight free)

-- its first step ends no run
pub begun_told : (a : Ask) (code : ℕ) (bytes : List ℕ) (v : ℕ) → ask_told (ask_begun a code bytes) v ≡ None
begun_told a code bytes v = let b : Ask = ask_begun a code bytes in
    begun_stage (λ (st : AskStage). ask_told_at st b v ≡ None) a code bytes (λ n. refl) (λ s. block_told s b v)

-- it has the command of the call
pub posted_carries : (c : Asked) (r : ℕ) (s : PlainState) → let t : PlainState = posting c r s in IsCarried (carried t.ask) t.calls.sent t.ask.code t.ask.input
posted_carries c r s = let t : PlainState = posting c r s in
    subst (λ (b : Bool). IsCarried b t.calls.sent t.ask.code t.ask.input) (sym (begun_carries s.ask c.code c.bytes)) (refl, refl)

-- ---- its first step

-- the step moves the machine to a stage of the same post, and changes nothing else but the word that was loaded
pub record First (st : AskStage) (a : Ask) (v : ℕ) : Type 0 where
  pub next : AskStage
  pub kept : ℕ
  pub fed : ask_fed_at st a v ≡ record a { stage = next; kept = kept }
  pub posts : (n : ℕ) → PostsLeft next n → n < 4096

first_block : (n : ℕ) (a : Ask) (v : ℕ) → First (PostBlock n) a v
first_block n a v = let m : ℕ = next_changed (n + 1) a.sent a.shown in record {
  next = block_stage (n + 1) a.wiring a.sent a.shown;
  kept = a.kept;
  fed = refl;
  posts = λ k. post_stage (λ (st : AskStage). PostsLeft st k → k < 4096) (ltb m (length a.sent)) m (style_of a.wiring) (λ h. h) (block_posts (style_of a.wiring) k);
}

first_after : (s : Style) (a : Ask) (v : ℕ) → First (after_block s) a v
first_after Headed a v = record { next = PostBellLoad; kept = a.kept; fed = refl; posts = λ n h. h }
first_after Joined3 a v = record { next = PostUpdateStore; kept = v; fed = refl; posts = λ n h. h }
first_after Separate3 a v = record { next = PostUpdateStore; kept = v; fed = refl; posts = λ n h. h }
first_after Joined4 a v = record { next = PostMarkStore; kept = v; fed = refl; posts = λ n h. h }
first_after Separate4 a v = record { next = PostMarkStore; kept = v; fed = refl; posts = λ n h. h }
first_after Reduced5 a v = record { next = PostBellStore; kept = v; fed = refl; posts = λ n h. h }

pub begun_first : (a : Ask) (code : ℕ) (bytes : List ℕ) (v : ℕ) → let b : Ask = ask_begun a code bytes in First b.stage b v
begun_first a code bytes v = let b : Ask = ask_begun a code bytes in
    begun_stage (λ (st : AskStage). First st b v) a code bytes (λ n. first_block n b v) (λ s. first_after s b v)
