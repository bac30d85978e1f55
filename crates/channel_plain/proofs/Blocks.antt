-- The words of the block that the asking machine has stored, and of the one that it has loaded, stay with each step that drains nothing.
use Rattle.std.proofs.Common.{◌≡◌, ℕ, ◌/◌, Bool, true, false, eqb, refl, ap, ◌∙◌, arith}
use Rattle.std.specs.Prelude.{Option, Some, None}
use Rattle.shmem_header.specs.Spelling.{bytes_of}
use Rattle.shmem_header.proofs.Places.{bytes_of-words_of}
use Rattle.pcc_steps.specs.declared.ask.AskStage.{AskStage}
use Rattle.pcc_steps.specs.declared.ask.AskStage.TheVariants.{AskRest, PostBlock, PostHeader, PostUpdateLoad, PostUpdateStore, PostMarkLoad, PostMarkStore, PostBellLoad, PostBellStore, PostLine, LookWord, LookError, LookBlock, LookLine, LookLineStore, LookAckLoad, LookAckStore}
use Rattle.pcc_steps.specs.declared.ask.AskOutcome.{AskOutcome}
use Rattle.pcc_steps.specs.declared.ask.AskOutcome.TheVariants.{Posted, Clear, Drained}
use Rattle.pcc_steps.specs.Wires.{sees_done, acknowledges}
use Rattle.pcc_steps.specs.Agree.{Spells}
use Rattle.pcc_steps.specs.Asking.{Ask, AskOk, has_more, ask_fed_at, ask_told_at, look_on, read_on, block_on, line_on, lowered_on, look_told, read_told, end_told, line_told}
use Rattle.channel_plain.specs.WordRuns.{replied}

abbrev pub BlocksAfter : Option AskOutcome → Ask → Ask → Type 0
BlocksAfter None a b = (b.sent ≡ a.sent) × (b.shown ≡ a.shown)
BlocksAfter (Some Posted) a b = (b.sent ≡ a.sent) × (b.shown ≡ a.shown)
BlocksAfter (Some Clear) a b = (b.sent ≡ a.sent) × (b.shown ≡ a.shown)
BlocksAfter (Some (Drained e)) a b = Unit {0}

looked : (b : Bool) (v : ℕ) (a : Ask) → BlocksAfter (look_told b) a (look_on b v a)
looked true v a = (refl, refl)
looked false v a = (refl, refl)

read_end : (n e : Bool) (a b : Ask) → b.sent ≡ a.sent → b.shown ≡ a.shown → BlocksAfter (end_told n e) a (block_on n b)
read_end true e a b s t = (s, t)
read_end false e a b s t = tt

reads : (m : Bool) (j v : ℕ) (a : Ask) → BlocksAfter (read_told m a.wiring.notify a.error) a (read_on m j v a)
reads true j v a = (refl, refl)
reads false j v a = read_end a.wiring.notify a.error a (record a { loaded = (read_on true j v a).loaded }) refl refl

lines : (b : Bool) (a : Ask) → BlocksAfter (line_told b a.error) a (line_on b a)
lines true a = tt
lines false a = (refl, refl)

lowers : (b : Bool) (a : Ask) → BlocksAfter (end_told b a.error) a (lowered_on b a)
lowers true a = (refl, refl)
lowers false a = tt

pub blocks_kept : (st : AskStage) (a : Ask) (v : ℕ) → BlocksAfter (ask_told_at st a v) a (ask_fed_at st a v)
blocks_kept AskRest a v = (refl, refl)
blocks_kept (PostBlock j) a v = (refl, refl)
blocks_kept PostHeader a v = (refl, refl)
blocks_kept PostUpdateLoad a v = (refl, refl)
blocks_kept PostUpdateStore a v = (refl, refl)
blocks_kept PostMarkLoad a v = (refl, refl)
blocks_kept PostMarkStore a v = (refl, refl)
blocks_kept PostBellLoad a v = (refl, refl)
blocks_kept PostBellStore a v = (refl, refl)
blocks_kept PostLine a v = (refl, refl)
blocks_kept LookWord a v = looked (sees_done a.wiring v) v a
blocks_kept LookError a v = (refl, refl)
blocks_kept (LookBlock j) a v = reads (has_more j a.wiring) j v a
blocks_kept LookLine a v = lines (eqb v 0) a
blocks_kept LookLineStore a v = lowers (acknowledges a.wiring) a
blocks_kept LookAckLoad a v = (refl, refl)
blocks_kept LookAckStore a v = tt

pub blocks_stepped : (told : Option AskOutcome) (a b : Ask) (n : ℕ) → BlocksAfter told a b → BlocksAfter told a (record b { steps = n })
blocks_stepped None a b n h = h
blocks_stepped (Some Posted) a b n h = h
blocks_stepped (Some Clear) a b n h = h
blocks_stepped (Some (Drained e)) a b n h = tt

-- the space of the block that was loaded last is the one that was drained last
pub shown_space : (a : Ask) → AskOk a → Spells a.wiring a.shown a.space → replied a.wiring a.shown ≡ a.space
shown_space a ok h = ap bytes_of h.words ∙ bytes_of-words_of (a.wiring.room / 8) a.space (let l = ok.sized.space in let m = ok.wired.whole in omega (arith, l, m)) h.fits
