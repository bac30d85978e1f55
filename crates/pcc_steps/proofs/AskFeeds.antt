-- What a step of the asking machine keeps, and to which stage it leads.
use Rattle.std.proofs.Common.{◌≡◌, ◌≢◌, ℕ, ◌+◌, Bool, true, false, eqb, ltb, List, length, drop, refl}
use Rattle.std.specs.Prelude.{Option, Some, None}
use Rattle.pcc_steps.specs.declared.wiring.Style.{Style}
use Rattle.pcc_steps.specs.declared.wiring.Style.TheVariants.{Headed, Joined3, Separate3, Joined4, Separate4, Reduced5}
use Rattle.pcc_steps.specs.declared.ask.AskStage.{AskStage}
use Rattle.pcc_steps.specs.declared.ask.AskStage.TheVariants.{AskRest, PostBlock, PostHeader, PostUpdateLoad, PostUpdateStore, PostMarkLoad, PostMarkStore, PostBellLoad, PostBellStore, PostLine, LookWord, LookError, LookBlock, LookLine, LookLineStore, LookAckLoad, LookAckStore}
use Rattle.pcc_steps.specs.declared.ask.AskOutcome.{AskOutcome}
use Rattle.pcc_steps.specs.declared.ask.AskOutcome.TheVariants.{Posted, Clear, Drained}
use Rattle.shmem_header.specs.Spelling.{bytes_of}
use Rattle.pcc_history.specs.Channel.{Exchange}
use Rattle.pcc_steps.specs.Agree.{done_after}
use Rattle.pcc_steps.specs.Wires.{style_of, heads_of, sees_done, tells_error, acknowledges}
use Rattle.pcc_steps.specs.Carrying.{is_rest, carried_at, carried, ends_run, looks_after, flies_after}
use Rattle.pcc_steps.specs.Changes.{next_changed}
use Rattle.pcc_steps.proofs.PostStages.{post_stage}
use Rattle.pcc_steps.specs.Asking.{Ask, Flies, has_more, ask_fed_at, ask_told_at, after_block, after_update, after_mark, after_bell, after_look, block_stage, look_on, read_on, block_on, line_on, lowered_on, drained, look_told, read_told, end_told, line_told}

pub rest_is : (st : AskStage) → is_rest st ≡ true → st ≡ AskRest
rest_is AskRest e = refl
rest_is (PostBlock j) e = absurd (cc e)
rest_is PostHeader e = absurd (cc e)
rest_is PostUpdateLoad e = absurd (cc e)
rest_is PostUpdateStore e = absurd (cc e)
rest_is PostMarkLoad e = absurd (cc e)
rest_is PostMarkStore e = absurd (cc e)
rest_is PostBellLoad e = absurd (cc e)
rest_is PostBellStore e = absurd (cc e)
rest_is PostLine e = absurd (cc e)
rest_is LookWord e = absurd (cc e)
rest_is LookError e = absurd (cc e)
rest_is (LookBlock j) e = absurd (cc e)
rest_is LookLine e = absurd (cc e)
rest_is LookLineStore e = absurd (cc e)
rest_is LookAckLoad e = absurd (cc e)
rest_is LookAckStore e = absurd (cc e)

pub not_rest : (st : AskStage) → st ≢ AskRest → is_rest st ≡ false
not_rest AskRest n = absurd (n refl)
not_rest (PostBlock j) n = refl
not_rest PostHeader n = refl
not_rest PostUpdateLoad n = refl
not_rest PostUpdateStore n = refl
not_rest PostMarkLoad n = refl
not_rest PostMarkStore n = refl
not_rest PostBellLoad n = refl
not_rest PostBellStore n = refl
not_rest PostLine n = refl
not_rest LookWord n = refl
not_rest LookError n = refl
not_rest (LookBlock j) n = refl
not_rest LookLine n = refl
not_rest LookLineStore n = refl
not_rest LookAckLoad n = refl
not_rest LookAckStore n = refl

-- ---- what a step leaves

-- a command is carried after a step of this outcome
abbrev pub carried_after : Option AskOutcome → Bool → Bool
carried_after None c = c
carried_after (Some Posted) c = true
carried_after (Some Clear) c = c
carried_after (Some (Drained e)) c = false

-- a run that ends was for a command, and one that looked for a command in flight
abbrev pub Sure : Option AskOutcome → Bool → Bool → Type 0
Sure None c f = Unit {0}
Sure (Some Posted) c f = (c ≡ true) × (f ≡ false)
Sure (Some Clear) c f = (c ≡ true) × (f ≡ true)
Sure (Some (Drained e)) c f = (c ≡ true) × (f ≡ true)

-- the space is the one that was drained last
abbrev pub Spaced : Option AskOutcome → List ℕ → Ask → Type 0
Spaced None space b = b.space ≡ space
Spaced (Some Posted) space b = b.space ≡ space
Spaced (Some Clear) space b = b.space ≡ space
Spaced (Some (Drained e)) space b = b.space ≡ bytes_of (drop (heads_of (style_of b.wiring)) b.shown)

pub record Fed (st : AskStage) (a b : Ask) (told : Option AskOutcome) : Type 0 where
  pub wiring : b.wiring ≡ a.wiring
  pub code : b.code ≡ a.code
  pub input : b.input ≡ a.input
  pub budget : b.budget ≡ a.budget
  pub looks : b.looks ≡ looks_after told a.looks
  pub flies : b.in_flight ≡ flies_after told a.in_flight
  pub carried : carried b ≡ carried_after told (carried_at st a.in_flight)
  pub rests : is_rest b.stage ≡ ends_run told
  pub sure : Sure told (carried_at st a.in_flight) a.in_flight
  pub space : Spaced told a.space b

carried_block : (s : Style) (f : Bool) → carried_at (after_block s) f ≡ true
carried_block Headed f = refl
carried_block Joined3 f = refl
carried_block Separate3 f = refl
carried_block Joined4 f = refl
carried_block Separate4 f = refl
carried_block Reduced5 f = refl

goes_block : (s : Style) → is_rest (after_block s) ≡ false
goes_block Headed = refl
goes_block Joined3 = refl
goes_block Separate3 = refl
goes_block Joined4 = refl
goes_block Separate4 = refl
goes_block Reduced5 = refl

carried_update : (s : Style) (f : Bool) → carried_at (after_update s) f ≡ true
carried_update Separate3 f = refl
carried_update Headed f = refl
carried_update Joined3 f = refl
carried_update Joined4 f = refl
carried_update Separate4 f = refl
carried_update Reduced5 f = refl

goes_update : (s : Style) → is_rest (after_update s) ≡ false
goes_update Separate3 = refl
goes_update Headed = refl
goes_update Joined3 = refl
goes_update Joined4 = refl
goes_update Separate4 = refl
goes_update Reduced5 = refl

carried_mark : (s : Style) (f : Bool) → carried_at (after_mark s) f ≡ true
carried_mark Separate3 f = refl
carried_mark Headed f = refl
carried_mark Joined3 f = refl
carried_mark Joined4 f = refl
carried_mark Separate4 f = refl
carried_mark Reduced5 f = refl

goes_mark : (s : Style) → is_rest (after_mark s) ≡ false
goes_mark Separate3 = refl
goes_mark Headed = refl
goes_mark Joined3 = refl
goes_mark Joined4 = refl
goes_mark Separate4 = refl
goes_mark Reduced5 = refl

carried_bell : (s : Style) (f : Bool) → carried_at (after_bell s) f ≡ true
carried_bell Reduced5 f = refl
carried_bell Headed f = refl
carried_bell Joined3 f = refl
carried_bell Separate3 f = refl
carried_bell Joined4 f = refl
carried_bell Separate4 f = refl

goes_bell : (s : Style) → is_rest (after_bell s) ≡ false
goes_bell Reduced5 = refl
goes_bell Headed = refl
goes_bell Joined3 = refl
goes_bell Separate3 = refl
goes_bell Joined4 = refl
goes_bell Separate4 = refl

carried_look : (b f : Bool) → carried_at (after_look b) f ≡ f
carried_look true f = refl
carried_look false f = refl

goes_look : (b : Bool) → is_rest (after_look b) ≡ false
goes_look true = refl
goes_look false = refl

-- ---- one lemma for each conditional

stored : (j k : ℕ) (a : Ask) → Fed (PostBlock j) a (record a { stage = block_stage k a.wiring a.sent a.shown }) None
stored j k a = let n : ℕ = next_changed k a.sent a.shown in let b : Bool = ltb n (length a.sent) in let s : Style = style_of a.wiring in record {
  wiring = refl;
  code = refl;
  input = refl;
  budget = refl;
  looks = refl;
  flies = refl;
  carried = post_stage (λ (st : AskStage). carried_at st a.in_flight ≡ true) b n s refl (carried_block s a.in_flight);
  rests = post_stage (λ (st : AskStage). is_rest st ≡ false) b n s refl (goes_block s);
  sure = tt;
  space = refl;
}

looked : (b : Bool) (a : Ask) (v : ℕ) → a.in_flight ≡ true → Fed LookWord a (look_on b v a) (look_told b)
looked true a v f = record { wiring = refl; code = refl; input = refl; budget = refl; looks = refl; flies = refl; carried = carried_look (tells_error a.wiring) a.in_flight; rests = goes_look (tells_error a.wiring); sure = tt; space = refl }
looked false a v f = record { wiring = refl; code = refl; input = refl; budget = refl; looks = refl; flies = refl; carried = refl; rests = refl; sure = (f, f); space = refl }

drain : (st : AskStage) (a b : Ask) → carried_at st a.in_flight ≡ true → a.in_flight ≡ true → b.wiring ≡ a.wiring → b.code ≡ a.code → b.input ≡ a.input
    → b.budget ≡ a.budget → b.looks ≡ a.looks → b.error ≡ a.error → Fed st a (drained b) (Some (Drained a.error))
drain st a b c f w k i u l e = record { wiring = w; code = k; input = i; budget = u; looks = l; flies = refl; carried = refl; rests = refl; sure = (c, f); space = refl }

read_end : (n : Bool) (j : ℕ) (a b : Ask) → a.in_flight ≡ true → b.in_flight ≡ a.in_flight → b.wiring ≡ a.wiring → b.code ≡ a.code → b.input ≡ a.input
    → b.budget ≡ a.budget → b.looks ≡ a.looks → b.error ≡ a.error → b.space ≡ a.space → Fed (LookBlock j) a (block_on n b) (end_told n a.error)
read_end true j a b f g w k i u l e o = record { wiring = w; code = k; input = i; budget = u; looks = l; flies = g; carried = g; rests = refl; sure = tt; space = o }
read_end false j a b f g w k i u l e o = drain (LookBlock j) a b f f w k i u l e

reads : (m : Bool) (j : ℕ) (a : Ask) (v : ℕ) → a.in_flight ≡ true → Fed (LookBlock j) a (read_on m j v a) (read_told m a.wiring.notify a.error)
reads true j a v f = record { wiring = refl; code = refl; input = refl; budget = refl; looks = refl; flies = refl; carried = refl; rests = refl; sure = tt; space = refl }
reads false j a v f = read_end a.wiring.notify j a (record a { loaded = (read_on true j v a).loaded }) f refl refl refl refl refl refl refl refl

lines : (b : Bool) (a : Ask) → a.in_flight ≡ true → Fed LookLine a (line_on b a) (line_told b a.error)
lines true a f = drain LookLine a a f f refl refl refl refl refl refl
lines false a f = record { wiring = refl; code = refl; input = refl; budget = refl; looks = refl; flies = refl; carried = refl; rests = refl; sure = tt; space = refl }

lowers : (b : Bool) (a : Ask) → a.in_flight ≡ true → Fed LookLineStore a (lowered_on b a) (end_told b a.error)
lowers true a f = record { wiring = refl; code = refl; input = refl; budget = refl; looks = refl; flies = refl; carried = refl; rests = refl; sure = tt; space = refl }
lowers false a f = drain LookLineStore a a f f refl refl refl refl refl refl

pub fed : (st : AskStage) (a : Ask) (v : ℕ) → is_rest st ≡ false → Flies st a.in_flight → Fed st a (ask_fed_at st a v) (ask_told_at st a v)
fed AskRest a v e f = absurd (cc e)
fed (PostBlock j) a v e f = stored j (j + 1) a
fed PostHeader a v e f = record { wiring = refl; code = refl; input = refl; budget = refl; looks = refl; flies = refl; carried = refl; rests = refl; sure = tt; space = refl }
fed PostUpdateLoad a v e f = record { wiring = refl; code = refl; input = refl; budget = refl; looks = refl; flies = refl; carried = refl; rests = refl; sure = tt; space = refl }
fed PostUpdateStore a v e f = record { wiring = refl; code = refl; input = refl; budget = refl; looks = refl; flies = refl; carried = carried_update (style_of a.wiring) a.in_flight; rests = goes_update (style_of a.wiring); sure = tt; space = refl }
fed PostMarkLoad a v e f = record { wiring = refl; code = refl; input = refl; budget = refl; looks = refl; flies = refl; carried = refl; rests = refl; sure = tt; space = refl }
fed PostMarkStore a v e f = record { wiring = refl; code = refl; input = refl; budget = refl; looks = refl; flies = refl; carried = carried_mark (style_of a.wiring) a.in_flight; rests = goes_mark (style_of a.wiring); sure = tt; space = refl }
fed PostBellLoad a v e f = record { wiring = refl; code = refl; input = refl; budget = refl; looks = refl; flies = refl; carried = refl; rests = refl; sure = tt; space = refl }
fed PostBellStore a v e f = record { wiring = refl; code = refl; input = refl; budget = refl; looks = refl; flies = refl; carried = carried_bell (style_of a.wiring) a.in_flight; rests = goes_bell (style_of a.wiring); sure = tt; space = refl }
fed PostLine a v e f = record { wiring = refl; code = refl; input = refl; budget = refl; looks = refl; flies = refl; carried = refl; rests = refl; sure = (refl, f); space = refl }
fed LookWord a v e f = looked (sees_done a.wiring v) a v f
fed LookError a v e f = record { wiring = refl; code = refl; input = refl; budget = refl; looks = refl; flies = refl; carried = refl; rests = refl; sure = tt; space = refl }
fed (LookBlock j) a v e f = reads (has_more j a.wiring) j a v f
fed LookLine a v e f = lines (eqb v 0) a f
fed LookLineStore a v e f = lowers (acknowledges a.wiring) a f
fed LookAckLoad a v e f = record { wiring = refl; code = refl; input = refl; budget = refl; looks = refl; flies = refl; carried = refl; rests = refl; sure = tt; space = refl }
fed LookAckStore a v e f = drain LookAckStore a a f f refl refl refl refl refl refl

spaced : (told : Option AskOutcome) (a b : Ask) (n : ℕ) → Spaced told a.space b → Spaced told a.space (record b { steps = n })
spaced None a b n h = h
spaced (Some Posted) a b n h = h
spaced (Some Clear) a b n h = h
spaced (Some (Drained e)) a b n h = h

pub stepped : (st : AskStage) (a b : Ask) (told : Option AskOutcome) (n : ℕ) → Fed st a b told → Fed st a (record b { steps = n }) told
stepped st a b told n f = record { wiring = f.wiring; code = f.code; input = f.input; budget = f.budget; looks = f.looks; flies = f.flies; carried = f.carried; rests = f.rests; sure = f.sure; space = spaced told a b n f.space }

-- a history doesn't depend on the count of steps
pub done_same : (told : Option AskOutcome) (done : List Exchange) (a : Ask) (n : ℕ) → done_after told done (record a { steps = n }) ≡ done_after told done a
done_same None done a n = refl
done_same (Some Posted) done a n = refl
done_same (Some Clear) done a n = refl
done_same (Some (Drained e)) done a n = refl
