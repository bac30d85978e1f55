-- Where runs end, and how their steps are counted.
use Rattle.std.specs.Prelude.{Option, None, cond, ltb}
use Rattle.std.proofs.Common.{◌≡◌, ◌≢◌, ℕ, ◌+◌, ◌-◌, ◌^◌, ◌<◌, ◌≤◌, Bool, true, false, eqb, List, [], ◌∷◌, length, refl, ap, subst, arith}
use Rattle.pcc_steps.specs.declared.wiring.Wiring.{Wiring}
use Rattle.pcc_steps.specs.Changes.{next_changed}
use borrow.Author.Tests.{ltb-true, ltb-false}
use Rattle.pcc_steps.specs.declared.wiring.Style.{Style}
use Rattle.pcc_steps.specs.declared.wiring.Style.TheVariants.{Headed, Joined3, Separate3, Joined4, Separate4, Reduced5}
use Rattle.pcc_steps.specs.declared.ask.AskStage.{AskStage}
use Rattle.pcc_steps.specs.declared.ask.AskStage.TheVariants.{AskRest, PostBlock, PostHeader, PostUpdateLoad, PostUpdateStore, PostMarkLoad, PostMarkStore, PostBellLoad, PostBellStore, PostLine, LookWord, LookError, LookBlock, LookLine, LookLineStore, LookAckLoad, LookAckStore}
use Rattle.pcc_steps.specs.declared.ask.AskOutcome.{AskOutcome}
use Rattle.pcc_steps.specs.declared.answer.AnswerStage.{AnswerStage}
use Rattle.pcc_steps.specs.declared.answer.AnswerStage.TheVariants.{AnswerRest, TakeLine, TakeAckLoad, TakeAckStore, TakeHeader, TakeBlock, RunDevice, ReplyBlock, ReplyError, ReplyHeader, ReplyUpdateLoad, ReplyUpdateStore, ReplyMarkLoad, ReplyMarkStore, CloseBellLoad, CloseBellStore, CloseLine}
use Rattle.pcc_steps.specs.Wires.{style_of, sees_done, tells_error, acknowledges, four_by}
use Rattle.pcc_steps.specs.Runs.{Within}
use Rattle.pcc_steps.specs.Walk.{ask_left, ask_after}
use Rattle.pcc_steps.specs.Asking.{Ask, has_more, ask_fed_at, ask_told_at, ask_next, ask_fed, ask_told, rose, after_block, after_update, after_mark, after_bell, after_look, look_on, look_told, read_on, read_told, block_on, end_told, line_on, line_told, lowered_on, post_on}
use Rattle.pcc_steps.specs.Answering.{Answer, answer_fed_at, answer_told_at, answer_fed, take_on, take_told, load_on, reply_on, served_at, after_ack, after_take, after_error, after_reply, after_close, after_update as updated_stage, done_stage, asks_notify, ran_with}
use Rattle.pcc_steps.specs.Laws.{AskTellsEnds, AnswerTellsEnds, AskStepsCount, AnswerStepsCount, CountRises, ask_ran, AskCountWithin, AskStepWithin, Event, finds, replies, answer_came, word_steps, AnswerCountWithin}
use Rattle.pcc_steps.proofs.AskWalks.{asks_by_table}
use Rattle.pcc_steps.proofs.Wired.{ask_fixed, answer_fixed}
use Rattle.pcc_steps.proofs.Lengths.{one_less, untold, untold', ask_runs_within, answer_runs_within}

-- ---- the asking machine: where nothing is told, the run goes on

block_runs : (s : Style) → after_block s ≢ AskRest
block_runs Headed e = cc
block_runs Joined3 e = cc
block_runs Separate3 e = cc
block_runs Joined4 e = cc
block_runs Separate4 e = cc
block_runs Reduced5 e = cc

update_runs : (s : Style) → after_update s ≢ AskRest
update_runs Separate3 e = cc
update_runs _ e = cc

mark_runs : (s : Style) → after_mark s ≢ AskRest
mark_runs Separate3 e = cc
mark_runs _ e = cc

bell_runs : (s : Style) → after_bell s ≢ AskRest
bell_runs Reduced5 e = cc
bell_runs _ e = cc

look_runs : (b : Bool) → after_look b ≢ AskRest
look_runs true e = cc
look_runs false e = cc

stored : (b : Bool) (n : ℕ) (s : Style) → post_on b n s ≢ AskRest
stored true n s e = cc
stored false n s e = block_runs s e

looked : (b : Bool) (v : ℕ) (a : Ask) → look_told b ≡ None → (look_on b v a).stage ≢ AskRest
looked true v a n e = look_runs (tells_error a.wiring) e
looked false v a n e = cc

blocked : (b : Bool) (e : Bool) (a : Ask) → end_told b e ≡ None → (block_on b a).stage ≢ AskRest
blocked true e a n r = cc
blocked false e a n r = cc

read : (b : Bool) (j v : ℕ) (a : Ask) → read_told b a.wiring.notify a.error ≡ None → (read_on b j v a).stage ≢ AskRest
read true j v a n r = cc
read false j v a n r = blocked a.wiring.notify a.error _ n r

lined : (b : Bool) (e : Bool) (a : Ask) → line_told b e ≡ None → (line_on b a).stage ≢ AskRest
lined true e a n r = cc
lined false e a n r = cc

lowered : (b : Bool) (e : Bool) (a : Ask) → end_told b e ≡ None → (lowered_on b a).stage ≢ AskRest
lowered true e a n r = cc
lowered false e a n r = cc

goes_on : (st : AskStage) (a : Ask) (v : ℕ) → st ≢ AskRest → ask_told_at st a v ≡ None → (ask_fed_at st a v).stage ≢ AskRest
goes_on AskRest a v runs n = absurd (runs refl)
goes_on (PostBlock j) a v runs n = let m : ℕ = next_changed (j + 1) a.sent a.shown in stored (ltb m (length a.sent)) m (style_of a.wiring)
goes_on PostHeader a v runs n = λ e. cc
goes_on PostUpdateLoad a v runs n = λ e. cc
goes_on PostUpdateStore a v runs n = update_runs (style_of a.wiring)
goes_on PostMarkLoad a v runs n = λ e. cc
goes_on PostMarkStore a v runs n = mark_runs (style_of a.wiring)
goes_on PostBellLoad a v runs n = λ e. cc
goes_on PostBellStore a v runs n = bell_runs (style_of a.wiring)
goes_on PostLine a v runs n = λ e. cc
goes_on LookWord a v runs n = looked (sees_done a.wiring v) v a n
goes_on LookError a v runs n = λ e. cc
goes_on (LookBlock j) a v runs n = read (has_more j a.wiring) j v a n
goes_on LookLine a v runs n = lined (eqb v 0) a.error a n
goes_on LookLineStore a v runs n = lowered (acknowledges a.wiring) a.error a n
goes_on LookAckLoad a v runs n = λ e. cc
goes_on LookAckStore a v runs n = λ e. cc

pub ask_tells_ends : AskTellsEnds
ask_tells_ends a v ok runs = (goes_on a.stage a v runs, untold a.stage a v)

-- ---- the answering machine

ack_runs : (s : Style) → after_ack s ≢ AnswerRest
ack_runs Headed e = cc
ack_runs _ e = cc

took_runs : (b : Bool) (s : Style) → after_take b s ≢ AnswerRest
took_runs true s e = cc
took_runs false s e = ack_runs s e

took : (b : Bool) (a : Answer) → take_told b ≡ None → (take_on b a).stage ≢ AnswerRest
took true a n e = cc
took false a n e = took_runs (four_by (style_of a.wiring) a.wiring.has_ack) (style_of a.wiring) e

loaded : (b : Bool) (j v : ℕ) (a : Answer) → (load_on b j v a).stage ≢ AnswerRest
loaded true j v a e = cc
loaded false j v a e = cc

error_runs : (s : Style) → after_error s ≢ AnswerRest
error_runs Headed e = cc
error_runs Joined4 e = cc
error_runs Separate4 e = cc
error_runs _ e = cc

reply_runs : (b : Bool) (s : Style) → after_reply b s ≢ AnswerRest
reply_runs true s e = cc
reply_runs false s e = error_runs s e

replied : (b : Bool) (n : ℕ) (w : Wiring) → reply_on b n w ≢ AnswerRest
replied true n w e = cc
replied false n w e = reply_runs (tells_error w) (style_of w) e

served : (st : AnswerStage) → served_at st ≡ None → st ≢ AnswerRest
served AnswerRest n e = cc
served _ n e = cc

goes_on' : (st : AnswerStage) (a : Answer) (v : ℕ) → (st ≢ AnswerRest) × (st ≢ RunDevice) → answer_told_at st a v ≡ None
    → (answer_fed_at st a v).stage ≢ AnswerRest
goes_on' AnswerRest a v runs n = absurd (runs.0 refl)
goes_on' TakeLine a v runs n = took (eqb v 0) a n
goes_on' TakeAckLoad a v runs n = λ e. cc
goes_on' TakeAckStore a v runs n = ack_runs (style_of a.wiring)
goes_on' TakeHeader a v runs n = λ e. cc
goes_on' (TakeBlock j) a v runs n = loaded (has_more j a.wiring) j v a
goes_on' RunDevice a v runs n = absurd (runs.1 refl)
goes_on' (ReplyBlock j) a v runs n = let m : ℕ = next_changed (j + 1) a.out a.loaded in replied (ltb m (length a.out)) m a.wiring
goes_on' ReplyError a v runs n = error_runs (style_of a.wiring)
goes_on' ReplyHeader a v runs n = served (done_stage a) n
goes_on' ReplyUpdateLoad a v runs n = λ e. cc
goes_on' ReplyUpdateStore a v runs n = served (updated_stage (style_of a.wiring) a) n
goes_on' ReplyMarkLoad a v runs n = λ e. cc
goes_on' ReplyMarkStore a v runs n = served (done_stage a) n
goes_on' CloseBellLoad a v runs n = λ e. cc
goes_on' CloseBellStore a v runs n = served (after_close (asks_notify a)) n
goes_on' CloseLine a v runs n = λ e. cc

pub answer_tells_ends : AnswerTellsEnds
answer_tells_ends a v ok runs = (goes_on' a.stage a v runs, untold' a.stage a v)

-- ---- steps are counted

pub ask_steps_count : AskStepsCount
ask_steps_count a v = ap (λ (p : _ × ℕ). rose p.1) (ask_fixed a.stage a v)

pub answer_steps_count : AnswerStepsCount
answer_steps_count a v = ap (λ (p : _ × ℕ). rose p.1) (answer_fixed a.stage a v)

rises_by : (b : Bool) (n : ℕ) → ltb n (2 ^ 64 - 1) ≡ b → let r : ℕ = cond b (n + 1) n in (n < 2 ^ 64 - 1 → r ≡ n + 1) × (2 ^ 64 - 1 ≤ n → r ≡ n)
rises_by true n e = let h = ltb-true n (2 ^ 64 - 1) e in (λ l. refl, λ q. omega (arith, h, q))
rises_by false n e = let h = ltb-false n (2 ^ 64 - 1) e in (λ l. omega (arith, h, l), λ q. refl)

pub count_rises : CountRises
count_rises n = rises_by (ltb n (2 ^ 64 - 1)) n refl

one_more : (b : Bool) (n : ℕ) → cond b (n + 1) n ≤ n + 1
one_more true n = omega arith
one_more false n = omega arith

pub rose_most : (n : ℕ) → rose n ≤ n + 1
rose_most n = one_more (ltb n (2 ^ 64 - 1)) n

counted : (a : Ask) (vs : List ℕ) → (ask_ran a vs).steps ≤ a.steps + length vs
counted a [] = omega arith
counted a (v ∷ vs) = let h = counted (ask_fed a v) vs in let e = ask_steps_count a v in let r = rose_most a.steps in omega (arith, h, e, r)

pub ask_count_within : AskCountWithin
ask_count_within n a vs w run = let h = counted a vs in let l = ask_runs_within n a vs w run in omega (arith, h, l)

counted' : (a : Answer) (es : List Event) → (answer_came a es).steps ≤ a.steps + word_steps es
counted' a [] = omega arith
counted' a (finds v ∷ es) = let h = counted' (answer_fed a v) es in let e = answer_steps_count a v in let r = rose_most a.steps in omega (arith, h, e, r)
counted' a (replies bad reply ∷ es) = counted' (ran_with (record a { space = reply }) bad) es

pub answer_count_within : AnswerCountWithin
answer_count_within n a es w run = let h = counted' a es in let l = answer_runs_within n a es w run in omega (arith, h, l)

pub ask_step_within : AskStepWithin
ask_step_within n a v ok runs w = let l = one_less n (ask_left a) (ask_next a) (λ v. ask_after (ask_told a v) (ask_fed a v)) (asks_by_table a ok runs) w in
    (l.0, λ e. subst (λ (told : Option AskOutcome). Within (n - 1) (ask_after told (ask_fed a v))) e (l.1 v))
