-- A run of a machine is no longer than its table says.
use Rattle.std.specs.Prelude.{Option, None}
use Rattle.std.proofs.Common.{◌≡◌, ◌≢◌, ℕ, ◌+◌, ◌-◌, ◌/◌, ◌%◌, ◌<◌, Bool, true, false, eqb, List, [], ◌∷◌, length, drop, refl, sym, ap, ◌∙◌, subst, arith, length-drop}
use Rattle.shmem_header.specs.Spelling.{bytes_of}
use Rattle.shmem_header.proofs.Places.{length-bytes_of}
use Rattle.pcc_steps.specs.declared.wiring.Action.{Action}
use Rattle.pcc_steps.specs.declared.ask.AskStage.{AskStage}
use Rattle.pcc_steps.specs.declared.ask.AskStage.TheVariants.{AskRest, PostBlock, PostHeader, PostUpdateLoad, PostUpdateStore, PostMarkLoad, PostMarkStore, PostBellLoad, PostBellStore, PostLine, LookWord, LookError, LookBlock, LookLine, LookLineStore, LookAckLoad, LookAckStore}
use Rattle.pcc_steps.specs.declared.ask.AskOutcome.{AskOutcome}
use Rattle.pcc_steps.specs.declared.answer.AnswerStage.{AnswerStage}
use Rattle.pcc_steps.specs.declared.answer.AnswerStage.TheVariants.{AnswerRest, TakeLine, TakeAckLoad, TakeAckStore, TakeHeader, TakeBlock, RunDevice, ReplyBlock, ReplyError, ReplyHeader, ReplyUpdateLoad, ReplyUpdateStore, ReplyMarkLoad, ReplyMarkStore, CloseBellLoad, CloseBellStore, CloseLine}
use Rattle.pcc_steps.specs.declared.answer.AnswerOutcome.{AnswerOutcome}
use Rattle.pcc_steps.specs.Wires.{style_of, heads_of, sees_done, acknowledges}
use Rattle.pcc_steps.specs.Runs.{Run, ends, loads, stores, swaps, executes, Within, AnswerEnd}
use Rattle.pcc_steps.specs.Asking.{Ask, has_more, ask_fed_at, ask_told_at, ask_next, ask_fed, ask_told, look_on, look_told, read_on, read_told, block_on, end_told, line_on, line_told, lowered_on}
use Rattle.pcc_steps.specs.Answering.{Answer, answer_fed_at, answer_told_at, answer_next, answer_fed, answer_told, take_on, take_told, served_at, after_update, done_stage, after_close, asks_notify, ran_with}
use Rattle.pcc_steps.specs.Walk.{ask_left, ask_after, answer_left, answer_after, Takes, Gives}
use Rattle.pcc_steps.specs.Laws.{AskRunsWithin, Event, finds, replies, IsAnswerRun, AnswerRunsWithin}
use Rattle.pcc_steps.proofs.AskWalks.{asks_by_table}
use Rattle.pcc_steps.proofs.AnswerWalks.{answer_steps_by_table, executes_by_table}

-- a step leaves one step less
pub one_less : {E : Type 0} (n : ℕ) (r : Run E) (x : Action) (next : ℕ → Run E) → Takes r x next → Within n r → (0 < n) × ((v : ℕ) → Within (n - 1) (next v))
one_less n (ends e) x next t w = absurd t
one_less n (loads p f) x next t w = (w.0, λ v. subst (Within (n - 1)) (sym (t.1 v)) (w.1 v))
one_less n (stores p u r) x next t w = (w.0, λ v. subst (Within (n - 1)) (sym (t.1 v)) w.1)
one_less n (swaps p u f) x next t w = (w.0, λ v. subst (Within (n - 1)) (sym (t.1 v)) (w.1 v))
one_less n (executes code s f) x next t w = absurd t

-- ---- the asking machine

looked : (b : Bool) (v : ℕ) (a : Ask) → (look_on b v a).stage ≢ AskRest → look_told b ≡ None
looked true v a runs = refl
looked false v a runs = absurd (runs refl)

blocked : (b : Bool) (e : Bool) (a : Ask) → (block_on b a).stage ≢ AskRest → end_told b e ≡ None
blocked true e a runs = refl
blocked false e a runs = absurd (runs refl)

read : (b : Bool) (j v : ℕ) (e : Bool) (a : Ask) → (read_on b j v a).stage ≢ AskRest → read_told b a.wiring.notify e ≡ None
read true j v e a runs = refl
read false j v e a runs = blocked a.wiring.notify e _ runs

lined : (b : Bool) (e : Bool) (a : Ask) → (line_on b a).stage ≢ AskRest → line_told b e ≡ None
lined true e a runs = absurd (runs refl)
lined false e a runs = refl

lowered : (b : Bool) (e : Bool) (a : Ask) → (lowered_on b a).stage ≢ AskRest → end_told b e ≡ None
lowered true e a runs = refl
lowered false e a runs = absurd (runs refl)

-- nothing is told where the run goes on
pub untold : (st : AskStage) (a : Ask) (v : ℕ) → (ask_fed_at st a v).stage ≢ AskRest → ask_told_at st a v ≡ None
untold AskRest a v runs = refl
untold (PostBlock j) a v runs = refl
untold PostHeader a v runs = refl
untold PostUpdateLoad a v runs = refl
untold PostUpdateStore a v runs = refl
untold PostMarkLoad a v runs = refl
untold PostMarkStore a v runs = refl
untold PostBellLoad a v runs = refl
untold PostBellStore a v runs = refl
untold PostLine a v runs = absurd (runs refl)
untold LookWord a v runs = looked (sees_done a.wiring v) v a runs
untold LookError a v runs = refl
untold (LookBlock j) a v runs = read (has_more j a.wiring) j v a.error a runs
untold LookLine a v runs = lined (eqb v 0) a.error a runs
untold LookLineStore a v runs = lowered (acknowledges a.wiring) a.error a runs
untold LookAckLoad a v runs = refl
untold LookAckStore a v runs = absurd (runs refl)

pub ask_runs_within : AskRunsWithin
ask_runs_within n a [] w run = omega arith
ask_runs_within n a (v ∷ []) w run = let l = one_less n (ask_left a) (ask_next a) (λ v. ask_after (ask_told a v) (ask_fed a v)) (asks_by_table a run.0 run.1) w in let h : 0 < n = l.0 in omega arith
ask_runs_within n a (v ∷ (u ∷ us)) w run = let l = one_less n (ask_left a) (ask_next a) (λ v. ask_after (ask_told a v) (ask_fed a v)) (asks_by_table a run.0 run.1) w in let h : 0 < n = l.0 in
    let on : Within (n - 1) (ask_left (ask_fed a v)) = subst (λ (told : Option AskOutcome). Within (n - 1) (ask_after told (ask_fed a v))) (untold a.stage a v run.2.1) (l.1 v) in
    let k = ask_runs_within (n - 1) (ask_fed a v) (u ∷ us) on run.2 in omega arith

-- ---- the answering machine

took : (b : Bool) (a : Answer) → (take_on b a).stage ≢ AnswerRest → take_told b ≡ None
took true a runs = absurd (runs refl)
took false a runs = refl

served : (st : AnswerStage) → st ≢ AnswerRest → served_at st ≡ None
served AnswerRest runs = absurd (runs refl)
served _ runs = refl

pub untold' : (st : AnswerStage) (a : Answer) (v : ℕ) → (answer_fed_at st a v).stage ≢ AnswerRest → answer_told_at st a v ≡ None
untold' AnswerRest a v runs = refl
untold' TakeLine a v runs = took (eqb v 0) a runs
untold' TakeAckLoad a v runs = refl
untold' TakeAckStore a v runs = refl
untold' TakeHeader a v runs = refl
untold' (TakeBlock j) a v runs = refl
untold' RunDevice a v runs = refl
untold' (ReplyBlock j) a v runs = refl
untold' ReplyError a v runs = refl
untold' ReplyHeader a v runs = served (done_stage a) runs
untold' ReplyUpdateLoad a v runs = refl
untold' ReplyUpdateStore a v runs = served (after_update (style_of a.wiring) a) runs
untold' ReplyMarkLoad a v runs = refl
untold' ReplyMarkStore a v runs = served (done_stage a) runs
untold' CloseBellLoad a v runs = refl
untold' CloseBellStore a v runs = served (after_close (asks_notify a)) runs
untold' CloseLine a v runs = absurd (runs refl)

-- a device takes no word step
pub none_less : (n : ℕ) (r : Run AnswerEnd) (x : Action) (space : List ℕ) (next : Bool → List ℕ → Run AnswerEnd) → Gives r x space next → Within n r
    → (bad : Bool) (reply : List ℕ) → length reply ≡ length space → Within n (next bad reply)
none_less n (ends e) x space next t w bad reply long = absurd t
none_less n (loads p f) x space next t w bad reply long = absurd t
none_less n (stores p u r) x space next t w bad reply long = absurd t
none_less n (swaps p u f) x space next t w bad reply long = absurd t
none_less n (executes code s f) x space next t w bad reply long = subst (Within n) (sym (t.2 bad reply)) (w bad reply (long ∙ ap (λ (l : List ℕ). length l) t.1))

not_rest : (st : AnswerStage) → st ≡ RunDevice → st ≢ AnswerRest
not_rest RunDevice e f = cc
not_rest _ e f = cc

-- the machine isn't at rest before another event
goes_on : (a : Answer) (e : Event) (es : List Event) → IsAnswerRun a (e ∷ es) → a.stage ≢ AnswerRest
goes_on a (finds v) es run = run.1.0
goes_on a (replies bad reply) es run = not_rest a.stage run.1

room_found : (k room : ℕ) (loaded : List ℕ) → length loaded ≡ k + room / 8 → room % 8 ≡ 0 → length (bytes_of (drop k loaded)) ≡ room
room_found k room loaded e whole = let a = length-bytes_of (drop k loaded) in let d = length-drop k loaded in omega (arith, a, d)

pub answer_runs_within : AnswerRunsWithin
answer_runs_within n a [] w run = omega arith
answer_runs_within n a (finds v ∷ []) w run = let l = one_less n (answer_left a) (answer_next a) (λ v. answer_after (answer_told a v) (answer_fed a v)) (answer_steps_by_table a run.0 run.1) w in let h : 0 < n = l.0 in omega arith
answer_runs_within n a (finds v ∷ (e ∷ es)) w run = let l = one_less n (answer_left a) (answer_next a) (λ v. answer_after (answer_told a v) (answer_fed a v)) (answer_steps_by_table a run.0 run.1) w in let h : 0 < n = l.0 in
    let on : Within (n - 1) (answer_left (answer_fed a v)) = subst (λ (told : Option AnswerOutcome). Within (n - 1) (answer_after told (answer_fed a v))) (untold' a.stage a v (goes_on (answer_fed a v) e es run.2)) (l.1 v) in
    let k = answer_runs_within (n - 1) (answer_fed a v) (e ∷ es) on run.2 in omega (arith, k, h)
answer_runs_within n a (replies bad reply ∷ es) w run = let k : ℕ = heads_of (style_of a.wiring) in let ok = run.0 in
    let long : length reply ≡ length (bytes_of (drop k a.loaded)) = run.2 ∙ sym (room_found k a.wiring.room a.loaded ok.sized.loaded ok.wired.whole) in
    answer_runs_within n (ran_with (record a { space = reply }) bad) es (none_less n (answer_left a) (answer_next a) (bytes_of (drop k a.loaded)) (λ bad reply. answer_left (ran_with (record a { space = reply }) bad)) (executes_by_table a ok run.1) w bad reply long) run.3
