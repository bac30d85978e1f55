-- A word step keeps the wiring, and the count of steps until it is counted.
use Rattle.std.proofs.Common.{◌≡◌, ℕ, Bool, true, false, eqb, refl, ap}
use Rattle.pcc_steps.specs.declared.wiring.Wiring.{Wiring}
use Rattle.pcc_steps.specs.declared.ask.AskStage.{AskStage}
use Rattle.pcc_steps.specs.declared.ask.AskStage.TheVariants.{LookWord, LookBlock, LookLine, LookLineStore}
use Rattle.pcc_steps.specs.declared.answer.AnswerStage.{AnswerStage}
use Rattle.pcc_steps.specs.declared.answer.AnswerStage.TheVariants.{TakeLine, TakeBlock}
use Rattle.pcc_steps.specs.Wires.{sees_done, acknowledges}
use Rattle.pcc_steps.specs.Asking.{Ask, has_more, ask_fed_at, look_on, block_on, read_on, line_on, lowered_on}
use Rattle.pcc_steps.specs.Answering.{Answer, answer_fed_at, take_on, load_on}

-- ---- the asking machine

-- what no step changes by itself
abbrev pub fixed : Ask → Wiring × ℕ
fixed a = (a.wiring, a.steps)

looked : (b : Bool) (v : ℕ) (a : Ask) → fixed (look_on b v a) ≡ fixed a
looked true v a = refl
looked false v a = refl

blocked : (b : Bool) (a : Ask) → fixed (block_on b a) ≡ fixed a
blocked true a = refl
blocked false a = refl

read : (b : Bool) (j v : ℕ) (a : Ask) → fixed (read_on b j v a) ≡ fixed a
read true j v a = refl
read false j v a = blocked a.wiring.notify _

lined : (b : Bool) (a : Ask) → fixed (line_on b a) ≡ fixed a
lined true a = refl
lined false a = refl

lowered : (b : Bool) (a : Ask) → fixed (lowered_on b a) ≡ fixed a
lowered true a = refl
lowered false a = refl

pub ask_fixed : (st : AskStage) (a : Ask) (v : ℕ) → fixed (ask_fed_at st a v) ≡ fixed a
ask_fixed LookWord a v = looked (sees_done a.wiring v) v a
ask_fixed (LookBlock j) a v = read (has_more j a.wiring) j v a
ask_fixed LookLine a v = lined (eqb v 0) a
ask_fixed LookLineStore a v = lowered (acknowledges a.wiring) a
ask_fixed _ a v = refl

pub ask_wired : (st : AskStage) (a : Ask) (v : ℕ) → (ask_fed_at st a v).wiring ≡ a.wiring
ask_wired st a v = ap (λ (p : Wiring × ℕ). p.0) (ask_fixed st a v)

-- ---- the answering machine

abbrev pub fixed' : Answer → Wiring × ℕ
fixed' a = (a.wiring, a.steps)

took : (b : Bool) (a : Answer) → fixed' (take_on b a) ≡ fixed' a
took true a = refl
took false a = refl

loaded : (b : Bool) (j v : ℕ) (a : Answer) → fixed' (load_on b j v a) ≡ fixed' a
loaded true j v a = refl
loaded false j v a = refl

pub answer_fixed : (st : AnswerStage) (a : Answer) (v : ℕ) → fixed' (answer_fed_at st a v) ≡ fixed' a
answer_fixed TakeLine a v = took (eqb v 0) a
answer_fixed (TakeBlock j) a v = loaded (has_more j a.wiring) j v a
answer_fixed _ a v = refl

pub answer_wired : (st : AnswerStage) (a : Answer) (v : ℕ) → (answer_fed_at st a v).wiring ≡ a.wiring
answer_wired st a v = ap (λ (p : Wiring × ℕ). p.0) (answer_fixed st a v)
