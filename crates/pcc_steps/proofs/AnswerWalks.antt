-- The answering machine walks its table.
use Rattle.std.specs.Prelude.{Option, None, Some}
use Rattle.std.proofs.Common.{◌≡◌, ◌≢◌, ℕ, suc, ◌+◌, ◌-◌, ◌<◌, ◌≤◌, Bool, true, false, eqb, ltb, ◌==◌, if◌then◌else◌, List, [], ◌∷◌, ◌++◌, length, set, take, drop, refl, sym, ap, ◌∙◌, subst, arith, length-set}
use Rattle.std.specs.Int.RustNames.{bit_or}
use Rattle.std.proofs.lemmas.List.{take_more_set}
use borrow.Author.Tests.{ltb-false}
use Rattle.shmem_header.specs.Spelling.{words_of, bytes_of}
use Rattle.pcc_steps.specs.declared.wiring.Wiring.{Wiring}
use Rattle.pcc_steps.specs.declared.wiring.Style.{Style}
use Rattle.pcc_steps.specs.declared.wiring.Style.TheVariants.{Headed, Joined3, Separate3, Joined4, Separate4, Reduced5}
use Rattle.pcc_steps.specs.declared.wiring.Action.{Action}
use Rattle.pcc_steps.specs.declared.wiring.Action.TheVariants.{Load, Execute}
use Rattle.pcc_steps.specs.declared.answer.AnswerStage.{AnswerStage}
use Rattle.pcc_steps.specs.declared.answer.AnswerStage.TheVariants.{AnswerRest, TakeLine, TakeAckLoad, TakeAckStore, TakeHeader, TakeBlock, RunDevice, ReplyBlock, ReplyError, ReplyHeader, ReplyUpdateLoad, ReplyUpdateStore, ReplyMarkLoad, ReplyMarkStore, CloseBellLoad, CloseBellStore, CloseLine}
use Rattle.pcc_steps.specs.declared.answer.AnswerOutcome.{AnswerOutcome}
use Rattle.pcc_steps.specs.declared.answer.AnswerOutcome.TheVariants.{Idle, Served}
use Rattle.pcc_steps.specs.Changes.{next_changed}
use Rattle.pcc_steps.specs.Wires.{style_of, heads_of, block_of, tells_error, four_by, masked_by, update_place}
use Rattle.pcc_steps.specs.Runs.{Run, ends, stores, swaps, store_changed, load_words, masked_write, AnswerStep, acknowledges_bell, takes_header, takes_block, executes_command, replies_space, replies_error, replies_status, replies_completion, rings_bell, raises_interrupt, only, taking_steps, completing_steps, answer_table, answer_steps, answering, AnswerEnd, finds_none, serves}
use Rattle.pcc_steps.specs.Asking.{has_more, rose}
use Rattle.pcc_steps.specs.Answering.{Answer, AnswerOk, AnswerUpdates, AnswerSets, answer_next_at, answer_fed_at, answer_told_at, answer_stepped, answer_code, take_on, load_on, reply_on, take_told, served_at, after_ack, after_take, after_error, after_reply, after_close, after_done, update_stage, asks_notify, ran_with}
use Rattle.pcc_steps.specs.Walk.{answer_number, from, behind, got, answer_left_by, answer_left, answer_after, Takes, Gives}
use Rattle.pcc_steps.specs.Laws.{AnswersByTable, AnswerStepsByTable, ExecutesByTable}
use Rattle.pcc_steps.proofs.Spaces.{behind_front}
use Rattle.pcc_steps.proofs.Lists.{all_taken, next_place}
use Rattle.pcc_steps.proofs.Changes.{Storing, next_stored}
use Rattle.pcc_steps.proofs.AskWalks.{takes_so}

-- ---- places in the table

-- what is left once the command is complete
abbrev pub closing : Bool → List AnswerStep
closing rings = only rings rings_bell (raises_interrupt ∷ [])

-- what follows the reply's words
abbrev pub replied : Style → Bool → Bool → List AnswerStep
replied s tells rings = only tells replies_error (completing_steps s (closing rings))

skip : (b : Bool) (x : AnswerStep) (l : List AnswerStep) (n : ℕ) → (answer_number x == n) ≡ false → from answer_number n (only b x l) ≡ from answer_number n l
skip true x l n h = ap (λ (c : Bool). if c then x ∷ l else from answer_number n l) h
skip false x l n h = refl

past_taking : (s : Style) (r : List AnswerStep) (n : ℕ) → (2 == n) ≡ false → (3 == n) ≡ false → from answer_number n (taking_steps s r) ≡ from answer_number n r
past_taking Headed r n h k = ap (λ (c : Bool). if c then takes_header ∷ takes_block ∷ r else from answer_number n (takes_block ∷ r)) h ∙ ap (λ (c : Bool). if c then takes_block ∷ r else from answer_number n r) k
past_taking _ r n h k = ap (λ (c : Bool). if c then takes_block ∷ r else from answer_number n r) k

from_two : (ack tells rings : Bool)
    → from answer_number 2 (answer_table Headed ack tells rings) ≡ takes_header ∷ takes_block ∷ executes_command ∷ replies_space ∷ replied Headed tells rings
from_two ack tells rings = skip ack acknowledges_bell (taking_steps Headed (executes_command ∷ replies_space ∷ replied Headed tells rings)) 2 refl

block_first : (s : Style) (r : List AnswerStep) → from answer_number 3 (taking_steps s r) ≡ takes_block ∷ r
block_first Headed r = refl
block_first _ r = refl

from_three : (s : Style) (ack tells rings : Bool)
    → from answer_number 3 (answer_table s ack tells rings) ≡ takes_block ∷ executes_command ∷ replies_space ∷ replied s tells rings
from_three s ack tells rings = let r : List AnswerStep = executes_command ∷ replies_space ∷ replied s tells rings in skip ack acknowledges_bell (taking_steps s r) 3 refl ∙ block_first s r

from_four : (s : Style) (ack tells rings : Bool)
    → from answer_number 4 (answer_table s ack tells rings) ≡ executes_command ∷ replies_space ∷ replied s tells rings
from_four s ack tells rings = let r : List AnswerStep = executes_command ∷ replies_space ∷ replied s tells rings in skip ack acknowledges_bell (taking_steps s r) 4 refl ∙ past_taking s r 4 refl refl

from_five : (s : Style) (ack tells rings : Bool) → from answer_number 5 (answer_table s ack tells rings) ≡ replies_space ∷ replied s tells rings
from_five s ack tells rings = let r : List AnswerStep = executes_command ∷ replies_space ∷ replied s tells rings in skip ack acknowledges_bell (taking_steps s r) 5 refl ∙ past_taking s r 5 refl refl

from_six : (s : Style) (ack tells rings : Bool) → tells ≡ true → from answer_number 6 (answer_table s ack tells rings) ≡ replied s tells rings
from_six s ack true rings e = let r : List AnswerStep = executes_command ∷ replies_space ∷ replied s true rings in skip ack acknowledges_bell (taking_steps s r) 6 refl ∙ past_taking s r 6 refl refl
from_six s ack false rings e = cc

from_seven : (ack tells rings : Bool) → from answer_number 7 (answer_table Headed ack tells rings) ≡ replies_status ∷ closing rings
from_seven ack tells rings = let r : List AnswerStep = executes_command ∷ replies_space ∷ replied Headed tells rings in skip ack acknowledges_bell (taking_steps Headed r) 7 refl ∙ (past_taking Headed r 7 refl refl ∙ skip tells replies_error (completing_steps Headed (closing rings)) 7 refl)

from_eight : (s : Style) (ack tells rings : Bool) → AnswerUpdates s → from answer_number 8 (answer_table s ack tells rings) ≡ completing_steps s (closing rings)
from_eight Headed ack tells rings u = absurd u
from_eight Joined3 ack tells rings u = absurd u
from_eight Separate3 ack tells rings u = absurd u
from_eight Joined4 ack tells rings u = let r : List AnswerStep = executes_command ∷ replies_space ∷ replied Joined4 tells rings in skip ack acknowledges_bell (taking_steps Joined4 r) 8 refl ∙ (past_taking Joined4 r 8 refl refl ∙ skip tells replies_error (completing_steps Joined4 (closing rings)) 8 refl)
from_eight Separate4 ack tells rings u = let r : List AnswerStep = executes_command ∷ replies_space ∷ replied Separate4 tells rings in skip ack acknowledges_bell (taking_steps Separate4 r) 8 refl ∙ (past_taking Separate4 r 8 refl refl ∙ skip tells replies_error (completing_steps Separate4 (closing rings)) 8 refl)
from_eight Reduced5 ack tells rings u = absurd u

mark_first : (s : Style) (r : List AnswerStep) → AnswerSets s → from answer_number 9 (completing_steps s r) ≡ replies_completion ∷ r
mark_first Headed r u = absurd u
mark_first Joined4 r u = absurd u
mark_first Separate4 r u = refl
mark_first _ r u = refl

from_nine : (s : Style) (ack tells rings : Bool) → AnswerSets s → from answer_number 9 (answer_table s ack tells rings) ≡ replies_completion ∷ closing rings
from_nine s ack tells rings u = let r : List AnswerStep = executes_command ∷ replies_space ∷ replied s tells rings in skip ack acknowledges_bell (taking_steps s r) 9 refl ∙ (past_taking s r 9 refl refl ∙ (skip tells replies_error (completing_steps s (closing rings)) 9 refl ∙ mark_first s (closing rings) u))

bell_first : (s : Style) (r : List AnswerStep) → from answer_number 10 (completing_steps s r) ≡ from answer_number 10 r
bell_first Headed r = refl
bell_first Joined4 r = refl
bell_first Separate4 r = refl
bell_first _ r = refl

from_ten : (s : Style) (ack tells rings : Bool) → rings ≡ true → from answer_number 10 (answer_table s ack tells rings) ≡ closing rings
from_ten s ack tells true e = let r : List AnswerStep = executes_command ∷ replies_space ∷ replied s tells true in skip ack acknowledges_bell (taking_steps s r) 10 refl ∙ (past_taking s r 10 refl refl ∙ (skip tells replies_error (completing_steps s (closing true)) 10 refl ∙ bell_first s (closing true)))
from_ten s ack tells false e = cc

-- ---- the stage after a step is the next step of the table

zero_less : (n : ℕ) → n - 0 ≡ n
zero_less n = omega arith

-- the block is loaded from its first word on
block_starts : (s : Style) (ack tells rings : Bool) (a : Answer)
    → let t : List AnswerStep = answer_table s ack tells rings in answer_left_by t (TakeBlock 0) a ≡ answering (takes_block ∷ executes_command ∷ replies_space ∷ replied s tells rings) a.wiring (got a)
block_starts s ack tells rings a = λ i. load_words 8 (zero_less (block_of a.wiring) i) [] (λ b. answering (drop 1 (from_three s ack tells rings i)) a.wiring (record (got a) { block = b }))

left_acked : (s : Style) (ack tells rings : Bool) (a : Answer)
    → let t : List AnswerStep = answer_table s ack tells rings in answer_left_by t (after_ack s) a ≡ answering (taking_steps s (executes_command ∷ replies_space ∷ replied s tells rings)) a.wiring (got a)
left_acked Headed ack tells rings a = ap (λ (l : List AnswerStep). answering l a.wiring (got a)) (from_two ack tells rings)
left_acked Joined3 ack tells rings a = block_starts Joined3 ack tells rings a
left_acked Separate3 ack tells rings a = block_starts Separate3 ack tells rings a
left_acked Joined4 ack tells rings a = block_starts Joined4 ack tells rings a
left_acked Separate4 ack tells rings a = block_starts Separate4 ack tells rings a
left_acked Reduced5 ack tells rings a = block_starts Reduced5 ack tells rings a

left_taken : (s : Style) (ack tells rings : Bool) (a : Answer)
    → let t : List AnswerStep = answer_table s ack tells rings in answer_left_by t (after_take ack s) a ≡ answering (behind answer_number 0 t) a.wiring (got a)
left_taken s true tells rings a = refl
left_taken s false tells rings a = left_acked s false tells rings a

left_error : (s : Style) (ack tells rings : Bool) (a : Answer)
    → let t : List AnswerStep = answer_table s ack tells rings in answer_left_by t (after_error s) a ≡ answering (completing_steps s (closing rings)) a.wiring (got a)
left_error Headed ack tells rings a = ap (λ (l : List AnswerStep). answering l a.wiring (got a)) (from_seven ack tells rings)
left_error Joined3 ack tells rings a = ap (λ (l : List AnswerStep). answering l a.wiring (got a)) (from_nine Joined3 ack tells rings tt)
left_error Separate3 ack tells rings a = ap (λ (l : List AnswerStep). answering l a.wiring (got a)) (from_nine Separate3 ack tells rings tt)
left_error Joined4 ack tells rings a = ap (λ (l : List AnswerStep). answering l a.wiring (got a)) (from_eight Joined4 ack tells rings tt)
left_error Separate4 ack tells rings a = ap (λ (l : List AnswerStep). answering l a.wiring (got a)) (from_eight Separate4 ack tells rings tt)
left_error Reduced5 ack tells rings a = ap (λ (l : List AnswerStep). answering l a.wiring (got a)) (from_nine Reduced5 ack tells rings tt)

left_reply : (s : Style) (ack tells rings : Bool) (a : Answer)
    → let t : List AnswerStep = answer_table s ack tells rings in answer_left_by t (after_reply tells s) a ≡ answering (replied s tells rings) a.wiring (got a)
left_reply s ack true rings a = ap (λ (l : List AnswerStep). answering l a.wiring (got a)) (from_six s ack true rings refl)
left_reply s ack false rings a = left_error s ack false rings a

closed : (asks : Bool) (a : Answer)
    → answer_after (served_at (after_close asks)) (record a { stage = after_close asks }) ≡ (if asks then stores 4 1 (ends serves) else ends serves)
closed true a = refl
closed false a = refl

done_left : (rings : Bool) (a : Answer) → four_by (style_of a.wiring) a.wiring.has_bell ≡ rings
    → let asks : Bool = asks_notify a in answer_after (served_at (after_done rings asks)) (record a { stage = after_done rings asks }) ≡ answering (closing (four_by (style_of a.wiring) a.wiring.has_bell)) a.wiring (got a)
done_left true a e = ap (λ (l : List AnswerStep). answering l a.wiring (got a)) (from_ten (style_of a.wiring) (four_by (style_of a.wiring) a.wiring.has_ack) (tells_error a.wiring) (four_by (style_of a.wiring) a.wiring.has_bell) e)
done_left false a e = closed (asks_notify a) a ∙ sym (ap (λ (b : Bool). answering (closing b) a.wiring (got a)) e)

-- ---- the steps

-- what is left is told by a list of steps
by_list : (l m : List AnswerStep) (a : Answer) (x : Action) (next : ℕ → Run AnswerEnd) → l ≡ m → Takes (answering m a.wiring (got a)) x next
    → Takes (answering l a.wiring (got a)) x next
by_list l m a x next e h = subst (λ (l : List AnswerStep). Takes (answering l a.wiring (got a)) x next) (sym e) h

-- the table of this machine, and its parts
abbrev pub acks : Answer → Bool
acks a = four_by (style_of a.wiring) a.wiring.has_ack

abbrev pub rings : Answer → Bool
rings a = four_by (style_of a.wiring) a.wiring.has_bell

abbrev pub tells : Answer → Bool
tells a = tells_error a.wiring

-- what the device gives is not yet known
unknown : (l : List AnswerStep) (w : Wiring) (header : ℕ) (block : List ℕ) (b b' : Bool) (r r' : List ℕ)
    → answering (executes_command ∷ l) w (record { header = header; block = block; bad = b; reply = r }) ≡ answering (executes_command ∷ l) w (record { header = header; block = block; bad = b'; reply = r' })
unknown l w header block b b' r r' = refl

took : (b : Bool) (a : Answer)
    → answer_after (take_told b) (take_on b a) ≡ (if b then ends finds_none else answering (behind answer_number 0 (answer_steps a.wiring)) a.wiring (got a))
took true a = refl
took false a = left_taken (style_of a.wiring) (acks a) (tells a) (rings a) (record a { stage = after_take (acks a) (style_of a.wiring) })

ack_walks : (s : Style) (b c d : Bool) (a : Answer) → b ≡ true → let t : List AnswerStep = answer_table s b c d in
    Takes (answer_left_by t TakeAckLoad a) (answer_next_at TakeAckLoad a) (λ v. answer_left_by t TakeAckStore (record a { stage = TakeAckStore; kept = v }))
ack_walks s true c d a e = (refl, λ v. refl)
ack_walks s false c d a e = cc

acked : (s : Style) (b c d : Bool) (a : Answer) → b ≡ true
    → let t : List AnswerStep = answer_table s b c d in answer_left_by t (after_ack s) a ≡ answering (behind answer_number 1 t) a.wiring (got a)
acked s true c d a e = left_acked s true c d a
acked s false c d a e = cc

header_walks : (s : Style) (b c d : Bool) (a : Answer) → s ≡ Headed → let t : List AnswerStep = answer_table s b c d in
    Takes (answer_left_by t TakeHeader a) (answer_next_at TakeHeader a) (λ v. answer_left_by t (TakeBlock 0) (record a { stage = TakeBlock 0; header = v }))
header_walks Headed b c d a e = by_list (from answer_number 2 (answer_table Headed b c d)) (takes_header ∷ takes_block ∷ executes_command ∷ replies_space ∷ replied Headed c d) a (answer_next_at TakeHeader a) (λ v. answer_left_by (answer_table Headed b c d) (TakeBlock 0) (record a { stage = TakeBlock 0; header = v }))
    (from_two b c d) (refl, λ v. block_starts Headed b c d (record a { stage = TakeBlock 0; header = v }))
header_walks _ b c d a e = cc

taken_block : (b : Bool) (j v : ℕ) (a : Answer) → has_more j a.wiring ≡ b → j < block_of a.wiring → length a.loaded ≡ block_of a.wiring
    → let k = λ (l : List ℕ). answering (behind answer_number 3 (answer_steps a.wiring)) a.wiring (record (got a) { block = l }) in
    answer_left (load_on b j v a) ≡ load_words (8 + j + 1) (block_of a.wiring - (j + 1)) (take j a.loaded ++ v ∷ []) k
taken_block true j v a more here long = let k = λ (l : List ℕ). answering (behind answer_number 3 (answer_steps a.wiring)) a.wiring (record (got a) { block = l }) in let m : ℕ = block_of a.wiring - (j + 1) in
    let t = take_more_set a.loaded j v (omega arith) in λ i. load_words (next_place j i) m (t i) k
taken_block false j v a more here long = let k = λ (l : List ℕ). answering (behind answer_number 3 (answer_steps a.wiring)) a.wiring (record (got a) { block = l }) in let w = a.wiring in let n : ℕ = block_of w in let last : n ≤ j + 1 = ltb-false (j + 1) n more in
    let none : n - (j + 1) ≡ 0 = omega arith in let l : List ℕ = set a.loaded j v in let longs : length l ≡ n = length-set a.loaded j v ∙ long in
    let t : take j a.loaded ++ v ∷ [] ≡ l = sym (take_more_set a.loaded j v (omega arith)) ∙ all_taken (j + 1) l (omega arith) in
    let one = from_four (style_of w) (acks a) (tells a) (rings a) in let two = from_three (style_of w) (acks a) (tells a) (rings a) in
    ap (λ (z : List AnswerStep). answering z w (record { header = a.header; block = l; bad = a.bad; reply = bytes_of (drop (heads_of (style_of w)) l) })) one
    ∙ (sym (ap (λ (z : List AnswerStep). answering (drop 1 z) w (record (got a) { block = l })) two) ∙ sym (λ i. load_words (8 + j + 1) (none i) (t i) k))

-- the stores of the reply that are left, at the next word that changed or after the last one
replied_words : (b : Bool) (n : ℕ) (a : Answer)
    → answer_left_by (answer_steps a.wiring) (reply_on b n a.wiring) a ≡ Storing b 8 n a.out a.loaded (answering (behind answer_number 5 (answer_steps a.wiring)) a.wiring (got a))
replied_words true n a = refl
replied_words false n a = left_reply (style_of a.wiring) (acks a) (tells a) (rings a) a
    ∙ sym (ap (λ (z : List AnswerStep). answering (drop 1 z) a.wiring (got a)) (from_five (style_of a.wiring) (acks a) (tells a) (rings a)))

error_walks : (s : Style) (b c d : Bool) (a : Answer) → c ≡ true → let t : List AnswerStep = answer_table s b c d in
    Takes (answer_left_by t ReplyError a) (answer_next_at ReplyError a) (λ v. answer_left_by t (after_error s) (record a { stage = after_error s }))
error_walks s b true d a e = by_list (from answer_number 6 (answer_table s b true d)) (replied s true d) a (answer_next_at ReplyError a) (λ v. answer_left_by (answer_table s b true d) (after_error s) (record a { stage = after_error s }))
    (from_six s b true d refl) (refl, λ v. left_error s b true d (record a { stage = after_error s }))
error_walks s b false d a e = cc

status_walks : (s : Style) (b c d : Bool) (a : Answer) (next : ℕ → Run AnswerEnd) → s ≡ Headed → ((v : ℕ) → next v ≡ answering (closing d) a.wiring (got a))
    → Takes (answer_left_by (answer_table s b c d) ReplyHeader a) (answer_next_at ReplyHeader a) next
status_walks Headed b c d a next e h = by_list (from answer_number 7 (answer_table Headed b c d)) (replies_status ∷ closing d) a (answer_next_at ReplyHeader a) next (from_seven b c d) (refl, h)
status_walks _ b c d a next e h = cc

update_first : (s : Style) (d : Bool) (a : Answer) (next : ℕ → Run AnswerEnd) → AnswerUpdates s
    → ((v : ℕ) → next v ≡ stores (update_place (style_of a.wiring)) (masked_by a.wiring.update v) (answering (drop 1 (completing_steps s (closing d))) a.wiring (got a)))
    → Takes (answering (completing_steps s (closing d)) a.wiring (got a)) (answer_next_at ReplyUpdateLoad a) next
update_first Headed d a next u h = absurd u
update_first Joined3 d a next u h = absurd u
update_first Separate3 d a next u h = absurd u
update_first Joined4 d a next u h = (refl, h)
update_first Separate4 d a next u h = (refl, h)
update_first Reduced5 d a next u h = absurd u

update_walks : (s : Style) (b c d : Bool) (a : Answer) → AnswerUpdates s → let t : List AnswerStep = answer_table s b c d in
    Takes (answer_left_by t ReplyUpdateLoad a) (answer_next_at ReplyUpdateLoad a) (λ v. answer_left_by t ReplyUpdateStore (record a { stage = ReplyUpdateStore; kept = v }))
update_walks s b c d a u = let next = λ (v : ℕ). answer_left_by (answer_table s b c d) ReplyUpdateStore (record a { stage = ReplyUpdateStore; kept = v }) in
    by_list (from answer_number 8 (answer_table s b c d)) (completing_steps s (closing d)) a (answer_next_at ReplyUpdateLoad a) next (from_eight s b c d u)
    (update_first s d a next u (λ v. ap (λ (z : List AnswerStep). stores (update_place (style_of a.wiring)) (masked_by a.wiring.update v) (answering (drop 1 z) a.wiring (got a))) (from_eight s b c d u)))

updated : (s : Style) (b c d : Bool) (a : Answer) (done : AnswerStage) → AnswerUpdates s → answer_steps a.wiring ≡ answer_table s b c d
    → answer_after (served_at done) (record a { stage = done }) ≡ answering (closing d) a.wiring (got a)
    → answer_after (served_at (update_stage s done)) (record a { stage = update_stage s done }) ≡ answering (behind answer_number 8 (answer_table s b c d)) a.wiring (got a)
updated Headed b c d a done u e h = absurd u
updated Joined3 b c d a done u e h = absurd u
updated Separate3 b c d a done u e h = absurd u
updated Joined4 b c d a done u e h = h ∙ sym (ap (λ (z : List AnswerStep). answering (drop 1 z) a.wiring (got a)) (from_eight Joined4 b c d tt))
updated Separate4 b c d a done u e h = ap (λ (z : List AnswerStep). answering (from answer_number 9 z) a.wiring (got a)) e ∙ (ap (λ (z : List AnswerStep). answering z a.wiring (got a)) (from_nine Separate4 b c d tt) ∙ sym (ap (λ (z : List AnswerStep). answering (drop 1 z) a.wiring (got a)) (from_eight Separate4 b c d tt)))
updated Reduced5 b c d a done u e h = absurd u

mark_walks : (s : Style) (b c d : Bool) (a : Answer) → AnswerSets s → let t : List AnswerStep = answer_table s b c d in
    Takes (answer_left_by t ReplyMarkLoad a) (answer_next_at ReplyMarkLoad a) (λ v. answer_left_by t ReplyMarkStore (record a { stage = ReplyMarkStore; kept = v }))
mark_walks s b c d a u = let next = λ (v : ℕ). answer_left_by (answer_table s b c d) ReplyMarkStore (record a { stage = ReplyMarkStore; kept = v }) in
    by_list (from answer_number 9 (answer_table s b c d)) (replies_completion ∷ closing d) a (answer_next_at ReplyMarkLoad a) next (from_nine s b c d u)
    (refl, λ v. ap (λ (z : List AnswerStep). stores 0 (bit_or v a.wiring.check_mask) (answering (drop 1 z) a.wiring (got a))) (from_nine s b c d u))

bell_walks : (s : Style) (b c d : Bool) (a : Answer) → d ≡ true → let t : List AnswerStep = answer_table s b c d in
    Takes (answer_left_by t CloseBellLoad a) (answer_next_at CloseBellLoad a) (λ v. answer_left_by t CloseBellStore (record a { stage = CloseBellStore; kept = v }))
bell_walks s b c true a e = let next = λ (v : ℕ). answer_left_by (answer_table s b c true) CloseBellStore (record a { stage = CloseBellStore; kept = v }) in
    by_list (from answer_number 10 (answer_table s b c true)) (closing true) a (answer_next_at CloseBellLoad a) next (from_ten s b c true refl)
    (refl, λ v. ap (λ (z : List AnswerStep). stores 1 (masked_by a.wiring.bell v) (answering (drop 1 z) a.wiring (got a))) (from_ten s b c true refl))
bell_walks s b c false a e = cc

rung_off : (s : Style) (b c d : Bool) → d ≡ true → behind answer_number 10 (answer_table s b c d) ≡ raises_interrupt ∷ []
rung_off s b c true e = ap (λ (z : List AnswerStep). drop 1 z) (from_ten s b c true refl)
rung_off s b c false e = cc

abbrev pub left_at : AnswerStage → Answer → Run AnswerEnd
left_at st a = answer_left_by (answer_steps a.wiring) st a

pub walks : (st : AnswerStage) (a : Answer) → st ≢ AnswerRest → st ≢ RunDevice → AnswerOk (record a { stage = st })
    → Takes (left_at st a) (answer_next_at st a) (λ v. answer_after (answer_told_at st a v) (answer_fed_at st a v))
walks AnswerRest a runs steps ok = absurd (runs refl)
walks TakeLine a runs steps ok = (refl, λ v. took (eqb v 0) a)
walks TakeAckLoad a runs steps ok = ack_walks (style_of a.wiring) (acks a) (tells a) (rings a) a ok.place
walks TakeAckStore a runs steps ok = (refl, λ v. acked (style_of a.wiring) (acks a) (tells a) (rings a) (record a { stage = after_ack (style_of a.wiring) }) ok.place)
walks TakeHeader a runs steps ok = header_walks (style_of a.wiring) (acks a) (tells a) (rings a) a ok.place
walks (TakeBlock j) a runs steps ok = let k = λ (l : List ℕ). answering (behind answer_number 3 (answer_steps a.wiring)) a.wiring (record (got a) { block = l }) in let n : ℕ = block_of a.wiring in let here : j < n = ok.place in let e : suc (n - (j + 1)) ≡ n - j = omega arith in
    subst (λ (m : ℕ). Takes (load_words (8 + j) m (take j a.loaded) k) (Load (8 + j)) (λ v. answer_after None (answer_fed_at (TakeBlock j) a v))) e (refl, λ v. taken_block (has_more j a.wiring) j v a refl here ok.sized.loaded)
walks RunDevice a runs steps ok = absurd (steps refl)
walks (ReplyBlock j) a runs steps ok = let k : Run AnswerEnd = answering (behind answer_number 5 (answer_steps a.wiring)) a.wiring (got a) in let n : ℕ = next_changed (j + 1) a.out a.loaded in let b : Bool = ltb n (length a.out) in
    (refl, λ v. replied_words b n (answer_fed_at (ReplyBlock j) a v) ∙ sym (next_stored b 8 (j + 1) a.out a.loaded k refl) ∙ ap (λ (p : ℕ). store_changed p (drop (j + 1) a.out) (drop (j + 1) a.loaded) k) (next_place j))
walks ReplyError a runs steps ok = error_walks (style_of a.wiring) (acks a) (tells a) (rings a) a ok.place
walks ReplyHeader a runs steps ok = status_walks (style_of a.wiring) (acks a) (tells a) (rings a) a (λ v. answer_after (answer_told_at ReplyHeader a v) (answer_fed_at ReplyHeader a v)) ok.place (λ v. done_left (rings a) a refl)
walks ReplyUpdateLoad a runs steps ok = update_walks (style_of a.wiring) (acks a) (tells a) (rings a) a ok.place
walks ReplyUpdateStore a runs steps ok = (refl, λ v. updated (style_of a.wiring) (acks a) (tells a) (rings a) a (after_done (rings a) (asks_notify a)) ok.place refl (done_left (rings a) a refl))
walks ReplyMarkLoad a runs steps ok = mark_walks (style_of a.wiring) (acks a) (tells a) (rings a) a ok.place
walks ReplyMarkStore a runs steps ok = (refl, λ v. done_left (rings a) a refl ∙ sym (ap (λ (z : List AnswerStep). answering (drop 1 z) a.wiring (got a)) (from_nine (style_of a.wiring) (acks a) (tells a) (rings a) ok.place)))
walks CloseBellLoad a runs steps ok = bell_walks (style_of a.wiring) (acks a) (tells a) (rings a) a ok.place
walks CloseBellStore a runs steps ok = (refl, λ v. closed (asks_notify a) a ∙ sym (ap (λ (z : List AnswerStep). answering z a.wiring (got a)) (rung_off (style_of a.wiring) (acks a) (tells a) (rings a) ok.place)))
walks CloseLine a runs steps ok = (refl, λ v. refl)

-- ---- the device, and the beginning

-- the reply that the device leaves is stored where it differs from what was loaded
replied_ran : (a : Answer) (reply : List ℕ) (bad : Bool) → heads_of (style_of a.wiring) ≤ length a.loaded → let k : ℕ = heads_of (style_of a.wiring) in
    answer_left (ran_with (record a { space = reply }) bad) ≡ store_changed (8 + k) (words_of reply) (drop k a.loaded)
    (answering (replied (style_of a.wiring) (tells a) (rings a)) a.wiring (record { header = a.header; block = a.loaded; bad = bad; reply = reply }))
replied_ran a reply bad front = let w = a.wiring in let s : Style = style_of w in let k : ℕ = heads_of s in let m : Answer = ran_with (record a { space = reply }) bad in let n : ℕ = next_changed k m.out a.loaded in let b : Bool = ltb n (length m.out) in
    let rest : Run AnswerEnd = answering (behind answer_number 5 (answer_steps w)) w (got m) in
    replied_words b n m ∙ sym (next_stored b 8 k m.out a.loaded rest refl)
    ∙ ap (λ (l : List ℕ). store_changed (8 + k) l (drop k a.loaded) rest) (behind_front k a.loaded (words_of reply) front)
    ∙ ap (λ (z : List AnswerStep). store_changed (8 + k) (words_of reply) (drop k a.loaded) (answering (drop 1 z) w (got m))) (from_five s (acks a) (tells a) (rings a))

pub gives : (a : Answer) → AnswerOk (record a { stage = RunDevice })
    → Gives (left_at RunDevice a) (Execute (answer_code a)) (bytes_of (drop (heads_of (style_of a.wiring)) a.loaded)) (λ bad reply. answer_left (ran_with (record a { space = reply }) bad))
gives a ok = let w = a.wiring in let k : ℕ = heads_of (style_of w) in let long : length a.loaded ≡ block_of w = ok.sized.loaded in let front : k ≤ length a.loaded = omega arith in
    subst (λ (l : List AnswerStep). Gives (answering l w (got a)) (Execute (answer_code a)) (bytes_of (drop k a.loaded)) (λ bad reply. answer_left (ran_with (record a { space = reply }) bad))) (sym (from_four (style_of w) (acks a) (tells a) (rings a)))
    (refl, refl, λ bad reply. replied_ran a reply bad front)

-- what an earlier run has left is not used
fresh : (s : Style) (w : Wiring) (l : List AnswerStep) (b b' : List ℕ) (e e' : Bool) (r r' : List ℕ)
    → answering (taking_steps s (executes_command ∷ l)) w (record { header = 0; block = b; bad = e; reply = r }) ≡ answering (taking_steps s (executes_command ∷ l)) w (record { header = 0; block = b'; bad = e'; reply = r' })
fresh Headed w l b b' e e' r r' = refl
fresh _ w l b b' e e' r r' = refl

fresh_run : (ack : Bool) (s : Style) (w : Wiring) (l : List AnswerStep) (b b' : List ℕ) (e e' : Bool) (r r' : List ℕ)
    → answering (only ack acknowledges_bell (taking_steps s (executes_command ∷ l))) w (record { header = 0; block = b; bad = e; reply = r }) ≡ answering (only ack acknowledges_bell (taking_steps s (executes_command ∷ l))) w (record { header = 0; block = b'; bad = e'; reply = r' })
fresh_run true s w l b b' e e' r r' = ap (masked_write 5 w.ack) (fresh s w l b b' e e' r r')
fresh_run false s w l b b' e e' r r' = fresh s w l b b' e e' r r'

pub answers_by_table : AnswersByTable
answers_by_table a = let w = a.wiring in ap (λ (r : Run AnswerEnd). swaps 2 0 (λ v. if v == 0 then ends finds_none else r)) (fresh_run (acks a) (style_of w) w (replies_space ∷ replied (style_of w) (tells a) (rings a)) a.loaded [] a.bad false a.space [])

-- the count of steps is no part of a run
stepped_at : (steps : List AnswerStep) (st : AnswerStage) (a : Answer) (n : ℕ) → answer_left_by steps st (record a { steps = n }) ≡ answer_left_by steps st a
stepped_at steps AnswerRest a n = refl
stepped_at steps _ a n = refl

after_stepped : (told : Option AnswerOutcome) (a : Answer) → answer_after told (answer_stepped a) ≡ answer_after told a
after_stepped None a = stepped_at (answer_steps a.wiring) a.stage a (rose a.steps)
after_stepped (Some Idle) a = refl
after_stepped (Some Served) a = refl

pub answer_steps_by_table : AnswerStepsByTable
answer_steps_by_table a ok runs = takes_so (answer_left a) (answer_next_at a.stage a) (λ v. answer_after (answer_told_at a.stage a v) (answer_fed_at a.stage a v)) (λ v. answer_after (answer_told_at a.stage a v) (answer_stepped (answer_fed_at a.stage a v)))
    (λ v. after_stepped (answer_told_at a.stage a v) (answer_fed_at a.stage a v)) (walks a.stage a runs.0 runs.1 ok)

pub executes_by_table : ExecutesByTable
executes_by_table a ok rest = let z : AnswerOk (record a { stage = RunDevice }) = subst (λ (st : AnswerStage). AnswerOk (record a { stage = st })) rest ok in
    subst (λ (st : AnswerStage). Gives (left_at st a) (answer_next_at st a) (bytes_of (drop (heads_of (style_of a.wiring)) a.loaded)) (λ bad reply. answer_left (ran_with (record a { space = reply }) bad))) (sym rest) (gives a z)
