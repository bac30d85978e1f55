-- The runs of both ends, step by step, and which words each step loads, stores and swaps.
-- A run never looks ahead: each step may use what the steps before it found.
-- Places: 0 completion, 1 doorbell register, 2 doorbell line, 3 error register, 4 interrupt line, 5 acknowledge register, 6 update register
-- where it isn't the check register, 7 unused, from 8 on the block. This order of words and steps is this project's own, after ACPI 6.5, 14.5.
use Rattle.std.specs.Prelude.{ℕ, bit_or, ◌+◌, ◌-◌, ◌<◌, ◌≡◌, ◌==◌, zero, suc, Bool, true, false, if◌then◌else◌, List, [], ◌∷◌, ◌++◌, length, drop}
use Rattle.pcc_gas.specs.declared.mask.Masks.{Masks}
use Rattle.pcc_steps.specs.declared.wiring.Wiring.{Wiring}
use Rattle.pcc_steps.specs.declared.wiring.Style.{Style}
use Rattle.pcc_steps.specs.declared.wiring.Style.TheVariants.{Headed, Joined3, Separate3, Joined4, Separate4, Reduced5}
use Rattle.pcc_steps.specs.Wires.{style_of, heads_of, block_of, sent_header, status_of, meets, sees_done, tells_error, header_error, code_by, asks_by, acknowledges, four_by, masked_by, without, update_place}
use Rattle.shmem_header.specs.HeaderBits.{with_status}
use Rattle.shmem_header.specs.Spelling.{words_of, bytes_of}

-- what a run does from some point on, by the words that it finds
pub data Run (E : Type 0) : Type 0 where
  ends : E → Run E
  loads : ℕ → (ℕ → Run E) → Run E
  stores : ℕ → ℕ → Run E → Run E
  swaps : ℕ → ℕ → (ℕ → Run E) → Run E
  -- the device gets a code and a space, and gives whether the command is bad, and a space
  executes : ℕ → List ℕ → (Bool → List ℕ → Run E) → Run E

-- the words from a place on that differ from the old ones are stored in rising order
abbrev pub store_changed : {E : Type 0} → ℕ → List ℕ → List ℕ → Run E → Run E
store_changed p [] old k = k
store_changed p (w ∷ ws) [] k = stores p w (store_changed (p + 1) ws [] k)
store_changed p (w ∷ ws) (o ∷ os) k =
    if w == o then store_changed (p + 1) ws os k
    else stores p w (store_changed (p + 1) ws os k)

-- n words from a place on are loaded in rising order, after those that were found before
abbrev pub load_words : {E : Type 0} → ℕ → ℕ → List ℕ → (List ℕ → Run E) → Run E
load_words p zero found k = k found
load_words p (suc n) found k = loads p (λ v. load_words (p + 1) n (found ++ v ∷ []) k)

-- a register is read, and written with the bits to preserve as they were and the bits to set
abbrev pub masked_write : {E : Type 0} → ℕ → Masks → Run E → Run E
masked_write p m k = loads p (λ v. stores p (masked_by m v) k)

-- the run takes at most so many loads, stores and swaps, where the device leaves a space of the same length
abbrev pub Within : {E : Type 0} → ℕ → Run E → Type 0
Within n (ends e) = Unit {0}
Within n (loads p f) = (0 < n) × ((v : ℕ) → Within (n - 1) (f v))
Within n (stores p u r) = (0 < n) × Within (n - 1) r
Within n (swaps p u f) = (0 < n) × ((v : ℕ) → Within (n - 1) (f v))
Within n (executes code s f) = (bad : Bool) (reply : List ℕ) → length reply ≡ length s → Within n (f bad reply)

-- a step that is taken under a condition
abbrev pub only : {S : Type 0} → Bool → S → List S → List S
only true s after = s ∷ after
only false s after = after

-- ---- the run that posts a command

pub data PostStep : Type 0 where
  stores_block : PostStep
  stores_header : PostStep
  writes_update : PostStep
  clears_completion : PostStep
  writes_bell : PostStep
  raises_bell : PostStep

abbrev pub post_steps : Style → List PostStep
post_steps Headed = stores_block ∷ stores_header ∷ writes_bell ∷ raises_bell ∷ []
post_steps Joined3 = stores_block ∷ writes_update ∷ writes_bell ∷ raises_bell ∷ []
post_steps Separate3 = stores_block ∷ writes_update ∷ clears_completion ∷ writes_bell ∷ raises_bell ∷ []
post_steps Joined4 = stores_block ∷ clears_completion ∷ raises_bell ∷ []
post_steps Separate4 = stores_block ∷ clears_completion ∷ raises_bell ∷ []
post_steps Reduced5 = stores_block ∷ writes_bell ∷ clears_completion ∷ raises_bell ∷ []

-- how a run of the asking side ends
pub data AskEnd : Type 0 where
  posts : AskEnd
  sees_clear : AskEnd
  -- the error and the words of the block
  drains : Bool → List ℕ → AskEnd

-- for a code, the words of the block, and the block as this side last stored or loaded it, at first the opening content
abbrev pub post_step : PostStep → Wiring → ℕ → List ℕ → List ℕ → Run AskEnd → Run AskEnd
post_step stores_block w code block old k = store_changed 8 block old k
post_step stores_header w code block old k = stores 0 (sent_header w code 0) k
post_step writes_update w code block old k = masked_write (update_place (style_of w)) w.update k
post_step clears_completion w code block old k = loads 0 (λ v. stores 0 (without w.check_mask v) k)
post_step writes_bell w code block old k = masked_write 1 w.bell k
post_step raises_bell w code block old k = stores 2 1 k

abbrev pub posting : List PostStep → Wiring → ℕ → List ℕ → List ℕ → Run AskEnd
posting [] w code block old = ends posts
posting (s ∷ ss) w code block old = post_step s w code block old (posting ss w code block old)

-- the whole run
abbrev pub post_run : Wiring → ℕ → List ℕ → List ℕ → Run AskEnd
post_run w code block old = posting (post_steps (style_of w)) w code block old

-- ---- the run that looks for completion

pub data LookStep : Type 0 where
  looks_at_completion : LookStep
  looks_at_error : LookStep
  looks_at_block : LookStep
  lowers_interrupt : LookStep

-- by whether a register reports errors, and whether commands ask for a notification
abbrev pub look_table : Bool → Bool → List LookStep
look_table tells notify = looks_at_completion ∷ only tells looks_at_error (looks_at_block ∷ only notify lowers_interrupt [])

abbrev pub look_steps : Wiring → List LookStep
look_steps w = look_table (tells_error w) w.notify

-- what a look has found so far
pub record Seen : Type 0 where
  pub error : Bool
  pub block : List ℕ

abbrev pub acknowledging : Wiring → Run AskEnd → Run AskEnd
acknowledging w k = if acknowledges w then masked_write 5 w.ack k else k

abbrev pub look_step : LookStep → Wiring → Seen → (Seen → Run AskEnd) → Run AskEnd
look_step looks_at_completion w s k = loads 0 (λ v. if sees_done w v then k (record s { error = header_error (style_of w) v }) else ends sees_clear)
look_step looks_at_error w s k = loads 3 (λ v. k (record s { error = meets v w.error_mask }))
look_step looks_at_block w s k = load_words 8 (block_of w) [] (λ b. k (record s { block = b }))
look_step lowers_interrupt w s k = loads 4 (λ v. if v == 0 then k s else stores 4 0 (acknowledging w (k s)))

abbrev pub looking : List LookStep → Wiring → Seen → Run AskEnd
looking [] w s = ends (drains s.error s.block)
looking (t ∷ ts) w s = look_step t w s (λ u. looking ts w u)

abbrev pub look_run : Wiring → Run AskEnd
look_run w = looking (look_steps w) w (record { error = false; block = [] })

-- ---- the run that answers a command

pub data AnswerStep : Type 0 where
  takes_bell : AnswerStep
  acknowledges_bell : AnswerStep
  takes_header : AnswerStep
  takes_block : AnswerStep
  executes_command : AnswerStep
  replies_space : AnswerStep
  replies_error : AnswerStep
  replies_status : AnswerStep
  replies_update : AnswerStep
  replies_completion : AnswerStep
  rings_bell : AnswerStep
  raises_interrupt : AnswerStep

abbrev pub taking_steps : Style → List AnswerStep → List AnswerStep
taking_steps Headed after = takes_header ∷ takes_block ∷ after
taking_steps _ after = takes_block ∷ after

abbrev pub completing_steps : Style → List AnswerStep → List AnswerStep
completing_steps Headed after = replies_status ∷ after
completing_steps Joined4 after = replies_update ∷ after
completing_steps Separate4 after = replies_update ∷ replies_completion ∷ after
completing_steps _ after = replies_completion ∷ after

-- by whether the doorbell is acknowledged, whether a register reports errors, and whether a doorbell is rung
abbrev pub answer_table : Style → Bool → Bool → Bool → List AnswerStep
answer_table s acknowledges tells rings =
    takes_bell ∷ only acknowledges acknowledges_bell (taking_steps s (executes_command ∷ replies_space ∷ only tells replies_error
    (completing_steps s (only rings rings_bell (raises_interrupt ∷ [])))))

abbrev pub answer_steps : Wiring → List AnswerStep
answer_steps w = let s : Style = style_of w in answer_table s (four_by s w.has_ack) (tells_error w) (four_by s w.has_bell)

-- how a run of the answering side ends
pub data AnswerEnd : Type 0 where
  finds_none : AnswerEnd
  serves : AnswerEnd

-- what an answering run has found so far
pub record Got : Type 0 where
  pub header : ℕ
  pub block : List ℕ
  pub bad : Bool
  pub reply : List ℕ

abbrev pub error_word : Wiring → Bool → ℕ
error_word w true = w.error_mask
error_word w false = 0

abbrev pub answer_step : AnswerStep → Wiring → Got → (Got → Run AnswerEnd) → Run AnswerEnd
answer_step takes_bell w g k = swaps 2 0 (λ v. if v == 0 then ends finds_none else k g)
answer_step acknowledges_bell w g k = masked_write 5 w.ack (k g)
answer_step takes_header w g k = loads 0 (λ v. k (record g { header = v }))
answer_step takes_block w g k = load_words 8 (block_of w) [] (λ b. k (record g { block = b }))
answer_step executes_command w g k = executes (code_by (style_of w) g.header g.block) (bytes_of (drop (heads_of (style_of w)) g.block))
    (λ bad reply. k (record g { bad = bad; reply = reply }))
-- the reply is compared with what this run loaded; the header words stay
answer_step replies_space w g k = store_changed (8 + heads_of (style_of w)) (words_of g.reply) (drop (heads_of (style_of w)) g.block) (k g)
answer_step replies_error w g k = stores 3 (error_word w g.bad) (k g)
answer_step replies_status w g k = stores 0 (with_status g.header (status_of g.bad)) (k g)
answer_step replies_update w g k = masked_write (update_place (style_of w)) w.update (k g)
answer_step replies_completion w g k = loads 0 (λ v. stores 0 (bit_or v w.check_mask) (k g))
answer_step rings_bell w g k = masked_write 1 w.bell (k g)
answer_step raises_interrupt w g k = if asks_by (style_of w) g.header g.block then stores 4 1 (k g) else k g

abbrev pub answering : List AnswerStep → Wiring → Got → Run AnswerEnd
answering [] w g = ends serves
answering (s ∷ ss) w g = answer_step s w g (λ h. answering ss w h)

abbrev pub answer_run : Wiring → Run AnswerEnd
answer_run w = answering (answer_steps w) w (record { header = 0; block = []; bad = false; reply = [] })
