-- What a step of the answering machine leads to, and what the device's turn adds to a history.
use Rattle.std.proofs.Common.{◌≡◌, ◌≢◌, ℕ, ◌+◌, Bool, true, false, eqb, ltb, List, [], ◌++◌, length, refl, sym, ap}
use Rattle.std.specs.Prelude.{Option, Some, None}
use Rattle.std.proofs.lemmas.List.{append-nil}
use Rattle.pcc_history.specs.Devices.{Device}
use Rattle.pcc_history.specs.Channel.{Exchange}
use Rattle.pcc_steps.specs.declared.wiring.Style.{Style}
use Rattle.pcc_steps.specs.declared.wiring.Style.TheVariants.{Headed, Joined4, Separate4}
use Rattle.pcc_steps.specs.declared.answer.AnswerStage.{AnswerStage}
use Rattle.pcc_steps.specs.declared.answer.AnswerStage.TheVariants.{AnswerRest, TakeLine, TakeAckLoad, TakeAckStore, TakeHeader, TakeBlock, RunDevice, ReplyBlock, ReplyError, ReplyHeader, ReplyUpdateLoad, ReplyUpdateStore, ReplyMarkLoad, ReplyMarkStore, CloseBellLoad, CloseBellStore, CloseLine}
use Rattle.pcc_steps.specs.declared.answer.AnswerOutcome.{AnswerOutcome}
use Rattle.pcc_steps.specs.declared.wiring.Wiring.{Wiring}
use Rattle.pcc_steps.specs.Changes.{next_changed}
use Rattle.pcc_steps.specs.Wires.{style_of, tells_error, four_by}
use Rattle.pcc_steps.specs.Asking.{has_more}
use Rattle.pcc_steps.specs.Answering.{Answer, answer_fed_at, answer_told_at, after_ack, after_take, after_error, after_reply, after_close, after_update, done_stage, asks_notify, served_at, take_on, take_told, load_on, reply_on}
use Rattle.pcc_steps.specs.Agree.{Answerer, answerer_stepped, settle_at}

abbrev pub is_rest : AnswerStage → Bool
is_rest AnswerRest = true
is_rest TakeLine = false
is_rest TakeAckLoad = false
is_rest TakeAckStore = false
is_rest TakeHeader = false
is_rest (TakeBlock j) = false
is_rest RunDevice = false
is_rest (ReplyBlock j) = false
is_rest ReplyError = false
is_rest ReplyHeader = false
is_rest ReplyUpdateLoad = false
is_rest ReplyUpdateStore = false
is_rest ReplyMarkLoad = false
is_rest ReplyMarkStore = false
is_rest CloseBellLoad = false
is_rest CloseBellStore = false
is_rest CloseLine = false

abbrev pub is_run : AnswerStage → Bool
is_run RunDevice = true
is_run _ = false

pub rest_is : (st : AnswerStage) → is_rest st ≡ true → st ≡ AnswerRest
rest_is AnswerRest e = refl
rest_is _ e = absurd (cc e)

pub run_is : (st : AnswerStage) → is_run st ≡ true → st ≡ RunDevice
run_is RunDevice e = refl
run_is _ e = absurd (cc e)

-- ---- stages

pub not_rest : (st : AnswerStage) → st ≢ AnswerRest → is_rest st ≡ false
not_rest AnswerRest n = absurd (n refl)
not_rest TakeLine n = refl
not_rest TakeAckLoad n = refl
not_rest TakeAckStore n = refl
not_rest TakeHeader n = refl
not_rest (TakeBlock j) n = refl
not_rest RunDevice n = refl
not_rest (ReplyBlock j) n = refl
not_rest ReplyError n = refl
not_rest ReplyHeader n = refl
not_rest ReplyUpdateLoad n = refl
not_rest ReplyUpdateStore n = refl
not_rest ReplyMarkLoad n = refl
not_rest ReplyMarkStore n = refl
not_rest CloseBellLoad n = refl
not_rest CloseBellStore n = refl
not_rest CloseLine n = refl

pub not_run : (st : AnswerStage) → st ≢ RunDevice → is_run st ≡ false
not_run RunDevice n = absurd (n refl)
not_run AnswerRest n = refl
not_run TakeLine n = refl
not_run TakeAckLoad n = refl
not_run TakeAckStore n = refl
not_run TakeHeader n = refl
not_run (TakeBlock j) n = refl
not_run (ReplyBlock j) n = refl
not_run ReplyError n = refl
not_run ReplyHeader n = refl
not_run ReplyUpdateLoad n = refl
not_run ReplyUpdateStore n = refl
not_run ReplyMarkLoad n = refl
not_run ReplyMarkStore n = refl
not_run CloseBellLoad n = refl
not_run CloseBellStore n = refl
not_run CloseLine n = refl

abbrev pub ends_run : Option AnswerOutcome → Bool
ends_run None = false
ends_run (Some o) = true

-- ---- a run ends exactly where the machine rests

served_rest : (st : AnswerStage) → is_rest st ≡ ends_run (served_at st)
served_rest AnswerRest = refl
served_rest _ = refl

ack_goes : (s : Style) → is_rest (after_ack s) ≡ false
ack_goes Headed = refl
ack_goes _ = refl

take_goes : (b : Bool) (s : Style) → is_rest (after_take b s) ≡ false
take_goes true s = refl
take_goes false s = ack_goes s

error_goes : (s : Style) → is_rest (after_error s) ≡ false
error_goes Headed = refl
error_goes Joined4 = refl
error_goes Separate4 = refl
error_goes _ = refl

reply_goes : (b : Bool) (s : Style) → is_rest (after_reply b s) ≡ false
reply_goes true s = refl
reply_goes false s = error_goes s

takes_rests : (b : Bool) (a : Answer) → is_rest (take_on b a).stage ≡ ends_run (take_told b)
takes_rests true a = refl
takes_rests false a = take_goes (four_by (style_of a.wiring) a.wiring.has_ack) (style_of a.wiring)

load_rests : (b : Bool) (j v : ℕ) (a : Answer) → is_rest (load_on b j v a).stage ≡ false
load_rests true j v a = refl
load_rests false j v a = refl

pub reply_rests : (b : Bool) (n : ℕ) (w : Wiring) → is_rest (reply_on b n w) ≡ false
reply_rests true n w = refl
reply_rests false n w = reply_goes (tells_error w) (style_of w)

pub fed_rests : (st : AnswerStage) (a : Answer) (v : ℕ) → is_rest st ≡ false → is_run st ≡ false
    → is_rest (answer_fed_at st a v).stage ≡ ends_run (answer_told_at st a v)
fed_rests AnswerRest a v e f = absurd (cc e)
fed_rests TakeLine a v e f = takes_rests (eqb v 0) a
fed_rests TakeAckLoad a v e f = refl
fed_rests TakeAckStore a v e f = ack_goes (style_of a.wiring)
fed_rests TakeHeader a v e f = refl
fed_rests (TakeBlock j) a v e f = load_rests (has_more j a.wiring) j v a
fed_rests RunDevice a v e f = absurd (cc f)
fed_rests (ReplyBlock j) a v e f = let n : ℕ = next_changed (j + 1) a.out a.loaded in reply_rests (ltb n (length a.out)) n a.wiring
fed_rests ReplyError a v e f = error_goes (style_of a.wiring)
fed_rests ReplyHeader a v e f = served_rest (done_stage a)
fed_rests ReplyUpdateLoad a v e f = refl
fed_rests ReplyUpdateStore a v e f = served_rest (after_update (style_of a.wiring) a)
fed_rests ReplyMarkLoad a v e f = refl
fed_rests ReplyMarkStore a v e f = served_rest (done_stage a)
fed_rests CloseBellLoad a v e f = refl
fed_rests CloseBellStore a v e f = served_rest (after_close (asks_notify a))
fed_rests CloseLine a v e f = refl

-- ---- the device's turn

module _ (exec : Device) where
  -- what was executed before stays
  pub framed : (st : AnswerStage) (m : Answer) (d : List ℕ) (done : List Exchange)
      → settle_at exec st (record { m = m; device = d; done = done }) ≡ (let y = settle_at exec st (record { m = m; device = d; done = [] }) in record y { done = done ++ y.done })
  framed RunDevice m d done = refl
  framed AnswerRest m d done = ap (λ (l : List Exchange). record { m = m; device = d; done = l }) (sym (append-nil done))
  framed TakeLine m d done = ap (λ (l : List Exchange). record { m = m; device = d; done = l }) (sym (append-nil done))
  framed TakeAckLoad m d done = ap (λ (l : List Exchange). record { m = m; device = d; done = l }) (sym (append-nil done))
  framed TakeAckStore m d done = ap (λ (l : List Exchange). record { m = m; device = d; done = l }) (sym (append-nil done))
  framed TakeHeader m d done = ap (λ (l : List Exchange). record { m = m; device = d; done = l }) (sym (append-nil done))
  framed (TakeBlock j) m d done = ap (λ (l : List Exchange). record { m = m; device = d; done = l }) (sym (append-nil done))
  framed (ReplyBlock j) m d done = ap (λ (l : List Exchange). record { m = m; device = d; done = l }) (sym (append-nil done))
  framed ReplyError m d done = ap (λ (l : List Exchange). record { m = m; device = d; done = l }) (sym (append-nil done))
  framed ReplyHeader m d done = ap (λ (l : List Exchange). record { m = m; device = d; done = l }) (sym (append-nil done))
  framed ReplyUpdateLoad m d done = ap (λ (l : List Exchange). record { m = m; device = d; done = l }) (sym (append-nil done))
  framed ReplyUpdateStore m d done = ap (λ (l : List Exchange). record { m = m; device = d; done = l }) (sym (append-nil done))
  framed ReplyMarkLoad m d done = ap (λ (l : List Exchange). record { m = m; device = d; done = l }) (sym (append-nil done))
  framed ReplyMarkStore m d done = ap (λ (l : List Exchange). record { m = m; device = d; done = l }) (sym (append-nil done))
  framed CloseBellLoad m d done = ap (λ (l : List Exchange). record { m = m; device = d; done = l }) (sym (append-nil done))
  framed CloseBellStore m d done = ap (λ (l : List Exchange). record { m = m; device = d; done = l }) (sym (append-nil done))
  framed CloseLine m d done = ap (λ (l : List Exchange). record { m = m; device = d; done = l }) (sym (append-nil done))

  -- the number of steps is counted before or after
  pub counted : (st : AnswerStage) (y : Answerer) → settle_at exec st (answerer_stepped y) ≡ answerer_stepped (settle_at exec st y)
  counted RunDevice y = refl
  counted _ y = refl

  pub unsettled : (st : AnswerStage) (y : Answerer) → is_run st ≡ false → settle_at exec st y ≡ y
  unsettled RunDevice y e = absurd (cc e)
  unsettled AnswerRest y e = refl
  unsettled TakeLine y e = refl
  unsettled TakeAckLoad y e = refl
  unsettled TakeAckStore y e = refl
  unsettled TakeHeader y e = refl
  unsettled (TakeBlock j) y e = refl
  unsettled (ReplyBlock j) y e = refl
  unsettled ReplyError y e = refl
  unsettled ReplyHeader y e = refl
  unsettled ReplyUpdateLoad y e = refl
  unsettled ReplyUpdateStore y e = refl
  unsettled ReplyMarkLoad y e = refl
  unsettled ReplyMarkStore y e = refl
  unsettled CloseBellLoad y e = refl
  unsettled CloseBellStore y e = refl
  unsettled CloseLine y e = refl

  pub settled_wired : (st : AnswerStage) (y : Answerer) → (settle_at exec st y).m.wiring ≡ y.m.wiring
  settled_wired RunDevice y = refl
  settled_wired _ y = refl
