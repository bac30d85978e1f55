-- The device's turn, as part of a word step.
use Rattle.std.proofs.Common.{◌≡◌, ◌≢◌, refl, ap}
use Rattle.pcc_history.specs.Devices.{Device}
use Rattle.pcc_steps.specs.declared.answer.AnswerStage.{AnswerStage}
use Rattle.pcc_steps.specs.declared.answer.AnswerStage.TheVariants.{RunDevice}
use Rattle.pcc_steps.specs.Answering.{answer_fed_at}
use Rattle.pcc_steps.specs.Agree.{Answerer, answerer_stepped, settle_at}
use Rattle.pcc_steps.specs.Laws.{DeviceTurns, DeviceRests}

pub device_turns : DeviceTurns
device_turns exec y v e = ap (λ (st : AnswerStage). answerer_stepped (settle_at exec st (record y { m = answer_fed_at y.m.stage y.m v }))) e

unsettled : (exec : Device) (st : AnswerStage) (y : Answerer) → st ≢ RunDevice → settle_at exec st y ≡ y
unsettled exec RunDevice y other = absurd (other refl)
unsettled exec _ y other = refl

pub device_rests : DeviceRests
device_rests exec y v other = ap answerer_stepped (unsettled exec (answer_fed_at y.m.stage y.m v).stage (record y { m = answer_fed_at y.m.stage y.m v }) other)
