-- The stages that follow completion are in their place.
use Rattle.std.proofs.Common.{◌≡◌, Bool, true, false, subst, sym}
use Rattle.pcc_steps.specs.declared.wiring.Wiring.{Wiring}
use Rattle.pcc_steps.specs.declared.answer.AnswerStage.{AnswerStage}
use Rattle.pcc_steps.specs.Wires.{style_of, four_by}
use Rattle.pcc_steps.specs.Answering.{AnswerPlace, after_close, after_done}

pub place_close : (b : Bool) (w : Wiring) → AnswerPlace (after_close b) w
place_close true w = tt
place_close false w = tt

pub place_done : (b asks : Bool) (w : Wiring) → four_by (style_of w) w.has_bell ≡ b → AnswerPlace (after_done b asks) w
place_done true asks w is = is
place_done false asks w is = place_close asks w

pub closed_at : (b : Bool) (w : Wiring) (st : AnswerStage) → st ≡ after_close b → AnswerPlace st w
closed_at b w st e = subst (λ (st : AnswerStage). AnswerPlace st w) (sym e) (place_close b w)

pub done_at : (asks : Bool) (w : Wiring) (st : AnswerStage) → st ≡ after_done (four_by (style_of w) w.has_bell) asks → AnswerPlace st w
done_at asks w st e = subst (λ (st : AnswerStage). AnswerPlace st w) (sym e) (place_done (four_by (style_of w) w.has_bell) asks w (λ i. four_by (style_of w) w.has_bell))
