use Rattle.std.proofs.Common.{ap, ◌∙◌}
use Rattle.pcc_steps.specs.declared.wiring.Wiring.{Wiring}
use Rattle.pcc_steps.specs.Answering.{Answer}
use Rattle.pcc_steps.proofs.Wired.{answer_wired}
use Rattle.channel_turns.proofs.runs.answer_step.Goals as goal

pub returns-clause-room : goal.returns-clause-room
returns-clause-room g c = c.run_device.ensures.room ∙ ap (λ (a : Answer). a.wiring.room) c.answer_feed-told.ensures.state ∙ ap (λ (w : Wiring). w.room) (answer_wired c.args.answer.now.stage c.args.answer.now c.perform-value.result)
