use Rattle.std.proofs.Common.{sym, ap, ◌∙◌}
use Rattle.pcc_steps.specs.declared.wiring.Wiring.{Wiring}
use Rattle.pcc_steps.specs.Moves.{answer_moves}
use Rattle.channel_turns.proofs.AnswerRuns.{moves_long, moves_step, moves_wired}
use Rattle.channel_turns.proofs.runs.answer_stride.Goals as goal

pub answer_step-requires-clause-steps : goal.answer_step-requires-clause-steps
answer_step-requires-clause-steps g c = moves_step (answer_moves c.args.answer.now.stage c.args.answer.now) c.args.words.now c.answer_block.new.words c.args.answer.now c.answer_block.new.answer c.answer_block.ensures c.requires.steps

pub answer_step-requires-clause-long : goal.answer_step-requires-clause-long
answer_step-requires-clause-long g c = moves_long (answer_moves c.args.answer.now.stage c.args.answer.now) c.args.words.now c.answer_block.new.words c.args.answer.now c.answer_block.new.answer c.answer_block.ensures c.requires.long

pub answer_step-requires-clause-room : goal.answer_step-requires-clause-room
answer_step-requires-clause-room g c = c.requires.room ∙ ap (λ (w : Wiring). w.room) (sym (moves_wired (answer_moves c.args.answer.now.stage c.args.answer.now) c.args.words.now c.answer_block.new.words c.args.answer.now c.answer_block.new.answer c.answer_block.ensures))

pub returns-clause-step : goal.returns-clause-step
returns-clause-step g c = record { count = (answer_moves c.args.answer.now.stage c.args.answer.now); words = c.answer_block.new.words; answer = c.answer_block.new.answer; moves = c.answer_block.ensures; step = c.answer_step.ensures.step }

pub returns-clause-room : goal.returns-clause-room
returns-clause-room g c = c.answer_step.ensures.room ∙ ap (λ (w : Wiring). w.room) (moves_wired (answer_moves c.args.answer.now.stage c.args.answer.now) c.args.words.now c.answer_block.new.words c.args.answer.now c.answer_block.new.answer c.answer_block.ensures)
