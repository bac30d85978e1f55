use Rattle.channel_turns.proofs.AnswerRuns.{run_idle, run_served, run_long, run_within}
use Rattle.channel_turns.proofs.runs.answer_run.Goals as goal

pub returns-in-Some-clause-keeps : goal.returns-in-Some-clause-keeps
returns-in-Some-clause-keeps g c = run_idle g.E.Executor.exec_of g.E.Executor.is_state g.E.Executor.room_of c.answering_laws.ensures.begin c.answering_laws.ensures.step c.args.words.now c.answer_step.new.words c.args.answer.now c.answer_start.new.answer c.answer_step.new.answer (g.E.Executor.state c.args.device.now) (g.E.Executor.state c.answer_step.new.device) c.in-Some.outcome c.requires.rests c.answer_start.ensures c.in-Some.ensures.step

pub finish_answer-requires-clause-long : goal.finish_answer-requires-clause-long
finish_answer-requires-clause-long g c = run_long g.E.Executor.exec_of g.E.Executor.is_state g.E.Executor.room_of c.args.words.now c.answer_step.new.words c.args.answer.now c.answer_start.new.answer c.answer_step.new.answer (g.E.Executor.state c.args.device.now) (g.E.Executor.state c.answer_step.new.device) _ c.answer_start.ensures c.answer_step.ensures.step c.requires.long

pub finish_answer-requires-clause-within : goal.finish_answer-requires-clause-within
finish_answer-requires-clause-within g c = λ ok. run_within g.E.Executor.exec_of g.E.Executor.is_state g.E.Executor.room_of c.args.words.now c.answer_step.new.words c.args.answer.now c.answer_start.new.answer c.answer_step.new.answer (g.E.Executor.state c.args.device.now) (g.E.Executor.state c.answer_step.new.device) c.args.block c.answer_start.ensures c.in_default.ensures.step c.requires.block ok

pub returns-clause-keeps : goal.returns-clause-keeps
returns-clause-keeps g c = run_served g.E.Executor.exec_of g.E.Executor.is_state g.E.Executor.room_of c.answering_laws.ensures.begin c.answering_laws.ensures.step c.args.words.now c.answer_step.new.words c.finish_answer.new.words c.args.answer.now c.answer_start.new.answer c.answer_step.new.answer c.finish_answer.new.answer (g.E.Executor.state c.args.device.now) (g.E.Executor.state c.answer_step.new.device) (g.E.Executor.state c.finish_answer.new.device) c.finish_answer.result c.requires.rests c.answer_start.ensures c.in_default.ensures.step c.finish_answer.ensures.served c.finish_answer.ensures.keeps
