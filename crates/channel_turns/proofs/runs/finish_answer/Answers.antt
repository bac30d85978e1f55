use Rattle.std.proofs.Common.{sym, ap, ◌∙◌}
use Rattle.pcc_steps.specs.declared.wiring.Wiring.{Wiring}
use Rattle.channel_turns.proofs.AnswerRuns.{went_ends, went_more, went_rests, went_serves, went_start, went_stops}
use Rattle.channel_turns.proofs.runs.finish_answer.Goals as goal

pub returns-in-Some-clause-keeps : goal.returns-in-Some-clause-keeps
returns-in-Some-clause-keeps g c = went_ends g.E.Executor.exec_of g.E.Executor.is_state g.E.Executor.room_of c.answering_laws.ensures.step c.args.words.now c.args.answer.now (g.E.Executor.state c.args.device.now) c.args.most c.loop.counter c.loop.words c.answer_stride.new.words c.loop.answer c.answer_stride.new.answer (g.E.Executor.state c.loop.device) (g.E.Executor.state c.answer_stride.new.device) c.in-Some.outcome c.loop.invariant.0 c.in-Some.ensures.step

pub returns-in-Some-clause-served : goal.returns-in-Some-clause-served
returns-in-Some-clause-served g c = went_serves g.E.Executor.exec_of g.E.Executor.is_state g.E.Executor.room_of c.answering_laws.ensures.step c.args.words.now c.args.answer.now (g.E.Executor.state c.args.device.now) c.args.most c.loop.counter c.loop.words c.answer_stride.new.words c.loop.answer c.answer_stride.new.answer (g.E.Executor.state c.loop.device) (g.E.Executor.state c.answer_stride.new.device) c.in-Some.outcome c.loop.invariant.0 c.in-Some.ensures.step

pub returns-in-Some-clause-rests : goal.returns-in-Some-clause-rests
returns-in-Some-clause-rests g c = went_rests g.E.Executor.exec_of g.E.Executor.is_state g.E.Executor.room_of c.answering_laws.ensures.step c.args.words.now c.args.answer.now (g.E.Executor.state c.args.device.now) c.args.most c.loop.counter c.loop.words c.answer_stride.new.words c.loop.answer c.answer_stride.new.answer (g.E.Executor.state c.loop.device) (g.E.Executor.state c.answer_stride.new.device) c.in-Some.outcome c.loop.invariant.0 c.in-Some.ensures.step

pub loop-init : goal.loop-init
loop-init g c = (went_start g.E.Executor.exec_of g.E.Executor.is_state g.E.Executor.room_of c.args.words.now c.args.answer.now (g.E.Executor.state c.args.device.now) c.args.most c.requires.steps c.requires.behind c.requires.within, c.requires.room)

pub loop-preserved : goal.loop-preserved
loop-preserved g c = let h = went_more g.E.Executor.exec_of g.E.Executor.is_state g.E.Executor.room_of c.answering_laws.ensures.step c.args.words.now c.args.answer.now (g.E.Executor.state c.args.device.now) c.args.most c.loop.counter c.loop.words c.answer_stride.new.words c.loop.answer c.answer_stride.new.answer (g.E.Executor.state c.loop.device) (g.E.Executor.state c.answer_stride.new.device) c.loop.invariant.0 c.in_default.ensures.step in (h, c.answer_stride.ensures.room ∙ ap (λ (w : Wiring). w.room) (c.loop.invariant.0.going.wiring ∙ sym h.going.wiring))

pub unreachable-requires : goal.unreachable-requires
unreachable-requires g c = went_stops g.E.Executor.exec_of g.E.Executor.is_state g.E.Executor.room_of c.args.words.now c.args.answer.now (g.E.Executor.state c.args.device.now) c.args.most c.loop.counter c.loop.words c.loop.answer (g.E.Executor.state c.loop.device) c.loop.invariant.0 c.answer_next.ensures.right c.loop-test.false
