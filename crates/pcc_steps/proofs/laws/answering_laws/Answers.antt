use Rattle.pcc_steps.proofs.Agreement.{answer_begin_agrees, answer_step_agrees, device_stays}
use Rattle.pcc_steps.proofs.laws.answering_laws.Goals as goal

pub returns-clause-begin : goal.returns-clause-begin
returns-clause-begin g c = answer_begin_agrees

pub returns-clause-step : goal.returns-clause-step
returns-clause-step g c = answer_step_agrees g.E.Executor.exec_of g.E.Executor.is_state g.E.Executor.room_of g.met.E.Executor.keeps

pub returns-clause-device : goal.returns-clause-device
returns-clause-device g c = device_stays g.E.Executor.exec_of g.E.Executor.is_state g.E.Executor.room_of g.met.E.Executor.keeps
