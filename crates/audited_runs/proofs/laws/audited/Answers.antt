use Rattle.audited_runs.proofs.RoundTrip.{answered, step_again, weave_again, weave_audited}
use Rattle.audited_runs.proofs.Stepped.{step_audit, step_audited, step_heads}
use Rattle.audited_runs.proofs.laws.audited.Goals as goal

pub returns-clause-heads : goal.returns-clause-heads
returns-clause-heads c = step_heads c.set_up_laws.ensures.controllers

pub returns-clause-step : goal.returns-clause-step
returns-clause-step c = step_audited c.set_up_laws.ensures.controllers

pub returns-clause-step_all : goal.returns-clause-step_all
returns-clause-step_all c = step_audit c.set_up_laws.ensures.controllers

pub returns-clause-step_again : goal.returns-clause-step_again
returns-clause-step_again c = step_again c.set_up_laws.ensures.controllers

pub returns-clause-weave : goal.returns-clause-weave
returns-clause-weave c = weave_audited

pub returns-clause-weave_again : goal.returns-clause-weave_again
returns-clause-weave_again c = weave_again

pub returns-clause-answered : goal.returns-clause-answered
returns-clause-answered c = answered c.answer_laws.ensures.one_status c.answer_laws.ensures.one_answer
