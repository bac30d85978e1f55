use Rattle.pcc_steps.proofs.Agreement.{starts_agreed, post_begin_agrees, ask_step_agrees}
use Rattle.pcc_steps.proofs.laws.asking_laws.Goals as goal

pub returns-clause-starts : goal.returns-clause-starts
returns-clause-starts c = starts_agreed

pub returns-clause-post : goal.returns-clause-post
returns-clause-post c = post_begin_agrees

pub returns-clause-step : goal.returns-clause-step
returns-clause-step c = ask_step_agrees
