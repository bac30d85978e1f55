use Rattle.pcc_steps.proofs.AnswerWalks.{answers_by_table, answer_steps_by_table, executes_by_table}
use Rattle.pcc_steps.proofs.Bounds.{answers_within}
use Rattle.pcc_steps.proofs.Lengths.{answer_runs_within}
use Rattle.pcc_steps.proofs.laws.answering_tables.Goals as goal

pub returns : goal.returns
returns c = record { begin = answers_by_table; step = answer_steps_by_table; device = executes_by_table; answers = answers_within; runs = answer_runs_within }
