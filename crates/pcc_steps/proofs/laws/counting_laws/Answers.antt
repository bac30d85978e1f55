use Rattle.pcc_steps.proofs.Ends.{count_rises, ask_steps_count, answer_steps_count, ask_step_within, ask_count_within, answer_count_within}
use Rattle.pcc_steps.proofs.laws.counting_laws.Goals as goal

pub returns : goal.returns
returns c = record { rises = count_rises; asks = ask_steps_count; answers = answer_steps_count; within = ask_step_within; ask_run = ask_count_within; answer_run = answer_count_within }
