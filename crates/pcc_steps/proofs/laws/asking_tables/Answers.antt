use Rattle.pcc_steps.proofs.AskWalks.{posts_by_table, looks_by_table, asks_by_table}
use Rattle.pcc_steps.proofs.Bounds.{posts_within, looks_within}
use Rattle.pcc_steps.proofs.Lengths.{ask_runs_within}
use Rattle.pcc_steps.proofs.laws.asking_tables.Goals as goal

pub returns : goal.returns
returns c = record { post = posts_by_table; look = looks_by_table; step = asks_by_table; posts = posts_within; looks = looks_within; runs = ask_runs_within }
