use Rattle.pcc_steps.specs.Moves.{ask_moves}
use Rattle.channel_turns.proofs.AskRuns.{moves_long, moves_run}
use Rattle.channel_turns.proofs.runs.ask_stride.Goals as goal

pub ask_step-requires-clause-runs : goal.ask_step-requires-clause-runs
ask_step-requires-clause-runs c = moves_run (ask_moves c.args.ask.now.stage c.args.ask.now) c.args.words.now c.ask_block.new.words c.args.ask.now c.ask_block.new.ask c.ask_block.ensures c.requires.runs

pub ask_step-requires-clause-long : goal.ask_step-requires-clause-long
ask_step-requires-clause-long c = moves_long (ask_moves c.args.ask.now.stage c.args.ask.now) c.args.words.now c.ask_block.new.words c.args.ask.now c.ask_block.new.ask c.ask_block.ensures c.requires.long

pub returns : goal.returns
returns c = record { count = (ask_moves c.args.ask.now.stage c.args.ask.now); words = c.ask_block.new.words; ask = c.ask_block.new.ask; moves = c.ask_block.ensures; step = c.ask_step.ensures }
