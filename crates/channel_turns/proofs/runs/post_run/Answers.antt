use Rattle.std.proofs.Common.{rules}
use Rattle.channel_turns.proofs.AskRuns.{begun_posts, begun_runs, post_within}
use Rattle.channel_turns.proofs.runs.post_run.Goals as goal

pub finish_ask-requires-clause-runs : goal.finish_ask-requires-clause-runs
finish_ask-requires-clause-runs c = begun_runs c.args.ask.now c.ask_begin.new.ask c.args.code c.args.bytes.now c.ask_begin.ensures

pub finish_ask-requires-clause-behind : goal.finish_ask-requires-clause-behind
finish_ask-requires-clause-behind c = begun_posts c.args.ask.now c.ask_begin.new.ask c.args.code c.args.bytes.now c.ask_begin.ensures

pub finish_ask-requires-clause-within : goal.finish_ask-requires-clause-within
finish_ask-requires-clause-within c = λ ok. post_within c.args.ask.now c.ask_begin.new.ask c.args.code c.args.bytes.now c.block-most.result c.ask_begin.ensures (search rules) ok
