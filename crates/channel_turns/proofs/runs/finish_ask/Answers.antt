use Rattle.channel_turns.proofs.AskRuns.{went_counts, went_ends, went_more, went_sees, went_stops}
use Rattle.channel_turns.proofs.runs.finish_ask.Goals as goal

pub returns-in-Some-clause-steps : goal.returns-in-Some-clause-steps
returns-in-Some-clause-steps c = went_ends c.args.words.now c.args.ask.now c.args.most c.loop.counter c.loop.words c.ask_stride.new.words c.loop.ask c.ask_stride.new.ask c.in-Some.outcome c.loop.invariant c.in-Some.ensures

pub loop-preserved : goal.loop-preserved
loop-preserved c = went_more c.args.words.now c.args.ask.now c.args.most c.loop.counter c.loop.words c.ask_stride.new.words c.loop.ask c.ask_stride.new.ask c.loop.invariant c.in_default.ensures

pub unreachable-requires : goal.unreachable-requires
unreachable-requires c = went_stops c.args.words.now c.args.ask.now c.args.most c.loop.counter c.loop.words c.loop.ask c.loop.invariant c.ask_next.ensures.right c.loop-test.false

pub returns-in-Some-clause-count : goal.returns-in-Some-clause-count
returns-in-Some-clause-count c = went_counts c.args.words.now c.args.ask.now c.args.most c.loop.counter c.loop.words c.ask_stride.new.words c.loop.ask c.ask_stride.new.ask c.in-Some.outcome c.loop.invariant c.in-Some.ensures

pub returns-in-Some-clause-seen : goal.returns-in-Some-clause-seen
returns-in-Some-clause-seen c = went_sees c.args.words.now c.args.ask.now c.args.most c.loop.counter c.loop.words c.ask_stride.new.words c.loop.ask c.ask_stride.new.ask c.in-Some.outcome c.loop.invariant c.in-Some.ensures
