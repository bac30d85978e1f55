use Rattle.std.proofs.Common.{refl}
use Rattle.std.specs.Prelude.{None}
use Rattle.channel_turns.specs.ChannelRuns.{call_by}
use Rattle.channel_turns.specs.declared.outcome.Outcome.TheVariants as outcome
use Rattle.channel_turns.proofs.Calls.{post_done, post_lost, posted_by}
use Rattle.channel_turns.proofs.turns.post.Goals as goal

pub returns-in-Some-clause-posted : goal.returns-in-Some-clause-posted
returns-in-Some-clause-posted g c = posted_by g.E.Executor.exec_of c.args.ends.now c.await_reply.new.ends (call_by c.args.caller c.args.ready.code c.args.ready.bytes c.args.polls c.args.hold) (outcome.Done c.in-Some.place)
    (post_done g.E.Executor.exec_of c.args.ends.now.state c.post.new.self.state c.hold.new.self.state c.await_reply.new.ends.state c.args.caller c.args.polls c.args.hold c.in-Some.place c.args.ready c.requires.free c.requires.early c.in-Ok.ensures.state.0 c.in-Ok.ensures.state.1 c.hold.ensures.state c.in-Some.ensures.state)

pub returns-in-None-clause-posted : goal.returns-in-None-clause-posted
returns-in-None-clause-posted g c = posted_by g.E.Executor.exec_of c.args.ends.now c.give_up.new.self (call_by c.args.caller c.args.ready.code c.args.ready.bytes c.args.polls c.args.hold) (outcome.TimedOut c.args.polls)
    (post_lost g.E.Executor.exec_of c.args.ends.now.state c.post.new.self.state c.hold.new.self.state c.await_reply.new.ends.state c.give_up.new.self.state c.args.caller c.args.polls c.args.hold None c.args.ready refl c.requires.free c.requires.early c.in-Ok.ensures.state.0 c.in-Ok.ensures.state.1 c.hold.ensures.state c.in-None.ensures.state c.give_up.ensures.state)
