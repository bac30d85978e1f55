use Rattle.std.proofs.Common.{rules, ◌≡◌, true, false}
use Rattle.channel_turns.proofs.Calls.{post_answered, still_answered}
use Rattle.channel_turns.proofs.Working.{post_works, still_works}
use Rattle.channel_turns.proofs.turns.TurnChannel.call.Goals as goal

pub returns-then-not-await_earlier-clause-answered : goal.returns-then-not-await_earlier-clause-answered
returns-then-not-await_earlier-clause-answered g c = let on : c.await_earlier.result ≡ false = search rules in
    still_answered g.E.Executor.exec_of c.args.self.now c.args.caller c.args.code c.args.polls c.args.hold c.args.bytes.now c.ready.new.self c.await_earlier.new.self c.in-Ok.ready c.await_earlier.result c.in-Ok.ensures.ready c.await_earlier.ensures.polled on

pub returns-then-not-await_earlier-clause-worked : goal.returns-then-not-await_earlier-clause-worked
returns-then-not-await_earlier-clause-worked g c = let on : c.await_earlier.result ≡ false = search rules in
    still_works c.args.self.now c.args.caller c.args.code c.args.polls c.args.hold c.args.bytes.now c.ready.new.self c.await_earlier.new.self c.in-Ok.ready c.await_earlier.result c.in-Ok.ensures.ready c.await_earlier.ensures.worked on

pub returns-clause-answered : goal.returns-clause-answered
returns-clause-answered g c = let free : c.await_earlier.result ≡ true = search rules in
    post_answered g.E.Executor.exec_of c.args.self.now c.args.caller c.args.code c.args.polls c.args.hold c.args.bytes.now c.ready.new.self c.await_earlier.new.self c.post.new.self c.in-Ok.ready c.await_earlier.result c.post.result c.in-Ok.ensures.ready c.await_earlier.ensures.polled free c.post.ensures.posted

pub returns-clause-worked : goal.returns-clause-worked
returns-clause-worked g c = let free : c.await_earlier.result ≡ true = search rules in
    post_works c.args.self.now c.args.caller c.args.code c.args.polls c.args.hold c.args.bytes.now g.E.Executor.exec_of c.ready.new.self c.await_earlier.new.self c.post.new.self c.in-Ok.ready c.await_earlier.result c.post.result c.in-Ok.ensures.ready c.await_earlier.ensures.polled c.await_earlier.ensures.worked free c.post.ensures.posted.ends c.post.ensures.worked
