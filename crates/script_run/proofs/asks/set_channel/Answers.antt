use Rattle.std.proofs.Common.{rules, ◌≡◌, ◌∙◌, true, length, ap}
use Rattle.cppc_calls.specs.Wishes.{with_wish}
use Rattle.channel_turns.specs.ChannelRuns.{Channel}
use Rattle.script_run.proofs.Wishes.{Begun, set_refused, wish_posted, wish_readings, written_back}
use Rattle.script_run.proofs.asks.set_channel.Goals as goal

pub returns-in-Err-clause-answered : goal.returns-in-Err-clause-answered
returns-in-Err-clause-answered g c =
    let long : length c.deref.result.now ≡ c.args.channel.now.head.room = search rules in
    set_refused g.E.Executor.exec_of c.args.channel.now (record { caller = c.args.caller; binding = c.args.binding.now; wish = c.args.wish.now; polls = c.args.polls; hold = c.args.hold }) c.ready.new.self c.deref.result.now c.in-Err.refusal c.in_ok-of_refusal-in-Err.field-0 long c.in-Err.ensures.ready c.in_ok-of_refusal-in-Err.ensures

pub returns-clause-answered : goal.returns-clause-answered
returns-clause-answered g c =
    let long : length c.deref.result.now ≡ c.args.channel.now.head.room = search rules in
    let begun : Begun g.E.Executor.exec_of c.args.channel.now (record { caller = c.args.caller; binding = c.args.binding.now; wish = c.args.wish.now; polls = c.args.polls; hold = c.args.hold }) c.deref.result.now c.in-Ok.ready c.ready.new.self c.await_earlier.new.self c.await_earlier.result = record { long = long; made = c.in-Ok.ensures.ready; polled = c.await_earlier.ensures.polled } in
    let free : c.await_earlier.result ≡ true = search rules in
    let at : c.deref_mut.result.now ≡ c.await_earlier.new.self.now.object.space = search rules in
    let full : length c.copy_from_slice.new.self.items ≡ c.copy_from_slice.new.self.len = search rules in
    let whole : length c.put_wish.new.space ≡ c.copy_from_slice.new.self.len = search rules in
    let back = written_back c.put_wish.new.space c.copy_from_slice.new.self.items c.copy_from_slice.new.self.len whole full in
    let put : c.deref-2.result.now ≡ with_wish c.args.binding.now c.args.wish.now c.deref_mut.result.now = c.deref-2.ensures.value ∙ back ∙ c.in_default.ensures.exact.1 in
    wish_posted g.E.Executor.exec_of c.args.channel.now (record { caller = c.args.caller; binding = c.args.binding.now; wish = c.args.wish.now; polls = c.args.polls; hold = c.args.hold }) c.deref.result.now c.in-Ok.ready c.ready.new.self c.await_earlier.new.self c.await_earlier.result begun c.deref_mut.result.now c.deref-2.result.now c.fill.new.self c.post.new.self c.post.result free at c.in_default.ensures.exact.0 put c.fill.ensures c.post.ensures.posted

pub returns-clause-readings : goal.returns-clause-readings
returns-clause-readings g c =
    let long : length c.deref.result.now ≡ c.args.channel.now.head.room = search rules in
    let begun : Begun g.E.Executor.exec_of c.args.channel.now (record { caller = c.args.caller; binding = c.args.binding.now; wish = c.args.wish.now; polls = c.args.polls; hold = c.args.hold }) c.deref.result.now c.in-Ok.ready c.ready.new.self c.await_earlier.new.self c.await_earlier.result = record { long = long; made = c.in-Ok.ensures.ready; polled = c.await_earlier.ensures.polled } in
    wish_readings g.E.Executor.exec_of c.args.channel.now (record { caller = c.args.caller; binding = c.args.binding.now; wish = c.args.wish.now; polls = c.args.polls; hold = c.args.hold }) c.deref.result.now c.in-Ok.ready c.ready.new.self c.await_earlier.new.self c.await_earlier.result begun c.post.new.self c.await_earlier.ensures.readings c.post.ensures.readings

pub returns-clause-start : goal.returns-clause-start
returns-clause-start g c =
    ap (λ (x : Channel). x.start) (returns-clause-answered g c).left
