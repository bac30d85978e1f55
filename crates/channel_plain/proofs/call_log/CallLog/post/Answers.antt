use Rattle.std.proofs.Common.{◌≡◌, ℕ, true, sym, ap, ◌∙◌, subst}
use Rattle.std.specs.Prelude.{Option, Some, None}
use Rattle.pcc_journal.specs.Records.{times_of}
use Rattle.channel_core.specs.CommandHistory.{CommandHistory, marked_post}
use Rattle.channel_core.specs.Readings.{Reads, counted}
use Rattle.channel_core.specs.Refusals.{soon_of}
use Rattle.channel_core.specs.Sendings.{sent_at}
use Rattle.channel_plain.specs.declared.trace.TraceEnd.{TraceEnd}
use Rattle.channel_plain.specs.Picks.{CallsState, call_ended, refused_end, soon_end}
use Rattle.channel_plain.specs.Holding.{ClockedCalls, Tried, calls_of, tried, tried_by}
use Rattle.channel_plain.proofs.call_log.CallLog.post.Goals as goal

pub returns-in-Some-clause-ok : goal.returns-in-Some-clause-ok
returns-in-Some-clause-ok g c = let x = c.self.inside in let at : ℕ = c.read-post.result.at in let taken = g.K.Clock.taken in let tells = g.K.Clock.tells in
    let h : CommandHistory = c.ready_for.new.history in let old : CallsState = calls_of x.caller.limits x.history x.caller.readings x.ended x.begun in
    let is : Tried = record { calls = c.end_call.new.self.calls; end = Some c.in-Some.end } in
    let records : h.records ≡ x.history.records = ap (λ (k : CommandHistory). k.records) c.in_ok-ready.ensures.reserved in
    let times : c.times.result.now ≡ times_of x.history.records = c.times.ensures ∙ ap times_of (c.journal.ensures.items ∙ records) in
    let soon : c.too_soon-soon.result ≡ soon_of x.caller.limits (times_of x.history.records) at = c.too_soon-soon.ensures ∙ (λ i. soon_of (c.read-post.ensures.limits i) (times i) at) in
    let test : soon_end at old ≡ Some c.in-Some.end = sym (ap refused_end soon) ∙ (sym c.refused_end.ensures ∙ c.in-Some.is) in
    subst (λ (z : ClockedCalls _). (r : ℕ) × Reads taken tells z.clock c.end_call.new.self.clock r × (is ≡ tried c.args.call.now c.args.space.now r z.calls)) c.self.view_is (
      at,
      subst (λ (k : _). Reads taken tells x.caller.clock k at) (sym (λ i. (c.end_call.ensures i).clock)) c.read-post.ensures.clock,
      (λ i. record { calls = (c.end_call.ensures i).calls; end = Some c.in-Some.end })
          ∙ (λ i. record { calls = call_ended (calls_of (c.read-post.ensures.limits i) (record x.history { records = records i; notes = (c.in_ok-ready.ensures.reserved i).notes; sent = (c.in_ok-ready.ensures.reserved i).sent }) (c.read-post.ensures.count i) x.ended x.begun); end = Some c.in-Some.end })
          ∙ ap (λ (o : Option TraceEnd). tried_by o c.args.call.now c.args.space.now at old) (sym test),
    )

pub returns-in-None-clause-ok : goal.returns-in-None-clause-ok
returns-in-None-clause-ok g c = let x = c.self.inside in let at : ℕ = c.read-post.result.at in let taken = g.K.Clock.taken in let tells = g.K.Clock.tells in
    let h : CommandHistory = c.ready_for.new.history in let old : CallsState = calls_of x.caller.limits x.history x.caller.readings x.ended x.begun in
    let is : Tried = record { calls = calls_of c.read-post.new.self.limits c.mark_post.new.self c.read-post.new.self.readings x.ended true; end = None } in
    let records : h.records ≡ x.history.records = ap (λ (k : CommandHistory). k.records) c.in_ok-ready.ensures.reserved in
    let times : c.times.result.now ≡ times_of x.history.records = c.times.ensures ∙ ap times_of (c.journal.ensures.items ∙ records) in
    let soon : c.too_soon-soon.result ≡ soon_of x.caller.limits (times_of x.history.records) at = c.too_soon-soon.ensures ∙ (λ i. soon_of (c.read-post.ensures.limits i) (times i) at) in
    let test : soon_end at old ≡ None = sym (ap refused_end soon) ∙ (sym c.refused_end.ensures ∙ c.in-None.is) in
    let sent : c.fly.result.sent ≡ sent_at c.args.call.now.caller c.args.call.now.code c.args.call.now.bytes (record { at = at; number = x.caller.readings }) c.args.space.now = c.fly.ensures.sent
    ∙ (λ i. sent_at c.args.call.now.caller (c.in_ok-ready.ensures.ready i).code (c.in_ok-ready.ensures.ready i).bytes (record { at = at; number = c.read-post.ensures.number i }) c.args.space.now) in
    subst (λ (z : ClockedCalls _). (r : ℕ) × Reads taken tells z.clock c.read-post.new.self.clock r × (is ≡ tried c.args.call.now c.args.space.now r z.calls)) c.self.view_is (
      at,
      c.read-post.ensures.clock,
      (λ i. record { calls = calls_of (c.read-post.ensures.limits i) (c.mark_post.ensures i) (c.read-post.ensures.count i) x.ended true; end = None })
          ∙ (λ i. record { calls = calls_of x.caller.limits (marked_post (sent i) (c.in_ok-ready.ensures.reserved i)) (counted x.caller.readings) x.ended true; end = None })
          ∙ ap (λ (o : Option TraceEnd). tried_by o c.args.call.now c.args.space.now at old) (sym test),
    )
