use Rattle.std.proofs.Common.{rules, ◌≡◌, ℕ, sym, ◌∙◌, subst}
use Rattle.std.specs.Prelude.{Option, Some}
use Rattle.pcc_steps.specs.declared.ask.AskOutcome.{AskOutcome}
use Rattle.pcc_steps.specs.declared.ask.AskOutcome.TheVariants.{Drained}
use Rattle.channel_core.specs.Readings.{Reads}
use Rattle.channel_plain.specs.Picks.{Ended, ask_ended, drain_ended, drained_at, takes_reading}
use Rattle.channel_plain.specs.Holding.{ClockedCalls, Takes, calls_of}
use Rattle.channel_plain.proofs.call_log.CallLog.report.Goals as goal

pub returns-in-Some-Drained : goal.returns-in-Some-Drained
returns-in-Some-Drained g c = let x = c.self.inside in let at : ℕ = c.read-done.result.at in let taken = g.K.Clock.taken in let tells = g.K.Clock.tells in
    let done : Ended = record { calls = c.drain.new.self.calls; end = c.drain.result } in
    let outcome : c.args.outcome ≡ Some (Drained c.in-Some-Drained.error) = search rules in
    subst (λ (o : Option AskOutcome). (r : ℕ) × Takes taken tells c.args.self.now.clock c.drain.new.self.clock (takes_reading o) r × (done ≡ ask_ended o r c.args.ask.now c.args.self.now.calls)) (sym outcome)
    (subst (λ (z : ClockedCalls _). (r : ℕ) × Reads taken tells z.clock c.drain.new.self.clock r × (done ≡ drain_ended c.in-Some-Drained.error c.args.ask.now.space r z.calls)) c.self.view_is (
      at,
      subst (λ (k : _). Reads taken tells x.caller.clock k at) (sym c.drain.ensures.clock) c.read-done.ensures.clock,
      c.drain.ensures.calls
          ∙ (λ i. drained_at c.in-Some-Drained.error (c.space.ensures i) (record { at = at; number = c.read-done.ensures.number i }) (calls_of (c.read-done.ensures.limits i) x.history (c.read-done.ensures.count i) x.ended x.begun)),
    ))
