use Rattle.std.proofs.Common.{rules, ◌≡◌, ℕ, false, length, IfOk, sym, ap, ◌∙◌, subst}
use Rattle.std.specs.Prelude.{Some, None}
use Rattle.std.specs.List.{slice_get}
use Rattle.pcc_steps.specs.declared.wiring.Wiring.{Wiring}
use Rattle.pcc_steps.specs.Wires.{style_of}
use Rattle.pcc_steps.specs.Asking.{CodeFits}
use Rattle.pcc_steps.specs.Agree.{flying}
use Rattle.channel_plain.specs.declared.trace.Asked.{Asked}
use Rattle.channel_plain.specs.Picks.{PlainState, Picked, refusal_of}
use Rattle.channel_plain.specs.Steps.{IsPickAt}
use Rattle.channel_plain.specs.Weaving.{Clocked}
use Rattle.channel_plain.proofs.AskPicks.{begins_next, code_ok, code_serving}
use Rattle.channel_plain.proofs.ends.Ends.from_rest.Goals as goal

pub begin-requires-clause-code : goal.begin-requires-clause-code
begin-requires-clause-code g c = subst (λ (w : Wiring). CodeFits (style_of w) c.in-Some.call.now.code) (c.wiring.ensures ∙ ap (λ (z : Clocked _). z.channel.ask.wiring) c.self.view_is)
    (code_ok c.wiring.result.now c.in-Some.call.now _ _ c.fit_code.ensures (sym c.refusal.ensures ∙ c.in-None.is))

pub serve-requires-clause-code : goal.serve-requires-clause-code
serve-requires-clause-code g c = code_serving c.args.calls.now c.args.self.now.channel c.in-Some.call.now c.requires.serving (search rules) (search rules) c.fit_code.ensures

pub returns-in-None-clause-ok : goal.returns-in-None-clause-ok
returns-in-None-clause-ok g c = let s : PlainState = c.args.self.now.channel in let call : Asked = c.in-Some.call.now in
    let idle : s.calls.begun ≡ false = search rules in
    let at : slice_get c.args.calls.now s.calls.ended ≡ Some call = search rules in
    let free : refusal_of s.ask.wiring call (length s.calls.records) (flying s.ask.in_flight) ≡ None = search rules in
    subst (λ (p : ℕ → Picked). IfOk c.begin.result (λ pick. IsPickAt g.K.Clock.taken g.K.Clock.tells c.args.self.now.clock c.begin.new.self.clock p c.begin.new.self.channel pick))
    (λ i r. sym (begins_next c.args.calls.now s call r idle at free) i) c.begin.ensures.ok
