use Rattle.std.proofs.Common.{◌≡◌, ◌<◌, ◌≤◌, ℕ, Bool, true, false, List, length, refl, sym, ap, ◌∙◌, subst}
use Rattle.pcc_bytes.specs.Bytes.{IsBytes}
use Rattle.pcc_steps.specs.declared.ask.AskStage.TheVariants.{AskRest}
use Rattle.pcc_steps.specs.Wires.{style_of}
use Rattle.pcc_steps.specs.Asking.{Ask, CodeFits, ask_begun}
use Rattle.channel_core.specs.Executions.{Executions}
use Rattle.channel_plain.specs.declared.trace.Asked.{Asked}
use Rattle.channel_plain.specs.Picks.{CallsState, PlainState, call_begun, call_ended, call_posted, read_once, served, soon_end}
use Rattle.channel_plain.specs.Holding.{Takes}
use Rattle.channel_plain.specs.Standing.{Holds, channel_of}
use Rattle.channel_plain.specs.Steps.{IsPickAt, begun_with, budget_by}
use Rattle.channel_plain.specs.Weaving.{Clocked}
use Rattle.channel_plain.proofs.Keeps.{posted_holds, ready_more, rest_holds}
use Rattle.channel_plain.proofs.Posts.{no_reading, post_pick, post_reads, soon_pick, soon_reads, tried_none, tried_some}
use Rattle.channel_plain.proofs.ends.Ends.post.Goals as goal

pub invariant_of-self-in-Some : goal.invariant_of-self-in-Some
invariant_of-self-in-Some g c = let x = c.self.inside in let s : PlainState = channel_of x.words.items x.ask x.answer (g.E.Executor.state x.device) (g.E.Executor.state x.first.value) x.calls.calls x.executed.commands in let exec = g.E.Executor.exec_of in let is_state = g.E.Executor.is_state in let room_of = g.E.Executor.room_of in
    let call : Asked = c.args.call.now in let r : ℕ = c.in_ok-refused.ensures.ok.0 in
    let t = tried_some (soon_end r s.calls) call c.space.result.now r s.calls c.post.new.self.calls c.in_ok-refused.refused c.in-Some.end c.in_ok-refused.ensures.ok.2 c.in-Some.is in
    subst (λ (z : Ask × CallsState × Executions). Holds exec is_state room_of (record s { ask = z.0; calls = z.1; executed = z.2.commands }) z.2.ready z.2.room) (λ i. (sym c.set_budget.ensures i, sym t.calls i, sym c.in_ok-reserve.ensures.ok i))
    (rest_holds exec is_state room_of c.asking_laws.ensures.budget s true x.executed.room c.args.begins call.polls (call_ended (read_once s.calls)) (subst (λ (z : Clocked _). z.channel.ask.stage ≡ AskRest) (sym c.self.view_is) c.requires.rests) refl refl (λ e. absurd (cc e)) (ready_more exec is_state room_of s x.executed.ready x.executed.room c.self.invariant))

pub invariant_of-self-in-None : goal.invariant_of-self-in-None
invariant_of-self-in-None g c = let x = c.self.inside in let s : PlainState = channel_of x.words.items x.ask x.answer (g.E.Executor.state x.device) (g.E.Executor.state x.first.value) x.calls.calls x.executed.commands in let exec = g.E.Executor.exec_of in let is_state = g.E.Executor.is_state in let room_of = g.E.Executor.room_of in
    let call : Asked = c.args.call.now in let r : ℕ = c.in_ok-refused.ensures.ok.0 in let a : Ask = budget_by c.args.begins call.polls s.ask in
    let n = tried_none (soon_end r s.calls) call c.space.result.now r s.calls c.post.new.self.calls c.in_ok-refused.refused c.in_ok-refused.ensures.ok.2 c.in-None.is in
    let ea : c.ask_begin.new.ask ≡ ask_begun a call.code call.bytes = c.ask_begin.ensures ∙ ap (λ (z : Ask × List ℕ). ask_begun z.0 call.code z.1) (λ i. (c.set_budget.ensures i, c.as_slice-in-None.ensures i)) in
    let ek : c.post.new.self.calls ≡ call_posted call s.ask.space r (call_begun s.calls) = n.1 ∙ ap (λ (z : List ℕ). call_posted call z r (call_begun s.calls)) c.space.ensures in
    subst (λ (z : Ask × CallsState × Executions). Holds exec is_state room_of (record s { ask = z.0; calls = z.1; executed = z.2.commands }) z.2.ready z.2.room) (λ i. (sym ea i, sym ek i, sym c.in_ok-reserve.ensures.ok i))
    (posted_holds exec is_state room_of c.asking_laws.ensures.budget c.asking_laws.ensures.post c.args.begins call.polls s x.executed.ready x.executed.room call r (subst (λ (z : Clocked _). z.channel.ask.stage ≡ AskRest) (sym c.self.view_is) c.requires.rests) (subst (λ (z : Clocked _). z.channel.ask.in_flight ≡ false) (sym c.self.view_is) c.requires.free)
    (subst (λ (z : Clocked _). length call.bytes ≤ z.channel.ask.wiring.room) (sym c.self.view_is) c.requires.fits) (subst (λ (z : Clocked _). z.channel.ask.posts < 4096) (sym c.self.view_is) c.requires.posts) (subst (λ (z : Clocked _). CodeFits (style_of z.channel.ask.wiring) call.code) (sym c.self.view_is) c.requires.code)
    (subst IsBytes c.as_slice.ensures c.are_bytes.ensures) (subst (λ (z : Clocked _). 0 < (budget_by c.args.begins call.polls z.channel.ask).budget) (sym c.self.view_is) c.requires.budget) c.self.invariant)

pub returns-in-Some-clause-ok : goal.returns-in-Some-clause-ok
returns-in-Some-clause-ok g c = let x = c.self.inside in let s : PlainState = channel_of x.words.items x.ask x.answer (g.E.Executor.state x.device) (g.E.Executor.state x.first.value) x.calls.calls x.executed.commands in let exec = g.E.Executor.exec_of in let is_state = g.E.Executor.is_state in let room_of = g.E.Executor.room_of in
    let taken = g.K.Clock.taken in let tells = g.K.Clock.tells in
    let call : Asked = c.args.call.now in let r : ℕ = c.in_ok-refused.ensures.ok.0 in let begins : Bool = c.args.begins in
    let t = tried_some (soon_end r s.calls) call c.space.result.now r s.calls c.post.new.self.calls c.in_ok-refused.refused c.in-Some.end c.in_ok-refused.ensures.ok.2 c.in-Some.is in
    let s' : PlainState = record s { ask = c.set_budget.new.ask; calls = c.post.new.self.calls; executed = c.reserve.new.self.commands } in
    let is : s' ≡ record s { ask = budget_by begins call.polls s.ask; calls = c.post.new.self.calls } = λ i. record s { ask = c.set_budget.ensures i; calls = c.post.new.self.calls; executed = (c.in_ok-reserve.ensures.ok i).commands } in
    subst (λ (z : Clocked _). IsPickAt taken tells z.clock c.post.new.self.clock (λ r. served false call r (begun_with begins call.polls z.channel)) s' c.rest.result) c.self.view_is
    (r, subst (λ (b : Bool). Takes taken tells x.calls.clock c.post.new.self.clock b r) (sym (soon_reads begins call.polls call r s c.in-Some.end t.test)) c.in_ok-refused.ensures.ok.1, soon_pick begins call.polls call r s s' c.post.new.self.calls c.in-Some.end c.rest.result t is c.rest.ensures)

pub returns-in-None-clause-ok : goal.returns-in-None-clause-ok
returns-in-None-clause-ok g c = let x = c.self.inside in let s : PlainState = channel_of x.words.items x.ask x.answer (g.E.Executor.state x.device) (g.E.Executor.state x.first.value) x.calls.calls x.executed.commands in let exec = g.E.Executor.exec_of in let is_state = g.E.Executor.is_state in let room_of = g.E.Executor.room_of in
    let taken = g.K.Clock.taken in let tells = g.K.Clock.tells in
    let call : Asked = c.args.call.now in let r : ℕ = c.in_ok-refused.ensures.ok.0 in let begins : Bool = c.args.begins in let a : Ask = budget_by begins call.polls s.ask in let q : ℕ = c.step.ensures.0 in
    let n = tried_none (soon_end r s.calls) call c.space.result.now r s.calls c.post.new.self.calls c.in_ok-refused.refused c.in_ok-refused.ensures.ok.2 c.in-None.is in
    let ea : c.ask_begin.new.ask ≡ ask_begun a call.code call.bytes = c.ask_begin.ensures ∙ ap (λ (z : Ask × List ℕ). ask_begun z.0 call.code z.1) (λ i. (c.set_budget.ensures i, c.as_slice-in-None.ensures i)) in
    let ek : c.post.new.self.calls ≡ call_posted call s.ask.space r (call_begun s.calls) = n.1 ∙ ap (λ (z : List ℕ). call_posted call z r (call_begun s.calls)) c.space.ensures in
    let t : PlainState = record s { ask = c.ask_begin.new.ask; calls = c.post.new.self.calls; executed = c.reserve.new.self.commands } in
    let et : t ≡ record s { ask = c.ask_begin.new.ask; calls = c.post.new.self.calls } = λ i. record s { ask = c.ask_begin.new.ask; calls = c.post.new.self.calls; executed = (c.in_ok-reserve.ensures.ok i).commands } in
    let still : c.step.new.self.clock ≡ c.post.new.self.clock = subst (λ (b : Bool). Takes taken tells c.post.new.self.clock c.step.new.self.clock b q) (no_reading t q a call.code call.bytes ea) c.step.ensures.1 in
    subst (λ (z : Clocked _). IsPickAt taken tells z.clock c.step.new.self.clock (λ r. served false call r (begun_with begins call.polls z.channel)) c.step.new.self.channel c.step.result) c.self.view_is (
      r,
      subst (λ (b : Bool). Takes taken tells x.calls.clock c.step.new.self.clock b r) (sym (post_reads begins call.polls call r s n.0)) (subst (λ (k : _). Takes taken tells x.calls.clock k true r) (sym still) c.in_ok-refused.ensures.ok.1),
      post_pick begins call.polls call r q s t c.step.new.self.channel c.post.new.self.calls c.ask_begin.new.ask c.step.result n.0 ek ea et (subst (λ (z : Clocked _). begins ≡ false → z.channel.calls.begun ≡ true) (sym c.self.view_is) c.requires.begun) c.step.ensures.2,
    )
