use Rattle.std.proofs.Common.{rules, ◌≡◌, ℕ, List, length, take, drop, ◌++◌, refl, sym, ap, ◌∙◌}
use Rattle.pcc_steps.specs.declared.wiring.Wiring.{Wiring}
use Rattle.pcc_steps.specs.declared.wiring.Action.{Action}
use Rattle.pcc_steps.specs.Agree.{found}
use Rattle.channel_plain.specs.Standing.{channel_of}
use Rattle.channel_plain.specs.Picks.{PlainState}
use Rattle.channel_plain.proofs.Keeps.{whole}
use Rattle.channel_plain.proofs.AnswerHolds.{device_room, settle_ready, settle_wiring, settled_holds}
use Rattle.channel_plain.proofs.ends.Ends.answer_pick.Goals as goal

pub settle-requires-clause-ready : goal.settle-requires-clause-ready
settle-requires-clause-ready g c = let x = c.self.inside in let s : PlainState = channel_of x.words.items x.ask x.answer (g.E.Executor.state x.device) (g.E.Executor.state x.first.value) x.calls.calls x.executed.commands in let exec = g.E.Executor.exec_of in let is_state = g.E.Executor.is_state in let room_of = g.E.Executor.room_of in let t : Action = c.answer_next-action.result in let v : ℕ = c.perform-value.result in let ev : v ≡ found t s.words = c.perform-value.ensures.value ∙ ap (λ (l : List ℕ). found t l) c.deref_mut.ensures.value in
    settle_ready exec is_state room_of c.answering_laws.ensures.begin c.answering_laws.ensures.step c.history_laws.ensures s x.executed.ready x.executed.room c.start.new.answer c.answer_feed-told.new.answer t v c.start.ensures c.answer_next-action.ensures.action ev (search rules) c.answer_feed-told.ensures.state c.self.invariant

pub settle-requires-clause-long : goal.settle-requires-clause-long
settle-requires-clause-long g c = let x = c.self.inside in let s : PlainState = channel_of x.words.items x.ask x.answer (g.E.Executor.state x.device) (g.E.Executor.state x.first.value) x.calls.calls x.executed.commands in let exec = g.E.Executor.exec_of in let is_state = g.E.Executor.is_state in let room_of = g.E.Executor.room_of in let t : Action = c.answer_next-action.result in let v : ℕ = c.perform-value.result in let ev : v ≡ found t s.words = c.perform-value.ensures.value ∙ ap (λ (l : List ℕ). found t l) c.deref_mut.ensures.value in
    c.self.invariant.1.fits ∙ sym (ap (λ (w : Wiring). w.room) (settle_wiring exec is_state room_of c.answering_laws.ensures.begin c.answering_laws.ensures.step s x.executed.ready x.executed.room c.start.new.answer c.answer_feed-told.new.answer t v c.start.ensures c.answer_next-action.ensures.action ev (search rules) c.answer_feed-told.ensures.state c.self.invariant))

pub settle-requires-clause-room : goal.settle-requires-clause-room
settle-requires-clause-room g c = let x = c.self.inside in let s : PlainState = channel_of x.words.items x.ask x.answer (g.E.Executor.state x.device) (g.E.Executor.state x.first.value) x.calls.calls x.executed.commands in let exec = g.E.Executor.exec_of in let is_state = g.E.Executor.is_state in let room_of = g.E.Executor.room_of in let t : Action = c.answer_next-action.result in let v : ℕ = c.perform-value.result in let ev : v ≡ found t s.words = c.perform-value.ensures.value ∙ ap (λ (l : List ℕ). found t l) c.deref_mut.ensures.value in
    device_room exec is_state room_of c.answering_laws.ensures.device s x.executed.ready x.executed.room c.self.invariant ∙ sym (ap (λ (w : Wiring). w.room) (settle_wiring exec is_state room_of c.answering_laws.ensures.begin c.answering_laws.ensures.step s x.executed.ready x.executed.room c.start.new.answer c.answer_feed-told.new.answer t v c.start.ensures c.answer_next-action.ensures.action ev (search rules) c.answer_feed-told.ensures.state c.self.invariant))

pub settle-requires-clause-reports : goal.settle-requires-clause-reports
settle-requires-clause-reports g c = let x = c.self.inside in let s : PlainState = channel_of x.words.items x.ask x.answer (g.E.Executor.state x.device) (g.E.Executor.state x.first.value) x.calls.calls x.executed.commands in let exec = g.E.Executor.exec_of in let is_state = g.E.Executor.is_state in let room_of = g.E.Executor.room_of in let t : Action = c.answer_next-action.result in let v : ℕ = c.perform-value.result in let ev : v ≡ found t s.words = c.perform-value.ensures.value ∙ ap (λ (l : List ℕ). found t l) c.deref_mut.ensures.value in
    ap (λ (w : Wiring). w.reports) (c.wiring.ensures ∙ sym (settle_wiring exec is_state room_of c.answering_laws.ensures.begin c.answering_laws.ensures.step s x.executed.ready x.executed.room c.start.new.answer c.answer_feed-told.new.answer t v c.start.ensures c.answer_next-action.ensures.action ev (search rules) c.answer_feed-told.ensures.state c.self.invariant))

pub invariant_of-self : goal.invariant_of-self
invariant_of-self g c = let x = c.self.inside in let s : PlainState = channel_of x.words.items x.ask x.answer (g.E.Executor.state x.device) (g.E.Executor.state x.first.value) x.calls.calls x.executed.commands in let exec = g.E.Executor.exec_of in let is_state = g.E.Executor.is_state in let room_of = g.E.Executor.room_of in let t : Action = c.answer_next-action.result in let v : ℕ = c.perform-value.result in let ev : v ≡ found t s.words = c.perform-value.ensures.value ∙ ap (λ (l : List ℕ). found t l) c.deref_mut.ensures.value in let n : x.words.len ≡ length x.words.items = search rules in
    settled_holds exec is_state room_of c.answering_laws.ensures.begin c.answering_laws.ensures.step c.history_laws.ensures s x.executed c.settle.new.executed c.start.new.answer c.answer_feed-told.new.answer c.settle.new.answer (g.E.Executor.state c.settle.new.device) (take x.words.len (c.perform-value.new.words ++ drop (length c.perform-value.new.words) x.words.items)) t v c.start.ensures c.answer_next-action.ensures.action ev (search rules) c.answer_feed-told.ensures.state
    (whole x.words.len t c.perform-value.new.words c.deref_mut.result.now x.words.items c.perform-value.ensures.words c.deref_mut.ensures.value n) refl c.settle.ensures c.self.invariant
