use Rattle.std.proofs.Common.{rules, ◌≡◌, ◌≢◌, ℕ, List, length, take, drop, ◌++◌, sym, ap, ◌∙◌, subst}
use Rattle.pcc_steps.specs.declared.wiring.Action.{Action}
use Rattle.pcc_steps.specs.declared.ask.AskStage.TheVariants.{AskRest}
use Rattle.pcc_steps.specs.Agree.{found}
use Rattle.channel_plain.specs.Weaving.{Clocked}
use Rattle.channel_plain.specs.Standing.{channel_of}
use Rattle.channel_plain.specs.Picks.{PlainState}
use Rattle.channel_plain.proofs.Keeps.{told_flies, told_holds, whole}
use Rattle.channel_plain.proofs.ends.Ends.step.Goals as goal

pub report-end-requires-clause-flies : goal.report-end-requires-clause-flies
report-end-requires-clause-flies g c = let x = c.self.inside in
    let s : PlainState = channel_of x.words.items x.ask x.answer (g.E.Executor.state x.device) (g.E.Executor.state x.first.value) x.calls.calls x.executed.commands in
    let t : Action = c.ask_next-action.result in let v : ℕ = c.perform-value.result in
    told_flies g.E.Executor.exec_of g.E.Executor.is_state g.E.Executor.room_of c.asking_laws.ensures.step s x.executed.ready x.executed.room t v c.ask_feed-told.new.ask c.ask_feed-told.result c.ask_next-action.ensures.action
    (c.perform-value.ensures.value ∙ ap (λ (l : List ℕ). found t l) c.deref_mut.ensures.value) (search rules) (subst (λ (z : Clocked _). z.channel.ask.stage ≢ AskRest) (sym c.self.view_is) c.requires) c.ask_feed-told.ensures.state c.ask_feed-told.ensures.told c.self.invariant

pub invariant_of-self : goal.invariant_of-self
invariant_of-self g c = let x = c.self.inside in
    let s : PlainState = channel_of x.words.items x.ask x.answer (g.E.Executor.state x.device) (g.E.Executor.state x.first.value) x.calls.calls x.executed.commands in
    let t : Action = c.ask_next-action.result in let v : ℕ = c.perform-value.result in let n : x.words.len ≡ length x.words.items = search rules in
    told_holds g.E.Executor.exec_of g.E.Executor.is_state g.E.Executor.room_of c.asking_laws.ensures.step s x.executed.ready x.executed.room c.report-end.ensures.0 t v c.ask_feed-told.new.ask c.ask_feed-told.result
    (take x.words.len (c.perform-value.new.words ++ drop (length c.perform-value.new.words) x.words.items)) (record { calls = c.report-end.new.self.calls; end = c.report-end.result }) c.ask_next-action.ensures.action
    (c.perform-value.ensures.value ∙ ap (λ (l : List ℕ). found t l) c.deref_mut.ensures.value) (search rules) (subst (λ (z : Clocked _). z.channel.ask.stage ≢ AskRest) (sym c.self.view_is) c.requires) c.ask_feed-told.ensures.state c.ask_feed-told.ensures.told
    (whole x.words.len t c.perform-value.new.words c.deref_mut.result.now x.words.items c.perform-value.ensures.words c.deref_mut.ensures.value n) c.report-end.ensures.2 c.self.invariant
