use Rattle.std.proofs.Common.{◌≡◌, ◌<◌, ℕ, List, length, refl, sym, ap, ◌∙◌, subst, true}
use Rattle.std.specs.Prelude.{Option}
use Rattle.pcc_journal.specs.declared.record.Record.{Record}
use Rattle.pcc_journal.specs.declared.record.Pending.{Pending}
use Rattle.channel_turns.specs.Seeing.{EndsSeen}
use Rattle.channel_turns.specs.Standing.{seen}
use Rattle.pcc_io.specs.LineClocks.{LineState}
use Rattle.pcc_steps.specs.Asking.{Ask}
use Rattle.channel_core.specs.CommandHistory.{marked_done}
use Rattle.channel_core.specs.Readings.{counted}
use Rattle.channel_core.specs.Sendings.{FliesWith, command_of, is_flying}
use Rattle.channel_core.specs.declared.answers.Look.TheVariants as look
use Rattle.channel_turns.specs.EndsStates.{looked}
use Rattle.channel_turns.proofs.Standings.{clear_rings, clear_stands, flies_with, is_flown}
use Rattle.channel_turns.proofs.Tellings.{clear_is, takes}
use Rattle.channel_turns.proofs.ends.PlainEnds.look.Goals as goal

pub invariant_of-self : goal.invariant_of-self
invariant_of-self g c = let x = c.self.inside in let exec = g.E.Executor.exec_of in let is_state = g.E.Executor.is_state in let room_of = g.E.Executor.room_of in let first : List ℕ = x.start.value.device in let opening : List ℕ = x.start.value.ask.space in let rs : List Record = x.history.records in let flight : Option Pending = command_of x.history.sent in let r = c.in-Clear.ensures in
    let flies : is_flying x.history.sent ≡ true = subst (λ (z : EndsSeen). is_flying z.state.history.sent ≡ true) (sym c.self.view_is) c.requires.flies in
    let left : x.link.ask.looks < x.link.ask.budget = subst (λ (z : EndsSeen). z.state.looks < z.state.budget) (sym c.self.view_is) c.requires.left in (
      clear_stands exec x.head first opening is_state room_of x.link c.look.new.self rs flight x.executed r.rest (is_flown x.history.sent x.link.ask flies c.self.invariant.0.carries) left r.steps c.self.invariant.0,
      c.self.invariant.1,
    )

pub mark_done-place-requires : goal.mark_done-place-requires
mark_done-place-requires g c = let x = c.self.inside in let exec = g.E.Executor.exec_of in let is_state = g.E.Executor.is_state in let room_of = g.E.Executor.room_of in let first : List ℕ = x.start.value.device in let opening : List ℕ = x.start.value.ask.space in let rs : List Record = x.history.records in let flight : Option Pending = command_of x.history.sent in let r = c.in-Drained.ensures in
    let flies : is_flying x.history.sent ≡ true = subst (λ (z : EndsSeen). is_flying z.state.history.sent ≡ true) (sym c.self.view_is) c.requires.flies in
    let left : x.link.ask.looks < x.link.ask.budget = subst (λ (z : EndsSeen). z.state.looks < z.state.budget) (sym c.self.view_is) c.requires.left in
    let space : c.space.result.now ≡ c.look.new.self.ask.space = c.space.ensures ∙ ap (λ (a : Ask). a.space) c.ask-in-Drained.ensures in
    subst (λ (l : List ℕ). FliesWith x.history.sent (length l)) (sym space) (flies_with exec x.head first opening is_state room_of x.link c.look.new.self rs x.history.sent x.executed c.in-Drained.error flies left r.steps c.self.invariant.0)

pub invariant_of-self-in-Drained : goal.invariant_of-self-in-Drained
invariant_of-self-in-Drained g c = let x = c.self.inside in let exec = g.E.Executor.exec_of in let is_state = g.E.Executor.is_state in let room_of = g.E.Executor.room_of in let first : List ℕ = x.start.value.device in let opening : List ℕ = x.start.value.ask.space in let rs : List Record = x.history.records in let flight : Option Pending = command_of x.history.sent in let r = c.in-Drained.ensures in
    let flies : is_flying x.history.sent ≡ true = subst (λ (z : EndsSeen). is_flying z.state.history.sent ≡ true) (sym c.self.view_is) c.requires.flies in
    let left : x.link.ask.looks < x.link.ask.budget = subst (λ (z : EndsSeen). z.state.looks < z.state.budget) (sym c.self.view_is) c.requires.left in
    let space : c.space.result.now ≡ c.look.new.self.ask.space = c.space.ensures ∙ ap (λ (a : Ask). a.space) c.ask-in-Drained.ensures in
    let clock : c.count-done.new.self.clock ≡ record x.caller.clock { taken = counted x.caller.clock.taken } = (λ i. (c.count-done.ensures.count i).clock) ∙ (c.now-at.ensures.rest ∙ ap (λ (n : ℕ). record x.caller.clock { taken = n }) c.now-at.ensures.count) in
    let took = takes exec x.head first opening is_state room_of x.caller.clock c.count-done.new.self.clock x.link c.look.new.self x.history c.mark_done-place.new.self x.executed x.hold c.count-done.result.at c.count-done.result.number c.mark_done-place.result c.given_up-late.result c.in-Drained.error
    r.rest left r.steps flies ((λ i. (c.count-done.ensures.reading i).at) ∙ c.now-at.ensures.exact, (λ i. (c.count-done.ensures.reading i).number) ∙ c.self.invariant.1.counted, clock)
    (c.mark_done-place.ensures.state ∙ ap (λ (l : List ℕ). marked_done c.in-Drained.error l c.count-done.result.at c.count-done.result.number x.history) space) c.mark_done-place.ensures.place c.given_up-late.ensures c.self.invariant.0 in (
      took.stands,
      record {
        limited = (λ i. (c.count-done.ensures.count i).limits) ∙ c.self.invariant.1.limited;
        counted = (λ i. (c.count-done.ensures.count i).readings) ∙ (ap counted c.self.invariant.1.counted ∙ ap (λ (k : LineState). k.taken) (sym clock));
      },
    )

pub returns-in-Clear-clause-state : goal.returns-in-Clear-clause-state
returns-in-Clear-clause-state g c = let x = c.self.inside in let exec = g.E.Executor.exec_of in let is_state = g.E.Executor.is_state in let room_of = g.E.Executor.room_of in let first : List ℕ = x.start.value.device in let opening : List ℕ = x.start.value.ask.space in let rs : List Record = x.history.records in let flight : Option Pending = command_of x.history.sent in let r = c.in-Clear.ensures in
    let flies : is_flying x.history.sent ≡ true = subst (λ (z : EndsSeen). is_flying z.state.history.sent ≡ true) (sym c.self.view_is) c.requires.flies in
    let left : x.link.ask.looks < x.link.ask.budget = subst (λ (z : EndsSeen). z.state.looks < z.state.budget) (sym c.self.view_is) c.requires.left in
    let was : seen exec x.head x.caller.clock first opening x.link x.history x.executed x.hold ≡ c.args.self.now.state = ap (λ (z : EndsSeen). z.state) c.self.view_is in
    let ring = clear_rings exec x.head first opening is_state room_of x.link rs x.history.sent x.executed c.self.invariant.0 flies (r.clear refl) in
    ap (λ (n : ℕ). record { now = seen exec x.head x.caller.clock first opening c.look.new.self x.history x.executed x.hold; told = look.Clear n }) (c.looks.ensures ∙ ap (λ (a : Ask). a.looks) c.ask.ensures)
    ∙ (clear_is exec x.head first opening x.caller.clock x.link c.look.new.self x.history x.executed x.hold ring r.steps ∙ ap (looked exec) was)

pub returns-in-Drained-clause-state : goal.returns-in-Drained-clause-state
returns-in-Drained-clause-state g c = let x = c.self.inside in let exec = g.E.Executor.exec_of in let is_state = g.E.Executor.is_state in let room_of = g.E.Executor.room_of in let first : List ℕ = x.start.value.device in let opening : List ℕ = x.start.value.ask.space in let rs : List Record = x.history.records in let flight : Option Pending = command_of x.history.sent in let r = c.in-Drained.ensures in
    let flies : is_flying x.history.sent ≡ true = subst (λ (z : EndsSeen). is_flying z.state.history.sent ≡ true) (sym c.self.view_is) c.requires.flies in
    let left : x.link.ask.looks < x.link.ask.budget = subst (λ (z : EndsSeen). z.state.looks < z.state.budget) (sym c.self.view_is) c.requires.left in
    let space : c.space.result.now ≡ c.look.new.self.ask.space = c.space.ensures ∙ ap (λ (a : Ask). a.space) c.ask-in-Drained.ensures in
    let clock : c.count-done.new.self.clock ≡ record x.caller.clock { taken = counted x.caller.clock.taken } = (λ i. (c.count-done.ensures.count i).clock) ∙ (c.now-at.ensures.rest ∙ ap (λ (n : ℕ). record x.caller.clock { taken = n }) c.now-at.ensures.count) in
    let took = takes exec x.head first opening is_state room_of x.caller.clock c.count-done.new.self.clock x.link c.look.new.self x.history c.mark_done-place.new.self x.executed x.hold c.count-done.result.at c.count-done.result.number c.mark_done-place.result c.given_up-late.result c.in-Drained.error
    r.rest left r.steps flies ((λ i. (c.count-done.ensures.reading i).at) ∙ c.now-at.ensures.exact, (λ i. (c.count-done.ensures.reading i).number) ∙ c.self.invariant.1.counted, clock)
    (c.mark_done-place.ensures.state ∙ ap (λ (l : List ℕ). marked_done c.in-Drained.error l c.count-done.result.at c.count-done.result.number x.history) space) c.mark_done-place.ensures.place c.given_up-late.ensures c.self.invariant.0 in
    let was : seen exec x.head x.caller.clock first opening x.link x.history x.executed x.hold ≡ c.args.self.now.state = ap (λ (z : EndsSeen). z.state) c.self.view_is in
    took.told ∙ ap (looked exec) was
