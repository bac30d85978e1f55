use Rattle.std.proofs.Common.{◌≡◌, ◌≢◌, ◌+◌, ℕ, List, length, sym, ap, ◌∙◌, subst, true, false}
use Rattle.std.specs.Prelude.{Option}
use Rattle.pcc_journal.specs.declared.record.Record.{Record}
use Rattle.pcc_journal.specs.declared.record.Pending.{Pending}
use Rattle.pcc_steps.specs.Agree.{flying}
use Rattle.channel_core.specs.Sendings.{command_of}
use Rattle.channel_core.specs.declared.answers.Turn.TheVariants as turn
use Rattle.channel_turns.specs.ChannelRuns.{journal_limit}
use Rattle.channel_turns.specs.EndsStates.{EndsState, turned}
use Rattle.channel_turns.specs.Seeing.{EndsSeen}
use Rattle.channel_turns.specs.Standing.{LinkState, seen}
use Rattle.channel_turns.proofs.Standings.{count_executed, device_room, idle_rings, idle_stands, served_rings, served_stands}
use Rattle.channel_turns.proofs.Tellings.{turned_on}
use Rattle.channel_turns.proofs.ends.PlainEnds.serve.Goals as goal

pub answer-requires-clause-room : goal.answer-requires-clause-room
answer-requires-clause-room g c = let x = c.self.inside in let exec = g.E.Executor.exec_of in let is_state = g.E.Executor.is_state in let room_of = g.E.Executor.room_of in let first : List ℕ = x.start.value.device in let opening : List ℕ = x.start.value.ask.space in let rs : List Record = x.history.records in let flight : Option Pending = command_of x.history.sent in
    device_room exec x.head first opening is_state room_of g.met.E.Executor.keeps x.link rs flight x.executed c.self.invariant.0

pub invariant_of-self : goal.invariant_of-self
invariant_of-self g c = let x = c.self.inside in let exec = g.E.Executor.exec_of in let is_state = g.E.Executor.is_state in let room_of = g.E.Executor.room_of in let first : List ℕ = x.start.value.device in let opening : List ℕ = x.start.value.ask.space in let rs : List Record = x.history.records in let flight : Option Pending = command_of x.history.sent in let r = c.in-Idle.ensures in (
  idle_stands exec x.head first opening is_state room_of x.link c.answer.new.self rs flight x.executed r.rest r.rests r.long r.keeps c.self.invariant.0,
  c.self.invariant.1,
)

pub invariant_of-self-in-Served : goal.invariant_of-self-in-Served
invariant_of-self-in-Served g c = let x = c.self.inside in let exec = g.E.Executor.exec_of in let is_state = g.E.Executor.is_state in let room_of = g.E.Executor.room_of in let first : List ℕ = x.start.value.device in let opening : List ℕ = x.start.value.ask.space in let rs : List Record = x.history.records in let flight : Option Pending = command_of x.history.sent in let r = c.in-Served.ensures in (
  served_stands exec x.head first opening is_state room_of x.link c.answer.new.self rs flight x.executed r.rest r.rests r.long r.keeps
      (served_rings exec x.head first opening is_state room_of x.link rs flight x.executed c.self.invariant.0 r.line) c.self.invariant.0,
  c.self.invariant.1,
)

pub returns-in-Idle-clause-state : goal.returns-in-Idle-clause-state
returns-in-Idle-clause-state g c = let x = c.self.inside in let exec = g.E.Executor.exec_of in let is_state = g.E.Executor.is_state in let room_of = g.E.Executor.room_of in let first : List ℕ = x.start.value.device in let opening : List ℕ = x.start.value.ask.space in let rs : List Record = x.history.records in let flight : Option Pending = command_of x.history.sent in let r = c.in-Idle.ensures in
    let s : EndsState = seen exec x.head x.caller.clock first opening x.link x.history x.executed x.hold in
    let was : s ≡ c.args.self.now.state = ap (λ (z : EndsSeen). z.state) c.self.view_is in
    let zero_hold : s.hold ≡ 0 = subst (λ (z : EndsSeen). z.state.hold ≡ 0) (sym c.self.view_is) c.requires in
    let few : length s.history.records + flying s.executed ≢ journal_limit = λ e. c.if-len-from-eq-MAX_ITEMS.false ((λ i. (c.len.ensures.value ∙ ap (λ (l : List Record). length l) c.journal.ensures.items) i + (c.from.ensures ∙ count_executed x.executed) i) ∙ e) in
    ap (λ (z : LinkState). record { now = seen exec x.head x.caller.clock first opening z x.history x.executed x.hold; told = turn.Idle }) r.rest
    ∙ (sym (turned_on s false zero_hold few (idle_rings exec x.head first opening is_state room_of x.link rs flight x.executed c.self.invariant.0 r.line)) ∙ ap turned was)

pub returns-in-Served-clause-state : goal.returns-in-Served-clause-state
returns-in-Served-clause-state g c = let x = c.self.inside in let exec = g.E.Executor.exec_of in let is_state = g.E.Executor.is_state in let room_of = g.E.Executor.room_of in let first : List ℕ = x.start.value.device in let opening : List ℕ = x.start.value.ask.space in let rs : List Record = x.history.records in let flight : Option Pending = command_of x.history.sent in let r = c.in-Served.ensures in
    let s : EndsState = seen exec x.head x.caller.clock first opening x.link x.history x.executed x.hold in
    let was : s ≡ c.args.self.now.state = ap (λ (z : EndsSeen). z.state) c.self.view_is in
    let zero_hold : s.hold ≡ 0 = subst (λ (z : EndsSeen). z.state.hold ≡ 0) (sym c.self.view_is) c.requires in
    let few : length s.history.records + flying s.executed ≢ journal_limit = λ e. c.if-len-from-eq-MAX_ITEMS.false ((λ i. (c.len.ensures.value ∙ ap (λ (l : List Record). length l) c.journal.ensures.items) i + (c.from.ensures ∙ count_executed x.executed) i) ∙ e) in
    ap (λ (z : LinkState). record { now = seen exec x.head x.caller.clock first opening z x.history true x.hold; told = turn.Served }) r.rest
    ∙ (sym (turned_on s true zero_hold few (served_rings exec x.head first opening is_state room_of x.link rs flight x.executed c.self.invariant.0 r.line)) ∙ ap turned was)
