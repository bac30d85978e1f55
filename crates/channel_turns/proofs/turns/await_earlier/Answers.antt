use Rattle.std.proofs.Common.{rules, ◌≡◌, true, Bool, sym, subst, ◌∙◌}
use Rattle.std.specs.Option.{is_some}
use Rattle.channel_core.specs.Sendings.{is_flying}
use Rattle.channel_turns.specs.Seeing.{EndsSeen}
use Rattle.channel_turns.specs.Calls.{HasPolled, WorksEarlier, open_channel}
use Rattle.channel_turns.proofs.Calls.{polled_by, polls_awaited, polls_left}
use Rattle.channel_turns.proofs.Working.{polls_spend}
use Rattle.channel_turns.proofs.turns.await_earlier.Goals as goal

pub returns-clause-polled : goal.returns-clause-polled
returns-clause-polled g c = let exec = g.E.Executor.exec_of in let s : EndsSeen = c.args.ends.now in let t : EndsSeen = c.await_reply.new.ends in let place = c.await_reply.result in let q = c.requires in
    let flies : is_flying s.state.history.sent ≡ true = search rules in
    subst (λ (b : Bool). HasPolled exec c.args.polls (open_channel s) (open_channel t) b) (sym c.is_some.ensures)
    (polled_by exec c.args.polls s t (is_some place) (polls_awaited exec c.args.polls s.state t.state place q.late flies q.early c.await_reply.ensures.state))

pub returns-clause-worked : goal.returns-clause-worked
returns-clause-worked g c = let exec = g.E.Executor.exec_of in let s : EndsSeen = c.args.ends.now in let t : EndsSeen = c.await_reply.new.ends in let place = c.await_reply.result in let q = c.requires in
    let flies : is_flying s.state.history.sent ≡ true = search rules in
    subst (λ (b : Bool). WorksEarlier c.args.polls (open_channel s) (open_channel t) b) (sym c.is_some.ensures)
    (polls_spend exec c.args.polls s t place flies q.looks q.budget c.await_reply.ensures.state c.await_reply.ensures.counts)

pub returns-clause-free : goal.returns-clause-free
returns-clause-free g c = let exec = g.E.Executor.exec_of in let s : EndsSeen = c.args.ends.now in let t : EndsSeen = c.await_reply.new.ends in let place = c.await_reply.result in let q = c.requires in
    let flies : is_flying s.state.history.sent ≡ true = search rules in
    let k = polls_left exec c.args.polls s.state t.state place q.late flies q.memory q.few c.await_reply.ensures.state in λ e. k.none (sym c.is_some.ensures ∙ e)

pub returns-clause-late : goal.returns-clause-late
returns-clause-late g c = let exec = g.E.Executor.exec_of in let s : EndsSeen = c.args.ends.now in let t : EndsSeen = c.await_reply.new.ends in let place = c.await_reply.result in let q = c.requires in
    let flies : is_flying s.state.history.sent ≡ true = search rules in
    let k = polls_left exec c.args.polls s.state t.state place q.late flies q.memory q.few c.await_reply.ensures.state in k.late

pub returns-clause-memory : goal.returns-clause-memory
returns-clause-memory g c = let exec = g.E.Executor.exec_of in let s : EndsSeen = c.args.ends.now in let t : EndsSeen = c.await_reply.new.ends in let place = c.await_reply.result in let q = c.requires in
    let flies : is_flying s.state.history.sent ≡ true = search rules in
    let k = polls_left exec c.args.polls s.state t.state place q.late flies q.memory q.few c.await_reply.ensures.state in k.memory

pub returns-clause-few : goal.returns-clause-few
returns-clause-few g c = let exec = g.E.Executor.exec_of in let s : EndsSeen = c.args.ends.now in let t : EndsSeen = c.await_reply.new.ends in let place = c.await_reply.result in let q = c.requires in
    let flies : is_flying s.state.history.sent ≡ true = search rules in
    let k = polls_left exec c.args.polls s.state t.state place q.late flies q.memory q.few c.await_reply.ensures.state in k.few

pub returns-clause-budget : goal.returns-clause-budget
returns-clause-budget g c = let exec = g.E.Executor.exec_of in let s : EndsSeen = c.args.ends.now in let t : EndsSeen = c.await_reply.new.ends in let place = c.await_reply.result in let q = c.requires in
    let flies : is_flying s.state.history.sent ≡ true = search rules in
    let k = polls_left exec c.args.polls s.state t.state place q.late flies q.memory q.few c.await_reply.ensures.state in k.budget ∙ q.budget

pub returns-clause-readings : goal.returns-clause-readings
returns-clause-readings g c = let exec = g.E.Executor.exec_of in let s : EndsSeen = c.args.ends.now in let t : EndsSeen = c.await_reply.new.ends in let place = c.await_reply.result in let q = c.requires in
    let flies : is_flying s.state.history.sent ≡ true = search rules in
    (polls_awaited exec c.args.polls s.state t.state place q.late flies q.early c.await_reply.ensures.state).readings
