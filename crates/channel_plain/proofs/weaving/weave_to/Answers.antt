use Rattle.std.proofs.Common.{List, subst}
use Rattle.std.proofs.lemmas.Result.{on_ok_weaker}
use Rattle.channel_plain.specs.declared.trace.Side.{Side}
use Rattle.channel_plain.specs.Weaving.{IsWeave}
use Rattle.channel_plain.proofs.JournalIsGood.{is_good}
use Rattle.channel_plain.proofs.WeaveRuns.{is_weave, on_err, stays_of, whole_of_weave}
use Rattle.channel_plain.proofs.weaving.weave_to.Goals as goal

pub returns-clause-run : goal.returns-clause-run
returns-clause-run g c = let h = c.pick_all-done.ensures in let p = c.asking_tables.ensures in let q = c.answering_tables.ensures in
    on_ok_weaker c.pick_all-done.result
    (λ o. (
      h.1,
      subst (λ (l : List Side). IsWeave g.K.Clock.taken g.K.Clock.tells g.E.Executor.exec_of c.args.calls.now g.E.Executor.is_state g.E.Executor.room_of l c.args.plain.now h.1 c.pick_all-done.new.plain) o.0
          (is_weave g.K.Clock.taken g.K.Clock.tells g.E.Executor.exec_of c.args.calls.now g.E.Executor.is_state g.E.Executor.room_of p.post p.look p.step q.begin q.step q.device c.requires.polls _ c.args.plain.now h.1 c.pick_all-done.new.plain c.requires.fresh c.stand.ensures.stands h.2),
      o.1,
    )) h.3

pub returns-clause-cut : goal.returns-clause-cut
returns-clause-cut g c = let h = c.pick_all-done.ensures in let p = c.asking_tables.ensures in let q = c.answering_tables.ensures in
    on_err c.pick_all-done.result (h.0, h.1, is_weave g.K.Clock.taken g.K.Clock.tells g.E.Executor.exec_of c.args.calls.now g.E.Executor.is_state g.E.Executor.room_of p.post p.look p.step q.begin q.step q.device c.requires.polls _ c.args.plain.now h.1 c.pick_all-done.new.plain c.requires.fresh c.stand.ensures.stands h.2)

pub returns-clause-good : goal.returns-clause-good
returns-clause-good g c = is_good c.history_laws.ensures g.E.Executor.exec_of g.E.Executor.is_state g.E.Executor.room_of c.pick_all-done.new.plain.channel c.stand.ensures.stands c.stand.ensures.limits

pub returns-clause-whole : goal.returns-clause-whole
returns-clause-whole g c = let h = c.pick_all-done.ensures in let p = c.asking_tables.ensures in let q = c.answering_tables.ensures in
    whole_of_weave g.K.Clock.taken g.K.Clock.tells g.E.Executor.exec_of c.args.calls.now g.E.Executor.is_state g.E.Executor.room_of _ c.args.plain.now h.1 c.pick_all-done.new.plain
    (is_weave g.K.Clock.taken g.K.Clock.tells g.E.Executor.exec_of c.args.calls.now g.E.Executor.is_state g.E.Executor.room_of p.post p.look p.step q.begin q.step q.device c.requires.polls _ c.args.plain.now h.1 c.pick_all-done.new.plain c.requires.fresh c.stand.ensures.stands h.2)

pub returns-clause-stays : goal.returns-clause-stays
returns-clause-stays g c = let h = c.pick_all-done.ensures in stays_of g.K.Clock.taken g.K.Clock.tells g.E.Executor.exec_of c.args.calls.now g.E.Executor.is_state g.E.Executor.room_of _ c.args.plain.now h.1 c.pick_all-done.new.plain h.2

pub returns-clause-serving : goal.returns-clause-serving
returns-clause-serving g c = c.pick_all-done.ensures.2.serving
