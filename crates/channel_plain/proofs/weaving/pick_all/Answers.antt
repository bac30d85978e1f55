use Rattle.std.proofs.Common.{rules, ◌+◌, ◌++◌, [], ◌∷◌}
use Rattle.channel_plain.proofs.PickLoop.{fresh_follows, follows_more, loops_end, loops_more, loops_start}
use Rattle.channel_plain.proofs.weaving.pick_all.Goals as goal

pub returns-in_err-expect : goal.returns-in_err-expect
returns-in_err-expect g c = (0, [], fresh_follows g.K.Clock.taken g.K.Clock.tells g.E.Executor.exec_of c.args.calls.now g.E.Executor.is_state g.E.Executor.room_of c.args.plain.now c.requires.fresh, search rules)

pub loop-place-init : goal.loop-place-init
loop-place-init g c = loops_start g.K.Clock.taken g.K.Clock.tells g.E.Executor.exec_of c.args.calls.now g.E.Executor.is_state g.E.Executor.room_of g.O.LineSink.took c.args.plain.now c.args.picks.now c.expect.new.self c.requires.fresh

pub loop-place-preserved : goal.loop-place-preserved
loop-place-preserved g c = loops_more g.K.Clock.taken g.K.Clock.tells g.E.Executor.exec_of c.args.calls.now g.E.Executor.is_state g.E.Executor.room_of g.O.LineSink.took c.args.plain.now c.args.picks.now c.loop-place.place c.expect.new.self c.loop-place.out c.add.new.self c.loop-place.plain c.pick.new.self _ c.in_ok-line.line
    c.loop-place-test.true (search rules) c.in_ok-line.ensures.stood c.in_ok-line.ensures.stands c.in_ok-line.ensures.ok c.in_ok-line.ensures.serving c.in_ok-add.ensures c.loop-place.invariant

pub returns-in_err-add : goal.returns-in_err-add
returns-in_err-add g c = let h = c.loop-place.invariant in (
  c.loop-place.place + 1,
  h.trace ++ c.in_ok-line.line ∷ [],
  follows_more g.K.Clock.taken g.K.Clock.tells g.E.Executor.exec_of c.args.calls.now g.E.Executor.is_state g.E.Executor.room_of c.args.plain.now c.args.picks.now c.loop-place.place h.trace c.loop-place.plain c.pick.new.self _ c.in_ok-line.line
      c.loop-place-test.true (search rules) c.in_ok-line.ensures.stood c.in_ok-line.ensures.stands c.in_ok-line.ensures.ok c.in_ok-line.ensures.serving h.follows,
  search rules,
)

pub returns : goal.returns
returns g c = loops_end g.K.Clock.taken g.K.Clock.tells g.E.Executor.exec_of c.args.calls.now g.E.Executor.is_state g.E.Executor.room_of g.O.LineSink.took c.args.plain.now c.args.picks.now c.loop-place.place c.args.out.now c.expect.new.self c.loop-place.out c.loop-place.plain (search rules) c.in_ok-expect.ensures c.loop-place.invariant
