use Rattle.std.proofs.Common.{◌≡◌, ◌++◌, IfOk, subst}
use Rattle.pcc_notify.specs.Notices.{Notified, posted_of, posts_by}
use Rattle.pcc_notify.proofs.Posting.{result_posts, result_stays}
use Rattle.pcc_notify.proofs.notify.NotifyPlain.pick.Goals as goal

pub invariant_of-self : goal.invariant_of-self
invariant_of-self g c = let E = g.E.Executor in
    result_stays E.exec_of E.is_state E.room_of g.K.Clock.taken g.K.Clock.tells c.args.calls.now c.args.side c.pick-picked.result c.self.inside.plain c.pick-picked.new.self
    c.pick-picked.ensures.ok c.pick-picked.ensures.err c.pick-picked.ensures.stood c.self.invariant

pub returns-clause-posted : goal.returns-clause-posted
returns-clause-posted g c = let E = g.E.Executor in let new = c.pick-picked.new.self.channel in
    subst (λ (z : Notified _). IfOk c.pick-picked.result (λ line. posted_of new ≡ z.posted ++ posts_by line.end z.channel.ask.wiring new.words)) c.self.view_is
    (result_posts E.exec_of E.is_state E.room_of g.K.Clock.taken g.K.Clock.tells c.args.calls.now c.args.side c.pick-picked.result c.self.inside.plain c.pick-picked.new.self
    c.pick-picked.ensures.ok c.pick-picked.ensures.stood)
