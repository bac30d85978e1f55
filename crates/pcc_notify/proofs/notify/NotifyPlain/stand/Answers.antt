use Rattle.pcc_journal.specs.Records.{exchanges_of, exchanges_of_commands}
use Rattle.channel_plain.specs.Picks.{pending_by}
use Rattle.pcc_notify.specs.Notices.{AreNotices, Notified}
use Rattle.pcc_notify.proofs.Handling.{are_notices}
use Rattle.std.proofs.Common.{subst}
use Rattle.pcc_notify.proofs.notify.NotifyPlain.stand.Goals as goal

pub returns-clause-notices : goal.returns-clause-notices
returns-clause-notices g c =
    subst (λ (z : Notified _). AreNotices z.posted (exchanges_of_commands z.channel.executed) (exchanges_of z.channel.calls.records) (pending_by z.channel.ask.in_flight z.channel.calls.sent)) c.self.view_is
    (are_notices g.E.Executor.exec_of g.E.Executor.is_state g.E.Executor.room_of c.self.inside.plain.channel c.stand.ensures.stands)
