use Rattle.std.proofs.Common.{rules, ◌≡◌, Some, subst}
use Rattle.std.specs.List.{slice_get}
use Rattle.pcc_notify.specs.Notices.{Notified, handled_of}
use Rattle.pcc_notify.proofs.Handling.{notice_at, posted_at}
use Rattle.pcc_journal.specs.Records.{exchanges_of, exchanges_of_commands}
use Rattle.channel_plain.specs.Picks.{pending_by}
use Rattle.pcc_notify.proofs.notify.NotifyPlain.notice.Goals as goal

pub returns-clause-handled : goal.returns-clause-handled
returns-clause-handled g c = let x = c.at-command.result.now in
    subst (λ (z : Notified _). slice_get (handled_of (exchanges_of_commands z.channel.executed)) c.args.place ≡ Some (record { code = x.code; input = c.from_vec.result })) c.self.view_is
    (notice_at c.self.inside.plain.channel.executed c.args.place x c.from_vec.result (rw (← c.self.view_is) at c.requires.handled) (rw c.executed.ensures at c.at-command.ensures) (search rules))

pub returns-clause-posted : goal.returns-clause-posted
returns-clause-posted g c = let s = c.args.self.now in
    posted_at s.posted (exchanges_of_commands s.channel.executed) (exchanges_of s.channel.calls.records) (pending_by s.channel.ask.in_flight s.channel.calls.sent) c.args.place _
    c.stand.ensures.notices (returns-clause-handled g c)
