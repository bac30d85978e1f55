use Rattle.channel_turns.specs.Outcomes.{StandsFor}
use Rattle.channel_turns.specs.Replies.{StillPending, TimedOut}
use Rattle.script_run.specs.ReplyText.{reply_text}
use Rattle.script_run.proofs.Replies.{one_reply}
use Rattle.script_run.proofs.reply.put_reply.Goals as goal

pub returns-in-StillPending : goal.returns-in-StillPending
unfolding reply_text
returns-in-StillPending c =
    one_reply c.put_number_after-in-StillPending.result (StandsFor c.args.records.now c.args.outcome) c.args.line (StillPending c.in-StillPending.looks) c.args.out.now.items c.put_number_after-in-StillPending.new.out.items
    c.put_number_after-in-StillPending.ensures (λ reply h. rw c.in-StillPending.is at h)

pub returns-in-TimedOut : goal.returns-in-TimedOut
unfolding reply_text
returns-in-TimedOut c =
    one_reply c.put_number_after-in-TimedOut.result (StandsFor c.args.records.now c.args.outcome) c.args.line (TimedOut c.in-TimedOut.looks) c.args.out.now.items c.put_number_after-in-TimedOut.new.out.items
    c.put_number_after-in-TimedOut.ensures (λ reply h. rw c.in-TimedOut.is at h)
