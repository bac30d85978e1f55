use Rattle.script_run.proofs.Replies.{outcome_reply}
use Rattle.script_run.proofs.reply.put_outcome.Goals as goal

pub returns-in-Some : goal.returns-in-Some
returns-in-Some c = rw c.in-Some.is (outcome_reply c.put_answer.result c.args.channels.now c.in-Some.field-0 c.index-channels-place.result c.records.result.now c.args.line c.args.out.now.items c.put_answer.new.out.items c.index-channels-place.is c.records.ensures.items c.put_answer.ensures)
