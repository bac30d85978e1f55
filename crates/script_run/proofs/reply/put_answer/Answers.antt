use Rattle.script_run.proofs.Replies.{called_reply, read_reply, refused_reply}
use Rattle.script_run.proofs.reply.put_answer.Goals as goal

pub returns-in-Called : goal.returns-in-Called
returns-in-Called c = rw c.in-Called.is (called_reply c.put_reply.result c.args.records.now c.args.line c.args.out.now.items c.put_reply.new.out.items c.in-Called.outcome c.put_reply.ensures)

pub returns-in-Read : goal.returns-in-Read
returns-in-Read c = rw c.in-Read.is (read_reply c.put_values.result c.args.records.now c.args.line c.args.out.now.items c.put_values.new.out.items c.in-Read.values c.put_values.ensures)

pub returns-in-Refused : goal.returns-in-Refused
returns-in-Refused c = rw c.in-Refused.is (refused_reply c.put_refusal.result c.args.records.now c.args.line c.args.out.now.items c.put_refusal.new.out.items c.in-Refused.why c.put_refusal.ensures)
