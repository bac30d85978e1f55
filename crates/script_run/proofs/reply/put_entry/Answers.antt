use Rattle.script_run.proofs.Values.{none_put}
use Rattle.script_run.proofs.reply.put_entry.Goals as goal

pub returns-in-None : goal.returns-in-None
returns-in-None c = none_put c.args.out.now.items c.args.entry c.args.value c.in-None.is
