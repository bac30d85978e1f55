use Rattle.std.proofs.Common.{◌<◌, length, arith}
use Rattle.script_run.proofs.Values.{entries_more}
use Rattle.script_run.proofs.reply.put_entries.Goals as goal

pub loop-entry-preserved : goal.loop-entry-preserved
loop-entry-preserved c =
    let lt : c.loop-entry.entry < length c.args.entries.now = omega arith in
    entries_more c.args.entries.now c.args.out.now.items c.loop-entry.out.items c.put_entry.new.out.items c.loop-entry.entry _ lt c.in_ok-put_entry.ensures c.loop-entry.invariant
