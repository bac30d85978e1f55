use Rattle.std.proofs.Common.{◌<◌, length, arith}
use Rattle.script_run.proofs.ChannelLists.{one_more_journal}
use Rattle.script_run.proofs.step.put_journals.Goals as goal

pub loop-place-preserved : goal.loop-place-preserved
loop-place-preserved c =
    let lt : c.loop-place.place < length c.args.channels.now = omega arith in
    one_more_journal c.args.channels.now c.loop-place.place c.index-channels-place.result c.args.out.now.items c.loop-place.out.items c.put_journal.new.out.items lt c.index-channels-place.is
    (rw (c.head.ensures, c.records.ensures.items, c.pending.ensures) at c.in_ok-put_journal.ensures) c.loop-place.invariant
