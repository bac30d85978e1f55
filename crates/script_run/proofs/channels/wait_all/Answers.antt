use Rattle.std.proofs.Common.{◌<◌, length, arith}
use Rattle.script_run.proofs.ChannelLists.{moved_more}
use Rattle.script_run.proofs.channels.wait_all.Goals as goal

pub loop-place-preserved : goal.loop-place-preserved
loop-place-preserved c =
    let lt : c.loop-place.place < length c.args.channels.now.items = omega arith in
    moved_more c.args.n c.args.channels.now.items c.loop-place.channels.items c.loop-place.place c.index_mut.result.now c.wait.new.self lt c.loop-place.invariant c.index_mut.ensures.value c.wait.ensures
