use Rattle.std.proofs.Common.{◌<◌, length, arith}
use Rattle.pcc_setup.proofs.Checking.{cpu_next}
use Rattle.pcc_setup.proofs.processor.bind_all.Goals as goal

pub loop-cpu-preserved : goal.loop-cpu-preserved
loop-cpu-preserved c =
    let lt : c.loop-cpu.cpu < length c.args.packages.now = omega arith in
    cpu_next c.args.opened.now c.args.packages.now c.deref.result.now c.loop-cpu.cpus.items c.push.new.self.items c.loop-cpu.cpu c.as_slice.result.now c.at.result.now c.in-Ok.binding lt
    c.as_slice.ensures c.at.ensures c.deref.ensures.value c.loop-cpu.invariant c.in-Ok.ensures c.in_ok-push-in-Ok.ensures.items
