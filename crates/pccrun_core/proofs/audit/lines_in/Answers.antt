use Rattle.std.proofs.Common.{◌+◌, ◌<◌, ◌^◌, arith}
use Rattle.pccrun_core.proofs.Counting.{count_fits, count_more}
use Rattle.pccrun_core.proofs.audit.lines_in.Goals as goal

pub overflow_add-count : goal.overflow_add-count
overflow_add-count c =
    let fits : c.loop-next.count + 1 < 2 ^ 32 =
    count_fits c.args.text.now c.loop-next.rest.now c.in-Some.field-0-0.now c.in-Some.next.now c.loop-next.count c.loop-next.invariant c.in-Some.ensures.parts c.requires in
    omega (arith, fits)

pub loop-next-preserved : goal.loop-next-preserved
loop-next-preserved c = count_more c.args.text.now c.loop-next.rest.now c.in-Some.field-0-0.now c.in-Some.next.now c.loop-next.count c.loop-next.invariant c.in-Some.ensures.parts
