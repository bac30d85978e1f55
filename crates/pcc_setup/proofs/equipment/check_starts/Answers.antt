use Rattle.std.proofs.Common.{◌<◌, length, arith}
use Rattle.pcc_setup.proofs.Checking.{at_false, at_true, start_at, start_next, start_refused}
use Rattle.pcc_setup.proofs.equipment.check_starts.Goals as goal

pub starts_inside-requires : goal.starts_inside-requires
starts_inside-requires c = let lt : c.loop-cpu.cpu < length c.args.cpus.now = omega arith in start_at c.args.opened.now c.args.cpus.now c.loop-cpu.cpu _ lt c.requires

pub returns-then-not-branch : goal.returns-then-not-branch
returns-then-not-branch c =
    let lt : c.loop-cpu.cpu < length c.args.cpus.now = omega arith in (
      start_refused c.args.opened.now c.args.cpus.now c.loop-cpu.cpu _ lt (at_false c.in_ok-starts_inside.field-0 _ _ c.in_ok-starts_inside.ensures c.if-not-branch.true)
          c.loop-cpu.invariant,
      tt,
    )

pub loop-cpu-preserved : goal.loop-cpu-preserved
loop-cpu-preserved c =
    let lt : c.loop-cpu.cpu < length c.args.cpus.now = omega arith in
    start_next c.args.opened.now c.args.cpus.now c.loop-cpu.cpu _ lt (at_true c.in_ok-starts_inside.field-0 _ _ c.in_ok-starts_inside.ensures c.if-not-branch.false)
    c.loop-cpu.invariant
