use Rattle.std.proofs.Common.{◌<◌, length, sym, arith}
use Rattle.pcc_setup.proofs.Checking.{cap_next, cap_refused}
use Rattle.pcc_setup.proofs.equipment.check_caps.Goals as goal

pub returns-then-not-is_cap_right : goal.returns-then-not-is_cap_right
returns-then-not-is_cap_right c =
    let lt : c.loop-index.index < length c.args.caps.now = omega arith in
    (cap_refused c.args.opened.now c.args.caps.now c.loop-index.index _ lt (sym c.if-not-is_cap_right.ensures) c.loop-index.invariant, tt)

pub loop-index-preserved : goal.loop-index-preserved
loop-index-preserved c =
    let lt : c.loop-index.index < length c.args.caps.now = omega arith in
    cap_next c.args.opened.now c.args.caps.now c.loop-index.index _ lt (sym c.if-not-is_cap_right.ensures) c.loop-index.invariant
