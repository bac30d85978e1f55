use Rattle.std.proofs.Common.{◌<◌, length, arith}
use Rattle.pcc_setup.proofs.Opens.{one_more_open, one_more_opened}
use Rattle.pcc_setup.proofs.opening.open_all.Goals as goal

pub loop-place-preserved : goal.loop-place-preserved
loop-place-preserved c =
    let lt : c.loop-place.place < length c.args.opens.now = omega arith in
    let line = c.in-Ok.ensures in
    let before = c.loop-place.invariant in (
      one_more_opened c.args.table.now c.args.opens.now c.loop-place.opened.items c.push.new.self.items c.in_ok-opened_as-in-Ok.field-0 c.loop-place.place line.0
          c.at.result.now c.in-Ok.wired.subspace.now c.in-Ok.wired.wiring lt line.1 line.3 line.4 c.at.ensures c.in_ok-opened_as-in-Ok.ensures
          c.in_ok-push-in-Ok.ensures.items before.0,
      one_more_open c.args.table.now c.args.opens.now c.loop-place.place line.0 before.1 line.1 line.2,
    )
