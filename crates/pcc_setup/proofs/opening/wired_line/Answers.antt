use Rattle.std.proofs.Common.{sym}
use Rattle.pcc_setup.proofs.Opens.{image_too_long, opens_line, opens_nothing}
use Rattle.pcc_setup.proofs.opening.wired_line.Goals as goal

pub returns-in-Err : goal.returns-in-Err
returns-in-Err c =
    opens_nothing c.args.table.now c.args.opens.now c.args.place c.at-line.result.now c.in-Some.subspace.now c.in-Err.fault
    c.kind.result c.asks_on-asks.result c.requires c.at-line.ensures (sym c.in-Some.ensures) (rw (← c.as_slice.ensures) (sym c.if-opens_id.ensures))
    c.kind.ensures c.asks_on-asks.ensures c.in-Err.ensures.exact

pub returns-then-image_of-wiring : goal.returns-then-image_of-wiring
returns-then-image_of-wiring c =
    opens_line c.args.table.now c.args.opens.now c.args.place c.at-line.result.now c.in-Some.subspace.now c.in-Ok.wiring c.kind.result c.asks_on-asks.result
    c.image_of.result.now c.requires c.at-line.ensures (sym c.in-Some.ensures) (rw (← c.as_slice.ensures) (sym c.if-opens_id.ensures))
    c.kind.ensures c.asks_on-asks.ensures c.in-Ok.ensures.exact c.image_of.ensures c.if-image_of-wiring.true

pub returns-else-image_of-wiring : goal.returns-else-image_of-wiring
returns-else-image_of-wiring c =
    image_too_long c.args.table.now c.args.opens.now c.args.place c.at-line.result.now c.in-Some.subspace.now c.in-Ok.wiring c.kind.result c.asks_on-asks.result
    c.image_of.result.now c.requires c.at-line.ensures (sym c.in-Some.ensures) (rw (← c.as_slice.ensures) (sym c.if-opens_id.ensures))
    c.kind.ensures c.asks_on-asks.ensures c.in-Ok.ensures.exact c.image_of.ensures c.if-image_of-wiring.false
