use Rattle.pccrun_core.proofs.Weavable.{alone_at, calls_alone, is_made, some_opened}
use Rattle.pccrun_core.proofs.weave.weave.Goals as goal

pub at-requires : goal.at-requires
at-requires c = some_opened c.args.text.now c.in-Ok.field-0.scenario c.in-Ok.field-0.set_up.opened c.in-Ok.ensures.script

pub woven_text-requires-clause-calls : goal.woven_text-requires-clause-calls
woven_text-requires-clause-calls c = calls_alone c.args.text.now c.in-Ok.field-0.scenario c.in-Ok.field-0.set_up.opened c.in-Ok.ensures.script

pub woven_text-requires-clause-right : goal.woven_text-requires-clause-right
woven_text-requires-clause-right c =
    let h = c.in-Ok.ensures.script in
    let a = alone_at c.args.text.now c.in-Ok.field-0.scenario c.in-Ok.field-0.set_up.opened c.at.result.now h c.at.ensures in
    rw a.0.wiring (c.right_wirings.ensures a.1.asks a.0.open_line.id h.opens.table.flags a.0.subspace a.1.free)

pub returns-in_ok-woven_text-in-Some : goal.returns-in_ok-woven_text-in-Some
returns-in_ok-woven_text-in-Some c =
    is_made c.args.text.now c.in-Ok.field-0.scenario c.in-Ok.field-0.set_up.opened c.at.result.now c.in_ok-woven_text-in-Some.field-0.items c.in-Ok.ensures.script c.at.ensures c.in_ok-woven_text-in-Some.ensures
