use Rattle.std.proofs.Common.{length, ap, ◌∙◌}
use Rattle.cppc_device.specs.Openings.{opening}
use Rattle.pcc_setup.proofs.Checking.{looked_at, one_fit, one_inside, one_outside, stands_in}
use Rattle.pcc_setup.proofs.equipment.starts_inside.Goals as goal

pub opening-requires : goal.opening-requires
opening-requires c =
    let lt = stands_in c.args.opened.now c.args.cpu.now.subspace c.in-Some.place c.in-Some.ensures in
    let look = looked_at c.args.opened.now c.args.cpu.now c.in-Some.place c.index-opened-place.result c.requires c.in-Some.ensures lt c.index-opened-place.is in
    rw c.as_slice.ensures look.short

pub start_inside-requires-clause-fit : goal.start_inside-requires-clause-fit
start_inside-requires-clause-fit c =
    let lt = stands_in c.args.opened.now c.args.cpu.now.subspace c.in-Some.place c.in-Some.ensures in
    let look = looked_at c.args.opened.now c.args.cpu.now c.in-Some.place c.index-opened-place.result c.requires c.in-Some.ensures lt c.index-opened-place.is in
    one_fit (length c.deref.result.now) c.index-opened-place.result.wiring.room c.args.cpu.now look.fits (c.deref.ensures.len ∙ c.in_ok-registers.ensures.len)

pub returns-in-Ok : goal.returns-in-Ok
returns-in-Ok c =
    let lt = stands_in c.args.opened.now c.args.cpu.now.subspace c.in-Some.place c.in-Some.ensures in
    let read = c.deref.ensures.value ∙ c.in_ok-registers.ensures.items ∙ ap (opening c.index-opened-place.result.wiring.room) c.as_slice.ensures in
    one_inside c.args.opened.now c.args.cpu.now c.in-Some.place c.index-opened-place.result c.deref.result.now c.in-Some.ensures lt c.index-opened-place.is read
    c.in-Ok.ensures

pub returns : goal.returns
returns c =
    let lt = stands_in c.args.opened.now c.args.cpu.now.subspace c.in-Some.place c.in-Some.ensures in
    let read = c.deref.ensures.value ∙ c.in_ok-registers.ensures.items ∙ ap (opening c.index-opened-place.result.wiring.room) c.as_slice.ensures in
    one_outside c.args.opened.now c.args.cpu.now c.in-Some.place c.index-opened-place.result c.deref.result.now _ c.in-Some.ensures lt c.index-opened-place.is read
    c.in-Err.ensures
