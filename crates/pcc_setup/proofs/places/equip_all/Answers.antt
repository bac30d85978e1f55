use Rattle.std.proofs.Common.{◌<◌, length, arith}
use Rattle.pcc_setup.specs.Equipment.{equipped}
use Rattle.pcc_setup.proofs.Checking.{changed_more}
use Rattle.pcc_setup.proofs.places.equip_all.Goals as goal

pub loop-place-preserved : goal.loop-place-preserved
loop-place-preserved c =
    let lt : c.loop-place.place < length c.args.opened.now.items = omega arith in
    changed_more (equipped c.args.cpus.now c.args.caps.now) c.args.opened.now.items c.loop-place.opened.items c.loop-place.place c.index_mut.result.now c.equip.new.one lt
    c.loop-place.invariant c.index_mut.ensures.value c.in_ok-equip.ensures
