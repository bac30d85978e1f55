use Rattle.std.proofs.Common.{◌<◌, length, arith}
use Rattle.pcc_setup.proofs.Housing.{number_at, place_next}
use Rattle.pcc_setup.proofs.places.places_of.Goals as goal

pub overflow_cast-count_on : goal.overflow_cast-count_on
overflow_cast-count_on c =
    let lt : c.loop-cpu.cpu < length c.args.cpus.now = omega arith in
    let fits = number_at c.args.opened.now c.args.cpus.now c.loop-cpu.cpu c.count_on.result _ lt c.requires.housed c.count_on.ensures in
    omega (arith, fits)

pub loop-cpu-preserved : goal.loop-cpu-preserved
loop-cpu-preserved c =
    let lt : c.loop-cpu.cpu < length c.args.cpus.now = omega arith in
    place_next c.args.opened.now c.args.cpus.now c.loop-cpu.places c.push.new.self c.loop-cpu.cpu _ c.in-Some.place c.count_on.result lt c.requires.housed
    c.in-Some.ensures c.count_on.ensures c.in_ok-push-in-Some.ensures.ok c.loop-cpu.invariant
