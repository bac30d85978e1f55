use Rattle.std.proofs.Common.{◌<◌, ◌≤◌, length, arith}
use Rattle.script_run.proofs.Starting.{binding_more, bindings_end, place_within}
use Rattle.script_run.proofs.step.bindings_of.Goals as goal

pub at-subspace-requires : goal.at-subspace-requires
at-subspace-requires c =
    let lt : c.loop-i.i < length c.args.set_up.now.places = omega arith in
    (place_within c.args.set_up.now.opened c.args.set_up.now.places c.loop-i.i c.at-place.result.now c.requires lt c.at-place.ensures).0

pub at-requires : goal.at-requires
at-requires c =
    let lt : c.loop-i.i < length c.args.set_up.now.places = omega arith in
    (place_within c.args.set_up.now.opened c.args.set_up.now.places c.loop-i.i c.at-place.result.now c.requires lt c.at-place.ensures).1 c.at-subspace.result.now c.at-subspace.ensures

pub loop-i-preserved : goal.loop-i-preserved
loop-i-preserved c = λ bs h.
    let lt : c.loop-i.i < length c.args.set_up.now.places = omega arith in
    binding_more c.args.set_up.now.opened bs c.args.set_up.now.places c.loop-i.i c.at-place.result.now c.at-subspace.result.now c.at.result.now c.loop-i.cpus.items c.push.new.self.items h lt c.at-place.ensures c.at-subspace.ensures c.at.ensures
    c.in_ok-push.ensures.items (c.loop-i.invariant bs h)

pub returns : goal.returns
returns c = λ bs h.
    let le : length c.args.set_up.now.places ≤ c.loop-i.i = omega arith in
    bindings_end c.args.set_up.now.opened bs c.args.set_up.now.places c.loop-i.i c.loop-i.cpus.items h le (c.loop-i.invariant bs h)
