use Rattle.std.proofs.Common.{◌≡◌, length, arith}
use Rattle.std.proofs.lemmas.Bool.Decides.{nat_tests}
use Rattle.pcct_table.proofs.Building.{reading_end, reading_more}
use Rattle.pcct_table.proofs.build.subspaces_of.Goals as goal

pub loop-line-preserved : goal.loop-line-preserved
loop-line-preserved c =
    reading_more c.args.text.now c.loop-line.rest.now c.in-Some.line.now c.in-Some.behind.now c.loop-line.subspaces c.push.new.self c.in-Some-2.subspace c.in-Some.ensures.parts
    (rw (c.in-Some-2.is, c.len-place.ensures.count) at c.in_ok-subspace.ensures) (rw c.len-place.ensures.count at c.if-place-eq-MAX_SUBSPACES.false) c.in_ok-push.ensures.ok c.loop-line.invariant

pub returns : goal.returns
returns c =
    let none : length c.loop-line.rest.now ≡ 0 = grind (arith, nat_tests) in
    reading_end c.args.text.now c.loop-line.rest.now c.loop-line.subspaces c.in_default.ensures.parts none c.loop-line.invariant
