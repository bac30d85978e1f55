use Rattle.std.proofs.Common.{◌≡◌, ◌≤◌, drop, length, sym, ap, ◌∙◌, arith, length-drop, length-take, Ok}
use Rattle.std.proofs.lemmas.Grind.{common_steps}
use Rattle.pcct_codec.specs.Faults.{FaultIs, Right, structure_size, structures_decision}
use Rattle.pcct_codec.specs.Tables.{Structures}
use Rattle.pcct_codec.proofs.Passing.{match_from}
use Rattle.pcct_codec.proofs.Walking.{shaped, stands, walk_end, walk_fault, walk_many, walk_more}
use Rattle.pcct_codec.proofs.structures.structures_from.Goals as goal

pub returns-then-len-ge-MAX_SUBSPACES : goal.returns-then-len-ge-MAX_SUBSPACES
returns-then-len-ge-MAX_SUBSPACES c = walk_many c.args.bytes.now c.loop-at.at c.loop-at.subspaces c.loop-at-test.true (grind (arith, common_steps)) c.loop-at.invariant

pub returns-in_err-size : goal.returns-in_err-size
returns-in_err-size c =
    match_from
    (λ v. Structures (drop 48 c.args.bytes.now) v × (length v ≤ 256) × (structures_decision 256 48 (drop 48 c.args.bytes.now) ≡ Right))
    (λ f. FaultIs f (structures_decision 256 48 (drop 48 c.args.bytes.now)))
    _
    _
    c.from_residual.ensures.1
    (walk_fault c.args.bytes.now c.loop-at.at c.loop-at.subspaces c.in_err-size.field-0.0 c.loop-at-test.true (grind (arith, common_steps)) (rw c.behind-rest.ensures at (sym c.structure_size.ensures ∙ c.in_err-size.was)) c.loop-at.invariant)

pub slice_bounds-subspace_from-end : goal.slice_bounds-subspace_from-end
slice_bounds-subspace_from-end c =
    let h = stands c.loop-at.at c.behind-rest.result.now c.in_ok-size.size (sym c.structure_size.ensures ∙ c.in_ok-size.was) in
    let within : c.in_ok-size.size ≤ length c.behind-rest.result.now = h.within in
    omega (arith, length-take c.in_ok-size.size c.behind-rest.result.now)

pub subspace_from-requires-clause-size : goal.subspace_from-requires-clause-size
subspace_from-requires-clause-size c = (shaped c.loop-at.at c.behind-rest.result.now c.in_ok-size.size (sym c.structure_size.ensures ∙ c.in_ok-size.was)).size

pub subspace_from-requires-clause-told : goal.subspace_from-requires-clause-told
subspace_from-requires-clause-told c = (shaped c.loop-at.at c.behind-rest.result.now c.in_ok-size.size (sym c.structure_size.ensures ∙ c.in_ok-size.was)).told

pub overflow_add-at : goal.overflow_add-at
overflow_add-at c =
    let h = stands c.loop-at.at c.behind-rest.result.now c.in_ok-size.size (sym c.structure_size.ensures ∙ c.in_ok-size.was) in
    let within : c.in_ok-size.size ≤ length c.behind-rest.result.now = h.within in
    let n = ap length c.behind-rest.ensures in
    omega (arith, n, length-drop c.loop-at.at c.args.bytes.now)

pub loop-at-preserved : goal.loop-at-preserved
loop-at-preserved c =
    let size : structure_size c.loop-at.at (drop c.loop-at.at c.args.bytes.now) ≡ Ok c.in_ok-size.size = rw c.behind-rest.ensures at (sym c.structure_size.ensures ∙ c.in_ok-size.was) in
    rw c.in_ok-push.ensures.ok (walk_more c.args.bytes.now c.loop-at.at c.in_ok-size.size c.loop-at.subspaces c.in_ok-subspace_from.field-0 c.loop-at-test.true (grind (arith, common_steps)) size (rw c.behind-rest.ensures at c.in_ok-subspace_from.ensures) c.loop-at.invariant)

pub returns : goal.returns
returns c = let w = walk_end c.args.bytes.now c.loop-at.at c.loop-at.subspaces c.loop-at-test.false c.loop-at.invariant in (w.structures, w.few, w.right)
