use Rattle.std.proofs.Common.{◌≡◌, ◌≤◌, ◌%◌, length, sum, arith}
use Rattle.std.proofs.lemmas.Grind.{common_steps}
use Rattle.pcct_codec.specs.Faults.{FaultIs, Right, table_decision}
use Rattle.pcct_codec.specs.Tables.{TableBytes}
use Rattle.pcct_codec.proofs.Decisions.{decided_fault, decided_right, decided_sum}
use Rattle.pcct_codec.proofs.Headers.{table_is, told_ok}
use Rattle.pcct_codec.proofs.Passing.{match_from}
use Rattle.pcct_codec.proofs.read.table_in.Goals as goal

pub structures_from-requires-clause-header : goal.structures_from-requires-clause-header
structures_from-requires-clause-header c = let h = told_ok _ _ c.requires in let least = h.least in omega arith

pub structures_from-requires-clause-short : goal.structures_from-requires-clause-short
structures_from-requires-clause-short c = let h = told_ok _ _ c.requires in let most = h.most in omega arith

pub returns-in_err-subspaces-clause-table : goal.returns-in_err-subspaces-clause-table
returns-in_err-subspaces-clause-table c =
    match_from
    (λ t. TableBytes c.args.bytes.now t × (table_decision c.args.bytes.now ≡ Right))
    (λ f. FaultIs f (table_decision c.args.bytes.now))
    _
    _
    c.from_residual.ensures.1
    (decided_fault c.args.bytes.now c.in_err-subspaces.field-0.0 c.in_err-subspaces.ensures)

pub byte_sum-sum-requires : goal.byte_sum-sum-requires
byte_sum-sum-requires c = let h = told_ok _ _ c.requires in let most = h.most in omega arith

pub returns-then-sum-ne0-clause-table : goal.returns-then-sum-ne0-clause-table
returns-then-sum-ne0-clause-table c =
    rw c.byte_sum-sum.ensures (decided_sum c.args.bytes.now c.in_ok-subspaces.ensures.2 (grind (arith, common_steps)))

pub table_with-requires : goal.table_with-requires
table_with-requires c = let h = told_ok _ _ c.requires in let least = h.least in omega arith

pub returns-clause-table : goal.returns-clause-table
returns-clause-table c =
    let few : length c.in_ok-subspaces.subspaces ≤ 256 = c.in_ok-subspaces.ensures.1 in
    let right : sum c.args.bytes.now % 256 ≡ 0 = rw c.byte_sum-sum.ensures at c.if-sum-ne0.false in
    let same = c.table_with.ensures.subspaces in
    (table_is c.args.bytes.now c.table_with.result c.requires c.table_with.ensures.fields (rw same c.in_ok-subspaces.ensures.0) (rw same few) right, decided_right c.args.bytes.now c.in_ok-subspaces.ensures.2 right)
