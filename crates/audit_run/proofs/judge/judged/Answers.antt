use Rattle.std.proofs.Common.{◌<◌, ◌∙◌, length, subst, arith}
use Rattle.pcc_audit.specs.Verdicts.{IsVerdict}
use Rattle.pcc_audit.specs.declared.verdict.Verdict.{Verdict}
use Rattle.audit_run.specs.Boards.{board_of}
use Rattle.audit_run.proofs.Judging.{judged_more, judged_wrong}
use Rattle.audit_run.proofs.judge.judged.Goals as goal

pub returns-in-No : goal.returns-in-No
returns-in-No c =
    let lt : c.loop-place.place < length c.args.opened.now = omega arith in
    let wrong = subst (λ (v : Verdict). IsVerdict (board_of c.at-subspace.result.now) c.at-told.result.now v) c.in-No.is c.in_ok-verdict_on.ensures in
    judged_wrong c.args.opened.now c.args.journals.now c.loop-place.out.items c.new-line.result.items c.from_vec.result c.loop-place.place c.at-subspace.result.now c.at-told.result.now
    c.in-No.number c.in-No.flaw lt c.requires.count c.at-subspace.ensures c.at-told.ensures wrong c.new-line.ensures.items (c.from_vec.ensures ∙ c.in_ok-put_no-in-No.ensures)
    c.loop-place.invariant

pub loop-place-preserved : goal.loop-place-preserved
loop-place-preserved c =
    let lt : c.loop-place.place < length c.args.opened.now = omega arith in
    let right = subst (λ (v : Verdict). IsVerdict (board_of c.at-subspace.result.now) c.at-told.result.now v) c.in-Yes.is c.in_ok-verdict_on.ensures in
    judged_more c.args.opened.now c.args.journals.now c.loop-place.out.items c.put_yes.new.out.items c.loop-place.place c.at-subspace.result.now c.at-told.result.now lt c.requires.count
    c.at-subspace.ensures c.at-told.ensures right c.in_ok-put_yes-in-Yes.ensures c.loop-place.invariant
