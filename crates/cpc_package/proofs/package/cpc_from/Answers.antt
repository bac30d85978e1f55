use Rattle.std.proofs.Common.{sym}
use Rattle.std.proofs.lemmas.Result.{err_from_is_err_and}
use Rattle.cpc_package.proofs.Laws.{is_right, package_only, package_exact, faulty_only, faulty_told, faulty_exact, unread_told, unread_exact}
use Rattle.cpc_package.proofs.package.cpc_from.Goals as goal

pub returns-in_err-item-clause-wrong : goal.returns-in_err-item-clause-wrong
returns-in_err-item-clause-wrong c =
    let p = err_from_is_err_and c.from_residual.result c.from_residual.ensures.1 in
    rw (p.1, p.2) (unread_told c.args.bytes.now c.in_err-item.field-0.0 c.in_err-item.ensures.wrong)

pub returns-in_err-item-clause-exact : goal.returns-in_err-item-clause-exact
returns-in_err-item-clause-exact c =
    let p = err_from_is_err_and c.from_residual.result c.from_residual.ensures.1 in
    rw (p.1, p.2) (λ fault h. unread_exact c.args.bytes.now c.in_err-item.field-0.0 fault c.in_err-item.ensures.only c.in_err-item.ensures.exact h)

pub invariant_of-result : goal.invariant_of-result
invariant_of-result c = (c.in_ok-item.ensures.found.1.is, is_right c.in_ok-item.item (sym c.in-None.ensures))

pub returns-in-None-clause-found : goal.returns-in-None-clause-found
returns-in-None-clause-found c = (c.in_ok-item.ensures.found.0, record { item = c.in_ok-item.ensures.found.1; right = is_right c.in_ok-item.item (sym c.in-None.ensures) })

pub returns-in-None-clause-only : goal.returns-in-None-clause-only
returns-in-None-clause-only c = λ cpc front rest h e. package_only c.args.bytes.now front rest c.in_ok-item.item cpc c.in_ok-item.used c.in_ok-item.ensures.only h e

pub returns-in-None-clause-exact : goal.returns-in-None-clause-exact
returns-in-None-clause-exact c = λ fault h. package_exact c.args.bytes.now c.in_ok-item.item c.in_ok-item.used fault c.in_ok-item.ensures.only c.in_ok-item.ensures.exact (sym c.in-None.ensures) h

pub returns-in-Some-clause-only : goal.returns-in-Some-clause-only
returns-in-Some-clause-only c = λ cpc front rest h e. faulty_only c.args.bytes.now front rest c.in_ok-item.item cpc c.in_ok-item.used c.in-Some.fault c.in_ok-item.ensures.only (sym c.in-Some.ensures) h e

pub returns-in-Some-clause-wrong : goal.returns-in-Some-clause-wrong
returns-in-Some-clause-wrong c = rw c.from.ensures (faulty_told c.args.bytes.now c.in_ok-item.item c.in_ok-item.used c.in-Some.fault c.in_ok-item.ensures.found.1 (sym c.in-Some.ensures))

pub returns-in-Some-clause-exact : goal.returns-in-Some-clause-exact
returns-in-Some-clause-exact c = rw c.from.ensures (λ fault h. faulty_exact c.args.bytes.now c.in_ok-item.item c.in_ok-item.used c.in-Some.fault fault c.in_ok-item.ensures.only c.in_ok-item.ensures.exact (sym c.in-Some.ensures) h)
