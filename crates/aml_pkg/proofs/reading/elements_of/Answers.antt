use Rattle.std.proofs.Common.{◌≡◌, ◌+◌, sym, ap, ◌∙◌, arith}
use Rattle.aml_pkg.specs.declared.window.Window.{Window}
use Rattle.std.proofs.lemmas.Result.{err_from_is_err_and}
use Rattle.aml_pkg.specs.Reading.{elements_at}
use Rattle.aml_pkg.proofs.Loop.{loop_more, loop_fails, loop_end, loop_over}
use Rattle.aml_pkg.proofs.reading.elements_of.Goals as goal

pub returns-in_err-element : goal.returns-in_err-element
returns-in_err-element c =
    let p = err_from_is_err_and c.from_residual.result c.from_residual.ensures.1 in
    rw (p.1, p.2) (loop_fails c.in_err-element.field-0.0 c.loop-i.items c.args.count c.loop-i.i c.loop-i.window c.loop-i.rest.now (elements_at c.args.count c.args.window c.args.bytes.now) c.loop-i-test.true c.in_err-element.ensures.gives c.loop-i.invariant.so_far)

pub loop-i-preserved : goal.loop-i-preserved
loop-i-preserved c =
    let next = c.behind_one-window.ensures in
    let same_end : c.behind_one-window.result.end ≡ c.loop-i.window.end = ap (λ (w : Window). w.end) next in
    let one_more : c.behind_one-window.result.whole ≡ c.loop-i.window.whole + 1 = ap (λ (w : Window). w.whole) next in
    record {
      so_far = rw (c.in_ok-push.ensures.ok, next) (loop_more c.loop-i.items c.args.count c.loop-i.i c.loop-i.window c.loop-i.rest.now c.in_ok-element.element c.in_ok-element.after.now (elements_at c.args.count c.args.window c.args.bytes.now) c.loop-i-test.true c.in_ok-element.ensures.gives c.loop-i.invariant.so_far);
      from = omega (arith, c.in_ok-element.ensures.shorter, same_end);
      whole = omega (arith, one_more);
    }

pub returns-then-is_empty : goal.returns-then-is_empty
returns-then-is_empty c = loop_end c.loop-i.items c.args.count c.loop-i.i c.loop-i.window c.loop-i.rest.now (elements_at c.args.count c.args.window c.args.bytes.now) c.loop-i-test.false (sym c.is_empty.ensures ∙ c.if-is_empty.true) c.loop-i.invariant.so_far

pub returns-else-is_empty : goal.returns-else-is_empty
returns-else-is_empty c = rw c.fault.ensures (loop_over c.loop-i.items c.args.count c.loop-i.i c.loop-i.window c.loop-i.rest.now (elements_at c.args.count c.args.window c.args.bytes.now) c.loop-i-test.false (sym c.is_empty.ensures ∙ c.if-is_empty.false) c.loop-i.invariant.so_far)
