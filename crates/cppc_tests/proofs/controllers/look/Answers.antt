use Rattle.std.proofs.Common.{ℕ, length, subst, sym}
use Rattle.cpc_package.specs.Bindings.{LiesIn}
use Rattle.cppc_tests.proofs.Alone.{all_fit}
use Rattle.cppc_tests.proofs.controllers.look.Goals as goal

pub start_inside-requires-clause-fit : goal.start_inside-requires-clause-fit
start_inside-requires-clause-fit c =
    all_fit (length c.args.space.now) c.in-Ok-bind.cpu c.in-Ok-bind.ensures.right
    (subst (λ (len : ℕ). LiesIn len c.in-Ok-bind.cpu) (sym c.if-space-ne32.false) c.in-Ok-bind.ensures.inside)
