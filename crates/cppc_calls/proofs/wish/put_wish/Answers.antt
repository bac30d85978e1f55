use Rattle.std.proofs.Common.{refl, sym}
use Rattle.cppc_calls.proofs.Put.{three}
use Rattle.cppc_calls.proofs.Refusals.{can_put, no_truth, refused}
use Rattle.cppc_calls.proofs.wish.put_wish.Goals as goal

pub returns-in-Some-clause-put : goal.returns-in-Some-clause-put
returns-in-Some-clause-put c = (
  λ e. no_truth e,
  λ can. refused c.args.binding.now c.args.space.now c.args.wish.now c.in-Some.refusal c.requires.right c.requires.inside (sym c.in-Some.ensures) can,
)

pub returns-clause-exact : goal.returns-clause-exact
returns-clause-exact c = (
  sym c.in_default.ensures,
  three c.args.binding.now c.args.wish.now c.args.space.now c.put_field.new.space c.put.new.space c.put-2.new.space c.requires.right
      c.put_field.ensures c.put.ensures c.put-2.ensures,
)

pub returns-clause-put : goal.returns-clause-put
returns-clause-put c = (
  λ _. can_put c.args.binding.now c.args.space.now c.args.wish.now c.requires.right c.requires.inside (sym c.in_default.ensures),
  λ _. refl,
)
