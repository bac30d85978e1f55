use Rattle.std.proofs.Common.{◌≡◌, sym, subst, rules}
use Rattle.cpc_package.specs.Entries.{entries_of}
use Rattle.cpc_package.specs.Bindings.{IsBinding, IsRight, LiesIn, binding_of}
use Rattle.cpc_package.proofs.Bound.{is_binding, is_right, lies_in}
use Rattle.cpc_package.proofs.binding.bind.Goals as goal

-- what is made is the binding of the entries
made : (c : goal.After-sources_of) → binding_of (entries_of c.args.cpc.now) ≡ record { subspace = c.unwrap_or.result; sources = c.sources_of.result }
unfolding binding_of
made c = search rules

bound : (c : goal.After-sources_of) → IsBinding (entries_of c.args.cpc.now) (binding_of (entries_of c.args.cpc.now))
bound c = is_binding c.args.cpc.now c.args.space_len c.in_default.ensures.right (sym c.in_default.ensures.fault)

pub returns-clause-bound : goal.returns-clause-bound
returns-clause-bound c = subst (IsBinding (entries_of c.args.cpc.now)) (made c) (bound c)

pub returns-clause-right : goal.returns-clause-right
returns-clause-right c = subst IsRight (made c) (is_right c.args.cpc.now c.args.space_len _ c.in_default.ensures.right (sym c.in_default.ensures.fault) (bound c))

pub returns-clause-inside : goal.returns-clause-inside
returns-clause-inside c = subst (LiesIn c.args.space_len) (made c) (lies_in (entries_of c.args.cpc.now) c.args.space_len _ (sym c.in_default.ensures.fault) (bound c))
