use Rattle.std.proofs.Common.{◌≡◌, drop}
use Rattle.cpc_package.specs.Entries.{entries_of}
use Rattle.cpc_package.specs.Bindings.{access_test, first_from, gas_of}
use Rattle.cpc_package.proofs.binding.first_subspace.Given as goal

abbrev pub invariant-loop-n : goal.invariant-loop-n
invariant-loop-n l =
    first_from (λ n e. access_test n (gas_of e)) l.n (drop l.n (entries_of l.cpc)) ≡ first_from (λ n e. access_test n (gas_of e)) 0 (entries_of l.cpc)
