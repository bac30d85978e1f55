use Rattle.std.proofs.Common.{◌≡◌, drop, take}
use Rattle.cpc_package.specs.Entries.{entries_of}
use Rattle.cpc_package.specs.Bindings.{field_of, first_from, gas_of, share_test}
use Rattle.cpc_package.proofs.binding.first_sharing.Given as goal

abbrev pub invariant-loop-a : goal.invariant-loop-a
invariant-loop-a l =
    first_from (λ n e. share_test (field_of l.gas) n (gas_of e)) l.a (drop l.a (take l.n (entries_of l.cpc)))
    ≡ first_from (λ n e. share_test (field_of l.gas) n (gas_of e)) 0 (take l.n (entries_of l.cpc))
