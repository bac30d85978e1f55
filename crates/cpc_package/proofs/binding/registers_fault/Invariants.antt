use Rattle.std.proofs.Common.{◌≡◌, drop}
use Rattle.cpc_package.specs.Entries.{entries_of}
use Rattle.cpc_package.specs.Bindings.{first_from, gas_of, register_test}
use Rattle.cpc_package.proofs.binding.registers_fault.Given as goal

abbrev pub invariant-loop-n : goal.invariant-loop-n
invariant-loop-n l =
    first_from (λ n e. register_test (entries_of l.cpc) l.space_len n (gas_of e)) l.n (drop l.n (entries_of l.cpc))
    ≡ first_from (λ n e. register_test (entries_of l.cpc) l.space_len n (gas_of e)) 0 (entries_of l.cpc)
