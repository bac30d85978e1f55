use Rattle.std.proofs.Common.{◌≡◌, drop}
use Rattle.cpc_package.specs.Bindings.{first_from, gas_of}
use Rattle.cpc_package.specs.Entries.{entries_of}
use Rattle.pcc_setup.specs.Processors.{channel_of}
use Rattle.pcc_setup.proofs.processor.named_subspace.Given as goal

abbrev pub invariant-loop-n : goal.invariant-loop-n
invariant-loop-n l = first_from (λ n e. channel_of (gas_of e)) l.n (drop l.n (entries_of l.cpc)) ≡ first_from (λ n e. channel_of (gas_of e)) 0 (entries_of l.cpc)
