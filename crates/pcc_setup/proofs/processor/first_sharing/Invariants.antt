use Rattle.pcc_setup.proofs.Sharing.{NoneShares}
use Rattle.pcc_setup.proofs.processor.first_sharing.Given as goal

abbrev pub invariant-loop-cpu : goal.invariant-loop-cpu
invariant-loop-cpu l = NoneShares l.cpus l.binding l.cpu
