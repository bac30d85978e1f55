use Rattle.std.proofs.Common.{take}
use Rattle.pcc_setup.specs.Processors.{AreBound}
use Rattle.pcc_setup.proofs.processor.bind_all.Given as goal

-- the lines before are bound
abbrev pub invariant-loop-cpu : goal.invariant-loop-cpu
invariant-loop-cpu l = AreBound l.opened (take l.cpu l.packages) l.cpus.items
