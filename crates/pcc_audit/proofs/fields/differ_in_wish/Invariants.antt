use Rattle.pcc_audit.proofs.Bits.{NoneDiffers}
use Rattle.pcc_audit.proofs.fields.differ_in_wish.Given as goal

abbrev pub invariant-loop-cpu : goal.invariant-loop-cpu
invariant-loop-cpu l = NoneDiffers l.cpus l.before l.input l.cpu-index
