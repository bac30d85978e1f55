use Rattle.std.proofs.Common.{arith}
use Rattle.std.proofs.lemmas.Grind.{common_steps}
use Rattle.pcc_io.proofs.Known.{taken_exactly, taken_more}
use Rattle.pcc_io.proofs.source.read_to_end.Goals as goal

pub returns-in_err-extend_from_slice-in-Ok-clause-gone :
    goal.returns-in_err-extend_from_slice-in-Ok-clause-gone
returns-in_err-extend_from_slice-in-Ok-clause-gone g c =
    taken_more _ _ _ _ _ _ c.loop-bytes.invariant.0 c.in-Ok.ensures.bytes.0 (grind (arith, common_steps))

pub returns-then-len-limit-clause-too_long : goal.returns-then-len-limit-clause-too_long
returns-then-len-limit-clause-too_long g c = λ n e. (
  cc,
  taken_exactly _ _ _ _ _ _ c.loop-bytes.invariant.0 c.in-Ok.ensures.bytes.0 (grind (arith, common_steps)),
)

pub returns-then-len-limit-clause-gone : goal.returns-then-len-limit-clause-gone
returns-then-len-limit-clause-gone g c =
    taken_more _ _ _ _ _ _ c.loop-bytes.invariant.0 c.in-Ok.ensures.bytes.0 (grind (arith, common_steps))
