use Rattle.std.proofs.Common.{sym}
use Rattle.pcc_text.proofs.Laws.{number_above, number_within}
use Rattle.pcc_text.proofs.reading.number.Goals as goal

pub returns-then-n-limit-clause-value : goal.returns-then-n-limit-clause-value
returns-then-n-limit-clause-value c = sym (number_within _ _ _ (sym c.in_ok-n.ensures) c.if-n-limit.true)

pub returns-else-n-limit-clause-value : goal.returns-else-n-limit-clause-value
returns-else-n-limit-clause-value c = sym (number_above _ _ _ (sym c.in_ok-n.ensures) c.if-n-limit.false)
