use Rattle.journal_reading.proofs.Found.{end_missing}
use Rattle.journal_reading.proofs.lines.end_at.Goals as goal

pub returns-in_default-clause-none : goal.returns-in_default-clause-none
returns-in_default-clause-none c = λ e. end_missing c.args.head.now c.args.text.now c.requires c.in_default.ensures.parts
