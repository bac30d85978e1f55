use Rattle.std.proofs.Common.{refl}
use Rattle.journal_reading.proofs.Public.{only_found}
use Rattle.journal_reading.proofs.reading.told_from.Goals as goal

pub returns-in-Ok-clause-only : goal.returns-in-Ok-clause-only
returns-in-Ok-clause-only c = λ t long h. only_found c.args.text.now c.in-Ok.front.1.now c.in-Ok.front.0 t _ long c.in-Ok.ensures.told refl h
