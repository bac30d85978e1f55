use Rattle.pcct_table.proofs.Laws.{spelling}
use Rattle.pcct_table.proofs.subspace.one_spelling.Goals as goal

pub returns : goal.returns
returns c = spelling
