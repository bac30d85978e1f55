use Rattle.pcct_codec.proofs.Cutting.{cut_same, cut_start}
use Rattle.pcct_codec.proofs.reader.cutting_laws.Goals as goal

pub returns-clause-cut : goal.returns-clause-cut
returns-clause-cut c = cut_start

pub returns-clause-same : goal.returns-clause-same
returns-clause-same c = cut_same
