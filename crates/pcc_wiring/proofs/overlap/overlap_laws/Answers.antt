use Rattle.pcc_wiring.proofs.FirstOverlaps.{apart_kept, apart_or_first, one_overlap}
use Rattle.pcc_wiring.proofs.overlap.overlap_laws.Goals as goal

pub returns-clause-some : goal.returns-clause-some
returns-clause-some c = apart_or_first

pub returns-clause-not_both : goal.returns-clause-not_both
returns-clause-not_both c = apart_kept

pub returns-clause-one_overlap : goal.returns-clause-one_overlap
returns-clause-one_overlap c = one_overlap
