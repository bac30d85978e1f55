use Rattle.std.proofs.lemmas.List.{map_push}
use Rattle.pcc_text.proofs.Splitting.{split_cut}
use Rattle.pcc_text.proofs.reading.split.Goals as goal

pub loop-cut-preserved : goal.loop-cut-preserved
loop-cut-preserved c = rw (c.in_ok-push.ensures.items, map_push) (split_cut _ _ _ _ _ _ _ c.in-Some.ensures.steps c.loop-cut.invariant)
