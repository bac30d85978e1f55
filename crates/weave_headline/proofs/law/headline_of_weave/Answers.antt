use Rattle.weave_headline.proofs.Headlines.{word_headline}
use Rattle.weave_headline.proofs.law.headline_of_weave.Goals as goal

pub returns : goal.returns
returns c = λ exec w limits start opening calls picks trace readings records sent executed run legal. word_headline exec w limits start opening calls picks trace readings records sent executed run legal
