use Rattle.pcct_codec.proofs.Texts.{has_spelling, has_text}
use Rattle.pcct_codec.proofs.write.texts_of_tables.Goals as goal

pub returns : goal.returns
returns c = λ t. (has_spelling t, has_text t)
