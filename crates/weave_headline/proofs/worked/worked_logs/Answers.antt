use Rattle.std.proofs.Common.{refl}
use Rattle.shmem_header.specs.Spelling.{word_bytes}
use Rattle.weave_headline.proofs.worked.worked_logs.Goals as goal

pub returns-clause-one_exchange : goal.returns-clause-one_exchange
unfolding word_bytes
returns-clause-one_exchange c = refl
