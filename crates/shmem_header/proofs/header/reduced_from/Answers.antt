use Rattle.std.proofs.Common.{rules}
use Rattle.shmem_header.proofs.Fields.{reduced_read}
use Rattle.shmem_header.proofs.header.reduced_from.Goals as goal

pub returns : goal.returns
returns c = reduced_read c.args.word _ _ (search rules) c.pair_from-signature.ensures.low c.pair_from-signature.ensures.high
