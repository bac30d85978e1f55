use Rattle.std.proofs.Common.{rules}
use Rattle.shmem_header.proofs.Fields.{reduced_spelled}
use Rattle.shmem_header.proofs.header.reduced_to.Goals as goal

pub returns-clause-fields : goal.returns-clause-fields
returns-clause-fields c = reduced_spelled c.args.header _ (record { signature = search rules; command = search rules }) c.pair_to.ensures
