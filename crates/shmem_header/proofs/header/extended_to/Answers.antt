use Rattle.std.proofs.Common.{rules}
use Rattle.shmem_header.proofs.Fields.{extended_spelled}
use Rattle.shmem_header.proofs.header.extended_to.Goals as goal

pub returns-clause-fields : goal.returns-clause-fields
returns-clause-fields c =
    extended_spelled c.args.header c.pair_to.result c.pair_to-2.result (record { signature = search rules; flags = search rules; len = search rules; command = search rules }) c.pair_to.ensures c.pair_to-2.ensures
