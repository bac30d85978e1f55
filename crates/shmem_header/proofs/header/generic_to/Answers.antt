use Rattle.std.proofs.Common.{arith, rules}
use Rattle.std.proofs.lemmas.Grind.{common_steps}
use Rattle.shmem_header.proofs.Fields.{generic_spelled}
use Rattle.shmem_header.proofs.header.generic_to.Goals as goal

pub returns-clause-fields : goal.returns-clause-fields
returns-clause-fields c = generic_spelled c.args.header _ (record { signature = search rules; command = search rules; status = search rules }) (grind (arith, common_steps))
