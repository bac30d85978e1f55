use Rattle.std.proofs.Common.{arith}
use Rattle.pcc_wiring.proofs.worked.worked_cases.Goals as goal

pub returns-clause-one_byte : goal.returns-clause-one_byte
returns-clause-one_byte c = record { byte = 4111; in_a = (omega arith, omega arith); in_b = (omega arith, omega arith) }
