use Rattle.std.proofs.Common.{◌≤◌, arith}
use Rattle.pcc_gas.proofs.worked.worked_fields.Goals as goal

-- bit 3 is not the field's
pub returns-clause-bit_beside : goal.returns-clause-bit_beside
returns-clause-bit_beside c = λ put. let e = put.others 3 (λ here. let from : 4 ≤ 3 = here.from in omega arith) in cc
