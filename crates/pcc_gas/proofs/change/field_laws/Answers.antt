use Rattle.pcc_gas.proofs.Fields.{field_value-lt}
use Rattle.pcc_gas.proofs.Changes.{changes-apart, changes-bytes, changes-length, changes-more, changes-next, changes-none, changes-one, changes-outside, changes-own, changes-taken, same_field}
use Rattle.pcc_gas.proofs.change.field_laws.Goals as goal

pub returns-clause-below : goal.returns-clause-below
returns-clause-below c = field_value-lt

pub returns-clause-same : goal.returns-clause-same
returns-clause-same c = same_field

pub returns-clause-len : goal.returns-clause-len
returns-clause-len c = changes-length

pub returns-clause-bytes : goal.returns-clause-bytes
returns-clause-bytes c = changes-bytes

pub returns-clause-outside : goal.returns-clause-outside
returns-clause-outside c = changes-outside

pub returns-clause-apart : goal.returns-clause-apart
returns-clause-apart c = changes-apart

pub returns-clause-none : goal.returns-clause-none
returns-clause-none c = changes-none

pub returns-clause-one : goal.returns-clause-one
returns-clause-one c = changes-one

pub returns-clause-next : goal.returns-clause-next
returns-clause-next c = changes-next

pub returns-clause-more : goal.returns-clause-more
returns-clause-more c = changes-more

pub returns-clause-own : goal.returns-clause-own
returns-clause-own c = changes-own

pub returns-clause-taken : goal.returns-clause-taken
returns-clause-taken c = changes-taken
