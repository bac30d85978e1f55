use Rattle.cppc_calls.proofs.Put.{not_wished}
use Rattle.cppc_calls.proofs.wish.put.Goals as goal

pub returns-in_default : goal.returns-in_default
returns-in_default c =
    not_wished c.args.value c.args.source c.args.space.now (record { fits = λ k. (c.type_inv.space k).fits }) c.in_default.not-Some
