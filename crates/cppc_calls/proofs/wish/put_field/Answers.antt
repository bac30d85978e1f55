use Rattle.cppc_calls.proofs.Put.{no_field}
use Rattle.cppc_calls.proofs.wish.put_field.Goals as goal

pub returns-in_default : goal.returns-in_default
returns-in_default c =
    no_field c.args.source c.args.value c.args.space.now (record { fits = λ k. (c.type_inv.space k).fits }) c.in_default.not-At
