use Rattle.std.proofs.Common.{◌*◌, ◌≤◌, ap, arith}
use Rattle.cpc_package.specs.Bindings.{end_of, field_of, gas_of}
use Rattle.cpc_package.proofs.binding.source_of.Goals as goal

pub overflow_cast-result : goal.overflow_cast-result
overflow_cast-result c =
    let inside : end_of (field_of c.in-Register.register.gas) ≤ 8 * c.args.space_len = c.requires.inside c.in-Register.register.gas (ap gas_of c.in-Register.is) in
    omega (arith, inside, c.start_of.ensures, c.requires.small)
