use Rattle.pccrun_core.proofs.package.raise.Goals as goal

pub returns-in-Err : goal.returns-in-Err
returns-in-Err c = c.refused_package.ensures c.args.bytes.now c.in-Err.ensures
