use Rattle.pccrun_core.proofs.Tops.{stepped}
use Rattle.pccrun_core.proofs.step.step.Goals as goal

pub returns-in_ok-run_text-in-Ok : goal.returns-in_ok-run_text-in-Ok
returns-in_ok-run_text-in-Ok c =
    stepped c.args.text.now c.in-Ok.served.scenario c.in-Ok.served.set_up.opened c.in_ok-run_text-in-Ok.field-0.items c.in-Ok.ensures.script c.in_ok-run_text-in-Ok.ensures
