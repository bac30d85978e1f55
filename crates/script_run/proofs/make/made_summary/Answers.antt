use Rattle.script_run.proofs.MadeUp.{made_kept, made_packages}
use Rattle.script_run.proofs.make.made_summary.Goals as goal

pub set_up-requires : goal.set_up-requires
set_up-requires c = made_packages c.args.calls c.in_ok-scenario.scenario c.in_ok-scenario.ensures.made

pub unreachable-requires : goal.unreachable-requires
unreachable-requires c = made_kept c.args.calls c.in_ok-scenario.scenario c.in-Err-Refused.field-0-0 c.in_ok-scenario.ensures.made c.worked_tables.ensures.one (rw c.in-Err-Refused.field-0-is at c.in-Err-Refused.ensures)
