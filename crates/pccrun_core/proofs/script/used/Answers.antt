use Rattle.std.proofs.Common.{sym}
use Rattle.pccrun_core.proofs.Refused.{not_used}
use Rattle.pccrun_core.proofs.script.used.Goals as goal

pub returns-in-Some : goal.returns-in-Some
returns-in-Some c = not_used c.args.command c.args.scenario.now c.args.set_up c.in-Some.fault c.requires (sym c.in-Some.ensures)
