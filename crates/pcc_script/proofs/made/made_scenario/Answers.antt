use Rattle.std.proofs.Common.{arith}
use Rattle.std.proofs.lemmas.Grind.{common_steps}
use Rattle.pcc_script.specs.Made.{made_scenario_of}
use Rattle.pcc_script.proofs.Generated.{is_spelled}
use Rattle.pcc_script.proofs.made.made_scenario.Goals as goal

pub returns-clause-spelled : goal.returns-clause-spelled
unfolding made_scenario_of
returns-clause-spelled c = is_spelled c.args.n _ c.requires.few (grind (arith, common_steps))
