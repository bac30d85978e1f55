use Rattle.script_run.proofs.Ranged.{opened_ranges}
use Rattle.script_run.proofs.Requests.{run_ranges}
use Rattle.script_run.proofs.ranges.range_laws.Goals as goal

pub returns-clause-one : goal.returns-clause-one
returns-clause-one c = run_ranges

pub returns-clause-script : goal.returns-clause-script
returns-clause-script c = opened_ranges
