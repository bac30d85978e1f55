use Rattle.script_run.proofs.Several.{run_headlines_all, runs_apart}
use Rattle.script_run.proofs.laws.run_laws.Goals as goal

pub returns-clause-apart : goal.returns-clause-apart
returns-clause-apart c = runs_apart

pub returns-clause-headline : goal.returns-clause-headline
returns-clause-headline c = λ starts lines apart. run_headlines_all starts apart lines
