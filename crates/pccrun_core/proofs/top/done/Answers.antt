use Rattle.pccrun_core.specs.Answers.{MakesText}
use Rattle.pccrun_core.proofs.top.done.Goals as goal

pub returns-in-Ok : goal.returns-in-Ok
returns-in-Ok c = λ command input h. rw c.from_vec.ensures (MakesText c.in-Ok.text.items (rw c.in-Ok.is at h))
