use Rattle.pcc_steps.proofs.Reaches.{is_sound}
use Rattle.pcc_steps.proofs.laws.reached_laws.Goals as goal

pub returns : goal.returns
returns g c = λ w start opening s is same bytes r. is_sound g.E.Executor.exec_of g.E.Executor.is_state g.E.Executor.room_of g.met.E.Executor.keeps w start opening is same bytes s r
