use Rattle.pcc_setup.specs.SetUps.{AllNamed}
use Rattle.pcc_setup.proofs.action.first_wrong.Given as goal

-- the actions before name what is opened
abbrev pub invariant-loop-place : goal.invariant-loop-place
invariant-loop-place l = AllNamed l.scenario l.place
