use Rattle.std.proofs.Common.{◌≡◌}
use Rattle.pcc_script.specs.Made.{generated, made_calls}
use Rattle.pcc_script.proofs.made.calls.Given as goal

-- the calls at the places before the next one are made, and the number at it is known
abbrev pub invariant-loop-place : goal.invariant-loop-place
invariant-loop-place l = record { made : l.actions ≡ made_calls l.place; number : l.x ≡ generated l.place }
