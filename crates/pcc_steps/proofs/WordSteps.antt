-- One word step on a plain list of words.
use Rattle.std.proofs.Common.{◌≡◌, ℕ, List, length, refl, length-set}
use Rattle.pcc_steps.specs.declared.wiring.Action.{Action}
use Rattle.pcc_steps.specs.declared.wiring.Action.TheVariants.{Load, Store, Swap, Execute, Rest}
use Rattle.pcc_steps.specs.Agree.{act, Finds, found}

-- a step keeps the number of words
pub long_act : (t : Action) (ws : List ℕ) → length (act t ws) ≡ length ws
long_act (Load p) ws = refl
long_act (Store p v) ws = length-set ws p v
long_act (Swap p v) ws = length-set ws p v
long_act (Execute code) ws = refl
long_act Rest ws = refl

-- a step finds the value that `found` says
pub finds_found : (t : Action) (ws : List ℕ) → Finds t ws (found t ws)
finds_found (Load p) ws = refl
finds_found (Store p v) ws = tt
finds_found (Swap p v) ws = refl
finds_found (Execute code) ws = tt
finds_found Rest ws = tt
