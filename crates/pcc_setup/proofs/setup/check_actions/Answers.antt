use Rattle.std.proofs.Common.{ℕ, ◌+◌, ap}
use Rattle.pcc_setup.proofs.Checks.{first_action_wrong}
use Rattle.pcc_setup.proofs.setup.check_actions.Goals as goal

pub returns-in-Some : goal.returns-in-Some
returns-in-Some c =
    let wrong = c.in-Some.ensures.first in
    first_action_wrong c.args.scenario.now c.in-Some.field-0.place _ wrong.0 c.in-Some.field-0.fault wrong.1 wrong.2 wrong.3
    (ap (λ (n : ℕ). n + c.in-Some.field-0.place) c.first_action.ensures.number)
