use Rattle.std.proofs.Common.{[], ◌∷◌, refl, arith}
use Rattle.pcc_audit.proofs.WorkedVerdicts.{above_highest, above_written, below_lowest, below_written, both_below, error_false, field_left, first_byte, first_inside, first_written, longer, read_touched, shorter, too_soon, two_touched}
use Rattle.pcc_audit.proofs.worked.worked_flaws.Goals as goal

pub returns-clause-right : goal.returns-clause-right
returns-clause-right c = ((refl, refl), omega arith, λ e. first_written, λ e w. first_inside, (refl, refl, tt))

pub returns-clause-input_size : goal.returns-clause-input_size
returns-clause-input_size c = λ h. shorter h.0

pub returns-clause-output_size : goal.returns-clause-output_size
returns-clause-output_size c = λ h. longer h.1

pub returns-clause-too_soon : goal.returns-clause-too_soon
returns-clause-too_soon c = ((refl, refl), too_soon)

pub returns-clause-read_changed : goal.returns-clause-read_changed
returns-clause-read_changed c = ((refl, refl), omega arith, λ h. read_touched (h refl))

pub returns-clause-two_processors : goal.returns-clause-two_processors
returns-clause-two_processors c = ((refl, refl), omega arith, λ h. two_touched (h refl))

pub returns-clause-no_field : goal.returns-clause-no_field
returns-clause-no_field c = ((refl, refl), omega arith, λ h. field_left (h refl))

pub returns-clause-below_lowest : goal.returns-clause-below_lowest
returns-clause-below_lowest c = ((refl, refl), omega arith, λ e. below_written, λ h. below_lowest (h refl refl))

pub returns-clause-above_highest : goal.returns-clause-above_highest
returns-clause-above_highest c = ((refl, refl), omega arith, λ e. above_written, λ h. above_highest (h refl refl))

pub returns-clause-no_error : goal.returns-clause-no_error
returns-clause-no_error c = ((refl, refl), omega arith, λ e. first_written, λ e w. first_inside, λ h. error_false h.0)

pub returns-clause-other_output : goal.returns-clause-other_output
returns-clause-other_output c =
    ((refl, refl), omega arith, λ e. first_written, λ e w. first_inside, λ h. first_byte 5 6 (5 ∷ []) (λ e. absurd (omega arith)) h.1)

pub returns-clause-size_first : goal.returns-clause-size_first
returns-clause-size_first c = λ h. shorter h.0

pub returns-clause-limits_first : goal.returns-clause-limits_first
returns-clause-limits_first c = ((refl, refl), too_soon)

pub returns-clause-touched_first : goal.returns-clause-touched_first
returns-clause-touched_first c = ((refl, refl), omega arith, λ h. both_below (h refl))

pub returns-clause-range_first : goal.returns-clause-range_first
returns-clause-range_first c = ((refl, refl), omega arith, λ e. below_written, λ h. below_lowest (h refl refl))
