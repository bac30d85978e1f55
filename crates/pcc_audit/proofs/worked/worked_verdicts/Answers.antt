use Rattle.std.proofs.Common.{[], ◌∷◌, refl, ap, arith}
use Rattle.pcc_journal.specs.declared.text.JournalHead.{JournalHead}
use Rattle.pcc_audit.specs.declared.verdict.Flaw.TheVariants as flaw
use Rattle.pcc_audit.specs.Verdicts.{Flawless, WrongHead, WrongPending}
use Rattle.pcc_audit.specs.Worked.{posted}
use Rattle.pcc_audit.proofs.WorkedVerdicts.{below_lowest, below_written, first_byte, first_inside, first_right, first_written, heads_differ, none_of_two, read_touched, too_soon}
use Rattle.pcc_audit.proofs.worked.worked_verdicts.Goals as goal

pub returns-clause-right : goal.returns-clause-right
returns-clause-right c = Flawless refl first_right (refl, omega arith, λ e. first_written, λ e w. first_inside, tt)

pub returns-clause-wrong_head : goal.returns-clause-wrong_head
returns-clause-wrong_head c = WrongHead (λ e. heads_differ (ap (λ (h : JournalHead). h.id) e))

pub returns-clause-pending_size : goal.returns-clause-pending_size
returns-clause-pending_size c = WrongPending refl first_right (posted 1 20 []) flaw.Size refl none_of_two

pub returns-clause-pending_soon : goal.returns-clause-pending_soon
returns-clause-pending_soon c = WrongPending refl first_right (posted 1 19 (6 ∷ 5 ∷ [])) flaw.Limits refl (refl, too_soon)

pub returns-clause-pending_touched : goal.returns-clause-pending_touched
returns-clause-pending_touched c =
    WrongPending refl first_right (posted 0 20 (6 ∷ 5 ∷ [])) flaw.Touched refl (refl, omega arith, λ h. read_touched (h refl))

pub returns-clause-pending_range : goal.returns-clause-pending_range
returns-clause-pending_range c =
    WrongPending refl first_right (posted 1 20 (0 ∷ 5 ∷ [])) flaw.Range refl
    (refl, omega arith, λ e. below_written, λ h. below_lowest (h refl refl))

pub returns-clause-from_first : goal.returns-clause-from_first
returns-clause-from_first c = ((refl, refl), omega arith, λ e. cc, λ e w. cc, (refl, refl, tt))

pub returns-clause-from_start : goal.returns-clause-from_start
returns-clause-from_start c = ((refl, refl), omega arith, λ e. cc, λ e w. cc, λ h. first_byte 7 5 [] (λ e. absurd (omega arith)) h.1)
