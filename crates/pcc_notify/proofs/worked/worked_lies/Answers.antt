use Rattle.std.proofs.Common.{inl, inr, List, [], ◌∷◌, length, refl, ap, sym, arith}
use Rattle.pcc_history.specs.Channel.{Exchange}
use Rattle.pcc_notify.proofs.Lies.{Handled, below, handled, other_at}
use Rattle.pcc_notify.specs.declared.notice.Notice.{Notice}
use Rattle.pcc_notify.specs.Notices.{handled_of}
use Rattle.pcc_notify.specs.Worked.{first_exchange, second_exchange}
use Rattle.pcc_notify.proofs.worked.worked_lies.Goals as goal

pub returns-clause-handled_twice : goal.returns-clause-handled_twice
returns-clause-handled_twice c = λ h. other_at 1 2 1 _ refl refl (λ e. below 1 2 (omega arith) (sym e)) (λ last. refl) (handled _ _ _ h)

pub returns-clause-handled_again : goal.returns-clause-handled_again
returns-clause-handled_again c = λ h. too_long (handled _ _ _ h)
  where
    too_long : Handled (handled_of (first_exchange ∷ second_exchange ∷ second_exchange ∷ [])) → ⊥
    too_long (inl e) = below 2 3 (omega arith) (ap (λ (l : List Notice). length l) e)
    too_long (inr (last, e)) = below 2 4 (omega arith) (ap (λ (l : List Notice). length l) e)

pub returns-clause-out_of_order : goal.returns-clause-out_of_order
returns-clause-out_of_order c = λ h. other_at 0 1 2 _ refl refl (λ e. below 1 2 (omega arith) e) (λ last. refl) (handled _ _ _ h)

pub returns-clause-first_left_out : goal.returns-clause-first_left_out
returns-clause-first_left_out c = λ h. other_at 0 1 2 _ refl refl (λ e. below 1 2 (omega arith) e) (λ last. refl) (handled _ _ _ h)

pub returns-clause-none_handled : goal.returns-clause-none_handled
returns-clause-none_handled c = λ h. too_short (handled _ _ _ h)
  where
    too_short : Handled (handled_of []) → ⊥
    too_short (inl e) = below 0 2 (omega arith) (sym (ap (λ (l : List Notice). length l) e))
    too_short (inr (last, e)) = below 1 2 (omega arith) (sym (ap (λ (l : List Notice). length l) e))

pub returns-clause-reply_as_input : goal.returns-clause-reply_as_input
returns-clause-reply_as_input c = λ h. other_at 1 2 1 _ refl refl (λ e. below 1 2 (omega arith) (sym e)) (λ last. refl) (handled _ _ _ h)

pub returns-clause-none_recorded : goal.returns-clause-none_recorded
returns-clause-none_recorded c = λ h. elim h.recorded_all [
  | inl e ↦ below 0 2 (omega arith) (sym (ap (λ (l : List Exchange). length l) e))
  | inr p ↦ below 1 2 (omega arith) (sym (ap (λ (l : List Exchange). length l) p.1))
]

pub returns-clause-vanished : goal.returns-clause-vanished
returns-clause-vanished c = λ h. elim h.recorded_all [
  | inl e ↦ below 1 2 (omega arith) (sym (ap (λ (l : List Exchange). length l) e))
  | inr p ↦ p.2
]
