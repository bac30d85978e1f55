use Rattle.std.proofs.Common.{◌≡◌, ◌≤◌, ◌<◌, ℕ, arith}
use Rattle.std.proofs.lemmas.Option.{same_Some}
use Rattle.weave_headline.proofs.worked.worked_lies.Goals as goal

apart : (m n : ℕ) → m < n → m ≡ n → ⊥
apart m n lt e = omega arith

apart_below : (m n : ℕ) → n < m → m ≡ n → ⊥
apart_below m n lt e = omega arith

pub returns-clause-nothing_recorded : goal.returns-clause-nothing_recorded
returns-clause-nothing_recorded c = λ h. h.kept.tied.own 0

pub returns-clause-marked_late : goal.returns-clause-marked_late
returns-clause-marked_late c = λ h. (h.kept.tied.own 0).0

pub returns-clause-invented_done : goal.returns-clause-invented_done
returns-clause-invented_done c = λ h. apart_below 20 10 (omega arith) (same_Some 20 10 h.kept.read.0.1)

pub returns-clause-read_again : goal.returns-clause-read_again
returns-clause-read_again c = λ h. let le : 4 ≤ 3 = h.more.1 in omega (arith, le)

pub returns-clause-vanished : goal.returns-clause-vanished
returns-clause-vanished c = λ h. h.kept.tied.own 0

pub returns-clause-not_posted : goal.returns-clause-not_posted
returns-clause-not_posted c = λ h. h.kept.tied.own 0
