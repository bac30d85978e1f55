-- The space that the answering machine lends to a device.
use Rattle.std.specs.Prelude.{ℕ, List, length, take}
use Rattle.std.specs.Borrow.{Lends, MutBor, Fml, u8, Array}
use Rattle.pcc_history.specs.Channel.{over}
use Rattle.pcc_steps.specs.Answering.{Answer}
use Rattle.pcc_steps.specs.contracts.answer.AnswerState.{the_row}

-- the machine with what was written in its space
abbrev pub with_space : Answer → List ℕ → Answer
with_space a w = record a { space = take (length a.space) (over a.space w) }

abbrev pub LendsSpace : MutBor Answer → MutBor (List ℕ) → Fml
LendsSpace s r = Lends the_row (Array u8 0) s r (with_space s.now)
