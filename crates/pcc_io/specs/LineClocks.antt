-- What contracts see of a clock on a line.
use Rattle.std.specs.Prelude.{ℕ, Option}
use Rattle.pcc_causes.specs.Clock.{line_reading, tells_from}

-- the readings lie on a line from `start` on, `step` apart and moved up by `added`; `taken` were taken, and they are known from number `told_from` on
pub record LineState : Type 0 where
  pub start : ℕ
  pub step : ℕ
  pub added : ℕ
  pub taken : ℕ
  pub told_from : ℕ

-- the reading of a number, if it is known
abbrev pub line_tells : LineState → ℕ → Option ℕ
line_tells c = tells_from c.told_from (line_reading c.start c.step c.added)
