use Rattle.std.proofs.Common.{◌≡◌, ◌-◌}
use Rattle.pcc_steps.specs.Moves.{with_loaded}
use Rattle.pcc_steps.proofs.block.load_words.Given as goal

abbrev pub invariant-loop-at : goal.invariant-loop-at
invariant-loop-at l = with_loaded (l.to - l.at) l.at l.words l.block ≡ with_loaded (l.to - l.from) l.from l.words l.initial.block
