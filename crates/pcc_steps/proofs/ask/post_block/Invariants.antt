use Rattle.pcc_steps.specs.Asking.{Ask}
use Rattle.pcc_steps.proofs.BlockMoves.{Posts}
use Rattle.pcc_steps.proofs.ask.post_block.Given as goal

abbrev pub invariant-loop-next : goal.invariant-loop-next
invariant-loop-next l = let x = l.ask-inside in let a : Ask = record {
  wiring = x.wiring;
  stage = x.stage;
  kept = x.kept;
  code = x.code;
  error = x.error;
  sent = x.sent.items;
  shown = x.shown.items;
  loaded = x.loaded.items;
  input = x.input.items;
  space = x.space.items;
  in_flight = x.in_flight;
  looks = x.looks;
  budget = x.budget;
  posts = x.posts;
  steps = x.steps;
} in
    Posts l.from l.initial.words a l.words l.at l.steps l.next
