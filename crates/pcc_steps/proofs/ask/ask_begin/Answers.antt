use Rattle.std.proofs.Common.{rules}
use Rattle.pcc_steps.specs.Asking.{Ask}
use Rattle.pcc_steps.proofs.AskBegins.{begun_right}
use Rattle.pcc_steps.proofs.ask.ask_begin.Goals as goal

-- the stage is that of the block that was filled
pub invariant_of-ask : goal.invariant_of-ask
invariant_of-ask c = let x = c.ask.inside in let a : Ask = record {
  wiring = x.wiring;
  stage = x.stage;
  kept = x.kept;
  code = x.code;
  error = x.error;
  sent = x.sent.items;
  shown = x.shown.items;
  loaded = x.loaded.items;
  input = x.input.items;
  space = x.space.items;
  in_flight = x.in_flight;
  looks = x.looks;
  budget = x.budget;
  posts = x.posts;
  steps = x.steps;
} in
    begun_right a c.block_stage-ask-inside.result c.args.code _ _ c.ask.invariant (search rules) (search rules) (search rules) (search rules) (search rules) (search rules) (search rules)
