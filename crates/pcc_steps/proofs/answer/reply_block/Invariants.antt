use Rattle.pcc_steps.specs.Answering.{Answer}
use Rattle.pcc_steps.proofs.BlockMoves.{Replies}
use Rattle.pcc_steps.proofs.answer.reply_block.Given as goal

abbrev pub invariant-loop-next : goal.invariant-loop-next
invariant-loop-next l = let x = l.answer-inside in let a : Answer = record {
  wiring = x.wiring;
  stage = x.stage;
  kept = x.kept;
  header = x.header;
  bad = x.bad;
  loaded = x.loaded.items;
  out = x.out.items;
  space = x.space.items;
  steps = x.steps;
} in
    Replies l.from l.initial.words a l.words l.at l.steps l.next
