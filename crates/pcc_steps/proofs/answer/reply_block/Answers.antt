use Rattle.std.proofs.Common.{rules, ◌≡◌, ℕ, ◌+◌, get_or, set, sym, ap, ◌∙◌}
use Rattle.pcc_steps.specs.Answering.{Answer}
use Rattle.pcc_steps.proofs.Lists.{get_there}
use Rattle.pcc_steps.proofs.BlockMoves.{replies_same, replies_other}
use Rattle.pcc_steps.proofs.answer.reply_block.Goals as goal
use Rattle.pcc_steps.proofs.answer.reply_block.Goals.{then-index, else-index}

pub loop-next-preserved : goal.loop-next-preserved
loop-next-preserved c = let x = c.answer.inside in let a : Answer = record {
  wiring = x.wiring;
  stage = x.stage;
  kept = x.kept;
  header = x.header;
  bad = x.bad;
  loaded = x.loaded.items;
  out = x.out.items;
  space = x.space.items;
  steps = x.steps;
} in let l = c.loop-next in let m = c.if-index in
    let new : c.index.result.now ≡ get_or a.out l.next 0 = c.index.ensures ∙ get_there a.out l.next _ 0 (search rules) in
    let old : c.index-in-loop-next.result.now ≡ get_or a.loaded l.next 0 = c.index-in-loop-next.ensures ∙ get_there a.loaded l.next _ 0 (search rules) in
    elim m.branch [
      | then-index w ↦ let stored = w.words-is ∙ ap (λ (v : ℕ). set l.words (8 + l.at) v) (w.index-then-index.ensures ∙ get_there a.out l.at _ 0 (search rules)) in
          replies_other c.args.from c.args.words.now l.words m.words a l.at m.at l.steps m.steps l.next c.answer.invariant l.invariant (search rules) (λ e. w.if-index.true (new ∙ e ∙ sym old)) stored (search rules) (search rules)
      | else-index w ↦ replies_same c.args.from c.args.words.now l.words m.words a l.at m.at l.steps m.steps l.next c.answer.invariant l.invariant (search rules) (sym new ∙ w.if-index.false ∙ old) (search rules) (search rules) (search rules)
    ]
