use Rattle.std.proofs.Common.{rules, ◌≡◌, ℕ, ◌+◌, get_or, set, sym, ap, ◌∙◌}
use Rattle.pcc_steps.specs.Asking.{Ask}
use Rattle.pcc_steps.proofs.Lists.{get_there}
use Rattle.pcc_steps.proofs.BlockMoves.{posts_same, posts_other}
use Rattle.pcc_steps.proofs.ask.post_block.Goals as goal
use Rattle.pcc_steps.proofs.ask.post_block.Goals.{then-index, else-index}

pub loop-next-preserved : goal.loop-next-preserved
loop-next-preserved c = let x = c.ask.inside in let a : Ask = record {
  wiring = x.wiring;
  stage = x.stage;
  kept = x.kept;
  code = x.code;
  error = x.error;
  sent = x.sent.items;
  shown = x.shown.items;
  loaded = x.loaded.items;
  input = x.input.items;
  space = x.space.items;
  in_flight = x.in_flight;
  looks = x.looks;
  budget = x.budget;
  posts = x.posts;
  steps = x.steps;
} in let l = c.loop-next in let m = c.if-index in
    let new : c.index.result.now ≡ get_or a.sent l.next 0 = c.index.ensures ∙ get_there a.sent l.next _ 0 (search rules) in
    let old : c.index-in-loop-next.result.now ≡ get_or a.shown l.next 0 = c.index-in-loop-next.ensures ∙ get_there a.shown l.next _ 0 (search rules) in
    elim m.branch [
      | then-index w ↦ let stored = w.words-is ∙ ap (λ (v : ℕ). set l.words (8 + l.at) v) (w.index-then-index.ensures ∙ get_there a.sent l.at _ 0 (search rules)) in
          posts_other c.args.from c.args.words.now l.words m.words a l.at m.at l.steps m.steps l.next c.ask.invariant l.invariant (search rules) (λ e. w.if-index.true (new ∙ e ∙ sym old)) stored (search rules) (search rules)
      | else-index w ↦ posts_same c.args.from c.args.words.now l.words m.words a l.at m.at l.steps m.steps l.next c.ask.invariant l.invariant (search rules) (sym new ∙ w.if-index.false ∙ old) (search rules) (search rules) (search rules)
    ]
