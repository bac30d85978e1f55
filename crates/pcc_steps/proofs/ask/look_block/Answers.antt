use Rattle.std.proofs.Common.{rules, ◌≡◌, ℕ, ◌-◌, List, length, ◌∙◌}
use Rattle.std.specs.Vec.{with_items}
use Rattle.std.proofs.lemmas.List.{with_items_is}
use Rattle.pcc_steps.specs.Moves.{with_loaded}
use Rattle.pcc_steps.proofs.BlockMoves.{look_moved}
use Rattle.pcc_steps.proofs.ask.look_block.Goals as goal

-- the loaded words were lent out whole
pub returns : goal.returns
returns c = let v = c.ask.inside.loaded in let now : List ℕ = c.load_words.new.block in let last : ℕ = c.block-last.result - 1 in
    let long : length now ≡ v.len = search rules in
    let loads : now ≡ with_loaded (last - c.args.from) c.args.from c.args.words.now c.args.ask.now.loaded = search rules in
    look_moved c.args.from last c.rose_by-ask-inside.result c.args.words.now (with_items v now).items c.args.ask.now _ (λ p. search rules) (search rules) c.requires.stage (search rules) (with_items_is v now long ∙ loads) (search rules) (search rules)
