use Rattle.std.proofs.Common.{rules, ◌<◌, ◌^◌, ℕ, refl}
use Rattle.std.specs.Prelude.{None, get_or}
use Rattle.channel_turns.proofs.AskRuns.{first_counts, first_steps, look_counts, look_long, look_steps, look_within}
use Rattle.channel_turns.proofs.runs.look_run.Goals as goal

pub returns-in-Some-clause-steps : goal.returns-in-Some-clause-steps
returns-in-Some-clause-steps c = first_steps c.args.ask.now c.ask_look.new.ask c.ask_feed.new.ask c.args.words.now (get_or c.args.words.now 0 0) _ c.ask_look.ensures c.requires.flies refl (search rules) c.in-Some.ensures.state c.in-Some.ensures.told

pub finish_ask-requires-clause-long : goal.finish_ask-requires-clause-long
finish_ask-requires-clause-long c = let v : ℕ = get_or c.args.words.now 0 0 in let small : v < 2 ^ 64 = search rules in
    look_long c.args.ask.now c.ask_feed.new.ask c.args.words.now None (first_steps c.args.ask.now c.ask_look.new.ask c.ask_feed.new.ask c.args.words.now v None c.ask_look.ensures c.requires.flies refl small c.in_default.ensures.state c.in_default.ensures.told) c.requires.long

pub finish_ask-requires-clause-within : goal.finish_ask-requires-clause-within
finish_ask-requires-clause-within c = let v : ℕ = get_or c.args.words.now 0 0 in let small : v < 2 ^ 64 = search rules in
    λ ok. look_within c.args.ask.now c.ask_look.new.ask c.ask_feed.new.ask c.args.words.now v c.block-most.result None c.ask_look.ensures c.requires.flies c.requires.left refl small c.in_default.ensures.state c.in_default.ensures.told refl (search rules) ok

pub returns-clause-steps : goal.returns-clause-steps
returns-clause-steps c = let v : ℕ = get_or c.args.words.now 0 0 in let small : v < 2 ^ 64 = search rules in
    look_steps c.args.ask.now c.ask_feed.new.ask c.finish_ask.new.ask c.args.words.now c.finish_ask.new.words c.finish_ask.result (first_steps c.args.ask.now c.ask_look.new.ask c.ask_feed.new.ask c.args.words.now v None c.ask_look.ensures c.requires.flies refl small c.in_default.ensures.state c.in_default.ensures.told) c.finish_ask.ensures.steps

pub returns-clause-count : goal.returns-clause-count
returns-clause-count c = let v : ℕ = get_or c.args.words.now 0 0 in let small : v < 2 ^ 64 = search rules in
    look_counts c.args.ask.now c.ask_feed.new.ask c.finish_ask.new.ask c.block-most.result c.finish_ask.result c.finish_ask.ensures.seen (first_counts c.args.ask.now c.ask_look.new.ask c.ask_feed.new.ask v c.ask_look.ensures c.in_default.ensures.state) (search rules)
    (first_steps c.args.ask.now c.ask_look.new.ask c.ask_feed.new.ask c.args.words.now v None c.ask_look.ensures c.requires.flies refl small c.in_default.ensures.state c.in_default.ensures.told).wiring c.finish_ask.ensures.count
