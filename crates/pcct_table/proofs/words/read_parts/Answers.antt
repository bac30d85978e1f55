use Rattle.std.proofs.Common.{arith, rules, map}
use Rattle.std.proofs.lemmas.Grind.{common_steps}
use Rattle.pcct_table.proofs.Adding.{adds_parts}
use Rattle.pcct_table.proofs.words.read_parts.Goals as goal

pub returns : goal.returns
returns c = adds_parts (map (λ x. x.now) c.args.parts.now) c.read_number-5.result c.args.out.now.items c.read_number.new.out.items c.read_number-2.new.out.items c.read_number-3.new.out.items c.read_number-4.new.out.items c.read_number-5.new.out.items (grind (arith, common_steps)) (grind (arith, common_steps)) (grind (arith, common_steps)) (grind (arith, common_steps)) (grind (arith, common_steps)) (search rules)
