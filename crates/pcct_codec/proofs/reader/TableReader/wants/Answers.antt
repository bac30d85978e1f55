use Rattle.std.proofs.Common.{◌≡◌, ◌<◌, ◌≤◌, ◌-◌, ◌+◌, length, sym, ap, ◌∙◌, arith, Ok, Err}
use Rattle.std.proofs.lemmas.Grind.{common_steps}
use Rattle.pcct_codec.specs.Faults.{told_length}
use Rattle.pcct_codec.proofs.Cutting.{undecided_long, undecided_right}
use Rattle.pcct_codec.proofs.reader.TableReader.wants.Goals as goal

pub overflow_sub-result-in-Ok : goal.overflow_sub-result-in-Ok
overflow_sub-result-in-Ok c =
    let same : c.deref.result.now ≡ c.args.self.now = grind (arith, common_steps) in
    let long : 48 ≤ length c.args.self.now = grind (arith, common_steps) in
    let told : told_length c.args.self.now ≡ Ok c.in-Ok.len = ap told_length (sym same) ∙ sym c.told_length.ensures ∙ c.in-Ok.is in
    let lt : length c.args.self.now < c.in-Ok.len = undecided_long _ _ c.requires long told in
    grind (arith, common_steps)

pub unreachable-requires : goal.unreachable-requires
unreachable-requires c =
    let same : c.deref.result.now ≡ c.args.self.now = grind (arith, common_steps) in
    let long : 48 ≤ length c.args.self.now = grind (arith, common_steps) in
    let told : told_length c.args.self.now ≡ Err c.in-Err.field-0 = ap told_length (sym same) ∙ sym c.told_length.ensures ∙ c.in-Err.is in
    undecided_right _ _ c.requires long told

pub returns-clause-some : goal.returns-clause-some
returns-clause-some c =
    let same : c.deref.result.now ≡ c.args.self.now = grind (arith, common_steps) in
    let long : 48 ≤ length c.args.self.now = grind (arith, common_steps) in
    let told : told_length c.args.self.now ≡ Ok c.in-Ok.len = ap told_length (sym same) ∙ sym c.told_length.ensures ∙ c.in-Ok.is in
    let lt : length c.args.self.now < c.in-Ok.len = undecided_long _ _ c.requires long told in
    grind (arith, common_steps)

pub returns-clause-table : goal.returns-clause-table
returns-clause-table c = λ long.
    let same : c.deref.result.now ≡ c.args.self.now = grind (arith, common_steps) in
    let told : told_length c.args.self.now ≡ Ok c.in-Ok.len = ap told_length (sym same) ∙ sym c.told_length.ensures ∙ c.in-Ok.is in
    let lt : length c.args.self.now < c.in-Ok.len = undecided_long _ _ c.requires long told in
    let is : c.in-Ok.len ≡ c.in-Ok.len - c.len-taken.result + length c.args.self.now = grind (arith, common_steps) in
    told ∙ ap Ok is
