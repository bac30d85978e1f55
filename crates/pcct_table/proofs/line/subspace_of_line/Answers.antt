use Rattle.std.proofs.Common.{◌≡◌, arith}
use Rattle.std.specs.Prelude.{Some}
use Rattle.std.proofs.lemmas.Grind.{common_steps}
use Rattle.pcc_bytes.specs.Fields.{split_at}
use Rattle.pcct_table.specs.ShowReading.{read_line}
use Rattle.pcct_table.proofs.ShowLine.{line_size, line_told}
use Rattle.pcct_table.proofs.line.subspace_of_line.Goals as goal

pub subspace_from-requires-clause-size : goal.subspace_from-requires-clause-size
subspace_from-requires-clause-size c =
    let e : read_line c.args.place (split_at 32 c.args.line.now) ≡ Some c.deref-in-Some.result.now = grind (arith, common_steps) in
    line_size c.args.place c.args.line.now c.deref-in-Some.result.now e

pub subspace_from-requires-clause-told : goal.subspace_from-requires-clause-told
subspace_from-requires-clause-told c =
    let e : read_line c.args.place (split_at 32 c.args.line.now) ≡ Some c.deref-in-Some.result.now = grind (arith, common_steps) in
    line_told c.args.place c.args.line.now c.deref-in-Some.result.now e
