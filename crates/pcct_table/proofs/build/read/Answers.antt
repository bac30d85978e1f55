use Rattle.std.proofs.Common.{◌≡◌, arith}
use Rattle.std.specs.Prelude.{Some}
use Rattle.std.proofs.lemmas.Grind.{common_steps}
use Rattle.pcc_bytes.specs.Fields.{split_at}
use Rattle.pcct_table.specs.ShowReading.{read_header}
use Rattle.pcct_table.proofs.Built.{table_ok}
use Rattle.pcct_table.proofs.build.read.Goals as goal

pub returns-in-Ok : goal.returns-in-Ok
returns-in-Ok c =
    let e : read_header (split_at 32 c.in-Some.line.now) ≡ Some c.deref.result.now = grind (arith, common_steps) in
    table_ok c.args.text.now c.in-Some.line.now c.in-Some.rest.now c.deref.result.now c.in-Ok.subspaces c.table_with.result c.in-Some.ensures.parts e c.in-Ok.ensures c.table_with.ensures.fields c.table_with.ensures.subspaces
