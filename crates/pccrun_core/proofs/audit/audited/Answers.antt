use Rattle.std.proofs.Common.{◌+◌, ◌<◌, ◌^◌, length, arith}
use Rattle.pcc_bytes.specs.Fields.{lines_of}
use Rattle.pccrun_core.proofs.Audits.{journals_refused, part_refused}
use Rattle.pccrun_core.proofs.Counting.{numbers_fit}
use Rattle.pccrun_core.proofs.audit.audited.Goals as goal

pub overflow_add-lines_in : goal.overflow_add-lines_in
overflow_add-lines_in c =
    let fits : c.lines_in.result + 1 + length (lines_of c.cut_journals.result.1.now) < 2 ^ 32 =
    numbers_fit c.args.input.now c.cut_journals.result.0.now c.cut_journals.result.1.now c.lines_in.result c.cut_journals.ensures.cut c.requires c.lines_in.ensures in
    omega (arith, fits)

pub returns-in-Ok : goal.returns-in-Ok
returns-in-Ok c = c.refused_journals.ensures c.args.input.now
    (journals_refused c.args.input.now c.cut_journals.result.0.now c.cut_journals.result.1.now c.in-Ok.served.scenario c.in-Ok.served.set_up.opened c.lines_in.result c.in-Err-audit.error
    c.cut_journals.ensures.cut c.in-Ok.ensures.script c.lines_in.ensures c.in-Err-audit.ensures)

pub returns : goal.returns
returns c = part_refused c.args.input.now c.cut_journals.result.0.now c.cut_journals.result.1.now c.in-Err.error c.cut_journals.ensures.cut c.in-Err.ensures.script
