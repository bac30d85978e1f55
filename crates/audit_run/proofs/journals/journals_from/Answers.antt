use Rattle.std.proofs.Common.{◌+◌, ◌<◌, ◌^◌, length, arith}
use Rattle.std.proofs.lemmas.List.{take_rest}
use Rattle.std.proofs.lemmas.Result.{err_from_is_err_and}
use Rattle.pcc_bytes.specs.Fields.{lines_of}
use Rattle.journal_reading.specs.Told.{told_text}
use Rattle.audit_run.proofs.InTurn.{reading_fits, reading_lines, reading_more, reading_wrong}
use Rattle.audit_run.proofs.journals.journals_from.Goals as goal

pub told_from-requires : goal.told_from-requires
told_from-requires c =
    reading_lines c.args.first_line c.args.text.now c.loop.counter c.loop.journals c.loop.rest.now c.loop.line c.requires c.loop.invariant

pub overflow_add-line : goal.overflow_add-line
overflow_add-line c =
    let fits : c.loop.line + length (lines_of (told_text c.in_ok-told.told)) < 2 ^ 32 =
    reading_fits c.args.first_line c.args.text.now c.loop.counter c.loop.journals c.in_ok-told.told c.loop.rest.now c.in_ok-told.long c.loop.line c.requires c.in_ok-told.ensures.found c.loop.invariant in
    rw c.lines_of_journal-line.ensures (omega arith)

pub loop-preserved : goal.loop-preserved
loop-preserved c =
    rw (c.lines_of_journal-line.ensures, take_rest c.loop.rest.now c.in_ok-told.long)
    (reading_more c.args.first_line c.args.text.now c.loop.counter c.loop.journals c.push.new.self c.in_ok-told.told c.loop.rest.now c.in_ok-told.long c.loop.line c.in_ok-told.ensures.found c.in_ok-push.ensures.ok c.loop.invariant)

pub returns-in_err-told : goal.returns-in_err-told
returns-in_err-told c =
    let p = err_from_is_err_and c.from_residual.result c.from_residual.ensures.1 in
    rw (p.1, p.2)
    (reading_wrong c.args.first_line c.args.count c.args.text.now c.loop.counter c.loop.journals c.loop.rest.now c.loop.line c.in_err-told.field-0.0 c.loop-test.true c.in_err-told.ensures.fault c.loop.invariant)
