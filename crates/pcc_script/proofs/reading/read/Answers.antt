use Rattle.pcc_script.specs.Reading.{entry_statement}
use Rattle.pcc_script.proofs.Going.{going_fault, going_more}
use Rattle.pcc_script.proofs.reading.read.Goals as goal

pub returns-in-Err-Wrong : goal.returns-in-Err-Wrong
returns-in-Err-Wrong c =
    rw c.in-Err-Wrong.field-0-is
    (going_fault c.args.text.now c.loop-fields.rest.now c.in-Some.fields.now c.in-Some.behind.now c.loop-fields.line c.loop-fields.seen c.loop-fields.partial c.in-Err-Wrong.kind
    c.in-Some.ensures.parts (rw c.in-Err-Wrong.field-0-is at c.in-Err-Wrong.ensures.read) c.loop-fields.invariant)

pub loop-fields-preserved : goal.loop-fields-preserved
loop-fields-preserved c =
    rw (c.after-seen.ensures, c.word-word.ensures)
    (going_more c.args.text.now c.loop-fields.rest.now c.in-Some.fields.now c.in-Some.behind.now c.loop-fields.line c.loop-fields.seen c.loop-fields.partial c.put.new.self (entry_statement c.in-Ok.entry)
    c.in-Some.ensures.parts c.in-Ok.ensures.read c.in-Ok.ensures.placed c.in-Ok.ensures.few c.in_ok-put-in-Ok.ensures.lines c.in_ok-put-in-Ok.ensures.empty c.loop-fields.invariant)
