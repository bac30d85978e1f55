use Rattle.pcc_text.proofs.Appending.{Appending}
use Rattle.pcc_script.proofs.Written.{field_text}
use Rattle.pcc_script.proofs.writing.put_fields.Given as goal

abbrev pub invariant-loop-field : goal.invariant-loop-field
invariant-loop-field l = Appending field_text l.initial.out.items l.out.items l.fields l.field-index
