use Rattle.std.proofs.Common.{ap, ◌∙◌, arith}
use Rattle.pccrun_core.specs.declared.top.Finished.{Finished}
use Rattle.pccrun_core.proofs.OneAnswer.{refused_input_is}
use Rattle.pccrun_core.proofs.Tops.{answers_low, never}
use Rattle.pccrun_core.proofs.top.run.Goals as goal

pub returns-in-Ok-write_whole-clause-refused : goal.returns-in-Ok-write_whole-clause-refused
returns-in-Ok-write_whole-clause-refused g c = λ cause input calm quiet memory.
    ap (λ (f : Finished). f.status) c.ended-in-Ok-write_whole.ensures ∙ refused_input_is _ _ _ _ _ cause c.in-Ok.ensures.answer input

pub returns-in-Ok-write_whole-clause-read_fault : goal.returns-in-Ok-write_whole-clause-read_fault
returns-in-Ok-write_whole-clause-read_fault g c = λ e.
    absurd (never _ _ 4 (answers_low _ _ _ _ _ c.in-Ok.ensures.answer) (ap (λ (f : Finished). f.status) c.ended-in-Ok-write_whole.ensures) (omega arith) e)

pub returns-in-Ok-write_whole-clause-write_fault : goal.returns-in-Ok-write_whole-clause-write_fault
returns-in-Ok-write_whole-clause-write_fault g c = λ e.
    absurd (never _ _ 5 (answers_low _ _ _ _ _ c.in-Ok.ensures.answer) (ap (λ (f : Finished). f.status) c.ended-in-Ok-write_whole.ensures) (omega arith) e)

pub returns-in-Ok-write_whole-clause-memory : goal.returns-in-Ok-write_whole-clause-memory
returns-in-Ok-write_whole-clause-memory g c = λ e.
    absurd (never _ _ 6 (answers_low _ _ _ _ _ c.in-Ok.ensures.answer) (ap (λ (f : Finished). f.status) c.ended-in-Ok-write_whole.ensures) (omega arith) e)
