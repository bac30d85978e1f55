use Rattle.pcc_text.proofs.Appending.{Appending}
use Rattle.pcc_script.specs.Text.{action_statement}
use Rattle.pcc_script.proofs.Written.{text_by}
use Rattle.pcc_script.proofs.writing.put_actions.Given as goal

abbrev pub invariant-loop-action : goal.invariant-loop-action
invariant-loop-action l = Appending (text_by action_statement) l.initial.out.items l.out.items l.actions l.action-index
